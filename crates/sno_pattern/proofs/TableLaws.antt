-- What appending a node keeps.
use Rattle.std.proofs.Common.{◌≡◌, ℕ, zero, suc, ◌+◌, ◌<◌, ◌≤◌, List, [], ◌∷◌, ◌++◌, length, get_or, refl, sym, ◌∙◌, ap, subst, arith, length-append, Some}
use Rattle.std.proofs.Common.{slice_get, Bool, true, false, ◌&&◌, ◌↔◌, IsTrue, ◌⊎◌, inl, inr, ⊎_elim}
use Rattle.std.proofs.Math.ListN.{get_or-append}
use Rattle.std.proofs.Math.Seq.{get_or-append_seam}
use Rattle.sno_pattern.specs.Pattern.{Pattern, Cut, Arbno, Cond, Imm, IsQuiet}
use Rattle.sno_pattern.specs.Table.{Node, LeafNode, FenceNode, CutNode, AbortNode, SucceedNode, ArbnoNode, AltNode, CatNode, CondNode, ImmNode, PlaceNode}
use Rattle.sno_pattern.specs.Table.{DeferNode, tree_over, trees_onto, tree, no_pattern}
use Rattle.sno_pattern.specs.inner.Table.{AllParts, PartsBelow}
use Rattle.sno_pattern.specs.Built.{Appends}
use Rattle.sno_pattern.specs.inner.Kinds.{node_of, nodes_of, flags_of, quiet_over, IsBegun, IsTable}
use Rattle.sno_pattern.specs.declared.kind.Kind.{Kind}
use Rattle.sno_pattern.specs.declared.kind.Entry.{Entry}

pub AllParts-append : (n : ℕ) (nodes : List Node) (node : Node) → AllParts n nodes → PartsBelow node (n + length nodes) → AllParts n (nodes ++ node ∷ [])
AllParts-append n [] node h p = (let e : n + 0 ≡ n = omega arith in rw e at p, tt)
AllParts-append n (x ∷ nodes) node h p =
    (h.0, AllParts-append (suc n) nodes node h.1 (let e : n + suc (length nodes) ≡ suc n + length nodes = omega arith in rw e at p))

pub length-nodes : (entries : List Entry) → length (nodes_of entries) ≡ length entries
length-nodes [] = refl
length-nodes (x ∷ entries) = ap suc (length-nodes entries)

length-flags : (entries : List Entry) → length (flags_of entries) ≡ length entries
length-flags [] = refl
length-flags (x ∷ entries) = ap suc (length-flags entries)

pub nodes_of-append : (xs : List Entry) (entry : Entry) → nodes_of (xs ++ entry ∷ []) ≡ nodes_of xs ++ node_of entry.kind ∷ []
nodes_of-append [] entry = refl
nodes_of-append (x ∷ xs) entry = ap (λ ns. node_of x.kind ∷ ns) (nodes_of-append xs entry)

flags_of-append : (xs : List Entry) (entry : Entry) → flags_of (xs ++ entry ∷ []) ≡ flags_of xs ++ entry.quiet ∷ []
flags_of-append [] entry = refl
flags_of-append (x ∷ xs) entry = ap (λ bs. x.quiet ∷ bs) (flags_of-append xs entry)

trees_onto-length : (before : List Pattern) (nodes : List Node) → length (trees_onto before nodes) ≡ length before + length nodes
trees_onto-length before [] = omega arith
trees_onto-length before (x ∷ nodes) =
    omega (arith, trees_onto-length (before ++ tree_over before x ∷ []) nodes, length-append before (tree_over before x ∷ []))

-- an old tree stays
trees_onto-old : (before : List Pattern) (nodes : List Node) (i : ℕ) → i < length before → get_or (trees_onto before nodes) i no_pattern
    ≡ get_or before i no_pattern
trees_onto-old before [] i h = refl
trees_onto-old before (x ∷ nodes) i h =
    trees_onto-old (before ++ tree_over before x ∷ []) nodes i (omega (arith, length-append before (tree_over before x ∷ [])))
    ∙ get_or-append before (tree_over before x ∷ []) no_pattern i h

trees_onto-append : (before : List Pattern) (xs ys : List Node) → trees_onto before (xs ++ ys) ≡ trees_onto (trees_onto before xs) ys
trees_onto-append before [] ys = refl
trees_onto-append before (x ∷ xs) ys = trees_onto-append (before ++ tree_over before x ∷ []) xs ys

-- a table that grows keeps its trees
pub tree-append : (nodes more : List Node) (id : ℕ) → id < length nodes → tree (nodes ++ more) id ≡ tree nodes id
tree-append nodes more id h =
    ap (λ ts. get_or ts id no_pattern) (trees_onto-append [] nodes more) ∙
    trees_onto-old (trees_onto [] nodes) more id (omega (arith, trees_onto-length [] nodes))

tree_over-same : (xs ys : List Pattern) (node : Node) (n : ℕ) → PartsBelow node n → ((i : ℕ) → i < n → get_or xs i no_pattern ≡ get_or ys i no_pattern)
    → tree_over xs node ≡ tree_over ys node
tree_over-same xs ys (LeafNode a) n h e = refl
tree_over-same xs ys FenceNode n h e = refl
tree_over-same xs ys AbortNode n h e = refl
tree_over-same xs ys SucceedNode n h e = refl
tree_over-same xs ys (CutNode p) n h e = ap Cut (e p h)
tree_over-same xs ys (ArbnoNode p) n h e = ap Arbno (e p h)
tree_over-same xs ys (AltNode p q) n h e = let a = e p h.0 in let b = e q h.1 in cc
tree_over-same xs ys (CatNode p q) n h e = let a = e p h.0 in let b = e q h.1 in cc
tree_over-same xs ys (CondNode p target) n h e = ap (λ t. Cond t target) (e p h)
tree_over-same xs ys (ImmNode p target) n h e = ap (λ t. Imm t target) (e p h)
tree_over-same xs ys (PlaceNode target) n h e = refl
tree_over-same xs ys (DeferNode primitive expression) n h e = refl

trees_onto-at : (before : List Pattern) (nodes : List Node) (n k : ℕ) (node : Node) → n ≡ length before → AllParts n nodes → slice_get nodes k ≡ Some node →
    get_or (trees_onto before nodes) (n + k) no_pattern ≡ tree_over (trees_onto before nodes) node
trees_onto-at before [] n k node e h at = absurd (cc)
trees_onto-at before (x ∷ nodes) n zero node e h at =
    let next = before ++ tree_over before x ∷ [] in
    let here : get_or (trees_onto next nodes) n no_pattern ≡ tree_over before x =
    trees_onto-old next nodes n (omega (arith, length-append before (tree_over before x ∷ [])))
    ∙ (let s : get_or (before ++ tree_over before x ∷ []) (length before) no_pattern ≡ tree_over before x = get_or-append_seam before
    (tree_over before x) [] no_pattern in rw e s) in
    let same : tree_over before x ≡ tree_over (trees_onto next nodes) x =
    tree_over-same before (trees_onto next nodes) x n h.0
    (λ i below. sym (trees_onto-old before (x ∷ nodes) i (omega arith))) in
    let is : x ≡ node = cc in
    let at_n : n + 0 ≡ n = omega arith in
    rw at_n (here ∙ same ∙ ap (tree_over (trees_onto next nodes)) is)
trees_onto-at before (x ∷ nodes) n (suc k) node e h at =
    let next = before ++ tree_over before x ∷ [] in
    let at_n : n + suc k ≡ suc n + k = omega arith in
    rw at_n (trees_onto-at next nodes (suc n) k node (omega (arith, length-append before (tree_over before x ∷ []))) h.1 at)

-- the tree of a number is the tree of its node
pub tree-at : (nodes : List Node) (id : ℕ) (node : Node) → AllParts 0 nodes → slice_get nodes id ≡ Some node
    → tree nodes id ≡ tree_over (trees_onto [] nodes) node
tree-at nodes id node h at = let e : 0 + id ≡ id = omega arith in rw e at (trees_onto-at [] nodes 0 id node refl h at)

pub AllParts-at : (n : ℕ) (nodes : List Node) (k : ℕ) (node : Node) → AllParts n nodes → slice_get nodes k ≡ Some node → PartsBelow node (n + k)
AllParts-at n [] k node h at = absurd (cc)
AllParts-at n (x ∷ nodes) zero node h at =
    let is : x ≡ node = cc in let e : n + 0 ≡ n = omega arith in rw e (subst (λ (y : Node). PartsBelow y n) is h.0)
AllParts-at n (x ∷ nodes) (suc k) node h at = let e : n + suc k ≡ suc n + k = omega arith in rw e (AllParts-at (suc n) nodes k node h.1 at)

-- the flags of the parts tell whether the tree is quiet
quiet-and : (a b : Bool) (P Q : Type 0) → (IsTrue a ↔ P) → (IsTrue b ↔ Q) → IsTrue (a && b) ↔ (P × Q)
quiet-and true true P Q f g = (λ e. (f.0 refl, g.0 refl), λ h. refl)
quiet-and true false P Q f g = (λ e. absurd (cc), λ h. absurd (let e = g.1 h.1 in cc))
quiet-and false b P Q f g = (λ e. absurd (cc), λ h. absurd (let e = f.1 h.0 in cc))

quiet_over-tree : (flags : List Bool) (trees : List Pattern) (node : Node) (n : ℕ) → PartsBelow node n →
    ((i : ℕ) → i < n → IsTrue (get_or flags i false) ↔ IsQuiet (get_or trees i no_pattern)) →
    IsTrue (quiet_over flags node) ↔ IsQuiet (tree_over trees node)
quiet_over-tree flags trees (LeafNode a) n h e = (λ t. tt, λ t. refl)
quiet_over-tree flags trees FenceNode n h e = (λ t. absurd (cc), λ t. absurd t)
quiet_over-tree flags trees AbortNode n h e = (λ t. absurd (cc), λ t. absurd t)
quiet_over-tree flags trees SucceedNode n h e = (λ t. absurd (cc), λ t. absurd t)
quiet_over-tree flags trees (CutNode p) n h e = e p h
quiet_over-tree flags trees (ArbnoNode p) n h e = e p h
quiet_over-tree flags trees (AltNode p q) n h e = quiet-and (get_or flags p false) (get_or flags q false) (IsQuiet (get_or trees p no_pattern))
    (IsQuiet (get_or trees q no_pattern)) (e p h.0) (e q h.1)
quiet_over-tree flags trees (CatNode p q) n h e = quiet-and (get_or flags p false) (get_or flags q false) (IsQuiet (get_or trees p no_pattern))
    (IsQuiet (get_or trees q no_pattern)) (e p h.0) (e q h.1)
quiet_over-tree flags trees (CondNode p target) n h e = e p h
quiet_over-tree flags trees (ImmNode p target) n h e = e p h
quiet_over-tree flags trees (PlaceNode target) n h e = (λ t. tt, λ t. refl)
quiet_over-tree flags trees (DeferNode primitive expression) n h e = (λ t. absurd (cc), λ t. absurd t)

-- the tree of the last node
pub tree-last : (nodes : List Node) (node : Node) → tree (nodes ++ node ∷ []) (length nodes) ≡ tree_over (trees_onto [] nodes) node
tree-last nodes node =
    let long : length (trees_onto [] nodes) ≡ length nodes = omega (arith, trees_onto-length [] nodes) in
    ap (λ ts. get_or ts (length nodes) no_pattern) (trees_onto-append [] nodes (node ∷ [])) ∙
    rw (← long) (get_or-append_seam (trees_onto [] nodes) (tree_over (trees_onto [] nodes) node) [] no_pattern)

quiet-last : (flags : List Bool) (quiet : Bool) (nodes : List Node) (node : Node) (id : ℕ) → length flags ≡ length nodes → length nodes ≡ id
    → AllParts 0 nodes → PartsBelow node id →
    ((i : ℕ) → i < id → IsTrue (get_or flags i false) ↔ IsQuiet (tree nodes i)) → quiet ≡ quiet_over flags node →
    IsTrue (get_or (flags ++ quiet ∷ []) id false) ↔ IsQuiet (tree (nodes ++ node ∷ []) id)
quiet-last flags quiet nodes node id same at h p q e =
    let seam : get_or (flags ++ quiet ∷ []) id false ≡ quiet = rw (← at, ← same) (get_or-append_seam flags quiet [] false) in
    let last : tree (nodes ++ node ∷ []) id ≡ tree_over (trees_onto [] nodes) node = rw (← at) (tree-last nodes node) in
    rw (seam, last, e) (quiet_over-tree flags (trees_onto [] nodes) node id p q)

quiet-old : (flags : List Bool) (quiet : Bool) (nodes : List Node) (node : Node) (id : ℕ) → length flags ≡ length nodes → id < length nodes →
    (IsTrue (get_or flags id false) ↔ IsQuiet (tree nodes id)) → IsTrue (get_or (flags ++ quiet ∷ []) id false) ↔ IsQuiet (tree (nodes ++ node ∷ []) id)
quiet-old flags quiet nodes node id same below q =
    let old : get_or (flags ++ quiet ∷ []) id false ≡ get_or flags id false = get_or-append flags (quiet ∷ []) false id (omega arith) in
    rw (old, tree-append nodes (node ∷ []) id below) q

old_or_last : (n i : ℕ) → i < n + 1 → (i < n) ⊎ (n ≡ i)
old_or_last zero zero h = inr refl
old_or_last zero (suc i) h = absurd (omega arith)
old_or_last (suc n) zero h = inl (omega arith)
old_or_last (suc n) (suc i) h = ⊎_elim (λ below. inl (omega arith)) (λ at. inr (ap suc at)) (old_or_last n i (omega arith))

quiet-appended : (xs : List Entry) (kind : Kind) (quiet : Bool) (number : ℕ) → IsTable xs → PartsBelow (node_of kind) (length xs)
    → quiet ≡ quiet_over (flags_of xs) (node_of kind) →
    (id : ℕ) → id < length (xs ++ record { kind = kind; quiet = quiet; number = number } ∷ []) →
    IsTrue (get_or (flags_of (xs ++ record { kind = kind; quiet = quiet; number = number } ∷ [])) id false) ↔ IsQuiet
    (tree (nodes_of (xs ++ record { kind = kind; quiet = quiet; number = number } ∷ [])) id)
quiet-appended xs kind quiet number h p q id below =
    let entry : Entry = record { kind = kind; quiet = quiet; number = number } in
    let same : length (flags_of xs) ≡ length (nodes_of xs) = omega (arith, length-flags xs, length-nodes xs) in
    rw (flags_of-append xs entry, nodes_of-append xs entry)
    (⊎_elim (λ old. quiet-old (flags_of xs) quiet (nodes_of xs) (node_of kind) id same (omega (arith, length-nodes xs)) (h.quiet id old))
    (λ at. quiet-last (flags_of xs) quiet (nodes_of xs) (node_of kind) id same (omega (arith, length-nodes xs)) h.parts (rw (← at) p)
    (λ i more. h.quiet i (omega arith)) q)
    (old_or_last (length xs) id (omega (arith, length-append xs (entry ∷ [])))))

-- the bytes that are kept with a choice stay its first
begun-appended : (xs : List Entry) (entry : Entry) → IsTable xs → IsBegun entry.kind (tree_over (trees_onto [] (nodes_of xs)) (node_of entry.kind)) →
    (id : ℕ) (other : Entry) → id < length (xs ++ entry ∷ []) → IsBegun (get_or (xs ++ entry ∷ []) id other).kind (tree (nodes_of (xs ++ entry ∷ [])) id)
begun-appended xs entry h begun id other below =
    rw (nodes_of-append xs entry)
    (⊎_elim
    (λ old.
    let at : get_or (xs ++ entry ∷ []) id other ≡ get_or xs id other = get_or-append xs (entry ∷ []) other id old in
    let stays = tree-append (nodes_of xs) (node_of entry.kind ∷ []) id (omega (arith, length-nodes xs, old)) in
    rw (at, stays) (h.begins id other old))
    (λ at.
    let here : get_or (xs ++ entry ∷ []) id other ≡ entry = rw (← at) (get_or-append_seam xs entry [] other) in
    let n : id ≡ length (nodes_of xs) = omega (arith, at, length-nodes xs) in
    let last : tree (nodes_of xs ++ node_of entry.kind ∷ []) id ≡ tree_over (trees_onto [] (nodes_of xs)) (node_of entry.kind) =
    rw n (tree-last (nodes_of xs) (node_of entry.kind)) in
    rw (here, last) begun)
    (old_or_last (length xs) id (omega (arith, length-append xs (entry ∷ []), below))))

pub appended : (xs ys : List Entry) (kind : Kind) (quiet : Bool) (number : ℕ) → IsTable xs → PartsBelow (node_of kind) (length xs) → suc (length xs) ≤ 4000000 →
    IsBegun kind (tree_over (trees_onto [] (nodes_of xs)) (node_of kind)) → quiet ≡ quiet_over (flags_of xs) (node_of kind)
    → ys ≡ xs ++ record { kind = kind; quiet = quiet; number = number } ∷ [] → IsTable ys
appended xs ys kind quiet number h p room begun q e = record {
  room = rw e (omega (arith, length-append xs (record { kind = kind; quiet = quiet; number = number } ∷ []), room));
  parts = rw (e, nodes_of-append) (AllParts-append 0 (nodes_of xs) (node_of kind) h.parts
      (let e' : 0 + length (nodes_of xs) ≡ length xs = omega (arith, length-nodes xs) in rw e' p));
  quiet = rw e (quiet-appended xs kind quiet number h p q);
  begins = rw e (begun-appended xs (record { kind = kind; quiet = quiet; number = number }) h begun);
}

-- what `append` says of the nodes and the trees
pub appends : (xs ys : List Entry) (entry : Entry) (n : ℕ) → n ≡ length xs → length xs < 4000000 → ys ≡ xs ++ entry ∷ [] →
    Appends (nodes_of xs) (nodes_of ys) (node_of entry.kind) (record { 0 = n })
appends xs ys entry n at room e =
    let grown : nodes_of ys ≡ nodes_of xs ++ node_of entry.kind ∷ [] = ap nodes_of e ∙ nodes_of-append xs entry in
    (omega (arith, length-nodes xs), grown, omega (arith, length-nodes xs), λ k below. rw grown (tree-append (nodes_of xs) (node_of entry.kind ∷ []) k below))

pub stands : (xs ys : List Entry) (entry : Entry) (n : ℕ) → n ≡ length xs → ys ≡ xs ++ entry ∷ [] → tree (nodes_of ys) n
    ≡ tree_over (trees_onto [] (nodes_of xs)) (node_of entry.kind)
stands xs ys entry n at e =
    let grown : nodes_of ys ≡ nodes_of xs ++ node_of entry.kind ∷ [] = ap nodes_of e ∙ nodes_of-append xs entry in
    let last : n ≡ length (nodes_of xs) = omega (arith, length-nodes xs) in
    rw (grown, last) (tree-last (nodes_of xs) (node_of entry.kind))
