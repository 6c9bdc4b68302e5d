-- A shape tells the tree.
use Rattle.std.proofs.Common.{◌≡◌, ℕ, zero, suc, ◌+◌, ◌<◌, ◌≤◌, List, [], ◌∷◌, length, get_or, refl, sym, ◌∙◌, ap, ◌-◌, arith, Option, Some, None, IfSome}
use Rattle.std.proofs.Common.{slice_get, ◌≢◌, ◌==◌, ◌&&◌, nat_eq, nat_le, not, Bool, true, false, if◌then◌else◌, drop}
use Rattle.std.specs.List.{starts_with}
use Rattle.sno_value.specs.declared.kind.PrimitiveKind.{PrimitiveKind}
use Rattle.sno_value.specs.declared.kind.PrimitiveKind.TheVariants.{Len, Pos, Rpos, Tab, Rtab, Any, NotAny, Span, Break, BreakX}
use Rattle.sno_pattern.specs.Pattern.{Pattern, Arb, Leaf, Text}
use Rattle.sno_pattern.specs.Ends.{is_in, count_from, end_if, end_after, run_length, first_in, ends, count_ends, set_ends}
use Rattle.sno_pattern.specs.Table.{Node, LeafNode, FenceNode, CutNode, AbortNode, SucceedNode, ArbnoNode, AltNode, CatNode, CondNode, ImmNode, PlaceNode}
use Rattle.sno_pattern.specs.Table.{DeferNode, tree_over, trees_onto, tree}
use Rattle.sno_pattern.specs.inner.Table.{PartsBelow}
use Rattle.sno_pattern.specs.inner.Kinds.{node_of, nodes_of, IsTable}
use Rattle.sno_pattern.specs.Shape.{HasShape, end_of}
use Rattle.sno_pattern.specs.inner.Shape.{shape_of, end_of_node}
use Rattle.sno_pattern.specs.declared.kind.Kind.{Kind}
use Rattle.sno_pattern.specs.declared.kind.Kind.TheVariants as K
use Rattle.sno_pattern.specs.declared.kind.Entry.{Entry}
use Rattle.sno_pattern.proofs.EndsRange.{Within, ends-rise, Rises-at}
use Rattle.sno_pattern.proofs.TableLaws.{tree-at, AllParts-at}

pub HasShape-node : (nodes : List Node) (id : ℕ) (node : Node) → PartsBelow node id → tree nodes id ≡ tree_over (trees_onto [] nodes) node
    → HasShape nodes id (shape_of node)
HasShape-node nodes id (LeafNode a) h e = (a, e)
HasShape-node nodes id FenceNode h e = e
HasShape-node nodes id AbortNode h e = e
HasShape-node nodes id SucceedNode h e = e
HasShape-node nodes id (CutNode p) h e = (h, e)
HasShape-node nodes id (ArbnoNode p) h e = (h, e)
HasShape-node nodes id (AltNode p q) h e = (h.0, h.1, e)
HasShape-node nodes id (CatNode p q) h e = (h.0, h.1, e)
HasShape-node nodes id (CondNode p target) h e = (h, e)
HasShape-node nodes id (ImmNode p target) h e = (h, e)
HasShape-node nodes id (PlaceNode target) h e = e
HasShape-node nodes id (DeferNode None expression) h e = e
HasShape-node nodes id (DeferNode (Some primitive) expression) h e = e

end_of-tree : (ts : List Pattern) (node : Node) (s : List ℕ) (c i : ℕ) → end_of_node node s c i ≡ end_of (tree_over ts node) s c i
end_of-tree ts (LeafNode a) s c i = refl
end_of-tree ts FenceNode s c i = refl
end_of-tree ts AbortNode s c i = refl
end_of-tree ts SucceedNode s c i = refl
end_of-tree ts (CutNode p) s c i = refl
end_of-tree ts (ArbnoNode p) s c i = refl
end_of-tree ts (AltNode p q) s c i = refl
end_of-tree ts (CatNode p q) s c i = refl
end_of-tree ts (CondNode p target) s c i = refl
end_of-tree ts (ImmNode p target) s c i = refl
end_of-tree ts (PlaceNode target) s c i = refl
end_of-tree ts (DeferNode primitive expression) s c i = refl

pub node-at : (entries : List Entry) (id : ℕ) (entry : Entry) → id < length entries → get_or entries id entry ≡ entry → slice_get (nodes_of entries) id
    ≡ Some (node_of entry.kind)
node-at [] id entry h e = absurd (omega arith)
node-at (x ∷ entries) zero entry h e = ap (λ (k : Entry). Some (node_of k.kind)) e
node-at (x ∷ entries) (suc id) entry h e = node-at entries id entry (omega arith) e

pub has_shape : (entries : List Entry) (id : ℕ) (entry : Entry) → IsTable entries → id < length entries → get_or entries id entry ≡ entry
    → HasShape (nodes_of entries) id (shape_of (node_of entry.kind))
has_shape entries id entry t h e =
    let at = node-at entries id entry h e in
    let z : 0 + id ≡ id = omega arith in
    HasShape-node (nodes_of entries) id (node_of entry.kind) (rw z at (AllParts-at 0 (nodes_of entries) id (node_of entry.kind) t.parts at))
    (tree-at (nodes_of entries) id (node_of entry.kind) t.parts at)

pub end_of-kind : (entries : List Entry) (id : ℕ) (entry : Entry) (s : List ℕ) (c i : ℕ) → IsTable entries → id < length entries → get_or entries id entry
    ≡ entry → end_of_node (node_of entry.kind) s c i ≡ end_of (tree (nodes_of entries) id) s c i
end_of-kind entries id entry s c i t h e =
    let at = node-at entries id entry h e in
    rw (tree-at (nodes_of entries) id (node_of entry.kind) t.parts at) (end_of-tree (trees_onto [] (nodes_of entries)) (node_of entry.kind) s c i)

pub slice_get-count_from : (c n i : ℕ) → i < n → slice_get (count_from c n) i ≡ Some (c + i)
slice_get-count_from c zero i h = absurd (omega arith)
slice_get-count_from c (suc n) zero h = ap Some (omega arith)
slice_get-count_from c (suc n) (suc i) h = let e : c + 1 + i ≡ c + suc i = omega arith in slice_get-count_from (c + 1) n i (omega arith) ∙ ap Some e

pub slice_get-count_from_none : (c n i : ℕ) → n ≤ i → slice_get (count_from c n) i ≡ None
slice_get-count_from_none c zero i h = refl
slice_get-count_from_none c (suc n) zero h = absurd (omega arith)
slice_get-count_from_none c (suc n) (suc i) h = slice_get-count_from_none (c + 1) n i (omega arith)

pub arb_end : (s : List ℕ) (c i : ℕ) → c ≤ length s → i ≤ length s - c → Some (c + i) ≡ slice_get (ends Arb s c) i
arb_end s c i h k = sym (slice_get-count_from c (length s + 1 - c) i (omega arith))

pub arb_no_end : (s : List ℕ) (c i : ℕ) → c ≤ length s → length s - c < i → None ≡ slice_get (ends Arb s c) i
arb_no_end s c i h k = sym (slice_get-count_from_none c (length s + 1 - c) i (omega arith))

end_if-one : (b : Bool) (e i : ℕ) → i ≢ 0 → None ≡ slice_get (end_if b e) i
end_if-one true e zero h = absurd (h refl)
end_if-one true e (suc i) h = refl
end_if-one false e i h = refl

end_after-one : (p : ℕ → Bool) (byte : Option ℕ) (c i : ℕ) → i ≢ 0 → None ≡ slice_get (end_after p byte c) i
end_after-one p None c i h = refl
end_after-one p (Some byte) c i h = end_if-one (p byte) (c + 1) i h

first_in-one : (set : List ℕ) (c : ℕ) (bytes : List ℕ) (i : ℕ) → i ≢ 0 → None ≡ slice_get (first_in set c bytes) i
first_in-one set c [] i h = refl
first_in-one set c (byte ∷ bytes) i h = go (is_in set byte) (first_in-one set (c + 1) bytes i h)
  where
    go : (b : Bool) → None ≡ slice_get (first_in set (c + 1) bytes) i → None ≡ slice_get (if b then c ∷ [] else first_in set (c + 1) bytes) i
    go true e = end_if-one true c i h
    go false e = e

pub one_text_end : (bytes s : List ℕ) (c : ℕ) → slice_get (ends (Text bytes) s c) 1 ≡ None
one_text_end bytes s c = sym (end_if-one (starts_with nat_eq (drop c s) bytes) (c + length bytes) 1 (λ e. omega arith))

pub one_any_end : (set s : List ℕ) (c : ℕ) → slice_get (set_ends Any set s c) 1 ≡ None
one_any_end set s c = sym (end_after-one (is_in set) (slice_get s c) c 1 (λ e. omega arith))

pub one_not_any_end : (set s : List ℕ) (c : ℕ) → slice_get (set_ends NotAny set s c) 1 ≡ None
one_not_any_end set s c = sym (end_after-one (λ byte. not (is_in set byte)) (slice_get s c) c 1 (λ e. omega arith))

pub one_count_end : (prim : PrimitiveKind) (n : ℕ) (s : List ℕ) (c i : ℕ) → i ≢ 0 → None ≡ slice_get (count_ends prim n s c) i
one_count_end Len n s c i h = end_if-one (nat_le (c + n) (length s)) (c + n) i h
one_count_end Pos n s c i h = end_if-one (c == n) c i h
one_count_end Rpos n s c i h = end_if-one (c + n == length s) c i h
one_count_end Tab n s c i h = end_if-one (nat_le c n && nat_le n (length s)) n i h
one_count_end Rtab n s c i h = end_if-one (nat_le (c + n) (length s)) (length s - n) i h
one_count_end prim n s c i h = refl

-- one that takes a set has one end at most, but for BREAKX
pub one_set_end : (prim : PrimitiveKind) (set s : List ℕ) (c i : ℕ) → prim ≢ BreakX → i ≢ 0 → None ≡ slice_get (set_ends prim set s c) i
one_set_end Any set s c i x h = end_after-one (is_in set) (slice_get s c) c i h
one_set_end NotAny set s c i x h = end_after-one (λ byte. not (is_in set byte)) (slice_get s c) c i h
one_set_end Span set s c i x h = end_if-one (not (run_length set (drop c s) == 0)) (c + run_length set (drop c s)) i h
one_set_end Break set s c i x h = first_in-one set c (drop c s) i h
one_set_end BreakX set s c i x h = absurd (x refl)
one_set_end prim set s c i x h = refl

-- a primitive without a set has one end at most, but for ARB and BAL
pub one_end : (kind : Kind) (s : List ℕ) (c i : ℕ) → kind ≢ K.Arb → kind ≢ K.Bal → ((prim : PrimitiveKind) (set : List ℕ) → kind ≢ K.Among prim set)
    → i ≢ 0 → None ≡ end_of_node (node_of kind) s c i
one_end (K.Text bytes) s c i a b x h = end_if-one (starts_with nat_eq (drop c s) bytes) (c + length bytes) i h
one_end (K.Counted prim n) s c i a b x h = one_count_end prim n s c i h
one_end (K.Among prim set) s c i a b x h = absurd (x prim set refl)
one_end K.Arb s c i a b x h = absurd (a refl)
one_end K.Bal s c i a b x h = absurd (b refl)
one_end K.Rem s c i a b x h = end_if-one true (length s) i h
one_end K.Fail s c i a b x h = refl
one_end kind s c i a b x h = refl

-- an end is at or behind the cursor and within the subject, and there are no more ends than places
pub end_of-range : (pattern : Pattern) (s : List ℕ) (c i : ℕ) (r : Option ℕ) → c ≤ length s → r ≡ end_of pattern s c i → IfSome r (Within (c + i) (length s))
end_of-range pattern s c i None h e = tt
end_of-range (Leaf a) s c i (Some x) h e = Rises-at c (length s) (ends a s c) i x (sym e) (ends-rise a s c h)
end_of-range pattern s c i (Some x) h e = absurd (cc)

pub IfSome-to : (P Q : ℕ → Type 0) (r : Option ℕ) → ((x : ℕ) → P x → Q x) → IfSome r P → IfSome r Q
IfSome-to P Q None h p = tt
IfSome-to P Q (Some x) h p = h x p
