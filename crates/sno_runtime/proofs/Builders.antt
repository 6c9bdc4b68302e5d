-- What a builder does.
use Rattle.std.proofs.Common.{◌≡◌, ℕ, ◌+◌, ◌<◌, nat_lt, Bool, true, Option, None, Some, subst, List, [], ◌∷◌, ◌++◌, length, map, get_or, refl, ◌∙◌, ap, length-append, arith, Ok}
use Rattle.std.proofs.Math.Seq.{get_or-append_seam}
use Rattle.std.proofs.lemmas.Bool.{lt-ltb}
use Rattle.sno_value.specs.declared.ids.PatId.{PatId}
use Rattle.sno_pattern.specs.Pattern.{Pattern}
use Rattle.sno_pattern.specs.Table.{Node, tree, tree_over, trees_onto, no_pattern}
use Rattle.sno_pattern.proofs.TableLaws.{tree-append}
use Rattle.sno_pattern.specs.Built.{Appends}
use Rattle.sno_runtime.specs.Operators.{makes}
use Rattle.sno_runtime.specs.Values.{shown, shown_objects}
use Rattle.sno_runtime.specs.Runtime.{Runtime, Grows, made_nodes, tree_of, IsPatternOf, IsKnown}
use Rattle.sno_runtime.specs.inner.Runtime.{untouched, Does, TellsAgain}
use Rattle.sno_runtime.proofs.Outcomes.{all_shown_stay, shown_objects_stay}

-- a pattern stays what it is
pub tree_stays : (old new : List Node) (id : ℕ) → Grows old new → id < length old → tree new id ≡ tree old id
tree_stays old new id g h = ap (λ nodes. tree nodes id) g.1 ∙ tree-append old g.0 id h

pub number_stays : (old new : List Node) (id : ℕ) → Grows old new → id < length old → id < length new
number_stays old new id g h = rw g.1 (omega (arith, length-append old g.0))

last_tree : (before : List Pattern) (nodes : List Node) (node : Node) → get_or (trees_onto before (nodes ++ node ∷ [])) (length before + length nodes)
    no_pattern ≡ tree_over (trees_onto before nodes) node
last_tree before [] node =
    let e : length before + 0 ≡ length before = omega arith in
    rw e (get_or-append_seam before (tree_over before node) [] no_pattern)
last_tree before (x ∷ nodes) node =
    let next = before ++ tree_over before x ∷ [] in
    let e : length before + length (x ∷ nodes) ≡ length next + length nodes = omega (arith, length-append before (tree_over before x ∷ [])) in
    rw e (last_tree next nodes node)

pub made : (node : Node) (a b : Runtime) (id : PatId) → IsKnown a.nodes a.store → made_nodes a < 4000000 → b ≡ record a { nodes = b.nodes }
    → Appends a.nodes b.nodes node id → Does tree_of IsPatternOf (makes (tree_over (trees_onto [] a.nodes) node)) a b (Ok id)
made node a b id known fits only h =
    let room : nat_lt (length a.nodes + a.counted) 4_000_000 ≡ true = lt-ltb (length a.nodes + a.counted) 4_000_000 fits in
    let counted : b.counted ≡ a.counted = ap (λ (c : Runtime). c.counted) only in
    let longer : length b.nodes ≡ length a.nodes + 1 = ap length h.1 ∙ length-append a.nodes (node ∷ []) in
    let count : length b.nodes + b.counted ≡ length a.nodes + a.counted + 1 = omega (arith, counted, longer) in
    let from_none : 0 + length a.nodes ≡ length a.nodes = omega arith in
    let last : tree (a.nodes ++ node ∷ []) (length a.nodes) ≡ tree_over (trees_onto [] a.nodes) node = rw from_none at (last_tree [] a.nodes node) in
    let same : tree b.nodes id.0 ≡ tree_over (trees_onto [] a.nodes) node = ap (λ ns. tree ns id.0) h.1 ∙ ap (λ n. tree (a.nodes ++ node ∷ []) n) h.0 ∙ last in
    let values : map (shown b.nodes) b.store.values ≡ map (shown a.nodes) a.store.values =
    ap (λ (c : Runtime). map (shown b.nodes) c.store.values) only ∙ all_shown_stay a.nodes b.nodes a.store.values (node ∷ [], h.1) known.values
    in
    let objects : shown_objects b.nodes b.store.objects ≡ shown_objects a.nodes a.store.objects =
    ap (λ (c : Runtime). shown_objects b.nodes c.store.objects) only ∙ shown_objects_stay a.nodes b.nodes a.store.objects (node ∷ [], h.1) known.objects
    in
    let symbols : b.store.symbols ≡ a.store.symbols = ap (λ (c : Runtime). c.store.symbols) only in
    let types : b.store.types ≡ a.store.types = ap (λ (c : Runtime). c.store.types) only in
    let functions : b.store.functions ≡ a.store.functions = ap (λ (c : Runtime). c.store.functions) only in
    let calls : b.store.calls ≡ a.store.calls = ap (λ (c : Runtime). c.store.calls) only in
    let held : b.reading.held ≡ a.reading.held = ap (λ (c : Runtime). c.reading.held) only in
    let keywords : b.keywords ≡ a.keywords = ap (λ (c : Runtime). c.keywords) only in
    record {
      grows = (node ∷ [], h.1);
      meets = λ more. rw (room, count, same, values, objects, symbols, types, functions, calls, held, keywords) refl;
      answer = omega arith;
      unread = ap untouched only;
    }

-- where no node is taken again, nothing has changed, and there is room
pub none_again : (same : Bool) (last : PatId) (a b : Runtime) (o : Option PatId) → TellsAgain same last a b (Ok o) → ((id : PatId) → o ≡ Some id → ⊥)
    → (made_nodes a < 4000000) × (b ≡ a)
none_again same last a b None told isnt = told
none_again same last a b (Some id) told isnt = absurd (isnt id refl)

-- a node is made in a state that is the one before
pub made_behind : (node : Node) (a v b : Runtime) (nodes : List Node) (id told : PatId) → IsKnown v.nodes v.store → made_nodes a < 4000000 → v ≡ a
    → b ≡ record v { nodes = nodes } → told ≡ id → Appends v.nodes nodes node id
    → Does tree_of IsPatternOf (makes (tree_over (trees_onto [] a.nodes) node)) a b (Ok told)
made_behind node a v b nodes id told known fits is only same h =
    subst (λ (x : Runtime). made_nodes x < 4000000 → Does tree_of IsPatternOf (makes (tree_over (trees_onto [] x.nodes) node)) x b (Ok told)) is
    (λ room. rw (only, same) (made node v (record v { nodes = nodes }) id known room refl h)) fits
