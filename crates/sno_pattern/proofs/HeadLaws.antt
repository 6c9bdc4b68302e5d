-- What a look at a node tells of its tree.
use Rattle.std.proofs.Common.{◌≡◌, ℕ, ◌+◌, ◌<◌, ◌≤◌, List, [], length, get_or, slice_get, Option, Some, sym, ◌∙◌, ap, subst}
use Rattle.sno_pattern.specs.Pattern.{Arb}
use Rattle.sno_pattern.specs.Ends.{ends}
use Rattle.sno_pattern.specs.Table.{tree_over, trees_onto, tree}
use Rattle.sno_pattern.specs.inner.Kinds.{node_of, nodes_of, IsTable}
use Rattle.sno_pattern.specs.Shape.{HasShape, HasHead, GoesOnAs, end_of}
use Rattle.sno_pattern.specs.inner.Shape.{end_of_node, IsHead}
use Rattle.sno_pattern.specs.declared.head.Head.{Head}
use Rattle.sno_pattern.specs.declared.head.Head.TheVariants as H
use Rattle.sno_pattern.specs.declared.kind.Kind.TheVariants as K
use Rattle.sno_pattern.specs.declared.kind.Entry.{Entry}
use Rattle.sno_pattern.proofs.ShapeLaws.{node-at, has_shape, end_of-kind}
use Rattle.sno_pattern.proofs.TableLaws.{tree-at}

module _ (entries : List Entry) (id : ℕ) (entry : Entry) (t : IsTable entries) (h : id < length entries) (e : get_or entries id entry ≡ entry) where
  tree_is : tree (nodes_of entries) id ≡ tree_over (trees_onto [] (nodes_of entries)) (node_of entry.kind)
  tree_is = tree-at (nodes_of entries) id (node_of entry.kind) t.parts (node-at entries id entry h e)

  pub has_head : (s : List ℕ) (c : ℕ) (head : Head) → IsHead (node_of entry.kind) s c head → HasHead (nodes_of entries) id s c head
  has_head s c (H.Ends first next) is = (
    (is.0, tree_is ∙ ap (tree_over (trees_onto [] (nodes_of entries))) is.1),
    sym (end_of-kind entries id entry s c 0 t h e) ∙ is.2,
    sym (end_of-kind entries id entry s c 1 t h e) ∙ is.3,
  )
  has_head s c (H.Other shape) is = subst (HasShape (nodes_of entries) id) is (has_shape entries id entry t h e)

  pub goes_on : (s : List ℕ) (last : ℕ) (next : Option ℕ) → entry.kind ≡ K.Arb →
      ((c i : ℕ) → c ≤ length s → slice_get (ends Arb s c) i ≡ Some last → slice_get (ends Arb s c) (i + 1) ≡ next) →
      GoesOnAs (nodes_of entries) id s last (H.Ends (Some last) next)
  goes_on s last next is law =
      let same : (c j : ℕ) → slice_get (ends Arb s c) j ≡ end_of (tree (nodes_of entries) id) s c j =
      λ c j. ap (λ k. end_of_node (node_of k) s c j) (sym is) ∙ end_of-kind entries id entry s c j t h e in (
        (Arb, tree_is ∙ ap (λ k. tree_over (trees_onto [] (nodes_of entries)) (node_of k)) is),
        λ c i inside at. sym (same c (i + 1)) ∙ law c i inside (same c i ∙ at),
      )
