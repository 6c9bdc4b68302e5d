use Rattle.std.proofs.Common.{◌≡◌, ◌<◌, ap, length, sym, ◌∙◌, arith}
use Rattle.std.specs.Cmp.Lexicographic.{same_text}
use Rattle.sno_pattern.specs.Pattern.{Text}
use Rattle.sno_pattern.specs.Table.{LeafNode}
use Rattle.sno_pattern.specs.inner.Kinds.{node_of}
use Rattle.sno_pattern.proofs.SameLaws.{stands_for}
use Rattle.sno_pattern.proofs.table.Patterns.is_text.Goals as goal

pub returns-in-Text : goal.returns-in-Text
returns-in-Text c = λ told.
    let fits : c.args.id.0 < length c.args.self.now = omega (arith, c.if-id-len.false, c.len.ensures) in
    let same : c.as_slice.result.now ≡ c.args.bytes.now = same_text c.as_slice.result.now c.args.bytes.now (sym (sym c.eq.ensures ∙ told)) in
    stands_for c.self.inside.entries.items c.args.self.now c.args.id c.index.result.now (Text c.args.bytes.now) c.self.view_is c.self.invariant fits
    (sym c.index.ensures) (ap node_of c.in-Text.is ∙ ap (λ bytes. LeafNode (Text bytes)) (sym c.as_slice.ensures ∙ same))
