use Rattle.std.proofs.Common.{◌≡◌, ◌-◌, length, slice_range, ap, ◌∙◌, arith, min, drop}
use Rattle.std.proofs.lemmas.List.{drop_min, length-drop, length-take}
use Rattle.sno_io.proofs.HeldBytes.{consumed}
use Rattle.sno_io.proofs.buffer.Buffer.consume.Goals as goal

pub returns : goal.returns
returns c =
    let b = c.args.self.now in
    let held = slice_range b.bytes.items b.start b.end in
    let size : b.end - b.start ≡ length held =
    omega (arith, b.bytes.ok.0, length-take (b.end - b.start) (drop b.start b.bytes.items), length-drop b.start b.bytes.items) in
    let count : c.min.result ≡ min c.args.count (length held) = c.min.ensures ∙ ap (min c.args.count) size in
    consumed b.bytes.items b.start b.end c.min.result (omega arith) ∙ (ap (λ n. drop n held) count ∙ drop_min c.args.count held)
