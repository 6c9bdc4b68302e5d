use Rattle.std.proofs.Common.{◌≡◌, ◌+◌, ◌-◌, ◌≤◌, ◌++◌, [], length, slice_range, take, ap, sym, ◌∙◌, arith}
use Rattle.std.proofs.lemmas.List.{append-nil, length-drop}
use Rattle.std.proofs.lemmas.Result.{err_from_is_err_and}
use Rattle.sno_io.proofs.Bytes.{keeps_consumes}
use Rattle.sno_io.proofs.HeldBytes.{grown, kept, overwritten}
use Rattle.sno_io.proofs.buffer.Buffer.read_from.Goals as goal

pub returns-in_err-count-clause-given : goal.returns-in_err-count-clause-given
returns-in_err-count-clause-given g c =
    let b = c.make_room.new.self in
    let all = c.deref_mut.result.now in
    let buf = c.read.new.buf in
    let same : all ≡ b.bytes.items = c.deref_mut.ensures.value in
    let within : b.end ≤ length all = omega (arith, ap length same, b.bytes.ok.0) in
    let size : length buf ≡ length all - b.end = omega (arith, length-drop b.end all) in
    let p = err_from_is_err_and c.from_residual-in_err-count.result c.from_residual-in_err-count.ensures.1 in
    rw p.1 (
      [],
      keeps_consumes _ _ c.in_err-count.ensures.bytes,
      ap (λ xs. slice_range xs b.start b.end) (overwritten b.bytes all buf b.end same within size)
          ∙ kept all buf b.start b.end (length all - b.end) b.ordered within
          ∙ ap (λ xs. slice_range xs b.start b.end) same
          ∙ c.make_room.ensures.held
          ∙ sym (append-nil _),
      tt,
    )

pub returns-clause-given : goal.returns-clause-given
returns-clause-given g c =
    let b = c.make_room.new.self in
    let all = c.deref_mut.result.now in
    let buf = c.read.new.buf in
    let n = c.in_ok-count.count in
    let same : all ≡ b.bytes.items = c.deref_mut.ensures.value in
    let within : b.end ≤ length all = omega (arith, ap length same, b.bytes.ok.0) in
    let size : length buf ≡ length all - b.end = omega (arith, length-drop b.end all) in
    let bound = c.in_ok-count.ensures.bound in (
      take n buf,
      c.in_ok-count.ensures.bytes.0,
      ap (λ xs. slice_range xs b.start (b.end + n)) (overwritten b.bytes all buf b.end same within size)
          ∙ grown all buf b.start b.end (length all - b.end) n b.ordered within bound.0
          ∙ ap (λ zs. zs ++ take n buf) (ap (λ xs. slice_range xs b.start b.end) same ∙ c.make_room.ensures.held),
      bound.1,
    )
