use Rattle.std.proofs.Common.{◌≡◌, ◌-◌, length, drop, take, arith}
use Rattle.std.proofs.lemmas.List.{length-drop, take_all}
use Rattle.sno_io.proofs.FirstLines.{found, line_length-le, not_found}
use Rattle.sno_io.proofs.lines.line_end.Goals as goal

pub slice_bounds-find_byte-count : goal.slice_bounds-find_byte-count
slice_bounds-find_byte-count c = omega (arith, c.requires, line_length-le c.args.bytes.now)

pub slice_bounds-find_byte-start : goal.slice_bounds-find_byte-start
slice_bounds-find_byte-start c = omega (arith, c.requires, line_length-le c.args.bytes.now)

pub returns-in-Some : goal.returns-in-Some
returns-in-Some c =
    let bytes = c.args.bytes.now in
    let behind = drop c.args.searched bytes in
    let whole : take (length bytes - c.args.searched) behind ≡ behind =
    take_all (length bytes - c.args.searched) behind (omega (arith, length-drop c.args.searched bytes)) in
    found bytes _ c.args.searched c.in-Some.before c.requires whole c.in-Some.ensures.0 c.in-Some.ensures.1

pub returns-in-None : goal.returns-in-None
returns-in-None c =
    let bytes = c.args.bytes.now in
    let behind = drop c.args.searched bytes in
    let whole : take (length bytes - c.args.searched) behind ≡ behind =
    take_all (length bytes - c.args.searched) behind (omega (arith, length-drop c.args.searched bytes)) in
    not_found bytes _ c.args.searched c.requires whole c.in-None.ensures
