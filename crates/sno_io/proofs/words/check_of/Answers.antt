use Rattle.std.proofs.Common.{codes, refl}
use Rattle.clap.specs.Words.{found_of}
use Rattle.sno_io.proofs.Numbers.{text_found, text_missing}
use Rattle.sno_io.proofs.words.check_of.Goals as goal

pub returns-in_err-file-clause-none : goal.returns-in_err-file-clause-none
returns-in_err-file-clause-none c =
    let missing = text_missing (λ s. s.now) (found_of c.args.found.now) (codes "FILE") c.get_str.result c.get_str.ensures c.in_err-file.was in
    rw c.from_residual.ensures (λ file h. let is = h.file_is in absurd (cc))

pub returns-clause-some : goal.returns-clause-some
returns-clause-some c = (
  refl,
  record {
    file_is = text_found (λ s. s.now) (found_of c.args.found.now) (codes "FILE") c.get_str.result c.in_ok-file.file
        c.get_str.ensures c.in_ok-file.was;
  },
)
