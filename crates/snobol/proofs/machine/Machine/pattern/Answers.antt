use Rattle.std.proofs.Common.{◌∙◌, sym, ap, length, refl}
use Rattle.std.specs.Result.{result_err}
use Rattle.snobol.proofs.AskingLaws.{stop_told, read_fault_told, write_fault_told, going_told, answer_told, nodes_kept}
use Rattle.snobol.proofs.machine.Machine.pattern.Goals as goal

pub pattern_of-requires : goal.pattern_of-requires
pattern_of-requires g c =
    record { level = ap length (c.self.invariant c.in_default.is); ready = (rw (← c.self.view_is) at c.requires.ready) c.in_default.is }

pub invariant_of-self : goal.invariant_of-self
invariant_of-self g c = λ going.
    let closed = c.self.invariant c.in_default.is in
    let runs = c.pattern_of.ensures in
    going_told c.pattern_of.result _ runs.calls (sym (ap result_err c.answered-answer.ensures) ∙ (sym c.err-self-inside.ensures.value ∙ going)) ∙ closed

pub returns-clause-asks : goal.returns-clause-asks
returns-clause-asks g c =
    let runs = c.pattern_of.ensures in
    let told = sym c.answered-answer.ensures in
    let stopped = c.err-self-inside.ensures.value in
    rw (← c.self.view_is) (record {
      does = λ going. (
        c.pattern_of.result,
        c.answered-answer.ensures,
        stopped ∙ (ap result_err c.answered-answer.ensures ∙ stop_told c.pattern_of.result),
        refl,
        runs,
      );
      read_fault = λ going fault. read_fault_told c.pattern_of.result _ runs.cause (told ∙ fault);
      write_fault = λ going fault. write_fault_told c.pattern_of.result _ runs.cause (told ∙ fault);
      stopped = stopped;
      ready = λ going. going_told c.pattern_of.result _ runs.ready (ap result_err told ∙ (sym stopped ∙ going));
      nodes = nodes_kept _ _ runs.grows;
    })

pub returns-clause-pattern : goal.returns-clause-pattern
returns-clause-pattern g c =
    let runs = c.pattern_of.ensures in
    rw c.answered-answer.ensures (answer_told c.pattern_of.result _ runs.answer)
