use Rattle.std.proofs.Common.{[], refl, arith}
use Rattle.std.proofs.lemmas.Result.{err_from_is_err_and}
use Rattle.sno_value.specs.declared.value.Value.TheVariants as stored
use Rattle.sno_runtime.specs.Values.{Str, shown, IsValueOf}
use Rattle.sno_runtime.specs.Runtime.{itself}
use Rattle.sno_runtime.specs.inner.Runtime.{any}
use Rattle.sno_runtime.proofs.Outcomes.{then_err, fails_does, gives_does}
use Rattle.sno_runtime.proofs.Reading.{reads_nothing, ready_unread, then_reads}
use Rattle.sno_runtime.proofs.unary_operators.unary.Goals as goal

pub returns-in_err-target-in-Indirect : goal.returns-in_err-target-in-Indirect
returns-in_err-target-in-Indirect g c =
    let p = err_from_is_err_and c.from_residual.result c.from_residual.ensures.1 in
    rw (p.1, p.2, c.in-Indirect.is)
    (reads_nothing shown IsValueOf _ _ _ _ _ c.requires.ready (then_err itself any shown IsValueOf _ _ _ _ _ c.in_err-target-in-Indirect.ensures))

pub returns-in-Plus : goal.returns-in-Plus
returns-in-Plus g c = rw c.in-Plus.is (reads_nothing shown IsValueOf _ _ _ _ _ c.requires.ready (c.plus.ensures c.args.runtime.now))

pub returns-in-Minus : goal.returns-in-Minus
returns-in-Minus g c = rw c.in-Minus.is (reads_nothing shown IsValueOf _ _ _ _ _ c.requires.ready (c.minus.ensures c.args.runtime.now))

pub returns-in_ok-target-in-Indirect : goal.returns-in_ok-target-in-Indirect
returns-in_ok-target-in-Indirect g c =
    rw c.in-Indirect.is (then_reads itself any shown IsValueOf _ _ _ _ _ _ _ _ _ _
    (reads_nothing itself any _ _ _ _ _ c.requires.ready c.in_ok-target-in-Indirect.ensures) c.read.ensures)

pub read-requires : goal.read-requires
read-requires g c = ready_unread _ _ _ c.in_ok-target-in-Indirect.ensures.unread c.requires.ready

pub returns-in-NameOf : goal.returns-in-NameOf
returns-in-NameOf g c = rw c.in-NameOf.is (reads_nothing shown IsValueOf _ _ _ _ _ c.requires.ready c.name_of.ensures)

pub returns-in-Cursor : goal.returns-in-Cursor
returns-in-Cursor g c = rw c.in-Cursor.is (reads_nothing shown IsValueOf _ _ _ _ _ c.requires.ready c.cursor_pattern.ensures)

pub returns-in-Query : goal.returns-in-Query
returns-in-Query g c =
    let given = gives_does shown IsValueOf c.args.runtime.now (stored.Str []) (Str []) refl (omega arith) in
    rw (c.in-Query.is, c.null.ensures) (reads_nothing shown IsValueOf _ _ _ _ _ c.requires.ready given)

pub returns-in-Not : goal.returns-in-Not
returns-in-Not g c = rw c.in-Not.is (reads_nothing shown IsValueOf _ _ _ _ _ c.requires.ready (fails_does shown IsValueOf c.args.runtime.now))

pub returns-in-Defer : goal.returns-in-Defer
returns-in-Defer g c = rw c.in-Defer.is (reads_nothing shown IsValueOf _ _ _ _ _ c.requires.ready (fails_does shown IsValueOf c.args.runtime.now))
