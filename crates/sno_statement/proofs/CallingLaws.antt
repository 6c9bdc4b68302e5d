-- What is common to the functions whose parts may call functions of the program.
use Rattle.std.proofs.Common.{◌≡◌, ℕ, ap, length, subst, sym}
use Rattle.sno_runtime.specs.Runtime.{Runtime}
use Rattle.sno_statement.specs.Running.{Devices, CanRun}
use Rattle.sno_statement.specs.inner.Calling.{CanRunIn}
pub use Rattle.sno_statement.specs.inner.Operands.{Leads}

-- the run can go on where no other calls are open
pub still_in : (within : ℕ → Type 0) (a b : Runtime) (d e : Devices) → CanRunIn within a d → b.store.calls ≡ a.store.calls → CanRun b e → CanRunIn within b e
still_in within a b d e can same ready = record { level = subst within (sym (ap length same)) can.level; ready = ready }
