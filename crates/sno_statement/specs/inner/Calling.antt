-- What functions owe whose parts may call functions of the program. These words are private to the interpreter.
use Rattle.std.specs.Prelude.{ℕ, length}
use Rattle.sno_runtime.specs.Runtime.{Runtime}
use Rattle.sno_statement.specs.Running.{Devices, CanRun}

-- The run can go on, and calls can be done where so many are open.
pub record CanRunIn (within : ℕ → Type 0) (s : Runtime) (d : Devices) : Type 0 where
  pub level : within (length s.store.calls)
  pub ready : CanRun s d
