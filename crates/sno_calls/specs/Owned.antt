-- What the address of a value in memory owns. Contracts of functions that hold one cite it.
use Rattle.std.specs.Prelude.{Option, Some, None}
use denote.RattleType.{RattleType}
use denote.RawPtr.{Ptr}
use base.Fml.{Fml, ftrue}
use Rattle.std.specs.Global.{Global}
use Rattle.std.specs.contracts.impls.GlobalAllocator.TheImpl.{ghosts}
use Rattle.std_alloc.specs.Box.Ownership.{box_owns}

-- the allocator that every value comes from, of which there is one
abbrev pub heap : Global
heap = record { memory = record { seal = tt } }

abbrev pub owned_at : (R : RattleType) → Ptr → Option R.Denot → Fml
owned_at R p None = ftrue
owned_at R p (Some x) = box_owns (ghosts.dealloc_token heap) R p x
