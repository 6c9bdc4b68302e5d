-- Pattern trees, and which of them are quiet.
use Rattle.std.specs.Prelude.{ℕ, List, Option}
use Rattle.sno_value.specs.declared.value.Name.{Name}
use Rattle.sno_value.specs.declared.kind.PrimitiveKind.{PrimitiveKind}

-- a pattern that is matched in one piece: it has a list of ends and leaves nothing behind
pub data Primitive : Type 0 where
  Text : (bytes : List ℕ) → Primitive
  -- one that takes a count, and one that takes a set of bytes, in rising order, each once
  Counted : (kind : PrimitiveKind) (count : ℕ) → Primitive
  Among : (kind : PrimitiveKind) (set : List ℕ) → Primitive
  Arb : Primitive
  Bal : Primitive
  Rem : Primitive
  Fail : Primitive

pub data Pattern : Type 0 where
  Leaf : (primitive : Primitive) → Pattern
  Fence : Pattern
  -- FENCE(P): the first way of P, and no other
  Cut : (body : Pattern) → Pattern
  Abort : Pattern
  Succeed : Pattern
  Arbno : (body : Pattern) → Pattern
  Alt : (first : Pattern) (second : Pattern) → Pattern
  Cat : (first : Pattern) (second : Pattern) → Pattern
  -- P . N and P $ N
  Cond : (body : Pattern) (target : Name) → Pattern
  Imm : (body : Pattern) (target : Name) → Pattern
  -- @N
  Place : (target : Name) → Pattern
  -- *E, or a primitive with the argument *E
  Defer : (primitive : Option PrimitiveKind) (expression : ℕ) → Pattern

-- Matching a quiet pattern asks for nothing, and cuts nothing off but what a FENCE(P) cuts off of its own P: it has no
-- deferred part, bare FENCE, ABORT or SUCCEED, also not inside a FENCE(P).
abbrev pub IsQuiet : Pattern → Type 0
IsQuiet (Leaf a) = Unit {0}
IsQuiet (Cut p) = IsQuiet p
IsQuiet (Arbno p) = IsQuiet p
IsQuiet (Alt p q) = IsQuiet p × IsQuiet q
IsQuiet (Cat p q) = IsQuiet p × IsQuiet q
IsQuiet (Cond p target) = IsQuiet p
IsQuiet (Imm p target) = IsQuiet p
IsQuiet (Place target) = Unit {0}
IsQuiet p = ⊥
