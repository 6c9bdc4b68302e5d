-- The operators by their kinds. Private contracts alone cite it.
use Rattle.std.specs.Prelude.{ℤ, Bool, true, false, Option, None, Some, Result, Err}
use Rattle.sno_value.specs.declared.arithmetic.Arith.{Arith}
use Rattle.sno_value.specs.declared.arithmetic.Arith.TheVariants.{BadExponent}
use Rattle.sno_value.specs.Arithmetic.{sum_of, difference_of, product_of, quotient_of, power_of}
use Rattle.sno_text.specs.declared.node.Operator.{Operator}
use Rattle.sno_text.specs.declared.node.Operator.TheVariants.{Add, Subtract, Divide, Multiply, Power}
use Rattle.sno_value.specs.declared.value.Name.{Name as Target}
use Rattle.sno_pattern.specs.Pattern.{Pattern, Cat, Alt, Cond, Imm}
use Rattle.sno_runtime.specs.declared.operators.Assignment.{Assignment}
use Rattle.sno_runtime.specs.declared.operators.Assignment.TheVariants as assignment
use Rattle.sno_runtime.specs.declared.operators.Join.{Join}
use Rattle.sno_runtime.specs.declared.operators.Join.TheVariants as join

abbrev pub join_of : Join → Pattern → Pattern → Pattern
join_of join.Cat p q = Cat p q
join_of join.Alt p q = Alt p q

abbrev pub assignment_of : Assignment → Pattern → Target → Pattern
assignment_of assignment.Conditional p target = Cond p target
assignment_of assignment.Immediate p target = Imm p target

-- two that are there
abbrev pub both : {A B : Type 0} → Option A → Option B → Option (A × B)
both (Some x) (Some y) = Some (x, y)
both (Some x) None = None
both None other = None

abbrev pub is_arithmetic : Operator → Bool
is_arithmetic Add = true
is_arithmetic Subtract = true
is_arithmetic Divide = true
is_arithmetic Multiply = true
is_arithmetic Power = true
is_arithmetic other = false

-- what an operator of arithmetic gives; of the others it says nothing
abbrev pub calculated : Operator → ℤ → ℤ → Result ℤ Arith
calculated Add x y = sum_of x y
calculated Subtract x y = difference_of x y
calculated Divide x y = quotient_of x y
calculated Multiply x y = product_of x y
calculated Power x y = power_of x y
calculated other x y = Err BadExponent
