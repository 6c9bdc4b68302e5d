-- What the functions of numbers, texts and types give. They change nothing.
use Rattle.std.specs.Prelude.{ℕ, ◌==◌, Bool, false, not, List, [], length, Option, None, Some, is_some, Result, Ok, Err}
use Rattle.std.specs.Prelude.{ℤ, pos, int_le, int_lt, if◌then◌else◌}
use Rattle.std.specs.Ordering.{int_eq}
use Rattle.std.specs.Str.{bytes_eq}
use Rattle.sno_value.specs.Arithmetic.{remainder_of}
use Rattle.sno_value.specs.Strings.{trimmed, duplicate, replaced, is_after}
use Rattle.sno_value.specs.declared.strings.TextError.{TextError}
use Rattle.sno_store.specs.Stored.{same_name}
use Rattle.sno_runtime.specs.declared.builtins.Relation.{Relation}
use Rattle.sno_runtime.specs.declared.builtins.Relation.TheVariants.{Equal, Unequal, Less, AtMost, Greater, AtLeast}
use Rattle.sno_runtime.specs.declared.builtins.Plain.{Plain}
use Rattle.sno_runtime.specs.declared.builtins.Plain.TheVariants.{Compare, Remdr, Ident, Differ, Lgt, Integer, Size}
use Rattle.sno_runtime.specs.declared.builtins.Plain.TheVariants.{Trim, Dupl, Replace}
use Rattle.sno_runtime.specs.Values.{Value, Str, Int, Pat, Expr, Name, Array, Table, Data}
use Rattle.sno_runtime.specs.Action.{Error, Action, gives, fails, stops, either}
use Rattle.sno_runtime.specs.Variables.{wrong_type, text_of}
use Rattle.sno_runtime.specs.Numbers.{number_of, arithmetic}

-- null where the condition holds, else failure
abbrev pub null_where : Bool → Action Value
null_where holds = if holds then gives (Str []) else fails

-- what the number, or the text, of an argument is used for
abbrev pub with_number : Value → (ℤ → Action Value) → Action Value
with_number x next = either wrong_type next (number_of x)

abbrev pub with_text : Value → (List ℕ → Action Value) → Action Value
with_text x next = either wrong_type next (text_of x)

abbrev pub stands : Relation → ℤ → ℤ → Bool
stands Equal m n = int_eq m n
stands Unequal m n = not (int_eq m n)
stands Less m n = int_lt m n
stands AtMost m n = int_le m n
stands Greater m n = int_lt n m
stands AtLeast m n = int_le n m

-- EQ(x,y), NE, LT, LE, GT and GE
abbrev pub comparison : Relation → Value → Value → Action Value
comparison relation x y = with_number x (λ m. with_number y (λ n. null_where (stands relation m n)))

-- REMDR(x,y)
abbrev pub remdr : Value → Value → Action Value
remdr x y = arithmetic remainder_of x y

-- Whether two values are equal in type and value. An object is equal to itself alone. Two patterns aren't compared, and
-- neither are two expressions.
abbrev pub same : Value → Value → Option Bool
same (Str x) (Str y) = Some (bytes_eq x y)
same (Int x) (Int y) = Some (int_eq x y)
same (Name x) (Name y) = Some (same_name x y)
same (Array x) (Array y) = Some (x == y)
same (Table x) (Table y) = Some (x == y)
same (Data x) (Data y) = Some (x == y)
same (Pat x) (Pat y) = None
same (Expr x) (Expr y) = None
same x y = Some false

-- IDENT(x,y)
abbrev pub ident : Value → Value → Action Value
ident x y = either wrong_type null_where (same x y)

-- DIFFER(x,y)
abbrev pub differ : Value → Value → Action Value
differ x y = either wrong_type (λ equal. null_where (not equal)) (same x y)

-- LGT(x,y): x is after y in byte order
abbrev pub lgt : Value → Value → Action Value
lgt x y = with_text x (λ s. with_text y (λ t. null_where (is_after s t)))

-- INTEGER(x): x is an integer, or a string that writes one
abbrev pub integer : Value → Action Value
integer x = null_where (is_some (number_of x))

-- SIZE(x)
abbrev pub size : Value → Action Value
size x = with_text x (λ bytes. gives (Int (pos (length bytes))))

-- TRIM(x)
abbrev pub trim : Value → Action Value
trim x = with_text x (λ bytes. gives (Str (trimmed bytes)))

-- a text, or failure where there is none
abbrev pub text_or_failure : Option (List ℕ) → Action Value
text_or_failure None = fails
text_or_failure (Some bytes) = gives (Str bytes)

abbrev pub short_text : Result (Option (List ℕ)) TextError → Action Value
short_text (Ok answer) = text_or_failure answer
short_text (Err e) = stops (Error 8)

-- DUPL(x,n)
abbrev pub dupl : Value → Value → Action Value
dupl x n = with_text x (λ bytes. with_number n (λ count. short_text (duplicate bytes count)))

-- REPLACE(x,y,z)
abbrev pub replace : Value → Value → Value → Action Value
replace x y z = with_text x
    (λ bytes. with_text y (λ froms. with_text z (λ tos. text_or_failure (replaced bytes froms tos))))

-- a function that changes nothing, on its arguments
abbrev pub plain : Plain → Value → Value → Value → Action Value
plain (Compare relation) x y z = comparison relation x y
plain Remdr x y z = remdr x y
plain Ident x y z = ident x y
plain Differ x y z = differ x y
plain Lgt x y z = lgt x y
plain Integer x y z = integer x
plain Size x y z = size x
plain Trim x y z = trim x
plain Dupl x y z = dupl x y
plain Replace x y z = replace x y z
