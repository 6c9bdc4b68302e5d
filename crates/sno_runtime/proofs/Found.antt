-- A variable that was found before, and its value.
use Rattle.std.proofs.Common.{◌≡◌, ◌≤◌, ◌∙◌, ℕ, Bool, false, if◌then◌else◌, List, length, sym, subst, arith, Ok}
use Rattle.std.proofs.lemmas.Bool.{ne_eqb}
use Rattle.sno_value.specs.Keys.{IsKeyOf}
use Rattle.sno_value.specs.declared.ids.SymId.{SymId}
use Rattle.sno_value.specs.declared.value.Name.{Name as Target}
use Rattle.sno_value.specs.declared.value.Name.TheVariants.{Var}
use Rattle.sno_value.specs.declared.value.Value.{Value as Stored}
use Rattle.sno_store.specs.Store.{value_of}
use Rattle.sno_store.specs.Symbols.{HasKey}
use Rattle.sno_runtime.specs.Action.{and_then}
use Rattle.sno_runtime.specs.Values.{shown, IsValueOf}
use Rattle.sno_runtime.specs.Variables.{variable_named, holds, is_input, reads, reads_line}
use Rattle.sno_runtime.specs.Runtime.{Runtime, IsKnown, itself}
use Rattle.sno_runtime.specs.inner.Runtime.{Does, any}
use Rattle.sno_runtime.proofs.Outcomes.{then_got}
use Rattle.sno_runtime.proofs.Stores.{found_again, holds_does}

-- a symbol that has the key of a name is its variable, which isn't INPUT
pub keyed : (s : Runtime) (name : List ℕ) (id : SymId) (key : ℕ) → IsKnown s.nodes s.store → HasKey id.0 key s.store.symbols → IsKeyOf name key
    → Does {X = Target} itself any (variable_named name) s s (Ok (Var id)) × (is_input (Var id) ≡ false)
keyed s name id key known has is =
    let told = is (has.0) in
    let kept = has.1 (subst (λ text. 1 ≤ length text) told.0 told.1) in
    (found_again s name id known (omega (arith, told.1)) (kept.0 ∙ sym told.0), ne_eqb id.0 7 kept.1)

pub read_again : (s : Runtime) (name : List ℕ) (id : SymId) (v : Stored) → IsKnown s.nodes s.store → is_input (Var id) ≡ false → v ≡ value_of s.store (Var id)
    → Does {X = Target} itself any (variable_named name) s s (Ok (Var id)) → Does shown IsValueOf (and_then (variable_named name) reads) s s (Ok v)
read_again s name id v known other same found =
    then_got itself any shown IsValueOf (variable_named name) reads s s s (Var id) (Ok v) found
    (subst (λ (b : Bool). Does shown IsValueOf (λ w. if b then reads_line w else holds (Var id) w) s s (Ok v)) (sym other)
    (holds_does s (Var id) v known same))
