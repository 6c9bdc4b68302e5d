-- The function that a form calls.
use Rattle.std.proofs.Common.{Vec, Global, ◌≡◌, ℕ, ◌==◌, nat_lt, Bool, true, false, List, [], ◌∷◌, length}
use Rattle.std.proofs.Common.{refl, ap, sym, if◌then◌else◌, Option, None, Some, Ok, Err}
use Rattle.sno_value.specs.declared.ids.ExprId.{ExprId}
use Rattle.sno_value.specs.declared.ids.SymId.{SymId}
use Rattle.sno_value.specs.declared.value.Name.{Name as Target}
use Rattle.sno_value.specs.declared.value.Name.TheVariants.{Var}
use Rattle.sno_text.specs.declared.node.Node.{Node as Form}
use Rattle.sno_text.specs.declared.node.Node.TheVariants.{Literal, Integer, Variable, Unary, Binary, Call, Keyword, Item}
use Rattle.sno_text.specs.declared.node.Span.{Span}
use Rattle.sno_store.specs.Names.{place, is_symbol}
use Rattle.sno_runtime.specs.declared.stops.Exit.{Exit}
use Rattle.sno_runtime.specs.declared.stops.Exit.TheVariants.{Failure}
use Rattle.sno_runtime.specs.World.{World}
use Rattle.sno_runtime.specs.Action.{Error, Got, Fails, Outcome, Action, and_then, gives, fails, stops}
use Rattle.sno_runtime.specs.Runtime.{Runtime, world, itself}
use Rattle.sno_runtime.specs.inner.Runtime.{Does, any}
use Rattle.sno_runtime.specs.Variables.{variable_named, symbol, joins}
use Rattle.sno_runtime.proofs.Outcomes.{gives_does, grows_none, then_got, then_err}
use Rattle.sno_expression.specs.declared.forms.Wanted.{Wanted}
use Rattle.sno_expression.specs.declared.forms.Wanted.TheVariants as wanted
use Rattle.sno_expression.specs.Evaluate.{made_function, function_of, function_called}
use Rattle.sno_expression.specs.Forms.{token}

pub no_value_wanted : (text : List ℕ) (o : Option Form) (wants : Wanted) → (wants ≡ wanted.Value → ⊥) → function_called text o wants ≡ gives None
no_value_wanted text None wants other = refl
no_value_wanted text (Some (Literal span)) wants other = refl
no_value_wanted text (Some (Integer number)) wants other = refl
no_value_wanted text (Some (Variable span)) wants other = refl
no_value_wanted text (Some (Unary operator a)) wants other = refl
no_value_wanted text (Some (Binary operator a b)) wants other = refl
no_value_wanted text (Some (Call function arguments)) wanted.Value other = absurd (other refl)
no_value_wanted text (Some (Call function arguments)) wanted.Name other = refl
no_value_wanted text (Some (Call function arguments)) wanted.Holder other = refl
no_value_wanted text (Some (Call function arguments)) wanted.Field other = refl
no_value_wanted text (Some (Keyword span)) wants other = refl
no_value_wanted text (Some (Item function subscripts)) wants other = refl

pub calls_none : (text : List ℕ) (o : Option Form) (wants : Wanted) (s : Runtime) → function_called text o wants ≡ gives None
    → Does {X = Option SymId} itself any (function_called text o wants) s s (Ok None)
calls_none text o wants s none = rw none (gives_does {X = Option SymId} itself any s None None refl tt)

abbrev calls_by : List ℕ → Action (Option SymId)
calls_by name = and_then (variable_named name) function_of

form_called : (text : List ℕ) (o : Option Form) (node : Form) (function : Span) (arguments : Vec ExprId Global) (wants : Wanted) → o ≡ Some node
    → node ≡ Call function arguments → wants ≡ wanted.Value → function_called text o wants ≡ calls_by (token text function)
form_called text o node function arguments wants at is value = rw (at, is, value) refl

-- where its name joins no symbols
pub unnamed : (text : List ℕ) (o : Option Form) (node : Form) (function : Span) (arguments : Vec ExprId Global) (wants : Wanted) (a b : Runtime) (e : Exit)
    → o ≡ Some node → node ≡ Call function arguments → wants ≡ wanted.Value
    → Does {X = Target} itself any (variable_named (token text function)) a b (Err e)
    → Does {X = Option SymId} itself any (function_called text o wants) a b (Err e)
unnamed text o node function arguments wants a b e at is value did =
    rw (form_called text o node function arguments wants at is value)
    (then_err {X = Target} {Y = Option SymId} itself any itself any (variable_named (token text function)) function_of a b e did)

pub named : (text : List ℕ) (o : Option Form) (node : Form) (function : Span) (arguments : Vec ExprId Global) (wants : Wanted) (a b : Runtime) (name : Target)
    (r : Option SymId) → o ≡ Some node → node ≡ Call function arguments → wants ≡ wanted.Value
    → Does itself any (variable_named (token text function)) a b (Ok name) → r ≡ made_function b.store.functions name
    → Does itself any (function_called text o wants) a b (Ok r)
named text o node function arguments wants a b name r at is value did found =
    let look : Does {X = Option SymId} itself any (function_of name) b b (Ok r) =
    record {
      grows = grows_none b.nodes;
      meets = λ more. ap (λ (q : Option SymId). record { ending = Got q; world = world b more; wrote = [] }) (sym found);
      answer = tt;
      unread = refl;
    } in
    rw (form_called text o node function arguments wants at is value)
    (then_got itself any itself any (variable_named (token text function)) function_of a b b name (Ok r) did look)

-- a text always names a variable, or that is an error
never_fails : (name : List ℕ) (w : World) → (variable_named name w).ending ≡ Fails → ⊥
never_fails [] w fails = cc fails
never_fails (byte ∷ bytes) w fails = by (nat_lt 1_000_000 (length (byte ∷ bytes))) (is_symbol (byte ∷ bytes) w.symbols) (length w.symbols == 1_000_000) fails
  where
    by : (long known full : Bool) → (if long then stops (Error 8) w else if known then gives (Var (symbol (place (byte ∷ bytes) w.symbols))) w else if full
        then stops (Error 9) w else joins (byte ∷ bytes) w).ending ≡ Fails → ⊥
    by true known full is = cc is
    by false true full is = cc is
    by false false true is = cc is
    by false false false is = cc is

pub named_or_error : (name : List ℕ) (a b : Runtime) (e : Exit) → Does {X = Target} itself any (variable_named name) a b (Err e) → e ≡ Failure → ⊥
named_or_error name a b e did is = never_fails name (world a []) (ap (λ (o : Outcome Target). o.ending) (rw is at (did.meets [])))
