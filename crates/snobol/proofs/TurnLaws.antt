-- Sessions and chains of statements with more turns than they need.
use Rattle.std.proofs.Common.{◌≡◌, ◌≢◌, ℕ, zero, suc, ◌+◌, ◌*◌, ◌-◌, ◌<◌, ◌≤◌, arith, Bool, List, ◌++◌, length, slice_get, refl, ap, sym, subst}
use Rattle.std.proofs.Common.{Option, length-append}
use Rattle.std.proofs.lemmas.List.{length-map}
use Rattle.std.proofs.lemmas.Option.{slice_get_past}
use Rattle.sno_value.specs.declared.kind.PrimitiveKind.{PrimitiveKind}
use Rattle.sno_pattern.specs.Pattern.{Pattern}
use Rattle.sno_match.specs.Search.{Event, Answer, Verdict, Exhausted, Aborted, Limit, Waiting, CutOff, SearchResult, Gives, whole, last_event, all_events, trace}
use Rattle.sno_match.proofs.WeightLaws.{weight, whole-light}
use Rattle.sno_text.specs.Program.{Program}
use Rattle.sno_statement.specs.declared.targets.Goto.{Goto}
use Rattle.sno_statement.specs.declared.targets.Goto.TheVariants.{Statement as ToStatement, Return, FReturn}
use Rattle.sno_runtime.specs.World.{World}
use Rattle.sno_runtime.specs.Action.{Error, Ending, Got, Fails, Stops, Outcome, Action, settled, settles, either, fails}
use Rattle.sno_expression.specs.Evaluate.{Caller}
use Rattle.sno_statement.specs.Steps.{step}
use Rattle.sno_statement.specs.Turns.{after_one, session}
use Rattle.snobol.specs.Meaning.{after_goto, chain}

-- how many events a trace has

last_few : (verdict : Verdict) (left : ℕ) → length (last_event verdict left) ≤ 1
last_few Waiting left = omega arith
last_few Exhausted left = omega arith
last_few Aborted left = omega arith
last_few Limit left = omega arith
last_few (CutOff mark) left = omega arith

events_few : (r : SearchResult) (limit : ℕ) → weight r ≤ 2 * limit + 1 → length (all_events r) ≤ 2 * limit + 2
events_few (Gives events answers left verdict) limit light =
    omega (arith, light, last_few verdict left, length-append events (last_event verdict left))

pub trace_few : (p : Pattern) (s : List ℕ) (anchored : Bool) (limit : ℕ) (answers : List Answer) → length (trace p s anchored limit answers) ≤ 2 * limit + 2
trace_few p s anchored limit answers =
    let all : List (Event × ℕ) = all_events (whole p s anchored answers limit) in
    let counted : Event × ℕ → Event × ℕ = λ told. (told.0, limit - told.1) in
    let few = events_few (whole p s anchored answers limit) limit (whole-light p s anchored answers limit) in
    omega (arith, few, length-map all counted)

-- a session with more turns than there are events

over_then : {A : Type 0} (takes : Event → Action A → Action A) (asks : Option PrimitiveKind → ℕ → Action Answer) (events : List Answer → List (Event × ℕ))
    (over : Action A) (most : ℕ) (given : List Answer) (told : ℕ) → length (events given) ≤ told → session takes asks events over most given told ≡ over
unfolding session
over_then takes asks events over zero given told all = refl
over_then takes asks events over (suc most) given told all =
    ap (either over (λ (one : Event × ℕ). after_one takes asks (λ more. session takes asks events over most more (suc told)) given one.0))
    (slice_get_past (events given) told all)

pub session_same : {A : Type 0} (takes : Event → Action A → Action A) (asks : Option PrimitiveKind → ℕ → Action Answer)
    (events : List Answer → List (Event × ℕ)) (over : Action A) (n : ℕ) → ((given : List Answer) → length (events given) ≤ n)
    → (most few : ℕ) (given : List Answer) (told : ℕ) → n < told + most → n < told + few
    → session takes asks events over most given told ≡ session takes asks events over few given told
unfolding session
session_same takes asks events over n small zero few given told h k =
    let all : length (events given) ≤ told = omega (arith, small given) in sym (over_then takes asks events over few given told all)
session_same takes asks events over n small (suc most) zero given told h k =
    let all : length (events given) ≤ told = omega (arith, small given) in over_then takes asks events over (suc most) given told all
session_same takes asks events over n small (suc most) (suc few) given told h k =
    let x : n < suc told + most = omega arith in
    let y : n < suc told + few = omega arith in
    λ i. either over
    (λ (one : Event × ℕ). after_one takes asks (λ more. session_same takes asks events over n small most few more (suc told) x y i) given one.0)
    (slice_get (events given) told)

-- a chain with more turns than it takes
module _ (program : Program) (call : Caller) (more : ℕ) where
  -- its turns don't run out, and so more of them change nothing
  abbrev pub IsSame : ℕ → Type 0
  IsSame most = (n : ℕ) (w : World) → (chain program call most n w).ending ≢ Stops (Error 20) → chain program call (most + more) n w ≡ chain program call most n w

  behind : (most : ℕ) → IsSame most → (end : Ending Goto) (v : World) (xs : List ℕ)
      → (settled end v xs (either fails (after_goto (chain program call most)))).ending ≢ Stops (Error 20)
      → settled end v xs (either fails (after_goto (chain program call (most + more)))) ≡ settled end v xs (either fails (after_goto (chain program call most)))
  behind most same (Got (ToStatement m)) v xs k =
      ap (λ (o : Outcome Bool). record { ending = o.ending; world = o.world; wrote = xs ++ o.wrote }) (same m v k)
  behind most same (Got Return) v xs k = refl
  behind most same (Got FReturn) v xs k = refl
  behind most same Fails v xs k = refl
  behind most same (Stops why) v xs k = refl

  pub chain_same : (most : ℕ) → IsSame most
  unfolding chain settles
  chain_same zero n w h = absurd (h refl)
  chain_same (suc most) n w h =
      let one : suc (most + more) ≡ suc most + more = omega arith in
      subst (λ (turns : ℕ). chain program call turns n w ≡ chain program call (suc most) n w) one
      (behind most (chain_same most) (step program call n w).ending (step program call n w).world (step program call n w).wrote h)
