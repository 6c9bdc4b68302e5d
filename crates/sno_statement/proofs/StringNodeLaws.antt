-- The nodes that a match keeps for long strings are those of the same strings as long as nothing is assigned to their names.
use Rattle.std.proofs.Common.{◌≡◌, ℕ, ◌≤◌, nat_lt, ℤ, pos, negsuc, Bool, true, false, if◌then◌else◌, List, [], ◌∷◌, refl, ap, sym, ◌∙◌, subst}
use Rattle.std.proofs.Common.{suc, drop, length, slice_get, Option, None, Some, Result, Ok, Err, OnOk, codes, ◌++◌, ◌+◌, slice_index_or}
use Rattle.std.proofs.lemmas.Bool.{eqb-false}
use Rattle.std.proofs.lemmas.List.{drop_all, get_or-set_other}
use Rattle.std.specs.List.{AllByRecursion}
use Rattle.std.specs.Option.{is_some}
use Rattle.sno_value.specs.Kind.{takes_count}
use Rattle.sno_value.specs.declared.kind.PrimitiveKind.{PrimitiveKind}
use Rattle.sno_value.specs.declared.value.Name.{Name as Target}
use Rattle.sno_value.specs.declared.value.Name.TheVariants.{Var, Elem, Entry, Field}
use Rattle.sno_value.specs.declared.ids.PatId.{PatId}
use Rattle.sno_value.specs.declared.value.Value.{Value as Stored}
use Rattle.sno_value.specs.declared.value.Value.TheVariants as stored
use Rattle.sno_pattern.specs.Pattern.{Pattern, Leaf, Text}
use Rattle.sno_pattern.specs.Table.{Node, StandsFor, tree}
use Rattle.sno_match.specs.Matching.{in_trace}
use Rattle.sno_match.specs.declared.event.Event.{Event}
use Rattle.sno_match.specs.declared.event.Event.TheVariants as V
use Rattle.sno_store.specs.Objects.{array_at, table_at, fields_at, element_value, entry_value, field_value}
use Rattle.sno_runtime.specs.Action.{Ending, Error, Got, Fails, Stops, Outcome, Action, and_then, either, gives, settled, settles}
use Rattle.sno_runtime.specs.Effects.{effect, part_of}
use Rattle.sno_runtime.specs.Numbers.{number_of}
use Rattle.sno_runtime.specs.Operators.{answer, as_pattern, count_primitive, makes, set_primitive}
use Rattle.sno_runtime.specs.Runtime.{Runtime, world, Grows, made_nodes, tree_of, IsPatternOf}
use Rattle.sno_runtime.specs.Values as value
use Rattle.sno_runtime.specs.Values.{Value, shown, IsValueOf}
use Rattle.sno_runtime.specs.Variables.{assigns, holds, is_output, outputs, stores, text_of, value_in, with_value, writes, wrong_type}
use Rattle.sno_runtime.specs.World.{World}
use Rattle.sno_runtime.specs.declared.stops.Exit.{Exit}
use Rattle.sno_runtime.specs.inner.Performs.{Performs}
use Rattle.sno_runtime.specs.inner.Runtime.{Does, counting}
use Rattle.sno_runtime.proofs.Builders.{number_stays, tree_stays}
use Rattle.sno_runtime.proofs.Outcomes.{gives_does, grows_none}
use Rattle.sno_expression.proofs.CountingLaws.{counted_once, counts_pattern}
use Rattle.sno_statement.specs.Running.{CanRun, Devices, Runs}
use Rattle.sno_statement.specs.Turns.{answer_of}
use Rattle.sno_statement.specs.declared.string_nodes.StringNode.{StringNode}
use Rattle.sno_statement.specs.declared.string_nodes.StringNodes.{StringNodes}
use Rattle.sno_statement.specs.inner.Given.{given_of, IsGivenOf}
use Rattle.sno_statement.specs.inner.StringNodes.{IsStringNode, AreStringNodes, may_change, may_set}
use Rattle.sno_statement.proofs.AnswerLaws.{answered, refused}
use Rattle.sno_statement.proofs.MatchLaws.{next_of}
use Rattle.sno_statement.proofs.RunningLaws.{does_runs}

-- what all variables and objects hold is left as it is
abbrev IsLeft : World → World → Type 0
IsLeft before now = (now.values ≡ before.values) × (now.objects ≡ before.objects)

abbrev pub Leaves : {A : Type 0} → Action A → Type 0
Leaves act = (w : World) → IsLeft w (act w).world

choose : {A : Type 0} (b : Bool) (x y : Outcome A) (w : World) → IsLeft w x.world → IsLeft w y.world → IsLeft w (if b then x else y).world
choose true x y w h k = h
choose false x y w h k = k

choose_action : {A : Type 0} (b : Bool) (x y : Action A) → Leaves x → Leaves y → Leaves (if b then x else y)
choose_action true x y h k = h
choose_action false x y h k = k

pub leaves_made : (p : Pattern) → Leaves (makes p)
leaves_made p w = choose (nat_lt w.nodes 4_000_000) _ _ w (refl, refl) (refl, refl)

leaves_counted : (kind : PrimitiveKind) (o : Option ℤ) → Leaves (count_primitive kind o)
leaves_counted kind None w = (refl, refl)
leaves_counted kind (Some (negsuc n)) w = (refl, refl)
leaves_counted kind (Some (pos n)) w = leaves_made _ w

leaves_set : (kind : PrimitiveKind) (o : Option (List ℕ)) → Leaves (set_primitive kind o)
leaves_set kind None w = (refl, refl)
leaves_set kind (Some []) w = (refl, refl)
leaves_set kind (Some (byte ∷ bytes)) w = leaves_made _ w

leaves_pattern : (x : Value) → Leaves (as_pattern x)
leaves_pattern (value.Str bytes) w = leaves_made _ w
leaves_pattern (value.Int number) w = leaves_made _ w
leaves_pattern (value.Pat p) w = (refl, refl)
leaves_pattern (value.Expr e) w = leaves_made _ w
leaves_pattern (value.Name target) w = (refl, refl)
leaves_pattern (value.Array object) w = (refl, refl)
leaves_pattern (value.Table object) w = (refl, refl)
leaves_pattern (value.Data object) w = (refl, refl)

leaves_answer : (o : Option PrimitiveKind) (x : Value) → Leaves (answer o x)
leaves_answer None x = leaves_pattern x
leaves_answer (Some kind) x =
    choose_action (takes_count kind) _ _ (leaves_counted kind (number_of x)) (leaves_set kind (text_of x))

given_behind : (end : Ending Pattern) (w : World) (wrote : List ℕ) → (settled end w wrote (either (λ v. record { ending = Fails; world = v; wrote = [] }) (λ p. gives (Some p)))).world ≡ w
given_behind (Got p) w wrote = refl
given_behind Fails w wrote = refl
given_behind (Stops why) w wrote = refl

-- an answer leaves them
pub leaves_given : (o : Option PrimitiveKind) (x : Value) → Leaves (answer_of o (Some x))
unfolding settles
leaves_given o x w =
    let m = answer o x w in
    let same = given_behind m.ending m.world m.wrote in
    let left = leaves_answer o x w in
    (ap (λ (v : World). v.values) same ∙ left.0, ap (λ (v : World). v.objects) same ∙ left.1)

-- what is named holds what it held
held_still : (w v : World) (name : Target) → IsLeft w v → value_in v name ≡ value_in w name
held_still w v (Var id) left = ap (λ values. slice_index_or values id.0 (value.Str [])) left.0
held_still w v (Elem object k) left = ap (λ objects. element_value (value.Str []) (array_at objects object) k) left.1
held_still w v (Entry object k) left = ap (λ objects. entry_value (value.Str []) (table_at objects object) k) left.1
held_still w v (Field object k) left = ap (λ objects. field_value (value.Str []) (fields_at objects object) k) left.1

node_stays : (a b : Runtime) (kept : StringNode) → value_in (world b []) kept.name ≡ value_in (world a []) kept.name → Grows a.nodes b.nodes
    → IsStringNode a kept → IsStringNode b kept
node_stays a b kept same grows is =
    (is.0, same ∙ is.1, (number_stays a.nodes b.nodes kept.node.0 grows is.2.0, tree_stays a.nodes b.nodes kept.node.0 grows is.2.0 ∙ is.2.1))

nodes_stay : (a b : Runtime) (kept : List StringNode) → IsLeft (world a []) (world b []) → Grows a.nodes b.nodes
    → AllByRecursion (IsStringNode a) kept → AllByRecursion (IsStringNode b) kept
nodes_stay a b [] left grows all = tt
nodes_stay a b (one ∷ kept) left grows all =
    (node_stays a b one (held_still (world a []) (world b []) one.name left) grows all.0, nodes_stay a b kept left grows all.1)

left_by : {X A : Type 0} (see : List Node → X → A) (fits : List Node → X → Type 0) (act : Action A) (a b : Runtime) (x : X) → Leaves act
    → Does see fits act a b (Ok x) → IsLeft (world a []) (world b [])
left_by {A = A} see fits act a b x leaves did =
    let left = leaves (world a []) in
    let is = did.meets [] in
    (sym (ap (λ (o : Outcome A). o.world.values) is) ∙ left.0, sym (ap (λ (o : Outcome A). o.world.objects) is) ∙ left.1)

-- what leaves all variables and objects leaves them
pub stay_done : {X A : Type 0} (see : List Node → X → A) (fits : List Node → X → Type 0) (act : Action A) (a b : Runtime) (x : X) (kept : StringNodes)
    → Leaves act → Does see fits act a b (Ok x) → AreStringNodes a kept → AreStringNodes b kept
stay_done see fits act a b x kept leaves did all = nodes_stay a b kept.nodes.items (left_by see fits act a b x leaves did) did.grows all

pub stay_run : {X A : Type 0} (see : List Node → X → A) (fits : List Node → X → Type 0) (act : Action A) (a b : Runtime) (d e : Devices) (x : X) (kept : StringNodes)
    → Leaves act → Runs see fits act a b d e (Ok x) → AreStringNodes a kept → AreStringNodes b kept
stay_run {A = A} see fits act a b d e x kept leaves did all =
    let left = leaves (world a (did.given ++ [])) in
    let is = did.meets [] (λ told. refl) in
    nodes_stay a b kept.nodes.items
    (sym (ap (λ (o : Outcome A). o.world.values) is) ∙ left.0, sym (ap (λ (o : Outcome A). o.world.objects) is) ∙ left.1) did.grows all

-- an assignment

abbrev pub IsLeftAlone : Target → StringNode → Type 0
IsLeftAlone target kept = may_change target kept.name ≡ false

pub alone_next : (target : Target) (kept : List StringNode) (k : ℕ) (one : StringNode) → slice_get kept k ≡ Some one → IsLeftAlone target one
    → (AllByRecursion (IsLeftAlone target) (drop k kept) → AllByRecursion (IsLeftAlone target) kept)
    → AllByRecursion (IsLeftAlone target) (drop (suc k) kept) → AllByRecursion (IsLeftAlone target) kept
alone_next target kept k one at alone leads rest = leads (subst (AllByRecursion (IsLeftAlone target)) (sym (next_of kept k one at)) (alone, rest))

pub alone_all : (target : Target) (kept : List StringNode) (k : ℕ) → length kept ≤ k
    → (AllByRecursion (IsLeftAlone target) (drop k kept) → AllByRecursion (IsLeftAlone target) kept) → AllByRecursion (IsLeftAlone target) kept
alone_all target kept k all leads = leads (subst (AllByRecursion (IsLeftAlone target)) (sym (drop_all k kept all)) tt)

held_behind_store : (target name : Target) (v : Value) (w : World) → may_change target name ≡ false → value_in (with_value target v w) name ≡ value_in w name
held_behind_store (Var i) (Var j) v w apart =
    get_or-set_other w.values i.0 j.0 v (value.Str []) (λ e. eqb-false i.0 j.0 apart (sym e))
held_behind_store (Var i) (Elem object k) v w apart = refl
held_behind_store (Var i) (Entry object k) v w apart = refl
held_behind_store (Var i) (Field object k) v w apart = refl
held_behind_store (Elem object k) (Var j) v w apart = refl
held_behind_store (Entry object k) (Var j) v w apart = refl
held_behind_store (Field object k) (Var j) v w apart = refl
held_behind_store (Elem object k) (Elem other j) v w apart = absurd (cc apart)
held_behind_store (Elem object k) (Entry other j) v w apart = absurd (cc apart)
held_behind_store (Elem object k) (Field other j) v w apart = absurd (cc apart)
held_behind_store (Entry object k) (Elem other j) v w apart = absurd (cc apart)
held_behind_store (Entry object k) (Entry other j) v w apart = absurd (cc apart)
held_behind_store (Entry object k) (Field other j) v w apart = absurd (cc apart)
held_behind_store (Field object k) (Elem other j) v w apart = absurd (cc apart)
held_behind_store (Field object k) (Entry other j) v w apart = absurd (cc apart)
held_behind_store (Field object k) (Field other j) v w apart = absurd (cc apart)

held_behind_output : (target name : Target) (v : Value) (o : Option (List ℕ)) (w : World) → may_change target name ≡ false
    → value_in (either wrong_type (λ bytes. and_then (stores target v) (λ done. writes (bytes ++ codes "\n"))) o w).world name ≡ value_in w name
unfolding settles
held_behind_output target name v None w apart = refl
held_behind_output target name v (Some bytes) w apart = held_behind_store target name v w apart

held_behind_either : (b : Bool) (x y : Action Unit) (w : World) (name : Target) (held : Value) → value_in (x w).world name ≡ held → value_in (y w).world name ≡ held
    → value_in ((if b then x else y) w).world name ≡ held
held_behind_either true x y w name held h k = h
held_behind_either false x y w name held h k = k

held_behind_assignment : (target name : Target) (v : Value) (w : World) → may_change target name ≡ false → value_in (assigns target v w).world name ≡ value_in w name
held_behind_assignment target name v w apart =
    held_behind_either (is_output target) (outputs target v) (stores target v) w name (value_in w name) (held_behind_output target name v (text_of v) w apart)
    (held_behind_store target name v w apart)

held_behind_effect : (subject : List ℕ) (event : Event) (w : World) (name : Target) → may_set event name ≡ false
    → value_in (effect subject (in_trace event []) w).world name ≡ value_in w name
held_behind_effect subject (V.Way start end) w name apart = refl
held_behind_effect subject (V.Assign target start end) w name apart =
    held_behind_assignment target name (value.Str (part_of subject start end)) w apart
held_behind_effect subject (V.Cursor target at) w name apart = held_behind_assignment target name (value.Int (pos at)) w apart
held_behind_effect subject (V.Value prim expr) w name apart = refl
held_behind_effect subject V.Exhausted w name apart = refl
held_behind_effect subject V.Aborted w name apart = refl
held_behind_effect subject V.Limit w name apart = refl

nodes_behind : (subject : List ℕ) (event : Event) (a b : Runtime) (kept : List StringNode) → Grows a.nodes b.nodes
    → (effect subject (in_trace event []) (world a [])).world ≡ world b [] → AllByRecursion (λ (one : StringNode). may_set event one.name ≡ false) kept
    → AllByRecursion (IsStringNode a) kept → AllByRecursion (IsStringNode b) kept
nodes_behind subject event a b [] grows is spared all = tt
nodes_behind subject event a b (one ∷ kept) grows is spared all = (
  node_stays a b one (ap (λ (w : World). value_in w one.name) (sym is) ∙ held_behind_effect subject event (world a []) one.name spared.0) grows all.0,
  nodes_behind subject event a b kept grows is spared.1 all.1,
)

-- what an event leaves of the names leaves their nodes
pub stay_behind : (subject : List ℕ) (event : Event) (a b : Runtime) (x y : Option (List ℕ)) (kept : StringNodes) → b.nodes ≡ a.nodes
    → Performs (effect subject (in_trace event [])) a b x y (Ok tt) → AllByRecursion (λ (one : StringNode). may_set event one.name ≡ false) kept.nodes.items
    → AreStringNodes a kept → AreStringNodes b kept
stay_behind subject event a b x y kept same did spared all =
    nodes_behind subject event a b kept.nodes.items (rw same (grows_none a.nodes)) (ap (λ (o : Outcome Unit). o.world) (did.ends [])) spared all

-- an answer

on_ok : {X E : Type 0} (r : Result X E) (P : Type 0) → P → OnOk r P
on_ok (Ok x) P h = h
on_ok (Err e) P h = tt

pub always : {X E : Type 0} (r : Result X E) (s : Runtime) (kept : StringNodes) → kept.nodes.items ≡ [] → OnOk r (AreStringNodes s kept)
always r s kept none = on_ok r (AreStringNodes s kept) (rw none tt)

leaves_settled : (o : Option PrimitiveKind) (x : Value) → Leaves (settles (gives x) (answer_of o))
unfolding settles
leaves_settled o x w = leaves_given o x w

stay_if : (o : Option PrimitiveKind) (x : Value) (a b : Runtime) (d : Devices) (r : Result (Option PatId) Exit) (kept : StringNodes)
    → Runs given_of IsGivenOf (settles (gives x) (answer_of o)) a b d d r → AreStringNodes a kept → OnOk r (AreStringNodes b kept)
stay_if o x a b d (Ok given) kept did all = stay_run given_of IsGivenOf (settles (gives x) (answer_of o)) a b d d given kept (leaves_settled o x) did all
stay_if o x a b d (Err e) kept did all = tt

-- what is answered for a value leaves the nodes
pub stay_answered : (o : Option PrimitiveKind) (a b : Runtime) (d : Devices) (v : Stored) (r : Result (Option PatId) Exit) (kept : StringNodes)
    → CanRun a d → IsValueOf a.nodes v
    → ((act : Action Value) (before : Runtime) (old new : Devices) → Runs shown IsValueOf act before a old new (Ok v)
    → Runs given_of IsGivenOf (settles act (answer_of o)) before b old new r)
    → AreStringNodes a kept → OnOk r (AreStringNodes b kept)
stay_answered o a b d v r kept can is did all =
    stay_if o (shown a.nodes v) a b d r kept
    (did (gives (shown a.nodes v)) a d d (does_runs shown IsValueOf _ a a d (Ok v) can (gives_does shown IsValueOf a v (shown a.nodes v) refl is))) all

-- the node for a string

same_text : (x y : List ℕ) → value.Str x ≡ value.Str y → x ≡ y
same_text x y is = cc is

same_value : (x y : Value) → Got x ≡ Got y → x ≡ y
same_value x y is = cc is

pub held_is : (s : Runtime) (name : Target) (text : List ℕ) → Does shown IsValueOf (holds name) s s (Ok (stored.Str text))
    → value_in (world s []) name ≡ value.Str text
held_is s name text did = same_value _ _ (ap (λ (o : Outcome Value). o.ending) (did.meets []))

pub held_node : (s : Runtime) (name : Target) (text : List ℕ) (id : PatId) → Does shown IsValueOf (holds name) s s (Ok (stored.Str text))
    → IsStringNode s (record { name = name; node = id }) → StandsFor s.nodes id (Leaf (Text text))
held_node s name text id did is =
    subst (λ (bytes : List ℕ). StandsFor s.nodes id (Leaf (Text bytes))) (same_text is.0 text (sym is.1 ∙ held_is s name text did)) is.2

pub counted_node : (s b : Runtime) (p : Pattern) (id : PatId) → StandsFor s.nodes id p → made_nodes s + 1 ≤ 4000000 → b ≡ counting s 1
    → Does tree_of IsPatternOf (makes p) s b (Ok id)
counted_node s b p id stands room is =
    subst (λ (x : Runtime). Does tree_of IsPatternOf (makes p) s x (Ok id)) (sym is)
    (counted_once tree_of IsPatternOf (makes p) s 1 id (counts_pattern s p id stands.0 stands.1) room)

made_is : (b : Bool) (p q : Pattern) (w v : World)
    → ◌≡◌ {A = Outcome Pattern} (if b then record { ending = Got p; world = record w { nodes = w.nodes + 1 }; wrote = [] }
    else record { ending = Stops (Error 9); world = w; wrote = [] }) (record { ending = Got q; world = v; wrote = [] }) → q ≡ p
made_is true p q w v is = let e : ◌≡◌ {A = Ending Pattern} (Got p) (Got q) = ap (λ (o : Outcome Pattern). o.ending) is in cc e
made_is false p q w v is =
    let e : ◌≡◌ {A = Ending Pattern} (Stops (Error 9)) (Got q) = ap (λ (o : Outcome Pattern). o.ending) is in absurd (cc e)

pub new_node : (a b : Runtime) (name : Target) (text : List ℕ) (id : PatId) → Does shown IsValueOf (holds name) a a (Ok (stored.Str text))
    → Does tree_of IsPatternOf (makes (Leaf (Text text))) a b (Ok id) → IsStringNode b (record { name = name; node = id })
new_node a b name text id held did =
    let left = left_by tree_of IsPatternOf (makes (Leaf (Text text))) a b id (leaves_made (Leaf (Text text))) did in (
      text,
      held_still (world a []) (world b []) name left ∙ held_is a name text held,
      (did.answer, made_is (nat_lt (made_nodes a) 4_000_000) (Leaf (Text text)) (tree b.nodes id.0) (world a []) (world b []) (did.meets [])),
    )

-- the whole answer, where the node is given
pub string_answered : (o : Option PrimitiveKind) (act : Action Value) (a b : Runtime) (d : Devices) (text : List ℕ) (id : PatId) → is_some o ≡ false → CanRun a d
    → Does shown IsValueOf act a a (Ok (stored.Str text)) → Does tree_of IsPatternOf (makes (Leaf (Text text))) a b (Ok id)
    → Runs given_of IsGivenOf (settles act (answer_of o)) a b d d (Ok (Some id))
string_answered (Some kind) act a b d text id none can held made = absurd (cc none)
string_answered None act a b d text id none can held made =
    answered None act a a b d d (stored.Str text) id (does_runs shown IsValueOf act a a d (Ok (stored.Str text)) can held) made

pub string_refused : (o : Option PrimitiveKind) (act : Action Value) (a b : Runtime) (d : Devices) (text : List ℕ) (e : Exit) → is_some o ≡ false → CanRun a d
    → Does shown IsValueOf act a a (Ok (stored.Str text)) → Does {X = PatId} tree_of IsPatternOf (makes (Leaf (Text text))) a b (Err e)
    → Runs {X = Option PatId} given_of IsGivenOf (settles act (answer_of o)) a b d d (Err e)
string_refused (Some kind) act a b d text e none can held made = absurd (cc none)
string_refused None act a b d text e none can held made =
    refused None act a a b d d (stored.Str text) e (does_runs shown IsValueOf act a a d (Ok (stored.Str text)) can held) made
