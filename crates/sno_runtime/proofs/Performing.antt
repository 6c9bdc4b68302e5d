-- How functions join that write what their actions write.
use Rattle.std.proofs.Common.{◌≡◌, ℕ, zero, suc, arith, List, [], ◌∷◌, ◌++◌, drop, length, slice_get, codes, refl, ap, sym, ◌∙◌, subst}
use Rattle.std.proofs.Common.{append_assoc, Option, None, Some, Result, Ok, Err, true, false}
use Rattle.std.proofs.lemmas.List.{append-nil, drop_all}
use Rattle.std.specs.Io.KnownBytes.{Appends}
use Rattle.sno_io.specs.Devices.{Begins}
use Rattle.sno_io.proofs.Bytes.{appends_then}
use Rattle.sno_value.specs.declared.value.Name.{Name as Target}
use Rattle.sno_runtime.specs.declared.stops.Stop.{Stop}
use Rattle.sno_runtime.specs.declared.stops.Stop.TheVariants.{Error as HasError, ErrorIn as HasErrorIn, NoMemory, ReadFault, WriteFault, Ended as HasEnded}
use Rattle.sno_runtime.specs.World.{World}
use Rattle.sno_runtime.specs.Values.{Value}
use Rattle.sno_runtime.specs.Action.{Ending, Got, Fails, Stops, Outcome, Action, settled, settles, and_then, either, gives, fails}
use Rattle.sno_runtime.specs.Runtime.{Runtime, world}
use Rattle.sno_runtime.specs.inner.Runtime.{untouched}
use Rattle.sno_match.specs.Search.{Event}
use Rattle.sno_match.specs.Matching.{in_trace, IsWithin}
use Rattle.sno_match.specs.declared.event.Event.{Event as Told}
use Rattle.sno_match.specs.declared.event.Event.TheVariants as V
use Rattle.sno_match.specs.declared.event.Pending.{Pending}
use Rattle.sno_runtime.specs.Effects.{effect, listed}
use Rattle.sno_runtime.specs.inner.Effects.{listed_all}
use Rattle.sno_value.specs.declared.value.Value.{Value as Stored}
use Rattle.sno_store.specs.Store.{with_value as with_stored}
use Rattle.sno_runtime.specs.Values.{shown}
use Rattle.sno_runtime.specs.Variables.{is_output, assigns, outputs, stores, writes, with_value, text_of, wrong_type}
use Rattle.sno_runtime.specs.Lines.{line_of}
use Rattle.sno_runtime.proofs.Stores.{set_seen, set_untouched}
use Rattle.sno_runtime.specs.inner.Performs.{Ends, Performs, WritesLine}

pub appends_nothing : (taken : Option (List ℕ)) → Appends taken taken []
appends_nothing None = tt
appends_nothing (Some bytes) = sym (append-nil bytes)

-- nothing to do
pub nothing_done : (s : Runtime) (taken : Option (List ℕ)) → Performs (gives tt) s s taken taken (Ok tt)
nothing_done s taken = record { wrote = []; appends = appends_nothing taken; ends = λ more. refl; unread = refl }

-- want of memory before anything was written
pub no_memory : (act : Action Unit) (a b : Runtime) (taken : Option (List ℕ)) → untouched b ≡ untouched a → Performs act a b taken taken (Err NoMemory)
no_memory act a b taken u = record { wrote = []; appends = appends_nothing taken; ends = λ more. ((act (world a more)).wrote, refl); unread = u }

ends_then : (o : Outcome Unit) (next : Unit → Action Unit) (b c : World) (first second : List ℕ) (r : Result Unit Stop)
    → o ≡ record { ending = Got tt; world = b; wrote = first } → Ends (next tt b) c second r
    → Ends (settled o.ending o.world o.wrote (either fails next)) c (first ++ second) r
ends_then o next b c first second (Ok done) is h = rw is (ap (λ (p : Outcome Unit). record { ending = p.ending; world = p.world; wrote = first ++ p.wrote }) h)
ends_then o next b c first second (Err (HasError code)) is h = rw is (h.0, ap (λ bytes. first ++ bytes) h.1)
ends_then o next b c first second (Err NoMemory) is h = rw is (h.0, append_assoc first second h.0 ∙ ap (λ bytes. first ++ bytes) h.1)
ends_then o next b c first second (Err ReadFault) is h = h
ends_then o next b c first second (Err (HasErrorIn code statement)) is h = h
ends_then o next b c first second (Err HasEnded) is h = h
ends_then o next b c first second (Err WriteFault) is h = rw is (h.0, append_assoc first second h.0 ∙ ap (λ bytes. first ++ bytes) h.1)

-- one after the other
pub performs_then : (act : Action Unit) (next : Unit → Action Unit) (a b c : Runtime) (x y z : Option (List ℕ)) (r : Result Unit Stop)
    → Performs act a b x y (Ok tt) → Performs (next tt) b c y z r → Performs (and_then act next) a c x z r
unfolding settles
performs_then act next a b c x y z r p q = record {
  wrote = p.wrote ++ q.wrote;
  appends = appends_then x y z p.wrote q.wrote p.appends q.appends;
  ends = λ more. ends_then (act (world a more)) next (world b more) (world c more) p.wrote q.wrote r (p.ends more) (q.ends more);
  unread = q.unread ∙ p.unread;
}

begins_settled : (end : Ending Unit) (w : World) (wrote part : List ℕ) (next : Option Unit → Action Unit) → Begins part wrote
    → Begins part (settled end w wrote next).wrote
begins_settled (Got x) w wrote part next h =
    (h.0 ++ (next (Some x) w).wrote, sym (append_assoc part h.0 (next (Some x) w).wrote) ∙ ap (λ bytes. bytes ++ (next (Some x) w).wrote) h.1)
begins_settled Fails w wrote part next h =
    (h.0 ++ (next None w).wrote, sym (append_assoc part h.0 (next None w).wrote) ∙ ap (λ bytes. bytes ++ (next None w).wrote) h.1)
begins_settled (Stops why) w wrote part next h = h

ends_stop : (o : Outcome Unit) (next : Option Unit → Action Unit) (b : World) (wrote : List ℕ) (why : Stop) → Ends o b wrote (Err why)
    → Ends (settled o.ending o.world o.wrote next) b wrote (Err why)
ends_stop o next b wrote (HasError code) h = rw (h.0, h.1) (refl, refl)
ends_stop o next b wrote NoMemory h = begins_settled o.ending o.world o.wrote wrote next h
ends_stop o next b wrote ReadFault h = h
ends_stop o next b wrote (HasErrorIn code statement) h = h
ends_stop o next b wrote HasEnded h = h
ends_stop o next b wrote WriteFault h = begins_settled o.ending o.world o.wrote wrote next h

-- what ended a part ended the whole
pub performs_stop : (act : Action Unit) (next : Unit → Action Unit) (a b : Runtime) (x y : Option (List ℕ)) (why : Stop)
    → Performs act a b x y (Err why) → Performs (and_then act next) a b x y (Err why)
unfolding settles
performs_stop act next a b x y why p =
    record {
      wrote = p.wrote;
      appends = p.appends;
      ends = λ more. ends_stop (act (world a more)) (either fails next) (world b more) p.wrote why
          (p.ends more);
      unread = p.unread;
    }

-- a variable that is set

pub stored : (name : Target) (value : Stored) (a b : Runtime) (taken : Option (List ℕ)) → is_output name ≡ false
    → b ≡ record a { store = with_stored name value a.store }
    → Performs (assigns name (shown a.nodes value)) a b taken taken (Ok tt)
stored name value a b taken isnt is = rw (isnt, is) (record {
  wrote = [];
  appends = appends_nothing taken;
  ends = λ more. ap (λ (w : World). record { ending = Got tt; world = w; wrote = [] }) (sym (set_seen a name value more));
  unread = set_untouched a name value;
})

-- what OUTPUT does with a value that has a text
outputs_is : (name : Target) (v : Value) (bytes : List ℕ) (w : World) → text_of v ≡ Some bytes
    → outputs name v w ≡ record { ending = Got tt; world = with_value name v w; wrote = bytes ++ codes "\n" }
unfolding settles
outputs_is name v bytes w has = ap (λ o. either wrong_type (λ bytes. and_then (stores name v) (λ done. writes (bytes ++ codes "\n"))) o w) has

text_there : (o : Option (List ℕ)) (x y : Option (List ℕ)) → WritesLine o x y (Ok tt)
    → (bytes : List ℕ) × (o ≡ Some bytes) × Appends x y (bytes ++ codes "\n")
text_there None x y h = absurd h
text_there (Some bytes) x y h = (bytes, refl, h)

text_cut : (o : Option (List ℕ)) (x y : Option (List ℕ)) → WritesLine o x y (Err WriteFault)
    → (bytes : List ℕ) × (o ≡ Some bytes) × (part : List ℕ) × Begins part (bytes ++ codes "\n") × Appends x y part
text_cut None x y h = absurd h
text_cut (Some bytes) x y h = (bytes, refl, h.0, h.1, h.2)

pub output_written : (name : Target) (value : Stored) (a b : Runtime) (x y : Option (List ℕ)) → is_output name ≡ true
    → b ≡ record a { store = with_stored name value a.store }
    → WritesLine (text_of (shown a.nodes value)) x y (Ok tt) → Performs (assigns name (shown a.nodes value)) a b x y (Ok tt)
output_written name value a b x y out is has =
    let t = text_there (text_of (shown a.nodes value)) x y has in
    rw (out, is) (record {
      wrote = t.0 ++ codes "\n";
      appends = t.2;
      ends = λ more. outputs_is name (shown a.nodes value) t.0 (world a more) t.1
          ∙ (λ i. record { ending = Got tt; world = sym (set_seen a name value more) i; wrote = t.0 ++ codes "\n" });
      unread = set_untouched a name value;
    })

-- what broke the line off, with nothing set
pub output_broken : (name : Target) (value : Stored) (a : Runtime) (x y : Option (List ℕ)) (why : Stop) → is_output name ≡ true
    → WritesLine (text_of (shown a.nodes value)) x y (Err why) → Performs (assigns name (shown a.nodes value)) a a x y (Err why)
output_broken name value a x y (HasError code) out h =
    rw (out, h.0, h.1, h.2) (record { wrote = []; appends = appends_nothing x; ends = λ more. (refl, refl); unread = refl })
output_broken name value a x y NoMemory out h = rw h (no_memory (assigns name (shown a.nodes value)) a a x refl)
output_broken name value a x y ReadFault out h = absurd h
output_broken name value a x y WriteFault out h =
    let t = text_cut (text_of (shown a.nodes value)) x y h in
    rw out (record {
      wrote = t.2;
      appends = t.4;
      ends = λ more. rw (outputs_is name (shown a.nodes value) t.0 (world a more) t.1) t.3;
      unread = refl;
    })
output_broken name value a x y (HasErrorIn code statement) out h = absurd h
output_broken name value a x y HasEnded out h = absurd h

-- the line of an event

abbrev line_written : Event → Action Unit
line_written event w = writes (line_of w.symbols event) w

pub line_done : (event : Event) (s : Runtime) (x y : Option (List ℕ)) (line : List ℕ) → line ≡ line_of s.store.symbols event → Appends x y line
    → Performs (line_written event) s s x y (Ok tt)
line_done event s x y line is put = record { wrote = line; appends = put; ends = λ more. rw is refl; unread = refl }

pub line_cut : (event : Event) (s : Runtime) (x y : Option (List ℕ)) (line part : List ℕ) → line ≡ line_of s.store.symbols event → Begins part line
    → Appends x y part → Performs (line_written event) s s x y (Err WriteFault)
line_cut event s x y line part is begins put = record { wrote = part; appends = put; ends = λ more. rw is at begins; unread = refl }

-- an event that is listed

pub listed_cut : (subject : List ℕ) (event : Event) (s : Runtime) (x y : Option (List ℕ)) (line part : List ℕ) → line ≡ line_of s.store.symbols event
    → Begins part line → Appends x y part
    → Performs (listed subject event) s s x y (Err WriteFault)
listed_cut subject event s x y line part is begins put =
    performs_stop (line_written event) (λ done. effect subject event) s s x y WriteFault (line_cut event s x y line part is begins put)

-- its pending list is nothing to its effect
effect_is : (subject : List ℕ) (event : Told) (way : List Pending) → effect subject (in_trace event []) ≡ effect subject (in_trace event way)
effect_is subject (V.Way start end) way = refl
effect_is subject (V.Assign target start end) way = refl
effect_is subject (V.Cursor target at) way = refl
effect_is subject (V.Value prim expr) way = refl
effect_is subject V.Exhausted way = refl
effect_is subject V.Aborted way = refl
effect_is subject V.Limit way = refl

pub listed_on : (subject : List ℕ) (event : Told) (way : List Pending) (a b : Runtime) (x y z : Option (List ℕ)) (line : List ℕ) (r : Result Unit Stop)
    → line ≡ line_of a.store.symbols (in_trace event way) → Appends x y line
    → Performs (effect subject (in_trace event [])) a b y z r → Performs (listed subject (in_trace event way)) a b x z r
listed_on subject event way a b x y z line r is put did =
    performs_then (line_written (in_trace event way)) (λ done. effect subject (in_trace event way)) a a b x y z r
    (line_done (in_trace event way) a x y line is put)
    (subst (λ (act : Action Unit). Performs act a b y z r) (effect_is subject event way) did)

pub within_without : (n : ℕ) (event : Told) (way : List Pending) → IsWithin n (in_trace event way) → IsWithin n (in_trace event [])
within_without n (V.Way start end) way h = (h.0, h.1, tt)
within_without n (V.Assign target start end) way h = h
within_without n (V.Cursor target at) way h = h
within_without n (V.Value prim expr) way h = h
within_without n V.Exhausted way h = h
within_without n V.Aborted way h = h
within_without n V.Limit way h = h

-- what is left of the events: one of them, and those behind it

next_event : (events : List (Event × ℕ)) (k : ℕ) (told : Event × ℕ) → slice_get events k ≡ Some told → drop k events ≡ told ∷ drop (suc k) events
next_event [] zero told h = absurd (cc h)
next_event [] (suc k) told h = absurd (cc h)
next_event (x ∷ events) zero told h = let e : x ≡ told = cc h in ap (λ z. z ∷ events) e
next_event (x ∷ events) (suc k) told h = next_event events k told h

pub listed_next : (subject : List ℕ) (events : List (Event × ℕ)) (k : ℕ) (told : Event × ℕ) (a b c : Runtime) (x y z : Option (List ℕ)) (r : Result Unit Stop)
    → slice_get events k ≡ Some told
    → Performs (listed subject told.0) a b x y (Ok tt) → Performs (listed_all subject (drop (suc k) events)) b c y z r
    → Performs (listed_all subject (drop k events)) a c x z r
listed_next subject events k told a b c x y z r at p q =
    subst (λ left. Performs (listed_all subject left) a c x z r) (sym (next_event events k told at))
    (performs_then (listed subject told.0) (λ done. listed_all subject (drop (suc k) events)) a b c x y z r p q)

pub listed_stop : (subject : List ℕ) (events : List (Event × ℕ)) (k : ℕ) (told : Event × ℕ) (a b : Runtime) (x y : Option (List ℕ)) (why : Stop)
    → slice_get events k ≡ Some told
    → Performs (listed subject told.0) a b x y (Err why) → Performs (listed_all subject (drop k events)) a b x y (Err why)
listed_stop subject events k told a b x y why at p =
    subst (λ left. Performs (listed_all subject left) a b x y (Err why)) (sym (next_event events k told at))
    (performs_stop (listed subject told.0) (λ done. listed_all subject (drop (suc k) events)) a b x y why p)

pub listed_none : (subject : List ℕ) (events : List (Event × ℕ)) (k : ℕ) (s : Runtime) (x : Option (List ℕ)) → length events ≡ k
    → Performs (listed_all subject (drop k events)) s s x x (Ok tt)
listed_none subject events k s x all =
    subst (λ left. Performs (listed_all subject left) s s x x (Ok tt)) (sym (drop_all k events (omega arith))) (nothing_done s x)
