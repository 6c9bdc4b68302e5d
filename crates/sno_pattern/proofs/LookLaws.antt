-- From each cursor of a run the first end is the same.
use Rattle.std.proofs.Common.{◌≡◌, ◌≢◌, ℕ, zero, suc, ◌+◌, ◌-◌, ◌<◌, ◌≤◌, ◌==◌, Bool, true, false, not, if◌then◌else◌, Some, None, List, [], ◌∷◌, ◌++◌, Option}
use Rattle.std.proofs.Common.{length, drop, get_or, slice_get, slice_set, refl, sym, ◌∙◌, ap, subst, arith, length-append, ◌⊎◌, inl, inr, ⊎_elim}
use Rattle.std.specs.Prelude.{unwrap_or}
use Rattle.std.specs.Option.{is_some}
use Rattle.std.proofs.lemmas.Bool.{ne_eqb}
use Rattle.std.proofs.lemmas.List.{drop-drop, get_or-set_same, get_or-set_other, length-set}
use Rattle.sno_value.specs.declared.kind.PrimitiveKind.TheVariants.{Span, Break, BreakX}
use Rattle.sno_pattern.specs.Pattern.{Pattern, Arb, Bal, Leaf, Among}
use Rattle.sno_pattern.specs.Ends.{is_in, end_if, run_length, first_in, ends}
use Rattle.sno_pattern.specs.Places.{IsFirstPlace, has_end}
use Rattle.sno_pattern.specs.inner.Places.{leaf_has_end}
use Rattle.sno_pattern.specs.Shape.{end_of}
use Rattle.sno_pattern.specs.inner.Shape.{end_of_node}
use Rattle.sno_pattern.specs.Table.{Node, tree, tree_over, trees_onto}
use Rattle.sno_pattern.specs.inner.Kinds.{node_of, nodes_of, IsTable}
use Rattle.sno_pattern.specs.declared.kind.Entry.{Entry}
use Rattle.sno_pattern.specs.declared.kind.Kind.{Kind}
use Rattle.sno_pattern.specs.declared.kind.Kind.TheVariants as K
use Rattle.sno_pattern.specs.declared.comparisons.Comparison.{Comparison}
use Rattle.sno_pattern.specs.Compared.{Compared, AreCompared, IsTrueComparison}
use Rattle.sno_pattern.specs.inner.Compared.{none_compared}
use Rattle.sno_pattern.specs.Looks.{IsTrueRun, Found, AreTrueRuns, AreTrue}
use Rattle.sno_pattern.specs.inner.Looks.{found_of, AreEarlier, AreBefore, HaveNoCursor}
use Rattle.sno_pattern.specs.declared.looks.Run.{Run}
use Rattle.sno_pattern.proofs.BalanceLaws.{balanced_next}
use Rattle.sno_pattern.proofs.PlaceLaws.{same_place, below_or_not}
use Rattle.sno_pattern.proofs.ShapeLaws.{node-at, end_of-kind}
use Rattle.sno_pattern.proofs.StopLaws.{all_in-first, stop_behind}
use Rattle.sno_pattern.proofs.TableLaws.{tree-append, tree-at, length-nodes}

-- what is left of a run behind some of its bytes
run_left : (set bytes : List ℕ) (k : ℕ) → k ≤ run_length set bytes → k + run_length set (drop k bytes) ≡ run_length set bytes
run_left set bytes zero h = omega arith
run_left set [] (suc k) h = absurd (omega arith)
run_left set (byte ∷ bytes) (suc k) h = go (is_in set byte) h (run_left set bytes k)
  where
    go : (b : Bool) → suc k ≤ (if b then suc (run_length set bytes) else 0)
        → (k ≤ run_length set bytes → k + run_length set (drop k bytes) ≡ run_length set bytes) →
        suc k + run_length set (drop k bytes) ≡ (if b then suc (run_length set bytes) else 0)
    go true most left = omega (arith, left (omega arith))
    go false most left = absurd (omega arith)

drop_to : (s : List ℕ) (c d : ℕ) → c ≤ d → drop (d - c) (drop c s) ≡ drop d s
drop_to s c d h = let n : c + (d - c) ≡ d = omega arith in drop-drop (d - c) c s ∙ ap (λ m. drop m s) n

some_is : (m n : ℕ) → Some m ≡ Some n → m ≡ n
some_is m n h = cc

-- a run that has an end has a byte
the_end : (c n e : ℕ) → slice_get (end_if (not (n == 0)) (c + n)) 0 ≡ Some e → (c + n ≡ e) × (0 < n)
the_end c zero e h = absurd (cc)
the_end c (suc n) e h = let some : (suc n == 0) ≡ false = ne_eqb (suc n) 0 (λ z. omega arith) in (some_is (c + suc n) e (rw some at h), omega arith)

-- SPAN ends at the same place from each byte of its run
pub span_run : (set s : List ℕ) (c e d : ℕ) → slice_get (ends (Among Span set) s c) 0 ≡ Some e → c ≤ d → d ≤ e - 1
    → slice_get (ends (Among Span set) s d) 0 ≡ Some e
span_run set s c e d at low high =
    let is = the_end c (run_length set (drop c s)) e at in
    let left : d - c + run_length set (drop (d - c) (drop c s)) ≡ run_length set (drop c s) = run_left set (drop c s) (d - c) (omega (arith, is.0, is.1)) in
    let behind : run_length set (drop (d - c) (drop c s)) ≡ run_length set (drop d s) = ap (run_length set) (drop_to s c d low) in
    let same : d + run_length set (drop d s) ≡ e = omega (arith, is.0, is.1, left, behind) in
    let some : (run_length set (drop d s) == 0) ≡ false = ne_eqb (run_length set (drop d s)) 0 (λ z. omega (arith, is.1, same, z)) in
    ap (λ b. slice_get (end_if (not b) (d + run_length set (drop d s))) 0) some ∙ ap Some same

first_behind : (set : List ℕ) (c : ℕ) (bytes : List ℕ) (k e : ℕ) → slice_get (first_in set c bytes) 0 ≡ Some e → c + k ≤ e
    → slice_get (first_in set (c + k) (drop k bytes)) 0 ≡ Some e
first_behind set c bytes zero e at h = let n : c + 0 ≡ c = omega arith in rw n at
first_behind set c [] (suc k) e at h = absurd (cc)
first_behind set c (byte ∷ bytes) (suc k) e at h = go (is_in set byte) at (first_behind set (c + 1) bytes k e)
  where
    n : c + suc k ≡ c + 1 + k
    n = omega arith

    go : (b : Bool) → slice_get (if b then c ∷ [] else first_in set (c + 1) bytes) 0 ≡ Some e →
        (slice_get (first_in set (c + 1) bytes) 0 ≡ Some e → c + 1 + k ≤ e → slice_get (first_in set (c + 1 + k) (drop k bytes)) 0 ≡ Some e) →
        slice_get (first_in set (c + suc k) (drop k bytes)) 0 ≡ Some e
    go true is later = let same : c ≡ e = cc in absurd (omega arith)
    go false is later = rw n (later is (omega arith))

none_behind : (set : List ℕ) (c : ℕ) (bytes : List ℕ) (k : ℕ) → slice_get (first_in set c bytes) 0 ≡ None
    → slice_get (first_in set (c + k) (drop k bytes)) 0 ≡ None
none_behind set c bytes zero at = let n : c + 0 ≡ c = omega arith in rw n at
none_behind set c [] (suc k) at = refl
none_behind set c (byte ∷ bytes) (suc k) at = go (is_in set byte) at (none_behind set (c + 1) bytes k)
  where
    n : c + suc k ≡ c + 1 + k
    n = omega arith

    go : (b : Bool) → slice_get (if b then c ∷ [] else first_in set (c + 1) bytes) 0 ≡ None →
        (slice_get (first_in set (c + 1) bytes) 0 ≡ None → slice_get (first_in set (c + 1 + k) (drop k bytes)) 0 ≡ None) →
        slice_get (first_in set (c + suc k) (drop k bytes)) 0 ≡ None
    go true is later = absurd (cc)
    go false is later = rw n (later is)

-- BREAK ends at the same place up to its end
pub break_run : (set s : List ℕ) (c e d : ℕ) → slice_get (ends (Among Break set) s c) 0 ≡ Some e → c ≤ d → d ≤ e
    → slice_get (ends (Among Break set) s d) 0 ≡ Some e
break_run set s c e d at low high =
    let n : c + (d - c) ≡ d = omega arith in
    ap (λ bytes. slice_get (first_in set d bytes) 0) (sym (drop_to s c d low)) ∙
    ap (λ m. slice_get (first_in set m (drop (d - c) (drop c s))) 0) (sym n) ∙ first_behind set c (drop c s) (d - c) e at (omega arith)

-- where BREAK has no end it has none from a later cursor
pub break_none : (set s : List ℕ) (c d : ℕ) → slice_get (ends (Among Break set) s c) 0 ≡ None → c ≤ d → slice_get (ends (Among Break set) s d) 0 ≡ None
break_none set s c d at low =
    let n : c + (d - c) ≡ d = omega arith in
    ap (λ bytes. slice_get (first_in set d bytes) 0) (sym (drop_to s c d low)) ∙
    ap (λ m. slice_get (first_in set m (drop (d - c) (drop c s))) 0) (sym n) ∙ none_behind set c (drop c s) (d - c) at

pub stop_first : (set s : List ℕ) (c : ℕ) → slice_get (ends (Among BreakX set) s c) 0 ≡ slice_get (ends (Among Break set) s c) 0
stop_first set s c = all_in-first set c (drop c s)

pub stop_run : (set s : List ℕ) (c e d : ℕ) → slice_get (ends (Among BreakX set) s c) 0 ≡ Some e → c ≤ d → d ≤ e
    → slice_get (ends (Among BreakX set) s d) 0 ≡ Some e
stop_run set s c e d at low high = stop_first set s d ∙ break_run set s c e d (sym (stop_first set s c) ∙ at) low high

pub stop_none : (set s : List ℕ) (c d : ℕ) → slice_get (ends (Among BreakX set) s c) 0 ≡ None → c ≤ d → slice_get (ends (Among BreakX set) s d) 0 ≡ None
stop_none set s c d at low = stop_first set s d ∙ break_none set s c d (sym (stop_first set s c) ∙ at) low

-- a table that grows keeps what was found out
grown_run : (nodes more : List Node) (s : List ℕ) (run : Run) → IsTrueRun nodes s run → IsTrueRun (nodes ++ more) s run
grown_run nodes more s run is = record {
  known = λ some. omega (arith, length-append nodes more, is.known some);
  ends = λ c low high. ap (λ (t : Pattern). end_of t s c 0) (tree-append nodes more run.id.0 (is.known (omega (arith, low, high)))) ∙ is.ends c low high;
}

grown_runs : (nodes more : List Node) (s : List ℕ) (turn : ℕ) (runs : List Run) → AreTrueRuns nodes s turn runs → AreTrueRuns (nodes ++ more) s turn runs
grown_runs nodes more s turn runs are = record { each = λ place other h told. grown_run nodes more s (get_or runs place other) (are.each place other h told) }

grown_comparison : (nodes more : List Node) (s : List ℕ) (told : Comparison) → IsTrueComparison nodes s told → IsTrueComparison (nodes ++ more) s told
grown_comparison nodes more s told is = record {
  known = λ some. omega (arith, length-append nodes more, is.known some);
  agrees = λ some text stands. is.agrees some text (sym (tree-append nodes more told.id.0 (is.known some)) ∙ stands);
}

grown_compared : (nodes more : List Node) (s : List ℕ) (compared : Compared) → AreCompared nodes s compared → AreCompared (nodes ++ more) s compared
grown_compared nodes more s compared are = record {
  texts = record { each = λ place other h. grown_comparison nodes more s (get_or compared.texts place other) (are.texts.each place other h) };
  periods = are.periods;
}

pub true_grown : (nodes more : List Node) (s : List ℕ) (found : Found) → AreTrue nodes s found → AreTrue (nodes ++ more) s found
true_grown nodes more s found are = record {
  places = are.places;
  runs = grown_runs nodes more s found.turn found.runs are.runs;
  more = grown_runs nodes more s found.turn found.more are.more;
  balance = are.balance;
  present = are.present;
  compared = grown_compared nodes more s found.compared are.compared;
}

-- where nothing is told of the subject, all that is remembered is true
earlier_true : (nodes : List Node) (s : List ℕ) (turn : ℕ) (runs : List Run) → AreEarlier turn runs → AreTrueRuns nodes s turn runs
earlier_true nodes s turn runs earlier = record { each = λ place other h told. absurd (omega (arith, told, earlier.each place other h)) }

pub none_true : (compared : Compared) → compared ≡ none_compared → (nodes : List Node) (s : List ℕ) → AreCompared nodes s compared
none_true compared none nodes s = record {
  texts = record { each = λ place other h. absurd (omega (arith, h, ap (λ (c : Compared). length c.texts) none)) };
  periods = record { each = λ place other h. absurd (omega (arith, h, ap (λ (c : Compared). length c.periods) none)) };
}

pub empty_true : (runs more : List Run) (turn : ℕ) (first_ends : List ℕ) (present : List (List (List ℕ))) (compared : Compared) → AreBefore turn runs
    → AreEarlier turn more → first_ends ≡ [] → present ≡ [] → compared ≡ none_compared →
    (nodes : List Node) (s : List ℕ) → AreTrue nodes s (found_of runs more turn first_ends present compared)
empty_true runs more turn first_ends present compared before earlier none absent fresh nodes s = record {
  places = before.places;
  runs = earlier_true nodes s turn runs before.earlier;
  more = earlier_true nodes s turn more earlier;
  balance = record { made = λ some. absurd (omega (arith, some, ap length none)) };
  present = record { each = λ level h. absurd (omega (arith, h, ap length absent)) };
  compared = none_true compared fresh nodes s;
}

pub still_earlier : (turn : ℕ) (runs : List Run) → AreEarlier turn runs → AreEarlier (turn + 1) runs
still_earlier turn runs earlier = record { each = λ place other h. omega (arith, earlier.each place other h) }

pub still_before : (turn : ℕ) (runs : List Run) → AreBefore turn runs → AreBefore (turn + 1) runs
still_before turn runs before = record { places = before.places; earlier = still_earlier turn runs before.earlier }

-- no run is told of no subject
pub none_earlier : (turn : ℕ) (runs : List Run) → runs ≡ [] → AreEarlier turn runs
none_earlier turn runs none = record { each = λ place other h. absurd (omega (arith, h, ap length none)) }

-- runs that have no cursor are true, and are told of no subject
pub no_cursor_true : (nodes : List Node) (s : List ℕ) (turn : ℕ) (runs : List Run) → HaveNoCursor runs → AreTrueRuns nodes s turn runs
no_cursor_true nodes s turn runs have = record {
  each = λ place other h told. record {
    known = λ some. absurd (omega (arith, some, have.each place other h));
    ends = λ c low high. absurd (omega (arith, low, high, have.each place other h));
  };
}

pub no_cursor_earlier : (turn : ℕ) (runs : List Run) → HaveNoCursor runs → AreEarlier (turn + 1) runs
no_cursor_earlier turn runs have = record { each = λ place other h. omega (arith, have.turn place other h) }

pub same_or_not : (i j : ℕ) → (i ≡ j) ⊎ (i ≢ j)
same_or_not zero zero = inl refl
same_or_not zero (suc j) = inr (λ e. omega arith)
same_or_not (suc i) zero = inr (λ e. omega arith)
same_or_not (suc i) (suc j) = ⊎_elim (λ e. inl (ap suc e)) (λ n. inr (λ e. n (omega arith))) (same_or_not i j)

-- a run that is told of the subject in the place of one
pub put_earlier : (runs : List Run) (place : ℕ) (run : Run) (turn : ℕ) → AreEarlier (turn + 1) runs → run.turn ≡ turn → AreEarlier (turn + 1) (slice_set runs place run)
put_earlier runs place run turn earlier is = record {
  each = λ at other h. let long = length-set runs place run in
      ⊎_elim
      (λ same. rw (← same)
      (subst (λ (one : Run). one.turn < turn + 1) (sym (get_or-set_same runs place run other (omega (arith, h, long, same)))) (omega (arith, is))))
      (λ apart. subst (λ (one : Run). one.turn < turn + 1) (sym (get_or-set_other runs place at run other (λ e. apart (sym e))))
      (earlier.each at other (omega (arith, h, long))))
      (same_or_not place at);
}

pub put_before : (runs : List Run) (place : ℕ) (run : Run) (turn : ℕ) → AreBefore (turn + 1) runs → run.turn ≡ turn → AreBefore (turn + 1) (slice_set runs place run)
put_before runs place run turn before is = record {
  places = length-set runs place run ∙ before.places;
  earlier = put_earlier runs place run turn before.earlier is;
}

-- a true run in the place of one
pub runs_put : (nodes : List Node) (s : List ℕ) (runs : List Run) (turn place : ℕ) (run : Run) → AreTrueRuns nodes s turn runs → IsTrueRun nodes s run
    → AreTrueRuns nodes s turn (slice_set runs place run)
runs_put nodes s runs turn place run are is = record {
  each = λ at other h told. let long = length-set runs place run in
      ⊎_elim
      (λ same. rw (← same) (subst (IsTrueRun nodes s) (sym (get_or-set_same runs place run other (omega (arith, h, long, same)))) is))
      (λ apart.
      let stays = get_or-set_other runs place at run other (λ e. apart (sym e)) in
      subst (IsTrueRun nodes s) (sym stays) (are.each at other (omega (arith, h, long)) (ap (λ (one : Run). one.turn) (sym stays) ∙ told)))
      (same_or_not place at);
}

pub true_put : (nodes : List Node) (s first_ends : List ℕ) (present : List (List (List ℕ))) (compared : Compared) (runs more : List Run) (turn place : ℕ)
    (run : Run) → AreTrue nodes s (found_of runs more turn first_ends present compared) → IsTrueRun nodes s run →
    AreTrue nodes s (found_of (slice_set runs place run) more turn first_ends present compared)
true_put nodes s first_ends present compared runs more turn place run are is = record {
  places = length-set runs place run ∙ are.places;
  runs = runs_put nodes s runs turn place run are.runs is;
  more = are.more;
  balance = are.balance;
  present = are.present;
  compared = are.compared;
}

-- other runs that are true in the place of more
pub true_more : (nodes : List Node) (s first_ends : List ℕ) (present : List (List (List ℕ))) (compared : Compared) (runs more others : List Run) (turn : ℕ) →
    AreTrue nodes s (found_of runs more turn first_ends present compared) → AreTrueRuns nodes s turn others
    → AreTrue nodes s (found_of runs others turn first_ends present compared)
true_more nodes s first_ends present compared runs more others turn are is =
    record { places = are.places; runs = are.runs; more = is; balance = are.balance; present = are.present; compared = are.compared }

-- a run is as true of whatever subject it is told, and by whatever key it is looked up
pub told_now : (nodes : List Node) (s : List ℕ) (run : Run) (turn key : ℕ) → IsTrueRun nodes s run
    → IsTrueRun nodes s (record { id = run.id; from = run.from; until = run.until; end = run.end; turn = turn; key = key })
told_now nodes s run turn key is = record { known = is.known; ends = is.ends }

-- what a run of a list says from one of its cursors
pub runs_tell : (nodes : List Node) (s : List ℕ) (runs : List Run) (turn place : ℕ) (other : Run) (at : ℕ) → AreTrueRuns nodes s turn runs
    → place < length runs → (get_or runs place other).turn ≡ turn → (get_or runs place other).from ≤ at → at ≤ (get_or runs place other).until →
    (get_or runs place other).end ≡ end_of (tree nodes (get_or runs place other).id.0) s at 0
runs_tell nodes s runs turn place other at are h told low high = sym ((are.each place other h told).ends at low high)

pub run_tells : (nodes : List Node) (s first_ends : List ℕ) (present : List (List (List ℕ))) (compared : Compared) (runs more : List Run) (turn : ℕ)
    (found : Found) (place : ℕ) (other : Run) (at : ℕ) → found_of runs more turn first_ends present compared ≡ found → AreTrue nodes s found → place < 32 → (get_or runs place other).turn ≡ turn →
    (get_or runs place other).from ≤ at → at ≤ (get_or runs place other).until → (get_or runs place other).end
    ≡ end_of (tree nodes (get_or runs place other).id.0) s at 0
run_tells nodes s first_ends present compared runs more turn found place other at is are h told low high =
    let known = subst (AreTrue nodes s) (sym is) are in
    runs_tell nodes s runs turn place other at known.runs (omega (arith, known.places, h)) told low high

-- the same where a look says whether there is an end
pub break_look : (set s : List ℕ) (c d : ℕ) (end : Option ℕ) → end ≡ slice_get (ends (Among Break set) s c) 0 → c ≤ d → d ≤ unwrap_or end (length s)
    → slice_get (ends (Among Break set) s d) 0 ≡ end
break_look set s c d None at low high = break_none set s c d (sym at) low
break_look set s c d (Some e) at low high = break_run set s c e d (sym at) low high

pub stop_look : (set s : List ℕ) (c d : ℕ) (end : Option ℕ) → end ≡ slice_get (ends (Among BreakX set) s c) 0 → c ≤ d → d ≤ unwrap_or end (length s)
    → slice_get (ends (Among BreakX set) s d) 0 ≡ end
stop_look set s c d None at low high = stop_none set s c d (sym at) low
stop_look set s c d (Some e) at low high = stop_run set s c e d (sym at) low high

-- an entry of BREAKX stands for BREAKX
pub is_stop : (entries : List Entry) (id : ℕ) (entry : Entry) (set : List ℕ) → IsTable entries → id < length entries → get_or entries id entry ≡ entry
    → entry.kind ≡ K.Among BreakX set → tree (nodes_of entries) id ≡ Leaf (Among BreakX set)
is_stop entries id entry set t h e is =
    tree-at (nodes_of entries) id (node_of entry.kind) t.parts (node-at entries id entry h e)
    ∙ ap (λ (k : Kind). tree_over (trees_onto [] (nodes_of entries)) (node_of k)) is

-- an entry of BAL stands for BAL
pub is_bal : (entries : List Entry) (id : ℕ) (entry : Entry) → IsTable entries → id < length entries → get_or entries id entry ≡ entry → entry.kind ≡ K.Bal
    → tree (nodes_of entries) id ≡ Leaf Bal
is_bal entries id entry t h e is =
    tree-at (nodes_of entries) id (node_of entry.kind) t.parts (node-at entries id entry h e)
    ∙ ap (λ (k : Kind). tree_over (trees_onto [] (nodes_of entries)) (node_of k)) is

pub is_arb : (entries : List Entry) (id : ℕ) (entry : Entry) → IsTable entries → id < length entries → get_or entries id entry ≡ entry → entry.kind ≡ K.Arb
    → tree (nodes_of entries) id ≡ Leaf Arb
is_arb entries id entry t h e is =
    tree-at (nodes_of entries) id (node_of entry.kind) t.parts (node-at entries id entry h e)
    ∙ ap (λ (k : Kind). tree_over (trees_onto [] (nodes_of entries)) (node_of k)) is

-- the first end of BAL is that of its number
pub bal_first : (pattern : Pattern) (s : List ℕ) (c : ℕ) (end : Option ℕ) → pattern ≡ Leaf Bal → end ≡ slice_get (ends Bal s c) 0 → end ≡ end_of pattern s c 0
bal_first pattern s c end is looked = looked ∙ sym (ap (λ (t : Pattern). end_of t s c 0) is)

-- behind an end of BAL the next is the first from there
pub bal_next : (pattern : Pattern) (s : List ℕ) (c i last : ℕ) (end : Option ℕ) → c ≤ length s → pattern ≡ Leaf Bal → end ≡ slice_get (ends Bal s last) 0
    → end_of pattern s c i ≡ Some last → end ≡ end_of pattern s c (i + 1)
bal_next pattern s c i last end h is looked at =
    let more : suc i ≡ i + 1 = omega arith in
    looked ∙ sym (balanced_next s c i last h (sym (ap (λ (t : Pattern). end_of t s c i) is) ∙ at)) ∙ ap (λ n. slice_get (ends Bal s c) n) more
    ∙ sym (ap (λ (t : Pattern). end_of t s c (i + 1)) is)

-- the first place of BAL is that of its number
pub bal_place : (pattern : Pattern) (s : List ℕ) (from until place : ℕ) → pattern ≡ Leaf Bal → IsFirstPlace (leaf_has_end Bal s) from until place
    → IsFirstPlace (has_end pattern s) from until place
bal_place pattern s from until place is first =
    same_place (leaf_has_end Bal s) (has_end pattern s) from until place (λ c. sym (ap (λ (t : Pattern). has_end t s c) is)) first

-- one place more from which BAL has no end
pub no_place : (s : List ℕ) (from place : ℕ) (end : Option ℕ) → ((c : ℕ) → from ≤ c → c < place → leaf_has_end Bal s c ≡ false)
    → end ≡ slice_get (ends Bal s place) 0 → is_some end ≡ false →
    (c : ℕ) → from ≤ c → c < place + 1 → leaf_has_end Bal s c ≡ false
no_place s from place end none is fails c low high =
    ⊎_elim
    (λ below. none c low below)
    (λ above. let same : place ≡ c = omega arith in ap (λ d. leaf_has_end Bal s d) (sym same) ∙ ap is_some (sym is) ∙ fails)
    (below_or_not c place)

-- behind an end of BREAKX the next is the first from the byte behind it
pub stop_next : (pattern : Pattern) (set s : List ℕ) (c i last : ℕ) (end : Option ℕ) → pattern ≡ Leaf (Among BreakX set) → end ≡ end_of pattern s (last + 1) 0
    → end_of pattern s c i ≡ Some last → end ≡ end_of pattern s c (i + 1)
stop_next pattern set s c i last end is looked at =
    looked ∙ ap (λ (t : Pattern). end_of t s (last + 1) 0) is ∙ sym (stop_behind set s c i last (sym (ap (λ (t : Pattern). end_of t s c i) is) ∙ at))
    ∙ sym (ap (λ (t : Pattern). end_of t s c (i + 1)) is)

-- the first ends of an entry are those of its number
pub of_entry : (entries : List Entry) (nodes : List Node) (id : ℕ) (entry : Entry) (s : List ℕ) (c : ℕ) → nodes_of entries ≡ nodes → IsTable entries
    → id < length nodes → get_or entries id entry ≡ entry →
    end_of_node (node_of entry.kind) s c 0 ≡ end_of (tree nodes id) s c 0
of_entry entries nodes id entry s c is t h e =
    let fits : id < length entries = omega (arith, length-nodes entries, ap length is, h) in
    end_of-kind entries id entry s c 0 t fits e ∙ ap (λ (n : List Node). end_of (tree n id) s c 0) is

-- what was found out of a node is true of its number
pub run_of_node : (nodes : List Node) (node : Node) (s : List ℕ) (run : Run) → run.id.0 < length nodes
    → ((c : ℕ) → end_of_node node s c 0 ≡ end_of (tree nodes run.id.0) s c 0) →
    ((c : ℕ) → run.from ≤ c → c ≤ run.until → end_of_node node s c 0 ≡ run.end) → IsTrueRun nodes s run
run_of_node nodes node s run known same ends = record { known = λ _. known; ends = λ c low high. sym (same c) ∙ ends c low high }

-- numbers of equal nodes stand for the same
pub same_tree : (entries : List Entry) (nodes : List Node) (i j : ℕ) (one other : Entry) → nodes_of entries ≡ nodes → IsTable entries → i < length nodes
    → j < length nodes → get_or entries i one ≡ one → get_or entries j other ≡ other → node_of one.kind ≡ node_of other.kind → tree nodes i ≡ tree nodes j
same_tree entries nodes i j one other is t h k at there same =
    let all = trees_onto [] (nodes_of entries) in
    let first : i < length entries = omega (arith, length-nodes entries, ap length is, h) in
    let second : j < length entries = omega (arith, length-nodes entries, ap length is, k) in
    ap (λ (n : List Node). tree n i) (sym is) ∙ tree-at (nodes_of entries) i (node_of one.kind) t.parts (node-at entries i one first at) ∙ ap (tree_over all) same
    ∙ sym (tree-at (nodes_of entries) j (node_of other.kind) t.parts (node-at entries j other second there)) ∙ ap (λ (n : List Node). tree n j) is
