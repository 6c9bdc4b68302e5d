use Rattle.std.proofs.Common.{◌≡◌, ◌+◌, ◌==◌, ◌∙◌, ap, sym, refl, arith, rules, inr, Some, length, take, slice_index_or, slice_get}
use Rattle.std.specs.List.{count_by, prefix_len}
use Rattle.std.proofs.lemmas.Option.{slice_get-get_or}
use Rattle.sno_text.specs.declared.node.Span.{Span}
use Rattle.sno_text.specs.Lines.{extents, line_of, part}
use Rattle.sno_text.proofs.Readings.{running_first, running_within, running_next, running_endless, running_refused, carried, reading_knows, reading_next}
use Rattle.sno_text.proofs.Readings.{reading_ends, tabled_program, tabled_whole}
use Rattle.sno_text.proofs.whole.read_program.Goals as goal

pub loop-extent-init : goal.loop-extent-init
loop-extent-init c = (
  running_first _ _ _ _ _ refl refl c.new-nodes.ensures.items c.new-statements.ensures.items c.new-labels.ensures.empty,
  c.as_slice-extent-items.ensures.value ∙ c.in_ok-layout.ensures.extents,
  c.as_slice-joined.ensures.value ∙ c.in_ok-layout.ensures.joined,
  ap length c.as_slice-joined.ensures.value ∙ c.in_ok-layout.ensures.length,
  omega arith,
)

pub first_byte-at-requires : goal.first_byte-at-requires
first_byte-at-requires c =
    let span : Span = slice_index_or c.as_slice-extent-items.result.now c.loop-extent.extent-index (record { start = 0; end = 0 }) in
    let here : slice_get (extents c.args.text.now) c.loop-extent.extent-index ≡ Some span =
    ap (λ x. slice_get x c.loop-extent.extent-index) (sym c.loop-extent.invariant.1) ∙ slice_get-get_or c.as_slice-extent-items.result.now
    c.loop-extent.extent-index (record { start = 0; end = 0 }) c.loop-extent-test.true in
    let within = running_within _ _ _ _ _ _ span c.loop-extent.invariant.0 here in
    (within.0, (let e = c.loop-extent.invariant.3 in let w = within.1 in omega arith))

pub line_at-line-requires-clause-within : goal.line_at-line-requires-clause-within
line_at-line-requires-clause-within c =
    let span : Span = slice_index_or c.as_slice-extent-items.result.now c.loop-extent.extent-index (record { start = 0; end = 0 }) in
    let here : slice_get (extents c.args.text.now) c.loop-extent.extent-index ≡ Some span =
    ap (λ x. slice_get x c.loop-extent.extent-index) (sym c.loop-extent.invariant.1) ∙ slice_get-get_or c.as_slice-extent-items.result.now
    c.loop-extent.extent-index (record { start = 0; end = 0 }) c.loop-extent-test.true in
    let within = running_within _ _ _ _ _ _ span c.loop-extent.invariant.0 here in
    let w = within.1 in let f = c.first_byte-at.ensures.within in omega arith

pub judge-requires-clause-place : goal.judge-requires-clause-place
judge-requires-clause-place c =
    let span : Span = slice_index_or c.as_slice-extent-items.result.now c.loop-extent.extent-index (record { start = 0; end = 0 }) in
    let here : slice_get (extents c.args.text.now) c.loop-extent.extent-index ≡ Some span =
    ap (λ x. slice_get x c.loop-extent.extent-index) (sym c.loop-extent.invariant.1) ∙ slice_get-get_or c.as_slice-extent-items.result.now
    c.loop-extent.extent-index (record { start = 0; end = 0 }) c.loop-extent-test.true in
    let within = running_within _ _ _ _ _ _ span c.loop-extent.invariant.0 here in
    let line : c.line_at-line.result ≡ line_of c.args.text.now span =
    c.line_at-line.ensures ∙ ap (λ n. 1 + count_by (λ b. b == 10) (take n c.args.text.now))
    (c.first_byte-at.ensures.place ∙ ap (λ j. span.start + prefix_len (λ b. b == 10) (part j span)) c.loop-extent.invariant.2) in
    record {
      joined = c.loop-extent.invariant.2;
      size = c.loop-extent.invariant.3;
      small = c.loop-extent.invariant.4;
      extent = within;
      line = line;
    }

pub returns-in_err-phrase-clause-refused : goal.returns-in_err-phrase-clause-refused
returns-in_err-phrase-clause-refused c =
    let span : Span = slice_index_or c.as_slice-extent-items.result.now c.loop-extent.extent-index (record { start = 0; end = 0 }) in
    let here : slice_get (extents c.args.text.now) c.loop-extent.extent-index ≡ Some span =
    ap (λ x. slice_get x c.loop-extent.extent-index) (sym c.loop-extent.invariant.1) ∙ slice_get-get_or c.as_slice-extent-items.result.now
    c.loop-extent.extent-index (record { start = 0; end = 0 }) c.loop-extent-test.true in
    let within = running_within _ _ _ _ _ _ span c.loop-extent.invariant.0 here in
    let many : c.len-count.result ≡ length c.loop-extent.statements.items = search rules in
    let refused = running_refused _ _ _ _ _ _ _ span _ c.loop-extent.invariant.0 here c.loop-extent.invariant.4 many c.in_err-phrase.ensures.refused in
    carried c.from_residual-in_err-phrase.result _ _ c.from_residual-in_err-phrase.ensures.1 refused

pub new-requires : goal.new-requires
new-requires c =
    let span : Span = slice_index_or c.as_slice-extent-items.result.now c.loop-extent.extent-index (record { start = 0; end = 0 }) in
    let here : slice_get (extents c.args.text.now) c.loop-extent.extent-index ≡ Some span =
    ap (λ x. slice_get x c.loop-extent.extent-index) (sym c.loop-extent.invariant.1) ∙ slice_get-get_or c.as_slice-extent-items.result.now
    c.loop-extent.extent-index (record { start = 0; end = 0 }) c.loop-extent-test.true in
    let within = running_within _ _ _ _ _ _ span c.loop-extent.invariant.0 here in
    let line : c.line_at-line.result ≡ line_of c.args.text.now span =
    c.line_at-line.ensures ∙ ap (λ n. 1 + count_by (λ b. b == 10) (take n c.args.text.now))
    (c.first_byte-at.ensures.place ∙ ap (λ j. span.start + prefix_len (λ b. b == 10) (part j span)) c.loop-extent.invariant.2) in
    let running = c.loop-extent.invariant.0 in
    let many : c.len-count.result ≡ length c.loop-extent.statements.items = search rules in
    let accepted = c.in_ok-phrase.ensures.accepted.accepted running.reading.before (reading_knows _ _ _ _ _ _ _ running.reading many) in
    let done = reading_ends _ _ _ _ span _ _ _ _ _ _ c.in_ok-phrase.phrase running.reading accepted here c.in_ok-phrase.ensures.accepted.room
    c.in_ok-phrase.ensures.accepted.extends line c.in_ok-push_statement.ensures.pushed
    c.in_ok-push_statement.ensures.index c.loop-extent.invariant.4 (c.is_end.ensures.end c.if-is_end.true) in
    let same : c.in_ok-text.text.items ≡ c.args.text.now = search rules in
    tabled_whole _ _ done.0 span.end _ _ _ done.1 done.2 same (let w = within.1 in let m = c.loop-extent.invariant.4 in omega arith)

pub returns-then-is_end-clause-accepted : goal.returns-then-is_end-clause-accepted
returns-then-is_end-clause-accepted c =
    let span : Span = slice_index_or c.as_slice-extent-items.result.now c.loop-extent.extent-index (record { start = 0; end = 0 }) in
    let here : slice_get (extents c.args.text.now) c.loop-extent.extent-index ≡ Some span =
    ap (λ x. slice_get x c.loop-extent.extent-index) (sym c.loop-extent.invariant.1) ∙ slice_get-get_or c.as_slice-extent-items.result.now
    c.loop-extent.extent-index (record { start = 0; end = 0 }) c.loop-extent-test.true in
    let within = running_within _ _ _ _ _ _ span c.loop-extent.invariant.0 here in
    let line : c.line_at-line.result ≡ line_of c.args.text.now span =
    c.line_at-line.ensures ∙ ap (λ n. 1 + count_by (λ b. b == 10) (take n c.args.text.now))
    (c.first_byte-at.ensures.place ∙ ap (λ j. span.start + prefix_len (λ b. b == 10) (part j span)) c.loop-extent.invariant.2) in
    let running = c.loop-extent.invariant.0 in
    let many : c.len-count.result ≡ length c.loop-extent.statements.items = search rules in
    let accepted = c.in_ok-phrase.ensures.accepted.accepted running.reading.before (reading_knows _ _ _ _ _ _ _ running.reading many) in
    let done = reading_ends _ _ _ _ span _ _ _ _ _ _ c.in_ok-phrase.phrase running.reading accepted here c.in_ok-phrase.ensures.accepted.room
    c.in_ok-phrase.ensures.accepted.extends line c.in_ok-push_statement.ensures.pushed
    c.in_ok-push_statement.ensures.index c.loop-extent.invariant.4 (c.is_end.ensures.end c.if-is_end.true) in
    (done.0, done.1, tabled_program _ done.0 span.end _ _ _ _ done.2 c.new.ensures.nodes c.new.ensures.statements)

pub loop-extent-preserved : goal.loop-extent-preserved
loop-extent-preserved c =
    let span : Span = slice_index_or c.as_slice-extent-items.result.now c.loop-extent.extent-index (record { start = 0; end = 0 }) in
    let here : slice_get (extents c.args.text.now) c.loop-extent.extent-index ≡ Some span =
    ap (λ x. slice_get x c.loop-extent.extent-index) (sym c.loop-extent.invariant.1) ∙ slice_get-get_or c.as_slice-extent-items.result.now
    c.loop-extent.extent-index (record { start = 0; end = 0 }) c.loop-extent-test.true in
    let within = running_within _ _ _ _ _ _ span c.loop-extent.invariant.0 here in
    let line : c.line_at-line.result ≡ line_of c.args.text.now span =
    c.line_at-line.ensures ∙ ap (λ n. 1 + count_by (λ b. b == 10) (take n c.args.text.now))
    (c.first_byte-at.ensures.place ∙ ap (λ j. span.start + prefix_len (λ b. b == 10) (part j span)) c.loop-extent.invariant.2) in
    let running = c.loop-extent.invariant.0 in
    let many : c.len-count.result ≡ length c.loop-extent.statements.items = search rules in
    let accepted = c.in_ok-phrase.ensures.accepted.accepted running.reading.before (reading_knows _ _ _ _ _ _ _ running.reading many) in
    let next = reading_next _ _ _ _ span _ _ _ _ _ _ c.in_ok-phrase.phrase running.reading accepted here c.in_ok-phrase.ensures.accepted.room
    c.in_ok-phrase.ensures.accepted.extends line c.in_ok-push_statement.ensures.pushed
    c.in_ok-push_statement.ensures.index (c.is_end.ensures.other c.if-is_end.false) in (
      running_next _ _ _ _ _ _ _ _ _ _ span running here next c.first_byte-at.ensures.within c.line_at-line.ensures,
      c.loop-extent.invariant.1,
      c.loop-extent.invariant.2,
      c.loop-extent.invariant.3,
      c.loop-extent.invariant.4,
    )

pub returns-clause-refused : goal.returns-clause-refused
returns-clause-refused c =
    let size = ap length c.loop-extent.invariant.1 in
    let low = c.loop-extent-test.false in
    let high = c.loop-extent.auto.extent-index-end in
    inr (running_endless _ _ _ _ _ _ c.loop-extent.invariant.0 (omega arith) c.loop-extent.invariant.4)
