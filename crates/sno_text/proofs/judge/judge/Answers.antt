use Rattle.std.proofs.Common.{rules, refl, inr, arith, ap, length}
use Rattle.std.proofs.lemmas.List.{length-take-le}
use Rattle.sno_text.specs.Lines.{joined}
use Rattle.sno_text.specs.Statements.{StatementTree}
use Rattle.sno_text.specs.Phrases.{GivesPhrase}
use Rattle.sno_text.specs.Programs.{IsStatementAt}
use Rattle.sno_text.proofs.Judgements.{shape_refused, shaped, grammar_refused, integer_refused, label_refused, judged, extends_wider, length_cut, given_label}
use Rattle.sno_text.proofs.judge.judge.Goals as goal

pub returns-in-Some-clause-refused : goal.returns-in-Some-clause-refused
returns-in-Some-clause-refused c =
    inr (λ before k. shape_refused _ _ _ _ before _ _ _ c.requires.place.joined c.requires.place.line k c.in-Some.ensures.refused)

pub returns-in_default-2-clause-refused : goal.returns-in_default-2-clause-refused
returns-in_default-2-clause-refused c = inr (λ before k.
    let none : (u : StatementTree) → IsStatementAt c.args.text.now c.args.extent u → ⊥ =
    rw (c.in_default-2.is, c.requires.place.joined) at c.in_ok-phrase.ensures.read in
    grammar_refused _ _ _ before _ _ _ refl c.requires.place.line k (shaped _ _ _ _ c.requires.place.joined c.in_default.ensures.fits) none)

pub returns-then-not-phrase-clause-refused : goal.returns-then-not-phrase-clause-refused
returns-then-not-phrase-clause-refused c = inr (λ before k.
    let found : GivesPhrase (IsStatementAt c.args.text.now c.args.extent) _ _ c.args.nodes.now.items c.read_statement.new.nodes.items c.in-Some-2.phrase =
    rw (c.in-Some-2.is, c.requires.place.joined) at c.in_ok-phrase.ensures.read in
    integer_refused _ _ _ before _ _ _ _ _ _ _ c.in-Some-2.phrase refl c.requires.place.line k
    (shaped _ _ _ _ c.requires.place.joined c.in_default.ensures.fits) found (search rules))

pub refuse_labels-requires-clause-label : goal.refuse_labels-requires-clause-label
refuse_labels-requires-clause-label c =
    let found : GivesPhrase (IsStatementAt c.args.text.now c.args.extent) _ _ c.args.nodes.now.items c.read_statement.new.nodes.items c.in-Some-2.phrase =
    rw (c.in-Some-2.is, c.requires.place.joined) at c.in_ok-phrase.ensures.read in
    given_label _ _ _ _ _ _ c.in-Some-2.phrase c.requires.place.joined c.requires.place.size found

pub returns-in-Some-refuse_labels-clause-refused : goal.returns-in-Some-refuse_labels-clause-refused
returns-in-Some-refuse_labels-clause-refused c = inr (λ before k.
    let found : GivesPhrase (IsStatementAt c.args.text.now c.args.extent) _ _ c.args.nodes.now.items c.read_statement.new.nodes.items c.in-Some-2.phrase =
    rw (c.in-Some-2.is, c.requires.place.joined) at c.in_ok-phrase.ensures.read in
    label_refused _ _ _ before _ _ _ _ _ _ _ c.in-Some-2.phrase c.requires.place.line k (shaped _ _ _ _ c.requires.place.joined c.in_default.ensures.fits) found
    (search rules) c.in-Some-refuse_labels.ensures.refused)

pub returns-clause-accepted : goal.returns-clause-accepted
returns-clause-accepted c =
    let found : GivesPhrase (IsStatementAt c.args.text.now c.args.extent) _ _ c.args.nodes.now.items c.read_statement.new.nodes.items c.in-Some-2.phrase =
    rw (c.in-Some-2.is, c.requires.place.joined) at c.in_ok-phrase.ensures.read in
    let within = c.requires.place.extent.1 in
    let size = c.requires.place.size in
    let cut = length-take-le c.args.extent.end (joined c.args.text.now) (omega (arith, ap length c.requires.place.joined)) in
    let shape = shaped _ _ _ _ c.requires.place.joined c.in_default.ensures.fits in
    record {
      accepted = λ before k. judged _ _ before _ _ _ _ _ _ c.in-Some-2.phrase k shape found (search rules)
          c.in_default-refuse_labels.ensures.fresh c.in_default-refuse_labels.ensures.known;
      few = shape.few;
      label = given_label _ _ _ _ _ _ c.in-Some-2.phrase c.requires.place.joined c.requires.place.size found;
      fresh = c.in_default-refuse_labels.ensures.fresh;
      extends = extends_wider _ _ _ _ (rw c.requires.place.size at (length_cut c.args.extent.end c.args.joined.now)) c.in_ok-phrase.ensures.extends;
      room = let below = c.requires.room in let used = found.room in omega (arith, cut);
    }
