use Rattle.std.proofs.Common.{[], ◌≡◌, ◌-◌, ◌∙◌, false, suc, arith, subst, sym}
use Rattle.sno_pattern.specs.Table.{tree}
use Rattle.sno_match.specs.Direct.{IsFirst, pending_of}
use Rattle.sno_match.proofs.DirectLaws.{all_vain, alone_behind, behind_passed, found_behind, next_vain, within_first}
use Rattle.sno_match.proofs.direct.later_way.Goals as goal

pub returns-then-passed-subject-clause-vain : goal.returns-then-passed-subject-clause-vain
returns-then-passed-subject-clause-vain c = λ is.
    let p = tree c.args.patterns.now c.args.pattern.0 in
    let s = c.args.subject.now in
    let at = c.in-Some.passed.start in
    let due = c.starts.left - c.in-Some.passed.steps in
    let passed = behind_passed p s c.args.limit c.starts.start at c.starts.left c.in-Some.passed.steps due c.starts.invariant.behind c.in-Some.ensures.passes
    (omega (arith, c.in-Some.ensures.enough)) in
    all_vain p s c.args.limit at due passed c.if-passed-subject.true

pub returns-in-Alone-clause-first : goal.returns-in-Alone-clause-first
returns-in-Alone-clause-first c = λ is.
    let p = tree c.args.patterns.now c.args.pattern.0 in
    let s = c.args.subject.now in
    let at = c.in-Some.passed.start in
    let due = c.starts.left - c.in-Some.passed.steps in
    let passed = behind_passed p s c.args.limit c.starts.start at c.starts.left c.in-Some.passed.steps due c.starts.invariant.behind c.in-Some.ensures.passes
    (omega (arith, c.in-Some.ensures.enough)) in
    let price : due ≡ suc (due - 1) = omega (arith, c.in-Some.ensures.enough, c.if-left-passed.false) in
    let start = c.in-Alone.ensures.start ∙ c.begin.ensures.start in
    subst (λ n. IsFirst p s false c.args.limit n c.follow.new.way.end (pending_of c.follow.new.way)) (sym start)
    (alone_behind p s c.args.limit at due (due - 1) c.in-Alone._left c.begin.new.self c.follow.new.way passed c.if-passed-subject.false price c.begin.ensures.end
    c.begin.ensures.pending (c.in-Alone.ensures.follows [] (λ other. absurd (other c.begin.ensures.behind))))

pub returns-in-Alone-clause-within : goal.returns-in-Alone-clause-within
returns-in-Alone-clause-within c = λ is.
    within_first (tree c.args.patterns.now c.args.pattern.0) c.args.subject.now false c.args.limit c.follow.new.way.start c.follow.new.way.end
    (pending_of c.follow.new.way) (returns-in-Alone-clause-first c is)

pub returns-in-First-clause-first : goal.returns-in-First-clause-first
returns-in-First-clause-first c = λ is.
    let p = tree c.args.patterns.now c.args.pattern.0 in
    let s = c.args.subject.now in
    let at = c.in-Some.passed.start in
    let due = c.starts.left - c.in-Some.passed.steps in
    let passed = behind_passed p s c.args.limit c.starts.start at c.starts.left c.in-Some.passed.steps due c.starts.invariant.behind c.in-Some.ensures.passes
    (omega (arith, c.in-Some.ensures.enough)) in
    let price : due ≡ suc (due - 1) = omega (arith, c.in-Some.ensures.enough, c.if-left-passed.false) in
    let start = c.in-First.ensures.start ∙ c.begin.ensures.start in
    subst (λ n. IsFirst p s false c.args.limit n c.follow.new.way.end (pending_of c.follow.new.way)) (sym start)
    (found_behind p s c.args.limit at due (due - 1) c.in-First._left c.begin.new.self c.follow.new.way passed c.if-passed-subject.false price c.begin.ensures.end
    c.begin.ensures.pending (c.in-First.ensures.follows [] (λ other. absurd (other c.begin.ensures.behind))))

pub returns-in-First-clause-within : goal.returns-in-First-clause-within
returns-in-First-clause-within c = λ is.
    within_first (tree c.args.patterns.now c.args.pattern.0) c.args.subject.now false c.args.limit c.follow.new.way.start c.follow.new.way.end
    (pending_of c.follow.new.way) (returns-in-First-clause-first c is)

pub starts-preserved : goal.starts-preserved
starts-preserved c =
    let p = tree c.args.patterns.now c.args.pattern.0 in
    let s = c.args.subject.now in
    let at = c.in-Some.passed.start in
    let due = c.starts.left - c.in-Some.passed.steps in
    let passed = behind_passed p s c.args.limit c.starts.start at c.starts.left c.in-Some.passed.steps due c.starts.invariant.behind c.in-Some.ensures.passes
    (omega (arith, c.in-Some.ensures.enough)) in
    let price : due ≡ suc (due - 1) = omega (arith, c.in-Some.ensures.enough, c.if-left-passed.false) in
    record {
      inside = omega (arith, c.if-passed-subject.false);
      behind = next_vain p s c.args.limit at due (due - 1) c.in-Vain.rest c.begin.new.self c.follow.new.way passed c.if-passed-subject.false price c.begin.ensures.end
          c.begin.ensures.pending (c.in-Vain.ensures.follows [] (λ other. absurd (other c.begin.ensures.behind)));
    }
