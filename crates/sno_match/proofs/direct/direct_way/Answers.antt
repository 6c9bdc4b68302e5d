use Rattle.std.proofs.Common.{[], ◌∙◌, sym, subst}
use Rattle.sno_pattern.specs.Table.{tree}
use Rattle.sno_match.specs.Direct.{IsFirst, IsInVain, pending_of}
use Rattle.sno_match.proofs.DirectLaws.{anchored_vain, found, found_alone, within_first}
use Rattle.sno_match.proofs.direct.direct_way.Goals as goal

pub returns-then-anchored-clause-vain : goal.returns-then-anchored-clause-vain
returns-then-anchored-clause-vain c = λ is.
    let p = tree c.args.patterns.now c.args.pattern.0 in
    let s = c.args.subject.now in
    subst (λ anchored. IsInVain p s anchored c.args.limit) (sym c.if-anchored.true)
    (anchored_vain p s c.args.limit c.in-Vain.left c.begin.new.self c.follow.new.way c.begin.ensures.end c.begin.ensures.pending (c.in-Vain.ensures.follows [] (λ other. absurd (other c.begin.ensures.behind))))

pub returns-in-Alone-clause-first : goal.returns-in-Alone-clause-first
returns-in-Alone-clause-first c = λ is.
    let p = tree c.args.patterns.now c.args.pattern.0 in
    let s = c.args.subject.now in
    let way = c.follow.new.way in
    subst (λ n. IsFirst p s c.args.anchored c.args.limit n way.end (pending_of way)) (sym (c.in-Alone.ensures.start ∙ c.begin.ensures.start))
    (found_alone p s c.args.anchored c.args.limit c.in-Alone._left c.begin.new.self way c.begin.ensures.end c.begin.ensures.pending (c.in-Alone.ensures.follows [] (λ other. absurd (other c.begin.ensures.behind))))

pub returns-in-Alone-clause-within : goal.returns-in-Alone-clause-within
returns-in-Alone-clause-within c = λ is.
    within_first (tree c.args.patterns.now c.args.pattern.0) c.args.subject.now c.args.anchored c.args.limit c.follow.new.way.start c.follow.new.way.end
    (pending_of c.follow.new.way) (returns-in-Alone-clause-first c is)

pub returns-in-First-clause-first : goal.returns-in-First-clause-first
returns-in-First-clause-first c = λ is.
    let p = tree c.args.patterns.now c.args.pattern.0 in
    let s = c.args.subject.now in
    let way = c.follow.new.way in
    subst (λ n. IsFirst p s c.args.anchored c.args.limit n way.end (pending_of way)) (sym (c.in-First.ensures.start ∙ c.begin.ensures.start))
    (found p s c.args.anchored c.args.limit c.in-First._left c.begin.new.self way c.begin.ensures.end c.begin.ensures.pending (c.in-First.ensures.follows [] (λ other. absurd (other c.begin.ensures.behind))))

pub returns-in-First-clause-within : goal.returns-in-First-clause-within
returns-in-First-clause-within c = λ is.
    within_first (tree c.args.patterns.now c.args.pattern.0) c.args.subject.now c.args.anchored c.args.limit c.follow.new.way.start c.follow.new.way.end
    (pending_of c.follow.new.way) (returns-in-First-clause-first c is)
