use Rattle.std.proofs.Common.{ap}
use Rattle.std.proofs.lemmas.Result.{err_from_is_err_and}
use Rattle.sno_match.specs.Matching.{Matching}
use Rattle.sno_statement.proofs.MatchLaws.{unremembered}
use Rattle.sno_statement.proofs.matching.span_of.Goals as goal

pub returns-in-Some : goal.returns-in-Some
returns-in-Some g c =
    (rw c.in-Some.is at c.in_ok-span.ensures) (g.S.Calls.code c.args.scope.now) (g.S.Calls.caller c.args.scope.now) _ c.requires.within.ready.reads

pub begin_match-requires : goal.begin_match-requires
begin_match-requires g c =
    let none = (rw c.in_default.is at c.in_ok-span.ensures) (g.S.Calls.code c.args.scope.now) (g.S.Calls.caller c.args.scope.now) _ c.requires.within.ready.reads in
    rw none.0 c.requires.pattern

pub returns-in_err-matcher : goal.returns-in_err-matcher
returns-in_err-matcher g c =
    let p = err_from_is_err_and c.from_residual-in_err-matcher.result c.from_residual-in_err-matcher.ensures.1 in
    let none = (rw c.in_default.is at c.in_ok-span.ensures) (g.S.Calls.code c.args.scope.now) (g.S.Calls.caller c.args.scope.now) _ c.requires.within.ready.reads in
    rw (c.begin_match.ensures.same, none.0, none.1, p.1, p.2) (unremembered _ _ _ _ c.requires.within.ready)

pub finish_match-requires-clause-pattern : goal.finish_match-requires-clause-pattern
finish_match-requires-clause-pattern g c =
    let none = (rw c.in_default.is at c.in_ok-span.ensures) (g.S.Calls.code c.args.scope.now) (g.S.Calls.caller c.args.scope.now) _ c.requires.within.ready.reads in
    rw (ap (λ (m : Matching). m.pattern) c.in_ok-matcher.ensures.begun, c.begin_match.ensures.same, none.0) c.requires.pattern

pub finish_match-requires-clause-within : goal.finish_match-requires-clause-within
finish_match-requires-clause-within g c =
    let none = (rw c.in_default.is at c.in_ok-span.ensures) (g.S.Calls.code c.args.scope.now) (g.S.Calls.caller c.args.scope.now) _ c.requires.within.ready.reads in
    rw (c.begin_match.ensures.same, none.0, none.1) c.requires.within

pub returns : goal.returns
returns g c =
    let none = (rw c.in_default.is at c.in_ok-span.ensures) (g.S.Calls.code c.args.scope.now) (g.S.Calls.caller c.args.scope.now) _ c.requires.within.ready.reads in
    let begun = c.in_ok-matcher.ensures.begun in
    rw (c.begin_match.ensures.same, ap (λ (m : Matching). m.pattern) begun, ap (λ (m : Matching). m.subject) begun, none.0, none.1) at c.finish_match.ensures

pub finish_apart-requires-clause-pattern : goal.finish_apart-requires-clause-pattern
finish_apart-requires-clause-pattern g c =
    let none = (rw c.in_default.is at c.in_ok-span.ensures) (g.S.Calls.code c.args.scope.now) (g.S.Calls.caller c.args.scope.now) _ c.requires.within.ready.reads in
    rw (ap (λ (m : Matching). m.pattern) c.in_ok-matcher.ensures.begun, c.begin_match.ensures.same, none.0) c.requires.pattern

pub finish_apart-requires-clause-within : goal.finish_apart-requires-clause-within
finish_apart-requires-clause-within g c =
    let none = (rw c.in_default.is at c.in_ok-span.ensures) (g.S.Calls.code c.args.scope.now) (g.S.Calls.caller c.args.scope.now) _ c.requires.within.ready.reads in
    rw (c.begin_match.ensures.same, none.0, none.1) c.requires.within

pub returns-then-apart : goal.returns-then-apart
returns-then-apart g c =
    let none = (rw c.in_default.is at c.in_ok-span.ensures) (g.S.Calls.code c.args.scope.now) (g.S.Calls.caller c.args.scope.now) _ c.requires.within.ready.reads in
    let begun = c.in_ok-matcher.ensures.begun in
    rw (c.begin_match.ensures.same, ap (λ (m : Matching). m.pattern) begun, ap (λ (m : Matching). m.subject) begun, none.0, none.1) at c.finish_apart.ensures
