use Rattle.std.proofs.Common.{rules, subst}
use Rattle.sno_calls.specs.Searches.{Gives}
use Rattle.sno_calls.specs.declared.search.Search.{Search}
use Rattle.snobol4_c.proofs.snobol4_matcher_next.Goals as goal

-- what the listing gave that is held
pub returns-clause-gives : goal.returns-clause-gives
returns-clause-gives c = λ held. record {
  before = c.in-Some.search.value;
  after = c.give.new.self;
  old = search rules;
  new = c.put.ensures.value;
  held_is = c.put.ensures.held;
  gives =
      subst (λ (before : Search). Gives before c.give.new.self c.args.out.now c.give.new.out c.args.line.now c.give.new.line c.give.new.told)
      c.deref_mut.ensures.value c.give.ensures;
}
