use Rattle.std.proofs.Common.{rules}
use Rattle.sno_calls.proofs.Tellings.{is_told}
use Rattle.sno_calls.proofs.work.obey.Goals as goal

-- what `perform` gave, and the rooms
pub returns : goal.returns
returns c = record {
  report = c.perform-status.ensures.0;
  given = c.perform-status.ensures.1;
  rest = c.perform-status.new.reader.left.now;
  at_end = c.perform-status.new.reader.told_end;
  wrote = c.perform-status.ensures.2;
  input_is = search rules;
  whole = c.perform-status.new.reader.whole;
  done = search rules;
  output = search rules;
  message = is_told _ _ _ _ _ _ _ _ (search rules) (search rules) c.perform-status.ensures.7.3 c.tell.ensures.told c.tell.ensures.untold;
}
