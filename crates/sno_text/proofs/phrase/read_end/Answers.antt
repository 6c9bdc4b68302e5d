use Rattle.sno_text.proofs.Phrases.{lacks_end}
use Rattle.sno_text.proofs.phrase.read_end.Goals as goal

pub returns-then-run_end-text : goal.returns-then-run_end-text
returns-then-run_end-text c = λ table u r. lacks_end _ c.args.label _ c.read_entry-entry.result c.read_entry-entry.ensures c.run_end.ensures.run
    c.if-run_end-text.true u r
