use Rattle.std.proofs.Common.{◌∙◌}
use Rattle.sno_text.proofs.Readings.{label_found, label_only, label_missing}
use Rattle.sno_text.proofs.program.Program.label.Goals as goal

pub returns-clause-found : goal.returns-clause-found
returns-clause-found c =
    rw (← c.self.view_is) (label_found c.self.inside.text.items c.self.inside.statements.items c.self.inside.labels.entries c.args.name.now _
    (c.copied.ensures ∙ c.get.ensures.value) c.self.invariant.index)

pub returns-clause-only : goal.returns-clause-only
returns-clause-only c =
    rw (← c.self.view_is) (label_only c.self.inside.text.items c.self.inside.statements.items c.self.inside.labels.entries c.args.name.now _
    (c.copied.ensures ∙ c.get.ensures.value) c.self.invariant.index)

pub returns-clause-none : goal.returns-clause-none
returns-clause-none c =
    rw (← c.self.view_is) (label_missing c.self.inside.text.items c.self.inside.statements.items c.self.inside.labels.entries c.args.name.now _
    (c.copied.ensures ∙ c.get.ensures.value) c.self.invariant.index)
