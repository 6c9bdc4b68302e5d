use Rattle.std.proofs.Common.{[], arith}
use Rattle.sno_expression.proofs.Ordered.{table_ordered}
use Rattle.snobol.proofs.EnumerationLaws.{is_listing, is_read, too_long}
use Rattle.sno_runtime.proofs.Performing.{appends_nothing}
use Rattle.snobol.proofs.enumeration.ways.Goals as goal

pub list-end-requires-clause-ordered : goal.list-end-requires-clause-ordered
list-end-requires-clause-ordered g c = table_ordered c.in-Ok.read.0 c.in-Ok.ensures.table

pub returns-clause-listing : goal.returns-clause-listing
returns-clause-listing g c =
    let h = c.list-end.ensures.listing in (
      h.0,
      h.1,
      is_listing c.args.pattern.now c.args.subject.now c.args.anchored c.args.limit c.in-Ok.read.0 c.in-Ok.read.1 c.outcome_of.result c.list-end.result
          h.0 (is_read _ _ _ c.in-Ok.ensures.accepted c.in-Ok.ensures.source c.in-Ok.ensures.number c.in-Ok.ensures.table c.in-Ok.ensures.statements)
          c.outcome_of.ensures h.2,
    )

pub returns-then-subject-gt-LONGEST_SUBJECT-clause-listing : goal.returns-then-subject-gt-LONGEST_SUBJECT-clause-listing
returns-then-subject-gt-LONGEST_SUBJECT-clause-listing g c = (
  [],
  appends_nothing _,
  too_long _ _ _ _ c.in-Ok.read.0 c.in-Ok.read.1
      (is_read _ _ _ c.in-Ok.ensures.accepted c.in-Ok.ensures.source c.in-Ok.ensures.number c.in-Ok.ensures.table c.in-Ok.ensures.statements) (omega arith),
)
