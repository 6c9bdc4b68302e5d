use Rattle.sno_runtime.proofs.Arguments.{second_stays, third_stays, second_known}
use Rattle.sno_runtime.proofs.functions.called.Goals as goal

pub repetition-requires : goal.repetition-requires
repetition-requires c = c.argument-x.ensures.known _ c.requires

pub cut-requires : goal.cut-requires
cut-requires c = c.argument-x.ensures.known _ c.requires

pub convert-requires : goal.convert-requires
convert-requires c = c.argument-x.ensures.known _ c.requires

pub define-requires : goal.define-requires
define-requires c = c.argument-x.ensures.known _ c.requires

pub define_type-requires : goal.define_type-requires
define_type-requires c = c.argument-x.ensures.known _ c.requires

pub array-requires-clause-prototype : goal.array-requires-clause-prototype
array-requires-clause-prototype c = c.argument-x.ensures.known _ c.requires

pub array-requires-clause-value : goal.array-requires-clause-value
array-requires-clause-value c = c.argument-value.ensures.known _ (second_known _ _ _ _ c.argument-x.ensures.rest tt c.requires)

pub returns-in-Arbno : goal.returns-in-Arbno
returns-in-Arbno c = rw (c.in-Some.is, c.in-Arbno.is, ← c.argument-x.ensures.value c.args.runtime.now.nodes) c.repetition.ensures

pub returns-in-Cut : goal.returns-in-Cut
returns-in-Cut c = rw (c.in-Some.is, c.in-Cut.is, ← c.argument-x.ensures.value c.args.runtime.now.nodes) c.cut.ensures

pub returns-in-Convert : goal.returns-in-Convert
returns-in-Convert c =
    let nodes = c.args.runtime.now.nodes in
    let x = c.argument-x.ensures in
    rw (c.in-Some.is, c.in-Convert.is, ← x.value nodes, ← second_stays nodes _ _ _ x.rest, ← c.argument-kind.ensures.value nodes) c.convert.ensures

pub returns-in-MakeArray : goal.returns-in-MakeArray
returns-in-MakeArray c =
    let nodes = c.args.runtime.now.nodes in
    let x = c.argument-x.ensures in
    rw (c.in-Some.is, c.in-MakeArray.is, ← x.value nodes, ← second_stays nodes _ _ _ x.rest, ← c.argument-value.ensures.value nodes) c.array.ensures

pub returns-in-Define : goal.returns-in-Define
returns-in-Define c =
    let nodes = c.args.runtime.now.nodes in
    let x = c.argument-x.ensures in
    rw (c.in-Some.is, c.in-Define.is, ← x.value nodes, ← second_stays nodes _ _ _ x.rest, ← c.argument-entry.ensures.value nodes) c.define.ensures

pub returns-in-Plain : goal.returns-in-Plain
returns-in-Plain c =
    let nodes = c.args.runtime.now.nodes in
    let x = c.argument-x.ensures in
    rw (
      c.in-Some.is,
      c.in-Plain.is,
      ← x.value nodes,
      ← second_stays nodes _ _ _ x.rest,
      ← c.argument-y.ensures.value nodes,
      ← third_stays nodes _ _ _ _ _ x.rest c.argument-y.ensures.rest,
      ← c.argument-z.ensures.value nodes,
    )
    (c.plain_value.ensures c.args.runtime.now (x.known nodes c.requires))
