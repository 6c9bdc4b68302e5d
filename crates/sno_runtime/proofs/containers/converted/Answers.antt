use Rattle.sno_runtime.proofs.containers.converted.Goals as goal

pub returns-in-ToString : goal.returns-in-ToString
returns-in-ToString c = rw c.in-ToString.is (c.to_string.ensures c.args.runtime.now c.requires)

pub returns-in-ToInteger : goal.returns-in-ToInteger
returns-in-ToInteger c = rw c.in-ToInteger.is (c.to_integer.ensures c.args.runtime.now)

pub returns-in-ToPattern : goal.returns-in-ToPattern
returns-in-ToPattern c = rw c.in-ToPattern.is c.to_pattern.ensures
