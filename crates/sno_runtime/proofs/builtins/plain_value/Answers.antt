use Rattle.sno_runtime.proofs.builtins.plain_value.Goals as goal

pub returns-in-Compare : goal.returns-in-Compare
returns-in-Compare c s k = rw c.in-Compare.is (c.comparison.ensures s)

pub returns-in-Remdr : goal.returns-in-Remdr
returns-in-Remdr c s k = rw c.in-Remdr.is (c.remainder.ensures s)

pub returns-in-Ident : goal.returns-in-Ident
returns-in-Ident c s k = rw c.in-Ident.is (c.ident.ensures s)

pub returns-in-Differ : goal.returns-in-Differ
returns-in-Differ c s k = rw c.in-Differ.is (c.differ.ensures s)

pub returns-in-Lgt : goal.returns-in-Lgt
returns-in-Lgt c s k = rw c.in-Lgt.is (c.is_after.ensures s)

pub returns-in-Integer : goal.returns-in-Integer
returns-in-Integer c s k = rw c.in-Integer.is (c.integer.ensures s)

pub returns-in-Size : goal.returns-in-Size
returns-in-Size c s k = rw c.in-Size.is (c.size.ensures s)

pub returns-in-Trim : goal.returns-in-Trim
returns-in-Trim c s k = rw c.in-Trim.is (c.trimmed.ensures s k)

pub returns-in-Dupl : goal.returns-in-Dupl
returns-in-Dupl c s k = rw c.in-Dupl.is (c.copies.ensures s)

pub returns-in-Replace : goal.returns-in-Replace
returns-in-Replace c s k = rw c.in-Replace.is (c.replaced.ensures s k)
