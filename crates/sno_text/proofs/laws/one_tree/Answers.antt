use Rattle.sno_text.proofs.OneTree.{one_tree}
use Rattle.sno_text.proofs.laws.one_tree.Goals as goal

pub returns : goal.returns
returns c = λ s t u a b. one_tree s t u a b
