use Rattle.snobol.proofs.TurnLaws.{chain_same}
use Rattle.snobol.proofs.laws.chains_end.Goals as goal

pub returns : goal.returns
returns c = λ program call most more n w h. chain_same program call more most n w h
