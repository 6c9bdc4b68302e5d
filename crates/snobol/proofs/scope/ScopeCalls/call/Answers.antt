use Rattle.snobol.proofs.scope.ScopeCalls.call.Goals as goal

pub call-requires : goal.call-requires
call-requires g c =
    let within = c.requires.within in
    within.level.1.callable _ _ _ _ _ within.level.0 within.ready c.requires.values

pub returns : goal.returns
returns g c = c.requires.within.level.1.meant _ _ _ _ _ _ _ _ _ _ c.call.ensures
