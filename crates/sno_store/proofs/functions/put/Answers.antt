use Rattle.std.proofs.Common.{◌≡◌, ◌+◌, ◌-◌, ◌∙◌, ap, arith, length, set}
use Rattle.sno_store.proofs.FunctionLaws.{set_function}
use Rattle.sno_store.proofs.functions.put.Goals as goal

pub returns-clause-functions : goal.returns-clause-functions
returns-clause-functions c =
    let all : c.missing._added ≡ c.saturating_sub-missing.result = omega arith in
    let missing : c.missing._added ≡ (c.args.name.0 + 1) - length c.args.functions.now.items = omega arith in
    ap (λ fs. set fs c.args.name.0 c.args.function) c.missing.invariant.items
    ∙ set_function c.args.name.0 c.args.function c.args.functions.now.items c.missing._added missing
