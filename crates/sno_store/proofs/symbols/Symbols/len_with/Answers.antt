use Rattle.std.proofs.Common.{◌≡◌, ◌∙◌, ◌+◌, true, false, ap, arith, rules, length, if◌then◌else◌}
use Rattle.sno_store.specs.inner.Seen.{prototype_seen}
use Rattle.sno_store.proofs.CountLaws.{counted, prototype_counted}
use Rattle.sno_store.proofs.NameLaws.{with_name}
use Rattle.sno_store.proofs.symbols.Symbols.len_with.Goals as goal
use Rattle.sno_store.proofs.symbols.Symbols.len_with.Goals.{then-has, else-has}

pub returns : goal.returns
returns c =
    let p = prototype_seen c.args.parts in
    let one : length (with_name p.function c.args.self.now) ≡ length c.args.self.now + c.if-has.function =
    counted p.function c.args.self.now c.has.result c.has.ensures
    ∙ elim c.if-has.branch [
      | then-has w ↦ (let known : c.has.result ≡ true = search rules in ap (λ b. length c.args.self.now + (if b then 0 else 1)) known
          ∙ omega (arith, w.function-is))
      | else-has w ↦ (let known : c.has.result ≡ false = search rules in ap (λ b. length c.args.self.now + (if b then 0 else 1)) known
          ∙ omega (arith, w.function-is))
    ]
    in
    ap (λ n. n + c.if-has.function + c.count_new-formals.result + c.count_new-locals.result) c.len.ensures.number
    ∙ prototype_counted p c.args.self.now c.if-has.function c.count_new-formals.result c.count_new-locals.result one c.count_new-formals.ensures.number
    c.count_new-locals.ensures.number
