use Rattle.std.proofs.Common.{◌≡◌, ◌≤◌, ◌*◌, ◌≤ℤ◌, pos, length, Ok, Some, ap, ◌∙◌, rules, unsigned_abs}
use Rattle.sno_value.specs.Strings.{copies}
use Rattle.sno_value.proofs.Copies.{duplicate_few}
use Rattle.sno_value.proofs.strings.dupl_text.Goals as goal

pub returns-then-count-text-le-MOST_HERE-clause-ok : goal.returns-then-count-text-le-MOST_HERE-clause-ok
returns-then-count-text-le-MOST_HERE-clause-ok c =
    let some : pos 0 ≤ℤ c.args.count = search rules in
    let few : unsigned_abs c.args.count * length c.args.text.now ≤ 22 = search rules in
    let made : c.short_copies.result ≡ copies (unsigned_abs c.args.count) c.args.text.now = search rules in
    ap (λ text. Ok (Some text)) made ∙ duplicate_few c.args.text.now c.args.count some few

pub returns-then-count-text-le-MOST_HERE-clause-too_long : goal.returns-then-count-text-le-MOST_HERE-clause-too_long
returns-then-count-text-le-MOST_HERE-clause-too_long c =
    let is = returns-then-count-text-le-MOST_HERE-clause-ok c in
    (λ h. absurd (cc), λ h. absurd (cc))
