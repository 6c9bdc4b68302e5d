use Rattle.std.proofs.Common.{◌≡◌, ◌∙◌, ℕ, suc, ◌+◌, ◌-◌, ◌*◌, ◌%◌, ◌∷◌, drop, get_or, length, nat_lt, ap, arith, rules, sym}
use Rattle.std.proofs.Math.Seq.{drop-cons, drop-length}
use Rattle.sno_value.specs.Keys.{letter, letters}
use Rattle.sno_value.proofs.KeyLaws.{longer}
use Rattle.sno_value.proofs.keys.name_key.Goals as goal

pub letters-init : goal.letters-init
letters-init c = record {
  within = omega arith;
  few = c.if-name-gt-MOST_LETTERS.false;
  told = λ more. sym (drop-length c.args.name.now);
}

pub letters-preserved : goal.letters-preserved
letters-preserved c =
    let key = c.letters.key in
    let digit = c.in-Some.digit in
    let name = c.args.name.now in
    let left = c.letters.left in
    let known = c.in-Some.ensures in
    let within = c.letters.invariant.within in
    let some = c.letters-test.true in
    let is : c.in-Some-checked_add.longer ≡ key * 66 + digit =
    c.in-Some-checked_add.ensures.1 ∙ ap (λ n. n + digit) c.in-Some-checked_mul.ensures.1 in
    let told : (more : ℕ) → letters (nat_lt (c.in-Some-checked_add.longer % 66) 2) (length name - (left - 1) + more) c.in-Some-checked_add.longer
    ≡ drop (left - 1) name = λ more.
    let count : length name - (left - 1) + more ≡ suc (length name - left + more) = omega (arith, within, some) in
    let behind : left ≡ suc (left - 1) = omega (arith, some) in
    ap (λ n. letters (nat_lt (n % 66) 2) (length name - (left - 1) + more) n) is
    ∙ ap (λ m. letters (nat_lt ((key * 66 + digit) % 66) 2) m (key * 66 + digit)) count
    ∙ longer key digit (length name - left + more) known.0 known.1
    ∙ ap (λ bytes. letter digit ∷ bytes) (c.letters.invariant.told more)
    ∙ ap (λ byte. byte ∷ drop left name) known.2
    ∙ ap (λ n. get_or name (left - 1) 0 ∷ drop n name) behind
    ∙ sym (drop-cons name (left - 1) 0 (omega (arith, within, some))) in
    record {
      within = omega (arith, within);
      few = c.letters.invariant.few;
      told = told;
    }

pub returns : goal.returns
returns c = λ some.
    let name = c.args.name.now in
    let none : c.letters.left ≡ 0 = omega (arith, c.letters-test.false) in
    let all : length name - c.letters.left + (10 - length name) ≡ 10 = omega (arith, none, c.letters.invariant.few) in
    let told = c.letters.invariant.told (10 - length name) in
    (sym (ap (λ n. letters (nat_lt (c.letters.key % 66) 2) n c.letters.key) (sym all) ∙ told ∙ ap (λ n. drop n name) none), search rules)
