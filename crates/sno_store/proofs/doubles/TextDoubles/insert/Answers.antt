use Rattle.std.proofs.Common.{◌≡◌, ◌∙◌, false, ap, rules, subst, sym}
use Rattle.std.specs.Ordering.{nat_cmp, is_eq}
use Rattle.std.specs.Cmp.Lexicographic.{slice_cmp}
use Rattle.std.specs.BTreeMap.{insert_entry}
use Rattle.std.specs.Map.{lookup}
use Rattle.sno_store.proofs.DoubleLaws.{lookup_other, text_apart, text_equal}
use Rattle.sno_store.proofs.doubles.TextDoubles.insert.Goals as goal

pub returns-clause-others : goal.returns-clause-others
returns-clause-others c =
    let text = c.args.text.now in
    let key = c.in_ok-key.key in
    let own : key.items ≡ text = search rules in
    let old = c.args.self.now.places.entries in
    let entries : c.insert.new.self.entries ≡ insert_entry (λ a b. slice_cmp nat_cmp a.items b.items) old key c.args.place = c.in_ok-insert.ensures.entries in
    record {
      each = λ t other.
          let apart : is_eq (slice_cmp nat_cmp t key.items) ≡ false =
          subst (λ k. is_eq (slice_cmp nat_cmp t k) ≡ false) (sym own) (text_apart t text other) in
          ap (lookup (λ e. is_eq (slice_cmp nat_cmp t e.items))) entries
          ∙ lookup_other (λ a b. slice_cmp nat_cmp a.items b.items) (λ e. is_eq (slice_cmp nat_cmp t e.items)) key c.args.place apart
          (λ e same. subst (λ k. is_eq (slice_cmp nat_cmp t k) ≡ false) (text_equal key.items e.items same) apart) old;
    }
