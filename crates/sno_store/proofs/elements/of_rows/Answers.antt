use Rattle.std.proofs.Common.{◌≡◌, length, ap, sym, ◌∙◌, ◌*◌, ◌∷◌, [], arith, rules}
use Rattle.sno_store.specs.Stored.{stored_notions}
use Rattle.sno_store.specs.Tables.{filled, up_to}
use Rattle.sno_store.specs.Arrays.{element_count}
use Rattle.sno_store.proofs.Prototypes.{rows_count}
use Rattle.sno_store.proofs.EntryLaws.{length-rows}
use Rattle.sno_store.proofs.elements.of_rows.Goals as goal

pub new-requires-2-clause-count : goal.new-requires-2-clause-count
new-requires-2-clause-count c =
    let rows_are = ap length c.in_ok-values.ensures ∙ length-rows (filled stored_notions c.args.entries.now) in
    let dimensions : c.push-2.new.self.items ≡ up_to c.args.count ∷ up_to 2 ∷ [] = search rules in
    rows_are ∙ ap (λ n. 2 * n) (sym c.requires.count) ∙ sym (ap element_count dimensions ∙ rows_count c.args.count c.requires.some)

pub new-requires-2-clause-few : goal.new-requires-2-clause-few
new-requires-2-clause-few c =
    let rows_are = ap length c.in_ok-values.ensures ∙ length-rows (filled stored_notions c.args.entries.now) in
    omega arith
