use Rattle.std.proofs.Common.{◌≡◌, ◌∙◌, sym, ap, rules, get_or, drop, take, length, ◌-◌, true, ◌&&◌}
use Rattle.std.proofs.lemmas.List.{take_rest}
use Rattle.std.specs.List.{list_all}
use Rattle.sno_store.specs.Definitions.{is_letter, is_name_byte}
use Rattle.sno_store.proofs.FunctionLaws.{name_parts}
use Rattle.sno_store.proofs.function_prototype.is_name.Goals as goal

pub returns-then-is_letter : goal.returns-then-is_letter
returns-then-is_letter c =
    let letter : is_letter (get_or c.args.name.now 0 0) ≡ true = search rules in
    let rest : c.are_name_bytes.result ≡ list_all is_name_byte (take (length c.args.name.now - 1) (drop 1 c.args.name.now)) = search rules in
    rest ∙ ap (list_all is_name_byte) (take_rest c.args.name.now 1) ∙ ap (λ b. b && list_all is_name_byte (drop 1 c.args.name.now)) (sym letter)
    ∙ sym (name_parts c.args.name.now c.in-len1-up.len_at_least)
