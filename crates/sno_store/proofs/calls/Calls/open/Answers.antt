use Rattle.std.proofs.Common.{◌+◌, ◌∙◌, ◌++◌, [], ◌∷◌, ap, refl, length, map, get_or, set}
use Rattle.sno_value.specs.declared.value.Value.TheVariants.{Str}
use Rattle.sno_store.specs.Calls.{with_arguments, with_nulls}
use Rattle.sno_store.specs.inner.Seen.{calls_seen}
use Rattle.sno_store.proofs.CallLaws.{numbers, opened, given}
use Rattle.sno_store.proofs.calls.Calls.open.Goals as goal

pub returns-clause-ok : goal.returns-clause-ok
returns-clause-ok c =
    let before = c.self.inside.saved.items in
    let counts = c.self.inside.counts.items in
    let formals = c.formals-formals.result.now in
    let locals = c.locals-locals.result.now in
    let values = c.args.values.now.items in
    let did = opened counts before c.args.function formals locals values c.save_one.new.saved.items c.save.new.saved.items c.save-2.new.saved.items
    c.save_one.new.values.items c.save.new.values.items (1 + length formals + length locals) c.self.invariant refl
    (c.save_one.ensures.saved ∙ ap (λ ss. ss ++ (c.args.function, get_or values c.args.function.0 (Str [])) ∷ []) c.in_ok-reserve.ensures.items)
    c.save_one.ensures.values
    c.save.ensures.saved c.save.ensures.values c.save-2.ensures.saved in
    ap (λ ks. calls_seen ks c.save-2.new.saved.items) (c.push_reserved.ensures.items ∙ ap (λ ks. ks ++ (1 + length formals + length locals) ∷ [])
    c.in_ok-reserve-2.ensures.items) ∙ did.0
    ∙ (λ i. c.self.view_is i
    ++ map (λ t. (t, get_or values t (Str []))) (c.args.function.0 ∷ (c.formals-formals.ensures i ++ c.locals-locals.ensures i)) ∷ [])

pub returns-clause-values : goal.returns-clause-values
returns-clause-values c =
    let formals = numbers c.formals-formals.result.now in
    let locals = numbers c.locals-locals.result.now in
    let values = c.args.values.now.items in
    c.give.ensures
    ∙ ap (with_arguments (Str []) formals c.args.arguments.now)
    (c.save-2.ensures.values ∙ ap (with_nulls (Str []) locals) (c.save.ensures.values ∙ ap (with_nulls (Str []) formals) c.save_one.ensures.values))
    ∙ given (Str []) formals locals c.args.arguments.now (set values c.args.function.0 (Str []))
    ∙ (λ i. with_arguments (Str []) (c.formals-formals.ensures i) c.args.arguments.now
    (with_nulls (Str []) (c.locals-locals.ensures i) (set values c.args.function.0 (Str []))))
