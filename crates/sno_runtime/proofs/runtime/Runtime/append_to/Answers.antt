use Rattle.std.proofs.Common.{◌≡◌, ◌∙◌, sym, subst, List, ℕ, Some}
use Rattle.sno_value.specs.declared.value.Name.TheVariants.{Var}
use Rattle.sno_value.specs.declared.value.Value.TheVariants as stored
use Rattle.sno_store.specs.Store.{value_of, with_value}
use Rattle.sno_runtime.specs.inner.Growing.{string_in}
use Rattle.sno_runtime.proofs.Growing.{put_back, put_longer}
use Rattle.sno_runtime.proofs.runtime.Runtime.append_to.Goals as goal

pub returns-in-Err-clause-err : goal.returns-in-Err-clause-err
returns-in-Err-clause-err c =
    let has : string_in (value_of c.args.self.now.store (Var c.args.symbol)) ≡ Some c.in-Some.text.now =
    rw (← c.self.view_is) (sym (rw c.get.ensures at c.in-Some.ensures)) in
    put_back c.args.symbol _ c.in-Some.text.now c.args.self.now c.set.new.self c.set-in-Err.new.self has c.set.ensures
    (subst (λ (text : List ℕ). c.set-in-Err.new.self ≡ record c.set.new.self { store = with_value (Var c.args.symbol) (stored.Str text) c.set.new.self.store })
    (c.in-Err.ensures.err ∙ c.in_ok-text.ensures) c.set-in-Err.ensures)

pub returns-clause-ok : goal.returns-clause-ok
returns-clause-ok c =
    let has : string_in (value_of c.args.self.now.store (Var c.args.symbol)) ≡ Some c.in-Some.text.now =
    rw (← c.self.view_is) (sym (rw c.get.ensures at c.in-Some.ensures)) in
    put_longer c.args.symbol _ c.in-Some.text.now c.args.self.now c.set.new.self c.set-2.new.self has c.set.ensures c.args.bytes.now _
    (rw c.in_ok-text.ensures at c.in_default-append.ensures.ok) c.set-2.ensures
