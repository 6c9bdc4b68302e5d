use Rattle.std.proofs.Common.{[], ◌∷◌, ◌++◌, refl, sym, subst, List, Some, ◌≡◌}
use base.Logic.{SProp, ent, emp, id⊢}
use base.Fml.{ftrue}
use mir.Val.{Val, vptr, vstruct, vcons, vnil}
use prog.Wp.{WpFn}
use types.Kit.{‵, raw, ◌⊛◌, ◌$◌, ◌∵◌, !, qed, by, keep, move, split, fsplit, feq_i, fjoin, fpack, use0, suffices}
use types.Run.{enter, of_opd, no_more, and_then, returns, stop, fld}
use types.ByLocal.{alloc_all, pass_all, free_all, look_at, sets, get, get_in}
use types.Part.{agg, sub, whole}
use contract.Monad.{fact, fact_i}
use contract.Running.{tables}
use denote.Builtin.{RawPtr}
use denote.Exit.{yes}
use denote.RattleType.{RattleType, Valss, owns}
use denote.RawPtr.{block_ptr}
use denote.Signature.{plain, types_at}
use denote.Steps.{nothing}
use denote.Struct.Struct.{within}
use denote.Struct.Owning.{shape}
use denote.Triple.Entry.{alive}
use denote.Triple.Walked.{Stays, stay_dropped, Goes-dropped, walk_of}
use Rattle.std.proofs.raw_atomic.Walks.{proved_at, leaves}
use Rattle.std.specs.contracts.alloc.Global as heap
use Rattle.std.proofs.alloc.Global.TheLaws as heap_laws
use Rattle.std.specs.contracts.impls.GlobalAllocator.TheImpl as heap_impl
use Rattle.sno_calls.proofs.Values.{both, Loose, loose_good, loose_out}
use Rattle.sno_calls.specs.contracts.search.Search as inner
use Rattle.sno_calls.specs.contracts.handle.Handle as handle
use Rattle.sno_calls.specs.contracts.handle.Handle.of as f
use Rattle.sno_calls.proofs.handle.Handle.of.Statement.{statement}
use Rattle.sno_calls.proofs.handle.Handle.of.Code as code

pub of_spec : {M : Type 1} → statement M
of_spec 𝓤 𝓛 𝓜 𝓡 wired =
    let H = 𝓛.H in let 𝓣 = tables 𝓤 H 𝓜 𝓡 𝓡.env in let c = f.clauses 𝓛 𝓜.mem 𝓡.returns in
    let R : RattleType = inner.the_row in let Z : RattleType = heap.the_row in let LZ = heap_laws.the_row_laws in let L = plain (λ _. Loose R Z LZ heap_impl.ghosts) in
    let hs : Stays f.ended.signature.params f.ended.kept = (stay_dropped L yes, tt) in
    proved_at 𝓛 f.ended hs c 𝓜 𝓡 (Goes-dropped 𝓛 0 L yes (λ κs x g. refl), tt) f.Key.name code.function (code.unfolded 𝓤 𝓛.H 𝓜 𝓡 wired) (λ z are.
    let Post : Val → SProp 𝓤 = (walk_of 𝓛 f.ended hs c).post z in let Run : List Val → SProp 𝓤 = λ ws. WpFn 𝓤 H 𝓣.C 𝓣.Λ code.function ws Post in
    let v = z.0.3.0 in
    qed 𝓛 ((raw (alive 𝓛 f.signature z.0.0 z.0.1) ⊛ ‵ (owns (types_at f.signature.params z.0.0) z.0.3 z.0.4)) ∷ ‵ ftrue ∷ []) ∵
    split ! $ move ! (1 ∷ []) $ fsplit ! $ loose_out R Z LZ heap_impl.ghosts ! v z.0.4.0 (λ b o h e ws fits.
    let given : Val = both (vptr b o) h in let w : Val = vstruct (vcons (vptr b o) vnil) in
    suffices ! (Run (given ∷ [])) (subst (λ (us : List Val). ent 𝓤 (Run (given ∷ [])) (Run us)) (sym (λ i. ws i ++ [])) (id⊢ 𝓤 (Run (given ∷ [])))) $
    enter ! 𝓣.C 𝓣.Λ code.function (given ∷ []) Post $ alloc_all ! (λ l. pass_all ! refl (loose_good R Z LZ heap_impl.ghosts b o h fits, tt) $
    sets ! (of_opd ! (get_in ! (fld ! refl (stop !)) (sub ! 0 refl (whole !)))) refl (tt, tt) $ sets ! (of_opd ! (get ! refl)) refl (tt, tt) $
    sets ! (agg ! (and_then ! (get ! refl) (no_more !))) refl (tt, (tt, tt)) $
    nothing ! $
    feq_i ! (List Val) (vptr b o ∷ []) (vptr b o ∷ []) refl $ fjoin ! $ feq_i ! (List Val) (w ∷ []) (w ∷ []) refl $ fjoin ! $
    fpack ! (Valss (RawPtr ∷ [])) (within (shape handle.the_type) (block_ptr b o, tt) (w ∷ [])) (vptr b o ∷ [], tt) $ fjoin ! $
    use0 𝓛 (raw (fact 𝓤 (Some v.value ≡ Some v.value))) (fact_i 𝓤 (Some v.value ≡ Some v.value) (emp 𝓤) refl) $ nothing ! $ nothing ! $ fjoin ! $
    returns ! (look_at ! 0 refl) $ free_all ! refl $ keep ! (5 ∷ 0 ∷ 2 ∷ 1 ∷ []) $
    by ! (leaves 𝓛 f.ended hs c z w (record { at = block_ptr b o; value = Some v.value }) (tt, tt) (tt, tt)))))
