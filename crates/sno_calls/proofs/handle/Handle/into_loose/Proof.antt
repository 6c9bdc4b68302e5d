use Rattle.std.proofs.Common.{[], ◌∷◌, ◌++◌, refl, sym, subst, List, Some, ◌≡◌, IsSome}
use base.Logic.{SProp, ent, emp, id⊢}
use mir.Val.{Val, vptr, vstruct, vcons, vnil}
use prog.Wp.{WpFn}
use types.Kit.{‵, raw, ◌⊛◌, ◌$◌, ◌∵◌, !, qed, by, keep, move, split, fsplit3, fjoin, use0, suffices}
use types.Run.{enter, of_opd, no_more, and_then, returns, stop, fld}
use types.ByLocal.{alloc_all, pass_all, free_all, look_at, sets, get, get_in}
use types.Part.{agg, sub, whole}
use contract.Monad.{fact, fact_i}
use contract.Running.{tables}
use denote.Exit.{yes}
use denote.RattleType.{RattleType, owns}
use denote.RawPtr.{block_ptr}
use denote.Signature.{plain, types_at}
use denote.Steps.{nothing, heard}
use denote.Triple.Entry.{alive}
use denote.Triple.Walked.{Stays, stay_dropped, Goes-dropped, walk_of}
use Rattle.std.proofs.alloc.Calls.{handle_tells}
use Rattle.std.proofs.raw_atomic.Walks.{proved_at, leaves}
use Rattle.std.specs.contracts.alloc.Global as heap
use Rattle.std.proofs.alloc.Global.TheLaws as heap_laws
use Rattle.std.specs.contracts.impls.GlobalAllocator.TheImpl as heap_impl
use Rattle.sno_calls.proofs.Values.{both, al, loose_good, loose_in, handle_out}
use Rattle.sno_calls.specs.contracts.search.Search as inner
use Rattle.sno_calls.specs.contracts.handle.Handle as handle
use Rattle.sno_calls.specs.contracts.handle.Handle.into_loose as f
use Rattle.sno_calls.proofs.handle.Handle.into_loose.Statement.{statement}
use Rattle.sno_calls.proofs.handle.Handle.into_loose.Code as code

pub into_loose_spec : {M : Type 1} → statement M
into_loose_spec 𝓤 𝓛 𝓜 𝓡 wired =
    let H = 𝓛.H in let 𝓣 = tables 𝓤 H 𝓜 𝓡 𝓡.env in let c = f.clauses 𝓛 𝓜.mem 𝓡.returns in
    let R : RattleType = inner.the_row in let Z : RattleType = heap.the_row in let LZ = heap_laws.the_row_laws in let g = heap_impl.ghosts in
    let hs : Stays f.ended.signature.params f.ended.kept = (stay_dropped (plain (λ _. handle.the_row)) yes, (stay_dropped (plain (λ _. Z)) yes, tt)) in
    proved_at 𝓛 f.ended hs c 𝓜 𝓡 (Goes-dropped 𝓛 0 (plain (λ _. handle.the_row)) yes (λ κs x k. refl), (Goes-dropped 𝓛 0 (plain (λ _. Z)) yes (λ κs x k. refl), tt))
    f.Key.name code.function (code.unfolded 𝓤 𝓛.H 𝓜 𝓡 wired) (λ z are.
    let Post : Val → SProp 𝓤 = (walk_of 𝓛 f.ended hs c).post z in let Run : List Val → SProp 𝓤 = λ ws. WpFn 𝓤 H 𝓣.C 𝓣.Λ code.function ws Post in
    let v = z.0.3.0 in let a = z.0.3.1.0 in
    qed 𝓛 ((raw (alive 𝓛 f.signature z.0.0 z.0.1) ⊛ ‵ (owns (types_at f.signature.params z.0.0) z.0.3 z.0.4)) ∷ raw (fact 𝓤 (IsSome v.value)) ∷ []) ∵
    move ! (1 ∷ []) $ heard ! (IsSome v.value) (λ some. split ! $ move ! (1 ∷ []) $ fsplit3 ! $ handle_out ! v.at v.value z.0.4.0 some (λ b o x e is ws. move ! (1 ∷ []) $
    handle_tells (al R Z LZ g) ! a z.0.4.1.0 (λ h ea fits.
    let given : Val = vstruct (vcons (vptr b o) vnil) in let w : Val = both (vptr b o) h in
    suffices ! (Run (given ∷ h ∷ [])) (subst (λ (us : List Val). ent 𝓤 (Run (given ∷ h ∷ [])) (Run us)) (sym (λ i. ws i ++ (ea i ++ []))) (id⊢ 𝓤 (Run (given ∷ h ∷ [])))) $
    enter ! 𝓣.C 𝓣.Λ code.function (given ∷ h ∷ []) Post $ alloc_all ! (λ l. pass_all ! refl ((tt, (tt, tt)), (fits, tt)) $
    sets ! (of_opd ! (get_in ! (fld ! refl (stop !)) (sub ! 0 refl (whole !)))) refl (tt, tt) $ sets ! (of_opd ! (get ! refl)) refl (tt, tt) $
    sets ! (agg ! (and_then ! (get ! refl) (and_then ! (get ! refl) (no_more !)))) refl (loose_good R Z LZ g b o h fits) $
    move ! (1 ∷ 0 ∷ []) $ loose_in R Z LZ g ! b o h a x $
    use0 𝓛 (raw (fact 𝓤 (v.value ≡ Some x))) (fact_i 𝓤 (v.value ≡ Some x) (emp 𝓤) is) $ nothing ! $ nothing ! $ fjoin ! $ nothing ! $ fjoin ! $
    returns ! (look_at ! 0 refl) $ free_all ! refl $ keep ! (4 ∷ 0 ∷ 2 ∷ 1 ∷ []) $
    by ! (leaves 𝓛 f.ended hs c z w (record { at = block_ptr b o; alloc = a; value = x }) (tt, (tt, tt)) (tt, (tt, tt))))))))
