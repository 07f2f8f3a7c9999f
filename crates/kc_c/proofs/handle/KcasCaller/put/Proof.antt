use Rattle.kc_c.proofs.Steps.{◌≡◌, List, [], ◌∷◌, ◌++◌, refl, sym, ap, ◌∙◌, subst, lit<, proved_at, full_share, SProp, ent, id⊢, ftrue, flft, named, Val, vunit, tables, fact, ‵, raw, ◌⊛◌, some, later, ◌$◌, ◌∵◌, !, qed, done, drop, move, keep, split, join, fsplit, fsplit3, fjoin, rewrite, suffices, frame, group, feq_i, feq_l, use1, pick, await, enter, of_opd, lit, unit_lit, stop, fld, no_more, and_then, assigns, returns, alloc_all, pass_all, free_all, look_at, get, through, sets, lands_as, whole, sub, store_in, cell_at, shows, yes, Ptr, block_ptr, in_a_block, mut_Tells, plain, nothing, opens, closes, peeks, Stays, walk_of, stay_ref, stay_dropped, Goes-dropped, Goes-ref, ends_at}
use base.Logic.{emp, never, fst∗}
use contract.BorrowLft.{◌⊑◌, ⊑_static}
use contract.Monad.{fact_i}
use denote.Memory.{lone}
use denote.Param.NoDrop.{glues}
use denote.RawPtr.{RawPtr, null_ptr, ptr_val}
use denote.RattleType.{owns}
use denote.Signature.{types_at}
use denote.Steps.{only}
use denote.Triple.Call.{calls_at}
use denote.Triple.Spec.{triple_of}
use denote.Triple.Table.{framed}
use mir.Raw.{raw as bare}
use mir.Val.{vptr}
use prog.Wp.{WpFn}
use types.Kit.{use0}
use types.Logic.{sem}
use base.Fml.{fsep}
use Rattle.core.proofs.alloc.Calls.{handle_tells}
use Rattle.core.proofs.mem.Facts.{says_two}
use Rattle.kc_c.proofs.Boxes.{Boxed, Client, Heap, boxed, client_drop, client_passes, heap_drop, heap_passes, lets_go, passed}
use Rattle.kc_c.proofs.Words.{handle_in, word}
use Rattle.kc_c.specs.Held.{chunk}
use Rattle.kc_c.specs.declared.handle.KcasCaller.{KcasCaller}
use Rattle.kc_c.specs.contracts.handle.KcasCaller.{the_row as R}
use Rattle.kc_c.proofs.handle.KcasCaller.TheLaws.{lowers}
use Rattle.kc_c.specs.contracts.handle.KcasCaller.put as f
use Rattle.kc_c.proofs.handle.KcasCaller.put.Statement.{statement}
use Rattle.kc_c.proofs.handle.KcasCaller.put.Code as code
use Rattle.kc_c.proofs.Destruct++none.drop.Code.{code as drop_code}
use Rattle.std.specs.Box.Ownership.{box_owns}
use Rattle.std_alloc.specs.contracts.boxed.Box.into_raw as into
use Rattle.std_alloc.proofs.boxed.Box.into_raw.Met as into_met
use Rattle.std_heap.specs.contracts.GlobalAllocator.TheImpl.{ghosts, dict}
use Rattle.std_heap.proofs.GlobalAllocator.TheImpl.Met as heap_met

abbrev stayed : Stays f.ended.signature.params f.ended.kept
stayed = (stay_ref (0 ∷ []) tt (plain (λ _. R)), (stay_dropped (plain (λ _. Boxed)) yes, tt))

pub put_spec : {M : Type 1} → statement M
unfolding drop_code
put_spec {M} 𝓤 𝓛 𝓜 𝓡 wired =
    let c = f.clauses 𝓛 𝓜.mem 𝓡.returns in let 𝓣 = tables 𝓤 𝓛.H 𝓜 𝓡 𝓡.env in
    let Loose = triple_of 𝓛 (into.signature (passed Client) (passed Heap) ghosts dict heap_drop client_drop) (into.spec (passed Client) (passed Heap) ghosts dict heap_drop client_drop 𝓛 𝓜.mem 𝓡.returns) in
    let known = into_met.met 𝓤 𝓛 𝓜 𝓡 (code.calls-std_alloc::boxed::Box::into_raw 𝓡.env wired) (passed Client) (passed Heap) client_passes heap_passes ghosts dict heap_drop client_drop
    (heap_met.passed 𝓡.env (code.calls-std_heap::GlobalAllocator::allocate 𝓡.env wired) (code.calls-std_heap::GlobalAllocator::deallocate 𝓡.env wired) (code.calls-std_heap::GlobalAllocator::grow 𝓡.env wired) (code.calls-std_heap::GlobalAllocator::shrink 𝓡.env wired) M 𝓤 𝓛 𝓜 𝓡)
    (glues "kc_c::Destruct++none::drop" 𝓡.env (code.calls-kc_c::Destruct++none::drop 𝓡.env wired) (passed Heap) heap_passes M 𝓤 𝓛 𝓜 𝓡)
    (lets_go 𝓤 𝓛 𝓜 𝓡 (code.calls-kc_c::kc_c++client++Client+Destruct::drop 𝓡.env wired)) in
    proved_at 𝓛 f.ended stayed c 𝓜 𝓡 (Goes-ref 𝓛 1 0 tt (plain (λ _. R)), (Goes-dropped 𝓛 1 (plain (λ _. Boxed)) yes (λ κs x w. refl), tt))
    f.Key.name code.function (code.unfolded 𝓤 𝓛.H 𝓜 𝓡 wired) (λ z are.
    let κs = z.0.0 in let qs = z.0.1 in let r = z.0.3.0 in let held = z.0.3.1.0 in
    let b = r.ref_ptr.0 in let o = r.ref_ptr.1 in let h = r.now in
    let Post : Val → SProp 𝓤 = (walk_of 𝓛 f.ended stayed c).post z in let Run : List Val → SProp 𝓤 = λ ws. WpFn 𝓤 𝓛.H 𝓣.C 𝓣.Λ code.function ws Post in
    qed 𝓛 (((‵ (flft κs.0 qs.0) ⊛ ‵ ftrue) ⊛ ‵ (owns (types_at f.ended.signature.params κs) z.0.3 z.0.4)) ∷ ‵ ftrue ∷ []) ∵
    split ! $ move ! (1 ∷ []) $ fsplit ! $ move ! (1 ∷ []) $ fsplit ! $
    handle_tells boxed ! held z.0.4.1.0 (λ g eg fits.
    -- [the box; nothing; the reference; the token; nothing]
    move ! (3 ∷ []) $ split ! $ keep ! (0 ∷ 4 ∷ 2 ∷ []) $
    let er : z.0.4.0 ≡ vptr b o ∷ [] = mut_Tells (named 0) κs.0 R r z.0.4.0 are.0 in
    let us : List Val = vptr b o ∷ g ∷ [] in
    suffices ! (Run us) (subst (λ (xs : List Val). ent 𝓤 (Run us) (Run xs)) (sym (λ i. er i ++ (eg i ++ []))) (id⊢ 𝓤 (Run us))) $
    enter ! _ _ _ _ _ $ alloc_all ! (λ l. pass_all ! refl ((tt, tt), (fits, tt)) $
    sets ! (of_opd ! (get ! refl)) refl fits $
    let y : Loose.Ghost = ((([], ([], tt)), (full_share, (full_share, tt)), tt, (held, tt), (g ∷ [], tt)), tt) in
    let Owned = λ (p : Ptr). box_owns chunk Client p held.value in
    move ! (2 ∷ []) $ nothing ! $ move ! (1 ∷ 0 ∷ []) $ fjoin ! $
    nothing ! $ use0 𝓛 (‵ (flft [] full_share)) (𝓛.lfts.lft-nil full_share) $ join ! $ use0 𝓛 (‵ (flft [] full_share)) (𝓛.lfts.lft-nil full_share) $ join ! $ join ! $
    nothing ! $ use0 𝓛 (raw (fact 𝓤 ([] ⊑ Heap.lives))) (fact_i 𝓤 ([] ⊑ Heap.lives) (emp 𝓤) (⊑_static [])) $ join ! $
    use0 𝓛 (raw (fact 𝓤 ([] ⊑ Client.lives))) (fact_i 𝓤 ([] ⊑ Client.lives) (emp 𝓤) (⊑_static [])) $ join ! $
    move ! (1 ∷ 0 ∷ []) $ join ! $ use1 𝓛 (raw (Loose.pre y)) (id⊢ 𝓤 _) $
    calls_at ! (framed 𝓤 𝓛.H 𝓜 𝓣) Loose known y (and_then ! (get ! refl) (no_more !)) (λ v.
    use1 𝓛 (later (some (λ (p : Ptr). ((‵ (flft [] full_share) ⊛ ‵ (flft [] full_share) ⊛ ‵ ftrue) ⊛ ‵ (RawPtr.own_val p (v ∷ []))) ⊛
    some (λ (ws : (Unit {0} × (Unit {0} × Unit {0})) × Unit {0}). ‵ (fsep (fsep ftrue (fsep ftrue ftrue)) ftrue) ⊛ ‵ (Owned p))))) (id⊢ 𝓤 _) $
    await ! tt $ pick ! (λ p. split ! $ move ! (1 ∷ []) $ pick ! (λ ws. split ! $ drop ! $
    in_a_block ! p Owned (fst∗ 𝓤 (never 𝓤) (sem 𝓛 (chunk (bare (lone Client.mir)) null_ptr))) (λ b' o' e.
    move ! (1 ∷ []) $ split ! $ drop ! $ feq_l ! (λ at.
    let is_at : v ≡ vptr b' o' = ap only at ∙ ap ptr_val e in
    lands_as ! is_at refl (tt, tt) $
    sets ! (of_opd ! (get ! refl)) refl (tt, tt) $
    -- [the value; the token; the reference]
    move ! (2 ∷ 1 ∷ []) $ fsplit3 ! $ move ! (1 ∷ 2 ∷ 3 ∷ []) $ opens ! tt R b o (λ xs.
    move ! (1 ∷ []) $ peeks ! R _ (shows 𝓛 R) h xs (λ is. drop ! $
    rewrite ! 0 (λ (ws : List Val). ‵ (cell_at full_share R.mir ws b o)) (lowers.val_is h xs is) refl $
    -- [the struct's cell; the open borrow, in three entries; the reference's first part; the value]
    assigns ! (of_opd ! (get ! refl)) (through ! refl (fld ! refl (stop !))) (store_in ! 0 (sub ! 1 refl (whole !)) (tt, tt)) $
    assigns ! (of_opd ! (lit ! tt)) (through ! refl (fld ! refl (stop !))) (store_in ! 0 (sub ! 0 refl (whole !)) (tt, record { fits = lit< tt })) $
    sets ! (of_opd ! (unit_lit !)) refl (tt, tt) $
    move ! (5 ∷ []) $ handle_in ! b' o' held.value $ move ! (1 ∷ []) $
    let new : KcasCaller = record { held = 1; at = block_ptr b' o'; value = held.value } in
    closes ! tt R new (word 1 b' o' ∷ []) b o $
    returns ! (look_at ! 0 refl) $ free_all ! refl $ move ! (3 ∷ []) $
    suffices ! _ (ends_at 𝓛 f.ended stayed c z vunit tt (new, (tt, tt)) (tt, (tt, tt))) $ says_two ! (refl, refl) $
    group ! 3 $ nothing ! $ nothing ! $ join ! $ move ! (1 ∷ 0 ∷ []) $ join ! $ nothing ! $ move ! (2 ∷ 0 ∷ []) $ join ! $ frame ! $ frame ! $
    feq_i ! _ (vunit ∷ []) _ refl $ done !))))))))))
