use Rattle.kc_c.proofs.Steps.{◌≡◌, ℕ, List, [], ◌∷◌, ◌++◌, refl, sym, ap, ◌∙◌, subst, lit<, proved_at, full_share, SProp, ent, id⊢, ftrue, flft, named, Val, tables, fact, ‵, raw, ◌⊛◌, some, later, ◌$◌, ◌∵◌, !, qed, done, drop, move, keep, split, join, fsplit, fsplit3, fjoin, rewrite, suffices, frame, group, feq_i, use1, pick, await, enter, of_opd, lit, load, stop, fld, no_more, and_then, assigns, first, blocks, exec, returns, alloc_all, pass_all, free_all, look_at, get, through, sets, whole, sub, look_in, store_in, cell_at, shows, yes, Ptr, block_ptr, in_a_block, mut_Tells, plain, nothing, opens, closes, peeks, heard, Stays, walk_of, stay_ref, stay_dropped, Goes-dropped, Goes-ref, ends_at}
use prog.Wp.{WpFn}
use mir.Raw.{raw as bare}
use mir.Val.{vptr}
use base.Logic.{emp, never, fst∗}
use contract.BorrowLft.{◌⊑◌, ⊑_static}
use contract.Monad.{fact_i}
use denote.Triple.Call.{calls_at_last}
use denote.Triple.Table.{framed}
use types.ByLocal.{lands_last, env}
use types.Kit.{at_ret}
use types.Logic.{sem}
use denote.Memory.{lone}
use types.Kit.{use0}
use denote.Param.NoDrop.{glues}
use denote.RawPtr.{null_ptr}
use denote.RattleType.{owns}
use denote.Signature.{types_at}
use denote.Triple.Spec.{triple_of}
use base.Fml.{fsep}
use denote.Steps.{only}
use Rattle.core.proofs.alloc.Calls.{Fits, handle_tells}
use Rattle.core.proofs.mem.Facts.{says_two}
use Rattle.kc_c.proofs.Boxes.{Boxed, Client, Heap, boxed, client_passes, heap, heap_drop, heap_passes, passed}
use Rattle.kc_c.proofs.Words.{closed_in, word}
use Rattle.kc_c.specs.Held.{chunk, held_while}
use Rattle.std.specs.Box.Ownership.{box_owns}
use Rattle.std_heap.specs.contracts.GlobalAllocator.TheImpl.{ghosts, dict}
use Rattle.std_heap.proofs.GlobalAllocator.TheImpl.Met as heap_met
use Rattle.std_alloc.specs.contracts.boxed.Box.from_raw as from
use Rattle.std_alloc.proofs.boxed.Box.from_raw.Met as from_met
use Rattle.kc_c.specs.contracts.handle.KcasCaller.take as f
use Rattle.kc_c.proofs.handle.KcasCaller.take.Statement.{statement}
use Rattle.kc_c.proofs.handle.KcasCaller.take.Code as code
use Rattle.kc_c.proofs.Destruct++none.drop.Code.{code as drop_code}
use Rattle.kc_c.specs.contracts.handle.KcasCaller.{the_row as R}
use Rattle.kc_c.proofs.handle.KcasCaller.TheLaws.{lowers}
use Rattle.kc_c.specs.declared.handle.KcasCaller.{KcasCaller}

abbrev stayed : Stays f.ended.signature.params f.ended.kept
stayed = (stay_ref (0 ∷ []) tt (plain (λ _. R)), (stay_dropped (plain (λ _. Heap)) yes, tt))

pub take_spec : {M : Type 1} → statement M
unfolding drop_code
take_spec {M} 𝓤 𝓛 𝓜 𝓡 wired =
    let c = f.clauses 𝓛 𝓜.mem 𝓡.returns in let 𝓣 = tables 𝓤 𝓛.H 𝓜 𝓡 𝓡.env in
    let Out = triple_of 𝓛 (from.signature (passed Client) (passed Heap) ghosts dict heap_drop) (from.spec (passed Client) (passed Heap) ghosts dict heap_drop 𝓛 𝓜.mem 𝓡.returns) in
    let known = from_met.met 𝓤 𝓛 𝓜 𝓡 (code.calls-std_alloc::boxed::Box::from_raw 𝓡.env wired) (passed Client) (passed Heap) client_passes heap_passes ghosts dict heap_drop
    (heap_met.passed 𝓡.env (code.calls-std_heap::GlobalAllocator::allocate 𝓡.env wired) (code.calls-std_heap::GlobalAllocator::deallocate 𝓡.env wired) (code.calls-std_heap::GlobalAllocator::grow 𝓡.env wired) (code.calls-std_heap::GlobalAllocator::shrink 𝓡.env wired) M 𝓤 𝓛 𝓜 𝓡)
    (glues "kc_c::Destruct++none::drop" 𝓡.env (code.calls-kc_c::Destruct++none::drop 𝓡.env wired) (passed Heap) heap_passes M 𝓤 𝓛 𝓜 𝓡) in
    proved_at 𝓛 f.ended stayed c 𝓜 𝓡 (Goes-ref 𝓛 1 0 tt (plain (λ _. R)), (Goes-dropped 𝓛 1 (plain (λ _. Heap)) yes (λ κs x w. refl), tt))
    f.Key.name code.function (code.unfolded 𝓤 𝓛.H 𝓜 𝓡 wired) (λ z are.
    let κs = z.0.0 in let qs = z.0.1 in let r = z.0.3.0 in let a = z.0.3.1.0 in
    let b = r.ref_ptr.0 in let o = r.ref_ptr.1 in let h = r.now in
    let Post : Val → SProp 𝓤 = (walk_of 𝓛 f.ended stayed c).post z in let Run : List Val → SProp 𝓤 = λ ws. WpFn 𝓤 𝓛.H 𝓣.C 𝓣.Λ code.function ws Post in
    qed 𝓛 (((‵ (flft κs.0 qs.0) ⊛ ‵ ftrue) ⊛ ‵ (owns (types_at f.ended.signature.params κs) z.0.3 z.0.4)) ∷ raw (fact 𝓤 (h.held ≡ 1)) ∷ []) ∵
    move ! (1 ∷ []) $ heard ! _ (λ one. split ! $ move ! (1 ∷ []) $ fsplit ! $ move ! (1 ∷ []) $ fsplit ! $
    handle_tells heap ! a z.0.4.1.0 (λ g eg fits.
    -- [the allocator; nothing; the reference; the tokens]
    move ! (3 ∷ []) $ split ! $ keep ! (0 ∷ 4 ∷ 2 ∷ []) $
    let er : z.0.4.0 ≡ vptr b o ∷ [] = mut_Tells (named 0) κs.0 R r z.0.4.0 are.0 in
    let us : List Val = vptr b o ∷ g ∷ [] in
    suffices ! (Run us) (subst (λ (xs : List Val). ent 𝓤 (Run us) (Run xs)) (sym (λ i. er i ++ (eg i ++ []))) (id⊢ 𝓤 (Run us))) $
    enter ! _ _ _ _ _ $ alloc_all ! (λ l. pass_all ! refl ((tt, tt), (fits, tt)) $
    move ! (1 ∷ []) $ fsplit3 ! $ move ! (1 ∷ 2 ∷ 3 ∷ []) $ opens ! tt R b o (λ xs.
    move ! (1 ∷ []) $ peeks ! R _ (shows 𝓛 R) h xs (λ is. fsplit ! $ drop ! $
    rewrite ! 0 (λ (n : ℕ). ‵ (held_while n (box_owns chunk Client h.at h.value))) one refl $
    in_a_block ! h.at (λ p. box_owns chunk Client p h.value) (fst∗ 𝓤 (never 𝓤) (sem 𝓛 (chunk (bare (lone Client.mir)) null_ptr))) (λ b' o' e.
    let old = lowers.val_is h xs is ∙ ap (λ (p : Ptr). lowers.lowered (record h { at = p }) ∷ []) e in
    let Cell = λ (ys : List Val). ‵ (cell_at full_share R.mir ys b o) in
    rewrite ! 1 Cell old refl $
    -- [the value; the struct's cell; the open borrow, in three entries; the reference's first part; the allocator]
    assigns ! (of_opd ! (lit ! tt)) (through ! refl (fld ! refl (stop !))) (store_in ! 1 (sub ! 0 refl (whole !)) (tt, record { fits = lit< tt })) $
    first ! $ blocks ! $
    sets ! (of_opd ! (load ! (through ! refl (fld ! refl (stop !))) (look_in ! 1 (sub ! 1 refl (whole !))))) refl (tt, tt) $
    sets ! (of_opd ! (get ! refl)) refl (tt, tt) $
    move ! (1 ∷ 2 ∷ 3 ∷ 4 ∷ []) $ closed_in ! b' o' h.value $ move ! (1 ∷ []) $
    let new : KcasCaller = record { held = 0; at = block_ptr b' o'; value = h.value } in
    closes ! tt R new (word 0 b' o' ∷ []) b o $
    -- [the reference's last parts; its token; the value; the reference's first part; the allocator]
    let y : Out.Ghost = ((([], ([], tt)), (full_share, (full_share, tt)), tt, (a, (block_ptr b' o', tt)), (g ∷ [], (vptr b' o' ∷ [], tt))), h.value) in
    move ! (3 ∷ 5 ∷ []) $
    use0 𝓛 (raw (fact 𝓤 ([] ⊑ Heap.lives))) (fact_i 𝓤 ([] ⊑ Heap.lives) (emp 𝓤) (⊑_static [])) $ join ! $
    use0 𝓛 (raw (fact 𝓤 ([] ⊑ Client.lives))) (fact_i 𝓤 ([] ⊑ Client.lives) (emp 𝓤) (⊑_static [])) $ join ! $
    nothing ! $ feq_i ! (List Val) (vptr b' o' ∷ []) (vptr b' o' ∷ []) refl $ fjoin ! $ move ! (2 ∷ 0 ∷ []) $ fjoin ! $
    nothing ! $ use0 𝓛 (‵ (flft [] full_share)) (𝓛.lfts.lft-nil full_share) $ join ! $ use0 𝓛 (‵ (flft [] full_share)) (𝓛.lfts.lft-nil full_share) $ join ! $
    join ! $ join ! $ use1 𝓛 (raw (Out.pre y)) (id⊢ 𝓤 _) $
    calls_at_last ! (framed 𝓤 𝓛.H 𝓜 𝓣) Out known y (and_then ! (get ! refl) (and_then ! (get ! refl) (no_more !))) (λ u.
    use1 𝓛 (later (some (λ (x : Boxed.Denot). ((‵ (flft [] full_share) ⊛ ‵ (flft [] full_share) ⊛ ‵ ftrue) ⊛ ‵ (Boxed.own_val x (u ∷ []))) ⊛
    some (λ (ws : Unit {0} × (Unit {0} × Unit {0})). ‵ (fsep ftrue (fsep ftrue ftrue)) ⊛ (raw (fact 𝓤 (x.value ≡ h.value)) ⊛ raw (fact 𝓤 (x.alloc ≡ a))))))) (id⊢ 𝓤 _) $
    await ! tt $ pick ! (λ x. split ! $ move ! (1 ∷ []) $ pick ! (λ ws. split ! $ drop ! $ split ! $ heard ! (x.value ≡ h.value) (λ same. drop ! $ split ! $ drop ! $
    handle_tells boxed ! x (u ∷ []) (λ v ev whole_box.
    let typed : Fits boxed u = subst (λ (w : Val). Fits boxed w) (sym (ap only ev)) whole_box in
    rewrite ! 0 (λ (ws : List Val). ‵ (Boxed.own_val x ws)) (sym ev) refl $ lands_last ! refl typed $
    exec ! 𝓣.C 𝓣.Λ (env code.Mir.locals l) code.Mir.t-3 (at_ret _ Post) $
    sets ! (of_opd ! (get ! refl)) refl typed $
    returns ! (look_at ! 0 refl) $ free_all ! refl $
    -- [the box; the reference's last parts; its token; its first part]
    move ! (4 ∷ 1 ∷ 2 ∷ 3 ∷ []) $
    suffices ! _ (ends_at 𝓛 f.ended stayed c z u x (new, (tt, tt)) (tt, (tt, tt))) $ says_two ! (same, refl) $
    group ! 3 $ nothing ! $ nothing ! $ join ! $ move ! (1 ∷ 0 ∷ []) $ join ! $ nothing ! $ move ! (2 ∷ 0 ∷ []) $ join ! $ frame ! $ frame ! $ done !))))))))))))
