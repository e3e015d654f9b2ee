-- `into_box` hands what the pointer owns to `from_raw`, unless it is null.
use Rattle.std.proofs.Common.{◌≡◌, List, [], ◌∷◌, ◌++◌, refl, sym, ap, ◌∙◌, subst, lit<, Some, None}
use Rattle.raptorq_c.proofs.Walking.{Val, vptr, full_share, SProp, emp, id⊢, ftrue, flft, WpFn, ‵, raw, ◌⊛◌, some, later, prop, at_ret, ◌$◌, ◌∵◌, !, qed, by, move, keep, drop, split, split3, join, fsplit, fjoin, pick, regoal, use0, use1, await, rewrite, feq_i, stop, fld, of_opd, no_more, and_then, first, blocks}
use Rattle.raptorq_c.proofs.Walking.{exec, returns, enter, alloc_all, pass_all, free_all, look_at, get, get_in, sets, lands_last, env, sub, whole, fact, fact_i, ◌⊑◌, tables, yes, owns, types_at, plain, Ptr, block_ptr, null_ptr, nothing, only, heard, layout, glues, Lasts, lasts, alive, triple_of, calls_at_last, framed, Stays}
use Rattle.raptorq_c.proofs.Walking.{RattleType, agg, lit, stay_dropped, walk_of, Goes-blank, Good, one, proved_at, leaves, ghosts, dict, passed, box_out, box_in, A, LA, dd, word, word_typed, ptr_typed, told, heap_row, heap_laws, heap_within, box_typed}
use Rattle.std_alloc.specs.contracts.boxed.Box.from_raw as callee
use Rattle.std_alloc.proofs.boxed.Box.from_raw.Met.{met}
use mir.Val.{vcons, vnil}
use types.Run.{bin, branches, skips, returns_within}
use types.Match.{live}
use denote.RawPtr.{tests_null}
use denote.Signature.{type_at}
use Rattle.std.proofs.option.Made.{Some-of, none_of}
use Rattle.std_alloc.proofs.ResultValues.{and_tt}
use Rattle.raptorq_c.specs.declared.kept.Kept.{Kept}
use Rattle.raptorq_c.specs.contracts.slot.Slot as owned
use Rattle.raptorq_c.specs.contracts.slot.Slot.into_box.{ended, clauses, Key.name as #self}
use Rattle.raptorq_c.proofs.SlotBoxes.{T, LT, E, B, row_within, null_or_box}
use Rattle.raptorq_c.proofs.slot.Slot.into_box.Statement.{statement}
use Rattle.raptorq_c.proofs.slot.Slot.into_box.Code as compiled

abbrev stays : Stays ended.signature.params ended.kept
stays = (stay_dropped (plain (λ _. owned.the_row)) yes, (stay_dropped (plain (λ _. heap_row)) yes, tt))

pub into_box_spec : {M : Type 1} → statement M
unfolding Rattle.raptorq_c.proofs.Destruct++none.drop.Code.code
into_box_spec 𝓤 𝓛 𝓜 𝓡 wired =
    let H = 𝓛.H in let c = clauses 𝓛 𝓜.mem 𝓡.returns in let 𝓣 = tables 𝓤 H 𝓜 𝓡 𝓡.env in let fn = compiled.function in
    let allocator = passed 𝓡.env (compiled.calls-std_heap::GlobalAllocator::allocate 𝓡.env wired) (compiled.calls-std_heap::GlobalAllocator::deallocate 𝓡.env wired) (compiled.calls-std_heap::GlobalAllocator::grow 𝓡.env wired) (compiled.calls-std_heap::GlobalAllocator::shrink 𝓡.env wired) _ 𝓤 𝓛 𝓜 𝓡 in
    let glued = glues "raptorq_c::Destruct++none::drop" 𝓡.env (compiled.calls-raptorq_c::Destruct++none::drop 𝓡.env wired) A LA _ 𝓤 𝓛 𝓜 𝓡 in
    proved_at 𝓛 ended stays c 𝓜 𝓡 (Goes-blank 𝓛 0 (plain (λ _. owned.the_row)) yes (λ κs x f. tt), (Goes-blank 𝓛 0 (plain (λ _. heap_row)) yes (λ κs x f. tt), tt)) #self fn (compiled.unfolded 𝓤 H 𝓜 𝓡 wired) (λ z are.
    let Post : Val → SProp 𝓤 = (walk_of 𝓛 ended stays c).post z in let v = z.0.3.0 in let p = v.at in let a = z.0.3.1.0 in
    let got = one (layout heap_row) z.0.4.1.0 ((heap_laws.lawful 𝓛).typed a z.0.4.1.0 are.1.0) in let h = got.0 in
    let k = triple_of 𝓛 (callee.signature T A ghosts dict dd) (callee.spec T A ghosts dict dd 𝓛 𝓜.mem 𝓡.returns) in
    let token = ‵ (flft [] full_share) in let toks = token ⊛ token ⊛ ‵ ftrue in let Out : RattleType = type_at ended.signature.result z.0.0 in
    qed 𝓛 ((raw (alive 𝓛 ended.signature z.0.0 z.0.1) ⊛ ‵ (owns (types_at ended.signature.params z.0.0) z.0.3 z.0.4)) ∷ ‵ ftrue ∷ []) ∵
    split ! $ move ! (1 ∷ []) $ fsplit ! $ fsplit ! $ drop ! $ null_or_box ! p v.value (λ e is.
    -- [the allocator, and no more; what is alive]
    drop ! $ regoal ! (λ (us : List Val). prop (WpFn 𝓤 H 𝓣.C 𝓣.Λ fn us Post)) (λ i. (told p z.0.4.0 are.0.0 ∙ ap (λ (q : Ptr). word q ∷ []) e) i ++ (got.1 i ++ [])) refl $
    enter ! 𝓣.C 𝓣.Λ fn (word null_ptr ∷ h ∷ []) Post $ alloc_all ! (λ l. pass_all ! refl (word_typed null_ptr, (got.2, tt)) $
    sets ! (of_opd ! (get_in ! (fld ! refl (stop !)) (sub ! 0 refl (whole !)))) refl (ptr_typed null_ptr) $ sets ! (of_opd ! (get ! refl)) refl (ptr_typed null_ptr) $
    sets ! (bin ! (get ! refl) (lit ! tt) tt) refl (tt, tt) $ first ! $ branches ! (get ! refl)
    (λ _. sets ! (agg ! (and_then ! (lit ! tt) (no_more !))) refl (tt, (record { fits = lit< tt }, tt)) $ returns_within ! Post refl (look_at ! 0 refl) $ free_all ! refl $
    use0 𝓛 (‵ (Out.own_val None (live 0 vnil ∷ []))) (none_of 𝓛 B) $ use0 𝓛 (raw (fact 𝓤 (v.value ≡ None))) (fact_i 𝓤 (v.value ≡ None) (emp 𝓤) is) $
    nothing ! $ nothing ! $ fjoin ! $ nothing ! $ fjoin ! $ keep ! (3 ∷ 0 ∷ 2 ∷ 1 ∷ []) $ by ! (leaves 𝓛 ended stays c z (live 0 vnil) None (tt, (tt, tt)) (tt, (tt, tt)))) (λ wrong. absurd wrong))) (λ b o x e is tested.
    -- [the block; the allocator, and no more; what is alive]
    let w = word (block_ptr b o) in
    let y : k.Ghost = ((([], ([], tt)), (full_share, (full_share, tt)), tt, (a, (block_ptr b o, tt)), (h ∷ [], (vptr b o ∷ [], tt))), x) in
    regoal ! (λ (us : List Val). prop (WpFn 𝓤 H 𝓣.C 𝓣.Λ fn us Post)) (λ i. (told p z.0.4.0 are.0.0 ∙ ap (λ (q : Ptr). word q ∷ []) e) i ++ (got.1 i ++ [])) refl $
    use0 𝓛 (raw (fact 𝓤 ([] ⊑ A.lives))) (fact_i 𝓤 ([] ⊑ A.lives) (emp 𝓤) (heap_within [])) $ join ! $
    use0 𝓛 (raw (fact 𝓤 ([] ⊑ T.lives))) (fact_i 𝓤 ([] ⊑ T.lives) (emp 𝓤) (row_within [])) $ join ! $
    move ! (1 ∷ []) $ fsplit ! $ rewrite ! 0 (λ (us : List Val). ‵ (heap_row.own_val a us)) got.1 refl $ move ! (1 ∷ []) $
    feq_i ! (List Val) (vptr b o ∷ []) (vptr b o ∷ []) refl $ fjoin ! $ move ! (1 ∷ 0 ∷ []) $ fjoin ! $
    nothing ! $ use0 𝓛 token (𝓛.lfts.lft-nil full_share) $ join ! $ use0 𝓛 token (𝓛.lfts.lft-nil full_share) $ join ! $ join ! $ join ! $ use1 𝓛 (raw (k.pre y)) (id⊢ 𝓤 _) $
    enter ! 𝓣.C 𝓣.Λ fn (w ∷ h ∷ []) Post $ alloc_all ! (λ l. pass_all ! refl (word_typed (block_ptr b o), (got.2, tt)) $ let Ev = env fn.locals l in
    sets ! (of_opd ! (get_in ! (fld ! refl (stop !)) (sub ! 0 refl (whole !)))) refl (tt, tt) $ sets ! (of_opd ! (get ! refl)) refl (tt, tt) $
    sets ! (bin ! (get ! refl) (lit ! tt) (tests_null (block_ptr b o) tested)) refl (tt, tt) $ first ! $ branches ! (get ! refl) (λ wrong. absurd wrong) (λ _. skips ! $
    exec ! 𝓣.C 𝓣.Λ Ev compiled.Mir.t-5 (at_ret Ev Post) $ first ! $ blocks ! $
    sets ! (of_opd ! (get ! refl)) refl got.2 $ sets ! (of_opd ! (get ! refl)) refl (tt, tt) $ sets ! (of_opd ! (get ! refl)) refl (tt, tt) $
    calls_at_last ! (framed 𝓤 H 𝓜 𝓣) k (met 𝓤 𝓛 𝓜 𝓡 (compiled.calls-std_alloc::boxed::Box::from_raw 𝓡.env wired) T A LT LA ghosts dict dd allocator glued) y (and_then ! (get ! refl) (and_then ! (get ! refl) (no_more !))) (λ u.
    use1 𝓛 (later (some (λ (r : B.Denot). (toks ⊛ ‵ (B.own_val r (u ∷ []))) ⊛ some (λ (ls : Lasts (callee.ended T A ghosts dict dd) y.0.0 y.0.3). ‵ (lasts (callee.ended T A ghosts dict dd) y.0.0 y.0.3 ls) ⊛ (raw (fact 𝓤 (r.value ≡ x)) ⊛ raw (fact 𝓤 (r.alloc ≡ a))))))) (id⊢ 𝓤 (k.post y u)) $
    await ! tt $ pick ! (λ r. split ! $ move ! (1 ∷ []) $ pick ! (λ _. split3 ! $ drop ! $ heard ! (r.value ≡ x) (λ same. drop ! $ split ! $ drop ! $
    box_out E ! r (u ∷ []) (λ b' o' h' e' us fits'. box_in E ! r b' o' r.value e' refl $ rewrite ! 0 (λ (xs : List Val). ‵ (B.own_val r xs)) (sym us) refl $
    let good : Good (layout B) u = subst (Good (layout B)) (sym (ap only us)) (box_typed E h' b' o' fits') in
    let some_good : Good (layout Out) (live 1 (vcons u vnil)) = (and_tt _ good.0, (record { fits = lit< tt }, (good.1, tt))) in
    lands_last ! refl good $ exec ! 𝓣.C 𝓣.Λ Ev compiled.Mir.t-6 (at_ret Ev Post) $ sets ! (of_opd ! (get ! refl)) refl good $ sets ! (agg ! (and_then ! (lit ! tt) (and_then ! (get ! refl) (no_more !)))) refl some_good $
    returns ! (look_at ! 0 refl) $ free_all ! refl $
    -- [the box; what is alive]
    use1 𝓛 (‵ (Out.own_val (Some r) (live 1 (vcons u vnil) ∷ []))) (Some-of 𝓛 B r u) $
    use0 𝓛 (raw (fact 𝓤 (v.value ≡ Some r.value))) (fact_i 𝓤 (v.value ≡ Some r.value) (emp 𝓤) (is ∙ ap (λ (d : Kept). Some d) (sym same))) $
    nothing ! $ nothing ! $ fjoin ! $ nothing ! $ fjoin ! $ keep ! (3 ∷ 0 ∷ 2 ∷ 1 ∷ []) $ by ! (leaves 𝓛 ended stays c z (live 1 (vcons u vnil)) (Some r) (tt, (tt, tt)) (tt, (tt, tt))))))))))))
