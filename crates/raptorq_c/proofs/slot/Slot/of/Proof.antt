-- `of` takes the box apart, and the pointer owns what it owned.
use Rattle.std.proofs.Common.{◌≡◌, List, [], ◌∷◌, ◌++◌, refl, ap, Some}
use Rattle.raptorq_c.proofs.Walking.{Val, full_share, SProp, emp, id⊢, ftrue, flft, WpFn, ‵, raw, ◌⊛◌, some, later, prop, ◌$◌, ◌∵◌, !, qed, by, move, keep, drop, split, join, fsplit, fjoin, pick, regoal, use0, use1, await, feq_l, of_opd, no_more, and_then, returns, enter, alloc_all, pass_all, free_all, look_at, get, sets, lands_as, agg}
use Rattle.raptorq_c.proofs.Walking.{fact, fact_i, ◌⊑◌, tables, yes, RattleType, owns, types_at, plain, Ptr, RawPtr, nothing, only, glues, Lasts, lasts, alive, triple_of, calls_at, framed, Stays, stay_dropped, walk_of, Goes-blank, proved_at, leaves, ghosts, dict, passed, A, LA, dd, word, word_typed, ptr_typed, field_own, made}
use Rattle.raptorq_c.proofs.Walking.{heap_row, heap_within, box_row, box_word, box_typed, box_out, box_in, box_owns}
use Rattle.std_alloc.specs.contracts.boxed.Box.into_raw as callee
use Rattle.std_alloc.proofs.boxed.Box.into_raw.Met.{met}
use Rattle.raptorq_c.specs.contracts.slot.Slot.of.{ended, clauses, Key.name as #self}
use Rattle.raptorq_c.proofs.SlotBoxes.{T, LT, dx, E, row, row_within}
use Rattle.raptorq_c.proofs.slot.Slot.of.Statement.{statement}
use Rattle.raptorq_c.proofs.slot.Slot.of.Code as compiled

abbrev Boxed : RattleType
Boxed = box_row row heap_row ghosts

abbrev stays : Stays ended.signature.params ended.kept
stays = (stay_dropped (plain (λ _. Boxed)) yes, tt)

pub of_spec : {M : Type 1} → statement M
unfolding Rattle.raptorq_c.proofs.Destruct++none.drop.Code.code
of_spec 𝓤 𝓛 𝓜 𝓡 wired =
    let H = 𝓛.H in let c = clauses 𝓛 𝓜.mem 𝓡.returns in let 𝓣 = tables 𝓤 H 𝓜 𝓡 𝓡.env in let fn = compiled.function in
    let allocator = passed 𝓡.env (compiled.calls-std_heap::GlobalAllocator::allocate 𝓡.env wired) (compiled.calls-std_heap::GlobalAllocator::deallocate 𝓡.env wired) (compiled.calls-std_heap::GlobalAllocator::grow 𝓡.env wired) (compiled.calls-std_heap::GlobalAllocator::shrink 𝓡.env wired) _ 𝓤 𝓛 𝓜 𝓡 in
    let glued = glues "raptorq_c::Destruct++none::drop" 𝓡.env (compiled.calls-raptorq_c::Destruct++none::drop 𝓡.env wired) A LA _ 𝓤 𝓛 𝓜 𝓡 in
    let glue = glues "raptorq_c::Destruct++none::drop" 𝓡.env (compiled.calls-raptorq_c::Destruct++none::drop 𝓡.env wired) T LT _ 𝓤 𝓛 𝓜 𝓡 in
    proved_at 𝓛 ended stays c 𝓜 𝓡 (Goes-blank 𝓛 0 (plain (λ _. Boxed)) yes (λ κs x f. tt), tt) #self fn (compiled.unfolded 𝓤 H 𝓜 𝓡 wired) (λ z are.
    let Post : Val → SProp 𝓤 = (walk_of 𝓛 ended stays c).post z in let v = z.0.3.0 in let a = v.alloc in
    let k = triple_of 𝓛 (callee.signature T A ghosts dict dd dx) (callee.spec T A ghosts dict dd dx 𝓛 𝓜.mem 𝓡.returns) in
    let token = ‵ (flft [] full_share) in let toks = token ⊛ token ⊛ ‵ ftrue in
    qed 𝓛 ((raw (alive 𝓛 ended.signature z.0.0 z.0.1) ⊛ ‵ (owns (types_at ended.signature.params z.0.0) z.0.3 z.0.4)) ∷ ‵ ftrue ∷ []) ∵
    split ! $ move ! (1 ∷ []) $ fsplit ! $ box_out E ! v z.0.4.0 (λ b o h e ws fits. box_in E ! v b o v.value e refl $
    -- [the box; no more; what is alive]
    let w = box_word E h b o in let typed = box_typed E h b o fits in
    let y : k.Ghost = ((([], ([], tt)), (full_share, (full_share, tt)), tt, (v, tt), (w ∷ [], tt)), tt) in
    regoal ! (λ (us : List Val). prop (WpFn 𝓤 H 𝓣.C 𝓣.Λ fn us Post)) (λ i. ws i ++ []) refl $
    fjoin ! $ nothing ! $ use0 𝓛 (raw (fact 𝓤 ([] ⊑ A.lives))) (fact_i 𝓤 ([] ⊑ A.lives) (emp 𝓤) (heap_within [])) $ join ! $
    use0 𝓛 (raw (fact 𝓤 ([] ⊑ T.lives))) (fact_i 𝓤 ([] ⊑ T.lives) (emp 𝓤) (row_within [])) $ join ! $
    move ! (1 ∷ []) $ nothing ! $ use0 𝓛 token (𝓛.lfts.lft-nil full_share) $ join ! $ use0 𝓛 token (𝓛.lfts.lft-nil full_share) $ join ! $ join ! $ join ! $ use1 𝓛 (raw (k.pre y)) (id⊢ 𝓤 _) $
    enter ! 𝓣.C 𝓣.Λ fn (w ∷ []) Post $ alloc_all ! (λ l. pass_all ! refl (typed, tt) $ sets ! (of_opd ! (get ! refl)) refl typed $
    calls_at ! (framed 𝓤 H 𝓜 𝓣) k (met 𝓤 𝓛 𝓜 𝓡 (compiled.calls-std_alloc::boxed::Box::into_raw 𝓡.env wired) T A LT LA ghosts dict dd dx allocator glued glue) y (and_then ! (get ! refl) (no_more !)) (λ u.
    use1 𝓛 (later (some (λ (r : Ptr). (toks ⊛ ‵ (RawPtr.own_val r (u ∷ []))) ⊛ some (λ (ls : Lasts (callee.ended T A ghosts dict dd dx) y.0.0 y.0.3). ‵ (lasts (callee.ended T A ghosts dict dd dx) y.0.0 y.0.3 ls) ⊛ ‵ (box_owns (ghosts.dealloc_token a) row r v.value))))) (id⊢ 𝓤 (k.post y u)) $
    await ! tt $ pick ! (λ r. split ! $ split ! $ drop ! $ feq_l ! (λ is_ptr. pick ! (λ _. split ! $ drop ! $
    -- [what the pointer owns; what is alive]
    lands_as ! (ap only is_ptr) refl (ptr_typed r) $ sets ! (of_opd ! (get ! refl)) refl (ptr_typed r) $
    sets ! (agg ! (and_then ! (get ! refl) (no_more !))) refl (word_typed r) $ returns ! (look_at ! 0 refl) $ free_all ! refl $
    use0 𝓛 (‵ (field_own r (word r ∷ []))) (made 𝓛 r) $ fjoin ! $
    use0 𝓛 (raw (fact 𝓤 (Some v.value ≡ Some v.value))) (fact_i 𝓤 (Some v.value ≡ Some v.value) (emp 𝓤) refl) $
    nothing ! $ nothing ! $ fjoin ! $ keep ! (3 ∷ 0 ∷ 2 ∷ 1 ∷ []) $ by ! (leaves 𝓛 ended stays c z (word r) (record { at = r; value = Some v.value }) (tt, tt) (tt, tt)))))))))
