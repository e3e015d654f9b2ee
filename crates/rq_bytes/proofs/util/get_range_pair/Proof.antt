-- `get_range_pair` lends one range of a `Vec` for writing and one for reading, for every T. Assumes `Logic`.
use mathlib.Core.Path.{◌≡◌, refl, sym, ap, subst, ◌∙◌}
use mathlib.Core.Logic.{◌⊎◌}
use Prim.Native.Nat.{ℕ, ◌+◌, ◌*◌, ◌^◌, ◌<◌, ◌≤◌}
use native.Mathlib.Omega.{arith}
use mathlib.Core.List.{List, [], ◌∷◌, ◌++◌}
use lib.ListN.{length, take, drop as drop_list}
use mir.Syntax.{Body, Fn, named, w64, seq, assign, place, rv_opd, copy, return}
use mir.MapTy.{inst_fn}
use mir.Val.{Val, vint}
use base.Logic.{SProp, emp, id⊢}
use base.Fml.{Fml, GName, ftrue, flft, Incl-trans}
use prog.Memory.{size}
use prog.Wp.{Env}
use contract.BorrowLft.{◌⊑◌}
use contract.Monad.{fact, fact_i}
use contract.Running.{tables}
use types.Kit.{‵, ◌⊛◌, raw, some, later, at_ret, ◌$◌, ◌∵◌, !, qed, move, keep, drop, split, split3, join, fsplit, fjoin, rewrite, use0, use1, use2, await, pick, suffices, frame, done}
use types.Part.{whole, sub, agg}
use types.Run.{stop, fld, hop, from, addr, bin, of_opd, and_then, no_more, size_word, first, blocks, exec, returns, enter}
use types.ByLocal.{alloc_all, pass_all, free_all, look_at, look_in_at, get, through, is, sets, sets_last, lands_as, env}
use denote.Array.{Array}
use denote.Builtin.{usize}
use denote.Exit.{yes, no}
use denote.Follow.{follows, follows_then}
use denote.Param.{layout}
use denote.Param.Laws.{param_laws}
use denote.Plain.{uint_vals, uint_Tells}
use denote.RattleType.{RattleType, owns}
use denote.Ref.{Bor, MutBor, mut_vals, mut_Tells}
use denote.Shadow.{pure_l, pure_i}
use denote.Signature.{plain, mut_ref_to, types_at}
use denote.Slice.{MutSlice, ShrSlice, Room, slice_val, mut_slice_at, mut_slice_vals}
use denote.Steps.{nothing, heard, only}
use denote.Struct.Tuple.{Tuple}
use denote.Triple.Call.{calls_at}
use denote.Triple.Clauses.{Ended, Lasts, lasts}
use denote.Triple.Spec.{triple_of}
use denote.Triple.Table.{framed}
use denote.Triple.Walked.{Stays, stay_dropped, walk_of, ends_at, Goes-dropped, Goes-spent_ref}
use Rattle.std.proofs.lemmas.List.{drop-drop}
use Rattle.std.proofs.mem.Facts.{says_two}
use Rattle.std.proofs.raw_atomic.Walks.{proved}
use Rattle.std.proofs.VecSteps.El.{El, args, R, Vr}
use Rattle.std.specs.Vec.{with_items}
use Rattle.rq_bytes.specs.Ranges.{range_of, with_range}
use Rattle.rq_bytes.proofs.RangeFacts.{length-range}
use Rattle.rq_bytes.proofs.RangeLoans.{uncapped, fewer_bytes, pair_val, pair_of, lends_pair}
use Rattle.std.specs.contracts.vec.Vec.as_mut_slice as slice
use Rattle.std.proofs.vec.Vec.as_mut_slice.Met.{met}
use Rattle.rq_bytes.specs.contracts.util.get_range_pair as F
use Rattle.rq_bytes.specs.contracts.util.get_range_pair.Key.{name as #self}
use Rattle.rq_bytes.proofs.util.get_range_pair.Statement.{statement}
use Rattle.rq_bytes.proofs.util.get_range_pair.Code as code

module _ (E : El) where
  abbrev function : Fn
  function = inst_fn (args E) code.function

  abbrev ended : Ended
  ended = F.ended E.row E.al.row E.al.g E.al.d E.al.drops

  abbrev stayed : Stays ended.signature.params ended.kept
  stayed = (stay_dropped (mut_ref_to (0 ∷ []) tt (plain (λ _. Vr E))) no, (stay_dropped (plain (λ _. usize)) yes, (stay_dropped (plain (λ _. usize)) yes, (stay_dropped (plain (λ _. usize)) yes, tt))))

abbrev rest : Body
rest = seq (assign (place 0 []) (rv_opd (copy (place 8 [])))) return

pub get_range_pair_spec : {M : Type 1} → statement M
get_range_pair_spec 𝓤 𝓛 𝓜 𝓡 wired T B L LB g d dd allocator glue =
    let E : El = record { row = T; laws = L; al = record { row = B; laws = LB; g = g; d = d; drops = dd } } in
    let H = 𝓛.H in
    let 𝓣 = tables 𝓤 H 𝓜 𝓡 𝓡.env in
    let c = F.clauses T B g d dd 𝓛 𝓜.mem 𝓡.returns in
    let number = Goes-dropped 𝓛 3 (plain (λ _. usize)) yes (λ κs x f. refl) in
    proved 𝓛 (ended E) (stayed E) c 𝓜 𝓡 (Goes-spent_ref 𝓛 3 (0 ∷ []) tt (plain (λ _. Vr E)), (number, (number, (number, tt))))
    (#self (args E)) (function E) (code.unfolded 𝓤 H 𝓜 𝓡 wired (T, (B, tt)) d dd)
    (λ κs. (mut_vals, (uint_vals w64, (uint_vals w64, (uint_vals w64, tt))))) (λ κs. (mut_Tells (named 0) κs.0 (Vr E), (uint_Tells w64, (uint_Tells w64, (uint_Tells w64, tt)))))
    (λ κs qs bounds a _ are.
    let κ = κs.0 in
    let v = a.0 in
    let i = a.1.0 in
    let j = a.1.1.0 in
    let n = a.1.1.1.0 in
    let s : ℕ = size (layout T) in
    let S : RattleType = MutSlice (named 0) κ (R E) in
    let S' : RattleType = ShrSlice (named 0) κ (R E) in
    let bound : (walk_of 𝓛 (ended E) (stayed E) c).Ghost = ((κs, qs, bounds, a, (mut_vals v, (vint w64 i ∷ [], (vint w64 j ∷ [], (vint w64 n ∷ [], tt))))), tt) in
    let Post : Val → SProp 𝓤 = (walk_of 𝓛 (ended E) (stayed E) c).post bound in
    let G = triple_of 𝓛 (slice.signature T B g d dd) (slice.spec T B g d dd 𝓛 𝓜.mem 𝓡.returns) in
    let z : G.Ghost = ((κs, qs, bounds, (v, tt), (mut_vals v, tt)), tt) in
    let others = ‵ (flft κs.1.0 qs.1.0) ⊛ ‵ (flft κs.1.1.0 qs.1.1.0) ⊛ ‵ ftrue in
    let tokens = ‵ (flft κ qs.0) ⊛ others in
    let asked = raw (fact 𝓤 (κs.1.0 ⊑ T.lives)) ⊛ raw (fact 𝓤 (κs.1.1.0 ⊑ B.lives)) ⊛ raw (fact 𝓤 ((i + n ≤ j) ⊎ (j + n ≤ i))) ⊛ raw (fact 𝓤 (i + n ≤ v.now.len)) ⊛ raw (fact 𝓤 (j + n ≤ v.now.len)) in
    qed 𝓛 ((tokens ⊛ ‵ (owns (types_at (ended E).signature.params κs) a bound.0.4)) ∷ asked ∷ []) ∵
    move ! (1 ∷ []) $ split ! $ heard ! _ (λ within. split ! $ heard ! _ (λ held. split ! $ heard ! _ (λ apart. split ! $ heard ! _ (λ i_in. heard ! _ (λ j_in.
    split ! $ move ! (1 ∷ []) $ fsplit ! $
    enter ! 𝓣.C 𝓣.Λ (function E) (mut_vals v ++ (vint w64 i ∷ vint w64 j ∷ vint w64 n ∷ [])) Post $
    alloc_all ! (λ l. pass_all ! refl ((tt, tt), ((tt, record { fits = are.1.0.1 }), ((tt, record { fits = are.1.1.0.1 }), ((tt, record { fits = are.1.1.1.0.1 }), tt)))) $
    let En : Env 𝓤 H = env (function E).locals l in
    -- [the Vec; the other arguments; the tokens]
    sets ! (addr ! (through ! refl (stop !))) refl (tt, tt) $
    nothing ! $ move ! (1 ∷ 0 ∷ []) $ join ! $ move ! (2 ∷ 0 ∷ []) $ join ! $
    nothing ! $ use0 𝓛 (raw (fact 𝓤 (κs.1.1.0 ⊑ B.lives))) (fact_i 𝓤 (κs.1.1.0 ⊑ B.lives) (emp 𝓤) held) $ join ! $ use0 𝓛 (raw (fact 𝓤 (κs.1.0 ⊑ T.lives))) (fact_i 𝓤 (κs.1.0 ⊑ T.lives) (emp 𝓤) within) $ join ! $
    move ! (1 ∷ 0 ∷ []) $ use2 𝓛 (raw (G.pre z)) (id⊢ 𝓤 _) $
    calls_at ! (framed 𝓤 H 𝓜 𝓣) G (met 𝓤 𝓛 𝓜 𝓡 (code.calls-std_alloc::vec::Vec::as_mut_slice 𝓡.env wired) T B L LB g d dd allocator glue) z (and_then ! (get ! refl) (no_more !)) (λ w.
    use1 𝓛 (later (some (λ (r : MutBor (List T.Denot)). (tokens ⊛ ‵ (S.own_val r (w ∷ []))) ⊛ some (λ (ws : Lasts (slice.ended T B g d dd) κs (v, tt)). ‵ (lasts (slice.ended T B g d dd) κs (v, tt) ws)
    ⊛ ‵ (follows (Vr E) (Array (R E) 0) v.ghost_name r.ghost_name (with_items v.now)) ⊛ raw (fact 𝓤 (r.now ≡ v.now.items)) ⊛ raw (fact 𝓤 (length r.now ≡ v.now.len)))))) (id⊢ 𝓤 _) $
    await ! tt $ pick ! (λ r. split ! $ move ! (1 ∷ []) $ pick ! (λ ws. split ! $ drop ! $ split3 ! $ move ! (1 ∷ []) $ heard ! _ (λ same. move ! (1 ∷ []) $ heard ! _ (λ long.
    -- [what follows the Vec; the tokens and the slice; the other arguments]
    move ! (1 ∷ []) $ split ! $ move ! (1 ∷ []) $ fsplit ! $ pure_l ! (mut_slice_at (R E) r (w ∷ [])) (λ told. pure_i ! (mut_slice_at (R E) r (mut_slice_vals r)) (tt, (tt, tt)) (refl, told.1) $ fjoin ! $
    lands_as ! (ap only told.0) refl (tt, (tt, (record { fits = told.1.0 }, tt))) $
    let b = r.ref_ptr.0 in
    let o = r.ref_ptr.1 in
    let xs : List T.Denot = r.now in
    let p : ℕ = i * s + o in
    let p' : ℕ = j * s + o in
    let one : List T.Denot = range_of xs i n in
    let two : List T.Denot = range_of xs j n in
    let i_there : i + n ≤ length xs = omega arith in
    let j_there : j + n ≤ length xs = omega arith in
    let fs : i * s < 2 ^ 64 = omega (arith, fewer_bytes i (length xs) s (omega arith) told.1.1) in
    let fs' : j * s < 2 ^ 64 = omega (arith, fewer_bytes j (length xs) s (omega arith) told.1.1) in
    let fn : n < 2 ^ 64 = are.1.1.1.0.1 in
    let roomy : Room (R E) n = (fn, fewer_bytes n (length xs) s (omega arith) told.1.1) in
    let many : length one ≡ n = length-range xs i n i_there in
    let many' : length two ≡ n = length-range xs j n j_there in
    let first_of : GName → MutBor (List T.Denot) = λ δ. record { ref_ptr = (b, p); ghost_name = δ; now = one } in
    let second : Bor (List T.Denot) = record { ref_ptr = (b, p'); now = two } in
    let word : Val = pair_val (slice_val (b, p) n) (slice_val (b, p') n) in
    let ends : (List T.Denot → (Vr E).Denot) → GName → Fml = λ f δ. follows (Vr E) (Array (R E) 0) v.ghost_name δ f in
    let as_written : (ws : List T.Denot) → with_range xs i ws ≡ take i v.now.items ++ (ws ++ drop_list (length ws) (drop_list i v.now.items)) =
    λ ws. ap (λ l. with_range l i ws) same ∙ ap (λ l. take i v.now.items ++ (ws ++ l)) (sym (drop-drop (length ws) i v.now.items)) in
    -- [the slice; the tokens; what follows the Vec; the other arguments]
    sets ! (addr ! (from ! (fld ! refl (hop ! (look_in_at ! 6 (sub ! 0 refl (whole !))) (stop !))))) refl (tt, tt) $
    first ! $ blocks ! $
    sets ! (is ! (bin ! (get ! refl) (size_word !) (record { fits = subst (λ (k : ℕ). k < 2 ^ 64) (sym (uncapped i s fs)) fs })) (ap (vint w64) (uncapped i s fs))) refl (tt, record { fits = fs }) $
    sets ! (bin ! (get ! refl) (get ! refl) tt) refl (tt, tt) $
    sets ! (agg ! (and_then ! (get ! refl) (and_then ! (get ! refl) (no_more !)))) refl (tt, (tt, (record { fits = fn }, tt))) $
    sets ! (is ! (bin ! (get ! refl) (size_word !) (record { fits = subst (λ (k : ℕ). k < 2 ^ 64) (sym (uncapped j s fs')) fs' })) (ap (vint w64) (uncapped j s fs'))) refl (tt, record { fits = fs' }) $
    sets ! (bin ! (get ! refl) (get ! refl) tt) refl (tt, tt) $
    sets ! (agg ! (and_then ! (get ! refl) (and_then ! (get ! refl) (no_more !)))) refl (tt, (tt, (record { fits = fn }, tt))) $
    sets_last ! (agg ! (and_then ! (get ! refl) (and_then ! (get ! refl) (no_more !)))) refl (tt, ((tt, (record { fits = fn }, tt)), ((tt, (record { fits = fn }, tt)), tt))) $
    exec ! 𝓣.C 𝓣.Λ En rest (at_ret En Post) $
    sets ! (of_opd ! (get ! refl)) refl (tt, ((tt, (record { fits = fn }, tt)), ((tt, (record { fits = fn }, tt)), tt))) $
    move ! (1 ∷ []) $ split ! $ move ! (2 ∷ 0 ∷ []) $
    use2 𝓛 (later (some (λ (δ : GName). ‵ (S.own_val (first_of δ) (slice_val (b, p) (length one) ∷ [])) ⊛ ‵ (S'.own_val second (slice_val (b, p') (length two) ∷ [])) ⊛ ‵ (flft κ qs.0) ⊛ ‵ (follows (Array (R E) 0) (Array (R E) 0) r.ghost_name δ (with_range xs i)))))
    (lends_pair 𝓛 (named 0) κ qs.0 b o r.ghost_name (R E) xs i j n i_there j_there apart (param_laws 0 T L) (Incl-trans bounds.0 within) (subst (Room (R E)) (sym many) roomy) (subst (Room (R E)) (sym many') roomy) (mut_slice_vals r)) $ await ! tt $ pick ! (λ δ.
    returns ! (look_at ! 0 refl) $ free_all ! refl $ keep ! (0 ∷ 1 ∷ 2 ∷ []) $ split3 ! $
    rewrite ! 0 (λ (k : ℕ). ‵ (S.own_val (first_of δ) (slice_val (b, p) k ∷ []))) many refl $
    rewrite ! 1 (λ (k : ℕ). ‵ (S'.own_val second (slice_val (b, p') k ∷ []))) many' refl $
    use2 𝓛 (‵ ((Tuple (S ∷ S' ∷ [])).own_val (first_of δ, second) (word ∷ []))) (pair_of 𝓛 S S' (first_of δ) second (slice_val (b, p) n) (slice_val (b, p') n)) $
    -- [the pair; the token and what follows the slice; the other tokens; what follows the Vec]
    move ! (1 ∷ []) $ split ! $ move ! (4 ∷ 1 ∷ []) $
    use2 𝓛 (‵ (ends (λ ws. with_items v.now (with_range xs i ws)) δ)) (follows_then 𝓛 (Vr E) (Array (R E) 0) (Array (R E) 0) (with_items v.now) (with_range xs i) v.ghost_name r.ghost_name δ) $
    rewrite ! 0 (λ (f : List T.Denot → (Vr E).Denot). ‵ (ends f δ)) (λ k ws. with_items v.now (as_written ws k)) refl $ move ! (1 ∷ 0 ∷ []) $
    -- [the token; what follows; the pair; the other tokens]
    suffices ! _ (ends_at 𝓛 (ended E) (stayed E) c bound word (first_of δ, second) (tt, (tt, (tt, (tt, tt)))) (tt, (tt, (tt, (tt, tt))))) $
    nothing ! $ nothing ! $ fjoin ! $ nothing ! $ fjoin ! $ nothing ! $ fjoin ! $ nothing ! $ fjoin ! $
    move ! (0 ∷ 3 ∷ []) $ join ! $ move ! (1 ∷ 3 ∷ 0 ∷ 2 ∷ []) $ join ! $ join ! $ frame ! $ says_two ! (ap (λ l. range_of l i n) same, ap (λ l. range_of l j n) same) $ done !))))))))))))))
