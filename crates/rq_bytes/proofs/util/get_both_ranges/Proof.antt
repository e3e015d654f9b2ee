-- `get_both_ranges` lends two ranges of a slice, for every T. Assumes `Logic`.
use mathlib.Core.Path.{◌≡◌, refl, sym, ap, subst}
use mathlib.Core.Logic.{◌⊎◌}
use Prim.Native.Nat.{ℕ, ◌+◌, ◌*◌, ◌^◌, ◌<◌, ◌≤◌}
use native.Mathlib.Omega.{arith}
use mathlib.Core.List.{List, [], ◌∷◌}
use lib.ListN.{length}
use mir.Syntax.{Args, Body, Fn, named, w64, a_type, seq, assign, place, rv_opd, copy, return}
use mir.MapTy.{inst_fn}
use mir.Val.{Val, vint}
use base.Logic.{SProp}
use base.Fml.{GName, ftrue, flft}
use prog.Memory.{size}
use prog.Wp.{Env}
use contract.BorrowLft.{◌⊑◌}
use contract.Monad.{fact}
use contract.Running.{tables}
use types.Kit.{‵, ◌⊛◌, raw, some, later, at_ret, ◌$◌, ◌∵◌, !, qed, move, keep, drop, split, split3, join, fsplit, fjoin, rewrite, use2, await, pick, suffices, frame, done}
use types.Part.{whole, sub, agg}
use types.Run.{stop, fld, hop, from, addr, bin, of_opd, and_then, no_more, size_word, first, blocks, exec, returns, enter}
use types.ByLocal.{alloc_all, pass_all, free_all, look_at, look_in_at, get, is, sets, sets_last, env}
use denote.Array.{Array}
use denote.Builtin.{usize}
use denote.Exit.{yes, no}
use denote.Follow.{follows_both}
use denote.Param.{param, layout, layouts}
use denote.Plain.{uint_vals, uint_Tells}
use denote.RattleType.{RattleType, owns}
use denote.Ref.{MutBor}
use denote.Signature.{plain, mut_slice_of, types_at}
use denote.Slice.{MutSlice, Room, slice_val, mut_slice_vals, mut_slice_Tells}
use denote.Steps.{nothing, heard}
use denote.Struct.Tuple.{Tuple}
use denote.Triple.Clauses.{Ended}
use denote.Triple.Walked.{Stays, stay_dropped, walk_of, ends_at, Goes-dropped, Goes-spent_slice}
use Rattle.std.proofs.mem.Facts.{says_two}
use Rattle.std.proofs.raw_atomic.Walks.{proved}
use Rattle.rq_bytes.specs.Ranges.{range_of, with_range}
use Rattle.rq_bytes.proofs.RangeFacts.{length-range}
use Rattle.rq_bytes.proofs.RangeLoans.{uncapped, fewer_bytes, pair_val, pair_of, lends_both}
use Rattle.rq_bytes.specs.contracts.util.get_both_ranges as F
use Rattle.rq_bytes.specs.contracts.util.get_both_ranges.Key.{name as #self}
use Rattle.rq_bytes.proofs.util.get_both_ranges.Statement.{statement}
use Rattle.rq_bytes.proofs.util.get_both_ranges.Code as code

module _ (X : RattleType) where
  abbrev args : Args
  args = layouts (a_type ∷ []) (X, tt)

  abbrev function : Fn
  function = inst_fn args code.function

  abbrev R : RattleType
  R = param 0 X

  abbrev ended : Ended
  ended = F.ended X

  abbrev stayed : Stays ended.signature.params ended.kept
  stayed = (stay_dropped (mut_slice_of (0 ∷ []) tt (plain (λ _. R))) no, (stay_dropped (plain (λ _. usize)) yes, (stay_dropped (plain (λ _. usize)) yes, (stay_dropped (plain (λ _. usize)) yes, tt))))

abbrev rest : Body
rest = seq (assign (place 0 []) (rv_opd (copy (place 6 [])))) return

pub get_both_ranges_spec : {M : Type 1} → statement M
get_both_ranges_spec 𝓤 𝓛 𝓜 𝓡 wired X L =
    let 𝓣 = tables 𝓤 𝓛.H 𝓜 𝓡 𝓡.env in
    let c = F.clauses X 𝓛 𝓜.mem 𝓡.returns in
    let number = Goes-dropped 𝓛 2 (plain (λ _. usize)) yes (λ κs x f. refl) in
    proved 𝓛 (ended X) (stayed X) c 𝓜 𝓡 (Goes-spent_slice 𝓛 2 (0 ∷ []) tt (plain (λ _. R X)), (number, (number, (number, tt))))
    (#self (args X)) (function X) (code.unfolded 𝓤 𝓛.H 𝓜 𝓡 wired (X, tt))
    (λ κs. (mut_slice_vals, (uint_vals w64, (uint_vals w64, (uint_vals w64, tt))))) (λ κs. (mut_slice_Tells (named 0) κs.0 (R X), (uint_Tells w64, (uint_Tells w64, (uint_Tells w64, tt)))))
    (λ κs qs bounds a _ are.
    let κ = κs.0 in
    let v = a.0 in
    let i = a.1.0 in
    let j = a.1.1.0 in
    let n = a.1.1.1.0 in
    let fn : n < 2 ^ 64 = are.1.1.1.0.1 in
    let b = v.ref_ptr.0 in
    let o = v.ref_ptr.1 in
    let γ = v.ghost_name in
    let xs : List X.Denot = v.now in
    let bound : (walk_of 𝓛 (ended X) (stayed X) c).Ghost =
    ((κs, qs, bounds, a, (mut_slice_vals v, (vint w64 i ∷ [], (vint w64 j ∷ [], (vint w64 n ∷ [], tt))))), tt) in
    let Post : Val → SProp 𝓤 = (walk_of 𝓛 (ended X) (stayed X) c).post bound in
    let tokens = ‵ (flft κ qs.0) ⊛ ‵ (flft κs.1.0 qs.1.0) ⊛ ‵ ftrue in
    let asked = raw (fact 𝓤 (κs.1.0 ⊑ X.lives)) ⊛ raw (fact 𝓤 ((i + n ≤ j) ⊎ (j + n ≤ i)))
    ⊛ raw (fact 𝓤 (i + n ≤ length xs)) ⊛ raw (fact 𝓤 (j + n ≤ length xs)) in
    qed 𝓛 ((tokens ⊛ ‵ (owns (types_at (ended X).signature.params κs) a bound.0.4)) ∷ asked ∷ []) ∵
    move ! (1 ∷ []) $ split ! $ drop ! $ split ! $ heard ! _ (λ apart. split ! $ heard ! _ (λ i_in. heard ! _ (λ j_in.
    let s : ℕ = size (layout X) in
    let p : ℕ = i * s + o in
    let p' : ℕ = j * s + o in
    let one : List X.Denot = range_of xs i n in
    let two : List X.Denot = range_of xs j n in
    let fs : i * s < 2 ^ 64 = omega (arith, fewer_bytes i (length xs) s (omega arith) are.0.0.1.1) in
    let fs' : j * s < 2 ^ 64 = omega (arith, fewer_bytes j (length xs) s (omega arith) are.0.0.1.1) in
    let roomy : Room (R X) n = (fn, fewer_bytes n (length xs) s (omega arith) are.0.0.1.1) in
    let long : length one ≡ n = length-range xs i n i_in in
    let long' : length two ≡ n = length-range xs j n j_in in
    let first_of : GName → MutBor (List X.Denot) = λ δ. record { ref_ptr = (b, p); ghost_name = δ; now = one } in
    let second_of : GName → MutBor (List X.Denot) = λ δ. record { ref_ptr = (b, p'); ghost_name = δ; now = two } in
    let S : RattleType = MutSlice (named 0) κ (R X) in
    let word : Val = pair_val (slice_val (b, p) n) (slice_val (b, p') n) in
    split ! $
    enter ! 𝓣.C 𝓣.Λ (function X) (slice_val (b, o) (length xs) ∷ vint w64 i ∷ vint w64 j ∷ vint w64 n ∷ []) Post $
    alloc_all ! (λ l. pass_all ! refl ((tt, (tt, (record { fits = are.0.0.1.0 }, tt))), ((tt, record { fits = are.1.0.1 }), ((tt, record { fits = are.1.1.0.1 }), ((tt, record { fits = fn }), tt)))) $
    let En : Env 𝓤 𝓛.H = env (function X).locals l in
    sets ! (addr ! (from ! (fld ! refl (hop ! (look_in_at ! 1 (sub ! 0 refl (whole !))) (stop !))))) refl (tt, tt) $
    first ! $ blocks ! $
    sets ! (is ! (bin ! (get ! refl) (size_word !) (record { fits = subst (λ (k : ℕ). k < 2 ^ 64) (sym (uncapped i s fs)) fs })) (ap (vint w64) (uncapped i s fs))) refl (tt, record { fits = fs }) $
    sets ! (bin ! (get ! refl) (get ! refl) tt) refl (tt, tt) $
    sets ! (agg ! (and_then ! (get ! refl) (and_then ! (get ! refl) (no_more !)))) refl (tt, (tt, (record { fits = fn }, tt))) $
    sets ! (is ! (bin ! (get ! refl) (size_word !) (record { fits = subst (λ (k : ℕ). k < 2 ^ 64) (sym (uncapped j s fs')) fs' })) (ap (vint w64) (uncapped j s fs'))) refl (tt, record { fits = fs' }) $
    sets ! (bin ! (get ! refl) (get ! refl) tt) refl (tt, tt) $
    sets ! (agg ! (and_then ! (get ! refl) (and_then ! (get ! refl) (no_more !)))) refl (tt, (tt, (record { fits = fn }, tt))) $
    sets_last ! (agg ! (and_then ! (get ! refl) (and_then ! (get ! refl) (no_more !)))) refl (tt, ((tt, (record { fits = fn }, tt)), ((tt, (record { fits = fn }, tt)), tt))) $
    exec ! 𝓣.C 𝓣.Λ En rest (at_ret En Post) $
    sets ! (of_opd ! (get ! refl)) refl (tt, ((tt, (record { fits = fn }, tt)), ((tt, (record { fits = fn }, tt)), tt))) $
    split ! $ move ! (2 ∷ []) $ fsplit ! $ move ! (0 ∷ 2 ∷ []) $
    use2 𝓛 (later (some (λ (γs : GName × GName). ‵ (S.own_val (first_of γs.0) (slice_val (b, p) (length one) ∷ [])) ⊛ ‵ (S.own_val (second_of γs.1) (slice_val (b, p') (length two) ∷ [])) ⊛ ‵ (flft κ qs.0) ⊛ ‵ (follows_both (Array (R X) 0) (Array (R X) 0) (Array (R X) 0) γ γs.0 γs.1 (λ us vs. with_range (with_range xs i us) j vs)))))
    (lends_both 𝓛 (named 0) κ qs.0 b o γ (R X) xs i j n i_in j_in apart (subst (Room (R X)) (sym long) roomy) (subst (Room (R X)) (sym long') roomy) (mut_slice_vals v)) $ await ! tt $ pick ! (λ γs.
    returns ! (look_at ! 0 refl) $ free_all ! refl $ keep ! (0 ∷ 2 ∷ []) $ split3 ! $
    rewrite ! 0 (λ (k : ℕ). ‵ (S.own_val (first_of γs.0) (slice_val (b, p) k ∷ []))) long refl $
    rewrite ! 1 (λ (k : ℕ). ‵ (S.own_val (second_of γs.1) (slice_val (b, p') k ∷ []))) long' refl $
    use2 𝓛 (‵ ((Tuple (S ∷ S ∷ [])).own_val (first_of γs.0, second_of γs.1) (word ∷ []))) (pair_of 𝓛 S S (first_of γs.0) (second_of γs.1) (slice_val (b, p) n) (slice_val (b, p') n)) $
    move ! (1 ∷ []) $ split ! $
    -- [the token; what follows; the pair; the other tokens]
    suffices ! _ (ends_at 𝓛 (ended X) (stayed X) c bound word (first_of γs.0, second_of γs.1) (tt, (tt, (tt, (tt, tt)))) (tt, (tt, (tt, (tt, tt))))) $
    nothing ! $ nothing ! $ fjoin ! $ nothing ! $ fjoin ! $ nothing ! $ fjoin ! $ nothing ! $ fjoin ! $
    move ! (0 ∷ 3 ∷ []) $ join ! $ move ! (1 ∷ 3 ∷ 0 ∷ 2 ∷ []) $ join ! $ join ! $ frame ! $ says_two ! (refl, refl) $ done !))))))
