-- What the check leaves to show of `sparse_vec::insert_last`.
use Rattle.std.proofs.Common.{◌≡◌, ◌-◌, ◌<◌, ℕ, List, suc, [], ◌∷◌, length, get_or, set, max, min, refl, sym, ap, subst, ◌∙◌, arith}
use Rattle.std.specs.List.{insert}
use Rattle.std.proofs.lemmas.List.{length-append, length-set, get_or-set_other}
use Rattle.rq_parts.proofs.ListedBits.{last-more}
use Rattle.rq_parts.proofs.InsertedLower.{inserted-step, stands-before, stands-anywhere}
use Rattle.rq_parts.proofs.sparse_vec.insert_last.Goals as goal

pub loop-at-preserved : goal.loop-at-preserved
loop-at-preserved c =
    let at = c.loop-at.at in
    let ones = c.loop-at.ones in
    let all = c.args.ones.now in
    let last = get_or all (length all - 1) 0 in
    let sinking = c.min.result in
    let high = c.max.result in
    let kept = c.loop-at.invariant in
    let long = length-set ones at high in
    let next : suc (at - 1) ≡ at = omega (arith, c.loop-at-test.true) in
    let same : get_or (set ones at high) (at - 1) 0 ≡ get_or ones (at - 1) 0 = get_or-set_other ones at (at - 1) high 0 (λ same. omega (arith, same, c.loop-at-test.true)) in
    record {
      within = omega (arith, kept.within, long);
      same = long ∙ kept.same;
      inserted = λ xs one place is up found.
          let room : at - 1 < length xs = omega (arith, kept.within, kept.same, ap length is, length-append xs (one ∷ []), c.loop-at-test.true) in
          let last_is : last ≡ one = ap (λ (ys : List ℕ). get_or ys (length ys - 1) 0) is ∙ last-more xs one in
          let sinks : set ones at sinking ≡ insert xs (max at place) one = ap (set ones at) c.min.ensures ∙ kept.inserted xs one place is up found in
          let before = subst (λ n. set ones n sinking ≡ insert xs (max n place) one) (sym next) sinks in
          let low = min (get_or (set ones at high) (at - 1) 0) last in
          subst (λ n. set (set ones n high) (at - 1) low ≡ insert xs (max (at - 1) place) one) next
          (inserted-step xs one place up found ones (at - 1) sinking high low room (omega (arith, kept.within, next)) c.max.ensures
          (ap (λ n. min n last) same ∙ ap (min (get_or ones (at - 1) 0)) last_is) (omega (arith, c.min.ensures, last_is))
          (max (suc (at - 1)) place) (max (at - 1) place) refl refl before);
      below = λ k l. get_or-set_other ones at k high 0 (λ same. omega (arith, same, l)) ∙ kept.below k (omega arith);
      listed = stands-before all at last (get_or ones (at - 1) 0) c.loop-at.is_listed c.loop-at-test.true (omega (arith, kept.within, kept.same)) (kept.below (at - 1) (omega (arith, c.loop-at-test.true))) kept.listed;
    }

pub returns-clause-put : goal.returns-clause-put
returns-clause-put c xs one place is up found =
    let ones = c.loop-at.ones in
    let last = get_or c.args.ones.now (length c.args.ones.now - 1) 0 in
    let done : c.loop-at.at ≡ 0 = omega (arith, c.loop-at-test.false) in
    let there : set ones 0 (min (get_or ones 0 0) last) ≡ insert xs (max 0 place) one =
    subst (λ n. set ones n (min (get_or ones n 0) last) ≡ insert xs (max n place) one) done (c.loop-at.invariant.inserted xs one place is up found) in
    ap (set ones 0) c.min-2.ensures ∙ there ∙ ap (λ n. insert xs n one) {x = max 0 place} {y = place} (omega arith)

pub returns-clause-listed : goal.returns-clause-listed
returns-clause-listed c xs one is =
    let kept = c.loop-at.invariant.listed in
    let all = stands-anywhere c.args.ones.now xs one c.loop-at.at is (omega (arith, c.loop-at-test.false)) in
    (λ yes. all.0 (kept.0 yes), λ found. kept.1 (all.1 found))
