use Rattle.std.proofs.Common.{◌≡◌, ℕ, ◌<◌, ◌++◌, [], ◌∷◌, length, Bool, not, sym, ap, refl, ◌∙◌, arith, Vec, Global}
use Rattle.rq_guard.specs.Damage.{is_whole}
use Rattle.rq_guard.proofs.ListedSymbols.{tells_whole, filter_grows, filter_stays}
use Rattle.rq_guard.proofs.damage.damaged_among.Goals as goal
use Rattle.rq_guard.proofs.damage.damaged_among.Goals.{then-not-lists+in_ok-push, else-not-lists}

pub loop-e-preserved : goal.loop-e-preserved
loop-e-preserved c =
    let e = c.loop-e.e in
    let listed = c.args.list.now.digests.items in
    let digests = c.args.digests.now in
    let p : ℕ → Bool = λ n. not (is_whole listed digests n) in
    let below : e < length listed = omega (arith, c.loop-e-test.true, c.requires.each) in
    let test : c.lists.result ≡ is_whole listed digests e = tells_whole c.lists.result listed digests e _ below refl c.lists.ensures in
    let items = λ (v : Vec ℕ Global). v.items in
    elim c.if-not-lists.branch [
      | then-not-lists+in_ok-push w ↦
          ap items w.damaged-is ∙ w.in_ok-push.ensures.items ∙ ap (λ xs. xs ++ e ∷ []) c.loop-e.invariant
          ∙ sym (filter_grows p e (ap not (sym test ∙ w.if-not-lists.true)))
      | else-not-lists w ↦
          ap items w.damaged-is ∙ c.loop-e.invariant ∙ sym (filter_stays p e (ap not (sym test ∙ w.if-not-lists.false)))
    ]
