use Rattle.std.proofs.Common.{◌≡◌, ◌++◌, [], ◌∷◌, List, ℕ, map, sym, ap, subst, ◌∙◌, arith, append_assoc}
use Rattle.std.specs.Prelude.{IfSome}
use Rattle.std.specs.List.{range_with_len}
use Rattle.std.proofs.lemmas.List.FromFn.{map-range_with_len_more}
use Rattle.rq_cast.proofs.SymbolDigests.{digest}
use Rattle.rq_cast.proofs.digests.push_received.Goals as goal
use Rattle.rq_cast.proofs.digests.push_received.Goals.{in-Some, in_default+in_ok-digest-in_default}

pub loop-e-preserved : goal.loop-e-preserved
loop-e-preserved c =
    let layout = c.args.layout.now in
    let of : ℕ → List ℕ = digest layout.config layout.source_symbols c.args.block.now in
    let e = c.loop-e.e in
    let old = c.args.digests.now.items in
    let is : c.match-get.digest ≡ of e = elim c.match-get.branch [
      | in-Some w ↦
          let known = c.requires.known e c.whole_symbols-whole.result (omega (arith, c.loop-e-test.true)) (omega (arith, w.if-e-whole.true)) c.whole_symbols-whole.ensures.whole in
          w.digest-is ∙ subst (λ o. IfSome o (λ d. d ≡ of e)) (sym c.get.ensures ∙ w.in-Some.is) known
      | in_default+in_ok-digest-in_default w ↦ w.digest-is ∙ w.in_ok-digest-in_default.ensures
    ] in
    c.in_ok-push.ensures.items
    ∙ (λ i. c.loop-e.invariant i ++ (is i ∷ []))
    ∙ append_assoc old (map of (range_with_len 0 e)) (of e ∷ [])
    ∙ ap (λ xs. old ++ xs) (sym (map-range_with_len_more of 0 e e (omega arith)))
