-- What the check leaves to show of `arraymap::grow`.
use Rattle.std.proofs.Common.{ℕ, ◌+◌, ◌-◌, ◌≤◌, ◌++◌, List, length, replicate, vec_len, get_or, ap, ◌∙◌, arith}
use Rattle.std.proofs.lemmas.List.{take_all}
use Rattle.rq_parts.proofs.Zeros.{padded_reads}
use Rattle.rq_parts.proofs.arraymap.grow.Goals as goal

pub returns-in_ok-resize-clause-same : goal.returns-in_ok-resize-clause-same
returns-in_ok-resize-clause-same c =
    let old = c.args.elements.now in
    let len = c.args.index + 1 in
    let more = len - vec_len old in
    let long : length old.items ≤ len = omega (arith, old.ok.0, c.len.ensures) in
    λ k. ap (λ (xs : List ℕ). get_or xs k 0) c.in_ok-resize.ensures.items
    ∙ ap (λ (xs : List ℕ). get_or (xs ++ replicate more 0) k 0) (take_all len old.items long)
    ∙ padded_reads old.items more k
