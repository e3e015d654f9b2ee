use Rattle.std.proofs.Common.{◌≡◌, suc, ◌+◌, ◌<◌, length, arith, ◌++◌, subst, sym, ap, ◌∙◌, take, append_assoc}
use Rattle.std.specs.Int.{w32, to_be_bytes}
use Rattle.std.specs.List.{concat}
use Rattle.sha2.specs.Hashers.{Holds512}
use Rattle.rq_standard.specs.Configuration.{header_bytes}
use Rattle.rq_cells.proofs.Digests.{concat_next}
use Rattle.rq_cells.proofs.name.part_name.Goals as goal

pub loop-digest-preserved : goal.loop-digest-preserved
loop-digest-preserved c =
    let front = to_be_bytes w32 c.args.number ++ header_bytes c.args.configuration.now in
    let digests = c.args.digests.now in
    let i = c.loop-digest.digest-index in
    let below : i < length digests = omega (arith, c.loop-digest-test.true, c.loop-digest.auto.digest-index-end) in
    let next : suc i ≡ i + 1 = omega arith in
    subst (λ xs. Holds512 c.update-in-loop-digest.new.self xs)
    (append_assoc front (concat (take i digests)) _ ∙ ap (λ xs. front ++ xs) (sym (concat_next digests i _ below) ∙ ap (λ n. concat (take n digests)) next))
    (c.update-in-loop-digest.ensures (front ++ concat (take i digests)) c.loop-digest.invariant)
