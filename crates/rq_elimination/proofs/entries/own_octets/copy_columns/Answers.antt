-- What the check leaves to show of `entries::own_octets::copy_columns`.
use Rattle.std.proofs.Common.{◌<◌, List, ℕ, ap, ◌∙◌, set, length, arith}
use Rattle.rq_parts.specs.DenseOctetMatrix.{row_at}
use Rattle.rq_elimination.proofs.WithOctets.{octets_next}
use Rattle.rq_elimination.proofs.entries.own_octets.copy_columns.Goals as goal

pub loop-f-preserved : goal.loop-f-preserved
loop-f-preserved c =
    let f = c.loop-f.f in
    let octet = c.byte.ensures ∙ c.get.ensures in
    let inside : f < length c.args.own.now = omega (arith, c.loop-f-test.true, c.requires.room) in
    ap (λ (r : List ℕ). set r f c.byte.result) c.loop-f.invariant
    ∙ ap (set _ f) octet
    ∙ octets_next (row_at c.args.octets.now c.args.from) c.args.columns.now c.args.own.now f c.loop-f-test.true inside
