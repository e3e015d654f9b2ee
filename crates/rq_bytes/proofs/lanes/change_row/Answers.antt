-- What the check leaves to show of `lanes::change_row`.
use Rattle.std.proofs.Common.{◌≡◌, ◌+◌, ◌-◌, ◌*◌, ◌/◌, length, ap, ◌∙◌, arith}
use Rattle.std.proofs.lemmas.Simd.{length-chunk}
use Rattle.rq_bytes.specs.Lanes.{made_upto}
use Rattle.rq_bytes.proofs.LaneFacts.{one_made, lanes_made, all_made}
use Rattle.rq_bytes.proofs.lanes.change_row.Goals as goal
use Rattle.rq_bytes.proofs.lanes.change_row.Goals.{then-blocks-eq1, else-blocks-eq1}

pub lanes-made-requires-clause-long : goal.lanes-made-requires-clause-long
lanes-made-requires-clause-long g c = length-chunk (32 * (length c.change_pairs.new.octets / 32 - 1)) 32 c.change_pairs.new.octets (omega arith)

pub loop-k-init : goal.loop-k-init
loop-k-init g c =
    let f = g.O.LaneOperation.made c.args.operation.now in
    let xs = c.args.octets.now in
    let now = c.change_pairs.new.octets in
    let n = 64 * (length xs / 64) in
    let whole = 32 * (length now / 32) in
    let pairs = c.change_pairs.ensures in
    elim c.if-blocks-eq1.branch [
      | then-blocks-eq1 w ↦
          let last : n ≡ 32 * (length now / 32 - 1) = omega arith in
          let so_far = pairs ∙ ap (λ k. made_upto f k xs) last in
          w.octets-is ∙ lanes_made f now xs (32 * (length now / 32 - 1)) so_far 32 (whole + 0) _ w.lanes-made.ensures (omega arith) (omega arith)
      | else-blocks-eq1 w ↦
          let all : n ≡ whole + 0 = omega arith in
          w.octets-is ∙ pairs ∙ ap (λ k. made_upto f k xs) all
    ]

pub loop-k-preserved : goal.loop-k-preserved
loop-k-preserved g c = one_made (g.O.LaneOperation.made c.args.operation.now) c.loop-k.octets c.args.octets.now _ c.loop-k.invariant _ _ c.octet.ensures (omega arith) (omega arith)

pub returns : goal.returns
returns g c = all_made (g.O.LaneOperation.made c.args.operation.now) c.loop-k.octets c.args.octets.now _ c.loop-k.invariant (omega arith)
