-- What the check leaves to show of a multiplier's operation on vectors.
use Rattle.std.proofs.Common.{◌≡◌, map, sym, ap, ◌∙◌}
use Rattle.rq_standard.specs.Octets.{octet_mul}
use Rattle.rq_bytes.specs.declared.lane_multiples.Multiplier.{Multiplier}
use Rattle.rq_bytes.specs.LaneMultiples.{octet_of}
use Rattle.rq_bytes.proofs.LaneFacts.{alone}
use Rattle.rq_bytes.proofs.lane_multiples.MultiplierLaneOperation.lanes.Goals as goal
use Rattle.rq_bytes.proofs.lane_multiples.MultiplierLaneOperation.lanes.Goals.{in-Double, in-LookUp, in-Planes}

pub returns : goal.returns
returns c =
    let times = λ (m : Multiplier). map (octet_mul (octet_of m)) c.args.octets in
    let made : c.match-self.result ≡ times c.args.self.now = elim c.match-self.branch [
      | in-Double w ↦ w.result-is ∙ w.doubled_lanes.ensures ∙ ap times (sym w.in-Double.is)
      | in-LookUp w ↦ w.result-is ∙ w.products.ensures.products ∙ ap (map (octet_mul _)) w.new.ensures ∙ ap times (sym w.in-LookUp.is)
      | in-Planes w ↦ w.result-is ∙ w.plane_products.ensures ∙ ap times (sym w.in-Planes.is)
    ] in
    made ∙ sym (alone (octet_mul (octet_of c.args.self.now)) c.args.octets c.args._place)
