use Rattle.std.proofs.Common.{[], Some, option_map, subst, ap}
use Rattle.std.proofs.lemmas.Result.{IfOk-weaker}
use Rattle.rq_cast.specs.Received.{wish_over}
use Rattle.rq_guard.specs.ListReading.{ReadsLists}
use Rattle.rq_guard.specs.StreamReading.{FindsFirst}
use Rattle.rq_guard_runs.specs.Pairs.{in_guard}
use Rattle.rq_devices.specs.Placed.{Contents}
use Rattle.rq_guard_runs.proofs.pair.Pair.lists.Goals as goal

pub returns-clause-lists : goal.returns-clause-lists
returns-clause-lists g c =
    let p = c.args.self.now in
    let guard = in_guard p (g.D.Devices.stands c.args.devices.now) in
    let first = c.in_ok-head.ensures.first in
    IfOk-weaker c.lists_of.result _ _
    (λ o reads. record {
      head = Some c.in-Some.head;
      after = first.0;
      first = subst (FindsFirst (wish_over p.by.table.now p.by.key.now [] []) guard first.0) c.in-Some.is first.1;
      listed = (
        reads.0,
        subst (λ (b : Contents). ReadsLists p.by.table.now p.by.key.now c.in-Some.head.stream b reads.0 (option_map (λ v. v.items) o))
            (ap (in_guard p) c.first_head.ensures.stays) reads.1,
      );
    }) c.lists_of.ensures.lists
