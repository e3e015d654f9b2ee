use Rattle.std.proofs.Common.{option_map, subst}
use Rattle.std.proofs.lemmas.Result.{IfOk-weaker}
use Rattle.rq_streams.specs.Counted.{inner}
use Rattle.rq_guard.specs.ListReading.{ReadsLists}
use Rattle.rq_devices.specs.Placed.{Contents}
use Rattle.rq_guard_runs.proofs.pair.Pair.lists_of.Goals as goal

pub returns-clause-lists : goal.returns-clause-lists
returns-clause-lists g c =
    let after = g.D.Reader.Read.remaining (inner c.lists_in-lists.new.reader) in
    IfOk-weaker c.lists_in-lists.result _ _
    (λ o reads. (
      after,
      subst (λ (b : Contents). ReadsLists c.args.self.now.by.table.now c.args.self.now.by.key.now c.args.stream.now b after
          (option_map (λ v. v.items) o)) c.in_ok-guard.ensures.bytes reads,
    )) c.lists_in-lists.ensures.lists
