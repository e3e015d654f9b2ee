use Rattle.std.proofs.Common.{◌≡◌, ◌⊎◌, ◌+◌, Bool, true, Err, refl, subst, arith}
use Rattle.rq_streams.specs.declared.run.Stop.TheVariants.{Fault}
use Rattle.rq_streams.specs.Counted.{failed_count}
use Rattle.rq_devices.specs.Failed.{FailsPutting}
use Rattle.rq_devices.proofs.Counting.{failed_behind, failed_then}
use Rattle.rq_guard_runs.proofs.FailedCalls.{fails_mending}
use Rattle.rq_guard_runs.proofs.pair.Pair.put_mended.Goals as goal

pub returns-clause-failures : goal.returns-clause-failures
returns-clause-failures g c =
    let a = g.D.Devices.failed c.args.devices.now in
    let w = g.D.Devices.failed c.create.new.self in
    let m = g.D.Devices.failed c.mend-mended.new.devices in
    let z = g.D.Devices.failed c.put.new.devices in
    let mends = c.mend-mended.ensures.counts in
    let writes = failed_count c.mend-mended.new.writer in
    let puts = c.put.ensures.failures in
    let before = mends.0 + writes in
    let all = before + puts.0 in
    let is = c.is_mended-is_whole.ensures in (
      all,
      failed_behind a w z all c.in_ok-create.ensures.counts (failed_then w m z mends.0 (writes + puts.0) all mends.1
          (failed_then m (g.D.Devices.failed c.count.new.self) z writes puts.0 (writes + puts.0) c.count.ensures.counts puts.1 refl) (omega arith)),
      fails_mending c.mend-mended.result c.put.result before puts.0 mends.2
          (subst (λ (b : Bool). (c.mend-mended.result ≡ c.put.result) ⊎ ((b ≡ true) × (c.put.result ≡ Err Fault))) is c.put.ensures.same)
          (subst (λ (b : Bool). FailsPutting b c.put.result puts.0) is puts.2),
    )
