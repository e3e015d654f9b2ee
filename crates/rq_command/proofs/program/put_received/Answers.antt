use Rattle.std.proofs.Common.{◌≡◌, ◌⊎◌, Bool, true, Err, subst}
use Rattle.rq_streams.specs.declared.run.Stop.TheVariants.{Fault}
use Rattle.rq_devices.specs.Failed.{FailsPutting}
use Rattle.rq_devices.specs.Spots.{IsFinished, spot_of}
use Rattle.rq_command.proofs.Failing.{fails_placing}
use Rattle.rq_command.proofs.program.put_received.Goals as goal

pub returns-clause-same : goal.returns-clause-same
returns-clause-same g c =
    subst (λ (b : Bool). (c.args.ended ≡ c.put.result) ⊎ ((b ≡ true) × (c.put.result ≡ Err Fault))) c.is_whole-whole.ensures c.put.ensures.same

pub returns-clause-placed : goal.returns-clause-placed
returns-clause-placed g c =
    subst (λ (b : Bool). IsFinished (spot_of c.args.place) b c.put.result (g.D.Writer.Write.contents c.args.writer) (g.D.Devices.placed c.args.devices.now)
    (g.D.Devices.placed c.put.new.devices)) c.is_whole-whole.ensures c.put.ensures.placed

pub returns-clause-failures : goal.returns-clause-failures
returns-clause-failures g c =
    let puts = c.put.ensures.failures in (
      puts.0,
      puts.1,
      fails_placing c.args.ended c.put.result puts.0 c.requires
          (subst (λ (b : Bool). (c.args.ended ≡ c.put.result) ⊎ ((b ≡ true) × (c.put.result ≡ Err Fault))) c.is_whole-whole.ensures c.put.ensures.same)
          (subst (λ (b : Bool). FailsPutting b c.put.result puts.0) c.is_whole-whole.ensures puts.2),
    )
