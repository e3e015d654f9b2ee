use Rattle.std.proofs.Common.{◌∷◌, [], option_map, subst}
use Rattle.rq_devices.specs.Placed.{guard_name}
use Rattle.rq_guard_runs.specs.Guards.{Repairs}
use Rattle.rq_devices.specs.Keyed.{IsKeyRead, key_file}
use Rattle.rq_devices.specs.Placed.{Files}
use Rattle.rq_devices.specs.Spots.{Spots}
use Rattle.rq_devices.proofs.Counting.{failed_behind}
use Rattle.rq_command.proofs.guarded.repair.Goals as goal

pub returns-clause-does : goal.returns-clause-does
returns-clause-does g c =
    let stands = g.D.Devices.stands c.args.devices.now in
    let file = c.args.job.now.file.now in
    let guard = guard_name file (option_map (λ s. s.now) c.args.job.now.guard) in
    let said = option_map (λ s. s.now) c.args.job.now.output in
    let new = g.D.Devices.placed c.repair.new.devices in
    let keys = key_file stands (option_map (λ s. s.now) c.args.job.now.key) in
    record {
      key = c.in-Some.key;
      keyed = subst (IsKeyRead keys) c.in-Some.is c.in_ok-key.ensures.key;
      table = c.in_ok-table.table;
      rows = c.in_ok-table.ensures;
      holds = subst (λ (old : Spots). Repairs c.in_ok-table.table c.in-Some.key (λ s. s (file ∷ [])) (λ s. s (guard ∷ [])) file said stands
          g.D.Devices.blank c.in_ok-repair.field-0 old new) c.key_of.ensures.kept
          (subst (λ (s : Files). Repairs c.in_ok-table.table c.in-Some.key (λ s. s (file ∷ [])) (λ s. s (guard ∷ [])) file said s
          g.D.Devices.blank c.in_ok-repair.field-0 (g.D.Devices.placed c.key_of.new.devices) new) c.key_of.ensures.stays c.in_ok-repair.ensures.found);
    }

pub returns-clause-failures : goal.returns-clause-failures
returns-clause-failures g c =
    let fails = c.in_ok-repair.ensures.failures in (
      fails.0,
      failed_behind (g.D.Devices.failed c.args.devices.now) (g.D.Devices.failed c.key_of.new.devices) (g.D.Devices.failed c.repair.new.devices) fails.0
          c.in_ok-key.ensures.counts fails.1,
      fails.2,
    )
