use Rattle.std.proofs.Common.{◌∷◌, [], option_map, refl, subst, ◌∙◌}
use Rattle.rq_devices.specs.Placed.{guard_name}
use Rattle.rq_guard_runs.specs.Guards.{Checks}
use Rattle.rq_devices.specs.Keyed.{IsKeyRead, key_file}
use Rattle.rq_devices.specs.Placed.{Files}
use Rattle.rq_command.proofs.Failing.{passed_on}
use Rattle.rq_devices.proofs.Counting.{failed_behind}
use Rattle.rq_command.proofs.guarded.check.Goals as goal

pub returns-in_err-check-clause-failures : goal.returns-in_err-check-clause-failures
returns-in_err-check-clause-failures g c =
    passed_on c.from_residual-in_err-check.result c.in_err-check.field-0.0 (g.D.Devices.failed c.args.devices.now) (g.D.Devices.failed c.key_of.new.devices)
    (g.D.Devices.failed c.check.new.devices) c.from_residual-in_err-check.ensures.1 c.in_ok-key.ensures.counts c.in_err-check.ensures.counts

pub returns-clause-does : goal.returns-clause-does
returns-clause-does g c =
    let stands = g.D.Devices.stands c.args.devices.now in
    let file = c.args.job.now.file.now in
    let guard = guard_name file (option_map (λ s. s.now) c.args.job.now.guard) in
    let keys = key_file stands (option_map (λ s. s.now) c.args.job.now.key) in (
      record {
        key = c.in-Some.key;
        keyed = subst (IsKeyRead keys) c.in-Some.is c.in_ok-key.ensures.key;
        table = c.in_ok-table.table;
        rows = c.in_ok-table.ensures;
        holds = subst (λ (s : Files). Checks c.in_ok-table.table c.in-Some.key (s (file ∷ [])) (s (guard ∷ [])) c.in_ok-check.field-0) c.key_of.ensures.stays
            c.in_ok-check.ensures.found;
      },
      c.check.ensures.kept ∙ c.key_of.ensures.kept,
    )

pub returns-clause-failures : goal.returns-clause-failures
returns-clause-failures g c = (
  0,
  failed_behind (g.D.Devices.failed c.args.devices.now) (g.D.Devices.failed c.key_of.new.devices) (g.D.Devices.failed c.check.new.devices) 0
      c.in_ok-key.ensures.counts c.in_ok-check.ensures.counts,
  refl,
)
