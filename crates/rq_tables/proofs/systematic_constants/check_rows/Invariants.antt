use Rattle.std.proofs.Common.{◌≡◌, drop}
use Rattle.rq_standard.specs.TableRows.{first_refused}
use Rattle.rq_tables.proofs.systematic_constants.check_rows.Given as goal

abbrev pub invariant-loop-place : goal.invariant-loop-place
invariant-loop-place l = first_refused l.place (drop l.place l.rows) ≡ first_refused 0 l.rows
