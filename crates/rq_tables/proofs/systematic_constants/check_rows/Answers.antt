use Rattle.std.proofs.Common.{◌≡◌, ℕ, ◌+◌, ◌∙◌, sym, ap, Option, Some, None, drop, refl}
use Rattle.rq_standard.specs.TableRows.{first_refused, first_failure}
use Rattle.rq_tables.proofs.Lookups.{check_step, first_refused-end}
use Rattle.rq_tables.proofs.systematic_constants.check_rows.Goals as goal

pub returns-in-Some : goal.returns-in-Some
returns-in-Some c =
    let place = c.loop-place.place in
    let rows = c.args.rows.now in
    let step = check_step rows place _ c.row_at-row.result c.first_failing_check.result c.loop-place-test.true c.row_at-row.ensures c.first_failing_check.ensures in
    let refused : first_refused 0 rows ≡ Some (place, c.in-Some.check) =
    sym c.loop-place.invariant ∙ step ∙ ap (λ (o : Option ℕ). first_failure o place (first_refused (place + 1) (drop (place + 1) rows))) c.in-Some.is in
    rw refused refl

pub loop-place-preserved : goal.loop-place-preserved
loop-place-preserved c =
    let place = c.loop-place.place in
    let rows = c.args.rows.now in
    let step = check_step rows place _ c.row_at-row.result c.first_failing_check.result c.loop-place-test.true c.row_at-row.ensures c.first_failing_check.ensures in
    sym (ap (λ (o : Option ℕ). first_failure o place (first_refused (place + 1) (drop (place + 1) rows))) c.in_default.is) ∙ sym step ∙ c.loop-place.invariant

pub returns : goal.returns
returns c =
    let refused : first_refused 0 c.args.rows.now ≡ None = sym c.loop-place.invariant ∙ first_refused-end c.args.rows.now c.loop-place.place c.loop-place-test.false in
    rw refused refl
