use Rattle.std.proofs.Common.{◌+◌, ◌%◌, arith}
use Rattle.std.proofs.lemmas.Result.{err_from_is_err_and}
use Rattle.rq_cast.proofs.Prepared.{fits_uncut, refuses_uncut, fit_parts, refuses_whole, refuses_last}
use Rattle.rq_cast.proofs.preparing.check_length.Goals as goal
use Rattle.rq_cast.proofs.preparing.check_length.Goals.{then-last-gt0+in_ok-fitting, else-last-gt0}

pub returns-in_err-fitting-clause-refused : goal.returns-in_err-fitting-clause-refused
returns-in_err-fitting-clause-refused c =
    let p = err_from_is_err_and c.from_residual.result c.from_residual.ensures.1 in
    rw (p.1, p.2) (refuses_whole c.args.order.now c.args.length c.in_err-fitting.field-0.0 c.if-last-gt0.true c.in_err-fitting.ensures.refused)

pub returns-in_err-fitting-2-clause-refused : goal.returns-in_err-fitting-2-clause-refused
returns-in_err-fitting-2-clause-refused c =
    let order = c.args.order.now in
    let n = c.args.length in
    let e = c.in_err-fitting-2.field-0.0 in
    let p = err_from_is_err_and c.from_residual-in_err-fitting-2.result c.from_residual-in_err-fitting-2.ensures.1 in
    rw (p.1, p.2) (refuses_last order n e
    (refuses_uncut (n % order.part + 32) c.saturating_add-sealed.result order.symbol_size c.saturating_add-sealed.ensures e c.in_err-fitting-2.ensures.refused))

pub returns-clause-fits : goal.returns-clause-fits
returns-clause-fits c =
    let order = c.args.order.now in
    let n = c.args.length in
    let long = n % order.part + 32 in
    let found = c.in_ok-fitting-2.field-0 in
    fit_parts order n (omega (arith, c.if-last-from.false, c.from.ensures))
    (λ some. elim c.if-last-gt0.branch [
      | then-last-gt0+in_ok-fitting w ↦ (w.in_ok-fitting.field-0.0, w.in_ok-fitting.field-0.1, w.in_ok-fitting.ensures.fits)
      | else-last-gt0 w ↦ absurd (omega (arith, some, w.if-last-gt0.false))
    ])
    (found.0, found.1, fits_uncut long c.saturating_add-sealed.result order.symbol_size c.saturating_add-sealed.ensures found.0 found.1 c.in_ok-fitting-2.ensures.fits)
