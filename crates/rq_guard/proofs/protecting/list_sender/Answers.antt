use Rattle.std.proofs.Common.{◌≡◌, sym, ap, subst, ◌∙◌, refl, inl}
use Rattle.std.proofs.lemmas.Result.{err_from_is_err_and}
use Rattle.rq_base.proofs.Accepted.{same_ok}
use Rattle.rq_cells.specs.Cells.{part_name}
use Rattle.rq_guard.specs.Lists.{listed_of, list_bytes, list_number}
use Rattle.rq_guard.specs.Protecting.{IsListSeries, IsListSending}
use Rattle.rq_guard.proofs.Guardings.{list_sending, list_unfit, list_unencoded}
use Rattle.rq_guard.proofs.protecting.list_sender.Goals as goal
use Rattle.rq_guard.proofs.protecting.list_sender.Goals.{After-as_slice-bytes}

-- the list's bytes
are : (c : After-as_slice-bytes) → c.as_slice-bytes.result.now ≡ list_bytes c.args.key.now (listed_of c.args.list.now)
are c = c.as_slice-bytes.ensures.value ∙ sym (same_ok (list_bytes c.args.key.now (listed_of c.args.list.now)) _ c.in_ok-serialized.ensures)

pub returns-in_err-serialized-clause-refused : goal.returns-in_err-serialized-clause-refused
returns-in_err-serialized-clause-refused c =
    let p = err_from_is_err_and c.from_residual.result c.from_residual.ensures.1 in
    rw (p.1, p.2) (inl (inl c.in_err-serialized.ensures))

pub returns-in_err-table-clause-refused : goal.returns-in_err-table-clause-refused
returns-in_err-table-clause-refused c =
    let moved = (goal.at.returns-in_err-table-clause-refused c).After-as_slice-bytes in
    let p = err_from_is_err_and c.from_residual-in_err-table.result c.from_residual-in_err-table.ensures.1 in
    rw (p.1, p.2) (list_unfit c.args.key.now (listed_of c.args.list.now) c.as_slice-bytes.result.now (are moved) c.in_err-table.field-0.0 c.in_err-table.ensures.refused)

pub returns-in_err-digested-clause-refused : goal.returns-in_err-digested-clause-refused
returns-in_err-digested-clause-refused c =
    let moved = (goal.at.returns-in_err-digested-clause-refused c).After-as_slice-bytes in
    let p = err_from_is_err_and c.from_residual-in_err-digested.result c.from_residual-in_err-digested.ensures.1 in
    rw (p.1, p.2) (list_unencoded c.args.key.now (listed_of c.args.list.now) c.as_slice-bytes.result.now (are moved) _ c.in_ok-table.configuration c.in_err-digested.field-0.0
    c.in_ok-table.ensures.fits c.in_err-digested.ensures.refused)

pub returns-clause-sends : goal.returns-clause-sends
returns-clause-sends c =
    let moved = (goal.at.returns-clause-sends c).After-as_slice-bytes in
    let key = c.args.key.now in
    let h = c.args.list.now.head in
    let conf = c.in_ok-table.configuration in
    let made = c.in_ok-digested.ensures in
    let named = c.part_name.ensures ∙ ap (part_name (list_number h.number) conf) (c.digests.ensures ∙ made.digests) in
    subst (IsListSending key (listed_of c.args.list.now) c.args.half) (sym c.new-2.ensures)
    (list_sending key (listed_of c.args.list.now) c.as_slice-bytes.result.now (are moved) c.args.half _ conf _ c.in_ok-table.ensures.fits made.encodes
    made.configuration
    (λ j. record { stream = h.stream; number = list_number h.number; name = named j; configuration = conf })
    refl
    (subst (λ k. IsListSeries c.args.half k c.series-series.result) c.largest_block.ensures.value c.series-series.ensures))
