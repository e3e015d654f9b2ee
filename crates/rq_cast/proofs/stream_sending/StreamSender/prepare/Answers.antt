use Rattle.std.proofs.Common.{◌≡◌, List, ℕ, inl, inr, length, subst, ◌∙◌}
use Rattle.std.proofs.lemmas.Result.{err_from_is_err_and}
use Rattle.rq_cast.specs.Names.{AreNames}
use Rattle.rq_cast.specs.Parts.{object_of}
use Rattle.rq_cast.specs.Preparing.{RefusesFitting}
use Rattle.rq_cast.proofs.Prepared.{prepared_by, refused_by}
use Rattle.rq_cast.proofs.stream_sending.StreamSender.prepare.Goals as goal
use Rattle.rq_cast.proofs.stream_sending.StreamSender.prepare.Goals.{After-as_slice-object}

-- the object
is_object : (c : After-as_slice-object) (before : List (List ℕ)) → AreNames before c.args.self.now.names
    → c.as_slice-object.result.now ≡ object_of c.args.is_last before c.args.bytes.items
is_object c before are = c.as_slice-object.ensures.value ∙ c.in_ok-sealed.ensures.object before are

pub returns-in_err-sealed-clause-refused : goal.returns-in_err-sealed-clause-refused
returns-in_err-sealed-clause-refused c =
    let p = err_from_is_err_and c.from_residual.result c.from_residual.ensures.1 in
    rw (p.1, p.2) (λ before are. inl c.in_err-sealed.ensures.memory)

pub returns-in_err-table-clause-refused : goal.returns-in_err-table-clause-refused
returns-in_err-table-clause-refused c =
    let moved = (goal.at.returns-in_err-table-clause-refused c).After-as_slice-object in
    let p = err_from_is_err_and c.from_residual-in_err-table.result c.from_residual-in_err-table.ensures.1 in
    rw (p.1, p.2) (λ before are. inr (inl
    (subst (λ o. RefusesFitting (length o) c.args.self.now.order.symbol_size c.in_err-table.field-0.0) (is_object moved before are) c.in_err-table.ensures.refused)))

pub returns-clause-prepared : goal.returns-clause-prepared
returns-clause-prepared c =
    let moved = (goal.at.returns-clause-prepared c).After-as_slice-object in
    let s = c.args.self.now in
    prepared_by s.order s.key.now c.args.is_last s.names c.args.bytes.items c.as_slice-object.result.now _ c.in_ok-table.configuration
    c.in_ok-table.ensures.fits (is_object moved)
    c.of_part.result c.of_part.ensures.sends c.of_part.ensures.configuration c.of_part.ensures.keyed c.of_part.ensures.series

pub returns-clause-refused : goal.returns-clause-refused
returns-clause-refused c =
    let moved = (goal.at.returns-clause-refused c).After-as_slice-object in
    let s = c.args.self.now in
    refused_by s.order s.key.now c.args.is_last s.names c.args.bytes.items c.as_slice-object.result.now _ c.in_ok-table.configuration
    c.in_ok-table.ensures.fits (is_object moved)
    c.of_part.result c.of_part.ensures.refused
