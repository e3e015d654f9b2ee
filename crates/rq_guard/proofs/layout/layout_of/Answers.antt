use Rattle.std.proofs.Common.{◌≡◌, ◌<◌, ◌∙◌}
use Rattle.rq_bytes.specs.declared.error.Error.TheVariants.{TransferTooLong}
use Rattle.rq_guard.proofs.Layouts.{no_error, accepted_made, new_configuration-layout}
use Rattle.rq_guard.proofs.layout.layout_of.Goals as goal

pub returns-clause-accepted : goal.returns-clause-accepted
returns-clause-accepted c =
    accepted_made c.args.length c.symbol_size-size.result c.symbol_size-size.ensures c.new.result
    (c.new.ensures ∙ new_configuration-layout c.args.length c.symbol_size-size.result c.symbol_size-size.ensures c.if-length.false)

pub returns-clause-refused : goal.returns-clause-refused
returns-clause-refused c =
    no_error (λ e. (e ≡ TransferTooLong) × (1006632960 < c.args.length)) c.new.result _
    (c.new.ensures ∙ new_configuration-layout c.args.length c.symbol_size-size.result c.symbol_size-size.ensures c.if-length.false)
