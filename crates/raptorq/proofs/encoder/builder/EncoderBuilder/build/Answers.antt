use Rattle.std.proofs.Common.{length, sym, ap, ◌∙◌}
use Rattle.rq_base.specs.Defaults.{wanted_parameters}
use Rattle.raptorq.specs.Building.{Settings}
use Rattle.raptorq.proofs.Built.{built}
use Rattle.raptorq.proofs.encoder.builder.EncoderBuilder.build.Goals as goal

pub returns-clause-built : goal.returns-clause-built
returns-clause-built c =
    let table = c.args.table.now in
    let object = c.args.object.now in
    let made = c.new.ensures in
    let wanted = ap (λ (s : Settings). wanted_parameters table (length object) s.packet_size s.decoder_memory) (sym c.self.view_is) ∙ sym c.in_ok-config.ensures.value in
    built table c.args.self.now object c.in_ok-config.config c.new.result wanted made.taken made.nonsingular made.configuration made.encoder
