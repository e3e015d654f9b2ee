use Rattle.std.proofs.Common.{Ok, Err, refl}
use Rattle.std.proofs.lemmas.Result.{err_from_is_err_and}
use Rattle.raptorq.proofs.decoder.object.Decoder.decode.Goals as goal

pub returns-in_err-add_new_packet : goal.returns-in_err-add_new_packet
returns-in_err-add_new_packet c =
    let p = err_from_is_err_and c.from_residual.result c.from_residual.ensures.1 in
    rw (p.1, p.2) (record { taken = Err c.in_err-add_new_packet.field-0.0; takes = c.in_err-add_new_packet.ensures; joins = refl })

pub returns : goal.returns
returns c = record { taken = Ok tt; takes = c.in_ok-add_new_packet.ensures; joins = c.get_result.ensures }
