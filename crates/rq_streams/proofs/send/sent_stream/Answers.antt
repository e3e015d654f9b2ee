use Rattle.std.proofs.Common.{◌≡◌, ◌∙◌, length, Ok, sym, subst}
use Rattle.std.proofs.lemmas.Result.{err_from_is_err_and}
use Rattle.raptorq.specs.Appended.{RefusesPackets}
use Rattle.rq_streams.specs.Sent.{default_parameters}
use Rattle.rq_streams.proofs.Sending.{sent_packets, sent_refused}
use Rattle.rq_streams.proofs.send.sent_stream.Goals as goal
use Rattle.rq_streams.proofs.send.sent_stream.Goals.{In_ok-config}

module _ (c : In_ok-config) where
  configured : default_parameters c.args.table.now (length c.args.object.items) c.args.packet_size ≡ Ok c.in_ok-config.config
  configured = subst (λ n. default_parameters c.args.table.now n c.args.packet_size ≡ Ok c.in_ok-config.config) (c.len-length.ensures ∙ c.args.object.ok.0) (sym c.in_ok-config.ensures)

pub returns-in_err-encode_all : goal.returns-in_err-encode_all
returns-in_err-encode_all c =
    let at = (goal.at.returns-in_err-encode_all c).In_ok-config in
    let k = c.in_ok-config.config in
    let e = c.in_err-encode_all.field-0.0 in
    let p = err_from_is_err_and c.from_residual-in_err-encode_all.result c.from_residual-in_err-encode_all.ensures.1 in
    let refused = subst (λ xs. RefusesPackets c.args.table.now k (length xs) c.args.repair e) c.as_slice.ensures.value c.in_err-encode_all.ensures.refused in
    rw (p.1, p.2) (sent_refused c.args.table.now c.args.packet_size c.args.repair c.args.object.items k (configured at) e refused)

pub returns : goal.returns
returns c =
    let at = (goal.at.returns c).In_ok-config in
    let k = c.in_ok-config.config in
    let stream = c.encode_all.new.bytes.items in
    let appends = rw (c.in_ok-stream.ensures.items ∙ c.serialize.ensures.value, c.as_slice.ensures.value) at c.in_ok-encode_all.ensures.packets in
    sent_packets c.args.table.now c.args.packet_size c.args.repair c.args.object.items k (configured at) stream appends
