use Rattle.raptorq_c.proofs.Names.{◌≡◌, ◌≢◌, ℕ, List, Result, Ok, Err, refl, sym, ap, ◌∙◌, subst, arith, [], length, err_from_is_err_and, OnErr, OnOk, code_of, Error, configuration_of_bytes, ok_of, AppendsObject, RefusesPackets, number_of, IsEncoding, CallEnd}
use Rattle.raptorq_c.specs.PacketBuffers.{FillsWithPackets, StopsEncoding, refused, other_length}
use Rattle.raptorq_c.proofs.Ending.{code_positive}
use Rattle.raptorq_c.proofs.Held.{over}
use Rattle.raptorq_c.proofs.PacketLengths.{packets_room}
use Rattle.raptorq_c.proofs.encoding.encode.Goals as goal

-- a buffer is filled with bytes of the packets where it has their length
filled : (header object : List ℕ) (repair : ℕ) (bytes before after : List ℕ) (ended : Result (Unit {0}) CallEnd) → IsEncoding header object repair bytes → OnOk ended (after ≡ bytes) → OnOk ended (length bytes ≡ length before)
    → OnErr ended (number_of ended ≡ 24) → OnErr ended (length bytes ≢ length before) → OnErr ended (after ≡ before) → FillsWithPackets header object repair (number_of ended) before after
filled header object repair bytes before after (Ok x) are is fits number other kept = record {
  packets = λ _. subst (IsEncoding header object repair) (sym is) are;
  room = λ _. packets_room header object repair bytes are ∙ ap ok_of fits;
  stopped = λ not_done. absurd (not_done refl);
  kept = λ not_done. absurd (not_done refl);
}
filled header object repair bytes before after (Err s) are is fits number other kept = record {
  packets = λ zero. absurd (omega (arith, zero, number));
  room = λ zero. absurd (omega (arith, zero, number));
  stopped = λ _. other_length bytes are (λ same. other (sym same)) number;
  kept = λ _. kept;
}

-- it stays where no packets are made
stopped_before : (header object : List ℕ) (repair : ℕ) (buffer : List ℕ) (e : Error) → StopsEncoding header object repair (length buffer) (code_of e) → FillsWithPackets header object repair (code_of e) buffer buffer
stopped_before header object repair buffer e stops = record {
  packets = λ zero. absurd (omega (arith, zero, code_positive e));
  room = λ zero. absurd (omega (arith, zero, code_positive e));
  stopped = λ _. stops;
  kept = λ _. refl;
}

pub returns-in_err-encode_all : goal.returns-in_err-encode_all
returns-in_err-encode_all c =
    let e = c.in_err-encode_all.field-0.0 in
    let refuses = over (λ t k. RefusesPackets t k (length c.args.object.now) c.args.repair e) _ _ (configuration_of_bytes c.args.configuration.now) c.in_ok-table.ensures.rows c.deserialize-config.ensures c.in_err-encode_all.ensures.refused in
    let p = err_from_is_err_and c.from_residual-in_err-encode_all.result c.from_residual-in_err-encode_all.ensures.1 in
    rw (p.1, p.2) (stopped_before c.args.configuration.now c.args.object.now c.args.repair c.args.packets.now e (refused e refuses refl))

pub returns : goal.returns
returns c =
    let appends = rw c.new-bytes.ensures.items at c.in_ok-encode_all.ensures.packets in
    let are = over (λ t k. AppendsObject t k c.args.object.now c.args.repair [] c.encode_all.new.bytes.items) _ _ (configuration_of_bytes c.args.configuration.now) c.in_ok-table.ensures.rows c.deserialize-config.ensures appends in
    let ends = c.fill.ensures in
    filled c.args.configuration.now c.args.object.now c.args.repair c.as_slice.result.now c.args.packets.now c.fill.new.buffer c.fill.result
    (subst (IsEncoding c.args.configuration.now c.args.object.now c.args.repair) (sym c.as_slice.ensures.value) are) ends.filled ends.fits ends.number ends.other ends.kept
