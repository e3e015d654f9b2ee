use Rattle.std.proofs.Common.{◌≡◌, Ok, Err, refl, ap, ◌∙◌, subst}
use Rattle.std.proofs.lemmas.Result.{err_from_is_err_and}
use Rattle.raptorq.specs.InTurn.{AnswersBlock}
use Rattle.raptorq.proofs.decoder.object.Decoder.add_new_packet.Goals as goal

pub returns-in_err-record : goal.returns-in_err-record
returns-in_err-record c =
    let p = err_from_is_err_and c.from_residual.result c.from_residual.ensures.1 in
    rw (p.1, p.2) (record { recorded = Err c.in_err-record.field-0.0; middle = c.record.new.self; records = c.in_err-record.ensures; answers = (refl, refl) })

pub returns : goal.returns
returns c =
    let number : c.source_block_number-number.result ≡ c.args.packet.id.block = c.source_block_number-number.ensures ∙ ap (λ i. i.block) c.payload_id.ensures in
    record {
      recorded = Ok tt;
      middle = c.record.new.self;
      records = c.in_ok-record.ensures;
      answers = subst (λ n. AnswersBlock c.record.new.self n c.answer_block.result c.answer_block.new.self) number c.answer_block.ensures;
    }
