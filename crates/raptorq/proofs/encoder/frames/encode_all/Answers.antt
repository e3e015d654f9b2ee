use Rattle.std.proofs.Common.{◌≡◌, ◌++◌, length, Ok, sym, ap, ◌∙◌}
use Rattle.std.proofs.lemmas.Result.{err_from_is_err_and}
use Rattle.rq_standard.specs.Streams.{frames_of}
use Rattle.rq_standard.specs.TableRows.{greatest_size}
use Rattle.raptorq.specs.Appended.{no_encoder, too_many}
use Rattle.raptorq.specs.BlockCutting.{StandsBefore}
use Rattle.raptorq.specs.Refused.{new_encoder}
use Rattle.raptorq.proofs.EncodedBlocks.{new_encoder-taken, from_first, refuses_singular}
use Rattle.raptorq.proofs.encoder.frames.encode_all.Goals as goal
use Rattle.raptorq.proofs.encoder.frames.encode_all.Goals.{In_ok-blocks}

module _ (c : In_ok-blocks) where
  long : length c.args.object.now ≡ c.args.config.now.transfer_length
  long = c.if-object-transfer_length.false ∙ c.transfer_length.ensures.value

  taken : new_encoder (greatest_size c.args.table.now) c.args.config.now (length c.args.object.now) ≡ Ok tt
  taken = new_encoder-taken (greatest_size c.args.table.now) c.args.config.now (length c.args.object.now) (sym c.in_ok-check.ensures.refused) long

pub returns-in_err-check_rows-in-Err-clause-refused : goal.returns-in_err-check_rows-in-Err-clause-refused
returns-in_err-check_rows-in-Err-clause-refused c =
    let at = (goal.at.returns-in_err-check_rows-in-Err-clause-refused c).In_ok-blocks in
    let made = c.in_ok-blocks.ensures in
    let p = err_from_is_err_and c.from_residual-in_err-check_rows-in-Err.result c.from_residual-in_err-check_rows-in-Err.ensures.1 in
    rw (p.1, p.2) (no_encoder (refuses_singular c.args.table.now c.args.config.now (length c.args.object.now) c.in_err-check_rows-in-Err.field-0.0 (taken at) (rw (made.table, made.config) at c.in_err-check_rows-in-Err.ensures.refused)))

pub returns-in-Err-clause-refused : goal.returns-in-Err-clause-refused
returns-in-Err-clause-refused c =
    let at = (goal.at.returns-in-Err-clause-refused c).In_ok-blocks in
    let made = c.in_ok-blocks.ensures in
    too_many (taken at) (rw (made.table, made.config) at c.in_ok-check_rows-in-Err.ensures.nonsingular) c.in-Err.ensures.refused

pub returns-in-Err-append_blocks-clause-refused : goal.returns-in-Err-append_blocks-clause-refused
returns-in-Err-append_blocks-clause-refused c =
    let at = (goal.at.returns-in-Err-append_blocks-clause-refused c).In_ok-blocks in
    let made = c.in_ok-blocks.ensures in
    no_encoder (refuses_singular c.args.table.now c.args.config.now (length c.args.object.now) c.in-Err-append_blocks.refusal (taken at) (rw (made.table, made.config) at c.in-Err-append_blocks.ensures.refused))

pub returns-clause-packets : goal.returns-clause-packets
returns-clause-packets c =
    let at = (goal.at.returns-clause-packets c).In_ok-blocks in
    let made = c.in_ok-blocks.ensures in
    let object = c.args.object.now in
    let appends = c.in_default.ensures.packets in
    let stands : StandsBefore object 0 c.in_ok-blocks.blocks = rw made.config (made.whole ∙ from_first c.args.config.now object) in
    record {
      taken = taken at;
      nonsingular = rw (made.table, made.config) at c.in_default.ensures.nonsingular;
      enough = c.in-Ok.ensures.enough;
      packets = appends.packets;
      encoded = rw (made.table, made.config) at (appends.encoded object (rw made.config (long at)) stands);
      grown = appends.grown ∙ ap (λ xs. xs ++ frames_of appends.packets) c.reserve_exact.ensures.items;
    }
