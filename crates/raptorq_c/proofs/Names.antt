-- Names that proofs share.
pub use Rattle.std.proofs.Common.{◌≡◌, ◌≢◌, ◌<◌, ℕ, Bool, true, false, List, Option, Some, None, Result, Ok, Err, refl, sym, ap, ◌∙◌, subst, arith, inl, inr, ◌+◌, ◌*◌, ◌≤◌, cond, eqb, ltb, [], ◌∷◌, ◌++◌, append_assoc, append-nil, map, length, get_or, IsSomeAnd, zero, suc, length-append, ◌/◌, ◌%◌, ◌-◌, eq-eqb, min}
pub use Rattle.std.proofs.lemmas.Bool.{le-ltb, eqb-true, lt-ltb, not-false}
pub use Rattle.std.proofs.lemmas.List.{length-map}
pub use Rattle.std.proofs.lemmas.List.FromFn.{length-map-range_with_len, get_or-map-range_with_len}
pub use Rattle.std.proofs.lemmas.Result.{err_from_is_err_and, on_ok_weaker}
pub use Rattle.std.specs.List.{range_with_len, AllByRecursion}
pub use Rattle.std.specs.Prelude.{IfOk, OnErr, MatchResult, not, IfSome, ◌&&◌, ◌||◌, option_and_then, OnOk}
pub use Rattle.std.specs.Slice.Iter.{chunks_rest, chunks_size}
pub use Rattle.rq_bytes.specs.Error.{code_of}
pub use Rattle.rq_bytes.specs.Refusals.{and_then, IsAnswer}
pub use Rattle.rq_bytes.specs.declared.error.Error.{Error}
pub use Rattle.rq_bytes.specs.declared.error.Error.TheVariants.{SymbolSizeZero, TransferLengthZero, TooManyBlocks, TransferTooLong, TooManySymbols, SourceBlocksZero, BlockOverTable, WrongDataLength, PlanMismatch, PacketTooShort, UnknownBlock}
pub use Rattle.rq_standard.specs.Configuration.{configuration_of_bytes, Configuration, largest_block, total_symbols, IsAccepted}
pub use Rattle.rq_standard.specs.Cutting.{block_symbols, symbols_before, symbol_of_block}
pub use Rattle.rq_standard.specs.DecoderState.{State, result_of}
pub use Rattle.rq_standard.specs.Following.{IsAnswerAfter, FollowsRun}
pub use Rattle.rq_standard.specs.Headline.{AnswersExactly, AnswersWhereAnyCan, IsPacketOf, HasNonsingularRows, IsNonsingular}
pub use Rattle.rq_standard.specs.Packet.{Packet, packet_of_bytes, packet_bytes}
pub use Rattle.rq_standard.specs.Streams.{frame_size, frames_in, frames_of}
pub use Rattle.rq_standard.specs.TableRows.{greatest_size, row_of, IsTable}
pub use Rattle.rq_standard.specs.declared.row.TableRow.{TableRow}
pub use Rattle.rq_standard.specs.declared.systematic_indices.TheConstants.{MAX_SOURCE_SYMBOLS_PER_BLOCK}
pub use Rattle.rq_base.proofs.Accepted.{both_ok, ok_of, passed, same_ok, accepted_by}
pub use Rattle.rq_base.specs.RefusedInput.{read_packet, checked_configuration, checked_alignment, configuration_of, greatest_transfer_length, checked_symbols}
pub use Rattle.rq_block.proofs.Numbered.{length-mapped, mapped_at, length-numbered, numbered_at, some_at}
pub use Rattle.rq_block.specs.BlockData.{block_by_plan, block_of}
pub use Rattle.rq_block.specs.RefusedBlocks.{block_refusal, AreWholeSymbols, size_refusal}
pub use Rattle.rq_block.specs.SourceBlockEncoder.{BlockEncoded, block_encoded_of}
pub use Rattle.rq_block.specs.SourceBlockEncodingPlan.{plan_refusal, plan_of, Plan, RefusesPlan}
pub use Rattle.rq_block.specs.declared.encoder.block.SourceBlockEncoder.{SourceBlockEncoder}
pub use Rattle.rq_rows.proofs.AllPass.{greatest, full_table}
pub use Rattle.rq_rows.specs.FullTable.{full_rows}
pub use Rattle.raptorq.proofs.AnsweredParts.{long_answers, result_long, parts_of_decoder, parts_are_objects}
pub use Rattle.raptorq.proofs.Lists.{packets_of-push, length-packet_bytes, answers_exactly, answers_where_any_can}
pub use Rattle.raptorq.specs.Appended.{AppendsObject, RefusesPackets}
pub use Rattle.raptorq.specs.Decoder.{state_of}
pub use Rattle.raptorq.specs.Encoder.{packets_length, encoded_of, Encoded, IsEncoderOf}
pub use Rattle.raptorq.specs.InTurn.{AnswersHere, block_at, AnswersBlock}
pub use Rattle.raptorq.specs.Offsets.{block_range, block_offsets, checked_offsets}
pub use Rattle.raptorq.specs.Refused.{packet_refusal, new_encoder, RefusesEncoder}
pub use Rattle.raptorq.specs.Runs.{IsRunRefusal, AnswersRun, packets_of}
pub use Rattle.raptorq.specs.declared.decoder.object.Decoder.{Decoder}
pub use Rattle.raptorq_c.specs.Coders.{block_decoder_in, encoder_in, coder_at, plan_in}
pub use Rattle.raptorq_c.specs.Decoders.{IsPartOf, FillsWithBlock, FillsWithResult}
pub use Rattle.raptorq_c.specs.Encoders.{planned_refusal, IsPlanIn, block_in, IsBlockEncoderIn, IsPlannedEncoder, IsEncoderIn}
pub use Rattle.raptorq_c.specs.Frames.{AddsEach, AddsFrames, AreAdded, StopsAtFrame, IsListed, IsAddedHere}
pub use Rattle.raptorq_c.specs.Headers.{fewest_blocks, checked_header}
pub use Rattle.raptorq_c.specs.Laws.{CutsAsAsked, IsCutFor, BlockTakesIt}
pub use Rattle.raptorq_c.specs.Numbers.{number_of, refusal_number, IsNumber, Fills}
pub use Rattle.raptorq_c.specs.ObjectBuffers.{Answered, IsDecoded, frames_refusal, packets_in, FillsWithObject, IsFilled, IsRefused, IsDecodingRefusal}
pub use Rattle.raptorq_c.specs.PacketBuffers.{IsEncoding}
pub use Rattle.raptorq_c.specs.Sizes.{bytes_of_packets, part_of_block, range_between}
pub use Rattle.raptorq_c.specs.declared.call_end.CallEnd.{CallEnd}
pub use Rattle.raptorq_c.specs.declared.kept.Coder.{Coder}
