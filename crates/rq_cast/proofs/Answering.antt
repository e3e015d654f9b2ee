-- What is answered of the cells that a part's receiver has taken.
use Rattle.std.proofs.Common.{ℕ, List, refl, subst, drop}
use Rattle.rq_standard.specs.declared.row.TableRow.{TableRow}
use Rattle.rq_standard.specs.Configuration.{Configuration}
use Rattle.rq_standard.specs.Packet.{Packet}
use Rattle.rq_standard.specs.DecoderState.{State, result_of}
use Rattle.raptorq.specs.Decoder.{state_of}
use Rattle.raptorq.proofs.Lists.{answers_exactly, answers_where_any_can}
use Rattle.rq_cells.specs.declared.head.Head.{Head}
use Rattle.rq_cells.specs.declared.cell.Cell.{Cell}
use Rattle.rq_cast.specs.declared.part_receiver.PartReceiver.{PartReceiver}
use Rattle.rq_cast.specs.Taken.{received_packets, IsAnswered}
use Rattle.rq_cast.specs.PartReceiving.{IsAttempt, HasReceived}
use Rattle.rq_cast.specs.Missing.{TellsMissingPackets, NeedsPackets}
use Rattle.rq_cast.proofs.Needed.{needs_packets}

module _ (table : List TableRow) (first : Head) (came : List Cell) (p : PartReceiver) (is : IsAttempt p.choice.head p.attempt)
    (has : HasReceived table first came p) where
  abbrev c : Configuration
  c = p.choice.head.configuration

  abbrev state : State
  state = state_of p.attempt.decoder

  -- the packets that count
  abbrev pub packets : List Packet
  packets = received_packets p.choice.head (drop has.begun came)

  -- how many packets more it needs
  pub needs_by : (missing : ℕ) → TellsMissingPackets p.attempt.decoder missing → NeedsPackets table c packets missing
  needs_by missing told =
      subst (λ (k : Configuration). NeedsPackets table k packets missing) is.configuration (needs_packets table packets p.attempt.decoder has.follows missing told)

  pub answered_by : IsAnswered table c packets (result_of state)
  answered_by = record {
    whoever = record { state = state; configuration = is.configuration; follows = has.follows; value = refl };
    honest = answers_exactly table c packets state is.configuration has.follows;
    only_object = answers_where_any_can table c packets state is.configuration has.follows;
  }
