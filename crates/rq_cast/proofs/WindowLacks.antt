-- What the first part lacks that isn't settled.
use Rattle.std.proofs.Common.{◌≡◌, ℕ, ◌+◌, List, Option, Some, None, false, ap, subst, ◌∙◌, arith, length}
use Rattle.std.specs.Prelude.{IfSome, MatchOption, option_map, vec_items}
use Rattle.std.proofs.lemmas.List.{length-map}
use Rattle.rq_standard.specs.declared.row.TableRow.{TableRow}
use Rattle.rq_standard.specs.Configuration.{Configuration}
use Rattle.rq_standard.specs.DecoderState.{result_of}
use Rattle.raptorq.specs.Decoder.{state_of}
use Rattle.rq_cells.specs.declared.head.Head.{Head}
use Rattle.rq_cells.specs.declared.cell.Cell.{Cell}
use Rattle.rq_cast.specs.declared.part_receiver.PartReceiver.{PartReceiver}
use Rattle.rq_cast.specs.declared.window.Window.{Window}
use Rattle.rq_cast.specs.Missing.{TellsMissingPackets, NeedsPackets}
use Rattle.rq_cast.specs.Taken.{IsTakenHead, received_packets, IsNamedIn}
use Rattle.rq_cast.specs.Streams.{cells_of}
use Rattle.rq_cast.specs.Votes.{votes_for}
use Rattle.rq_cast.specs.PartReceiving.{IsSound}
use Rattle.rq_cast.specs.Windows.{Settled, names_of, open_at, IsSoundWindow, IsOpen, HasVoted, HasAll, HasTaken, IsUndetermined, LacksOf, Lacks}
use Rattle.rq_cast.proofs.Answering.{answered_by, needs_by}
use Rattle.rq_cast.proofs.Needed.{needs_packets}
use Rattle.rq_cast.proofs.SettledParts.{headed_by}
use Rattle.rq_cast.proofs.WindowSenders.{at_first}

-- what is told of what is received of a part
abbrev pub Told : Option PartReceiver → Option ℕ → Type 0
Told None missing = missing ≡ None
Told (Some p) missing = MatchOption missing ⊥ (TellsMissingPackets p.attempt.decoder)

module _ (table : List TableRow) (w : Window) (sound : IsSoundWindow table w) where
  undetermined : (came : List Cell) (o : Option PartReceiver) → IfSome o (IsSound table (w.names.count + 0)) → IfSome o (IsOpen table came)
      → IfSome o (λ p. p.attempt.object ≡ None) → (missing : Option ℕ) → Told o missing → IfSome missing (IsUndetermined table came w.names.count)
  undetermined came o is opened waits None told = tt
  undetermined came None is opened waits (Some n) told = absurd (cc told)
  undetermined came (Some p) is opened waits (Some n) told =
      let begun = opened.received.begun in
      record {
        head = p.choice.head;
        place = omega (arith, is.heads.0.place);
        headed = headed_by came opened.first p.choice.head opened.among opened.received.heads.0;
        begun = begun;
        within = opened.received.within;
        answer = result_of (state_of p.attempt.decoder);
        answered = answered_by table opened.first came p is.attempt opened.received;
        none = subst (λ o. IsNamedIn p.choice.head (result_of (state_of p.attempt.decoder)) (option_map vec_items o)) waits is.attempt.object;
        needs = needs_by table opened.first came p is.attempt opened.received n told;
      }

  nothing_of : (names : Option (List (List ℕ))) (cells : List Cell) (o : Option PartReceiver) → HasVoted table names cells o → (missing : Option ℕ)
      → Told o missing → missing ≡ None → (h : Head) → IsTakenHead table h → votes_for h cells ≡ 0
  nothing_of names cells None none missing told is = none
  nothing_of names cells (Some p) has missing told is = absurd (subst (λ (k : Option ℕ). MatchOption k ⊥ (TellsMissingPackets p.attempt.decoder)) is told)

  lacks_of : (h : Head) (cells : List Cell) (o : Option PartReceiver) → IfSome o (IsSound table (w.names.count + 0)) → HasAll table h cells o
      → (missing : Option ℕ) → Told o missing → LacksOf table h cells missing
  lacks_of h cells None is has None told = has
  lacks_of h cells None is has (Some n) told = absurd (cc told)
  lacks_of h cells (Some p) is has None told = absurd told
  lacks_of h cells (Some p) is has (Some n) told =
      subst (λ (k : Configuration). NeedsPackets table k (received_packets h cells) n)
      (is.attempt.configuration ∙ ap (λ (k : Head). k.configuration) has.head)
      (needs_packets table (received_packets h cells) p.attempt.decoder has.follows n told)

  pub lacks : (stream : List ℕ) (width : ℕ) (came : List Cell) (given : List ℕ) → w.ended ≡ false → (has : HasTaken table stream width came given w)
      → (missing : Option ℕ) → Told (open_at w 0) missing → Lacks table stream width came has.drops.stands w.names.count missing
  lacks stream width came given open_still has missing told = record {
    whoever = undetermined came (open_at w 0) (sound.each 0) ((has.are_open open_still).each 0) (has.waits open_still) missing told;
    nothing =
        let count = length-map has.parts (λ (q : Settled). q.head.name) in
        let index : length has.parts + 0 ≡ w.names.count = omega (arith, has.names.count, count) in
        subst (λ n. missing ≡ None → (h : Head) → IsTakenHead table h → votes_for h (cells_of width n has.drops.stands came) ≡ 0) index
        (nothing_of (Some (names_of has.parts)) (cells_of width (length has.parts + 0) has.drops.stands came) (open_at w 0) (has.voted open_still 0) missing told);
    one_sender = λ s all.
        let st = has.standing s all in
        let count = length-map has.parts (λ (q : Settled). q.head.name) in (
          st.0,
          st.1,
          omega (arith, st.2.count, has.names.count, count),
          lacks_of (s.head st.0.first) (st.0.came st.0.first) (open_at w 0) (sound.each 0) (at_first table stream s came all st.0 has.parts w st.2) missing told,
        );
  }
