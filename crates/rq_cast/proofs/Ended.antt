-- What is settled of what came, and what was seen.
use Rattle.std.proofs.Common.{◌≡◌, ℕ, List, [], ◌++◌, length, refl, sym, ap, subst, ◌∙◌, Option, Some, None, append-nil, arith}
use Rattle.std.specs.Prelude.{MatchOption, IfSome, unwrap_or, option_map, false}
use Rattle.std.specs.Option.{IsSomeAnd}
use Rattle.std.proofs.lemmas.List.{length-map}
use Rattle.rq_standard.specs.declared.row.TableRow.{TableRow}
use Rattle.rq_cells.specs.declared.head.Head.{Head}
use Rattle.rq_cells.specs.declared.cell.Cell.{Cell}
use Rattle.rq_cells.specs.Found.{Source, source_of, cells_in, damaged_in, others_in}
use Rattle.rq_cells.specs.Wanted.{Wish}
use Rattle.rq_cast.specs.declared.receiver.Receiver.{Receiver}
use Rattle.rq_cast.specs.declared.run.Ending.{Ending}
use Rattle.rq_cast.specs.declared.run.Ending.TheVariants.{Written, Incomplete, GivenUp}
use Rattle.rq_cast.specs.declared.seen.Seen.{Seen}
use Rattle.rq_cast.specs.declared.stream_receiver.StreamReceiver.{StreamReceiver}
use Rattle.rq_cast.specs.Searching.{SeesBefore}
use Rattle.rq_cast.specs.Windows.{Settled, bytes_of, has_last, HasTaken, IsSoundWindow, Lacks, TellsLacks}
use Rattle.rq_cast.specs.Receiving.{SeesAll, IsReceiving, HasFed, has_ended, ready_of, Shows, IsSoundReceiver, TellsLacked, TellsEnding}
use Rattle.rq_cast.specs.Received.{IsNameOf, IsReceived, from_first, cells_from, IsSeen, Receives, ReceivesSoFar, EndsWith}
use Rattle.rq_cast.proofs.Fed.{searching_of, receiving_of}

-- ---- of a stream that was found

module _ (table : List TableRow) (w : Wish) (width most : ℕ) (past given : List ℕ) (now : StreamReceiver)
    (r : IsReceiving table w width most past given now) where
  abbrev first : Head
  first = r.found.head

  abbrev s : Source
  s = source_of w.key first

  abbrev pub received : IsReceived w most past first
  received = record {
    earlier = r.earlier;
    last = r.last;
    later = r.later;
    cut = r.cut;
    few = r.is_found.few;
    none_earlier = r.is_found.none_earlier;
    at = r.is_found.at;
    is_first = r.is_found.first;
  }

  -- the stream's cells
  abbrev pub cells : List Cell
  cells = cells_from w most past first received

  all_there : r.found.bytes.items ++ r.later ≡ from_first received
  all_there = ap (λ xs. xs ++ r.later) r.is_found.from_there

  cells_came : r.read.read.came ≡ cells
  cells_came =
      let came = r.read.read.came in
      sym (append-nil came) ∙ ap (λ cs. came ++ cs) (sym r.read.none.no_cells ∙ ap (cells_in s) (sym (append-nil now.bytes.items)))
      ∙ sym (r.read.read.seen.cells_found []) ∙ ap (cells_in s) (append-nil (r.found.bytes.items ++ r.later) ∙ all_there)

  pub taken : HasTaken table first.stream width cells given now.window
  taken = subst (λ cs. HasTaken table first.stream width cs given now.window) cells_came r.read.read.taken

  sees_all : (seen : Seen) → SeesAll now seen → IsSeen table w most past first received seen
  sees_all seen sees =
      let has = r.read.read.seen in
      let found = r.is_found.seen in
      let came_is = ap length cells_came in
      let damaged_is = ap (damaged_in s) all_there in
      let others_is = ap (others_in s) all_there in
      let flat_damaged = ap (damaged_in s) (append-nil (r.found.bytes.items ++ r.later)) in
      let flat_others = ap (others_in s) (append-nil (r.found.bytes.items ++ r.later)) in
      let left_damaged = ap (damaged_in s) (append-nil now.bytes.items) in
      let left_others = ap (others_in s) (append-nil now.bytes.items) in
      let here = ap (λ (k : Source). others_in k now.bytes.items) has.scans in
      record {
        cells = omega (arith, sees.cells, has.cells, found.no_cells, came_is);
        damaged = omega (arith, sees.damaged, has.damaged, found.damaged, has.damaged_found [], r.read.none.no_damaged, damaged_is, flat_damaged, left_damaged);
        others = omega (arith, sees.others, has.others, found.others, has.others_found [], others_is, flat_others, left_others, here);
        one_sender = λ parts senders. sees.restarted ∙ (taken.standing parts senders).2.restarted;
      }

  pub receives : (seen : Seen) → SeesAll now seen → Receives table w width most past first taken.parts seen
  receives seen sees =
      let t = taken in
      record {
        received = received;
        settles = t.settles;
        sees = sees_all seen sees;
        drops = record {
          stands = t.drops.stands;
          as_many = t.drops.as_many;
          each = t.drops.each;
          behind_is = sees.behind ∙ t.drops.behind_is;
          ahead_is = sees.ahead ∙ t.drops.ahead_is;
        };
        exactly = λ parts senders.
            let st = t.standing parts senders in record { reached = st.0; moves = st.1; same = st.3 };
        unled = λ more. t.unled (t.ended ∙ more);
      }

-- ---- of a receiver

module _ (table : List TableRow) (w : Wish) (width most : ℕ) (past given : List ℕ) (r : Receiver) (fed : HasFed table w width most past given r)
    (seen : Seen) (shows : Shows r seen) where
  -- parts are settled: those that were handed out, and what is ready
  pub record SoFar (parts : List Settled) : Type 0 where
    pub out : bytes_of parts ≡ given ++ ready_of r
    pub ended : has_last parts ≡ has_ended r

  none_so_far : r.stream ≡ None → ReceivesSoFar table w width most past [] seen × SoFar []
  none_so_far is =
      let (u, nothing) = searching_of table w width most past given r is fed in
      let same : seen ≡ r.seen = subst (λ (o : Option StreamReceiver). MatchOption o (seen ≡ r.seen) (λ k. SeesAll k seen)) is shows in (
        (None, (record { none = u.none; seen_there = subst (SeesBefore w past (length past)) (sym same) u.all_seen }, refl)),
        record {
          out = ap (λ xs. xs ++ []) (sym nothing) ∙ ap (λ (o : Option StreamReceiver). given ++ unwrap_or (option_map (λ k. k.window.ready.items) o) []) (sym is);
          ended = ap (λ (o : Option StreamReceiver). unwrap_or (option_map (λ k. k.window.ended) o) false) (sym is);
        },
      )

  module _ (now : StreamReceiver) (is : r.stream ≡ Some now) where
    abbrev receiving : IsReceiving table w width most past given now
    receiving = receiving_of table w width most past given r now is fed

    abbrev parts_of : List Settled
    parts_of = (taken table w width most past given now receiving).parts

    sees : SeesAll now seen
    sees = subst (λ (o : Option StreamReceiver). MatchOption o (seen ≡ r.seen) (λ k. SeesAll k seen)) is shows

    some_so_far : (ReceivesSoFar table w width most past parts_of seen) × SoFar parts_of
    some_so_far =
        let t = taken table w width most past given now receiving in (
          (Some receiving.found.head, receives table w width most past given now receiving seen sees),
          record {
            out = t.out ∙ ap (λ (o : Option StreamReceiver). given ++ unwrap_or (option_map (λ k. k.window.ready.items) o) []) (sym is);
            ended = sym t.ended ∙ ap (λ (o : Option StreamReceiver). unwrap_or (option_map (λ k. k.window.ended) o) false) (sym is);
          },
        )

  pub so_far : (parts : List Settled) × ReceivesSoFar table w width most past parts seen × SoFar parts
  so_far = by r.stream refl
    where
      by : (o : Option StreamReceiver) → r.stream ≡ o → (parts : List Settled) × ReceivesSoFar table w width most past parts seen × SoFar parts
      by None is = ([], (none_so_far is).0, (none_so_far is).1)
      by (Some now) is = (parts_of now is, (some_so_far now is).0, (some_so_far now is).1)

  -- and how a run ends that reads no more
  pub record Ends (ending : Ending) : Type 0 where
    pub parts : List Settled
    pub receives_parts : ReceivesSoFar table w width most past parts seen
    pub far : SoFar parts
    pub ends_with : EndsWith table w width most past parts seen receives_parts ending
    pub named : (stream : List ℕ) → IsSomeAnd r.stream (λ s. stream ≡ s.scanner.stream) → IsNameOf receives_parts.0 stream

  lacked : (o : Option StreamReceiver) → r.stream ≡ o → (number : ℕ) (missing : Option ℕ) → TellsLacked r number missing
      → MatchOption o ((number ≡ 0) × (missing ≡ None)) (λ k. (number ≡ k.window.names.count) × TellsLacks k.window missing)
  lacked o is number missing = subst
      (λ (k : Option StreamReceiver). MatchOption k ((number ≡ 0) × (missing ≡ None)) (λ s. (number ≡ s.window.names.count) × TellsLacks s.window missing)) is

  sound_window : IsSoundReceiver r → (now : StreamReceiver) → r.stream ≡ Some now → IsSoundWindow table now.window
  sound_window sound now is =
      subst (λ k. IsSoundWindow k now.window) fed.table_is
      (subst (λ (o : Option StreamReceiver). IfSome o (λ k. IsSoundWindow r.wanted.table.now k.window)) is sound)

  none_with : (is : r.stream ≡ None) (e : Ending) → TellsEnding r e → EndsWith table w width most past [] seen (none_so_far is).0 e
  unfolding none_so_far
  none_with is (Written stream) (ended, name) = absurd (subst (λ (o : Option StreamReceiver). IsSomeAnd o (λ s. stream ≡ s.scanner.stream)) is name)
  none_with is (Incomplete number missing) (open_still, lacks) =
      let l = lacked None is number missing lacks in ((none_so_far is).1.ended ∙ open_still, l.0, l.1)
  none_with is (GivenUp stream number missing) told = absurd told

  none_named : (is : r.stream ≡ None) (stream : List ℕ) → IsSomeAnd r.stream (λ s. stream ≡ s.scanner.stream) → IsNameOf (none_so_far is).0.0 stream
  none_named is stream name = absurd (subst (λ (o : Option StreamReceiver). IsSomeAnd o (λ s. stream ≡ s.scanner.stream)) is name)

  some_named : (now : StreamReceiver) (is : r.stream ≡ Some now) (stream : List ℕ) → IsSomeAnd r.stream (λ s. stream ≡ s.scanner.stream)
      → IsNameOf (some_so_far now is).0.0 stream
  unfolding some_so_far
  some_named now is stream name =
      subst (λ (o : Option StreamReceiver). IsSomeAnd o (λ s. stream ≡ s.scanner.stream)) is name ∙ ap (λ (k : Source). k.stream) (receiving now is).read.read.seen.scans

  some_with : IsSoundReceiver r → (now : StreamReceiver) (is : r.stream ≡ Some now) (e : Ending) → TellsEnding r e
      → EndsWith table w width most past (parts_of now is) seen (some_so_far now is).0 e
  unfolding some_so_far receives
  some_with sound now is (Written stream) (ended, name) = (
    (some_so_far now is).1.ended ∙ ended,
    subst (λ (o : Option StreamReceiver). IsSomeAnd o (λ s. stream ≡ s.scanner.stream)) is name
        ∙ ap (λ (k : Source). k.stream) (receiving now is).read.read.seen.scans,
  )
  some_with sound now is (GivenUp stream number missing) told = absurd told
  some_with sound now is (Incomplete number missing) (open_still, lacks) =
      let l = lacked (Some now) is number missing lacks in
      let t = taken table w width most past given now (receiving now is) in
      let counted : now.window.names.count ≡ length (parts_of now is) = t.names.count ∙ length-map (parts_of now is) (λ (p : Settled). p.head.name) in (
        (some_so_far now is).1.ended ∙ open_still,
        l.0 ∙ counted,
        subst (λ k. Lacks table (receiving now is).found.head.stream width (cells table w width most past given now (receiving now is)) t.drops.stands k missing) counted
            (l.1 table (receiving now is).found.head.stream width (cells table w width most past given now (receiving now is)) given
            (sound_window sound now is) (ap (λ (o : Option StreamReceiver). unwrap_or (option_map (λ k. k.window.ended) o) false) (sym is) ∙ open_still) t),
      )

  pub ends : IsSoundReceiver r → (ending : Ending) → TellsEnding r ending → Ends ending
  ends sound ending told = by r.stream refl
    where
      by : (o : Option StreamReceiver) → r.stream ≡ o → Ends ending
      by None is = record { parts = []; receives_parts = (none_so_far is).0; far = (none_so_far is).1; ends_with = none_with is ending told; named = none_named is }
      by (Some now) is = record {
        parts = parts_of now is;
        receives_parts = (some_so_far now is).0;
        far = (some_so_far now is).1;
        ends_with = some_with sound now is ending told;
        named = some_named now is;
      }
