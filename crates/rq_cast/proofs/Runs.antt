-- A run that reads piece after piece.
use Rattle.std.proofs.Common.{◌≡◌, inl, inr, ℕ, ◌+◌, ◌-◌, ◌^◌, ◌<◌, ◌≤◌, List, [], ◌++◌, length, take, refl, sym, ap, subst, ◌∙◌, Option, Some, None, Result, Ok, Err, append-nil, arith, length-append}
use Rattle.std.specs.Prelude.{◌⊎◌, true, false, IfNone}
use Rattle.std.specs.Result.{IsErrAnd}
use Rattle.std.specs.Io.KnownBytes.{Consumes, Appends, Keeps, IsAtEnd}
use Rattle.std.proofs.KnownBytes.{Consumes-trans, Consumes-kept, Consumes-nil, Appends-trans, Appends-nil}
use Rattle.std.proofs.lemmas.Bool.{true≢false}
use Rattle.rq_bytes.specs.declared.error.Error.{Error}
use Rattle.rq_bytes.specs.declared.error.Error.TheVariants.{OutOfMemory}
use Rattle.rq_standard.specs.declared.row.TableRow.{TableRow}
use Rattle.rq_streams.specs.declared.run.Stop.{Stop}
use Rattle.rq_streams.specs.declared.run.Stop.TheVariants.{Fault, Refused}
use Rattle.rq_cells.specs.Wanted.{Wish}
use Rattle.rq_cast.specs.declared.receiver.Receiver.{Receiver}
use Rattle.rq_cast.specs.declared.run.Ending.{Ending}
use Rattle.rq_cast.specs.declared.run.Ending.TheVariants.{Written, Incomplete, GivenUp}
use Rattle.rq_cast.specs.declared.seen.Seen.{Seen}
use Rattle.rq_cast.specs.Reading.{chunk_length}
use Rattle.rq_cast.specs.Windows.{Settled, bytes_of, has_last}
use Rattle.rq_cast.specs.Receiving.{HasFed, Feeds, HandsOutOf, Shows, IsSoundReceiver, has_ended, ready_of, TellsEnding, TellsGivenUp}
use Rattle.rq_cast.specs.Received.{IsNameOf, ReceivesSoFar, WritesAllRead, EndsReceiving, is_given_up}
use Rattle.rq_cast.proofs.Ended.{SoFar, so_far, ends}

module _ (table : List TableRow) (w : Wish) (width : ℕ) (before there : Option (List ℕ)) where
  -- So many reads were made. What they brought was fed, and what is settled of it is written, but not the last part.
  pub record IsRunning (after then : Option (List ℕ)) (reads : ℕ) (r : Receiver) (seen : Seen) : Type 0 where
    pub past : List ℕ
    pub given : List ℕ
    pub read : Consumes before after past
    pub brought : reads ≤ length past
    pub fed : HasFed table w width chunk_length past given r
    pub shows : Shows r seen
    pub none : ready_of r ≡ []
    pub written : Appends there then given
    pub open_still : has_ended r ≡ false
    pub sound : IsSoundReceiver r

  -- nothing was read
  pub runs_first : (r : Receiver) (seen : Seen) → HasFed table w width chunk_length [] [] r → Shows r seen → ready_of r ≡ [] → has_ended r ≡ false
      → IsSoundReceiver r → IsRunning before there 0 r seen
  runs_first r seen fed shows none open_still sound = record {
    past = [];
    given = [];
    read = Consumes-nil before;
    brought = omega arith;
    fed = fed;
    shows = shows;
    none = none;
    written = Appends-nil there;
    open_still = open_still;
    sound = sound;
  }

  module _ (after then : Option (List ℕ)) (reads : ℕ) (r : Receiver) (seen : Seen) (k : IsRunning after then reads r seen) where
    far : (parts : List Settled) × ReceivesSoFar table w width chunk_length k.past parts seen × SoFar table w width chunk_length k.past k.given r k.fed seen k.shows parts
    far = so_far table w width chunk_length k.past k.given r k.fed seen k.shows

    given_is : bytes_of far.0 ≡ k.given
    given_is = far.2.out ∙ ap (λ xs. k.given ++ xs) k.none ∙ append-nil k.given

    all_written : Appends there then (bytes_of far.0)
    all_written = subst (Appends there then) (sym given_is) k.written

    not_all : has_last far.0 ≡ false
    not_all = far.2.ended ∙ k.open_still

    -- a read fails
    module _ (after' : Option (List ℕ)) (kept : Keeps after after') where
      read_still : Consumes before after' k.past
      read_still = Consumes-kept before after after' k.past k.read kept

      pub stops_unread : (came : List ℕ) → EndsReceiving table w width (Err Fault) seen before after' came there then
      stops_unread came = record {
        earlier = k.past;
        last = [];
        read = subst (Consumes before after') (sym (append-nil k.past)) read_still;
        brought = inl refl;
        parts_before = far.0;
        seen_before = seen;
        before_last = far.1;
        not_all = not_all;
        parts = far.0;
        receives = subst (λ xs. ReceivesSoFar table w width chunk_length xs far.0 seen) (sym (append-nil k.past)) far.1;
        more = [];
        longer = sym (append-nil (bytes_of far.0));
        count = 0;
        written = subst (Appends there then) (sym (append-nil (bytes_of far.0))) all_written;
      }

      pub writes_all_read : WritesAllRead table w width before after' seen there then
      writes_all_read = record { past = k.past; read = read_still; parts = far.0; receives = far.1; written = all_written }

    -- no byte comes, or as many reads were made as are counted
    module _ (ending : Ending) (told : TellsEnding r ending) (after' : Option (List ℕ)) (came : List ℕ) (kept : Consumes after after' [])
        (ended : IsAtEnd after' ⊎ (2 ^ 64 - 1 ≤ length k.past)) where
      pub ends_unread : EndsReceiving table w width (Ok ending) seen before after' came there then
      ends_unread = by ending told
        where
          read' : Consumes before after' k.past
          read' = subst (Consumes before after') (append-nil k.past) (Consumes-trans before after after' k.past [] k.read kept)

          by : (e : Ending) → TellsEnding r e → EndsReceiving table w width (Ok e) seen before after' came there then
          by (GivenUp stream number missing) t = absurd t
          by (Written stream) (all, is) = absurd (true≢false (sym all ∙ k.open_still))
          by (Incomplete number missing) t =
              let e = ends table w width chunk_length k.past k.given r k.fed seen k.shows k.sound (Incomplete number missing) t in (
                e.parts,
                record { past = k.past; read = read'; ended = ended; receives = e.receives_parts; ends = e.ends_with },
                subst (Appends there then) (sym (append-nil k.given) ∙ ap (λ xs. k.given ++ xs) (sym k.none) ∙ sym e.far.out) k.written,
              )

    -- a piece comes
    module _ (after' : Option (List ℕ)) (piece : List ℕ) (more : Consumes after after' piece) (some : 0 < length piece) (few : length piece ≤ chunk_length) where
      abbrev past' : List ℕ
      past' = k.past ++ piece

      read_more : Consumes before after' past'
      read_more = Consumes-trans before after after' k.past piece k.read more

      -- and there is no memory
      pub stops_unfed : (e : Error) → e ≡ OutOfMemory → EndsReceiving table w width (Err (Refused e)) seen before after' piece there then
      stops_unfed e memory = (
        memory,
        far.0,
        record { past = k.past; last = piece; read = read_more; brought = inr (refl, few); receives = far.1; not_all = not_all },
        all_written,
      )

      module _ (mid : Receiver) (feeds : Feeds piece r mid) (seen' : Seen) (shows' : Shows mid seen') where
        fed' : HasFed table w width chunk_length past' k.given mid
        fed' = feeds table w width chunk_length k.past k.given few k.fed

        far' : (parts : List Settled) × ReceivesSoFar table w width chunk_length past' parts seen'
            × SoFar table w width chunk_length past' k.given mid fed' seen' shows' parts
        far' = so_far table w width chunk_length past' k.given mid fed' seen' shows'

        -- not all of it is written
        pub stops_unwritten : (then' : Option (List ℕ)) (count : ℕ) → Appends then then' (take count (ready_of mid))
            → EndsReceiving table w width (Err Fault) seen' before after' piece there then'
        stops_unwritten then' count begun = record {
          earlier = k.past;
          last = piece;
          read = read_more;
          brought = inr (refl, few);
          parts_before = far.0;
          seen_before = seen;
          before_last = far.1;
          not_all = not_all;
          parts = far'.0;
          receives = far'.1;
          more = ready_of mid;
          longer = far'.2.out ∙ ap (λ xs. xs ++ ready_of mid) (sym given_is);
          count = count;
          written = subst (λ xs. Appends there then' (xs ++ take count (ready_of mid))) (sym given_is)
              (Appends-trans there then then' k.given (take count (ready_of mid)) k.written begun);
        }

        -- the parts that are settled with the last one
        done : (stream : List ℕ) (parts : List Settled) (receives : ReceivesSoFar table w width chunk_length past' parts seen') → has_last parts ≡ true
            → IsNameOf receives.0 stream → (then' : Option (List ℕ)) → Appends there then' (bytes_of parts)
            → EndsReceiving table w width (Ok (Written stream)) seen' before after' piece there then'
        done stream parts (None, nothing) all name then' out = absurd name
        done stream parts (Some first, receives) all name then' out = (
          parts,
          record {
            earlier = k.past;
            read = read_more;
            some = some;
            few = few;
            first = first;
            named = name;
            receives = receives;
            all = all;
            parts_before = far.0;
            seen_before = seen;
            before_last = far.1;
            not_all = not_all;
          },
          out,
        )

        -- what is ready is handed out
        module _ (then' : Option (List ℕ)) (rest : Appends then then' (ready_of mid)) (new : Receiver) (hands : HandsOutOf mid (ready_of mid) new)
            (shows : (s : Seen) → Shows mid s → Shows new s) (none : ready_of new ≡ []) (sound : IsSoundReceiver new) where
          abbrev given' : List ℕ
          given' = k.given ++ ready_of mid

          fed_on : HasFed table w width chunk_length past' given' new
          fed_on = hands table w width chunk_length past' k.given fed'

          written_on : Appends there then' given'
          written_on = Appends-trans there then then' k.given (ready_of mid) k.written rest

          -- it is the last part
          pub ends_written : has_ended new ≡ true → (ending : Ending) → TellsEnding new ending → EndsReceiving table w width (Ok ending) seen' before after' piece there then'
          ends_written ended (Incomplete number missing) (open_yet, lacked) = absurd (true≢false (sym ended ∙ open_yet))
          ends_written ended (GivenUp stream number missing) told = absurd told
          ends_written ended (Written stream) told =
              let e = ends table w width chunk_length past' given' new fed_on seen' (shows seen' shows') sound (Written stream) told in
              let out : bytes_of e.parts ≡ given' = e.far.out ∙ ap (λ xs. given' ++ xs) none ∙ append-nil given' in
              done stream e.parts e.receives_parts e.ends_with.0 e.ends_with.1 then' (subst (Appends there then') (sym out) written_on)

          -- or it is given up
          pub ends_given_up : (ending : Ending) → TellsGivenUp new ending → EndsReceiving table w width (Ok ending) seen' before after' piece there then'
          ends_given_up (Written stream) told = absurd told
          ends_given_up (Incomplete number missing) told = absurd told
          ends_given_up (GivenUp stream number missing) told =
              let e = ends table w width chunk_length past' given' new fed_on seen' (shows seen' shows') sound (Incomplete number missing) told.0 in
              let out : bytes_of e.parts ≡ given' = e.far.out ∙ ap (λ xs. given' ++ xs) none ∙ append-nil given' in (
                e.parts,
                record { earlier = k.past; read = read_more; few = few; receives = e.receives_parts; named = e.named stream told.1; ends = e.ends_with },
                subst (Appends there then') (sym out) written_on,
              )

          -- or neither
          pub runs_on : has_ended new ≡ false → IsRunning after' then' (reads + 1) new seen'
          runs_on open_yet = record {
            past = past';
            given = given';
            read = read_more;
            brought = omega (arith, k.brought, some, length-append k.past piece);
            fed = fed_on;
            shows = shows seen' shows';
            none = none;
            written = written_on;
            open_still = open_yet;
            sound = sound;
          }

-- ---- no stream is given up

pub not_given_up : (r : Receiver) (timeout : Option ℕ) (ending : Ending) → TellsEnding r ending → IfNone timeout (is_given_up (Ok ending) ≡ false)
not_given_up r (Some seconds) ending told = tt
not_given_up r None (Written stream) told = refl
not_given_up r None (Incomplete number missing) told = refl
not_given_up r None (GivenUp stream number missing) told = absurd told

pub stopped_not_given_up : (timeout : Option ℕ) (r : Result Ending Stop) (P : Stop → Type 0) → IsErrAnd r P → IfNone timeout (is_given_up r ≡ false)
stopped_not_given_up (Some seconds) r P is = tt
stopped_not_given_up None (Ok ending) P is = absurd is
stopped_not_given_up None (Err stop) P is = refl

pub given_up_in_time : (timeout : Option ℕ) (ending : Ending) → IfNone timeout (Some ending ≡ None) → IfNone timeout (is_given_up (Ok ending) ≡ false)
given_up_in_time (Some seconds) ending never = tt
given_up_in_time None ending never = absurd (cc never)
