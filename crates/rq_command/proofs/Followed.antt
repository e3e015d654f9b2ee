-- Streams that are taken one after another.
use Rattle.std.proofs.Common.{◌≡◌, ◌⊎◌, inl, inr, ℕ, ◌+◌, ◌-◌, ◌^◌, List, [], ◌∷◌, ◌++◌, length, take, refl, sym, ap, subst, ◌∙◌, Result, Ok, Err, Option, Some, None, arith}
use Rattle.std.specs.Prelude.{unwrap_or, IfNone, map, false}
use Rattle.std.proofs.lemmas.List.{length-map}
use Rattle.std.specs.Io.KnownBytes.{prepend_known}
use Rattle.rq_standard.specs.declared.row.TableRow.{TableRow}
use Rattle.rq_tables.specs.SystematicTable.{wanted_table}
use Rattle.rq_rows.specs.declared.further_rows.TheConstants.{FURTHER_ROWS}
use Rattle.rq_streams.specs.declared.run.Stop.{Stop}
use Rattle.rq_streams.specs.declared.run.Stop.TheVariants.{Fault, Refused}
use Rattle.rq_cells.specs.Cells.{Key}
use Rattle.rq_cells.specs.Wanted.{Wish}
use Rattle.rq_cast.specs.declared.seen.Seen.{Seen}
use Rattle.rq_cast.specs.declared.run.Ending.{Ending}
use Rattle.rq_cast.specs.declared.run.Ending.TheVariants.{Written, Incomplete, GivenUp}
use Rattle.rq_cast.specs.Received.{EndsReceiving, is_given_up, wish_over}
use Rattle.rq_command.specs.declared.ending.Streams.{Streams}
use Rattle.rq_devices.specs.Failed.{StopsReading}
use Rattle.rq_devices.specs.Keyed.{IsKeyOf}
use Rattle.rq_devices.specs.Placed.{Contents}
use Rattle.rq_command.specs.Following.{EndsOne, FiledBy, FollowsAll, FollowsUpTo, Follows, PassesOver, counts, name_of, over, with_one}
use Rattle.rq_devices.specs.Folder.{Folder}

-- ---- one stream

-- what is written is filed where it is whole, and couldn't fail to be
pub one_ends : (table : List TableRow) (w : Wish) (width : ℕ) (blank written left after : Contents) (came : List ℕ) (seen : Seen) (old new : Folder)
    (ended r : Result Ending Stop) → EndsReceiving table w width ended seen left after came blank written
    → (ended ≡ r) ⊎ (r ≡ Err Fault) → FiledBy r written old new → EndsOne table w width blank r seen left after came old new
one_ends table w width blank written left after came seen old new ended r ends same filed = elim same [
  | inl is ↦ by r (subst (λ (e : Result Ending Stop). EndsReceiving table w width e seen left after came blank written) is ends) filed
  | inr failed ↦ subst (λ (e : Result Ending Stop). EndsOne table w width blank e seen left after came old new) (sym failed)
      (tt, subst (λ (e : Result Ending Stop). FiledBy e written old new) failed filed)
]
  where
    by : (e : Result Ending Stop) → EndsReceiving table w width e seen left after came blank written → FiledBy e written old new
        → EndsOne table w width blank e seen left after came old new
    by (Ok (Written stream)) ends filed = (written, ends, filed)
    by (Ok (Incomplete number missing)) ends filed = (written, ends, filed)
    by (Ok (GivenUp stream number missing)) ends filed = (written, ends, filed)
    by (Err Fault) ends filed = (tt, filed)
    by (Err (Refused e)) ends filed = (ends.0, filed)

-- a run is given up only where a timeout is said, also where what it wrote can't be filed
pub patient_still : (timeout : Option ℕ) (ended r : Result Ending Stop) → IfNone timeout (is_given_up ended ≡ false) → (ended ≡ r) ⊎ (r ≡ Err Fault)
    → IfNone timeout (is_given_up r ≡ false)
patient_still (Some seconds) ended r kept same = tt
patient_still None ended r kept same = elim same [
  | inl is ↦ sym (ap is_given_up is) ∙ kept
  | inr failed ↦ ap is_given_up failed
]

pub stopped_patient : (timeout : Option ℕ) (stop : Stop) → IfNone timeout (is_given_up (Err stop) ≡ false)
stopped_patient None stop = refl
stopped_patient (Some seconds) stop = tt

-- ---- how one ends

-- of a stream behind which another one may begin
pub record IsOver (r : Result Ending Stop) (ending : Ending) (stream : List ℕ) : Type 0 where
  pub is : r ≡ Ok ending
  pub named : name_of ending ≡ stream
  pub is_over : over (Ok ending) ≡ Some (ending, name_of ending)

pub over_is : (r : Result Ending Stop) (ending : Ending) (stream : List ℕ) → over r ≡ Some (ending, stream) → IsOver r ending stream
over_is r ending stream is = subst (λ (p : Ending × List ℕ). IsOver r p.0 p.1) (ap (λ o. unwrap_or o (ending, stream)) is) (by r is)
  where
    by : (r : Result Ending Stop) → over r ≡ Some (ending, stream) → IsOver r (unwrap_or (over r) (ending, stream)).0 (unwrap_or (over r) (ending, stream)).1
    by (Ok (Written s)) is = record { is = refl; named = refl; is_over = refl }
    by (Ok (GivenUp s number missing)) is = record { is = refl; named = refl; is_over = refl }
    by (Ok (Incomplete number missing)) is = absurd (cc is)
    by (Err stop) is = absurd (cc is)

-- and of any other one
pub not_over : (o : Option (Ending × List ℕ)) (r : Result Ending Stop) → o ≡ over r → ((p : Ending × List ℕ) → o ≡ Some p → ⊥) → over r ≡ None
not_over None r is never = sym is
not_over (Some p) r is never = absurd (never p refl)

one_more : (streams : Streams) (ending : Ending) → over (Ok ending) ≡ Some (ending, name_of ending)
    → (with_one streams ending).whole + (with_one streams ending).given_up ≡ streams.whole + streams.given_up + 1
one_more streams (Written stream) is = omega arith
one_more streams (GivenUp stream number missing) is = omega arith
one_more streams (Incomplete number missing) is = absurd (cc is)

-- none is given up
still : (streams : Streams) (n : ℕ) (timeout : Option ℕ) (ending : Ending) → over (Ok ending) ≡ Some (ending, name_of ending)
    → IfNone timeout (is_given_up (Ok ending) ≡ false) → IfNone timeout (streams.given_up ≡ 0) → n ≡ (with_one streams ending).given_up → IfNone timeout (n ≡ 0)
still streams n (Some seconds) ending is kept none same = tt
still streams n None (Written stream) is kept none same = same ∙ none
still streams n None (GivenUp stream number missing) is kept none same = absurd (cc kept)
still streams n None (Incomplete number missing) is kept none same = absurd (cc is)

-- ---- all of them

module _ (table : List TableRow) (key : Key) (given : List (List ℕ)) (width : ℕ) (timeout : Option ℕ) (blank input : Contents) (held : Folder) where
  -- So many streams were taken, and the last of them are passed over.
  pub record IsFollowing (number : ℕ) (streams : Streams) (passed : List (List ℕ)) (left : Contents) (there : Folder) : Type 0 where
    pub endings : List Ending
    pub long : number ≡ length endings
    pub all : streams.whole + streams.given_up ≡ number
    pub count : streams ≡ counts endings
    pub patient : IfNone timeout (streams.given_up ≡ 0)
    pub passes : passed ≡ take 8 (map name_of endings) ++ given
    pub follows : Follows table key given width blank endings input left held there

  pub follows_none : (streams : Streams) → streams ≡ record { whole = 0; given_up = 0 } → IsFollowing 0 streams given input held
  follows_none streams is = record {
    endings = [];
    long = refl;
    all = ap (λ (s : Streams). s.whole + s.given_up) is;
    count = is;
    patient = never timeout (ap (λ (s : Streams). s.given_up) is);
    passes = refl;
    follows = (refl, refl);
  }
    where
      never : (o : Option ℕ) {P : Type 0} → P → IfNone o P
      never None p = p
      never (Some seconds) p = tt

  module _ (number : ℕ) (streams : Streams) (passed : List (List ℕ)) (left : Contents) (there : Folder) (k : IsFollowing number streams passed left there) (seen : Seen)
      (after : Contents) (came : List ℕ) (there' : Folder) where
    module _ (ending : Ending) (is_over : over (Ok ending) ≡ Some (ending, name_of ending)) (patient : IfNone timeout (is_given_up (Ok ending) ≡ false))
        (one : EndsOne table (wish_over table key [] passed) width blank (Ok ending) seen left after came there there')
        (left' : Contents) (again : left' ≡ prepend_known came after) (streams' : Streams) (more : streams' ≡ with_one streams ending) where
      follows_more : Follows table key given width blank (ending ∷ k.endings) input left' held there'
      follows_more = (
        left,
        there,
        k.follows,
        record {
          seen = seen;
          after = after;
          came = came;
          is_over = is_over;
          ends = subst (λ p. EndsOne table (wish_over table key [] p) width blank (Ok ending) seen left after came there there') k.passes one;
          again = again;
        },
      )

      count_more : streams' ≡ counts (ending ∷ k.endings)
      count_more = more ∙ ap (λ s. with_one s ending) k.count

      all_more : streams'.whole + streams'.given_up ≡ number + 1
      all_more = ap (λ (s : Streams). s.whole + s.given_up) more ∙ one_more streams ending is_over ∙ ap (λ n. n + 1) k.all

      patient_more : IfNone timeout (streams'.given_up ≡ 0)
      patient_more = still streams streams'.given_up timeout ending is_over patient k.patient (ap (λ (s : Streams). s.given_up) more)

      -- one more
      pub follows_on : (passed' : List (List ℕ)) → PassesOver number passed (name_of ending) passed' → IsFollowing (number + 1) streams' passed' left' there'
      follows_on passed' passes = record {
        endings = ending ∷ k.endings;
        long = omega (arith, k.long);
        all = all_more;
        count = count_more;
        patient = patient_more;
        passes = passes (map name_of k.endings) given (length-map k.endings name_of ∙ sym k.long) k.passes;
        follows = follows_more;
      }

      -- and there is no memory
      pub follows_no_more : (stop : Stop) → StopsReading stop → FollowsUpTo table key given width timeout blank input streams' (Err stop) seen held there'
      follows_no_more stop stops = record {
        endings = ending ∷ k.endings;
        count = count_more;
        patient = patient_more;
        left = left';
        follows = follows_more;
        ends = stops;
      }

    -- one that ends the run
    pub follows_up_to : (last : Result Ending Stop) → over last ≡ None
        → EndsOne table (wish_over table key [] passed) width blank last seen left after came there there'
        → FollowsUpTo table key given width timeout blank input streams last seen held there'
    follows_up_to (Ok (Written stream)) is one = absurd (cc is)
    follows_up_to (Ok (GivenUp stream number missing)) is one = absurd (cc is)
    follows_up_to (Ok (Incomplete number missing)) is (written, ends, same) = record {
      endings = k.endings;
      count = k.count;
      patient = k.patient;
      left = left;
      follows = subst (Follows table key given width blank k.endings input left held) (sym same) k.follows;
      ends = (
        after,
        came,
        written,
        subst (λ p. EndsReceiving table (wish_over table key [] p) width (Ok (Incomplete number missing)) seen left after came blank written) k.passes ends,
      );
    }
    follows_up_to (Err stop) is (stops, same) = record {
      endings = k.endings;
      count = k.count;
      patient = k.patient;
      left = left;
      follows = subst (Follows table key given width blank k.endings input left held) (sym same) k.follows;
      ends = stops;
    }

  -- no more are counted
  pub follows_all : (passed : List (List ℕ)) (left : Contents) (there : Folder) (number : ℕ) (streams : Streams) → IsFollowing number streams passed left there
      → number ≡ 2 ^ 64 - 1 → (stream : List ℕ) (seen : Seen) → FollowsUpTo table key given width timeout blank input streams (Ok (Written stream)) seen held there
  follows_all passed left there number streams k is stream seen = record {
    endings = k.endings;
    count = k.count;
    patient = k.patient;
    left = left;
    follows = k.follows;
    ends = sym k.long ∙ is;
  }

-- by the key of a file, over all rows
pub follows : (file : Option Contents) (passed : List (List ℕ)) (width : ℕ) (timeout : Option ℕ) (streams : Streams) (last : Result Ending Stop) (seen : Seen) (key : Key) (table : List TableRow)
    (input read blank : Contents) (old held new : Folder) → IsKeyOf file key → wanted_table FURTHER_ROWS ≡ Ok table → read ≡ input → held ≡ old
    → FollowsUpTo table key passed width timeout blank read streams last seen held new → FollowsAll file passed width timeout streams last seen input blank old new
follows file passed width timeout streams last seen key table input read blank old held new keyed rows there same all = record {
  key = key;
  keyed = keyed;
  table = table;
  rows = rows;
  by = subst (λ (h : Folder). FollowsUpTo table key passed width timeout blank input streams last seen h new) same
      (subst (λ i. FollowsUpTo table key passed width timeout blank i streams last seen held new) there all);
}
