-- No wanted cell is whole yet in what came.
use Rattle.std.proofs.Common.{◌≡◌, ℕ, ◌+◌, ◌-◌, ◌<◌, ◌≤◌, List, ◌++◌, length, drop, arith, sym, ap, subst, ◌∙◌, None, ◌⊎◌, inl, inr, length-append, append_assoc, drop-drop}
use Rattle.std.proofs.lemmas.List.{length-drop, drop-append-le}
use Rattle.std.proofs.lemmas.Bool.{cases_lt}
use Rattle.rq_cells.specs.declared.wanted.Heads.{Heads}
use Rattle.rq_cells.specs.declared.wanted.Search.{Search}
use Rattle.rq_cells.specs.Wanted.{Wish, wanted_at, is_wanted_damaged, is_unwanted, AreHeads, IsFirstWanted, HasNoWanted, NoneBefore, IsSearch}
use Rattle.rq_cells.specs.Search.{Searching, place_of, left_behind}
use Rattle.rq_cells.proofs.WantedCells.{count_further}
use Rattle.rq_cast.specs.declared.seen.Seen.{Seen}
use Rattle.rq_cast.specs.declared.stream_receiver.Found.{Found}
use Rattle.rq_cast.specs.Searching.{SeesBefore}
use Rattle.rq_cast.specs.Receiving.{SeesHeads, IsSearching, IsFoundIn}

-- the heads at the places from one on, behind those before it
pub sees_more : (w : Wish) (bytes : List ℕ) (from n : ℕ) (old new : Seen) (heads : Heads)
    → SeesBefore w bytes from old → AreHeads w (drop from bytes) n heads → SeesHeads old heads new
    → SeesBefore w bytes (from + n) new
sees_more w bytes from n old new heads before are sees =
    let damaged = count_further (is_wanted_damaged w) bytes from n in
    let others = count_further (is_unwanted w) bytes from n in
    record {
      no_cells = sees.cells ∙ before.no_cells;
      no_restarts = sees.restarted ∙ before.no_restarts;
      none_ahead = sees.ahead ∙ before.none_ahead;
      none_behind = sees.behind ∙ before.none_behind;
      damaged = omega (arith, sees.damaged, before.damaged, are.damaged, damaged);
      others = omega (arith, sees.others, before.others, are.others, others);
    }

-- what a search that goes on finds, where a wish and a piece are these
pub fed : (w : Wish) (s new : Searching) (piece given : List ℕ) (search : Search) → s.wish ≡ w → given ≡ piece → IsSearch s.wish (s.bytes ++ given) search
    → new ≡ left_behind s given search
    → IsSearch w (s.bytes ++ piece) search × (new.wish ≡ w) × (new.bytes ≡ drop (place_of search) (s.bytes ++ piece))
fed w s new piece given search wish is found left = (
  subst (λ (k : Wish × List ℕ). IsSearch k.0 (s.bytes ++ k.1) search) (λ i. (wish i, is i)) found,
  ap (λ (k : Searching). k.wish) left ∙ wish,
  ap (λ (k : Searching). k.bytes) left ∙ ap (λ xs. drop (place_of search) (s.bytes ++ xs)) is,
)

-- a piece more came
module _ (w : Wish) (past kept piece : List ℕ) (settled every : Seen) (u : IsSearching w past kept settled every) where
  abbrev past' : List ℕ
  past' = past ++ piece

  kept_is : kept ++ piece ≡ drop u.from past'
  kept_is = ap (λ xs. xs ++ piece) u.from_there ∙ sym (drop-append-le u.from past piece u.within)

  same_place : (i : ℕ) → u.from ≤ i → drop i past' ≡ drop (i - u.from) (kept ++ piece)
  same_place i h =
      let sum : u.from + (i - u.from) ≡ i = omega (arith, h) in
      ap (λ n. drop n past') (sym sum) ∙ sym (drop-drop (i - u.from) u.from past') ∙ ap (drop (i - u.from)) (sym kept_is)

  none_so_far : (n : ℕ) → NoneBefore w (kept ++ piece) n → NoneBefore w past' (u.from + n)
  none_so_far n none i below = by (cases_lt i u.from)
    where
      by : (i < u.from) ⊎ (u.from ≤ i) → wanted_at w (drop i past') ≡ None
      by (inl less) =
          ap (wanted_at w) (drop-append-le i past piece (omega (arith, less, u.within))) ∙ u.never piece i less
      by (inr at) = ap (wanted_at w) (same_place i at) ∙ none (i - u.from) (omega (arith, at, below))

  -- the heads behind the settled ones
  heads_behind : (rest : List ℕ) (n : ℕ) (heads : Heads) → AreHeads w (kept ++ piece ++ rest) n heads
      → AreHeads w (drop u.from (past' ++ rest)) n heads
  heads_behind rest n heads are =
      let within : u.from ≤ length past' = omega (arith, u.within, length-append past piece) in
      subst (λ xs. AreHeads w xs n heads) (ap (λ xs. xs ++ rest) kept_is ∙ sym (drop-append-le u.from past' rest within)) are

  pub found_first : (most : ℕ) → length piece ≤ most → (found : Found) (at : ℕ) → IsFirstWanted w (kept ++ piece) at found.head
      → found.bytes.items ≡ drop at (kept ++ piece) → (heads : Heads) → AreHeads w (kept ++ piece) at heads → SeesHeads settled heads found.seen
      → IsFoundIn w most past piece found
  found_first most few found at first is heads are sees =
      let place : u.from ≤ u.from + at = omega arith in
      let back : at ≡ u.from + at - u.from = omega arith in
      let there : drop (u.from + at) past' ≡ drop at (kept ++ piece) = same_place (u.from + at) place ∙ ap (λ n. drop n (kept ++ piece)) (sym back) in
      record {
        few = few;
        none_earlier = u.none;
        at = u.from + at;
        first = record {
          within = omega
              (arith, first.within, u.within, ap length u.from_there, length-drop u.from past, length-append kept piece, length-append past piece);
          found = ap (wanted_at w) there ∙ first.found;
          first = none_so_far at first.first;
        };
        from_there = is ∙ sym there;
        seen = sees_more w past' u.from at settled found.seen heads (u.seen piece) (subst (λ xs. AreHeads w xs at heads) kept_is are) sees;
      }

  pub unfound_more : (from : ℕ) (left : List ℕ) (heads all : Heads) → HasNoWanted w (kept ++ piece) from heads all
      → left ≡ drop from (kept ++ piece)
      → (settled' every' : Seen) → SeesHeads settled heads settled' → SeesHeads settled all every'
      → IsSearching w past' left settled' every'
  unfound_more from left heads all h is settled' every' sees sees_all =
      let size : length past' ≡ u.from + length (kept ++ piece) =
      omega (arith, u.within, ap length u.from_there, length-drop u.from past, length-append kept piece, length-append past piece) in
      let place : u.from ≤ u.from + from = omega arith in
      let back : from ≡ u.from + from - u.from = omega arith in
      record {
        from = u.from + from;
        within = omega (arith, h.within, size);
        from_there = is ∙ ap (λ n. drop n (kept ++ piece)) back ∙ sym (same_place (u.from + from) place);
        never = λ rest i below. never' rest i below (cases_lt i u.from);
        none = λ i below. none_so_far (length (kept ++ piece)) h.none i (omega (arith, below, size));
        seen = λ rest.
            sees_more w (past' ++ rest) u.from from settled settled' heads
            (subst (λ xs. SeesBefore w xs u.from settled) (sym (append_assoc past piece rest)) (u.seen (piece ++ rest)))
            (heads_behind rest from heads (h.before rest)) sees;
        all_seen =
            subst (λ n. SeesBefore w past' n every') (sym size)
            (sees_more w past' u.from (length (kept ++ piece)) settled every' all (u.seen piece)
            (subst (λ xs. AreHeads w xs (length (kept ++ piece)) all) kept_is h.all) sees_all);
      }
    where
      never' : (rest : List ℕ) (i : ℕ) → i < u.from + from → (i < u.from) ⊎ (u.from ≤ i) → wanted_at w (drop i past' ++ rest) ≡ None
      never' rest i below (inl less) =
          ap (λ xs. wanted_at w (xs ++ rest)) (drop-append-le i past piece (omega (arith, less, u.within)))
          ∙ ap (wanted_at w) (append_assoc (drop i past) piece rest)
          ∙ u.never (piece ++ rest) i less
      never' rest i below (inr at) =
          ap (λ xs. wanted_at w (xs ++ rest)) (same_place i at) ∙ h.never rest (i - u.from) (omega (arith, at, below))
