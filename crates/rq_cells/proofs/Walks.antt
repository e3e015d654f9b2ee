-- A walk over the places of bytes.
use Rattle.std.proofs.Common.{◌≡◌, ℕ, zero, suc, ◌+◌, ◌-◌, ◌^◌, ◌<◌, ◌≤◌, List, [], ◌∷◌, ◌++◌, length, take, drop, arith, refl, sym, ap, subst, ◌∙◌, Some, None, Option, true, false, get_or, length-append, append-nil, drop-drop, ◌⊎◌, inl, inr}
use Rattle.std.specs.List.{cons_option}
use Rattle.std.specs.Prelude.{option_map, unwrap_or, IfSome}
use Rattle.std.proofs.lemmas.List.{length-drop, drop-append-le, take_all, take_more, take_rest}
use Rattle.std.proofs.lemmas.Bool.{cases_lt}
use Rattle.rq_cells.specs.declared.head.Head.{Head}
use Rattle.rq_cells.specs.declared.wanted.Note.{Note}
use Rattle.rq_cells.specs.declared.wanted.Note.TheVariants as N
use Rattle.rq_cells.specs.declared.wanted.Sight.{Sight}
use Rattle.rq_cells.specs.declared.wanted.Sight.TheVariants as V
use Rattle.rq_cells.specs.declared.wanted.Heads.{Heads}
use Rattle.rq_cells.specs.declared.search.Noted.{Noted}
use Rattle.rq_cells.specs.declared.search.Walk.{Walk}
use Rattle.rq_cells.specs.declared.search.Walked.{Walked}
use Rattle.rq_cells.specs.Cells.{head_size, head_at}
use Rattle.rq_cells.specs.Found.{IsNextHead}
use Rattle.rq_cells.specs.Wanted.{Wish, wanted_at, note_of, note_at, IsNoted, WasNoted, IsSight, is_undecided, HasNoWanted, IsSearch}
use Rattle.rq_cells.specs.Search.{noted_before, IsLookedAt, Continues, open_place, SearchedTo, HasWalkedTo, HasWalked, no_heads, IsFresh, CanNote, heads_with, pending_with, notes_with, Notes, IsAtFirst, IsFound, IsEnd, IsWalked, place_of}
use Rattle.rq_cells.proofs.Scanning.{same_head_at}
use Rattle.rq_cells.proofs.WantedCells.{headed_is_long, nothing_without_head, searched_more, searched_open, searched_long}
use Rattle.rq_cells.proofs.NotedHeads.{no_head, none_between, last_of_same, entry, IsEntry, was_noted}

-- ---- notes

-- no place is open: nothing is noted
none_noted : (w : Wish) (bytes : List ℕ) (i j : ℕ) (notes : List Noted) → notes ≡ noted_before w (drop i bytes) (i - i) → notes ≡ noted_before w (drop j bytes) (j - j)
none_noted w bytes i j notes are =
    let none : i - i ≡ zero = omega arith in
    let none' : j - j ≡ zero = omega arith in
    are ∙ ap (noted_before w (drop i bytes)) none ∙ sym (ap (noted_before w (drop j bytes)) none')

-- what one place more adds behind an open one
noted_next : (w : Wish) (bytes : List ℕ) (from at : ℕ) (o : Option Note) → from ≤ at → note_at w (drop at bytes) ≡ o
    → noted_before w (drop from bytes) (at + 1 - from)
    ≡ noted_before w (drop from bytes) (at - from) ++ cons_option (option_map (λ k. record { at = at - from; note = k }) o) []
noted_next w bytes from at o few is =
    let next : at + 1 - from ≡ suc (at - from) = omega (arith, few) in
    let place : from + (at - from) ≡ at = omega (arith, few) in
    let there : note_at w (drop (at - from) (drop from bytes)) ≡ o = ap (note_at w) (drop-drop (at - from) from bytes) ∙ ap (λ i. note_at w (drop i bytes)) place ∙ is in
    ap (noted_before w (drop from bytes)) next
    ∙ ap (λ k. noted_before w (drop from bytes) (at - from) ++ cons_option (option_map (λ k. record { at = at - from; note = k }) k) []) there

-- ---- one place further

module _ (w : Wish) (bytes : List ℕ) where
  enough_more : (at : ℕ) → ((i : ℕ) → i < at → head_size ≤ length (drop i bytes)) → head_size ≤ length (drop at bytes)
      → (i : ℕ) → i < at + 1 → head_size ≤ length (drop i bytes)
  enough_more at enough long i below = elim (cases_lt i at) [
    | inl less ↦ enough i less
    | inr more ↦ let same : at ≡ i = omega (arith, more, below) in subst (λ k. head_size ≤ length (drop k bytes)) same long
  ]

  -- where no head begins
  nothing_there : (at : ℕ) (heads : Heads) (pending : Option (ℕ × Heads)) (notes : List Noted) → head_size ≤ length (drop at bytes)
      → head_at w.key (drop at bytes) ≡ None → HasWalkedTo w bytes at heads pending notes → HasWalkedTo w bytes (at + 1) heads pending notes
  nothing_there at heads pending notes long none walk = record {
    enough = enough_more at walk.enough long;
    searched =
        searched_more w bytes at heads heads false false false (nothing_without_head w (drop at bytes) long none) (omega (arith, long, length-drop at bytes))
        (omega arith) (omega arith) pending refl walk.searched;
    notes_are = by pending walk.searched.opened walk.notes_are;
  }
    where
      none_noted_there : note_at w (drop at bytes) ≡ None
      none_noted_there = ap (option_map (note_of w (drop at bytes))) none

      by : (p : Option (ℕ × Heads)) → IfSome p (λ q. (q.0 < at) × (length bytes - q.0 < 65599) × (is_undecided w (drop q.0 bytes) ≡ true)) → notes ≡ noted_before w (drop (open_place p at) bytes) (at - open_place p at)
          → notes ≡ noted_before w (drop (open_place p (at + 1)) bytes) (at + 1 - open_place p (at + 1))
      by None opened are = none_noted w bytes at (at + 1) notes are
      by (Some q) opened are =
          are
          ∙ sym (append-nil (noted_before w (drop q.0 bytes) (at - q.0)))
          ∙ sym (noted_next w bytes q.0 at None (omega (arith, opened.0)) none_noted_there)

  -- behind a head of which this is known
  pub noted_there : (at : ℕ) (heads : Heads) (pending : Option (ℕ × Heads)) (notes : List Noted) (note : Note) → IsNoted w (drop at bytes) note
      → HasWalkedTo w bytes at heads pending notes
      → HasWalkedTo w bytes (at + 1) (heads_with heads note) (pending_with pending at heads note) (notes_with (pending_with pending at heads note) at notes note)
  noted_there at heads pending notes note is walk = record {
    enough = enough_more at walk.enough is.long;
    searched = searched note is;
    notes_are = noted note pending is walk.searched.opened walk.notes_are;
  }
    where
      below : at < length bytes
      below = omega (arith, is.long, length-drop at bytes)

      searched : (n : Note) → IsNoted w (drop at bytes) n → SearchedTo w bytes (at + 1) (heads_with heads n) (pending_with pending at heads n)
      searched (N.Begun h) is =
          searched_open w bytes at heads heads true false false is.fits.0 below (omega arith) (omega arith) pending refl is.fits.1 walk.searched
      searched N.Damaged is =
          searched_more w bytes at heads (heads_with heads N.Damaged) false true false is.fits below refl (omega arith) pending refl walk.searched
      searched N.Other is =
          searched_more w bytes at heads (heads_with heads N.Other) false false true is.fits below (omega arith) refl pending refl walk.searched

      -- behind an open place
      behind : (n : Note) (q : ℕ × Heads) → IsNoted w (drop at bytes) n → q.0 < at → notes ≡ noted_before w (drop q.0 bytes) (at - q.0)
          → notes ++ (record { at = at - q.0; note = n } ∷ []) ≡ noted_before w (drop q.0 bytes) (at + 1 - q.0)
      behind n q is few are =
          ap (λ xs. xs ++ (record { at = at - q.0; note = n } ∷ [])) are
          ∙ sym (noted_next w bytes q.0 at (Some n) (omega (arith, few)) is.noted)

      noted : (n : Note) (p : Option (ℕ × Heads)) → IsNoted w (drop at bytes) n → IfSome p (λ q. (q.0 < at) × (length bytes - q.0 < 65599) × (is_undecided w (drop q.0 bytes) ≡ true))
          → notes ≡ noted_before w (drop (open_place p at) bytes) (at - open_place p at)
          → notes_with (pending_with p at heads n) at notes n
          ≡ noted_before w (drop (open_place (pending_with p at heads n) (at + 1)) bytes) (at + 1 - open_place (pending_with p at heads n) (at + 1))
      noted (N.Begun h) None is opened are =
          ap (λ xs. xs ++ (record { at = at - at; note = N.Begun h } ∷ [])) are
          ∙ sym (noted_next w bytes at at (Some (N.Begun h)) (omega arith) is.noted)
      noted (N.Begun h) (Some q) is opened are = behind (N.Begun h) q is opened.0 are
      noted N.Damaged None is opened are = none_noted w bytes at (at + 1) notes are
      noted N.Damaged (Some q) is opened are = behind N.Damaged q is opened.0 are
      noted N.Other None is opened are = none_noted w bytes at (at + 1) notes are
      noted N.Other (Some q) is opened are = behind N.Other q is opened.0 are

  -- and behind places where no head begins
  pub skipped : (n at to : ℕ) (heads : Heads) (pending : Option (ℕ × Heads)) (notes : List Noted) → at + n ≡ to
      → ((i : ℕ) → i < to → head_size ≤ length (drop i bytes)) → ((i : ℕ) → at ≤ i → i < to → head_at w.key (drop i bytes) ≡ None)
      → HasWalkedTo w bytes at heads pending notes → HasWalkedTo w bytes to heads pending notes
  skipped zero at to heads pending notes is enough none walk =
      let same : at ≡ to = omega (arith, is) in
      subst (λ i. HasWalkedTo w bytes i heads pending notes) same walk
  skipped (suc n) at to heads pending notes is enough none walk =
      let less : at < to = omega (arith, is) in
      skipped n (at + 1) to heads pending notes (omega (arith, is)) enough (λ i from below. none i (omega (arith, from)) below)
      (nothing_there at heads pending notes (enough at less) (none at (omega arith) less) walk)

  -- places before one where bytes enough for a head stand
  pub enough_before : (to : ℕ) → head_size ≤ length (drop to bytes) → (i : ℕ) → i < to → head_size ≤ length (drop i bytes)
  enough_before to long i below = omega (arith, long, below, length-drop to bytes, length-drop i bytes)

  pub skipped_to : (at to : ℕ) (heads : Heads) (pending : Option (ℕ × Heads)) (notes : List Noted) → at ≤ to
      → ((i : ℕ) → i < to → head_size ≤ length (drop i bytes)) → ((i : ℕ) → at ≤ i → i < to → head_at w.key (drop i bytes) ≡ None)
      → HasWalkedTo w bytes at heads pending notes → HasWalkedTo w bytes to heads pending notes
  skipped_to at to heads pending notes few enough none walk = skipped (to - at) at to heads pending notes (omega (arith, few)) enough none walk

-- ---- the beginning and the end

-- what is said of a walk, by what it holds
by_fields : (w : Wish) (bytes : List ℕ) (walk : Walk) (at : ℕ) (heads : Heads) (pending : Option (ℕ × Heads)) (notes : List Noted)
    → walk.at ≡ at → walk.heads ≡ heads → walk.pending ≡ pending → walk.notes.items ≡ notes → HasWalkedTo w bytes at heads pending notes → HasWalked w bytes walk
by_fields w bytes walk at heads pending notes at_is heads_is pending_is notes_is is =
    subst (λ (s : (ℕ × Heads) × (Option (ℕ × Heads) × List Noted)). HasWalkedTo w bytes s.0.0 s.0.1 s.1.0 s.1.1)
    (λ i. ((sym at_is i, sym heads_is i), (sym pending_is i, sym notes_is i))) is

pub fresh_walk : (w : Wish) (bytes : List ℕ) (walk : Walk) → IsFresh walk → HasWalked w bytes walk
fresh_walk w bytes walk fresh =
    by_fields w bytes walk 0 no_heads None [] fresh.at fresh.heads fresh.pending fresh.notes
    (record {
      enough = λ i below. absurd (omega (arith, below));
      searched = record {
        none = λ i below. absurd (omega (arith, below));
        all = record { damaged = refl; others = refl };
        few = (omega arith, omega arith);
        never = λ rest j below. absurd (omega (arith, below));
        before = λ rest. record { damaged = refl; others = refl };
        opened = tt;
        settled = λ j below. absurd (omega (arith, below));
      };
      notes_are = refl;
    })

-- the open place is none that is still to come
pub open_before : (w : Wish) (bytes : List ℕ) (walk : Walk) → HasWalked w bytes walk → IfSome walk.pending (λ p. p.0 ≤ walk.at)
open_before w bytes walk is = by walk.pending is.searched.opened
  where
    by : (p : Option (ℕ × Heads)) → IfSome p (λ q. (q.0 < walk.at) × (length bytes - q.0 < 65599) × (is_undecided w (drop q.0 bytes) ≡ true)) → IfSome p (λ q. q.0 ≤ walk.at)
    by None opened = tt
    by (Some q) opened = omega (arith, opened.0)

pub can_note : (w : Wish) (bytes : List ℕ) (walk : Walk) → HasWalked w bytes walk → walk.at < 2 ^ 63 → CanNote walk
can_note w bytes walk is below = record {
  at = omega (arith, below);
  damaged = is.searched.few.0;
  others = is.searched.few.1;
  behind = open_before w bytes walk is;
}

pub noted_walk : (w : Wish) (bytes : List ℕ) (old new : Walk) (note : Note) → HasWalked w bytes old → IsNoted w (drop old.at bytes) note → Notes old note new
    → HasWalked w bytes new
noted_walk w bytes old new note walk is notes =
    let heads = heads_with old.heads note in
    let pending = pending_with old.pending old.at old.heads note in
    by_fields w bytes new (old.at + 1) heads pending (notes_with pending old.at old.notes.items note) notes.at notes.heads notes.pending
    (notes.notes ∙ ap (λ p. notes_with p old.at old.notes.items note) notes.pending)
    (noted_there w bytes old.at old.heads old.pending old.notes.items note is walk)

-- a walk that has gone on to a place
abbrev pub moved : Walk → ℕ → Walk
moved walk at = record { at = at; heads = walk.heads; pending = walk.pending; notes = walk.notes }

-- what a look at the bytes from there on says
module _ (w : Wish) (bytes : List ℕ) (walk : Walk) (at : ℕ) (is : HasWalked w bytes (moved walk at)) (sight : Sight)
    (seen : IsSight w (take (length bytes - at) (drop at bytes)) sight) where
  sight_there : (s : Sight) → sight ≡ s → IsSight w (drop at bytes) s
  sight_there s same = subst (IsSight w (drop at bytes)) same (subst (λ xs. IsSight w xs sight) (take_rest bytes at) seen)

  pub noted_at : (note : Note) (new : Walk) → sight ≡ V.Noted note → Notes (moved walk at) note new → HasWalked w bytes new
  noted_at note new same notes = noted_walk w bytes (moved walk at) new note is (sight_there (V.Noted note) same) notes

  pub found_at : (h : Head) → at < length bytes → sight ≡ V.Found h → IsAtFirst w bytes (moved walk at) h
  found_at h below same = record {
    first = record { within = below; found = sight_there (V.Found h) same; first = is.searched.none };
    heads = is.searched.all;
  }

-- a walk stays within the bytes
pub walk_within : (w : Wish) (bytes : List ℕ) (walk : Walk) → HasWalked w bytes walk → walk.at ≤ length bytes
walk_within w bytes walk is = elim (cases_lt 0 walk.at) [
  | inl some ↦ omega (arith, some, is.enough (walk.at - 1) (omega (arith, some)), length-drop (walk.at - 1) bytes)
  | inr none ↦ omega (arith, none)
]

-- the next head is known
pub walk_to_head : (w : Wish) (bytes : List ℕ) (walk : Walk) (at : ℕ) (h : Head) → HasWalked w bytes walk → IsNextHead w.key bytes walk.at (Some (at, h))
    → HasWalked w bytes (moved walk at) × (at < length bytes)
walk_to_head w bytes walk at h is next =
    let long = headed_is_long w.key (drop at bytes) h next.1 in (
      skipped_to w bytes walk.at at walk.heads walk.pending walk.notes.items next.0 (enough_before w bytes at long) next.2 is,
      omega (arith, long, length-drop at bytes),
    )

-- and there is none
pub walk_to_end : (w : Wish) (bytes : List ℕ) (walk : Walk) (to : ℕ) → to ≡ length bytes - 51 → HasWalked w bytes walk → IsNextHead w.key bytes walk.at None
    → HasWalked w bytes (moved walk to) × (to ≤ length bytes) × (length bytes - to < head_size)
walk_to_end w bytes walk to is walk_is none = (
  skipped_to w bytes walk.at to walk.heads walk.pending walk.notes.items (before (cases_lt 0 walk.at)) (λ i below. omega (arith, below, is, length-drop i bytes))
      (λ i from below. none i from) walk_is,
  omega (arith, is),
  omega (arith, is),
)
  where
    before : (0 < walk.at) ⊎ (walk.at ≤ 0) → walk.at ≤ to
    before (inl some) = omega (arith, is, some, walk_is.enough (walk.at - 1) (omega (arith, some)), length-drop (walk.at - 1) bytes)
    before (inr none) = omega (arith, none)

-- nothing is known of bytes
pub none_looked_at : (w : Wish) (bytes : List ℕ) → IsLookedAt w bytes 0 []
none_looked_at w bytes = record {
  enough = λ i below. absurd (omega (arith, below));
  none = λ i below. absurd (omega (arith, below));
  notes_are = refl;
}

-- so much is known of all of them
pub continues_all : (w : Wish) (bytes : List ℕ) (looked : ℕ) (notes : List Noted) → IsLookedAt w bytes looked notes → Continues w bytes looked notes
continues_all w bytes looked notes known = record { front = bytes; rest = []; is = sym (append-nil bytes); known = known }

pub walked_found : (w : Wish) (bytes : List ℕ) (walk : Walk) (h : Head) (walked : Walked) → IsAtFirst w bytes walk h → IsFound walk h walked → IsWalked w bytes walked
walked_found w bytes walk h walked first found = record {
  search = subst (IsSearch w bytes) (sym found.search) (first.first, first.heads);
  within = omega (arith, ap place_of found.search, first.first.within);
  left =
      subst (λ (s : ℕ × List Noted). IsLookedAt w (drop (place_of walked.search) bytes) s.0 s.1) (λ i. (sym found.looked i, sym found.notes i))
      (none_looked_at w (drop (place_of walked.search) bytes));
}

-- of the bytes from the open place on this is known
open_looked_at : (w : Wish) (bytes : List ℕ) (at : ℕ) (heads : Heads) (pending : Option (ℕ × Heads)) (notes : List Noted) → HasWalkedTo w bytes at heads pending notes
    → (from : ℕ) → open_place pending at ≡ from → IsLookedAt w (drop from bytes) (at - from) notes
open_looked_at w bytes at heads pending notes walk from is = record {
  enough = λ i below. subst (λ xs. head_size ≤ length xs) (sym (drop-drop i from bytes)) (walk.enough (from + i) (omega (arith, below)));
  none = λ i below. ap (wanted_at w) (drop-drop i from bytes) ∙ walk.searched.none (from + i) (omega (arith, below));
  notes_are = walk.notes_are ∙ ap (λ k. noted_before w (drop k bytes) (at - k)) is;
}

module _ (w : Wish) (bytes : List ℕ) (walk : Walk) (walked : Walked) (is : HasWalked w bytes walk) (end : IsEnd walk walked) where
  abbrev from : ℕ
  from = (unwrap_or walk.pending (walk.at, walk.heads)).0

  place : place_of walked.search ≡ from
  place = ap place_of end.search

  same_from : (p : Option (ℕ × Heads)) → open_place p walk.at ≡ (unwrap_or p (walk.at, walk.heads)).0
  same_from None = refl
  same_from (Some q) = refl

  looked_behind : walked.looked ≡ walk.at - from
  looked_behind = end.looked ∙ ap (λ k. walk.at - k) (same_from walk.pending)

  pub walked_all : walk.at ≤ length bytes → length bytes - walk.at < head_size → IsWalked w bytes walked
  walked_all within few =
      let none : HasNoWanted w bytes from (unwrap_or walk.pending (walk.at, walk.heads)).1 walk.heads =
      searched_long w bytes (length bytes - walk.at) walk.at walk.heads walk.pending (omega (arith, within)) few is.searched in
      record {
        search = subst (IsSearch w bytes) (sym end.search) none;
        within = omega (arith, place, none.within);
        left =
            subst (λ (s : ℕ × (ℕ × List Noted)). IsLookedAt w (drop s.0 bytes) s.1.0 s.1.1)
            (λ i. (sym place i, (sym looked_behind i, sym end.notes i)))
            (open_looked_at w bytes walk.at walk.heads walk.pending walk.notes.items is from (same_from walk.pending));
      }

-- ---- over the heads that are known

-- A walk has come behind the first k heads that are known of fewer bytes.
pub record IsBehind (w : Wish) (bytes : List ℕ) (looked : ℕ) (known : List Noted) (walk : Walk) (k : ℕ) : Type 0 where
  pub continues : Continues w bytes looked known
  pub walk_is : HasWalked w bytes walk
  pub few : walk.at ≤ looked
  pub so_far : noted_before w continues.front walk.at ≡ take k known

pub behind_none : (w : Wish) (bytes : List ℕ) (looked : ℕ) (known : List Noted) (walk : Walk) → Continues w bytes looked known → IsFresh walk
    → IsBehind w bytes looked known walk 0
behind_none w bytes looked known walk continues fresh = record {
  continues = continues;
  walk_is = fresh_walk w bytes walk fresh;
  few = omega (arith, fresh.at);
  so_far = ap (noted_before w continues.front) fresh.at;
}

module _ (w : Wish) (bytes : List ℕ) (looked : ℕ) (known : List Noted) (continues : Continues w bytes looked known) where
  abbrev front : List ℕ
  front = continues.front

  abbrev rest : List ℕ
  rest = continues.rest

  drop_known : (i : ℕ) → i < looked → drop i bytes ≡ drop i front ++ rest
  drop_known i below =
      ap (drop i) continues.is ∙ drop-append-le i front rest (omega (arith, continues.known.enough i below, length-drop i front))

  long_still : (i : ℕ) → i < looked → head_size ≤ length (drop i bytes)
  long_still i below = omega (arith, ap length (drop_known i below), length-append (drop i front) rest, continues.known.enough i below)

  no_head_still : (i : ℕ) → i < looked → note_at w (drop i front) ≡ None → head_at w.key (drop i bytes) ≡ None
  no_head_still i below none =
      ap (head_at w.key) (drop_known i below) ∙ same_head_at (drop i front) rest (continues.known.enough i below) w.key ∙ no_head w front i none

  -- up to a place before which the same heads are known
  walk_to : (walk : Walk) (to : ℕ) → HasWalked w bytes walk → walk.at ≤ to → to ≤ looked → noted_before w front walk.at ≡ noted_before w front to
      → HasWalkedTo w bytes to walk.heads walk.pending walk.notes.items
  walk_to walk to is from few same =
      skipped_to w bytes walk.at to walk.heads walk.pending walk.notes.items from
      (λ i below. long_still i (omega (arith, below, few)))
      (λ i behind below. no_head_still i (omega (arith, below, few)) (none_between w front walk.at to i same behind below)) is

  pub known_entry : (k : ℕ) (d : Noted) → k < length known → IsEntry w front looked k (get_or known k d)
  known_entry k d below =
      subst (λ xs. IsEntry w front looked k (get_or xs k d)) (sym continues.known.notes_are)
      (entry w front looked k d (omega (arith, below, ap length continues.known.notes_are)))

-- The next of them is this.
pub record IsNext (w : Wish) (bytes : List ℕ) (walk : Walk) (e : Noted) : Type 0 where
  pub walk_is : HasWalked w bytes (moved walk e.at)
  pub below : e.at < length bytes
  pub was : WasNoted w (drop e.at bytes) e.note

module _ (w : Wish) (bytes : List ℕ) (looked : ℕ) (known : List Noted) (walk : Walk) (k : ℕ) (d : Noted) (below : k < length known)
    (b : IsBehind w bytes looked known walk k) where
  abbrev e : Noted
  e = get_or known k d

  abbrev fewer : List ℕ
  fewer = b.continues.front

  entry_is : IsEntry w fewer looked k e
  entry_is = known_entry w bytes looked known b.continues k d below

  front_is : noted_before w fewer e.at ≡ take k known
  front_is = entry_is.front ∙ sym (ap (take k) b.continues.known.notes_are)

  pub next_known : IsNext w bytes walk e
  next_known =
      let long = long_still w bytes looked known b.continues e.at entry_is.below in
      let same : noted_before w fewer walk.at ≡ noted_before w fewer e.at = b.so_far ∙ sym front_is in
      record {
        walk_is =
            walk_to w bytes looked known b.continues walk e.at b.walk_is (last_of_same w fewer walk.at e.at e.note same entry_is.noted)
            (omega (arith, entry_is.below)) same;
        below = omega (arith, long, length-drop e.at bytes);
        was =
            subst (λ xs. WasNoted w xs e.note) (sym (drop_known w bytes looked known b.continues e.at entry_is.below))
            (was_noted w (drop e.at fewer) b.continues.rest e.note (b.continues.known.enough e.at entry_is.below)
            (b.continues.known.none e.at entry_is.below) entry_is.noted);
      }

  -- and behind it
  pub behind_next : (new : Walk) → HasWalked w bytes new → new.at ≡ e.at + 1 → IsBehind w bytes looked known new (k + 1)
  behind_next new is at =
      let next : e.at + 1 ≡ suc e.at = omega arith in
      record {
        continues = b.continues;
        walk_is = is;
        few = omega (arith, at, entry_is.below);
        so_far =
            ap (noted_before w fewer) (at ∙ next)
            ∙ ap (λ o. noted_before w fewer e.at ++ cons_option (option_map (λ n. record { at = e.at; note = n }) o) []) entry_is.noted
            ∙ ap (λ xs. xs ++ (e ∷ [])) front_is
            ∙ sym (take_more known k d below);
      }

-- the same of an item of the list
pub next_is : (w : Wish) (bytes : List ℕ) (looked : ℕ) (known : List Noted) (walk : Walk) (k : ℕ) (e : Noted) → e ≡ get_or known k e → k < length known
    → IsBehind w bytes looked known walk k → IsNext w bytes walk e
next_is w bytes looked known walk k e is below b = subst (IsNext w bytes walk) (sym is) (next_known w bytes looked known walk k e below b)

pub behind_is : (w : Wish) (bytes : List ℕ) (looked : ℕ) (known : List Noted) (walk : Walk) (k : ℕ) (e : Noted) → e ≡ get_or known k e → k < length known
    → IsBehind w bytes looked known walk k → (new : Walk) → HasWalked w bytes new → new.at ≡ e.at + 1 → IsBehind w bytes looked known new (k + 1)
behind_is w bytes looked known walk k e is below b new walk_is at =
    behind_next w bytes looked known walk k e below b new walk_is (at ∙ ap (λ (x : Noted). x.at + 1) is)

-- all of them
pub behind_all : (w : Wish) (bytes : List ℕ) (looked : ℕ) (known : List Noted) (walk : Walk) (k : ℕ) → length known ≤ k
    → IsBehind w bytes looked known walk k → HasWalkedTo w bytes looked walk.heads walk.pending walk.notes.items
behind_all w bytes looked known walk k all b =
    walk_to w bytes looked known b.continues walk looked b.walk_is b.few (omega arith)
    (b.so_far ∙ take_all k known all ∙ b.continues.known.notes_are)
