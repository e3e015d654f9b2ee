-- A search for the first wanted cell, also among bytes that come in pieces.
use Rattle.std.specs.Prelude.{◌≡◌, ℕ, zero, suc, ◌+◌, ◌-◌, ◌^◌, ◌<◌, ◌≤◌, List, [], ◌∷◌, ◌++◌, length, drop, Option, Some, None, option_map, unwrap_or, IfSome, false, true}
use Rattle.std.specs.List.{cons_option}
use Rattle.std.specs.Option.{option_or}
use Rattle.rq_cells.specs.declared.head.Head.{Head}
use Rattle.rq_cells.specs.declared.wanted.Note.{Note}
use Rattle.rq_cells.specs.declared.wanted.Note.TheVariants as N
use Rattle.rq_cells.specs.declared.wanted.Heads.{Heads}
use Rattle.rq_cells.specs.declared.wanted.Search.{Search}
use Rattle.rq_cells.specs.declared.wanted.Search.TheVariants as S
use Rattle.rq_cells.specs.declared.search.Noted.{Noted}
use Rattle.rq_cells.specs.declared.search.Walk.{Walk}
use Rattle.rq_cells.specs.declared.search.Walked.{Walked}
use Rattle.rq_cells.specs.Cells.{head_size, greatest_cell_size}
use Rattle.rq_cells.specs.Wanted.{Wish, wanted_at, is_undecided, note_at, AreHeads, NoneBefore, IsFirstWanted, IsSearch}

-- ---- what a caller sees

-- what is wanted, and the bytes among which it may still begin
pub record Searching : Type 0 where
  pub wish : Wish
  pub bytes : List ℕ

-- a search among no bytes
abbrev pub new_search : Wish → Searching
new_search w = record { wish = w; bytes = [] }

-- before which no wanted cell begins, by what a search finds
abbrev pub place_of : Search → ℕ
place_of (S.Found at h before) = at
place_of (S.NotYet from before all) = from

-- what is left when a search took a piece and found this
abbrev pub left_behind : Searching → List ℕ → Search → Searching
left_behind s piece search = record { wish = s.wish; bytes = drop (place_of search) (s.bytes ++ piece) }

-- ---- what is known of places

-- what is known of the heads at the first n places
abbrev pub noted_before : Wish → List ℕ → ℕ → List Noted
noted_before w bytes zero = []
noted_before w bytes (suc n) = noted_before w bytes n ++ cons_option (option_map (λ k. record { at = n; note = k }) (note_at w (drop n bytes))) []

-- The first places were looked at: bytes enough for a head stand there, no wanted cell is whole, and this is known of the heads.
pub record IsLookedAt (w : Wish) (bytes : List ℕ) (looked : ℕ) (notes : List Noted) : Type 0 where
  pub enough : (i : ℕ) → i < looked → head_size ≤ length (drop i bytes)
  pub none : NoneBefore w bytes looked
  pub notes_are : notes ≡ noted_before w bytes looked

-- So it was when the bytes were fewer.
pub record Continues (w : Wish) (bytes : List ℕ) (looked : ℕ) (notes : List Noted) : Type 0 where
  pub front : List ℕ
  pub rest : List ℕ
  pub is : bytes ≡ front ++ rest
  pub known : IsLookedAt w front looked notes

-- ---- a walk over the places

-- the first place at which a wanted cell may still become whole, or the next one
abbrev pub open_place : Option (ℕ × Heads) → ℕ → ℕ
open_place pending at = unwrap_or (option_map (λ p. p.0) pending) at

-- The first i places were looked at: these heads stand there, and this is the first at which a wanted cell may still end, with those before it.
pub record SearchedTo (w : Wish) (bytes : List ℕ) (i : ℕ) (heads : Heads) (pending : Option (ℕ × Heads)) : Type 0 where
  pub none : NoneBefore w bytes i
  pub all : AreHeads w bytes i heads
  pub few : (heads.damaged ≤ i) × (heads.others ≤ i)
  pub never : (rest : List ℕ) (j : ℕ) → j < open_place pending i → wanted_at w (drop j bytes ++ rest) ≡ None
  pub before : (rest : List ℕ) → AreHeads w (bytes ++ rest) (unwrap_or pending (i, heads)).0 (unwrap_or pending (i, heads)).1
  pub opened : IfSome pending (λ p. (p.0 < i) × (length bytes - p.0 < greatest_cell_size) × (is_undecided w (drop p.0 bytes) ≡ true))
  pub settled : (j : ℕ) → j < open_place pending i → is_undecided w (drop j bytes) ≡ false

-- So it is, bytes enough for a head stand at these places, and this is known of the heads from the open one on.
pub record HasWalkedTo (w : Wish) (bytes : List ℕ) (at : ℕ) (heads : Heads) (pending : Option (ℕ × Heads)) (notes : List Noted) : Type 0 where
  pub enough : (i : ℕ) → i < at → head_size ≤ length (drop i bytes)
  pub searched : SearchedTo w bytes at heads pending
  pub notes_are : notes ≡ noted_before w (drop (open_place pending at) bytes) (at - open_place pending at)

abbrev pub HasWalked : Wish → List ℕ → Walk → Type 0
HasWalked w bytes walk = HasWalkedTo w bytes walk.at walk.heads walk.pending walk.notes.items

abbrev pub no_heads : Heads
no_heads = record { damaged = 0; others = 0 }

-- no place was looked at
pub record IsFresh (walk : Walk) : Type 0 where
  pub at : walk.at ≡ 0
  pub heads : walk.heads ≡ no_heads
  pub pending : walk.pending ≡ None
  pub notes : walk.notes.items ≡ []

-- counts and places fit
pub record CanNote (walk : Walk) : Type 0 where
  pub at : walk.at < 2 ^ 63
  pub damaged : walk.heads.damaged ≤ walk.at
  pub others : walk.heads.others ≤ walk.at
  pub behind : IfSome walk.pending (λ p. p.0 ≤ walk.at)

-- one more head of which this is known: in counts, among open places, and among notes
abbrev pub heads_with : Heads → Note → Heads
heads_with heads (N.Begun h) = heads
heads_with heads N.Damaged = record { damaged = heads.damaged + 1; others = heads.others }
heads_with heads N.Other = record { damaged = heads.damaged; others = heads.others + 1 }

abbrev pub pending_with : Option (ℕ × Heads) → ℕ → Heads → Note → Option (ℕ × Heads)
pending_with pending at heads (N.Begun h) = option_or pending (Some (at, heads))
pending_with pending at heads N.Damaged = pending
pending_with pending at heads N.Other = pending

abbrev pub notes_with : Option (ℕ × Heads) → ℕ → List Noted → Note → List Noted
notes_with None at notes note = notes
notes_with (Some p) at notes note = notes ++ (record { at = at - p.0; note = note } ∷ [])

-- a walk goes on behind a head
pub record Notes (old : Walk) (note : Note) (new : Walk) : Type 0 where
  pub at : new.at ≡ old.at + 1
  pub heads : new.heads ≡ heads_with old.heads note
  pub pending : new.pending ≡ pending_with old.pending old.at old.heads note
  pub notes : new.notes.items ≡ notes_with new.pending old.at old.notes.items note

-- the walk has come to the first wanted cell, which has this head
pub record IsAtFirst (w : Wish) (bytes : List ℕ) (walk : Walk) (h : Head) : Type 0 where
  pub first : IsFirstWanted w bytes walk.at h
  pub heads : AreHeads w bytes walk.at walk.heads

-- there, or further on
abbrev pub Finds : Wish → List ℕ → Walk → Option Head → Type 0
Finds w bytes walk (Some h) = IsAtFirst w bytes walk h
Finds w bytes walk None = HasWalked w bytes walk

-- there, or where too few bytes stand for a head
abbrev pub FindsAll : Wish → List ℕ → Walk → Option Head → Type 0
FindsAll w bytes walk (Some h) = IsAtFirst w bytes walk h
FindsAll w bytes walk None = HasWalked w bytes walk × (walk.at ≤ length bytes) × (length bytes - walk.at < head_size)

-- what is left behind a walk to a wanted cell with this head
pub record IsFound (walk : Walk) (h : Head) (walked : Walked) : Type 0 where
  pub search : walked.search ≡ S.Found walk.at h walk.heads
  pub looked : walked.looked ≡ 0
  pub notes : walked.notes.items ≡ []

-- and behind one over all places
pub record IsEnd (walk : Walk) (walked : Walked) : Type 0 where
  pub search : walked.search ≡ S.NotYet (unwrap_or walk.pending (walk.at, walk.heads)).0 (unwrap_or walk.pending (walk.at, walk.heads)).1 walk.heads
  pub looked : walked.looked ≡ walk.at - open_place walk.pending walk.at
  pub notes : walked.notes.items ≡ walk.notes.items

-- what a walk over all places found, and what is known of the bytes that are left
pub record IsWalked (w : Wish) (bytes : List ℕ) (walked : Walked) : Type 0 where
  pub search : IsSearch w bytes walked.search
  pub within : place_of walked.search ≤ length bytes
  pub left : IsLookedAt w (drop (place_of walked.search) bytes) walked.looked walked.notes.items
