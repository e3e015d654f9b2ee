-- Which streams stand among bytes.
use Rattle.std.specs.Prelude.{◌≡◌, ◌≢◌, ⊤, ℕ, ◌+◌, ◌<◌, ◌≤◌, List, [], ◌∷◌, length, drop, map, Some, Contains, All}
use Rattle.rq_standard.specs.declared.row.TableRow.{TableRow}
use Rattle.rq_cells.specs.declared.head.Head.{Head}
use Rattle.rq_cells.specs.Cells.{Key}
use Rattle.rq_cells.specs.Wanted.{Wish, wanted_at}
use Rattle.rq_cast.specs.declared.survey.Standing.{Standing}
use Rattle.rq_cast.specs.Received.{wish_over, ReceivesSoFar, EndsWith}
use Rattle.rq_cast.specs.Reading.{chunk_length}
use Rattle.rq_cast.specs.Searching.{counted}
use Rattle.rq_cast.specs.Windows.{Settled, bytes_of}

-- At this place a cell with this head is whole, and at none before it one of its stream.
pub record IsFirstOf (w : Wish) (bytes : List ℕ) (i : ℕ) (h : Head) : Type 0 where
  pub found : wanted_at w (drop i bytes) ≡ Some h
  pub first : (j : ℕ) (k : Head) → j < i → wanted_at w (drop j bytes) ≡ Some k → k.stream ≢ h.stream

-- So each head stands at a place from one on, one behind another.
abbrev pub AreFirst : Wish → List ℕ → ℕ → List Head → Type 0
AreFirst w bytes from [] = ⊤
AreFirst w bytes from (h ∷ heads) = (i : ℕ) × (from ≤ i) × IsFirstOf w bytes i h × AreFirst w bytes (i + 1) heads

-- Each stream of which a cell is whole has one head, in the order of their first cells.
pub record ListsStreams (w : Wish) (bytes : List ℕ) (heads : List Head) : Type 0 where
  pub each : AreFirst w bytes 0 heads
  pub all : (i : ℕ) (h : Head) → wanted_at w (drop i bytes) ≡ Some h → Contains (map (λ k. k.stream) heads) h.stream

-- What is settled of the stream, which is how many bytes, how a run ends so, and what it sees.
pub record IsStanding (table : List TableRow) (key : Key) (width : ℕ) (bytes : List ℕ) (s : Standing) : Type 0 where
  pub parts : List Settled
  pub receives : ReceivesSoFar table (wish_over table key s.head.stream []) width chunk_length bytes parts s.seen
  pub length_is : s.bytes ≡ counted (length (bytes_of parts))
  pub ends : EndsWith table (wish_over table key s.head.stream []) width chunk_length bytes parts s.seen receives s.ended

-- each stream of which a cell stands among the bytes, once, and no other
pub record IsSurvey (table : List TableRow) (key : Key) (width : ℕ) (bytes : List ℕ) (standings : List Standing) : Type 0 where
  pub heads : ListsStreams (wish_over table key [] []) bytes (map (λ s. s.head) standings)
  pub each : All (IsStanding table key width bytes) standings
