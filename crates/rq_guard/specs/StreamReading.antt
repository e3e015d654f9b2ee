-- Whose guard is read: the first wanted cell says it.
use Rattle.std.specs.Prelude.{◌≡◌, ℕ, ◌<◌, ◌≤◌, List, ◌++◌, length, drop, Option, Some, None}
use Rattle.std.specs.Io.KnownBytes.{Consumes}
use Rattle.rq_cells.specs.declared.head.Head.{Head}
use Rattle.rq_cells.specs.Wanted.{Wish, wanted_at, NoneBefore, IsFirstWanted}
use Rattle.rq_cells.specs.Search.{Searching}
use Rattle.rq_guard.specs.Reading.{IsRead}

-- In what is read the first wanted cell has this head, or none is whole in all of it.
abbrev pub FindsFirst : Wish → Option (List ℕ) → Option (List ℕ) → Option Head → Type 0
FindsFirst w before after (Some h) = (past : List ℕ) × (at : ℕ) × Consumes before after past × IsFirstWanted w past at h
FindsFirst w before after None = (past : List ℕ) × Consumes before after past × IsRead past after × NoneBefore w past (length past)

-- So far none is. Bytes are kept from a place on, before which none begins, whatever comes behind.
pub record IsLooking (w : Wish) (before after : Option (List ℕ)) (reads : ℕ) (s : Searching) : Type 0 where
  pub past : List ℕ
  pub read : Consumes before after past
  pub many : reads ≤ length past
  pub wish : s.wish ≡ w
  pub from : ℕ
  pub within : from ≤ length past
  pub kept : s.bytes ≡ drop from past
  pub never : (rest : List ℕ) (i : ℕ) → i < from → wanted_at w (drop i past ++ rest) ≡ None
  pub none : NoneBefore w past (length past)
