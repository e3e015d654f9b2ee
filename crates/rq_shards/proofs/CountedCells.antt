-- Cells that are counted as they are read.
use Rattle.std.proofs.Common.{◌≡◌, ◌⊎◌, ℕ, ◌+◌, ◌-◌, ◌^◌, ◌≤◌, List, [], ◌++◌, length, Option, sym, ap, subst, ◌∙◌, append-nil, length-append, arith, inl, inr}
use Rattle.std.specs.Prelude.{min}
use Rattle.std.proofs.lemmas.List.{length-map}
use Rattle.std.specs.Io.KnownBytes.{Consumes, IsAtEnd}
use Rattle.std.proofs.KnownBytes.{Consumes-nil, Consumes-trans}
use Rattle.rq_cells.specs.declared.cell.Cell.{Cell}
use Rattle.rq_cells.specs.declared.cell.FoundCell.{FoundCell}
use Rattle.rq_cells.specs.Found.{Source}
use Rattle.rq_cast.specs.Searching.{counted}
use Rattle.rq_guard.specs.declared.reading.CellPass.{CellPass}
use Rattle.rq_guard.specs.Reading.{HasPassed, ReadsPiece, cells_of}
use Rattle.rq_guard.proofs.TakenCells.{all_found}
use Rattle.rq_shards.specs.Counting.{CountsCells, HasCounted}

pub has_counted_none : (s : Source) (before : Option (List ℕ)) (pass : CellPass) → HasPassed s [] [] pass → HasCounted s before before 0 pass 0
has_counted_none s before pass passed = record {
  past = [];
  came = [];
  read = Consumes-nil before;
  many = omega arith;
  passed = passed;
  count = omega arith;
}

module _ (s : Source) (before mid after : Option (List ℕ)) (reads : ℕ) (pass : CellPass) (cells : ℕ) (h : HasCounted s before mid reads pass cells) where
  -- the end
  pub counts_cells : Consumes mid after [] → IsAtEnd after ⊎ (2 ^ 64 - 1 ≤ reads) → CountsCells s before after cells
  counts_cells rest ended = record {
    past = h.past;
    read = subst (Consumes before after) (append-nil h.past) (Consumes-trans before mid after h.past [] h.read rest);
    whole = elim ended [ inl at ↦ inl at | inr many ↦ inr (omega (arith, many, h.many)) ];
    count = h.count ∙ ap (λ (xs : List Cell). counted (length xs)) (sym (all_found s h.past h.came pass h.passed));
  }

  -- a piece more
  pub has_counted_more : (found : List FoundCell) (next : CellPass) (sum : ℕ) → ReadsPiece mid after pass found next → sum ≡ min (cells + length found) (2 ^ 64 - 1)
      → HasCounted s before after (reads + 1) next sum
  has_counted_more found next sum piece sum_is =
      let cell : FoundCell → Cell = λ f. f.cell in
      record {
        past = h.past ++ piece.piece;
        came = h.came ++ cells_of found;
        read = Consumes-trans before mid after h.past piece.piece h.read piece.read;
        many = omega (arith, length-append h.past piece.piece, piece.some, h.many);
        passed = piece.passes s h.past h.came h.passed;
        count = omega (arith, sum_is, h.count, length-append h.came (cells_of found), length-map found cell);
      }
