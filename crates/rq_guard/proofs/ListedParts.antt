-- Lists one behind another, and the passes that read them.
use Rattle.std.proofs.Common.{◌≡◌, ◌⊎◌, ℕ, ◌+◌, ◌-◌, ◌^◌, ◌<◌, ◌≤◌, List, [], ◌∷◌, ◌++◌, length, get_or, Option, sym, ap, subst, append-nil, length-append, arith, inl, inr}
use Rattle.std.specs.Io.KnownBytes.{Consumes, IsAtEnd}
use Rattle.std.proofs.KnownBytes.{Consumes-trans}
use Rattle.std.proofs.lemmas.Bool.{cases_lt}
use Rattle.std.proofs.lemmas.List.{get_or_append_left, get_or_push}
use Rattle.rq_standard.specs.declared.row.TableRow.{TableRow}
use Rattle.rq_cells.specs.declared.cell.FoundCell.{FoundCell}
use Rattle.rq_cells.specs.Cells.{Key}
use Rattle.rq_guard.specs.declared.list.DigestList.{DigestList}
use Rattle.rq_guard.specs.declared.reading.CellPass.{CellPass}
use Rattle.rq_guard.specs.declared.reading_lists.ListReceivers.{ListReceivers}
use Rattle.rq_guard.specs.Reading.{ReadsPiece, cells_of}
use Rattle.rq_guard.specs.ListReading.{HasLists, list_source, TakesListCells, ReceivesLists, IsReceivingLists}
use Rattle.rq_guard.proofs.TakenCells.{all_found}

-- ---- one more

pub each_push : (P : ℕ → DigestList → Type 0) (xs ys : List DigestList) (x : DigestList) → ys ≡ xs ++ x ∷ [] → ((i : ℕ) (d : DigestList) → i < length xs → P i (get_or xs i d))
    → P (length xs) x → (i : ℕ) (d : DigestList) → i < length ys → P i (get_or ys i d)
each_push P xs ys x pushed each here i d below = elim (cases_lt i (length xs)) [
  | inl lt ↦ subst (λ zs. P i (get_or zs i d)) (sym pushed) (subst (P i) (sym (get_or_append_left xs (x ∷ []) d i lt)) (each i d lt))
  | inr past ↦
      let same : length xs ≡ i = omega (arith, below, past, ap length pushed, length-append xs (x ∷ [])) in
      subst (λ zs. P i (get_or zs i d)) (sym pushed) (subst (P i) (sym (get_or_push xs x d i same)) (subst (λ n. P n x) same here))
]

-- ---- a pass

module _ (table : List TableRow) (key : Key) (stream : List ℕ) (before mid after : Option (List ℕ)) (reads : ℕ) (pass : CellPass) (r : ListReceivers)
    (t : IsReceivingLists table key stream before mid reads pass r) where
  pub receiving_ends : Consumes mid after [] → IsAtEnd after ⊎ (2 ^ 64 - 1 ≤ reads) → ReceivesLists table key stream before after r
  receiving_ends rest ended = record {
    past = t.past;
    read = subst (Consumes before after) (append-nil t.past) (Consumes-trans before mid after t.past [] t.read rest);
    all = elim ended [ inl at ↦ inl at | inr many ↦ inr (omega (arith, many, t.many)) ];
    has = subst (λ cells. HasLists table cells r) (sym (all_found (list_source key stream) t.past t.came pass t.passed)) t.has;
  }

  pub receiving_more : (found : List FoundCell) (next : CellPass) (new : ListReceivers) → ReadsPiece mid after pass found next → TakesListCells table r (cells_of found) new
      → IsReceivingLists table key stream before after (reads + 1) next new
  receiving_more found next new piece takes = record {
    past = t.past ++ piece.piece;
    came = t.came ++ cells_of found;
    read = Consumes-trans before mid after t.past piece.piece t.read piece.read;
    many = omega (arith, length-append t.past piece.piece, piece.some, t.many);
    passed = piece.passes (list_source key stream) t.past t.came t.passed;
    has = takes t.came t.has;
  }
