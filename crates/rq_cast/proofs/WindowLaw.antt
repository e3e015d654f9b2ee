-- No receiver with such a window does better.
use Rattle.std.proofs.Common.{ℕ, ◌<◌, List, [], ◌∷◌, ◌++◌, Bool, true, false, if◌then◌else◌, sym, subst, append_assoc}
use Rattle.std.specs.Prelude.{◌&&◌, ◌==◌}
use Rattle.rq_standard.specs.declared.row.TableRow.{TableRow}
use Rattle.rq_standard.specs.Headline.{IsHonestRun}
use Rattle.rq_standard.proofs.BlockRows.{answerable_only}
use Rattle.rq_cells.specs.declared.cell.Cell.{Cell}
use Rattle.rq_cast.specs.Taken.{received_packets}
use Rattle.rq_cast.specs.Streams.{Parts, AreSenders, index_of, Reached, reached_none, is_in, Determine, Writes, MovesOver}
use Rattle.rq_cast.specs.Windows.{NoWindowDoesBetter}
use Rattle.rq_cast.proofs.Senders.{senders_first, none_undetermined, honest_more}

of_either : (P : List Cell → Type 0) (p q : Bool) (x y : List Cell) → P x → P y → P (if p && q then x else y)
of_either P true true x y one other = one
of_either P true false x y one other = other
of_either P false q x y one other = other

module _ (table : List TableRow) (stream : List ℕ) (s : Parts) (width : ℕ) where
  abbrev IsHonestAt : ℕ → List Cell → Type 0
  IsHonestAt i cells = IsHonestRun table (s.head i).configuration (s.object i) (received_packets (s.head i) cells)

  -- the cells that came while a part was in the window are one sender's, and the first part that isn't settled isn't determined
  pub record IsRight (b : Reached) : Type 0 where
    pub honest : (i : ℕ) → i < s.count → IsHonestAt i (b.came i)
    pub unwritten : b.first < s.count → Determine table s b.first (b.came b.first) → ⊥

  honest_moved : (before : List Cell) (cell : Cell) → AreSenders table stream s (before ++ cell ∷ []) → (old new : Reached) → Writes table s width old cell new
      → ((i : ℕ) → i < s.count → IsHonestAt i (old.came i)) → (i : ℕ) → i < s.count → IsHonestAt i (new.came i)
  honest_moved before cell all old new writes honest i below =
      subst (IsHonestAt i) (sym (writes.came i))
      (of_either (IsHonestAt i) (is_in width old.first i) (index_of cell == i) (old.came i ++ (cell ∷ [])) (old.came i)
      (honest_more table (s.head i) (s.object i) (old.came i) before cell (honest i below) (all.honest i below)) (honest i below))

  right_over : (before cells : List Cell) → AreSenders table stream s (before ++ cells) → (old new : Reached) → MovesOver table s width old cells new → IsRight old
      → IsRight new
  right_over before [] all old new over right = subst IsRight (sym over) right
  right_over before (cell ∷ cells) all old new over right =
      let later : AreSenders table stream s ((before ++ cell ∷ []) ++ cells) =
      subst (AreSenders table stream s) (sym (append_assoc before (cell ∷ []) cells)) all in
      right_over (before ++ cell ∷ []) cells later over.0 new over.2 (record {
        honest = honest_moved before cell (senders_first table stream s (before ++ cell ∷ []) cells later) old over.0 over.1.writes right.honest;
        unwritten = over.1.unwritten;
      })

  right_none : (cells : List Cell) → AreSenders table stream s cells → IsRight reached_none
  right_none cells all = record {
    honest = (senders_first table stream s [] cells all).honest;
    unwritten = λ below determined. none_undetermined table stream s cells all 0 below determined;
  }

pub no_window_does_better : NoWindowDoesBetter
no_window_does_better table stream s width came behind all over below only =
    let right = right_over table stream s width [] came all reached_none behind over (right_none table stream s width came all) in
    let i = behind.first in
    right.unwritten below
    ((answerable_only table (s.head i).configuration (s.object i) (received_packets (s.head i) (behind.came i)) all.checked (all.accepted i below) (right.honest i below)).1 only)
