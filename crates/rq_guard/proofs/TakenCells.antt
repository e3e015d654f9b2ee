-- The cells of a part that are taken as they are read.
use Rattle.std.proofs.Common.{◌≡◌, ◌⊎◌, ℕ, ◌+◌, ◌-◌, ◌^◌, ◌≤◌, List, [], ◌++◌, length, Option, Bool, true, false, sym, ap, subst, ◌∙◌, append_assoc, append-nil, length-append, arith, inl, inr, nat_eq, vec_len, Vec, Global}
use Rattle.std.proofs.lemmas.Bool.{true≢false, eqb-true}
use Rattle.std.proofs.lemmas.List.{nil_from_length}
use Rattle.std.specs.List.{filter}
use Rattle.std.specs.Io.KnownBytes.{Consumes, IsAtEnd}
use Rattle.std.proofs.KnownBytes.{Consumes-nil, Consumes-trans}
use Rattle.std.proofs.lemmas.List.Elements.{filter-append}
use Rattle.rq_standard.specs.declared.row.TableRow.{TableRow}
use Rattle.rq_cells.specs.declared.head.Head.{Head}
use Rattle.rq_cells.specs.declared.cell.Cell.{Cell}
use Rattle.rq_cells.specs.declared.cell.FoundCell.{FoundCell}
use Rattle.rq_cells.specs.Cells.{Key}
use Rattle.rq_cells.specs.Found.{Source, source_of, cells_in}
use Rattle.rq_cast.specs.Taken.{has_head}
use Rattle.rq_guard.specs.declared.mending.Mending.{Mending}
use Rattle.rq_guard.specs.declared.reading.CellPass.{CellPass}
use Rattle.rq_guard.specs.Mending.{HasMended, TakesMore, has_mended_last}
use Rattle.rq_guard.specs.Lists.{Listed}
use Rattle.rq_guard.specs.Damage.{whole_cells, object_there}
use Rattle.rq_guard.specs.Reading.{HasPassed, ReadsPiece, cells_of, cells_with, IsTakingFrom, TakesFrom, ReadsWhole, MendsPart}

-- two lists of cells, the first of which makes nothing ready
pub takes_both : (table : List TableRow) (old mid new : Mending) (first second : List Cell) (bytes : List ℕ) → TakesMore table old first [] mid
    → TakesMore table mid second bytes new → TakesMore table old (first ++ second) bytes new
takes_both table old mid new first second bytes before behind = λ stream came given has.
    subst (λ cells. HasMended table stream cells (given ++ bytes) new) (append_assoc came first second)
    (subst (λ xs. HasMended table stream ((came ++ first) ++ second) (xs ++ bytes) new) (append-nil given)
    (behind stream (came ++ first) (given ++ []) (before stream came given has)))

-- all that stand in what came, where no cell is whole in what is kept
pub all_found : (s : Source) (past : List ℕ) (came : List Cell) (p : CellPass) → HasPassed s past came p → cells_in s past ≡ came
all_found s past came p has =
    ap (cells_in s) (sym (append-nil past)) ∙ has.found [] ∙ ap (λ xs. came ++ cells_in s xs) (append-nil p.bytes.items) ∙ ap (λ xs. came ++ xs) has.none
    ∙ append-nil came

module _ (table : List TableRow) (key : Key) (head : Head) (before mid after : Option (List ℕ)) (reads : ℕ) (pass : CellPass) (old now : Mending)
    (t : IsTakingFrom table key head before mid reads pass old now) where
  abbrev p : Cell → Bool
  p = has_head head

  -- the end
  pub taking_ends : (bytes : List ℕ) → bytes ≡ [] → Consumes mid after [] → IsAtEnd after ⊎ (2 ^ 64 - 1 ≤ reads) → TakesFrom table key head before after old bytes now
  taking_ends bytes none rest ended = record {
    past = t.past;
    read = subst (Consumes before after) (append-nil t.past) (Consumes-trans before mid after t.past [] t.read rest);
    takes = subst (λ xs. TakesMore table old (cells_with key head t.past) xs now) (sym none)
        (subst (λ cells. TakesMore table old (filter p cells) [] now) (sym (all_found (source_of key head) t.past t.came pass t.passed)) t.takes);
    all = λ _ _. elim ended [ inl at ↦ inl at | inr many ↦ inr (omega (arith, many, t.many)) ];
  }

  -- a piece more
  module _ (found : List FoundCell) (kept : List Cell) (next : CellPass) (bytes : List ℕ) (new : Mending) (reads_on : ReadsPiece mid after pass found next)
      (kept_are : kept ≡ filter p (cells_of found)) (takes : TakesMore table now kept bytes new) where
    read : Consumes before after (t.past ++ reads_on.piece)
    read = Consumes-trans before mid after t.past reads_on.piece t.read reads_on.read

    passed : HasPassed (source_of key head) (t.past ++ reads_on.piece) (t.came ++ cells_of found) next
    passed = reads_on.passes (source_of key head) t.past t.came t.passed

    taken : TakesMore table old (filter p (t.came ++ cells_of found)) bytes new
    taken =
        subst (λ cells. TakesMore table old cells bytes new) (ap (λ xs. filter p t.came ++ xs) kept_are ∙ sym (filter-append p t.came (cells_of found)))
        (takes_both table old now new (filter p t.came) kept bytes t.takes takes)

    pub taking_stops : (bytes ≡ [] → has_mended_last new ≡ false → ⊥) → TakesFrom table key head before after old bytes new
    taking_stops ready = record {
      past = t.past ++ reads_on.piece;
      read = read;
      takes = subst (λ cells. TakesMore table old (filter p cells) bytes new) (sym (all_found (source_of key head) _ _ next passed)) taken;
      all = λ none open_still. absurd (ready none open_still);
    }

    pub taking_more : bytes ≡ [] → IsTakingFrom table key head before after (reads + 1) next old new
    taking_more none = record {
      past = t.past ++ reads_on.piece;
      came = t.came ++ cells_of found;
      read = read;
      many = omega (arith, length-append t.past reads_on.piece, reads_on.some, t.many);
      passed = passed;
      takes = subst (λ xs. TakesMore table old (filter p (t.came ++ cells_of found)) xs new) none taken;
    }

-- ---- a part

-- whether bytes are ready
pub ready_by : (v : Vec ℕ Global) (b : Bool) → b ≡ nat_eq (vec_len v) 0 → b ≡ false → v.items ≡ [] → ⊥
ready_by v b test some none = true≢false (sym (ap (λ n. nat_eq n 0) (v.ok.0 ∙ ap length none)) ∙ sym test ∙ some)

pub none_by : (v : Vec ℕ Global) (b : Bool) → b ≡ nat_eq (vec_len v) 0 → b ≡ true → v.items ≡ []
none_by v b test none = nil_from_length v.items (sym v.ok.0 ∙ eqb-true (vec_len v) 0 (sym test ∙ none))

module _ (table : List TableRow) (key : Key) (names : List (List ℕ)) (l : Listed) (file file' : Option (List ℕ)) (old : Mending) (whole : List Cell)
    (w : ReadsWhole names l file file' whole) where
  -- by what is whole
  pub mends_by_whole : (guard : Option (List ℕ)) (bytes : List ℕ) (new : Mending) → TakesMore table old whole bytes new
      → (bytes ≡ [] → has_mended_last new ≡ false → ⊥) → MendsPart table key names l file file' guard guard old bytes new
  mends_by_whole guard bytes new takes ready = record {
    there = w.bytes;
    read = w.read;
    past = [];
    passed = Consumes-nil guard;
    takes = subst (λ cells. TakesMore table old cells bytes new) (w.cells_are ∙ sym (append-nil (whole_cells l (object_there l.head names w.bytes)))) takes;
    all = λ none open_still. absurd (ready none open_still);
  }

  -- and by the guard
  pub mends_by_both : (guard guard' : Option (List ℕ)) (bytes : List ℕ) (mid new : Mending) → TakesMore table old whole [] mid
      → TakesFrom table key l.head guard guard' mid bytes new → MendsPart table key names l file file' guard guard' old bytes new
  mends_by_both guard guard' bytes mid new takes from = record {
    there = w.bytes;
    read = w.read;
    past = from.past;
    passed = from.read;
    takes = subst (λ cells. TakesMore table old (cells ++ cells_with key l.head from.past) bytes new) w.cells_are
        (takes_both table old mid new whole (cells_with key l.head from.past) bytes takes from.takes);
    all = from.all;
  }
