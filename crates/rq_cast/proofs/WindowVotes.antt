-- What the places of a window have of cells with several heads.
use Rattle.std.proofs.Common.{◌≡◌, ℕ, ◌+◌, ◌<◌, List, [], ◌∷◌, ◌++◌, Bool, true, false, if◌then◌else◌, Option, Some, None, refl, sym, ap, subst, ◌∙◌, arith, length, ltb, leb, append-nil, append_assoc}
use Rattle.std.specs.Prelude.{IfSome, ◌&&◌, ◌==◌}
use Rattle.std.proofs.lemmas.Bool.{and_parts, eq-eqb, eqb-true, ltb-true}
use Rattle.rq_standard.specs.declared.row.TableRow.{TableRow}
use Rattle.rq_cells.specs.declared.cell.Cell.{Cell}
use Rattle.rq_cast.specs.declared.part_receiver.PartReceiver.{PartReceiver}
use Rattle.rq_cast.specs.PartReceiving.{IsAttempt}
use Rattle.rq_cast.specs.Streams.{index_of, is_in, stand, cell_at, cells_of}
use Rattle.rq_cast.specs.Windows.{Settled, names_of, HasVoted, IsLed, ReceivesCell}
use Rattle.rq_cast.proofs.WindowSenders.{in_window}
use Rattle.rq_cast.proofs.LedParts.{unused_votes, refused_none, votes_named, none_leads, no_leader, for_behind}

-- ---- the cells of a part

pub cells_more : (width i : ℕ) (stands : List (Option ℕ)) (there : Option ℕ) (came : List Cell) (cell : Cell) → length stands ≡ length came
    → cells_of width i (stands ++ there ∷ []) (came ++ cell ∷ []) ≡ cells_of width i stands came ++ cell_at width i there cell
cells_more width i [] there [] cell long = append-nil (cell_at width i there cell)
cells_more width i [] there (x ∷ came) cell long = absurd (omega (arith, long))
cells_more width i (t ∷ stands) there [] cell long = absurd (omega (arith, long))
cells_more width i (t ∷ stands) there (x ∷ came) cell long =
    ap (λ cs. cell_at width i t x ++ cs) (cells_more width i stands there came cell (omega (arith, long)))
    ∙ sym (append_assoc (cell_at width i t x) (cells_of width i stands came) (cell_at width i there cell))

one_there : (b : Bool) (cell : Cell) → b ≡ true → (if b then cell ∷ [] else []) ≡ cell ∷ []
one_there b cell is = ap (λ (c : Bool). if c then cell ∷ [] else []) is

pub none_there : (b : Bool) (cell : Cell) → (b ≡ true → ⊥) → (if b then cell ∷ [] else []) ≡ []
none_there true cell out = absurd (out refl)
none_there false cell out = refl

-- where the window stands at a part
module _ (width i first : ℕ) (ended : Bool) (cell : Cell) where
  -- a cell of another part, or of one that isn't in it
  pub cell_out : (ended ≡ false → i < first + width → index_of cell ≡ i → ⊥) → cell_at width i (stand ended first) cell ≡ []
  cell_out out = by ended refl
    where
      by : (b : Bool) → ended ≡ b → cell_at width i (stand ended first) cell ≡ []
      by true e = ap (λ b. cell_at width i (stand b first) cell) e
      by false e =
          ap (λ b. cell_at width i (stand b first) cell) e
          ∙ none_there (is_in width first i && index_of cell == i) cell (λ is.
          let both = and_parts (is_in width first i) (index_of cell == i) is in
          let within = and_parts (leb first i) (ltb i (first + width)) both.0 in
          out e (ltb-true i (first + width) within.1) (eqb-true (index_of cell) i both.1))

pub cell_in : (width first k : ℕ) (ended : Bool) (cell : Cell) → ended ≡ false → k < width → index_of cell ≡ first + k
    → cell_at width (first + k) (stand ended first) cell ≡ cell ∷ []
cell_in width first k ended cell e within here =
    ap (λ b. cell_at width (first + k) (stand b first) cell) e
    ∙ one_there (is_in width first (first + k) && index_of cell == first + k) cell (λ j. in_window width first k within j && eq-eqb (index_of cell) (first + k) here j)

-- ---- one cell more

module _ (table : List TableRow) (names : Option (List (List ℕ))) (cells : List Cell) (cell : Cell) where
  pub voted_received : (old new : Option PartReceiver) → ReceivesCell table old cell new → HasVoted table names cells old
      → HasVoted table names (cells ++ cell ∷ []) new
  voted_received None None refused none = refused_none table names cells cell refused none
  voted_received None (Some new) (unused, is_unused, takes) none =
      takes.votes names cells (unused_votes table names cells cell.head unused is_unused none)
  voted_received (Some old) None receives has = absurd receives
  voted_received (Some old) (Some new) takes has = takes.votes names cells has

-- names are asked for
pub voted_named : (table : List TableRow) (names : List (List ℕ)) (cells : List Cell) (o : Option PartReceiver) → HasVoted table None cells o
    → HasVoted table (Some names) cells o
voted_named table names cells None none = none
voted_named table names cells (Some p) has = votes_named table names cells p has

-- the first place
pub first_voted : (table : List TableRow) (width : ℕ) (came : List Cell) (stands : List (Option ℕ)) (parts : List Settled) (o : Option PartReceiver)
    → HasVoted table (Some (names_of parts)) (cells_of width (length parts + 0) stands came) o
    → HasVoted table (Some (names_of parts)) (cells_of width (length parts) stands came) o
first_voted table width came stands parts o has =
    let same : length parts + 0 ≡ length parts = omega arith in
    subst (λ n. HasVoted table (Some (names_of parts)) (cells_of width n stands came) o) same has

-- ---- a part that waits isn't led

pub unled_by : (table : List TableRow) (width : ℕ) (came : List Cell) (stands : List (Option ℕ)) (parts : List Settled) (o : Option PartReceiver)
    → HasVoted table (Some (names_of parts)) (cells_of width (length parts) stands came) o → IfSome o (λ p. IsAttempt p.choice.head p.attempt)
    → IfSome o (λ p. p.attempt.object ≡ None) → IsLed table width came stands parts → ⊥
unled_by table width came stands parts None none is waits l =
    none_leads table l.head l.object l.honest l.from (for_behind l.head (cells_of width (length parts) stands came) l.from (none l.head l.honest.taken)) l.only
unled_by table width came stands parts (Some p) has is waits l =
    no_leader table p is (Some (names_of parts)) (cells_of width (length parts) stands came) has l.head l.object (l.is_last, l.bytes, l.part) l.honest l.few l.from
    l.within l.leads l.only waits
