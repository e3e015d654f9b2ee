-- One sender's cells of a stream, one by one.
use Rattle.std.proofs.Common.{◌≡◌, ℕ, ◌<◌, List, [], ◌∷◌, ◌++◌, Bool, true, false, if◌then◌else◌, refl, sym, ap, subst, ◌∙◌, arith, length, map, get_or, suc, ◌%◌, take_at, Ok}
use Rattle.std.specs.Prelude.{All, ◌≢◌, ◌&&◌, ◌==◌}
use Rattle.std.specs.List.{AllByRecursion}
use Rattle.std.proofs.lemmas.Bool.{true≢false, eqb-true, eq-eqb, ne_eqb, le-ltb}
use Rattle.std.proofs.lemmas.List.{length-map}
use Rattle.std.proofs.lemmas.List.Elements.{All-take, All-contains, Contains-push}
use Rattle.rq_standard.specs.declared.row.TableRow.{TableRow}
use Rattle.rq_standard.specs.Configuration.{Configuration, IsAccepted, largest_block}
use Rattle.rq_standard.specs.Packet.{Packet}
use Rattle.rq_standard.specs.Headline.{IsPacketOf, IsHonestRun, IsAnswerable, IsOnlyObject}
use Rattle.rq_standard.proofs.BlockRows.{answerable_only}
use Rattle.rq_base.specs.RefusedInput.{checked_configuration}
use Rattle.rq_cells.specs.declared.head.Head.{Head}
use Rattle.rq_cells.specs.declared.cell.Cell.{Cell}
use Rattle.rq_cast.specs.Taken.{received_packets}
use Rattle.rq_cast.specs.Streams.{Parts, IsCellOf, AreSenders, index_of, Reached, is_in, came_with, Moves, MovesOver}
use Rattle.rq_cast.proofs.TakenPackets.{received_both, first_run}

-- coders take a configuration that is accepted
pub checked_by : (greatest : ℕ) (c : Configuration) → IsAccepted greatest c → checked_configuration greatest c ≡ Ok tt
checked_by greatest c a =
    let size = ne_eqb c.symbol_size 0 (λ zero. omega (arith, a.size_positive, zero)) in
    let alignment = ne_eqb c.alignment 0 (λ zero. omega (arith, a.alignment_positive, zero)) in
    let aligned = eq-eqb (c.symbol_size % c.alignment) 0 a.aligned in
    let blocks = ne_eqb c.source_blocks 0 (λ zero. omega (arith, a.blocks_positive, zero)) in
    let room = le-ltb greatest (largest_block c) a.in_table in
    rw (size, alignment, aligned, blocks, room) refl

-- each object of a length makes no packets
pub none_only : (table : List TableRow) (c : Configuration) (object : List ℕ) → object ≢ [] → IsHonestRun table c object [] → IsOnlyObject table c [] object → ⊥
none_only table c object some run only =
    not_longer object some (only (map suc object) (record { long = length-map object suc ∙ run.long; nonsingular = run.nonsingular; honest = tt }))
  where
    not_longer : (object : List ℕ) → object ≢ [] → map suc object ≡ object → ⊥
    not_longer [] some same = some refl
    not_longer (x ∷ xs) some same = absurd (omega (arith, ap (λ l. get_or l 0 0) same))

module _ (table : List TableRow) (stream : List ℕ) (s : Parts) where
  -- the first ones are one sender's too
  pub senders_first : (came more : List Cell) → AreSenders table stream s (came ++ more) → AreSenders table stream s came
  senders_first came more all = record {
    checked = all.checked;
    are = all.are;
    accepted = all.accepted;
    heads = subst (All (IsCellOf s)) (take_at came more (length came) refl) (All-take (IsCellOf s) (length came) (came ++ more) all.heads);
    honest = λ i below. first_run (s.head i) table (s.object i) came more (all.honest i below);
  }

  -- the last one is of a part
  pub last_cell : (came : List Cell) (cell : Cell) → AreSenders table stream s (came ++ cell ∷ []) → IsCellOf s cell
  last_cell came cell all = All-contains (IsCellOf s) (came ++ cell ∷ []) cell all.heads (Contains-push came cell)

  -- No packets determine no part: each object as long makes them.
  module _ (came : List Cell) (all : AreSenders table stream s came) (i : ℕ) (below : i < s.count) where
    abbrev c : Configuration
    c = (s.head i).configuration

    pub none_undetermined : IsAnswerable table c [] → ⊥
    none_undetermined answerable =
        let run : IsHonestRun table c (s.object i) [] = first_run (s.head i) table (s.object i) [] came (all.honest i below) in
        none_only table c (s.object i) (all.are.full i below) run
        ((answerable_only table c (s.object i) [] all.checked (all.accepted i below) run).0 answerable)

-- ---- packets of an object

pub all_back : (P : Packet → Type 0) (front rest : List Packet) → AllByRecursion P (front ++ rest) → AllByRecursion P rest
all_back P [] rest h = h
all_back P (x ∷ front) rest h = all_back P front rest h.1

pub all_both : (P : Packet → Type 0) (front rest : List Packet) → AllByRecursion P front → AllByRecursion P rest → AllByRecursion P (front ++ rest)
all_both P [] rest f r = r
all_both P (x ∷ front) rest f r = (f.0, all_both P front rest f.1 r)

-- some cells' and a further one's
pub honest_more : (table : List TableRow) (h : Head) (object : List ℕ) (some came : List Cell) (cell : Cell)
    → IsHonestRun table h.configuration object (received_packets h some)
    → IsHonestRun table h.configuration object (received_packets h (came ++ cell ∷ []))
    → IsHonestRun table h.configuration object (received_packets h (some ++ cell ∷ []))
honest_more table h object some came cell run all =
    let P = IsPacketOf table h.configuration object in
    let last : AllByRecursion P (received_packets h (cell ∷ [])) = all_back P (received_packets h came) (received_packets h (cell ∷ []))
    (subst (AllByRecursion P) (received_both h came (cell ∷ [])) all.honest) in
    record {
      long = run.long;
      nonsingular = run.nonsingular;
      honest = subst (AllByRecursion P) (sym (received_both h some (cell ∷ []))) (all_both P (received_packets h some) (received_packets h (cell ∷ [])) run.honest last);
    }

-- ---- moves of the window

module _ (table : List TableRow) (s : Parts) (width : ℕ) where
  unfoldable pub moves_more : (came : List Cell) (old mid new : Reached) (cell : Cell) → MovesOver table s width old came mid → Moves table s width mid cell new
      → MovesOver table s width old (came ++ cell ∷ []) new
  moves_more [] old mid new cell over moves = (new, subst (λ b. Moves table s width b cell new) over moves, refl)
  moves_more (x ∷ came) old mid new cell over moves = (over.0, over.1, moves_more came over.0 mid new cell over.2 moves)

-- A cell of a part that isn't in the window is none that came while it was there.
passed : {X : Type 0} (p q : Bool) (x y : X) → (q ≡ true → p ≡ false) → (if p && q then x else y) ≡ y
passed true true x y out = absurd (true≢false (out refl))
passed true false x y out = refl
passed false q x y out = refl

pub came_passed : (width : ℕ) (b : Reached) (cell : Cell) → is_in width b.first (index_of cell) ≡ false → (i : ℕ) → came_with width b cell i ≡ b.came i
came_passed width b cell out i =
    passed (is_in width b.first i) (index_of cell == i) (b.came i ++ (cell ∷ [])) (b.came i)
    (λ same. subst (λ n. is_in width b.first n ≡ false) (eqb-true (index_of cell) i same) out)
