-- The cells that are whole in what came.
use Rattle.std.proofs.Common.{◌≡◌, ℕ, ◌+◌, ◌^◌, ◌<◌, List, [], ◌++◌, length, drop, sym, ap, subst, ◌∙◌, arith, append_assoc, length-append, map, Vec, Global}
use Rattle.std.proofs.lemmas.List.{length-map}
use Rattle.rq_standard.specs.declared.row.TableRow.{TableRow}
use Rattle.rq_cells.specs.declared.cell.Cell.{Cell}
use Rattle.rq_cells.specs.declared.cell.FoundCell.{FoundCell}
use Rattle.rq_cells.specs.declared.scanner.Scan.{Scan}
use Rattle.rq_cells.specs.Cells.{Key}
use Rattle.rq_cells.specs.Found.{Source, source_of, cells_in, damaged_in, others_in}
use Rattle.rq_cells.specs.Scans.{Settles}
use Rattle.rq_cast.specs.declared.stream_receiver.Found.{Found}
use Rattle.rq_cast.specs.declared.stream_receiver.StreamReceiver.{StreamReceiver}
use Rattle.rq_cast.specs.declared.window.Window.{Window}
use Rattle.rq_cast.specs.declared.seen.Seen.{Seen}
use Rattle.rq_cast.specs.Searching.{counted}
use Rattle.rq_cast.specs.Windows.{HasTaken, TakesCells, HandsOut}
use Rattle.rq_cast.specs.Receiving.{HasRead, HasReadAll}

-- the cells that a scan found
abbrev pub scanned : Scan → List Cell
scanned scan = map (λ f. f.cell) scan.cells.items

-- With what a scan found of the bytes that it has, it has seen more.
pub record SeesScan (old : Seen) (scan : Scan) (new : Seen) : Type 0 where
  pub cells : new.cells ≡ counted (old.cells + length scan.cells.items)
  pub damaged : new.damaged ≡ counted (old.damaged + scan.damaged)
  pub others : new.others ≡ counted (old.others + scan.others)

module _ (table : List TableRow) (key : Key) (width : ℕ) (found : Found) where
  abbrev s : Source
  s = source_of key found.head

  -- ---- before any cell is taken

  pub read_none : (r : StreamReceiver) → r.scanner ≡ s → r.bytes.items ≡ found.bytes.items → HasTaken table found.head.stream width [] [] r.window
      → r.seen ≡ found.seen → found.seen.cells < 2 ^ 64 → found.seen.damaged < 2 ^ 64 → found.seen.others < 2 ^ 64
      → HasRead table key width found found.bytes.items [] r
  read_none r scanner bytes taken seen few_cells few_damaged few_others = record {
    came = [];
    seen = record {
      scans = scanner;
      cells_found = λ rest. ap (λ xs. cells_in s (xs ++ rest)) (sym bytes);
      cells = let same = ap (λ (x : Seen). x.cells) seen in omega (arith, same, few_cells);
      damaged_before = 0;
      damaged_found = λ rest. let same = ap (λ xs. damaged_in s (xs ++ rest)) bytes in omega (arith, same);
      damaged = let same = ap (λ (x : Seen). x.damaged) seen in omega (arith, same, few_damaged);
      others_before = 0;
      others_found = λ rest. let same = ap (λ xs. others_in s (xs ++ rest)) bytes in omega (arith, same);
      others = let same = ap (λ (x : Seen). x.others) seen in omega (arith, same, few_others);
    };
    taken = taken;
  }

  -- ---- the cells that are whole are taken

  module _ (all given : List ℕ) (old new : StreamReceiver) (has : HasRead table key width found all given old) (scan : Scan)
      (settles : Settles old.scanner old.bytes.items scan) (scanner : new.scanner ≡ old.scanner) (kept : new.bytes.items ≡ drop scan.places old.bytes.items)
      (takes : TakesCells table old.window (scanned scan) new.window) (sees : SeesScan old.seen scan new.seen) where
    settles_here : Settles s old.bytes.items scan
    settles_here = subst (λ (k : Source). Settles k old.bytes.items scan) has.seen.scans settles

    abbrev came : List Cell
    came = has.came ++ scanned scan

    cells_found : (rest : List ℕ) → cells_in s (all ++ rest) ≡ came ++ cells_in s (new.bytes.items ++ rest)
    cells_found rest =
        has.seen.cells_found rest ∙ ap (λ cs. has.came ++ cs) (settles_here.cells rest)
        ∙ ap (λ xs. has.came ++ (scanned scan ++ cells_in s (xs ++ rest))) (sym kept)
        ∙ sym (append_assoc has.came (scanned scan) (cells_in s (new.bytes.items ++ rest)))

    pub reads_all : HasReadAll table key width found all given new
    reads_all = record {
      read = record {
        came = came;
        seen = record {
          scans = scanner ∙ has.seen.scans;
          cells_found = cells_found;
          cells = omega (arith, sees.cells, has.seen.cells, length-append has.came (scanned scan), length-map scan.cells.items (λ (f : FoundCell). f.cell));
          damaged_before = has.seen.damaged_before + scan.damaged;
          damaged_found = λ rest.
              let one = has.seen.damaged_found rest in
              let more = settles_here.damaged rest in
              let same = ap (λ xs. damaged_in s (xs ++ rest)) kept in
              omega (arith, one, more, same);
          damaged = omega (arith, sees.damaged, has.seen.damaged);
          others_before = has.seen.others_before + scan.others;
          others_found = λ rest.
              let one = has.seen.others_found rest in
              let more = settles_here.others rest in
              let same = ap (λ xs. others_in s (xs ++ rest)) kept in
              omega (arith, one, more, same);
          others = omega (arith, sees.others, has.seen.others);
        };
        taken = takes found.head.stream width has.came given has.taken;
      };
      none = record { no_cells = ap (cells_in s) kept ∙ settles_here.none; no_damaged = ap (damaged_in s) kept ∙ settles_here.no_damaged };
    }

  -- ---- a piece more came

  module _ (all given : List ℕ) (now : StreamReceiver) (bytes : Vec ℕ Global) (piece : List ℕ) (behind : bytes.items ≡ now.bytes.items ++ piece) where
    later : (rest : List ℕ) → now.bytes.items ++ (piece ++ rest) ≡ bytes.items ++ rest
    later rest = sym (append_assoc now.bytes.items piece rest) ∙ ap (λ xs. xs ++ rest) (sym behind)

    pub reads_piece : HasRead table key width found all given now → HasRead table key width found (all ++ piece) given (record now { bytes = bytes })
    reads_piece has = record {
      came = has.came;
      seen = record {
        scans = has.seen.scans;
        cells_found = λ rest. ap (cells_in s) (append_assoc all piece rest) ∙ has.seen.cells_found (piece ++ rest)
            ∙ ap (λ xs. has.came ++ cells_in s xs) (later rest);
        cells = has.seen.cells;
        damaged_before = has.seen.damaged_before;
        damaged_found = λ rest. ap (damaged_in s) (append_assoc all piece rest) ∙ has.seen.damaged_found (piece ++ rest)
            ∙ ap (λ xs. has.seen.damaged_before + damaged_in s xs) (later rest);
        damaged = has.seen.damaged;
        others_before = has.seen.others_before;
        others_found = λ rest. ap (others_in s) (append_assoc all piece rest) ∙ has.seen.others_found (piece ++ rest)
            ∙ ap (λ xs. has.seen.others_before + others_in s xs) (later rest);
        others = has.seen.others;
      };
      taken = has.taken;
    }

  -- ---- bytes are handed out

  pub hands_out : (all given bytes : List ℕ) (now : StreamReceiver) (window : Window) → HandsOut now.window bytes window
      → HasReadAll table key width found all given now → HasReadAll table key width found all (given ++ bytes) (record now { window = window })
  hands_out all given bytes now window hands has =
      let seen = has.read.seen in
      record {
        read = record {
          came = has.read.came;
          seen = record {
            scans = seen.scans;
            cells_found = seen.cells_found;
            cells = seen.cells;
            damaged_before = seen.damaged_before;
            damaged_found = seen.damaged_found;
            damaged = seen.damaged;
            others_before = seen.others_before;
            others_found = seen.others_found;
            others = seen.others;
          };
          taken = hands table found.head.stream width has.read.came given has.read.taken;
        };
        none = has.none;
      }
