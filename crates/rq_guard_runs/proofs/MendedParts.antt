-- A file that is mended part after part.
use Rattle.std.proofs.Common.{◌≡◌, ℕ, suc, ◌<◌, ◌≤◌, List, [], ◌∷◌, ◌++◌, length, take, Bool, true, false, refl, subst, inl, inr, arith}
use Rattle.std.specs.Prelude.{slice_index_or}
use Rattle.std.specs.Io.KnownBytes.{Appends}
use Rattle.std.proofs.KnownBytes.{Appends-nil, Appends-trans}
use Rattle.rq_standard.specs.declared.row.TableRow.{TableRow}
use Rattle.rq_cells.specs.declared.cell.Cell.{Cell}
use Rattle.rq_cells.specs.Cells.{Key}
use Rattle.rq_guard.specs.declared.list.DigestList.{DigestList}
use Rattle.rq_guard.specs.declared.mending.Mending.{Mending}
use Rattle.rq_guard.specs.Damage.{object_there, whole_cells}
use Rattle.rq_guard.specs.Lists.{Listed, listed_of}
use Rattle.rq_guard.specs.Mending.{HasMended, mended_parts, has_mended_last}
use Rattle.rq_guard.specs.Reading.{RepairsPart, cells_with, names_listed}
use Rattle.rq_guard.proofs.Mended.{mends}
use Rattle.rq_guard_runs.specs.Guards.{MendsFirst, RepairsFile, RepairsFirst}
use Rattle.rq_devices.specs.Placed.{Contents}

-- some first parts are mended
pub record IsMending (table : List TableRow) (key : Key) (lists : List DigestList) (file left guard there then : Contents) (now : Mending) : Type 0 where
  pub first : Mending
  pub none : (stream : List ℕ) → HasMended table stream [] [] first
  pub number : ℕ
  pub repairs : RepairsFirst table key lists guard number file left there then first now
  pub came : List Cell
  pub bytes : List ℕ
  pub has : (stream : List ℕ) → HasMended table stream came bytes now
  pub written : Appends there then bytes

-- none is yet
pub mending_none : (table : List TableRow) (key : Key) (lists : List DigestList) (file guard there : Contents) (m : Mending)
    → ((stream : List ℕ) → HasMended table stream [] [] m) → IsMending table key lists file file guard there there m
mending_none table key lists file guard there m none = record {
  first = m;
  none = none;
  number = 0;
  repairs = (refl, refl, refl);
  came = [];
  bytes = [];
  has = none;
  written = Appends-nil there;
}

-- a list, where there is one
some_list : (lists : List DigestList) (k : ℕ) → k < length lists → DigestList
some_list [] k below = absurd (omega (arith, below))
some_list (l ∷ lists) k below = l

module _ (table : List TableRow) (key : Key) (lists : List DigestList) (file mid guard there between : Contents) (now : Mending)
    (w : IsMending table key lists file mid guard there between now) where
  so_far : MendsFirst table key lists file mid guard there between now
  so_far = record {
    first = w.first;
    none = w.none;
    number = w.number;
    repairs = w.repairs;
    came = w.came;
    bytes = w.bytes;
    mends = λ stream. mends table stream w.came w.bytes now (w.has stream);
    written = w.written;
  }

  -- the next one is mended
  pub mending_more : (left guard' then : Contents) (new : Mending) (answer : Bool) → mended_parts now < length lists
      → RepairsPart table key lists mid left guard guard' between then now new answer → answer ≡ true → IsMending table key lists file left guard there then new
  mending_more left guard' then new answer below part is =
      let next : Listed = listed_of (slice_index_or lists (mended_parts now) (some_list lists (mended_parts now) below)) in
      let part_of = part.mends (some_list lists (mended_parts now) below) in
      record {
        first = w.first;
        none = w.none;
        number = suc w.number;
        repairs = (mid, between, now, w.repairs, guard', subst (RepairsPart table key lists mid left guard guard' between then now new) is part);
        came = w.came
            ++ (whole_cells next (object_there next.head (names_listed (take (mended_parts now) lists)) part_of.there) ++ cells_with key next.head part_of.past);
        bytes = w.bytes ++ part.bytes;
        has = λ stream. part_of.takes stream w.came w.bytes (w.has stream);
        written = Appends-trans there between then w.bytes part.bytes w.written part.written;
      }

  -- it isn't determined
  pub mending_stops : (left guard' then : Contents) (new : Mending) (answer : Bool) → RepairsPart table key lists mid left guard guard' between then now new answer
      → answer ≡ false → RepairsFile table key lists file guard there then false
  mending_stops left guard' then new answer part is = record {
    left = mid;
    front = between;
    now = now;
    mends = so_far;
    ends = inr (refl, (left, guard', new, subst (RepairsPart table key lists mid left guard guard' between then now new) is part));
  }

  -- none is left
  pub mending_ends : (answer : Bool) → length lists ≤ mended_parts now → answer ≡ has_mended_last now → RepairsFile table key lists file guard there between answer
  mending_ends answer all is = record {
    left = mid;
    front = between;
    now = now;
    mends = so_far;
    ends = inl (refl, all, is);
  }
