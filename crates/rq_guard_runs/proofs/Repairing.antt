-- What is done of a file that has a guard.
use Rattle.std.proofs.Common.{◌≡◌, ℕ, Bool, true, false, List, Option, Some, None, Bor, option_map, refl, sym, subst, arith}
use Rattle.std.specs.Prelude.{unwrap_or}
use Rattle.rq_standard.specs.declared.row.TableRow.{TableRow}
use Rattle.rq_cells.specs.Cells.{Key}
use Rattle.rq_guard_runs.specs.declared.findings.Findings.{Findings}
use Rattle.rq_guard_runs.specs.Guards.{FailsMended, Finds, RepairsBy, Replaces, stays}
use Rattle.rq_devices.specs.Placed.{Contents, Files}
use Rattle.rq_devices.specs.Spots.{Spots}

-- what isn't left as it is
pub replaced : (table : List TableRow) (key : Key) (file guard : Files → Contents) (place : List ℕ) (stands : Files) (blank : Spots) (found : Findings)
    (old new : Spots) (is_left : Bool) → is_left ≡ false → Replaces table key found.lists.items file guard place stands blank old new found.is_mended
    → RepairsBy is_left table key file guard place stands blank found old new
replaced table key file guard place stands blank found old new is_left is replaces =
    subst (λ (b : Bool). RepairsBy b table key file guard place stands blank found old new) (sym is) replaces

-- it is found so still, once it is known whether it is mended
pub finds_still : (table : List TableRow) (key : Key) (file guard : Contents) (found : Findings) (mended : Bool) → Finds table key file guard found
    → Finds table key file guard (record found { is_mended = mended })
finds_still table key file guard found mended f = record {
  listed = f.listed;
  after = f.after;
  damaged = f.damaged;
  absent = f.absent;
}

-- and stays so
pub stays_still : (said : Option (List ℕ)) (found : Findings) (mended : Bool) → stays said (record found { is_mended = mended }) ≡ stays said found
stays_still None found mended = refl
stays_still (Some place) found mended = refl

-- the place is that which is said, or its own
pub place_is : (said : Option (Bor (List ℕ))) (own : Bor (List ℕ)) → (unwrap_or said own).now ≡ unwrap_or (option_map (λ s. s.now) said) own.now
place_is None own = refl
place_is (Some place) own = refl

-- of a file that stays as it is
pub fails_never : (mended : Bool) → FailsMended mended 0
fails_never true = refl
fails_never false = omega arith
