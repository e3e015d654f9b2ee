-- Where a run puts what it writes.
use Rattle.std.specs.Prelude.{◌≡◌, ⊤, ℕ, Bool, true, List, Contains, Option, Some, None, Result, Ok}
use Rattle.rq_streams.specs.declared.run.Stop.{Stop}
use Rattle.rq_devices.specs.declared.placing.Place.{Place}
use Rattle.rq_devices.specs.declared.placing.Place.TheVariants.{Output, File, Shards}
use Rattle.rq_devices.specs.Folder.{IsFiled}
use Rattle.rq_devices.specs.Placed.{Contents, Files, beside}

-- On standard output; in a file's place; in a folder's, as so many shards of a file; or in a folder, under a stream's name.
pub data Spot : Type 0 where
  OnOutput : Spot
  AtFile : (name : List ℕ) → Spot
  AsShards : (folder file : List ℕ) (count : ℕ) → Spot
  InFolder : (folder : List ℕ) → Spot

abbrev pub spot_of : Place → Spot
spot_of Output = OnOutput
spot_of (File name) = AtFile name.now
spot_of (Shards folder file count) = AsShards folder.now file.now count

-- in the place of a file that is said, and else on standard output
abbrev pub output_spot : Option (List ℕ) → Spot
output_spot None = OnOutput
output_spot (Some name) = AtFile name

-- what stands there
abbrev pub Spots : Type 0
Spots = Spot → Contents

-- What was written is on standard output in any case, and elsewhere where it is whole and could be put there. Nothing else changes.
abbrev pub IsFinished : {D : Type 0} → Spot → Bool → Result D Stop → Contents → Spots → Spots → Type 0
IsFinished spot true (Ok done) written old new = IsFiled spot written old new
IsFinished OnOutput _ _ written old new = IsFiled OnOutput written old new
IsFinished spot _ _ written old new = new ≡ old

-- What stands in files stands there still, as something is begun that is put there: but in the one beside a file's place. Of folders nothing is said.
abbrev pub StandsBeside : Spot → Files → Files → Type 0
StandsBeside OnOutput old new = new ≡ old
StandsBeside (AtFile name) old new = (files : List (List ℕ)) → ¬ Contains files (beside name) → new files ≡ old files
StandsBeside _ old new = ⊤
