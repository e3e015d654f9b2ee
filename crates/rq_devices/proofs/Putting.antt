-- What is put in its place, or taken away.
use Rattle.std.proofs.Common.{◌≡◌, ℕ, ◌≤◌, Bool, true, false, List, Result, Ok, Err, IsOk, sym, subst, ap, ◌∙◌}
use Rattle.rq_streams.specs.declared.run.Stop.{Stop}
use Rattle.rq_streams.specs.declared.run.Stop.TheVariants.{Fault}
use Rattle.rq_streams.specs.Ends.{failed_calls}
use Rattle.rq_devices.specs.Failed.{FailsPutting}
use Rattle.rq_devices.specs.Folder.{IsFiled}
use Rattle.rq_devices.specs.Placed.{Contents}
use Rattle.rq_devices.specs.Spots.{Spot, Spots, OnOutput, AtFile, AsShards, InFolder, IsFinished}

-- ---- what is placed

-- what isn't whole is taken away, however that ends
away : {D E : Type 0} (spot : Spot) (written : Contents) (old new : Spots) (one : Result D Stop) (other : Result E Stop)
    → IsFinished spot false one written old new → IsFinished spot false other written old new
away OnOutput written old new one other h = h
away (AtFile name) written old new one other h = h
away (AsShards folder file count) written old new one other h = h
away (InFolder folder) written old new one other h = h

-- what couldn't be put there is taken away
failed : (D E : Type 0) (spot : Spot) (written : Contents) (old new : Spots) (one other : Stop)
    → IsFinished {D = D} spot true (Err one) written old new → IsFinished {D = E} spot true (Err other) written old new
failed D E OnOutput written old new one other h = h
failed D E (AtFile name) written old new one other h = h
failed D E (AsShards folder file count) written old new one other h = h
failed D E (InFolder folder) written old new one other h = h

module _ {X : Type 0} (spot : Spot) (is_whole : Bool) (written : Contents) (old new : Spots) where
  -- it isn't whole, and is taken away
  pub put_away : (D : Type 0) (ended : Result X Stop) (finished : Result D Stop) → is_whole ≡ false → IsFinished spot false finished written old new
      → IsFinished spot is_whole ended written old new
  put_away D ended finished is h =
      subst (λ (b : Bool). IsFinished spot b ended written old new) (sym is) (away {D = D} {E = X} spot written old new finished ended h)

  -- it is whole, and put there
  pub put_there : (D : Type 0) (ended : Result X Stop) (d : D) → is_whole ≡ true → IsOk ended → IsFinished {D = D} spot true (Ok d) written old new
      → IsFinished spot is_whole ended written old new
  put_there D (Ok x) d is ok h = subst (λ (b : Bool). IsFinished {D = X} spot b (Ok x) written old new) (sym is) h
  put_there D (Err stop) d is ok h = absurd (cc ok)

  -- it is whole, and can't be put there
  pub not_put : (D : Type 0) (result : Result X Stop) (stop : Stop) → is_whole ≡ true → result ≡ Err stop
      → IsFinished {D = D} spot true (Err stop) written old new → IsFinished spot is_whole result written old new
  not_put D result stop is ended h =
      subst (λ (r : Result X Stop). IsFinished spot is_whole r written old new) (sym ended)
      (subst (λ (b : Bool). IsFinished {D = X} spot b (Err stop) written old new) (sym is) (failed D X spot written old new stop stop h))

-- what is whole is there
pub whole_put : {X : Type 0} (spot : Spot) (is_whole : Bool) (written : Contents) (old new : Spots) (result : Result X Stop) (x : X) → is_whole ≡ true
    → result ≡ Ok x → IsFinished spot is_whole result written old new → IsFiled spot written old new
whole_put {X} spot is_whole written old new result x whole is h =
    subst (λ (r : Result X Stop). IsFinished spot true r written old new) is
    (subst (λ (b : Bool). IsFinished spot b result written old new) whole h)

-- what is written on standard output is there
pub on_output : {D : Type 0} (is_whole : Bool) (written : Contents) (old new : Spots) (result : Result D Stop)
    → IsFinished OnOutput is_whole result written old new → IsFiled OnOutput written old new
on_output true written old new (Ok d) h = h
on_output true written old new (Err stop) h = h
on_output false written old new result h = h

-- of a file, or of shards, what is stopped changes nothing
pub stopped_at_file : {X : Type 0} (name : List ℕ) (is_whole : Bool) (written : Contents) (old new : Spots) (result : Result X Stop) (stop : Stop)
    → result ≡ Err stop → IsFinished (AtFile name) is_whole result written old new → new ≡ old
stopped_at_file {X} name true written old new result stop is h = subst (λ (r : Result X Stop). IsFinished (AtFile name) true r written old new) is h
stopped_at_file {X} name false written old new result stop is h = h

pub stopped_shards : {X : Type 0} (folder file : List ℕ) (count : ℕ) (is_whole : Bool) (written : Contents) (old new : Spots) (result : Result X Stop) (stop : Stop)
    → result ≡ Err stop → IsFinished (AsShards folder file count) is_whole result written old new → new ≡ old
stopped_shards {X} folder file count true written old new result stop is h =
    subst (λ (r : Result X Stop). IsFinished (AsShards folder file count) true r written old new) is h
stopped_shards {X} folder file count false written old new result stop is h = h

-- ---- failed calls

pub fails_away : {X : Type 0} (is_whole : Bool) (result : Result X Stop) (n : ℕ) → is_whole ≡ false → n ≤ 1 → FailsPutting is_whole result n
fails_away is_whole result n is few = subst (λ (b : Bool). FailsPutting b result n) (sym is) few

pub fails_there : {X : Type 0} (is_whole : Bool) (result : Result X Stop) (n : ℕ) → is_whole ≡ true → IsOk result → n ≡ 0 → FailsPutting is_whole result n
fails_there {X} is_whole (Ok x) n is ok none = subst (λ (b : Bool). FailsPutting {X = X} b (Ok x) n) (sym is) none
fails_there {X} is_whole (Err stop) n is ok none = absurd (cc ok)

pub fails_putting : {X : Type 0} (is_whole : Bool) (result : Result X Stop) (stop : Stop) (n : ℕ) → is_whole ≡ true → result ≡ Err stop → stop ≡ Fault
    → n ≡ failed_calls {X = ℕ} (Err stop) → FailsPutting is_whole result n
fails_putting {X} is_whole result stop n is ended fault count =
    let once : n ≡ 1 = count ∙ ap (λ s. failed_calls {X = ℕ} (Err s)) fault in
    subst (λ (r : Result X Stop). FailsPutting is_whole r n) (sym ended)
    (subst (λ (b : Bool). FailsPutting {X = X} b (Err stop) n) (sym is) (fault, once))
