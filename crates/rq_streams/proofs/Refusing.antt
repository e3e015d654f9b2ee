-- How a run ends with what was refused or made.
use Rattle.std.proofs.Common.{◌≡◌, ℕ, drop, List, Option, Result, Ok, Err, refl, sym, subst, ◌⊎◌, inl, inr}
use Rattle.std.specs.Prelude.{MatchResult}
use Rattle.std.proofs.KnownBytes.{Keeps-refl}
use Rattle.rq_bytes.specs.declared.error.Error.{Error}
use Rattle.rq_bytes.specs.declared.error.Error.TheVariants.{OutOfMemory}
use Rattle.rq_standard.specs.Configuration.{Configuration}
use Rattle.rq_standard.specs.declared.row.TableRow.{TableRow}
use Rattle.raptorq.specs.Runs.{IsRunRefusal}
use Rattle.raptorq.proofs.FollowedRuns.{refused_by}
use Rattle.rq_streams.specs.Frames.{packets_in_bytes}
use Rattle.rq_streams.specs.declared.run.Outcome.{Outcome}
use Rattle.rq_streams.specs.declared.run.Outcome.TheVariants.{Written, Incomplete}
use Rattle.rq_streams.specs.declared.run.Stop.{Stop}
use Rattle.rq_streams.specs.declared.run.Stop.TheVariants.{Fault, Refused}
use Rattle.rq_streams.specs.Ends.{Wanted, Ends, EndsAs}
use Rattle.rq_streams.specs.ReceivedStreams.{header_configuration, IsStreamRefusal}

-- the refusal of a stream whose header was read is that of its run
pub refused_run : (table : List TableRow) (c : Configuration) (bytes : List ℕ) (r : Result (Unit {0}) Error) → Ok c ≡ header_configuration bytes → IsRunRefusal table c (packets_in_bytes c (drop 12 bytes)) r → IsStreamRefusal table bytes r
refused_run table c bytes r read run = subst (λ h. MatchResult h (λ k. IsRunRefusal table k (packets_in_bytes k (drop 12 bytes)) r) (λ e. r ≡ Err e)) read run

-- and that of one whose header wasn't is the header's
pub refused_header : (table : List TableRow) (e : Error) (bytes : List ℕ) → Err e ≡ header_configuration bytes → IsStreamRefusal table bytes (Err e)
refused_header table e bytes read = subst (λ h. MatchResult h (λ k. IsRunRefusal table k (packets_in_bytes k (drop 12 bytes)) (Err e)) (λ w. refused_by e ≡ Err w)) read refl

-- a run ends as it is wanted, where it ends as one thing that is
pub ends_wanted : (result : Result Outcome Stop) (old new : Option (List ℕ)) (wanted : Wanted) (P : Wanted → Type 0) → P wanted → Ends result old new wanted → EndsAs result old new P
ends_wanted (Ok Written) old new wanted P is ends = (ends.0, subst P ends.1 is, ends.2)
ends_wanted (Ok Incomplete) old new wanted P is ends = (subst P ends.0 is, ends.1)
ends_wanted (Err Fault) old new wanted P is (inl kept) = inl kept
ends_wanted (Err Fault) old new wanted P is (inr beginning) = inr (beginning.0, beginning.1, subst P beginning.2 is, beginning.3)
ends_wanted (Err (Refused e)) old new wanted P is ends = (elim ends.0 [ inl memory ↦ inl memory | inr wants ↦ inr (subst P wants is) ], ends.1)

-- what a failed read leaves, whatever was wanted
pub stopped_as : (P : Wanted → Type 0) (stop : Stop) (old : Option (List ℕ)) → (stop ≡ Fault) ⊎ (stop ≡ Refused OutOfMemory) → EndsAs (Err stop) old old P
stopped_as P stop old (inl h) = subst (λ s. EndsAs (Err s) old old P) (sym h) (inl (Keeps-refl old))
stopped_as P stop old (inr h) = subst (λ s. EndsAs (Err s) old old P) (sym h) (inl refl, Keeps-refl old)

pub stopped_ends : (wanted : Wanted) (stop : Stop) (old : Option (List ℕ)) → (stop ≡ Fault) ⊎ (stop ≡ Refused OutOfMemory) → Ends (Err stop) old old wanted
stopped_ends wanted = stopped_as (λ w. wanted ≡ w)
