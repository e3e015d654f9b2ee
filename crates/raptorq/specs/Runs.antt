-- What comes of a list of packets, each with the sparse threshold that is set before it.
use Rattle.std.specs.Prelude.{◌≡◌, ◌⊎◌, ℕ, List, [], ◌∷◌, ◌++◌, map, Result, Ok, Err, MatchResult, IsErr}
use Rattle.rq_bytes.specs.declared.error.Error.{Error}
use Rattle.rq_bytes.specs.declared.error.Error.TheVariants.{OutOfMemory, Contradiction}
use Rattle.rq_bytes.specs.Refusals.{IsRefusal}
use Rattle.rq_standard.specs.declared.row.TableRow.{TableRow}
use Rattle.rq_standard.specs.TableRows.{greatest_size}
use Rattle.rq_standard.specs.Configuration.{Configuration}
use Rattle.rq_standard.specs.Headline.{IsHonestRun}
use Rattle.rq_standard.specs.ReceivedBlock.{CanAnswer, IsContradictory}
use Rattle.rq_standard.specs.Packet.{Packet}
use Rattle.rq_standard.specs.DecoderSteps.{received_after}
use Rattle.rq_base.specs.RefusedInput.{checked_configuration}
use Rattle.raptorq.specs.Refused.{packet_refusal}

-- the packets without their thresholds
abbrev pub packets_of : List (ℕ × Packet) → List Packet
packets_of steps = map (λ step. step.1) steps

-- over an honest run nothing is refused but the configuration, and memory
abbrev pub RefusesConfiguration : List TableRow → Configuration → List Packet → Error → Type 0
RefusesConfiguration table c packets e = (object : List ℕ) → IsHonestRun table c object packets → IsRefusal e (checked_configuration (greatest_size table) c)

-- ---- whoever sent the packets

-- A packet contradicts earlier ones: these can't answer its block, and with it what was received of the block is contradictory.
pub record ContradictsReceived (table : List TableRow) (c : Configuration) (earlier : List Packet) (p : Packet) : Type 0 where
  pub unanswered : CanAnswer (received_after table c p.id.block earlier) → ⊥
  pub contradictory : IsContradictory (received_after table c p.id.block (earlier ++ p ∷ []))

-- what is refused of a packet behind earlier ones, none of which was refused: by the tests, and then as a contradiction
abbrev pub IsNextRefusal : List TableRow → Configuration → List Packet → Packet → Result (Unit {0}) Error → Type 0
IsNextRefusal table c earlier p (Ok x) = (packet_refusal c p ≡ Ok tt) × ¬ (ContradictsReceived table c earlier p)
IsNextRefusal table c earlier p (Err e) =
    (packet_refusal c p ≡ Err e) ⊎ ((packet_refusal c p ≡ Ok tt) × (e ≡ Contradiction) × ContradictsReceived table c earlier p)

-- the first refusal of a list of packets behind earlier ones
abbrev pub IsRefusalBehind : List TableRow → Configuration → List Packet → List Packet → Result (Unit {0}) Error → Type 0
IsRefusalBehind table c earlier [] r = r ≡ Ok tt
IsRefusalBehind table c earlier (p ∷ packets) r =
    (IsErr r × IsNextRefusal table c earlier p r)
    ⊎ (IsNextRefusal table c earlier p (Ok tt) × IsRefusalBehind table c (earlier ++ p ∷ []) packets r)

-- the first refusal of a run: of the configuration, and then of the packets in their order
abbrev pub IsRunRefusal : List TableRow → Configuration → List Packet → Result (Unit {0}) Error → Type 0
IsRunRefusal table c packets r = MatchResult (checked_configuration (greatest_size table) c) (λ _. IsRefusalBehind table c [] packets r) (λ e. r ≡ Err e)

-- An answer where nothing is refused, and else the first refusal. Want of memory may come before it.
abbrev pub AnswersRun : {X : Type 0} → List TableRow → Configuration → List Packet → Result X Error → Type 0
AnswersRun table c packets (Ok x) = IsRunRefusal table c packets (Ok tt)
AnswersRun table c packets (Err e) = (e ≡ OutOfMemory) ⊎ IsRunRefusal table c packets (Err e)
