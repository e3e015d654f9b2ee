-- What a list of packets says of a block: of each encoding symbol id the first payload counts.
use Rattle.std.specs.Prelude.{◌≡◌, ℕ, ◌<◌, Bool, true, List, [], ◌∷◌, Option, Some, None, is_some, if◌then◌else◌, ◌==◌, ◌&&◌}
use Rattle.rq_standard.specs.Packet.{Packet}

-- the earlier of two payloads
abbrev pub or_later : Option (List ℕ) → Option (List ℕ) → Option (List ℕ)
or_later None later = later
or_later (Some payload) later = Some payload

-- what a packet carries for an id of a block
abbrev pub payload_for : ℕ → Packet → ℕ → Option (List ℕ)
payload_for b p e = if p.id.block == b && p.id.esi == e then Some p.payload else None

-- the first payload of an id
abbrev pub first_payload : ℕ → List Packet → ℕ → Option (List ℕ)
first_payload b [] e = None
first_payload b (p ∷ packets) e = or_later (payload_for b p e) (first_payload b packets e)

-- which ids were received
abbrev pub has_id : ℕ → List Packet → ℕ → Bool
has_id b packets e = is_some (first_payload b packets e)

-- each of the k source symbols is among the ids
pub record HasSourceSymbols (k : ℕ) (has : ℕ → Bool) : Type 0 where
  pub each : (e : ℕ) → e < k → has e ≡ true
