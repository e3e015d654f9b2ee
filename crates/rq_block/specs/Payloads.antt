-- What a map of payloads says of each encoding symbol id, and how many source symbols are missing.
use Rattle.std.specs.Prelude.{◌≡◌, ◌==◌, ℕ, zero, suc, ◌+◌, Bool, List, Option, Some, None, option_map, is_some, if◌then◌else◌, vec_items}
use Rattle.std.specs.declared.vec.Vec.{Vec}
use Rattle.std.specs.declared.alloc.Global.{Global}
use Rattle.std.specs.Ordering.{nat_cmp}
use Rattle.std.specs.BTreeMap.{BTreeMap, get}
use Rattle.rq_standard.specs.declared.row.TableRow.{TableRow}
use Rattle.rq_standard.specs.Configuration.{Configuration}
use Rattle.rq_standard.specs.ReceivedBlock.{ReceivedBlock}
use Rattle.rq_standard.specs.Received.{or_later}

-- payloads by their encoding symbol ids
abbrev pub Payloads : Type 0
Payloads = BTreeMap ℕ (Vec ℕ Global)

-- the payload of an id
abbrev pub payload_of : Payloads → ℕ → Option (List ℕ)
payload_of received e = option_map vec_items (get nat_cmp received e)

abbrev pub has_payload : Payloads → ℕ → Bool
has_payload received e = is_some (payload_of received e)

-- what was received of a block of K source symbols, by the map of its payloads
abbrev pub received_block : Configuration → ℕ → TableRow → ℕ → Payloads → ReceivedBlock
received_block c number row k received = record { configuration = c; number = number; row = row; source_symbols = k; received = payload_of received }

-- new has what old has at each id, and at this id the value, where old has none
abbrev pub AddsUnlessThere : ℕ → List ℕ → (ℕ → Option (List ℕ)) → (ℕ → Option (List ℕ)) → Type 0
AddsUnlessThere id value old new = (e : ℕ) → new e ≡ or_later (old e) (if id == e then Some value else None)

-- a map of payloads has that of an encoding symbol id too, where it had none of it before
abbrev pub KeepsFirst : ℕ → List ℕ → Payloads → Payloads → Type 0
KeepsFirst esi payload old new = AddsUnlessThere esi payload (payload_of old) (payload_of new)

-- how many of the ids below n are missing
unfoldable pub missing_count : ℕ → (ℕ → Bool) → ℕ
missing_count zero has = 0
missing_count (suc n) has = missing_count n has + (if has n then 0 else 1)
