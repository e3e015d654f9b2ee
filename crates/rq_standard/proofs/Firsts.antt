-- The first payload of each id, after one packet more.
use Rattle.std.proofs.Common.{◌≡◌, ◌≢◌, ℕ, Bool, true, false, cond, eqb, List, [], ◌∷◌, ◌++◌, Option, Some, None, refl, sym, ap, ◌∙◌, ◌⊎◌, inl, inr}
use Rattle.std.specs.Prelude.{is_some, ◌&&◌}
use Rattle.std.specs.List.{AllByRecursion}
use Rattle.std.proofs.lemmas.Bool.{eqb-true, eq-eqb, ne_eqb}
use Rattle.std.proofs.lemmas.Option.{same_Some}
use Rattle.rq_standard.specs.Packet.{Packet}
use Rattle.rq_standard.specs.Received.{or_later, payload_for, first_payload, has_id}

or_later-assoc : (a b c : Option (List ℕ)) → or_later (or_later a b) c ≡ or_later a (or_later b c)
or_later-assoc None b c = refl
or_later-assoc (Some x) b c = refl

pub or_later-none : (a : Option (List ℕ)) → or_later a None ≡ a
or_later-none None = refl
or_later-none (Some x) = refl

-- one packet more
first_payload-push : (b : ℕ) (packets : List Packet) (p : Packet) (e : ℕ) → first_payload b (packets ++ p ∷ []) e ≡ or_later (first_payload b packets e) (payload_for b p e)
first_payload-push b [] p e = or_later-none (payload_for b p e)
first_payload-push b (x ∷ packets) p e = ap (or_later (payload_for b x e)) (first_payload-push b packets p e) ∙ sym (or_later-assoc (payload_for b x e) (first_payload b packets e) (payload_for b p e))

-- one packet more of the block
pub first_payload-here : (b : ℕ) (packets : List Packet) (p : Packet) (e : ℕ) → p.id.block ≡ b → first_payload b (packets ++ p ∷ []) e ≡ or_later (first_payload b packets e) (cond (eqb p.id.esi e) (Some p.payload) None)
first_payload-here b packets p e h = first_payload-push b packets p e ∙ ap (λ t. or_later (first_payload b packets e) (cond (t && eqb p.id.esi e) (Some p.payload) None)) (eq-eqb p.id.block b h)

-- one packet more of another block
pub first_payload-elsewhere : (b : ℕ) (packets : List Packet) (p : Packet) (e : ℕ) → p.id.block ≢ b → first_payload b (packets ++ p ∷ []) e ≡ first_payload b packets e
first_payload-elsewhere b packets p e h = first_payload-push b packets p e ∙ ap (λ t. or_later (first_payload b packets e) (cond (t && eqb p.id.esi e) (Some p.payload) None)) (ne_eqb p.id.block b h) ∙ or_later-none (first_payload b packets e)

pub stays : (a b : Option (List ℕ)) → is_some a ≡ true → is_some (or_later a b) ≡ true
stays None b h = absurd (cc h)
stays (Some x) b h = refl

-- an id that was received stays
pub has_id-push : (b : ℕ) (packets : List Packet) (p : Packet) (e : ℕ) → has_id b packets e ≡ true → has_id b (packets ++ p ∷ []) e ≡ true
has_id-push b packets p e h = ap is_some (first_payload-push b packets p e) ∙ stays (first_payload b packets e) (payload_for b p e) h

-- a payload that counts comes from a packet of its id
from_packet : (s t : Bool) (y x : List ℕ) (o : Option (List ℕ)) → or_later (cond (s && t) (Some y) None) o ≡ Some x → ((s ≡ true) × (t ≡ true) × (y ≡ x)) ⊎ (o ≡ Some x)
from_packet true true y x o e = inl (refl, refl, same_Some y x e)
from_packet true false y x o e = inr e
from_packet false t y x o e = inr e

-- a payload that counts is that of a packet of the list
pub first_payload-packet : (P : Packet → Type 0) (packets : List Packet) (b e : ℕ) (x : List ℕ) → AllByRecursion P packets → first_payload b packets e ≡ Some x → (p : Packet) × P p × (p.id.block ≡ b) × (p.id.esi ≡ e) × (p.payload ≡ x)
first_payload-packet P [] b e x h is = absurd (cc is)
first_payload-packet P (p ∷ packets) b e x h is =
    elim (from_packet (eqb p.id.block b) (eqb p.id.esi e) p.payload x (first_payload b packets e) is) [
      | inl w ↦ (p, h.0, eqb-true p.id.block b w.0, eqb-true p.id.esi e w.1, w.2)
      | inr w ↦ first_payload-packet P packets b e x h.1 w
    ]
