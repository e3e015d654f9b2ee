-- The payloads that a map holds, after one more.
use Rattle.std.proofs.Common.{◌≡◌, ◌≢◌, ℕ, ◌<◌, Bool, true, false, cond, eqb, List, [], Option, Some, None, refl, sym, ap, ◌∙◌, subst, inl, inr, vec_items, vec_len, arith}
use Rattle.std.specs.Prelude.{is_some, option_map, MatchOption, IsSomeAnd}
use Rattle.std.specs.List.{AllZip}
use Rattle.std.proofs.lemmas.List.{map-id}
use Rattle.std.proofs.lemmas.Map.Entries.{lookup_clone}
use Rattle.std.proofs.lemmas.Slice.Zip.{AllZip-map}
use Rattle.std.specs.Option.{ForSome}
use Rattle.std.specs.declared.vec.Vec.{Vec}
use Rattle.std.specs.declared.alloc.Global.{Global}
use Rattle.std.specs.declared.cmp.Ordering.TheVariants.{Less, Equal, Greater}
use Rattle.std.specs.Ordering.{nat_cmp, is_eq}
use Rattle.std.specs.Cmp.{nat_cmp_is}
use Rattle.std.specs.BTreeMap.{get}
use Rattle.std.specs.Map.{lookup}
use Rattle.std.proofs.lemmas.Bool.{cases_eq, cases_lt, eq-eqb, ne_eqb, eqb-true}
use Rattle.rq_standard.specs.Received.{or_later}
use Rattle.rq_standard.proofs.Firsts.{or_later-none}
use Rattle.rq_block.specs.Payloads.{Payloads, payload_of, AddsUnlessThere}

-- the keys' order finds the key that is equal
pub is_eq-nat_cmp : (k q : ℕ) → is_eq (nat_cmp k q) ≡ eqb k q
is_eq-nat_cmp k q =
    elim (cases_lt k q) [
      | inl less ↦ ap is_eq (sym (nat_cmp_is k q Less less)) ∙ sym (ne_eqb k q (λ e. absurd (omega arith)))
      | inr above ↦ elim (cases_eq k q) [
        | inl same ↦ ap is_eq (sym (nat_cmp_is k q Equal same)) ∙ sym (eq-eqb k q same)
        | inr apart ↦ ap is_eq (sym (nat_cmp_is k q Greater (omega arith))) ∙ sym (ne_eqb k q apart)
      ]
    ]

-- a payload of an id that was received changes nothing
kept_by : (o r : Option (List ℕ)) (b : Bool) (x : List ℕ) → (b ≡ true → is_some o ≡ true) → o ≡ or_later o (cond b (Some x) None)
kept_by (Some y) r b x has = refl
kept_by None r false x has = refl
kept_by None r true x has = absurd (cc (has refl))

pub or_later-again : (f : ℕ → Option (List ℕ)) (k : ℕ) (x : List ℕ) → is_some (f k) ≡ true → AddsUnlessThere k x f f
or_later-again f k x has e = kept_by (f e) (f k) (eqb k e) x (λ t. ap (λ n. is_some (f n)) (sym (eqb-true k e t)) ∙ has)

-- a payload of another id is as before
pub added_elsewhere : (f g : ℕ → Option (List ℕ)) (k : ℕ) (x : List ℕ) → AddsUnlessThere k x f g → (e : ℕ) → k ≢ e → g e ≡ f e
added_elsewhere f g k x grown e apart = grown e ∙ ap (λ b. or_later (f e) (cond b (Some x) None)) (ne_eqb k e apart) ∙ or_later-none (f e)

held_or_added : (P : List ℕ → Type 0) (o : Option (List ℕ)) (b : Bool) (x y : List ℕ) → ForSome o P → (b ≡ true → P x) → or_later o (cond b (Some x) None) ≡ Some y → P y
held_or_added P (Some z) b x y all here is = all y is
held_or_added P None true x y all here is = let same : x ≡ y = cc in subst P same (here refl)
held_or_added P None false x y all here is = absurd (cc is)

-- what holds of each, and of one more
pub all-more : (P : ℕ → List ℕ → Type 0) (f g : ℕ → Option (List ℕ)) (k : ℕ) (x : List ℕ) → ((e : ℕ) → ForSome (f e) (P e)) → P k x → AddsUnlessThere k x f g → (e : ℕ) → ForSome (g e) (P e)
all-more P f g k x all here grown e y is = held_or_added (P e) (f e) (eqb k e) x y (all e) (λ same. subst (λ n. P n x) (eqb-true k e same) here) (sym (grown e) ∙ is)

-- an empty map holds nothing
pub payload_of-empty : (m : Payloads) → m.entries ≡ [] → (e : ℕ) → payload_of m e ≡ None
payload_of-empty m none e = ap (λ es. option_map vec_items (lookup (λ q. is_eq (nat_cmp e q)) es)) none

same_option : (D : Vec ℕ Global → Vec ℕ Global → Type 0) → ((v w : Vec ℕ Global) → D v w → vec_items w ≡ vec_items v) → (o r : Option (Vec ℕ Global)) → MatchOption o (r ≡ None) (λ v. IsSomeAnd r (D v)) → option_map vec_items r ≡ option_map vec_items o
same_option D same None r h = ap (option_map vec_items) h
same_option D same (Some v) (Some w) h = ap (λ xs. Some xs) (same v w h)
same_option D same (Some v) None h = absurd h

-- a clone of the map holds the same payloads
pub payload_of-clone : (C : ℕ → ℕ → Type 0) (D : Vec ℕ Global → Vec ℕ Global → Type 0) (m n : Payloads) → ((x y : ℕ) → C x y → y ≡ x) → ((v w : Vec ℕ Global) → D v w → vec_items w ≡ vec_items v) → AllZip (λ p q. C p.0 q.0 × D p.1 q.1) m.entries n.entries → (e : ℕ) → payload_of n e ≡ payload_of m e
payload_of-clone C D m n keys values clones e = same_option D values (get nat_cmp m e) (get nat_cmp n e) (lookup_clone C D (λ q. is_eq (nat_cmp e q)) (λ x y c. ap (λ k. is_eq (nat_cmp e k)) (keys x y c)) m.entries n.entries clones)

-- a clone of a map of bytes holds the same payloads
pub payload_of-cloned : (m n : Payloads) → AllZip (λ p q. (q.0 ≡ p.0) × (AllZip (λ x y. y ≡ x) (vec_items p.1) (vec_items q.1) × (vec_len q.1 ≡ vec_len p.1))) m.entries n.entries → (e : ℕ) → payload_of n e ≡ payload_of m e
payload_of-cloned m n clones = payload_of-clone (λ x y. y ≡ x) (λ v w. AllZip (λ x y. y ≡ x) (vec_items v) (vec_items w) × (vec_len w ≡ vec_len v)) m n (λ x y h. h) (λ v w h. AllZip-map (λ x. x) (vec_items v) (vec_items w) h.0 ∙ map-id (vec_items v)) clones

few_by : (o : Option (List ℕ)) (b : Bool) (x : List ℕ) (k e n : ℕ) → (is_some o ≡ true → e < n) → k < n → (b ≡ true → k ≡ e) → is_some (or_later o (cond b (Some x) None)) ≡ true → e < n
few_by (Some y) b x k e n few below here came = few refl
few_by None true x k e n few below here came = subst (λ m. m < n) (here refl) below
few_by None false x k e n few below here came = absurd (cc came)

-- all ids stay small
pub few-more : (f g : ℕ → Option (List ℕ)) (k : ℕ) (x : List ℕ) (n : ℕ) → ((e : ℕ) → is_some (f e) ≡ true → e < n) → k < n → AddsUnlessThere k x f g → (e : ℕ) → is_some (g e) ≡ true → e < n
few-more f g k x n few below grown e came = few_by (f e) (eqb k e) x k e n (few e) below (eqb-true k e) (sym (ap is_some (grown e)) ∙ came)
