-- Votes for heads, and what a choice makes of them.
use Rattle.std.proofs.Common.{◌≡◌, ◌≢◌, ℕ, ◌+◌, ◌-◌, ◌^◌, ◌<◌, ◌≤◌, List, [], ◌∷◌, ◌++◌, Bool, true, false, not, if◌then◌else◌, Option, Some, None, length, map, filter, refl, sym, ap, subst, ◌∙◌, arith, inl, inr, length-append, rules}
use Rattle.std.specs.Prelude.{IfSome}
use Rattle.std.proofs.lemmas.Bool.{cases_lt, true≢false, false_from_ne_true}
use Rattle.std.proofs.lemmas.List.Elements.{filter-append}
use Rattle.rq_cells.specs.declared.head.Head.{Head}
use Rattle.rq_cells.specs.declared.cell.Cell.{Cell}
use Rattle.rq_cast.specs.declared.choice.Choice.{Choice}
use Rattle.rq_cast.specs.declared.choice.Rival.{Rival}
use Rattle.rq_cast.specs.Searching.{counted}
use Rattle.rq_cast.specs.Streams.{one_if}
use Rattle.rq_cast.specs.Taken.{has_head, known_packets, received_packets}
use Rattle.rq_cast.specs.Votes.{votes_for, votes_against, is_same, rival_for, rival_cells, Lead, LeadBy, IsTally}
use Rattle.rq_cast.specs.PartReceiving.{IsNextRival, TakesPlace}
use Rattle.rq_cast.proofs.Leads.{first_lead, more_lead, less_lead, gone_lead, swapped_lead, alone_lead}

-- ---- heads that are the same

pub same_is : (h k : Head) → is_same h k ≡ true → k ≡ h
same_is h k is = search rules

pub same_own : (h : Head) → is_same h h ≡ true
same_own h = search rules

same_differ : (h k : Head) → is_same h k ≡ false → h ≢ k
same_differ h k other is = true≢false (sym (same_own h) ∙ ap (is_same h) is ∙ other)

-- a head isn't two that differ
not_both : (h k l : Head) → is_same k l ≡ false → is_same h k ≡ true → is_same h l ≡ false
not_both h k l other is = subst (λ (x : Head). is_same x l ≡ false) (same_is h k is) other

not_back : (k l : Head) → is_same k l ≡ false → is_same l k ≡ false
not_back k l other = false_from_ne_true (is_same l k) (λ is. same_differ k l other (same_is l k is))

-- ---- one cell more

one_filtered : (b : Bool) (cell : Cell) → length (if b then cell ∷ [] else []) ≡ one_if b
one_filtered true cell = refl
one_filtered false cell = refl

module _ (h : Head) (cells : List Cell) (cell : Cell) where
  pub for_more : votes_for h (cells ++ cell ∷ []) ≡ votes_for h cells + one_if (has_head h cell)
  for_more =
      ap length (filter-append (has_head h) cells (cell ∷ [])) ∙ length-append (filter (has_head h) cells) (filter (has_head h) (cell ∷ []))
      ∙ ap (λ n. votes_for h cells + n) (one_filtered (has_head h cell) cell)

  pub against_more : votes_against h (cells ++ cell ∷ []) ≡ votes_against h cells + one_if (not (has_head h cell))
  against_more =
      let p = λ (c : Cell). not (has_head h c) in
      ap length (filter-append p cells (cell ∷ [])) ∙ length-append (filter p cells) (filter p (cell ∷ []))
      ∙ ap (λ n. votes_against h cells + n) (one_filtered (not (has_head h cell)) cell)

-- no cell has the head
pub none_with : (h : Head) (cells : List Cell) → votes_for h cells ≡ 0 → received_packets h cells ≡ []
none_with h cells none = by (filter (has_head h) cells) refl
  where
    by : (xs : List Cell) → filter (has_head h) cells ≡ xs → received_packets h cells ≡ []
    by [] is = ap (λ (ys : List Cell). known_packets h.configuration (map (λ (c : Cell). c.packet) ys)) is
    by (x ∷ xs) is = absurd (omega (arith, none, ap length is))

-- ---- the next rival

module _ (x head : Head) (cells : ℕ) (other : is_same head x ≡ false) where
  abbrev LeadWith : Head → ℕ → ℕ → Option Rival → Type 0
  LeadWith h a o rival = Lead (is_same h head) cells (rival_for h rival) (a + one_if (is_same h x)) (o + one_if (not (is_same h x)))

  abbrev IsApart : Option Rival → Type 0
  IsApart rival = IfSome rival (λ r. (is_same head r.head ≡ false) × (0 < r.cells))

  abbrev CountsFew : ℕ → Option Rival → Type 0
  CountsFew n rival = (cells + rival_cells rival ≤ n) × IsApart rival

  pub next_lead : (h : Head) (rival next : Option Rival) (n a o : ℕ) → cells + rival_cells rival ≤ n → n < 2 ^ 64 - 1 → IsApart rival
      → IsNextRival rival x next → Lead (is_same h head) cells (rival_for h rival) a o → LeadWith h a o next
  next_lead h None next n a o few less apart is lead =
      subst (LeadWith h a o) (sym is) (first_lead (is_same h head) (is_same h x) cells a o (not_both h head x other) lead)
  next_lead h (Some r) next n a o few less apart is lead = by (is_same r.head x) refl
    where
      by : (b : Bool) → is_same r.head x ≡ b → LeadWith h a o next
      by true same =
          let x_is : x ≡ r.head = same_is r.head x same in
          let whole : r.cells + 1 ≡ counted (r.cells + 1) = omega (arith, few, less) in
          subst (LeadWith h a o) (sym (is.0 (sym x_is)))
          (subst (λ m. LeadWith h a o (Some (record { head = x; cells = m }))) whole
          (more_lead (is_same h head) (is_same h x) cells r.cells a o (not_both h head x other)
          (subst (λ (k : Head). Lead (is_same h head) cells (Some (is_same h k, r.cells)) a o) (sym x_is) lead)))
      by false differs =
          let apart_is : r.head ≢ x = same_differ r.head x differs in
          elim (cases_lt 1 r.cells) [
            | inl some ↦ subst (LeadWith h a o) (sym (is.1 apart_is some))
                (less_lead (is_same h head) (is_same h r.head) (is_same h x) cells r.cells a o (not_both h head x other) (not_both h r.head x differs) some lead)
            | inr last ↦ subst (LeadWith h a o) (sym (is.2 apart_is last))
                (gone_lead (is_same h head) (is_same h r.head) (is_same h x) cells r.cells a o (not_both h head x other) (not_both h r.head x differs)
                (omega (arith, last, apart.1)) lead)
          ]

  pub next_tally : (rival next : Option Rival) (n : ℕ) → cells + rival_cells rival ≤ n → IsApart rival → IsNextRival rival x next → CountsFew (n + 1) next
  next_tally None next n few apart is = subst (CountsFew (n + 1)) (sym is) (omega (arith, few), (other, omega arith))
  next_tally (Some r) next n few apart is = by (is_same r.head x) refl
    where
      by : (b : Bool) → is_same r.head x ≡ b → CountsFew (n + 1) next
      by true same = subst (CountsFew (n + 1)) (sym (is.0 (sym (same_is r.head x same)))) (omega (arith, few), (other, omega arith))
      by false differs =
          let apart_is : r.head ≢ x = same_differ r.head x differs in
          elim (cases_lt 1 r.cells) [
            | inl some ↦ subst (CountsFew (n + 1)) (sym (is.1 apart_is some)) (omega (arith, few), (apart.0, omega (arith, some)))
            | inr last ↦ subst (CountsFew (n + 1)) (sym (is.2 apart_is last)) (omega (arith, few), tt)
          ]

-- ---- another head takes the place of that in use

module _ (x : Head) (mid new : Choice) (other : is_same mid.head x ≡ false) (place : TakesPlace mid x true new) where
  abbrev n : ℕ
  n = place.0

  at_mid : (h : Head) (a o : ℕ) → LeadBy h mid a o → Lead (is_same h mid.head) mid.cells (Some (is_same h x, n)) a o
  at_mid h a o lead = subst (λ r. Lead (is_same h mid.head) mid.cells (rival_for h r) a o) place.1 lead

  module _ (h : Head) (a o : ℕ) where
    placed : (rival : Option Rival) → new.rival ≡ rival → Lead (is_same h x) n (rival_for h rival) a o → LeadBy h new a o
    placed rival is lead =
        subst (λ (k : Head × ℕ × Option Rival). Lead (is_same h k.0) k.1 (rival_for h k.2) a o)
        (λ i. (sym place.3 i, sym place.4 i, sym is i)) lead

    pub place_lead : LeadBy h mid a o → LeadBy h new a o
    place_lead lead = elim (cases_lt 0 mid.cells) [
      | inl some ↦ placed (Some (record { head = mid.head; cells = mid.cells })) (place.5 some)
          (swapped_lead (is_same h mid.head) (is_same h x) mid.cells n a o (not_both h mid.head x other) (at_mid h a o lead))
      | inr none ↦
          let nothing : mid.cells ≡ 0 = omega (arith, none) in
          placed None (place.6 nothing)
          (alone_lead (is_same h mid.head) (is_same h x) mid.cells n a o (not_both h mid.head x other) nothing (at_mid h a o lead))
    ]

    -- that which was in use doesn't lead then
    pub not_led : is_same h mid.head ≡ true → LeadBy h mid a o → o < a → ⊥
    not_led used lead more =
        let apart = not_both h mid.head x other used in
        let at : Lead true mid.cells (Some (false, n)) a o =
        subst (λ (k : Bool × Bool). Lead k.0 mid.cells (Some (k.1, n)) a o) (λ i. (used i, apart i)) (at_mid h a o lead) in
        absurd (omega (arith, at, more, place.2))

  pub place_tally : (m : ℕ) → mid.cells + rival_cells mid.rival ≤ m → IsTally m new
  place_tally m few = elim (cases_lt 0 mid.cells) [
    | inl some ↦ record {
      few = omega (arith, few, ap rival_cells place.1, place.4, ap rival_cells (place.5 some));
      apart = subst (λ (k : Head × Option Rival). IfSome k.1 (λ r. (is_same k.0 r.head ≡ false) × (0 < r.cells))) (λ i. (sym place.3 i, sym (place.5 some) i))
          (not_back mid.head x other, some);
    }
    | inr none ↦
        let gone = place.6 (omega (arith, none)) in
        record {
          few = omega (arith, few, ap rival_cells place.1, place.4, ap rival_cells gone);
          apart = subst (λ (k : Option Rival). IfSome k (λ r. (is_same new.head r.head ≡ false) × (0 < r.cells))) (sym gone) tt;
        }
  ]
