-- A block of which was found that what was received doesn't determine it, or is contradictory.
use Rattle.std.proofs.Common.{◌≡◌, ◌⊎◌, ◌≤◌, inl, inr, ℕ, List, Bool, true, false, not, Option, None, Some, Vec, Global, refl, sym, ap, ◌∙◌, subst}
use Rattle.std.specs.Prelude.{is_some, IfSome}
use Rattle.std.specs.Option.{ForSome}
use Rattle.std.proofs.lemmas.Bool.{cases_eq}
use Rattle.rq_algebra.specs.Systems.{at}
use Rattle.rq_standard.specs.declared.row.TableRow.{TableRow}
use Rattle.rq_standard.specs.Headline.{known_ids, DetermineBlock}
use Rattle.rq_standard.specs.ReceivedBlock.{ReceivedBlock, with_received, IsContradictory}
use Rattle.rq_standard.specs.Received.{or_later}
use Rattle.rq_standard.specs.IdLists.{IsListOf}
use Rattle.rq_block.specs.Payloads.{AddsUnlessThere}
use Rattle.rq_block.specs.BlockSolutions.{IsHomogeneousFor}
use Rattle.rq_block.specs.Known.{IsHomogeneousOf, SolvesEsi}
use Rattle.rq_block.proofs.Payloads.{added_elsewhere}
use Rattle.rq_block.proofs.ReceivedEquations.{known-more}
use Rattle.rq_block.proofs.Undetermined.{shows_known}
use Rattle.rq_standard.proofs.Contradictions.{contradicts_more}

-- a payload of an id that was received already
pub later-stays : (o later : Option (List ℕ)) → is_some o ≡ true → or_later o later ≡ o
later-stays None later received = absurd (cc received)
later-stays (Some x) later received = refl

pub repeat-same : (was now : ℕ → Option (List ℕ)) (esi : ℕ) (payload : List ℕ) (kept : Bool) → is_some (was esi) ≡ not kept → AddsUnlessThere esi payload was now → kept ≡ false → (e : ℕ) → now e ≡ was e
repeat-same was now esi payload kept received grown same_ids e = elim (cases_eq esi e) [
  | inl is ↦ grown e ∙ later-stays (was e) _ (subst (λ k. is_some (was k) ≡ true) is (received ∙ ap not same_ids))
  | inr ne ↦ added_elsewhere was now esi payload grown e ne
]

-- ---- a contradiction

contradictory-same : (h : ReceivedBlock) (received : ℕ → Option (List ℕ)) → ((e : ℕ) → received e ≡ h.received e) → IsContradictory h → IsContradictory (record h { received = received })
contradictory-same h received same c = subst (λ (f : ℕ → Option (List ℕ)). IsContradictory (record h { received = f })) (λ i e. sym (same e) i) c

-- whatever comes after it
pub contradictory-later : (h : ReceivedBlock) (received : ℕ → Option (List ℕ)) (esi : ℕ) (payload : List ℕ) → AddsUnlessThere esi payload h.received received → IsContradictory h → IsContradictory (record h { received = received })
contradictory-later h received esi payload grown c = contradictory-same (with_received h esi payload) received grown (contradicts_more h esi payload c)

-- ---- a column that shows that ids don't determine a block

abbrev Shows : TableRow → ℕ → (ℕ → Bool) → Option (Vec ℕ Global) → Type 0
Shows row k has column = ForSome column (IsHomogeneousOf row k has)

-- one more was received, whose equation the column solves
module _ (row : TableRow) (k : ℕ) (has now : ℕ → Bool) (esi : ℕ) (fits : k ≤ row.extended_symbols) (more : (e : ℕ) → now e ≡ true → (has e ≡ true) ⊎ (e ≡ esi)) where
  pub shown-more : (column : Option (Vec ℕ Global)) → ForSome column (λ octets. SolvesEsi row k esi octets.items) → Shows row k has column → Shows row k now column
  shown-more column solves shows = λ octets is.
      let old = shows octets is in
      record {
        count = old.count;
        elements = old.elements;
        solves = record {
          precode = old.solves.precode;
          each = λ x known. elim (known-more row k has now (λ e. e ≡ esi) fits more x known) [ inl was ↦ old.solves.each x was | inr new ↦ rw (new.2, new.1) (solves octets is) ];
        };
        nonzero = old.nonzero;
      }

-- none shows nothing
pub shown-none : (row : TableRow) (k : ℕ) (has : ℕ → Bool) → Shows row k has None
shown-none row k has = λ octets is. absurd (cc is)

-- one that was found for the equations of a list of all known ids
pub shown-found : (row : TableRow) (k : ℕ) (has : ℕ → Bool) (ids : List ℕ) (column : Option (Vec ℕ Global)) → IsListOf (known_ids row k has) ids → IfSome column (IsHomogeneousFor row ids) → Shows row k has column
shown-found row k has ids None list shows = shown-none row k has
shown-found row k has ids (Some found) list shows = λ octets is.
    let same : found ≡ octets = cc is in
    subst (IsHomogeneousOf row k has) same (shows_known row (known_ids row k has) ids list (Some found) shows)

-- so they don't
pub shown-undetermined : (row : TableRow) (k : ℕ) (has : ℕ → Bool) (column : Option (Vec ℕ Global)) → is_some column ≡ true → Shows row k has column → DetermineBlock row k has → ⊥
shown-undetermined row k has None some shows determined = absurd (cc some)
shown-undetermined row k has (Some octets) some shows determined = let shown = shows octets refl in shown.nonzero (determined (at octets.items) shown.elements shown.solves)

-- a payload that is kept where none of its id was there
pub came-more : (was now : ℕ → Option (List ℕ)) (esi : ℕ) (payload : List ℕ) → AddsUnlessThere esi payload was now → (e : ℕ) → is_some (now e) ≡ true → (is_some (was e) ≡ true) ⊎ (e ≡ esi)
came-more was now esi payload grown e came = elim (cases_eq esi e) [
  | inl is ↦ inr (sym is)
  | inr apart ↦ inl (ap is_some (sym (added_elsewhere was now esi payload grown e apart)) ∙ came)
]
