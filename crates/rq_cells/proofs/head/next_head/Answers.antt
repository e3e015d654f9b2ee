use Rattle.std.proofs.Common.{◌≡◌, ℕ, ◌+◌, ◌<◌, ◌≤◌, sym, ap, subst, ◌∙◌, length, drop, arith, None, inl, inr}
use Rattle.std.proofs.lemmas.Bool.{cases_lt}
use Rattle.std.proofs.lemmas.List.{take_rest, length-drop}
use Rattle.rq_cells.specs.Cells.{head_at}
use Rattle.rq_cells.specs.Found.{HoldNoHead}
use Rattle.rq_cells.proofs.HeadBytes.{none_in_short}
use Rattle.rq_cells.proofs.Scanning.{headless_within, none_skipped}
use Rattle.rq_cells.proofs.head.next_head.Goals as goal
use Rattle.rq_cells.proofs.head.next_head.Goals.{After-headless_places-at}

-- behind the places at which no head begins
module _ (c : After-headless_places-at) where
  abbrev here : ℕ
  here = c.places.at + c.headless_places-at.result

  headless : HoldNoHead (drop c.places.at c.args.bytes.now) c.headless_places-at.result
  headless = subst (λ xs. HoldNoHead xs c.headless_places-at.result) (take_rest c.args.bytes.now c.places.at) c.headless_places-at.ensures

  below : here < length c.args.bytes.now
  below = headless_within c.args.bytes.now c.places.at c.headless_places-at.result c.places-test.true headless

  none_before : (i : ℕ) → c.args.from ≤ i → i < here → head_at c.args.key.now (drop i c.args.bytes.now) ≡ None
  none_before i from less = elim (cases_lt i c.places.at) [
    | inl first ↦ c.places.invariant.none i from first
    | inr more ↦ none_skipped c.args.key.now c.args.bytes.now c.places.at c.headless_places-at.result headless i more less
  ]

pub places-preserved : goal.places-preserved
places-preserved c =
    let there = (goal.at.places-preserved c).After-headless_places-at in
    let bytes = c.args.bytes.now in
    let here = here there in
    let none : head_at c.args.key.now (drop here bytes) ≡ None = ap (head_at c.args.key.now) (sym (take_rest bytes here)) ∙ sym c.read.ensures ∙ c.in_default.is in
    let below = below there in
    record {
      behind = omega (arith, c.places.invariant.behind);
      within = omega (arith, below);
      none = λ i from less. elim (cases_lt i here) [
        | inl first ↦ none_before there i from first
        | inr more ↦ let same : here ≡ i = omega (arith, more, less) in subst (λ k. head_at c.args.key.now (drop k bytes) ≡ None) same none
      ];
    }

pub returns-in-Some : goal.returns-in-Some
returns-in-Some c =
    let there = (goal.at.returns-in-Some c).After-headless_places-at in
    let bytes = c.args.bytes.now in (
      omega (arith, c.places.invariant.behind),
      ap (head_at c.args.key.now) (sym (take_rest bytes (here there))) ∙ sym c.read.ensures ∙ c.in-Some.is,
      none_before there,
    )

pub returns : goal.returns
returns c = λ i from. elim (cases_lt i c.places.at) [
  | inl first ↦ c.places.invariant.none i from first
  | inr more ↦ none_in_short c.args.key.now (drop i c.args.bytes.now) (omega (arith, more, c.places-test.false, length-drop i c.args.bytes.now))
]
