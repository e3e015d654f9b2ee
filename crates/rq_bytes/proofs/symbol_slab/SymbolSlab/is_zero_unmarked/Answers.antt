-- What the check leaves to show of `symbol_slab::SymbolSlab::is_zero_unmarked`.
use Rattle.std.proofs.Common.{◌≡◌, ◌↔◌, ℕ, ◌*◌, ◌<◌, List, [], Option, false, length, replicate, get_or, refl, sym, ap, ◌∙◌, arith, inl, inr}
use Rattle.std.proofs.lemmas.Bool.{cases_eq, false≢true}
use Rattle.rq_bytes.specs.Ranges.{range_of}
use Rattle.rq_bytes.specs.SymbolSlab.{Slab}
use Rattle.rq_bytes.proofs.SlabFacts.{HoldsSlab, holds_slab, count_is, size_is, range_in, length-range_at}
use Rattle.rq_bytes.proofs.symbol_slab.SymbolSlab.is_zero_unmarked.Goals as goal
use Rattle.rq_bytes.proofs.symbol_slab.SymbolSlab.is_zero_unmarked.Goals.{else-not-marks-i-via-then-not-marks-i+else-not-is_zero, else-not-marks-i-via-else-not-marks-i}

-- a symbol is zeros where its octets in the buffer are
zeros_there : {bytes : List ℕ} {count size : ℕ} {order : Option (List ℕ)} {slab : Slab} (is : HoldsSlab bytes count size order slab) (i : ℕ) (old octets : List ℕ) → i < count → old ≡ bytes → octets ≡ range_of old (i * size) size
    → (octets ≡ replicate (length octets) 0) ↔ (get_or slab.values i [] ≡ replicate slab.symbol_size 0)
zeros_there {slab = slab} is i old octets lt same there =
    let inside : i < length slab.values = omega (arith, count_is is) in
    let read = there ∙ range_in is i _ old inside (ap (λ s. i * s) (size_is is)) same in
    let long = ap length read ∙ length-range_at is i inside ∙ size_is is in
    (λ zeros. sym read ∙ zeros ∙ ap (λ n. replicate n 0) long, λ zeros. read ∙ zeros ∙ ap (λ n. replicate n 0) (sym long))

pub bounds-marks-i : goal.bounds-marks-i
bounds-marks-i c = omega (arith, c.requires, count_is (holds_slab c.self.inside c.args.self.now c.self.view_is c.self.invariant))

pub returns-then-not-is_zero : goal.returns-then-not-is_zero
returns-then-not-is_zero c =
    let i = c.loop-i.i in
    let is = holds_slab c.self.inside c.args.self.now c.self.view_is c.self.invariant in (
      λ e. absurd (false≢true e),
      λ zeros. absurd (false≢true (sym c.if-not-is_zero.true ∙ c.is_zero.ensures.1 ((zeros_there is i c.as_slice.result.now c.range.result.now (omega arith) c.as_slice.ensures.value c.range.ensures).1
          (zeros i (omega (arith, count_is is)) c.if-not-marks-i.true)))),
    )

pub loop-i-preserved : goal.loop-i-preserved
loop-i-preserved c = λ k l unmarked. elim (cases_eq k c.loop-i.i) [
  | inr d ↦ c.loop-i.invariant k (omega arith) unmarked
  | inl e ↦ elim c.else-not-marks-i.branch [
    | else-not-marks-i-via-then-not-marks-i+else-not-is_zero w ↦
        let is = holds_slab c.self.inside c.args.self.now c.self.view_is c.self.invariant in
        rw e ((zeros_there is c.loop-i.i w.as_slice.result.now w.range.result.now (omega arith) w.as_slice.ensures.value w.range.ensures).0 (w.is_zero.ensures.0 w.if-not-is_zero.false))
    | else-not-marks-i-via-else-not-marks-i w ↦ absurd (false≢true (sym unmarked ∙ ap (λ j. get_or c.args.marks.now j false) e ∙ w.if-not-marks-i.false))
  ]
]

pub returns : goal.returns
returns c = (λ _ i l unmarked. c.loop-i.invariant i (omega (arith, count_is (holds_slab c.self.inside c.args.self.now c.self.view_is c.self.invariant))) unmarked, λ _. refl)
