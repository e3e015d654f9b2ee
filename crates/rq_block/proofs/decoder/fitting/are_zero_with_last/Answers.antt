use Rattle.std.proofs.Common.{◌≡◌, ℕ, sym, ap, ◌∙◌, arith, below_more, subst}
use Rattle.rq_algebra.specs.Systems.{at}
use Rattle.rq_bytes.specs.SymbolSlab.{symbol_in}
use Rattle.rq_standard.specs.OctetField.{octets}
use Rattle.rq_standard.specs.Octets.{octet_power}
use Rattle.rq_bytes.proofs.ZeroRows.{zeros_read, zeros_made}
use Rattle.rq_block.proofs.HdpcSumSteps.{AddsMultiple, multiple_added, multiple_at}
use Rattle.rq_block.proofs.Summing.{place_of_plain}
use Rattle.rq_block.proofs.decoder.fitting.are_zero_with_last.Goals as goal
use Rattle.rq_block.proofs.decoder.fitting.are_zero_with_last.Goals.{After-fma}

module _ (c : After-fma) where
  write : AddsMultiple c.loop-i.sums c.fma.new.self c.loop-i.i c.args.height c.alpha.result
  write = multiple_added c.loop-i.sums c.fma.new.self c.loop-i.i c.args.height c.alpha.result c.loop-i.invariant.order (omega arith) c.fma.ensures

  -- an octet of the sum, with its multiple of the last symbol
  sum : (p : ℕ) → at (symbol_in c.fma.new.self c.loop-i.i) p ≡ octets.add (at (symbol_in c.args.sums.now c.loop-i.i) p) (octets.mul (octet_power c.loop-i.i) (at (symbol_in c.args.sums.now c.args.height) p))
  sum =
      let kept = c.loop-i.invariant.kept in
      subst (λ a. (p : ℕ) → at (symbol_in c.fma.new.self c.loop-i.i) p ≡ octets.add (at (symbol_in c.args.sums.now c.loop-i.i) p) (octets.mul a (at (symbol_in c.args.sums.now c.args.height) p))) c.alpha.ensures
      (multiple_at c.args.sums.now c.loop-i.sums c.fma.new.self c.loop-i.i c.args.height c.alpha.result write (kept c.loop-i.i (omega arith)) (kept c.args.height (omega arith)))

pub get-requires : goal.get-requires
get-requires c =
    let write = write (goal.at.get-requires c).After-fma in
    place_of_plain c.fma.new.self c.loop-i.i write.order (omega (arith, write.count, c.loop-i.invariant.count))

pub returns-then-not-is_zero : goal.returns-then-not-is_zero
returns-then-not-is_zero c =
    let sum = sum (goal.at.returns-then-not-is_zero c).After-fma in (
      λ t. absurd (cc t),
      λ zero. sym c.if-not-is_zero.true ∙ c.is_zero.ensures.1 (zeros_made c.get.result.now (λ p _. ap (λ xs. at xs p) c.get.ensures.symbol ∙ sum p ∙ zero c.loop-i.i (omega arith) p)),
    )

pub loop-i-preserved : goal.loop-i-preserved
loop-i-preserved c =
    let invariant = c.loop-i.invariant in
    let state = (goal.at.loop-i-preserved c).After-fma in
    let write = write state in
    record {
      order = write.order;
      count = write.count ∙ invariant.count;
      kept = λ k le. write.elsewhere k (λ same. omega arith) ∙ invariant.kept k (omega arith);
      zeros = below_more _ _ invariant.zeros (λ p. sym (sum state p) ∙ sym (ap (λ xs. at xs p) c.get.ensures.symbol) ∙ zeros_read c.get.result.now (c.is_zero.ensures.0 c.if-not-is_zero.false) p);
    }
