-- What the check leaves to show of `octets::is_zero`.
use Rattle.std.proofs.Common.{◌≡◌, ℕ, ◌+◌, ◌-◌, ◌*◌, ◌≤◌, inl, inr, length, get_or, refl, sym, ap, ◌∙◌, arith}
use Rattle.std.proofs.lemmas.Bool.{cases_lt, false≢true}
use Rattle.std.proofs.lemmas.Simd.{get_or-chunk, length-chunk}
use Rattle.rq_bytes.proofs.ZeroRows.{zeros_read, zeros_made, or_none, or_zeros}
use lib.Lanes.{chunk}
use Rattle.rq_bytes.proofs.octets.is_zero.Goals as goal

pub returns-then-octets-block-ne0 : goal.returns-then-octets-block-ne0
returns-then-octets-block-ne0 c =
    let b = c.loop-block.block in
    let now = c.args.octets.now in
    let within : 32 * b + 32 ≤ length now = omega arith in (
      λ e. absurd (false≢true e),
      λ zeros. absurd (c.if-octets-block-ne0.true (or_zeros (chunk (32 * b) 32 now) (λ k l. get_or-chunk (32 * b) 32 now k 0 (omega (arith, length-chunk (32 * b) 32 now within)) ∙ zeros_read now zeros (32 * b + k)))),
    )

pub loop-block-preserved : goal.loop-block-preserved
loop-block-preserved c = λ k l.
    let b = c.loop-block.block in
    let now = c.args.octets.now in
    let within : 32 * b + 32 ≤ length now = omega arith in
    elim (cases_lt k (32 * b)) [
      | inl early ↦ c.loop-block.invariant k early
      | inr late ↦
          let j : ℕ = k - 32 * b in
          let back : 32 * b + j ≡ k = omega arith in
          ap (λ n. get_or now n 0) (sym back) ∙ sym (get_or-chunk (32 * b) 32 now j 0 (omega arith)) ∙ or_none (chunk (32 * b) 32 now) c.if-octets-block-ne0.false j
    ]

pub returns : goal.returns
returns c = (λ _. zeros_made c.args.octets.now (λ k l. c.loop-i.invariant k (omega arith)), λ _. refl)
