use Rattle.std.proofs.Common.{◌≡◌, ℕ, ◌+◌, ◌<◌, ◌≤◌, None, length}
use Rattle.rq_algebra.specs.Systems.{at}
use Rattle.rq_bytes.specs.SymbolSlab.{symbol_in}
use Rattle.rq_standard.specs.OctetField.{octets}
use Rattle.rq_standard.specs.Octets.{octet_power}
use Rattle.rq_block.proofs.decoder.fitting.are_zero_with_last.Given as goal

-- the sums before are zero, and the others are as they were
abbrev pub invariant-loop-i : goal.invariant-loop-i
invariant-loop-i l = record {
  order : l.sums.order ≡ None;
  count : length l.sums.values ≡ l.height + 1;
  kept : (k : ℕ) → l.i ≤ k → symbol_in l.sums k ≡ symbol_in l.fn.sums k;
  zeros : (h : ℕ) → h < l.i → (p : ℕ) → octets.add (at (symbol_in l.fn.sums h) p) (octets.mul (octet_power h) (at (symbol_in l.fn.sums l.height) p)) ≡ 0;
}
