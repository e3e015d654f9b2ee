use Rattle.std.proofs.Common.{◌≡◌, ◌*◌, length, map, take, drop}
use Rattle.std.specs.List.{range_with_len}
use Rattle.rq_cast.proofs.parts.hashes_of.Given as goal

-- the symbols so far
abbrev pub invariant-loop-i : goal.invariant-loop-i
invariant-loop-i l = record {
  long : length l.messages ≡ 16;
  symbols : map (λ m. m.now) (take l.i l.messages) ≡ map (λ k. take l.size (drop (k * l.size) l.fn.symbols)) (range_with_len 0 l.i);
}
