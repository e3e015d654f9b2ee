use Rattle.std.proofs.Common.{◌≡◌, length, map, take, drop}
use Rattle.rq_cast.proofs.sending.rows.hashes_in.Given as goal

-- the symbols so far
abbrev pub invariant-loop-j : goal.invariant-loop-j
invariant-loop-j l = record {
  long : length l.messages ≡ 8;
  symbols : map (λ m. m.now) (take l.j l.messages) ≡ map (λ v. take l.size (drop 56 v.items)) (take l.j l.row);
}
