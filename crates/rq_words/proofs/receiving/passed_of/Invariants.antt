use Rattle.std.proofs.Common.{◌≡◌, map, drop}
use Rattle.rq_words.specs.Asked.{each_named}
use Rattle.rq_words.proofs.Naming.{named_behind}
use Rattle.rq_words.proofs.receiving.passed_of.Given as goal

-- what the first texts name, and then the others
abbrev pub invariant-names : goal.invariant-names
invariant-names l = record {
  behind : each_named (map (λ s. s.now) l.text-items) ≡ named_behind (map (λ n. n.items) l.passed.items) (drop l.text-index (map (λ s. s.now) l.text-items));
}
