use Rattle.std.proofs.Common.{◌-◌, get_or, replicate, ap, sym, ◌∙◌, arith}
use Rattle.rq_parts.specs.ArrayMaps.{Numbers}
use Rattle.rq_parts.proofs.ComponentLaws.{set_keeps}
use Rattle.rq_bytes.proofs.ZeroRows.{zeros_made}
use Rattle.rq_parts.proofs.Zeros.{zeros_more}
use Rattle.rq_parts.proofs.graph.components.make_zeros.Goals as goal

pub loop-key-preserved : goal.loop-key-preserved
loop-key-preserved c =
    let old = c.loop-key.numbers in
    let start = c.args.numbers.now.start in
    let keys = set_keeps old c.insert.new.self (c.loop-key.key - old.start) 0 c.insert.ensures in
    record {
      start = keys.start ∙ c.loop-key.invariant.start;
      len = keys.len ∙ c.loop-key.invariant.len;
      zeros = λ k lt.
          ap (λ (n : Numbers). get_or n.values k 0) c.insert.ensures
          ∙ zeros_more old.values (c.loop-key.key - start) (c.loop-key.key - old.start) (ap (λ n. c.loop-key.key - n) (sym c.loop-key.invariant.start)) (omega arith) c.loop-key.invariant.zeros k (omega arith);
    }

pub returns-clause-zeros : goal.returns-clause-zeros
returns-clause-zeros c =
    let new = c.loop-key.numbers.values in
    let len = c.loop-key.invariant.len in
    zeros_made new (λ k lt. c.loop-key.invariant.zeros k (omega arith)) ∙ ap (λ n. replicate n 0) len
