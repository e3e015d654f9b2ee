use Rattle.std.proofs.Common.{◌++◌, ◌+◌, ◌∙◌, sym, ap, arith, List, ℕ, map}
use Rattle.rq_standard.specs.Tuple.{enc_indices, pi_indices}
use Rattle.rq_base.specs.Indices.{walk}
use Rattle.rq_base.proofs.WalkLaws.{HasWalkEnds, walk_from, pi_walk}
use Rattle.rq_base.proofs.indices.Indices.new.Goals as goal

pub returns : goal.returns
unfolding enc_indices
returns c =
    let t = c.args.source_tuple in
    let ranges = c.requires.ranges in
    let ends : HasWalkEnds c.args.pi_symbols c.args.p1 t.4 = record { some = ranges.pi_step; below = ranges.pi_step_below; bound = omega arith; above = c.requires.p1_above; near = c.requires.p1_near } in
    sym (ap (λ (xs : List ℕ). xs ++ pi_indices c.args.lt_symbols c.args.pi_symbols c.args.p1 t) (walk_from c.args.lt_symbols t.1 t.2 t.0 ranges.start_below)
    ∙ ap (λ (xs : List ℕ). walk c.args.lt_symbols t.1 t.2 t.0 ++ map (λ value. c.args.lt_symbols + value) xs) (pi_walk c.args.pi_symbols c.args.p1 t.4 t.5 t.3 ends ranges.pi_start_below))
