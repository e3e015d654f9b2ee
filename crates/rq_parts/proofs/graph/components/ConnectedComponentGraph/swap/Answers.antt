use Rattle.std.proofs.Common.{◌-◌, ◌≤◌, ℕ, length, ap, subst, sym, arith, ◌∙◌}
use Rattle.std.specs.List.{All}
use Rattle.std.proofs.lemmas.List.Edits.{length-swap}
use Rattle.rq_parts.specs.ArrayMaps.{Numbers}
use Rattle.rq_parts.specs.ConnectedComponentGraph.{Components}
use Rattle.rq_parts.proofs.ListChanges.{All-swap}
use Rattle.rq_parts.proofs.ComponentLaws.{labels_kept}
use Rattle.rq_parts.proofs.graph.components.ConnectedComponentGraph.swap.Goals as goal

pub invariant_of-self : goal.invariant_of-self
invariant_of-self c =
    let g = c.self.inside in
    let i = c.args.node1 - g.labels.start in
    let j = c.args.node2 - g.labels.start in
    let small = λ (label : ℕ). label ≤ g.created in
    let nodes = ap (λ (v : Components). length v.labels) c.self.view_is in
    labels_kept c.swap.new.self c.self.invariant (record {
      start = ap (λ (n : Numbers). n.start) c.swap.ensures;
      len = ap (λ (n : Numbers). length n.values) c.swap.ensures ∙ length-swap g.labels.values i j;
    })
    (subst (λ (n : Numbers). All small n.values) (sym c.swap.ensures) (All-swap small g.labels.values i j 0 (omega arith) (omega arith) c.self.invariant.labels))
