use Rattle.std.proofs.Common.{ℕ, ◌≡◌, ◌+◌, ◌-◌, ◌<◌, ◌↔◌, true, Vec, List, Global, length, get_or, sym, ap, ◌∙◌, subst, arith}
use Rattle.std.specs.List.{Contains}
use Rattle.std.specs.List.Sorted.{IsNonDecreasingBy}
use Rattle.std.proofs.lemmas.List.{get_or-map, length-map}
use Rattle.rq_parts.specs.UndirectedGraph.{Graph, nodes_of}
use Rattle.rq_parts.proofs.NodeLists.{AreDistinctOf, distinct_known, distinct_more, distinct_all, firsts_rise}
use Rattle.rq_parts.proofs.graph.UndirectedGraph.nodes.Goals as goal
use Rattle.rq_parts.proofs.graph.UndirectedGraph.nodes.Goals.{then-not-is_last+in_ok-push, else-not-is_last}

-- that a node is the last of a list
abbrev EndsWith : List ℕ → ℕ → Type 0
EndsWith nodes x = (0 < length nodes) × (get_or nodes (length nodes - 1) 0 ≡ x)

pub loop-end-preserved : goal.loop-end-preserved
loop-end-preserved c =
    let ends = c.as_slice-end-items.result.now in
    let i = c.loop-end.end-index in
    let first = λ (end : ℕ × ℕ). end.0 in
    let x : ℕ = (get_or ends i (0, 0)).0 in
    let is : x ≡ get_or (nodes_of ends) i 0 = sym (get_or-map first ends i (0, 0) 0 (omega arith)) in
    let below : i < length ends = omega arith in
    let built : c.self.inside.is_built ≡ true = ap (λ (g : Graph). g.built) c.self.view_is ∙ c.requires in
    let rise = firsts_rise ends (subst (IsNonDecreasingBy first) (sym c.as_slice-end-items.ensures.value) (c.self.invariant built)) in
    elim c.if-not-is_last.branch [
      | then-not-is_last+in_ok-push w ↦
          subst (AreDistinctOf (nodes_of ends) (i + 1)) (sym (ap (λ (v : Vec ℕ Global). v.items) w.nodes-is ∙ w.in_ok-push.ensures.items))
          (distinct_more x rise (omega (arith, length-map ends first)) c.loop-end.invariant is
          (λ there. let yes : c.is_last.result ≡ true = c.is_last.ensures.1 (subst (λ l. EndsWith l x) (sym c.as_slice.ensures.value) there) in let no = w.if-not-is_last.true in absurd (cc)))
      | else-not-is_last w ↦
          subst (λ (v : Vec ℕ Global). AreDistinctOf (nodes_of ends) (i + 1) v.items) (sym w.nodes-is)
          (distinct_known x c.loop-end.invariant is (subst (λ l. EndsWith l x) c.as_slice.ensures.value (c.is_last.ensures.0 w.if-not-is_last.false)))
    ]

pub returns-clause-all : goal.returns-clause-all
returns-clause-all c =
    let ends = c.as_slice-end-items.result.now in
    let whole : c.loop-end.end-index ≡ length (nodes_of ends) = omega (arith, length-map ends (λ (end : ℕ × ℕ). end.0)) in
    subst (λ (l : List (ℕ × ℕ)). (node : ℕ) → Contains c.loop-end.nodes.items node ↔ Contains (nodes_of l) node) (c.as_slice-end-items.ensures.value ∙ ap (λ (g : Graph). g.ends) c.self.view_is)
    (distinct_all (subst (λ n. AreDistinctOf (nodes_of ends) n c.loop-end.nodes.items) whole c.loop-end.invariant))
