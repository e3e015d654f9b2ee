-- What callers see of graphs.
use Rattle.std.specs.Prelude.{ℕ, ◌≡◌, true, Bool, List, map}
use Rattle.std.specs.List.Sorted.{IsNonDecreasingBy}
use Rattle.rq_parts.specs.declared.graph.UndirectedGraph.TheInside.{Inside}

-- each edge from both of its ends, as pairs of a node and a neighbour, and whether the edges may be looked up
pub record Graph : Type 0 where
  pub ends : List (ℕ × ℕ)
  pub built : Bool

-- the nodes that have an edge
abbrev pub nodes_of : List (ℕ × ℕ) → List ℕ
nodes_of ends = map (λ end. end.0) ends

-- a graph that was built has its nodes in ascending order
abbrev pub IsOrderedWhereBuilt : Inside → Type 0
IsOrderedWhereBuilt g = g.is_built ≡ true → IsNonDecreasingBy (λ end. end.0) g.ends.items
