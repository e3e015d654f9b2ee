-- What callers see of a graph of connected components.
use Rattle.std.specs.Prelude.{◌≡◌, ℕ, ◌+◌, ◌^◌, ◌<◌, ◌≤◌, ◌==◌, ◌&&◌, not, List, length, All, if◌then◌else◌, slice_index, slice_set}
use Rattle.rq_parts.specs.declared.graph.components.ConnectedComponentGraph.TheInside.{Inside}

-- for each node a component's number, 0 outside of all components, and how many components were created
pub record Components : Type 0 where
  pub labels : List ℕ
  pub created : ℕ

-- both ends of an edge in the component of one of them, or else in a new one, unless there are as many components as nodes
abbrev pub with_edge : Components → ℕ → ℕ → Components
with_edge g node1 node2 =
    let first = slice_index g.labels node1 in
    let second = slice_index g.labels node2 in
    let next = g.created + 1 in
    if not (first == 0) && not (second == 0) then g
    else if not (first == 0) then record g { labels = slice_set g.labels node2 first }
    else if not (second == 0) then record g { labels = slice_set g.labels node1 second }
    else if g.created == length g.labels then g
    else record { labels = slice_set (slice_set g.labels node1 next) node2 next; created = next }

-- a number for each component that there may be, and one for none
pub record AreComponents (g : Inside) : Type 0 where
  pub first_node : g.labels.start ≡ 0
  pub first_parent : g.parents.start ≡ 0
  pub first_size : g.sizes.start ≡ 0
  pub few : length g.labels.values < 2 ^ 16
  pub parents : length g.parents.values ≡ length g.labels.values + 1
  pub sizes : length g.sizes.values ≡ length g.labels.values + 1
  pub created : g.created ≤ length g.labels.values
  pub labels : All (λ label. label ≤ g.created) g.labels.values
