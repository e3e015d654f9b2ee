use Rattle.std.proofs.Common.{ap, ◌∙◌, subst, length, ℕ, Ok, sym}
use Rattle.std.proofs.lemmas.List.{length-map}
use Rattle.rq_parts.specs.ImmutableListMap.{AreStarts, lists_of}
use Rattle.rq_parts.proofs.KeyedLists.{starts_hold, lists_stay}
use Rattle.rq_parts.proofs.arraymap.lists.ImmutableListMapBuilder.build.Goals as goal

pub invariant_of-result : goal.invariant_of-result
invariant_of-result c =
    subst (AreStarts c.in_ok-starts.starts.items) (sym (ap length c.in_ok-values.ensures ∙ length-map c.in_ok-entries.entries.items (λ (pair : ℕ × ℕ). pair.1)))
    (starts_hold c.in_ok-starts.ensures)

pub returns : goal.returns
returns c =
    ap Ok (ap lists_of (sym c.self.view_is) ∙ lists_stay c.self.inside.entries.items c.in_ok-entries.ensures.stable c.in_ok-values.ensures c.in_ok-starts.ensures)
