use Rattle.std.proofs.Common.{◌≡◌, sym, subst, ◌∙◌, drop}
use Rattle.rq_cells.specs.Wanted.{wish_of}
use Rattle.rq_cells.specs.Search.{IsLookedAt, place_of}
use Rattle.rq_cells.proofs.Walks.{continues_all}
use Rattle.rq_cells.proofs.search.CellSearch.feed.Goals as goal

pub invariant_of-self-2 : goal.invariant_of-self-2
invariant_of-self-2 c =
    let w = wish_of c.self.inside.wanted in
    let walked = c.in_ok-walked.walked in
    let left = c.remove_front.new.bytes.items in
    let is : left ≡ drop (place_of walked.search) c.as_slice-bytes.result.now =
    c.remove_front.ensures ∙ (λ i. drop (c.place.ensures i) (sym c.as_slice-bytes.ensures.value i)) in
    continues_all w left walked.looked walked.notes.items
    (subst (λ xs. IsLookedAt w xs walked.looked walked.notes.items) (sym is) c.in_ok-walked.ensures.walked.left)
