use Rattle.std.proofs.Common.{◌≡◌, ℕ, List, length, sym, ap, ◌∙◌, subst, arith}
use Rattle.rq_standard.specs.Headline.{known_ids}
use Rattle.rq_standard.specs.IdLists.{IsListOf, HasDeterminedRows}
use Rattle.rq_block.specs.SourceBlockDecoder.{received_of}
use Rattle.rq_block.specs.Payloads.{has_payload}
use Rattle.rq_block.proofs.ReceivedEquations.{received_ids, held_by_decoder, received_rows, too_few}
use Rattle.rq_block.proofs.Listing.{length-known_list}
use Rattle.rq_block.proofs.Waiting.{shown-found, shown-undetermined}
use Rattle.rq_block.proofs.decoder.block.SourceBlockDecoder.find_operations.Goals as goal

pub returns-then-len-self-clause-found : goal.returns-then-len-self-clause-found
returns-then-len-self-clause-found c =
    let d = c.args.self.now in
    too_few (received_of d) d.received (held_by_decoder d c.len.ensures.ordered) (omega (arith, c.len.ensures.len, c.if-len-self.true))

pub solve_or_show-requires-clause-enough : goal.solve_or_show-requires-clause-enough
solve_or_show-requires-clause-enough c =
    let d = c.args.self.now in
    let listed = length-known_list d.row.numbers d.source_symbols d.received.entries in
    let long : length c.as_slice.result.now ≡ length (received_ids (received_of d) d.received) = ap length (c.as_slice.ensures.value ∙ c.in_ok-ids.ensures.ids) in
    omega (arith, listed, long, c.len.ensures.len, c.if-len-self.false)

pub returns-then-is_some-clause-found : goal.returns-then-is_some-clause-found
returns-then-is_some-clause-found c =
    let d = c.args.self.now in
    shown-undetermined d.row.numbers d.source_symbols (has_payload d.received) d.column (sym c.is_some.ensures ∙ c.if-is_some.true) d.shown

pub invariant_of-self-in-Undetermined-clause-shown : goal.invariant_of-self-in-Undetermined-clause-shown
invariant_of-self-in-Undetermined-clause-shown c =
    let d = c.args.self.now in
    let known = known_ids d.row.numbers d.source_symbols (has_payload d.received) in
    let list = subst (IsListOf known) (sym c.as_slice.ensures.value) c.in_ok-ids.ensures.listed in
    shown-found d.row.numbers d.source_symbols (has_payload d.received) c.as_slice.result.now c.in-Undetermined.column list
    (rw c.in-Undetermined.is at c.in_ok-solution.ensures.outcome.shown)

pub returns-clause-found : goal.returns-clause-found
returns-clause-found c =
    let d = c.args.self.now in
    let none = rw c.in-Undetermined.is at c.in_ok-solution.ensures.outcome.found in
    λ determined. subst (λ (l : List ℕ). HasDeterminedRows d.row.numbers l → ⊥) (c.as_slice.ensures.value ∙ c.in_ok-ids.ensures.ids) none (received_rows (received_of d) d.received (held_by_decoder d c.len.ensures.ordered) determined)
