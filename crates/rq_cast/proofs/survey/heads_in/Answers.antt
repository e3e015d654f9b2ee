use Rattle.std.proofs.Common.{◌≡◌, [], ◌-◌, drop, length, map, take, ◌∙◌, ap, sym, List, subst, arith, inl, inr}
use Rattle.std.proofs.lemmas.List.{take_rest, drop_all}
use Rattle.std.specs.Prelude.{Contains}
use Rattle.rq_cells.specs.declared.head.Head.{Head}
use Rattle.rq_cells.specs.declared.wanted.Search.TheVariants.{Found, NotYet}
use Rattle.rq_cells.specs.Wanted.{IsSearch}
use Rattle.rq_cast.proofs.SameHead.{Contains-stream, no-stream}
use Rattle.rq_cast.proofs.Listed.{Adds, listed_all, listed_more}
use Rattle.rq_cast.specs.Received.{wish_over}
use Rattle.rq_cast.proofs.survey.heads_in.Goals as goal
use Rattle.rq_cast.proofs.survey.heads_in.Goals.{then-not-is_listed+in_ok-push-in-Found, else-not-is_listed}

pub cells-preserved : goal.cells-preserved
cells-preserved c =
    let bytes = drop c.cells.at c.args.bytes.now in
    let whole : take (length c.args.bytes.now - c.cells.at) bytes ≡ bytes = take_rest c.args.bytes.now c.cells.at in
    let search = subst (λ xs. IsSearch (wish_over c.args.table.now c.args.key.now [] []) xs (Found c.in-Found.place c.in-Found.head c.in-Found.before)) whole
    (subst (IsSearch (wish_over c.args.table.now c.args.key.now [] []) (take (length c.args.bytes.now - c.cells.at) bytes)) c.in-Found.is c.in_ok-place.ensures.search) in
    let known : Adds c.cells.heads.items c.in-Found.head c.if-not-is_listed.heads.items = elim c.if-not-is_listed.branch [
      | then-not-is_listed+in_ok-push-in-Found w ↦ inr (
        ap (λ v. v.items) w.heads-is ∙ w.in_ok-push-in-Found.ensures.items,
        λ there. no-stream c.as_slice.result.now c.in-Found.head.stream (sym c.is_listed.ensures ∙ grind (arith, w.if-not-is_listed.true))
            (subst (λ (hs : List Head). Contains (map (λ h. h.stream) hs) c.in-Found.head.stream) (sym c.as_slice.ensures.value) there),
      )
      | else-not-is_listed w ↦ inl (
        ap (λ v. v.items) w.heads-is,
        subst (λ (hs : List Head). Contains (map (λ h. h.stream) hs) c.in-Found.head.stream) c.as_slice.ensures.value
            (Contains-stream c.as_slice.result.now c.in-Found.head.stream (sym c.is_listed.ensures ∙ grind (arith, w.if-not-is_listed.false))),
      )
    ] in
    listed_more (wish_over c.args.table.now c.args.key.now [] []) c.args.bytes.now c.cells.at c.in-Found.place c.in-Found.head c.cells.heads.items c.if-not-is_listed.heads.items
    c.cells.invariant search.0 known

pub returns-in-NotYet-clause-heads : goal.returns-in-NotYet-clause-heads
returns-in-NotYet-clause-heads c =
    let bytes = drop c.cells.at c.args.bytes.now in
    let whole : take (length c.args.bytes.now - c.cells.at) bytes ≡ bytes = take_rest c.args.bytes.now c.cells.at in
    let search = subst (λ xs. IsSearch (wish_over c.args.table.now c.args.key.now [] []) xs (NotYet c.in-NotYet.from c.in-NotYet.before c.in-NotYet.all)) whole
    (subst (IsSearch (wish_over c.args.table.now c.args.key.now [] []) (take (length c.args.bytes.now - c.cells.at) bytes)) c.in-NotYet.is c.in_ok-place.ensures.search) in
    listed_all (wish_over c.args.table.now c.args.key.now [] []) c.args.bytes.now c.cells.at c.cells.heads.items c.cells.invariant search.none

pub returns-clause-heads : goal.returns-clause-heads
returns-clause-heads c =
    listed_all (wish_over c.args.table.now c.args.key.now [] []) c.args.bytes.now c.cells.at c.cells.heads.items c.cells.invariant
    (λ k less. absurd (omega (arith, less, ap length (drop_all c.cells.at c.args.bytes.now c.cells-test.false))))
