use Rattle.std.proofs.Common.{◌∙◌, sym, ap, List}
use Rattle.rq_standard.specs.declared.row.TableRow.{TableRow}
use Rattle.rq_standard.specs.Parameters.{greatest_within}
use Rattle.rq_standard.specs.TableRows.{no_row}
use Rattle.rq_tables.proofs.Lookups.{within_taken, within_left, within_end}
use Rattle.rq_tables.proofs.systematic_constants.SystematicTable.greatest_within.Goals as goal
use Rattle.rq_tables.proofs.systematic_constants.SystematicTable.greatest_within.Goals.{then-from-limit, else-from-limit}

pub loop-row-preserved : goal.loop-row-preserved
loop-row-preserved c =
    let rows = c.deref-row-items.result.now in
    let at = c.loop-row.row-index in
    elim c.if-from-limit.branch [
      | then-from-limit w ↦
          within_taken c.args.limit c.loop-row.greatest c.if-from-limit.greatest rows at no_row c.loop-row-test.true (rw c.from.ensures at w.if-from-limit.true) (w.greatest-is ∙ w.max-greatest.ensures) ∙ c.loop-row.invariant
      | else-from-limit w ↦
          rw w.greatest-is (within_left c.args.limit c.loop-row.greatest rows at no_row c.loop-row-test.true (rw c.from.ensures at w.if-from-limit.false) ∙ c.loop-row.invariant)
    ]

pub returns : goal.returns
returns c =
    sym (within_end c.args.limit c.loop-row.greatest c.deref-row-items.result.now c.loop-row.row-index c.loop-row-test.false)
    ∙ c.loop-row.invariant
    ∙ ap (λ (rows : List TableRow). greatest_within c.args.limit rows) (c.deref-row-items.ensures.value ∙ c.self.view_is)
