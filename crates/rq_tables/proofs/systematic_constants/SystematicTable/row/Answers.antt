use Rattle.std.proofs.Common.{◌<◌, ◌∙◌, sym, ap, subst, refl, arith, length, List}
use Rattle.rq_standard.specs.declared.row.TableRow.{TableRow}
use Rattle.rq_standard.specs.TableRows.{row_of, IsChecked, IsTable}
use Rattle.rq_standard.proofs.RowLaws.{table_length, row_checked}
use Rattle.rq_tables.proofs.Lookups.{row_here, row_later, greatest-drop}
use Rattle.rq_tables.proofs.systematic_constants.SystematicTable.row.Goals as goal

pub loop-row-init : goal.loop-row-init
loop-row-init c =
    let enough = table_length c.self.inside.rows.items c.self.invariant in
    record {
      same = refl;
      enough = rw (c.deref-row-items.ensures.value, c.self.view_is) c.requires;
      some = rw c.deref-row-items.ensures.value (let some : 0 < length c.self.inside.rows.items = omega arith in some);
    }

pub returns-then-source_symbols-row-clause-row : goal.returns-then-source_symbols-row-clause-row
returns-then-source_symbols-row-clause-row c =
    sym (row_here c.deref-row-items.result.now c.args.source_symbols c.loop-row.row-index _ c.loop-row-test.true c.if-source_symbols-row.true)
    ∙ c.loop-row.invariant.same
    ∙ ap (λ (rows : List TableRow). row_of rows c.args.source_symbols) (c.deref-row-items.ensures.value ∙ c.self.view_is)

pub returns-then-source_symbols-row-clause-checked : goal.returns-then-source_symbols-row-clause-checked
returns-then-source_symbols-row-clause-checked c =
    let table : IsTable c.args.self.now = rw c.self.view_is at c.self.invariant in
    subst IsChecked (sym (returns-then-source_symbols-row-clause-row c)) (row_checked c.args.self.now c.args.source_symbols table c.requires).0

pub loop-row-preserved : goal.loop-row-preserved
loop-row-preserved c =
    let at = c.loop-row.row-index in
    let rest = greatest-drop c.deref-row-items.result.now c.args.source_symbols at _ c.loop-row-test.true c.if-source_symbols-row.false c.loop-row.invariant.enough in
    record {
      same = sym (row_later c.deref-row-items.result.now c.args.source_symbols at _ c.loop-row-test.true c.if-source_symbols-row.false) ∙ c.loop-row.invariant.same;
      enough = rest.0;
      some = rest.1;
    }
