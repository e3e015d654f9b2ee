use Rattle.std.proofs.Common.{◌≡◌, sym, ap, subst, Ok, vec_len}
use Rattle.rq_standard.specs.TableRows.{IsTable, built_in_rows}
use Rattle.rq_standard.proofs.RowLaws.{built_in_table}
use Rattle.rq_tables.proofs.Lookups.{made_built_in}
use Rattle.rq_tables.proofs.systematic_constants.SystematicTable.built_in.Goals as goal

made : (c : goal.In_ok-push_rows) → c.push_rows.new.rows.items ≡ built_in_rows
made c = made_built_in c.in_ok-rows.rows.items c.push_rows.new.rows.items (vec_len c.in_ok-rows.rows) c.in_ok-rows.ensures.items c.in_ok-rows.ensures.len c.in_ok-push_rows.ensures.rows

pub invariant_of-result : goal.invariant_of-result
invariant_of-result c = subst IsTable (sym (made c)) built_in_table

pub returns : goal.returns
returns c = ap Ok (sym (made c))
