use Rattle.std.proofs.Common.{◌≡◌, ℕ, ◌++◌, ◌∙◌, sym, ap, subst, Ok, Option, Some, None, refl, List, vec_len, arith}
use Rattle.rq_standard.specs.declared.row.TableRow.{TableRow}
use Rattle.rq_standard.specs.TableRows.{IsTable, built_in_rows, rows_from, first_refused}
use Rattle.rq_standard.proofs.RowLaws.{further_table}
use Rattle.rq_tables.specs.SystematicTable.{refusal_or_ok}
use Rattle.rq_tables.proofs.Lookups.{made_built_in}
use Rattle.rq_tables.proofs.systematic_constants.SystematicTable.with_passing_rows.Goals as goal

-- rows that are not refused pass all checks
not_refused : (refused : Option (ℕ × ℕ)) → refusal_or_ok refused ≡ Ok tt → refused ≡ None
not_refused None e = refl
not_refused (Some found) e = absurd (cc)

made : (c : goal.In_ok-push_rows-2) → c.push_rows-2.new.rows.items ≡ built_in_rows ++ rows_from 74 c.args.rows.now
made c =
    let first = made_built_in c.in_ok-all.all.items c.push_rows.new.rows.items (vec_len c.in_ok-all.all) c.in_ok-all.ensures.items c.in_ok-all.ensures.len c.in_ok-push_rows.ensures.rows in
    let count : vec_len c.push_rows.new.rows ≡ 74 = omega (arith, c.in_ok-all.ensures.len, c.in_ok-push_rows.ensures.len) in
    c.in_ok-push_rows-2.ensures.rows
    ∙ ap (λ (rows : List TableRow). rows ++ rows_from (vec_len c.push_rows.new.rows) c.args.rows.now) first
    ∙ ap (λ (n : ℕ). built_in_rows ++ rows_from n c.args.rows.now) count

pub invariant_of-result : goal.invariant_of-result
invariant_of-result c = subst IsTable (sym (made c)) (further_table c.args.rows.now (not_refused (first_refused 0 c.args.rows.now) c.requires))

pub returns : goal.returns
returns c = ap Ok (sym (made c))
