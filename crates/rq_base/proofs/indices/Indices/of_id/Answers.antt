use Rattle.std.proofs.Common.{◌≡◌, ℕ, List, ◌<◌, ◌∙◌, sym, ap, subst}
use Rattle.std.specs.List.{All}
use Rattle.rq_standard.specs.TableRows.{intermediate_symbols, pi_symbols}
use Rattle.rq_standard.specs.Tuple.{Tuple, enc_indices}
use Rattle.rq_standard.specs.Equations.{row_indices}
use Rattle.rq_standard.proofs.PlaceLaws.{row_indices_below}
use Rattle.rq_base.proofs.indices.Indices.of_id.Goals as goal

pub returns-clause-below : goal.returns-clause-below
returns-clause-below c =
    let row = c.args.row.now.numbers in
    let value : c.new.result ≡ row_indices row c.args.internal_symbol_id =
    c.new.ensures ∙ ap (λ (p : ℕ). enc_indices row.lt_symbols p row.p1 c.intermediate_tuple-tuple.result) c.pi_symbols.ensures.value ∙ ap (λ (t : Tuple). enc_indices row.lt_symbols (pi_symbols row) row.p1 t) c.intermediate_tuple-tuple.ensures.value in
    subst (λ (indices : List ℕ). All (λ index. index < intermediate_symbols row) indices) (sym value) (row_indices_below row c.args.internal_symbol_id c.args.row.now.checked)
