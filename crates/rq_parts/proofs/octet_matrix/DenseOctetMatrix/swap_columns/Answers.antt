-- What the check leaves to show of `octet_matrix::DenseOctetMatrix::swap_columns`.
use Rattle.std.proofs.Common.{◌≡◌, ◌<◌, ◌≤◌, ◌∙◌, ℕ, List, [], length, set, get_or, ap, arith}
use Rattle.std.specs.List.{swap}
use Rattle.rq_algebra.specs.Operations.{meant_at}
use Rattle.rq_bytes.specs.SymbolSlab.{Slab}
use Rattle.rq_bytes.specs.SlabLends.{with_octets}
use Rattle.rq_parts.proofs.ListChanges.{mapped_until-next, mapped_until-more}
use Rattle.rq_parts.proofs.octet_matrix.DenseOctetMatrix.swap_columns.Goals as goal

pub loop-row-preserved : goal.loop-row-preserved
loop-row-preserved c =
    let start = c.args.start_row_hint in
    let n = c.loop-row.row in
    let rows = c.self.inside.rows.values in
    let slab : Slab = c.loop-row.self-inside.rows in
    let new = c.swap.new.self in
    let f : List ℕ → List ℕ = λ row. swap row c.args.i c.args.j in
    let kept = c.loop-row.invariant.rows in
    let below : n < length rows = omega (arith, c.len-row-end.ensures.count) in
    let from : start ≤ n = omega arith in
    let read =
    c.get_mut.ensures.symbol
    ∙ ap (λ o. get_or slab.values (meant_at o n) []) c.loop-row.invariant.order
    ∙ ap (λ l. get_or l n []) kept
    ∙ mapped_until-next f start n rows from below []
    in
    let written : with_octets slab n new ≡ record slab { values = set slab.values n new } =
    c.get_mut.ensures.whole_symbol new (c.swap.auto.self ∙ c.get_mut.ensures.len)
    ∙ ap (λ o. record slab { values = set slab.values (meant_at o n) new }) c.loop-row.invariant.order
    in record {
      rows = ap (λ (s : Slab). s.values) written
          ∙ ap (set slab.values n) (c.swap.ensures.after ∙ ap f read)
          ∙ ap (λ l. set l n (f (get_or rows n []))) kept
          ∙ mapped_until-more f start n rows from below [];
      width = c.loop-row.invariant.width;
      order = c.loop-row.invariant.order;
    }
