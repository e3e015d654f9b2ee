-- What the check leaves to show of `sparse_matrix::column_index::column_index`.
use Rattle.std.proofs.Common.{◌≡◌, ◌<◌, ℕ, List, [], All, length, get_or, ap, sym, subst, ◌∙◌, arith}
use Rattle.std.proofs.lemmas.List.{get_or_read}
use Rattle.rq_standard.specs.BitTableSteps.{ArePlacesOfOnes}
use Rattle.rq_parts.specs.ImmutableListMap.{Pairs, lists_of, values_of}
use Rattle.rq_parts.specs.SparseBinaryVec.{listed_bit}
use Rattle.rq_parts.proofs.MemoryAlone.{ok_past}
use Rattle.rq_matrix.specs.SparseTables.{stored-small}
use Rattle.rq_matrix.proofs.FoundOnes.{places-none}
use Rattle.rq_matrix.proofs.ColumnIndexLaws.{places-add, index-built}
use Rattle.rq_matrix.proofs.sparse_matrix.column_index.column_index.Goals as goal

pub loop-row-init : goal.loop-row-init
loop-row-init c = record {
  keys = ap (λ (p : Pairs). p.keys) c.new-builder.ensures;
  each = λ column. subst (ArePlacesOfOnes (λ row. listed_bit (get_or c.args.rows.now.items row []) column) 0 0) (sym (ap (λ (p : Pairs). values_of p.pairs column) c.new-builder.ensures)) (places-none (λ row. listed_bit (get_or c.args.rows.now.items row []) column) 0);
}

pub loop-row-preserved : goal.loop-row-preserved
loop-row-preserved c =
    let rows = c.args.rows.now.items in
    let row = c.loop-row.row in
    let kept = c.loop-row.invariant in
    let adds = c.in_ok-add_ones.ensures in
    let within : row < length rows = omega (arith, c.args.rows.now.ok.0, c.len-row-end.ensures) in
    let read = get_or_read rows row c.index.result.now within c.index.ensures [] in
    record {
      keys = ap (λ (p : Pairs). p.keys) adds ∙ kept.keys;
      each = λ column.
          places-add (λ r. listed_bit (get_or rows r []) column) row column c.loop-row.builder c.add_ones.new.builder c.index.result.now (kept.each column) adds (ap (λ (l : List ℕ). listed_bit l column) (sym read)) (stored-small c.args.columns rows row column c.requires.rows);
    }

pub add_ones-requires-clause-columns : goal.add_ones-requires-clause-columns
add_ones-requires-clause-columns c =
    let rows = c.args.rows.now.items in
    let within : c.loop-row.row < length rows = omega (arith, c.args.rows.now.ok.0, c.len-row-end.ensures) in
    let read = get_or_read rows c.loop-row.row c.index.result.now within c.index.ensures [] in
    let below : All (λ one. one < c.args.columns) c.index.result.now = subst (All (λ one. one < c.args.columns)) (sym read) (c.requires.rows c.loop-row.row [] within).below in
    λ k d l. omega (arith, below k d l, c.loop-row.invariant.keys)

pub returns : goal.returns
returns c =
    let rows = c.args.rows.now.items in
    let all : c.loop-row.row ≡ length rows = omega (arith, c.args.rows.now.ok.0, c.len-row-end.ensures) in
    let answered = ok_past _ _ c.build.result c.in_ok-index.ensures.variant c.in_ok-index.ensures.cases in
    let answer = rw answered at c.build.ensures in
    let is : c.in_ok-index.index ≡ lists_of c.loop-row.builder = cc in
    index-built c.args.columns rows c.loop-row.builder c.in_ok-index.index c.loop-row.invariant.keys is
    (λ column _. subst (λ n. ArePlacesOfOnes (λ row. listed_bit (get_or rows row []) column) 0 n (values_of c.loop-row.builder.pairs column)) all (c.loop-row.invariant.each column))
