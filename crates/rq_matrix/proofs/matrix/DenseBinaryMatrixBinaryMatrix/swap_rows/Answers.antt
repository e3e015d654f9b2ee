-- What the check leaves to show of `matrix::DenseBinaryMatrix::swap_rows`.
use Rattle.std.proofs.Common.{◌≡◌, ◌<◌, ◌^◌, List, ℕ, [], length, refl, sym, subst, ap, ◌∙◌}
use Rattle.std.specs.List.{All}
use Rattle.std.proofs.lemmas.List.Edits.{length-swap, swapped_from_swap}
use Rattle.rq_bytes.specs.BinaryOctetVec.{packed_bit}
use Rattle.rq_parts.proofs.ListChanges.{All-swap}
use Rattle.rq_parts.specs.PackedBits.{word_count}
use Rattle.rq_matrix.proofs.matrix.DenseBinaryMatrixBinaryMatrix.swap_rows.Goals as goal

pub invariant_of-self : goal.invariant_of-self
invariant_of-self c =
    let old = c.args.self.now in
    let i = c.args.i in
    let j = c.args.j in
    let is = sym c.swap.ensures in
    record {
      height_fits = subst (λ n. n < 2 ^ 31) (sym (ap length c.swap.ensures ∙ length-swap old.rows i j)) old.height_fits;
      width_fits = old.width_fits;
      within = old.within;
      full = subst (All (λ row. length row ≡ word_count old.width)) is (All-swap (λ row. length row ≡ word_count old.width) old.rows i j [] c.requires.first c.requires.second old.full);
    }

pub returns : goal.returns
returns c =
    let old = c.args.self.now in
    let rows = swapped_from_swap old.rows c.swap.new.self c.args.i c.args.j [] c.requires.first c.requires.second c.swap.ensures in
    record {
      shape = record { height = ap length c.swap.ensures ∙ length-swap old.rows c.args.i c.args.j; width = refl; boundary = refl; indexed = refl };
      first = λ k _. ap (λ (row : List ℕ). packed_bit row k) rows.0;
      second = λ k _. ap (λ (row : List ℕ). packed_bit row k) rows.1;
      other_rows = λ a k _ _ not_i not_j. ap (λ (row : List ℕ). packed_bit row k) (rows.2 a not_i not_j);
    }
