-- What the check leaves to show of `matrix::DenseBinaryMatrix::add_assign_rows`.
use Rattle.std.proofs.Common.{◌≡◌, ◌<◌, ◌^◌, ◌/◌, ℕ, List, [], length, get_or, sym, subst, ap, ◌∙◌, inr, refl, length-set, get_or-set_same, get_or-set_other}
use Rattle.std.specs.List.{All}
use Rattle.std.specs.Int.Bits.{bit_xor}
use Rattle.std.proofs.lemmas.List.Elements.{All-set}
use Rattle.std.proofs.lemmas.Simd.{length-zip2}
use Rattle.rq_bytes.specs.BinaryOctetVec.{packed_bit}
use Rattle.rq_standard.specs.Rows.{row_sum}
use Rattle.rq_parts.specs.PackedBits.{word_count}
use Rattle.rq_matrix.specs.DenseRows.{bit_in}
use Rattle.rq_parts.proofs.PackedBits.{packed_bit-sum, word_inside}
use Rattle.rq_matrix.proofs.matrix.DenseBinaryMatrixBinaryMatrix.add_assign_rows.Goals as goal

length-sum : (rows : List (List ℕ)) (dest src n : ℕ) → dest < length rows → src < length rows → All (λ row. length row ≡ n) rows → length (row_sum (get_or rows dest []) (get_or rows src [])) ≡ n
length-sum rows dest src n dest_in src_in full = length-zip2 bit_xor (get_or rows dest []) (get_or rows src []) (full dest [] dest_in ∙ sym (full src [] src_in)) ∙ full dest [] dest_in

pub invariant_of-self : goal.invariant_of-self
invariant_of-self c =
    let old = c.args.self.now in
    let rows = old.rows in
    let dest = c.args.dest in
    let is = c.add.ensures in
    record {
      height_fits = subst (λ (l : List (List ℕ)). length l < 2 ^ 31) (sym is) (subst (λ n. n < 2 ^ 31) (sym (length-set rows dest (row_sum (get_or rows dest []) (get_or rows c.args.src [])))) old.height_fits);
      width_fits = old.width_fits;
      within = old.within;
      full = subst (All (λ row. length row ≡ word_count old.width)) (sym is)
          (All-set (λ row. length row ≡ word_count old.width) rows dest (row_sum (get_or rows dest []) (get_or rows c.args.src [])) (length-sum rows dest c.args.src (word_count old.width) c.requires.dest c.requires.src old.full) old.full);
    }

pub returns-clause-ok : goal.returns-clause-ok
returns-clause-ok c =
    let old = c.args.self.now in
    let rows = old.rows in
    let dest = c.args.dest in
    let src = c.args.src in
    let sum = row_sum (get_or rows dest []) (get_or rows src []) in
    let is = c.add.ensures in
    let long = old.full dest [] c.requires.dest in
    let both = old.full src [] c.requires.src ∙ sym long in
    let is_sum = λ (k : ℕ) (below : k < old.width).
    ap (λ (l : List (List ℕ)). bit_in l dest k) is
    ∙ ap (λ r. packed_bit r k) (get_or-set_same rows dest sum [] c.requires.dest)
    ∙ packed_bit-sum (get_or rows dest []) (get_or rows src []) k both (subst (λ n. k / 64 < n) (sym long) (word_inside old.width k below))
    in
    record {
      shape = record { height = ap length is ∙ length-set rows dest sum; width = refl; boundary = refl; indexed = refl };
      sum = λ k _ below. is_sum k below;
      before = λ k _ below. inr (is_sum k below);
      other_rows = λ a k _ _ other. ap (λ (l : List (List ℕ)). bit_in l a k) is ∙ ap (λ r. packed_bit r k) (get_or-set_other rows dest a sum [] other);
    }
