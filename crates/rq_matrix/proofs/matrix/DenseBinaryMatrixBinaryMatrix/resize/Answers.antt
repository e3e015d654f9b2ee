-- What the check leaves to show of `matrix::DenseBinaryMatrix::resize`.
use Rattle.std.proofs.Common.{◌≡◌, ◌≤◌, ◌<◌, ◌^◌, ℕ, List, [], length, map, take, get_or, sym, subst, ap, ◌∙◌, arith, refl}
use Rattle.std.specs.List.{All}
use Rattle.std.proofs.lemmas.List.{get_or-take, get_or-map, length-map, length-take-le}
use Rattle.std.proofs.lemmas.List.Elements.{All-map}
use Rattle.rq_bytes.specs.BinaryOctetVec.{packed_bit}
use Rattle.rq_parts.specs.PackedBits.{word_count}
use Rattle.rq_matrix.specs.DenseRows.{bit_in}
use Rattle.rq_parts.proofs.PackedBits.{packed_bit-take, word_inside, word_count-le}
use Rattle.rq_matrix.proofs.matrix.DenseBinaryMatrixBinaryMatrix.resize.Goals as goal

-- the first `height` rows, each with the words that `width` columns need
abbrev leading : List (List ℕ) → ℕ → ℕ → List (List ℕ)
leading rows height width = map (λ row. take (word_count width) row) (take height rows)

length-leading : (rows : List (List ℕ)) (height width : ℕ) → height ≤ length rows → length (leading rows height width) ≡ height
length-leading rows height width le = length-map (take height rows) (λ row. take (word_count width) row) ∙ length-take-le height rows le

leading-full : (rows : List (List ℕ)) (height width old : ℕ) → height ≤ length rows → width ≤ old → All (λ row. length row ≡ word_count old) rows → All (λ row. length row ≡ word_count width) (leading rows height width)
leading-full rows height width old le narrow full =
    All-map (λ row. length row ≡ word_count width) (λ row. take (word_count width) row) (take height rows) (λ i d lt.
    let many = length-take-le height rows le in
    let row = ap length (get_or-take height rows i d (omega arith)) ∙ full i d (omega arith) in
    length-take-le (word_count width) (get_or (take height rows) i d) (omega (arith, row, word_count-le width old narrow)))

leading-bit : (rows : List (List ℕ)) (height width i k : ℕ) → height ≤ length rows → i < height → k < width → bit_in (leading rows height width) i k ≡ bit_in rows i k
leading-bit rows height width i k le row column =
    let many = length-take-le height rows le in
    ap (λ r. packed_bit r k) (get_or-map (λ row. take (word_count width) row) (take height rows) i [] [] (omega arith))
    ∙ packed_bit-take (get_or (take height rows) i []) (word_count width) k (word_inside width k column)
    ∙ ap (λ r. packed_bit r k) (get_or-take height rows i [] row)

pub invariant_of-self : goal.invariant_of-self
invariant_of-self c =
    let old = c.args.self.now in
    let height = c.args.new_height in
    let is = c.narrow.ensures ∙ ap (map (λ row. take (word_count c.args.new_width) row)) c.truncate.ensures in
    record {
      height_fits = subst (λ (l : List (List ℕ)). length l < 2 ^ 31) (sym is) (omega (arith, length-leading old.rows height c.args.new_width c.requires.height, old.height_fits, c.requires.height));
      width_fits = omega (arith, old.width_fits, c.requires.width);
      within = omega (arith, c.min-self.ensures);
      full = subst (All (λ row. length row ≡ word_count c.args.new_width)) (sym is) (leading-full old.rows height c.args.new_width old.width c.requires.height c.requires.width old.full);
    }

pub returns-clause-ok : goal.returns-clause-ok
returns-clause-ok c =
    let rows = c.args.self.now.rows in
    let height = c.args.new_height in
    let width = c.args.new_width in
    let is = c.narrow.ensures ∙ ap (map (λ row. take (word_count c.args.new_width) row)) c.truncate.ensures in
    record {
      height = ap length is ∙ length-leading rows height width c.requires.height;
      width = refl;
      boundary = c.min-self.ensures;
      indexed = refl;
      bits = λ i k row column. ap (λ (l : List (List ℕ)). bit_in l i k) is ∙ leading-bit rows height width i k c.requires.height row column;
    }
