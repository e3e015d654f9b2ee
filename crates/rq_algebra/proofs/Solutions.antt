-- Elementary operations keep the solutions of a system.
use Rattle.std.proofs.Common.{◌≡◌, ◌≢◌, ℕ, List, ◌<◌, sym, ap, ◌∙◌, refl, inl, inr}
use Rattle.std.proofs.lemmas.Bool.{cases_eq}
use Rattle.rq_algebra.specs.Field.{Field}
use Rattle.rq_algebra.specs.Systems.{at, dot, Solves, IsHomogeneousColumn}
use Rattle.rq_algebra.specs.Steps.{AddsRow, AddsValue, SameSolutions}
use Rattle.rq_algebra.specs.SystemLaws.{AddingKeepsSolutions, ScalingKeepsSolutions, RowOrderKeepsSolutions, ColumnOrderKeepsSolutions, NewSolvesOld, DeterminedStays, HomogeneousColumnRefutesDetermined, DeterminedHasOneSolution}
use Rattle.rq_algebra.proofs.Sums.{add_again, dot_same, dot_fma, dot_mul_row, dot_below_size, undo_mul, dot_add_column}
use Rattle.rq_algebra.proofs.FewPlaces.{all_places, dot_places}

-- an equation of the same coefficients and the same value
equation_same : (F : Field) (width : ℕ) (r s x : ℕ → ℕ) (v w : ℕ) → ((k : ℕ) → k < width → s k ≡ r k) → w ≡ v → dot F width r x ≡ v → dot F width s x ≡ w
equation_same F width r s x v w same value e = dot_same F width s r x x same (λ k l. refl) ∙ e ∙ sym value

module _ (F : Field) (height width : ℕ) where
  -- the values of a row, where the rows agree
  pub solves_same : (a b : ℕ → ℕ → ℕ) (x v w : ℕ → ℕ) → ((i k : ℕ) → i < height → k < width → a i k ≡ b i k) → ((i : ℕ) → i < height → v i ≡ w i) → Solves F height width a x v → Solves F height width b x w
  solves_same a b x v w rows values s = record { at = λ i l. equation_same F width (a i) (b i) x (v i) (w i) (λ k m. sym (rows i k l m)) (sym (values i l)) (s.at i l) }

  -- a column that shows that rows determine none shows it of rows with the same entries
  pub homogeneous_column_same : (a b : ℕ → ℕ → ℕ) → ((i k : ℕ) → i < height → k < width → a i k ≡ b i k) → (column : List ℕ) → IsHomogeneousColumn F height width a column → IsHomogeneousColumn F height width b column
  homogeneous_column_same a b same column shows = record {
    count = shows.count;
    elements = shows.elements;
    solves = solves_same a b (at column) (λ _. 0) (λ _. 0) same (λ i l. refl) shows.solves;
    index = shows.index;
    below = shows.below;
    nonzero = shows.nonzero;
  }

  pub SameSolutions-refl : (a : ℕ → ℕ → ℕ) (v : ℕ → ℕ) → SameSolutions F height width a v a v
  SameSolutions-refl a v = record { onward = λ x s. s; back = λ x s. s }

  pub SameSolutions-trans : {a b c : ℕ → ℕ → ℕ} {u v w : ℕ → ℕ} → SameSolutions F height width a u b v → SameSolutions F height width b v c w → SameSolutions F height width a u c w
  SameSolutions-trans f g = record { onward = λ x s. g.onward x (f.onward x s); back = λ x s. f.back x (g.back x s) }

  -- adding a multiple of another row
  module _ (dest src c : ℕ) (apart : src ≢ dest) (in_dest : dest < height) (in_src : src < height) where
    pub AddsRow-back : (a b : ℕ → ℕ → ℕ) → AddsRow F height width dest src c a b → AddsRow F height width dest src c b a
    AddsRow-back a b s = record {
      at_dest = λ k l. cc (add_again F (a dest k) (F.mul c (a src k)), s.at_dest k l, s.elsewhere src k in_src l apart);
      elsewhere = λ i k l m d. sym (s.elsewhere i k l m d);
    }

    pub AddsValue-back : (v w : ℕ → ℕ) → AddsValue F height dest src c v w → AddsValue F height dest src c w v
    AddsValue-back v w s = record {
      at_dest = cc (add_again F (v dest) (F.mul c (v src)), s.at_dest, s.elsewhere src in_src apart);
      elsewhere = λ i l d. sym (s.elsewhere i l d);
    }

    pub adds_onward : (a b : ℕ → ℕ → ℕ) (v w : ℕ → ℕ) → AddsRow F height width dest src c a b → AddsValue F height dest src c v w → (x : ℕ → ℕ) → Solves F height width a x v → Solves F height width b x w
    adds_onward a b v w rows values x s = record {
      at = λ i l. elim (cases_eq i dest) [
        | inl e ↦ ap (λ (j : ℕ). dot F width (b j) x) e
            ∙ dot_same F width (b dest) (λ k. F.add (a dest k) (F.mul c (a src k))) x x rows.at_dest (λ k m. refl)
            ∙ dot_fma F width c (a dest) (a src) x
            ∙ cc (s.at dest in_dest, s.at src in_src, values.at_dest, e)
        | inr d ↦ equation_same F width (a i) (b i) x (v i) (w i) (λ k m. rows.elsewhere i k l m d) (values.elsewhere i l d) (s.at i l)
      ];
    }

pub adds_keeps : AddingKeepsSolutions
adds_keeps F height width dest src c apart in_dest in_src a b v w rows values = record {
  onward = adds_onward F height width dest src c apart in_dest in_src a b v w rows values;
  back = adds_onward F height width dest src c apart in_dest in_src b a w v
      (AddsRow-back F height width dest src c apart in_dest in_src a b rows) (AddsValue-back F height width dest src c apart in_dest in_src v w values);
}

pub scales_keeps : ScalingKeepsSolutions
scales_keeps F height width dest c in_dest is_element nonzero a b v w elements rows values =
    let scaled : (x : ℕ → ℕ) → dot F width (b dest) x ≡ F.mul c (dot F width (a dest) x) = λ x.
    dot_same F width (b dest) (λ k. F.mul c (a dest k)) x x rows.at_dest (λ k m. refl) ∙ dot_mul_row F width c (a dest) x in
    record {
      onward = λ x s. record {
        at = λ i l. elim (cases_eq i dest) [
          | inl e ↦ cc (scaled x, s.at dest in_dest, values.at_dest, e)
          | inr d ↦ equation_same F width (a i) (b i) x (v i) (w i) (λ k m. rows.elsewhere i k l m d) (values.elsewhere i l d) (s.at i l)
        ];
      };
      back = λ x s. record {
        at = λ i l. elim (cases_eq i dest) [
          | inl e ↦ cc (e, scaled x, s.at dest in_dest, values.at_dest, undo_mul F c (dot F width (a dest) x) is_element nonzero (dot_below_size F width (a dest) x), undo_mul F c (v dest) is_element nonzero (elements dest in_dest))
          | inr d ↦ equation_same F width (b i) (a i) x (w i) (v i) (λ k m. sym (rows.elsewhere i k l m d)) (sym (values.elsewhere i l d)) (s.at i l)
        ];
      };
    }

pub reorder_keeps : RowOrderKeepsSolutions
reorder_keeps F height width to a v are = record {
  onward = λ x s. record { at = λ i l. s.at (to i) (are.below i l) };
  back = λ x s. record { at = λ i l. let q = all_places height to are i l in rw q.2 at (s.at q.0 q.1) };
}

pub columns_reordered : ColumnOrderKeepsSolutions
columns_reordered F height width to a x v are = (
  λ s. record { at = λ i l. dot_places F width (a i) x to are ∙ s.at i l },
  λ s. record { at = λ i l. sym (dot_places F width (a i) x to are) ∙ s.at i l },
)

-- a solution stays one of equations among those that it solves
pub solves_standing : NewSolvesOld
solves_standing F width old_height new_height old new x v w stand s = record {
  at = λ i l. let m = stand i l in equation_same F width (new m.0) (old i) x (w m.0) (v i) (λ k n. sym (m.2 k n)) (sym m.3) (s.at m.0 m.1);
}

-- a determined system stays determined where each of its rows stands in the new one: rows added, repeated or in another order
pub determined_stays : DeterminedStays
determined_stays F width old_height new_height old new stand determined x elements s =
    determined x elements (solves_standing F width old_height new_height old new x (λ _. 0) (λ _. 0) (λ i l. let m = stand i l in (m.0, m.1, m.2, refl)) s)

-- a homogeneous column refutes it
pub homogeneous_not_determined : HomogeneousColumnRefutesDetermined
homogeneous_not_determined F height width a n determined = n.nonzero (determined n.column n.is_column n.solves n.index n.in_width)

-- a solution of a determined system is the only one
pub determined_unique : DeterminedHasOneSolution
determined_unique F height width a x y v determined ex ey sx sy k l =
    let e : F.add (x k) (y k) ≡ 0 = determined (λ j. F.add (x j) (y j)) (λ j m. F.add_below (x j) (y j) (ex j m) (ey j m)) record { at = λ i m. cc (dot_add_column F width (a i) x y, sx.at i m, sy.at i m, F.add_self (v i)) } k l in
    cc (e, add_again F (x k) (y k), F.zero_add (y k))
