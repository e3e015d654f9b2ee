-- Operations commute with linear maps: on symbols they are, at each place, the operations on elements, and they keep zeros.
use Rattle.std.proofs.Common.{◌≡◌, ℕ, zero, suc, List, [], ◌∷◌, map, replicate, get_or, sym, ap, ◌∙◌, refl}
use Rattle.std.proofs.lemmas.List.{map-set, length-map, ext_get_or}
use Rattle.std.proofs.Math.ListN.{get_or-map}
use Rattle.rq_algebra.specs.Field.{Field}
use Rattle.rq_algebra.specs.Systems.{at}
use Rattle.rq_algebra.specs.Operations.{Operation, AddAssign, MulAssign, Fma, Reorder, Space, Store, step, run, read, write, plain, meant_at}
use Rattle.rq_algebra.specs.OperationLaws.{OperationsKeepZeros}
use Rattle.rq_algebra.specs.Symbols.{symbols, add_symbols}
use Rattle.rq_algebra.specs.Parities.{sum_listed}
use Rattle.rq_algebra.proofs.Sums.{add_zero, mul_zero}

-- a map of values that keeps zero, sums and multiples
pub record IsLinear {X Y : Type 0} (S : Space X) (T : Space Y) (f : X → Y) : Type 0 where
  pub zero_is : f S.zero ≡ T.zero
  pub add_is : (x y : X) → f (S.add x y) ≡ T.add (f x) (f y)
  pub scale_is : (c : ℕ) (x : X) → f (S.scale c x) ≡ T.scale c (f x)

-- each value mapped, in the same order
abbrev map_store : {X Y : Type 0} → (X → Y) → Store X → Store Y
map_store f s = record { values = map f s.values; order = s.order }

module _ {X Y : Type 0} (S : Space X) (T : Space Y) (f : X → Y) (linear : IsLinear S T f) where
  pub read_linear : (s : Store X) (i : ℕ) → f (read S s i) ≡ read T (map_store f s) i
  read_linear s i = sym (get_or-map f s.values (meant_at s.order i) S.zero) ∙ ap (λ (d : Y). get_or (map f s.values) (meant_at s.order i) d) linear.zero_is

  write_linear : (s : Store X) (i : ℕ) (x : X) (y : Y) → f x ≡ y → map_store f (write s i x) ≡ write (map_store f s) i y
  write_linear s i x y e =
      ap (λ (vs : List Y). let t : Store Y = record { values = vs; order = s.order } in t) (map-set f s.values (meant_at s.order i) x)
      ∙ ap (λ (z : Y). write (map_store f s) i z) e

  step_linear : (s : Store X) (operation : Operation) → map_store f (step S s operation) ≡ step T (map_store f s) operation
  unfolding step
  step_linear s (AddAssign dest src) = write_linear s dest _ _ (cc (linear.add_is (read S s dest) (read S s src), read_linear s dest, read_linear s src))
  step_linear s (MulAssign dest scalar) = write_linear s dest _ _ (cc (linear.scale_is scalar (read S s dest), read_linear s dest))
  step_linear s (Fma dest src scalar) =
      write_linear s dest _ _ (cc (linear.add_is (read S s dest) (S.scale scalar (read S s src)), linear.scale_is scalar (read S s src), read_linear s dest, read_linear s src))
  step_linear s (Reorder order) = refl

  pub run_linear : (operations : List Operation) (s : Store X) → map_store f (run S operations s) ≡ run T operations (map_store f s)
  unfolding run
  run_linear [] s = refl
  run_linear (operation ∷ operations) s = unfold run in run_linear operations (step S s operation) ∙ ap (λ (t : Store Y). run T operations t) (step_linear s operation)

  pub read-run_linear : (operations : List Operation) (s : Store X) (i : ℕ) → f (read S (run S operations s) i) ≡ read T (run T operations (map_store f s)) i
  read-run_linear operations s i = read_linear (run S operations s) i ∙ ap (λ (t : Store Y). read T t i) (run_linear operations s)

  pub sum_listed-linear : (places : List ℕ) (column : ℕ → X) → f (sum_listed S places column) ≡ sum_listed T places (λ k. f (column k))
  unfolding sum_listed
  sum_listed-linear [] column = linear.zero_is
  sum_listed-linear (place ∷ places) column = linear.add_is (column place) (sum_listed S places column) ∙ ap (λ (y : Y). T.add (f (column place)) y) (sum_listed-linear places column)

-- one place of a symbol
abbrev pub place : ℕ → List ℕ → ℕ
place p xs = at xs p

nothing : ℕ → ℕ
nothing x = 0

nothing_at : (xs : List ℕ) (i : ℕ) → get_or (map nothing xs) i 0 ≡ 0
unfolding nothing
nothing_at xs i = get_or-map nothing xs i 0

pub at-zeros : (n i : ℕ) → at (replicate n 0) i ≡ 0
at-zeros zero i = refl
at-zeros (suc n) zero = refl
at-zeros (suc n) (suc i) = at-zeros n i

module _ (F : Field) where
  pub add_symbols_at : (p : ℕ) (xs ys : List ℕ) → get_or (add_symbols F xs ys) p 0 ≡ F.add (get_or xs p 0) (get_or ys p 0)
  unfolding add_symbols
  add_symbols_at p [] ys = sym (F.zero_add _)
  add_symbols_at p (x ∷ xs) [] = sym (add_zero F _)
  add_symbols_at zero (x ∷ xs) (y ∷ ys) = refl
  add_symbols_at (suc p) (x ∷ xs) (y ∷ ys) = add_symbols_at p xs ys

  pub scale_at : (p c : ℕ) (xs : List ℕ) → get_or (map (F.mul c) xs) p 0 ≡ F.mul c (get_or xs p 0)
  scale_at p c xs = ap (λ (d : ℕ). get_or (map (F.mul c) xs) p d) (sym (mul_zero F c)) ∙ get_or-map (F.mul c) xs p 0

  pub place_linear : (p : ℕ) → IsLinear (symbols F) (plain F) (place p)
  place_linear p = record { zero_is = refl; add_is = add_symbols_at p; scale_is = scale_at p }

  nothing_linear : IsLinear (plain F) (plain F) nothing
  unfolding nothing
  nothing_linear = record { zero_is = refl; add_is = λ x y. sym (F.zero_add 0); scale_is = λ c x. sym (mul_zero F c) }

pub zeros_stay : OperationsKeepZeros
zeros_stay F operations s zeros i =
    let same : map nothing s.values ≡ s.values = ext_get_or 0 (map nothing s.values) s.values (length-map s.values nothing) (λ k l. nothing_at s.values k ∙ sym (zeros k)) in
    let fixed : map_store nothing s ≡ s = ap (λ (vs : List ℕ). let t : Store ℕ = record { values = vs; order = s.order } in t) same in
    let t : Store ℕ = run (plain F) operations s in
    let e : map_store nothing t ≡ t = run_linear (plain F) (plain F) nothing (nothing_linear F) operations s ∙ ap (λ (u : Store ℕ). run (plain F) operations u) fixed in
    ap (λ (u : Store ℕ). at u.values i) (sym e) ∙ nothing_at t.values i
