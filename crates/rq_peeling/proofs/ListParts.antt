-- Parts of a list, from one place on and before another.
use Rattle.std.proofs.Common.{◌≡◌, ℕ, ◌+◌, ◌-◌, ◌<◌, ◌≤◌, List, [], ◌∷◌, ◌++◌, get_or, length, take, drop, ap, ◌∙◌, arith, length-append}
use Rattle.std.specs.List.{slice_range}
use Rattle.std.proofs.lemmas.List.{take_more, take-append-le, drop-append-le, get_or-drop, get_or-take, length-drop}
use Rattle.std.proofs.Math.Seq.{drop-append_seam, take-length}

module _ {X : Type 0} (xs : List X) (a : ℕ) where
  pub range_none : slice_range xs a a ≡ []
  range_none = let e : a - a ≡ 0 = omega arith in ap (λ (n : ℕ). take n (drop a xs)) e

  -- one element more
  pub range_next : (t : ℕ) (d : X) → a ≤ t → t < length xs → slice_range xs a (t + 1) ≡ slice_range xs a t ++ get_or xs t d ∷ []
  range_next t d l m =
      let more : t + 1 - a ≡ t - a + 1 = omega arith in
      let place : a + (t - a) ≡ t = omega arith in
      ap (λ (n : ℕ). take n (drop a xs)) more
      ∙ take_more (drop a xs) (t - a) d (omega (arith, length-drop a xs))
      ∙ ap (λ (x : X). take (t - a) (drop a xs) ++ x ∷ []) (get_or-drop a xs (t - a) d ∙ ap (λ (n : ℕ). get_or xs n d) place)

  pub range_at : (b t : ℕ) (d : X) → a ≤ t → t < b → get_or (slice_range xs a b) (t - a) d ≡ get_or xs t d
  range_at b t d l m =
      let place : a + (t - a) ≡ t = omega arith in
      get_or-take (b - a) (drop a xs) (t - a) d (omega arith) ∙ get_or-drop a xs (t - a) d ∙ ap (λ (n : ℕ). get_or xs n d) place

  -- what is appended changes no part of what was there
  pub range_kept : (more : List X) (b : ℕ) → a ≤ b → b ≤ length xs → slice_range (xs ++ more) a b ≡ slice_range xs a b
  range_kept more b l m =
      ap (take (b - a)) (drop-append-le a xs more (omega arith)) ∙ take-append-le (b - a) (drop a xs) more (omega (arith, length-drop a xs))

-- what is appended is the part behind what was there
pub range_appended : {X : Type 0} (xs more : List X) → slice_range (xs ++ more) (length xs) (length (xs ++ more)) ≡ more
range_appended xs more =
    let long : length (xs ++ more) - length xs ≡ length more = omega (arith, length-append xs more) in
    ap (take (length (xs ++ more) - length xs)) (drop-append_seam xs more) ∙ ap (λ (n : ℕ). take n more) long ∙ take-length more
