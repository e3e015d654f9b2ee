-- Objects that end with some bytes.
use Rattle.std.proofs.Common.{◌≡◌, ℕ, ◌+◌, ◌≤◌, List, ◌++◌, length, take, drop, sym, ap, ◌∙◌, arith, length-append, drop_at, take_all}
use Rattle.std.specs.Io.{StartsWith}
use Rattle.std.specs.List.{concat}
use Rattle.std.proofs.lemmas.List.{length-drop, length-take-le, take-append-drop}
use Rattle.sha2.specs.Sha512.{sha512}
use Rattle.sha2.proofs.Facts512.{length-sha512}
use Rattle.rq_cast.specs.Parts.{seal_of}

module _ (object ending : List ℕ) (n : ℕ) (all : n + length ending ≡ length object) where
  pub ends_with : StartsWith (drop n object) ending → object ≡ take n object ++ ending
  ends_with starts =
      let size = length ending in
      let whole : take size (drop n object) ≡ drop n object = take_all size (drop n object) (omega (arith, all, length-drop n object)) in
      sym (take-append-drop n object) ∙ ap (λ xs. take n object ++ xs) (sym whole ∙ starts)

  pub starts_at_end : (bytes : List ℕ) → object ≡ bytes ++ ending → StartsWith (drop n object) ending
  starts_at_end bytes is =
      let size = length ending in
      let place : length bytes ≡ n = omega (arith, all, ap length is, length-append bytes ending) in
      ap (λ xs. take size (drop n xs)) is ∙ ap (take size) (drop_at bytes ending n place) ∙ take_all size ending (omega arith)

-- an object that ends with them is as long at least
pub is_as_long : (object bytes ending : List ℕ) → object ≡ bytes ++ ending → length ending ≤ length object
is_as_long object bytes ending is = omega (arith, ap length is, length-append bytes ending)

-- a seal
pub length-seal : (names : List (List ℕ)) → length (seal_of names) ≡ 32
length-seal names = length-take-le 32 (sha512 (concat names)) (omega (arith, length-sha512 (concat names)))
