-- A slab after multiples of zeros is what it was.
use Rattle.std.proofs.Common.{◌≡◌, ℕ, zero, suc, List, [], ◌∷◌, map, length, replicate, get_or, set, refl, sym, ap, ◌∙◌, inl, inr}
use Rattle.std.proofs.lemmas.Bool.{cases_lt}
use Rattle.std.proofs.lemmas.List.{set-get_or, set_past}
use Rattle.rq_algebra.specs.Operations.{MulAssign, Fma, meant_at, step}
use Rattle.rq_algebra.specs.Symbols.{add_symbols, AreSymbols}
use Rattle.rq_algebra.proofs.Sums.{mul_zero}
use Rattle.rq_algebra.proofs.SymbolSums.{add_symbols_comm, add_zeros}
use Rattle.rq_standard.specs.OctetField.{octets}
use Rattle.rq_bytes.specs.SymbolSlab.{Slab, after, after_all, symbol_in}
use Rattle.rq_bytes.proofs.SlabMultiples.{after_all-none}
use Rattle.rq_operations.proofs.Performed.{after_all-one, after_all-append}

multiple_of_zeros : (scalar n : ℕ) → map (octets.mul scalar) (replicate n 0) ≡ replicate n 0
multiple_of_zeros scalar zero = refl
multiple_of_zeros scalar (suc n) = cc (mul_zero octets scalar, multiple_of_zeros scalar n)

-- an entry that is written where it stands
written_again : (slab : Slab) (i : ℕ) (symbol : List ℕ) → symbol ≡ get_or slab.values i [] → ◌≡◌ {A = Slab} (record slab { values = set slab.values i symbol }) slab
written_again slab i symbol same = ap (λ (v : List (List ℕ)). record slab { values = v }) (ap (set slab.values i) same ∙ set-get_or slab.values i [])

module _ (slab : Slab) (place : ℕ) (zeros : symbol_in slab place ≡ replicate slab.symbol_size 0) where
  multiple_is : (scalar : ℕ) → map (octets.mul scalar) (symbol_in slab place) ≡ replicate slab.symbol_size 0
  multiple_is scalar = ap (map (octets.mul scalar)) zeros ∙ multiple_of_zeros scalar slab.symbol_size

  -- they are multiplied
  pub zeros_multiplied : (scalar : ℕ) → after (MulAssign place scalar) slab ≡ slab
  unfolding step
  zeros_multiplied scalar = written_again slab (meant_at slab.order place) _ (multiple_is scalar ∙ sym zeros)

  module _ (symbols : AreSymbols octets slab.symbol_size (length slab.values) slab.values) where
    -- a multiple of them is added
    pub zeros_added : (dest scalar : ℕ) → after (Fma dest place scalar) slab ≡ slab
    unfolding step
    zeros_added dest scalar =
        let d = meant_at slab.order dest in
        let symbol = symbol_in slab dest in
        elim (cases_lt d (length slab.values)) [
          | inl below ↦ written_again slab d _ (
              ap (add_symbols octets symbol) (multiple_is scalar)
              ∙ add_symbols_comm octets symbol (replicate slab.symbol_size 0)
              ∙ add_zeros octets slab.symbol_size symbol (symbols.each d below).size_is)
          | inr past ↦ ap (λ (v : List (List ℕ)). record slab { values = v }) (set_past slab.values d _ past)
        ]

    -- several are added, one after another
    pub all_zeros_added : {T : Type 0} (dest scalar : T → ℕ) (multiples : List T) → after_all (map (λ m. Fma (dest m) place (scalar m)) multiples) slab ≡ slab
    all_zeros_added dest scalar [] = after_all-none slab
    all_zeros_added dest scalar (m ∷ multiples) =
        let rest = map (λ m. Fma (dest m) place (scalar m)) multiples in
        after_all-append (Fma (dest m) place (scalar m) ∷ []) rest slab
        ∙ ap (after_all rest) (after_all-one (Fma (dest m) place (scalar m)) slab ∙ zeros_added (dest m) (scalar m))
        ∙ all_zeros_added dest scalar multiples
