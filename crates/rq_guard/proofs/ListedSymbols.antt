-- Symbols of a part that is one block, and whether their digests are listed.
use Rattle.std.proofs.Common.{◌≡◌, ◌↔◌, ℕ, ◌+◌, ◌<◌, List, [], ◌∷◌, ◌++◌, length, take, map, get_or, Bool, true, false, cond, nat_eq, Some, refl, sym, ap, ◌∙◌, arith, append-nil}
use Rattle.std.specs.List.{range_with_len, filter, slice_get}
use Rattle.std.specs.Int.{div_ceil}
use Rattle.std.specs.Cmp.Lexicographic.{pointwise}
use Rattle.std.proofs.lemmas.Bool.{false_from_ne_true, true≢false}
use Rattle.std.proofs.lemmas.List.Elements.{filter-append}
use Rattle.std.proofs.lemmas.Option.{get_or_from_slice_get, slice_get-get_or}
use Rattle.rq_standard.specs.Configuration.{Configuration, total_symbols, largest_block}
use Rattle.rq_standard.specs.Cutting.{block_symbols, symbols_before, place_in_block, symbol_of_block, source_symbol}
use Rattle.rq_standard.proofs.BlockCuts.{symbols_before-first, symbols_before-next, symbols_before-all}
use Rattle.rq_block.proofs.NumberRanges.{range-push}
use Rattle.raptorq.specs.BlockBytes.{bytes_of_block}
use Rattle.raptorq.proofs.EncodedBlocks.{bytes_of_block-byte}
use Rattle.rq_cells.specs.Cells.{digest_of}
use Rattle.rq_cells.proofs.Beginnings.{same_bytes, same_from_test}
use Rattle.rq_cast.specs.Parts.{source_digests}
use Rattle.rq_cast.proofs.SymbolDigests.{digest_at, length-digests_before}
use Rattle.rq_guard.specs.Lists.{Listed, listed_length}
use Rattle.rq_guard.specs.Damage.{IsList, is_whole}

-- ---- a test on a listed digest

tells : (b : Bool) (xs : List (List ℕ)) (n : ℕ) (d : List ℕ) → n < length xs → (b ≡ true) ↔ (slice_get xs n ≡ Some d) → b ≡ pointwise nat_eq (get_or xs n []) d
tells true xs n d below h = sym (ap (λ ys. pointwise nat_eq ys d) (get_or_from_slice_get xs n d [] (h.0 refl)) ∙ same_bytes d)
tells false xs n d below h =
    sym (false_from_ne_true (pointwise nat_eq (get_or xs n []) d)
    (λ e. true≢false (sym (h.1 (slice_get-get_or xs n [] below ∙ ap Some (sym (same_from_test (get_or xs n []) d e)))))))

-- so of a symbol whose digest stands in a list
pub tells_whole : (b : Bool) (listed digests : List (List ℕ)) (e : ℕ) (d : List ℕ) → e < length listed → d ≡ get_or digests e []
    → (b ≡ true) ↔ (slice_get listed e ≡ Some (take listed_length d)) → b ≡ is_whole listed digests e
tells_whole b listed digests e d below is h = tells b listed e (take listed_length d) below h ∙ ap (λ x. pointwise nat_eq (get_or listed e []) (take listed_length x)) is

-- one number more
pub filter_next : (p : ℕ → Bool) (n : ℕ) → filter p (range_with_len 0 (n + 1)) ≡ filter p (range_with_len 0 n) ++ cond (p n) (n ∷ []) []
filter_next p n = ap (filter p) (range-push 0 n n (omega arith)) ∙ filter-append p (range_with_len 0 n) (n ∷ [])

pub filter_grows : (p : ℕ → Bool) (n : ℕ) → p n ≡ true → filter p (range_with_len 0 (n + 1)) ≡ filter p (range_with_len 0 n) ++ n ∷ []
filter_grows p n taken = filter_next p n ∙ ap (λ b. filter p (range_with_len 0 n) ++ cond b (n ∷ []) []) taken

pub filter_stays : (p : ℕ → Bool) (n : ℕ) → p n ≡ false → filter p (range_with_len 0 (n + 1)) ≡ filter p (range_with_len 0 n)
filter_stays p n left = filter_next p n ∙ ap (λ b. filter p (range_with_len 0 n) ++ cond b (n ∷ []) []) left ∙ append-nil (filter p (range_with_len 0 n))

-- ---- one block

module _ (l : Listed) (is : IsList l) where
  abbrev c : Configuration
  c = l.head.configuration

  pub one_block : 0 < c.source_blocks
  one_block = omega (arith, is.one_block)

  pub few_symbols : largest_block c < 65536
  few_symbols =
      let alone : largest_block c ≡ div_ceil (total_symbols c) 1 = ap (λ z. div_ceil (total_symbols c) z) is.one_block in
      let same : div_ceil (total_symbols c) 1 ≡ total_symbols c = omega arith in
      omega (arith, alone, same, is.few)

  pub all_symbols : block_symbols c 0 ≡ total_symbols c
  all_symbols =
      let whole : symbols_before c 1 ≡ total_symbols c = ap (symbols_before c) (sym is.one_block) ∙ symbols_before-all c one_block in
      let next : 0 + 1 ≡ 1 = refl in
      omega (arith, whole, symbols_before-first c, symbols_before-next c 0 one_block, ap (symbols_before c) next)

  pub as_many : (object : List ℕ) → length (source_digests c object) ≡ length l.digests
  as_many object = length-digests_before c object c.source_blocks (omega arith) ∙ symbols_before-all c one_block ∙ sym is.each

  module _ (object : List ℕ) where
    pub symbol_is : (e : ℕ) → symbol_of_block c (block_symbols c 0) (bytes_of_block c object 0) e ≡ source_symbol c object 0 e
    unfolding symbol_of_block
    symbol_is e = λ j. map (λ t. bytes_of_block-byte c object 0 (place_in_block c (block_symbols c 0) e t) j) (range_with_len 0 c.symbol_size)

    pub digest_is : (e : ℕ) → e < length (source_digests c object) → get_or (source_digests c object) e [] ≡ digest_of (symbol_of_block c (block_symbols c 0) (bytes_of_block c object 0) e)
    digest_is e below =
        let here : symbols_before c 0 + e ≡ e = omega (arith, symbols_before-first c) in
        ap (λ n. get_or (source_digests c object) n []) (sym here)
        ∙ digest_at c object 0 e [] one_block (omega (arith, below, as_many object, is.each, all_symbols)) ∙ ap digest_of (sym (symbol_is e))
