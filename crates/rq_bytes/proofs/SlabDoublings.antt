-- A symbol of a slab that is doubled, and added to others.
use Rattle.std.proofs.Common.{◌≡◌, ◌≢◌, inl, inr, ⊎_elim, ℕ, ◌*◌, ◌<◌, Option, List, [], ◌∷◌, length, set, map, All, refl, sym, ap, ◌∙◌, subst, arith, length-set}
use Rattle.std.proofs.lemmas.Bool.{cases_eq}
use Rattle.std.proofs.lemmas.List.{get_or-set_other, length-map}
use Rattle.std.proofs.lemmas.List.Elements.{All-head, All-tail, All-map, All-weaker}
use Rattle.rq_algebra.specs.Operations.{Operation, AddAssign, MulAssign, step, run, meant_at}
use Rattle.rq_algebra.specs.Symbols.{add_symbols, AreSymbols}
use Rattle.rq_algebra.proofs.SymbolColumns.{run_keeps_symbols}
use Rattle.rq_standard.specs.OctetField.{octets}
use Rattle.rq_standard.specs.Rows.{row_sum, row_multiple}
use Rattle.rq_standard.proofs.RowSymbols.{add_symbols-rows, scale-rows}
use Rattle.rq_bytes.specs.Ranges.{range_of, with_range}
use Rattle.rq_bytes.specs.RangeSums.{doubled_sum, with_doubled_sum, by_one, IsRangeBeside, BeginsNotInside}
use Rattle.rq_bytes.specs.SymbolSlab.{Slab, store_of, after, after_all, Allows, symbol_in}
use Rattle.rq_bytes.specs.Targets.{start_and_octet_in}
use Rattle.rq_bytes.specs.declared.symbol_slab.multiples.Multiple.{Multiple}
use Rattle.rq_bytes.proofs.Cuts.{pieces_apart}
use Rattle.rq_bytes.proofs.Multiples.{times_one}
use Rattle.rq_bytes.proofs.Spreads.{spread_upto, length-doubled_sum}
use Rattle.rq_bytes.proofs.RangeFacts.{length-with_range}
use Rattle.rq_bytes.proofs.SlabFacts.{HoldsSlab, seen, apart, range_at, length-range_at, within, one_written, size_is, are_symbols, length-after, order-after}
use Rattle.rq_bytes.proofs.SlabMultiples.{fma_of, IsTarget, AreTargets, all_written, after_all-none, after_all-first}
use Rattle.rq_bytes.proofs.SlabSums.{IsSource, AreSources, start_in, with_symbol, scaled_and_added}

-- ---- multiples by 1

abbrev added_once : ℕ → Multiple
added_once target = record { dest = target; scalar = 1 }

module _ (dest : ℕ) where
  one_added : (slab : Slab) (target : ℕ) → map (octets.mul 1) (symbol_in slab dest) ≡ symbol_in slab dest → after (fma_of dest (added_once target)) slab ≡ after (AddAssign target dest) slab
  unfolding step
  one_added slab target e = ap (λ (y : List ℕ). record slab { values = set slab.values (meant_at slab.order target) (add_symbols octets (symbol_in slab target) y) }) e

  stays : (slab : Slab) (target : ℕ) → meant_at slab.order dest ≢ meant_at slab.order target → symbol_in (after (AddAssign target dest) slab) dest ≡ symbol_in slab dest
  unfolding step
  stays slab target other = get_or-set_other slab.values (meant_at slab.order target) (meant_at slab.order dest) (add_symbols octets (symbol_in slab target) (symbol_in slab dest)) [] other

  ones_added : (slab : Slab) (targets : List ℕ) → map (octets.mul 1) (symbol_in slab dest) ≡ symbol_in slab dest → All (λ t. meant_at slab.order dest ≢ meant_at slab.order t) targets
      → after_all (map (fma_of dest) (map added_once targets)) slab ≡ after_all (map (λ t. AddAssign t dest) targets) slab
  unfolding step
  ones_added slab [] e others = refl
  ones_added slab (t ∷ targets) e others =
      let P = λ (u : ℕ). meant_at slab.order dest ≢ meant_at slab.order u in
      let next = after (AddAssign t dest) slab in
      let rest = map (fma_of dest) (map added_once targets) in
      let same = stays slab t (All-head P t targets others) in
      after_all-first (fma_of dest (added_once t)) rest slab
      ∙ ap (after_all rest) (one_added slab t e)
      ∙ ones_added next targets (ap (map (octets.mul 1)) same ∙ e ∙ sym same) (All-tail P t targets others)
      ∙ sym (after_all-first (AddAssign t dest) (map (λ u. AddAssign u dest) targets) slab)

pub after_all-two : (first second : Operation) (rest : List Operation) (slab : Slab) → after_all rest (after_all (first ∷ second ∷ []) slab) ≡ after_all (first ∷ second ∷ rest) slab
unfolding run
after_all-two first second rest slab = refl

-- an addition that is allowed stays so
pub still_allowed : (dest src target : ℕ) (old new : Slab) → new ≡ after_all (MulAssign dest 2 ∷ AddAssign dest src ∷ []) old → Allows old (AddAssign target dest) → Allows new (AddAssign target dest)
still_allowed dest src target old new e allowed =
    let add = AddAssign dest src in
    let doubled = after (MulAssign dest 2) old in
    let is : new ≡ after add doubled = e ∙ after_all-first (MulAssign dest 2) (add ∷ []) old ∙ after_all-first add [] doubled ∙ after_all-none (after add doubled) in
    rw (is, length-after add doubled, order-after add doubled, length-after (MulAssign dest 2) old, order-after (MulAssign dest 2) old) allowed

same_targets : (slab : Slab) (targets : List ℕ) → map (start_and_octet_in slab) (map added_once targets) ≡ map by_one (map (start_in slab) targets)
same_targets slab [] = refl
same_targets slab (t ∷ targets) = ap (λ ts. by_one (start_in slab t) ∷ ts) (same_targets slab targets)

-- a symbol begins at another's start or before it, or where it ends or behind that
start_outside : (p q size : ℕ) → BeginsNotInside (p * size) size (q * size)
start_outside p q size = elim (cases_eq q p) [
  | inl e ↦ inl (omega (arith, ap (λ k. k * size) e))
  | inr d ↦ ⊎_elim (λ before. inr before) (λ behind. inl (omega arith)) (pieces_apart p q size d)
]

-- ---- a slab's symbol

module _ {bytes : List ℕ} {count size : ℕ} {order : Option (List ℕ)} {slab : Slab} (is : HoldsSlab bytes count size order slab) (dest src : ℕ)
    (to : meant_at slab.order dest < length slab.values) (from : meant_at slab.order src < length slab.values) (other : meant_at slab.order src ≢ meant_at slab.order dest) where
  pub source_beside : (start src_start : ℕ) (old : List ℕ) → start ≡ start_in slab dest → src_start ≡ start_in slab src → old ≡ bytes → IsRangeBeside (length old) start size src_start
  source_beside start src_start old e f same =
      (omega (arith, within is (meant_at slab.order src) from, ap length same), apart is (meant_at slab.order dest) (meant_at slab.order src) start src_start other e f)

  abbrev sum : List ℕ
  sum = row_sum (row_multiple 2 (symbol_in slab dest)) (symbol_in slab src)

  -- the slab with the symbol doubled and the other one added to it
  abbrev begun : Slab
  begun = with_symbol slab dest sum

  begun_is : begun ≡ after_all (MulAssign dest 2 ∷ AddAssign dest src ∷ []) slab
  begun_is =
      let x = symbol_in slab dest in
      let y = symbol_in slab src in
      let doubled = map (octets.mul 2) x in
      let long : length y ≡ length doubled = length-range_at is (meant_at slab.order src) from ∙ sym (length-map x (octets.mul 2) ∙ length-range_at is (meant_at slab.order dest) to) in
      rw (scaled_and_added slab dest 2 src other, add_symbols-rows doubled y long, scale-rows 2 x (omega arith)) refl

  abbrev middle : List ℕ
  middle = with_doubled_sum bytes (start_in slab dest) (start_in slab src) size

  sum_is : doubled_sum bytes (start_in slab dest) (start_in slab src) size ≡ sum
  sum_is =
      rw (range_at is (meant_at slab.order dest) to, range_at is (meant_at slab.order src) from) refl

  middle_holds : HoldsSlab middle count size order begun
  middle_holds =
      let d = meant_at slab.order dest in
      let start = start_in slab dest in
      let long = length-doubled_sum bytes start (start_in slab src) size (within is d to) (within is (meant_at slab.order src) from) in
      record {
        view = one_written is d start bytes middle middle sum to refl (ap length (sym sum_is) ∙ long) refl refl (ap (with_range bytes start) sum_is);
        long = length-with_range bytes start (doubled_sum bytes start (start_in slab src) size) (omega (arith, long, within is d to)) ∙ is.long;
      }

  module _ (targets : List ℕ) (others : AreSources slab dest targets) where
    -- no other symbol begins within one
    pub starts_outside : (src_start : ℕ) (starts : List ℕ) → src_start ≡ start_in slab src → starts ≡ map (start_in slab) targets → All (BeginsNotInside src_start size) starts
    starts_outside src_start starts f same =
        let P = BeginsNotInside (start_in slab src) size in
        rw (same, f) (All-map P (start_in slab) targets (All-weaker (IsSource slab dest) (λ t. P (start_in slab t)) (λ t s.
        rw (size_is is) (start_outside (meant_at slab.order src) (meant_at slab.order t) slab.symbol_size)) targets others))

    pub all_spread : All (λ x. x < 256) bytes → (start src_start : ℕ) (starts old new items : List ℕ) → start ≡ start_in slab dest → src_start ≡ start_in slab src
        → starts ≡ map (start_in slab) targets → old ≡ bytes → items ≡ new → new ≡ spread_upto old start src_start (map by_one starts) size
        → seen count size order items ≡ after_all (MulAssign dest 2 ∷ AddAssign dest src ∷ map (λ t. AddAssign t dest) targets) slab
    all_spread small start src_start starts old new items e f same_starts same kept is_new =
        let adds = map (λ t. AddAssign t dest) targets in
        let row = range_of middle (start_in slab dest) size in
        let count_stays = length-set slab.values (meant_at slab.order dest) sum in
        let to_begun : meant_at slab.order dest < length begun.values = omega (arith, to) in
        let symbols : AreSymbols octets slab.symbol_size count begun.values = subst (λ (s : Slab). AreSymbols octets slab.symbol_size count s.values) (sym begun_is)
        (run_keeps_symbols octets slab.symbol_size count (MulAssign dest 2 ∷ AddAssign dest src ∷ []) (store_of slab) (are_symbols is small)) in
        let all : AreTargets begun dest (map added_once targets) = All-map (IsTarget begun dest) added_once targets (
        All-weaker (IsSource slab dest) (λ t. IsTarget begun dest (added_once t)) (λ t s. (omega (arith, s.0), λ h. s.1 (sym h), omega arith)) targets others) in
        let done = all_written dest row middle_holds (map added_once targets) to_begun (range_at middle_holds (meant_at slab.order dest) to_begun) all in
        rw (kept, is_new, same, e, f, same_starts, ← same_targets begun targets) done.view
        ∙ ones_added dest begun targets (scale-rows 1 (symbol_in begun dest) (omega arith) ∙ times_one (symbol_in begun dest) (λ i l. (symbols.each (meant_at slab.order dest) (omega (arith, to_begun, symbols.count_is))).elements i 0 l))
        (All-weaker (IsSource slab dest) (λ t. meant_at slab.order dest ≢ meant_at slab.order t) (λ t s h. s.1 (sym h)) targets others)
        ∙ ap (after_all adds) begun_is
        ∙ after_all-two (MulAssign dest 2) (AddAssign dest src) adds slab
