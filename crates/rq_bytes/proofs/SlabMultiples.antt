-- Multiples of one symbol of a slab, added to several others, one after another.
use Rattle.std.proofs.Common.{◌≡◌, ◌≢◌, ℕ, ◌+◌, ◌*◌, ◌<◌, Option, List, [], ◌∷◌, length, get_or, set, map, All, refl, sym, ap, ◌∙◌, subst, arith}
use Rattle.std.proofs.lemmas.List.{get_or-set_other, length-map}
use Rattle.std.proofs.lemmas.List.Elements.{All-head, All-tail, All-map, All-weaker}
use Rattle.std.proofs.lemmas.Simd.{length-zip2}
use Rattle.std.specs.Int.Bits.{bit_xor}
use Rattle.rq_algebra.specs.Operations.{Operation, Fma, step, run, meant_at}
use Rattle.rq_algebra.specs.Symbols.{add_symbols}
use Rattle.rq_standard.specs.OctetField.{octets}
use Rattle.rq_standard.specs.Rows.{row_sum, row_multiple}
use Rattle.rq_standard.proofs.RowSymbols.{add_symbols-rows, scale-rows}
use Rattle.rq_bytes.specs.Ranges.{range_of}
use Rattle.rq_bytes.specs.RangeSums.{with_row_added, with_multiples_added, IsRangeBeside}
use Rattle.rq_bytes.specs.SymbolSlab.{Slab, after, after_all, Allows, symbol_in}
use Rattle.rq_bytes.specs.Targets.{start_and_octet, start_and_octet_in}
use Rattle.rq_bytes.specs.contracts.symbol_slab.SymbolSlab.{the_view, the_invariant}
use Rattle.rq_bytes.specs.declared.range_multiples.Target.{Target}
use Rattle.rq_bytes.specs.declared.symbol_slab.multiples.Multiple.{Multiple}
use Rattle.rq_bytes.specs.declared.symbol_slab.SymbolSlab.TheInside.{Inside}
use Rattle.rq_bytes.proofs.Spreads.{length-multiple, length-row_added}
use Rattle.rq_bytes.proofs.RowSums.{all_unmap}
use Rattle.rq_bytes.proofs.SlabFacts.{HoldsSlab, seen, apart, range_at, length-range_at, within, one_written, meant_below, length-after}

abbrev pub fma_of : ℕ → Multiple → Operation
fma_of src m = Fma m.dest src m.scalar

-- it is added to a symbol, and to another one than the one that is multiplied
abbrev pub IsTarget : Slab → ℕ → Multiple → Type 0
IsTarget slab src m = (meant_at slab.order m.dest < length slab.values) × (meant_at slab.order src ≢ meant_at slab.order m.dest) × (m.scalar < 256)

abbrev pub AreTargets : Slab → ℕ → List Multiple → Type 0
AreTargets slab src multiples = All (IsTarget slab src) multiples

-- what holds of each image
octets_small : (slab : Slab) (targets : List Target) (multiples : List Multiple) → map start_and_octet targets ≡ map (start_and_octet_in slab) multiples → All (λ m. m.scalar < 256) multiples
octets_small slab targets multiples same =
    let P = λ (p : ℕ × ℕ). p.1 < 256 in
    all_unmap P (start_and_octet_in slab) multiples (subst (All P) same (All-map P start_and_octet targets (λ k d lt. (get_or targets k d).factor.products.octet)))

pub targets_from : (inside : Inside) (slab : Slab) → the_view inside ≡ slab → the_invariant inside → (src : ℕ) (targets : List Target) (multiples : List Multiple)
    → All (λ m. Allows slab (fma_of src m)) multiples → map start_and_octet targets ≡ map (start_and_octet_in slab) multiples → AreTargets slab src multiples
targets_from inside slab view invariant src targets multiples allowed same =
    λ k d lt. let a = allowed k d lt in (meant_below inside slab view invariant (get_or multiples k d).dest a.0, a.2, octets_small slab targets multiples same k d lt)

pub after_all-none : (slab : Slab) → after_all [] slab ≡ slab
unfolding run
after_all-none slab = refl

pub after_all-first : (operation : Operation) (operations : List Operation) (slab : Slab) → after_all (operation ∷ operations) slab ≡ after_all operations (after operation slab)
unfolding run
after_all-first operation operations slab = refl

-- ---- one multiple

module _ {bytes : List ℕ} {count size : ℕ} {order : Option (List ℕ)} {slab : Slab} (is : HoldsSlab bytes count size order slab) (src dest scalar : ℕ)
    (to : meant_at slab.order dest < length slab.values) (from : meant_at slab.order src < length slab.values) (octet : scalar < 256) where
  multiple_written : (row : List ℕ) → row ≡ symbol_in slab src → HoldsSlab (with_row_added bytes (meant_at slab.order dest * slab.symbol_size + 0) (row_multiple scalar row)) count size order (after (Fma dest src scalar) slab)
  unfolding step
  multiple_written row e =
      let d = meant_at slab.order dest in
      let start = d * slab.symbol_size in
      let x = symbol_in slab dest in
      let y = symbol_in slab src in
      let part = row_multiple scalar row in
      let new = with_row_added bytes (start + 0) part in
      let long_x : length x ≡ size = length-range_at is d to in
      let long_y : length y ≡ size = length-range_at is (meant_at slab.order src) from in
      let long_part : length part ≡ size = length-multiple scalar row ∙ ap length e ∙ long_y in
      let sum = row_sum x part in
      let here : start + 0 ≡ start = omega arith in
      let as_long : length (map (octets.mul scalar) y) ≡ length x = length-map y (octets.mul scalar) ∙ long_y ∙ sym long_x in
      record {
        view =
            one_written is d start bytes new new sum to refl (length-zip2 bit_xor x part (long_x ∙ sym long_part) ∙ long_x) refl refl
            (rw (here, long_part, range_at is d to) refl)
            ∙ ap (λ (xs : List ℕ). record slab { values = set slab.values d xs })
            (rw (e, ← scale-rows scalar y octet) (sym (add_symbols-rows x (map (octets.mul scalar) y) as_long)));
        long = length-row_added bytes (start + 0) part (omega (arith, within is d to, long_part)) ∙ is.long;
      }

  source_stays : meant_at slab.order src ≢ meant_at slab.order dest → symbol_in (after (Fma dest src scalar) slab) src ≡ symbol_in slab src
  unfolding step
  source_stays other = get_or-set_other slab.values (meant_at slab.order dest) (meant_at slab.order src) (add_symbols octets (symbol_in slab dest) (map (octets.mul scalar) (symbol_in slab src))) [] other

-- ---- several

module _ {count size : ℕ} {order : Option (List ℕ)} (src : ℕ) (row : List ℕ) where
  pub all_written : {bytes : List ℕ} {slab : Slab} (is : HoldsSlab bytes count size order slab) (multiples : List Multiple) → meant_at slab.order src < length slab.values → row ≡ symbol_in slab src → AreTargets slab src multiples
      → HoldsSlab (with_multiples_added bytes row 0 (map (start_and_octet_in slab) multiples)) count size order (after_all (map (fma_of src) multiples) slab)
  unfolding step
  all_written {bytes} {slab} is [] from e all = subst (HoldsSlab bytes count size order) (sym (after_all-none slab)) is
  all_written {bytes} {slab} is (m ∷ multiples) from e all =
      let P = IsTarget slab src in
      let first = All-head P m multiples all in
      let next = after (fma_of src m) slab in
      let new = with_row_added bytes (meant_at slab.order m.dest * slab.symbol_size + 0) (row_multiple m.scalar row) in
      let count_stays = length-after (fma_of src m) slab in
      let rest = all_written {bytes = new} {slab = next} (multiple_written is src m.dest m.scalar first.0 from first.2 row e) multiples (omega arith)
      (e ∙ sym (source_stays is src m.dest m.scalar first.0 from first.2 first.1))
      (All-weaker P (IsTarget next src) (λ u t. (omega (arith, t.0), t.1, t.2)) multiples (All-tail P m multiples all)) in
      subst (HoldsSlab (with_multiples_added new row 0 (map (start_and_octet_in slab) multiples)) count size order) (sym (after_all-first (fma_of src m) (map (fma_of src) multiples) slab)) rest

module _ {bytes : List ℕ} {count size : ℕ} {order : Option (List ℕ)} {slab : Slab} (is : HoldsSlab bytes count size order slab) (src : ℕ) (from : meant_at slab.order src < length slab.values)
    (multiples : List Multiple) (all : AreTargets slab src multiples) where
  abbrev begin : ℕ
  begin = meant_at slab.order src * slab.symbol_size

  -- the others are apart from it
  pub targets_beside : (targets : List Target) (start : ℕ) (old : List ℕ) → start ≡ begin → map start_and_octet targets ≡ map (start_and_octet_in slab) multiples → old ≡ bytes
      → All (λ t. IsRangeBeside (length old) start size t.start) targets
  targets_beside targets start old e same_targets same =
      let P = λ (p : ℕ × ℕ). IsRangeBeside (length bytes) begin size p.0 in
      let there : (m : Multiple) → IsTarget slab src m → P (start_and_octet_in slab m) =
      λ m t.
      let d = meant_at slab.order m.dest in
      (within is d t.0, apart is (meant_at slab.order src) d begin (d * slab.symbol_size) (λ h. t.1 (sym h)) refl refl) in
      rw (same, e) (all_unmap P start_and_octet targets (rw same_targets (
      All-map P (start_and_octet_in slab) multiples (All-weaker (IsTarget slab src) (λ m. P (start_and_octet_in slab m)) there multiples all))))

  -- what callers see once the multiples are added
  pub all_multiples : (pairs : List (ℕ × ℕ)) (start : ℕ) (old new items : List ℕ) → start ≡ begin → pairs ≡ map (start_and_octet_in slab) multiples → old ≡ bytes → items ≡ new
      → new ≡ with_multiples_added old (range_of old start size) 0 pairs
      → seen count size order items ≡ after_all (map (fma_of src) multiples) slab
  all_multiples pairs start old new items e same_pairs same kept is_new =
      rw (kept, is_new, same, e, range_at is (meant_at slab.order src) from, same_pairs) (all_written src (symbol_in slab src) is multiples from refl all).view
