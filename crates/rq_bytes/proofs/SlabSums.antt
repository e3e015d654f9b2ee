-- Additions to one symbol of a slab, one after another.
use Rattle.std.proofs.Common.{◌≡◌, ◌≢◌, ℕ, zero, suc, ◌+◌, ◌*◌, ◌<◌, ◌≤◌, Option, List, [], ◌∷◌, ◌++◌, length, get_or, set, map, take, fold, All, refl, sym, ap, ◌∙◌, arith}
use Rattle.std.proofs.lemmas.List.{get_or-set_same, get_or-set_other, set-set, set-get_or, map_more}
use Rattle.std.proofs.lemmas.List.Elements.{All-head, All-tail, All-map, All-weaker}
use Rattle.rq_algebra.specs.Operations.{Operation, AddAssign, MulAssign, Store, IsAllowed, order_after, step, run, meant_at}
use Rattle.rq_algebra.specs.Symbols.{symbols, add_symbols}
use Rattle.rq_algebra.proofs.OperationRuns.{run-append}
use Rattle.rq_algebra.proofs.SymbolSums.{length-add_symbols}
use Rattle.rq_standard.specs.OctetField.{octets}
use Rattle.rq_standard.specs.Rows.{row_sum}
use Rattle.rq_standard.proofs.RowSymbols.{add_symbols-rows}
use Rattle.rq_bytes.specs.Ranges.{with_range}
use Rattle.rq_bytes.specs.RangeSums.{with_ranges_added, sum_of_ranges, IsRangeBeside}
use Rattle.rq_bytes.specs.SymbolSlab.{Slab, store_of, after, after_all, HasPlace, Allows, symbol_in, with_symbols_added}
use Rattle.rq_bytes.proofs.SlabFacts.{HoldsSlab, seen, apart, range_at, length-range_at, size_is, within, one_written, meant_below, length-after, order-after}
use Rattle.rq_bytes.specs.contracts.symbol_slab.SymbolSlab.{the_view, the_invariant}
use Rattle.rq_bytes.specs.declared.symbol_slab.SymbolSlab.TheInside.{Inside}

pub after_more : (operations : List Operation) (operation : Operation) (slab : Slab) → after operation (after_all operations slab) ≡ after_all (operations ++ operation ∷ []) slab
unfolding run
after_more operations operation slab =
    ap (λ (s : Store (List ℕ)). record slab { values = s.values; order = s.order }) (sym (run-append (symbols octets) operations (operation ∷ []) (store_of slab)))

-- a slab after operations that keep its order
pub record HasRun (operations : List Operation) (old now : Slab) : Type 0 where
  pub so_far : now ≡ after_all operations old
  pub count : length now.values ≡ length old.values
  pub order : now.order ≡ old.order

pub run_none : (slab : Slab) → HasRun [] slab slab
unfolding run
run_none slab = record { so_far = refl; count = refl; order = refl }

-- those of the first elements of a list, and then that of the next one
module _ {X : Type 0} (operation : X → Operation) (keeps : (x : X) (order : Option (List ℕ)) → order_after order (operation x) ≡ order) (xs : List X) (i : ℕ) (default : X) (slab now : Slab) (has_run : HasRun (map operation (take i xs)) slab now) where
  pub next_allowed : IsAllowed (length slab.values) slab.order (operation (get_or xs i default)) → IsAllowed (length now.values) now.order (operation (get_or xs i default))
  next_allowed allowed = rw (has_run.count, has_run.order) allowed

  pub run_next : i < length xs → (new : Slab) → new ≡ after (operation (get_or xs i default)) now → HasRun (map operation (take (i + 1) xs)) slab new
  run_next inside new is =
      let op = operation (get_or xs i default) in
      record {
        so_far = rw (is, has_run.so_far, map_more operation xs i default inside) (after_more (map operation (take i xs)) op slab);
        count = ap (λ (v : Slab). length v.values) is ∙ length-after op now ∙ has_run.count;
        order = ap (λ (v : Slab). v.order) is ∙ order-after op now ∙ keeps (get_or xs i default) now.order ∙ has_run.order;
      }

-- a row and those that f gives for places, added one after another
abbrev summed : (List ℕ → List ℕ → List ℕ) → (ℕ → List ℕ) → List ℕ → List ℕ → List ℕ
summed add f x sources = fold (λ sum src. add sum (f src)) x sources

length-summed : (add : List ℕ → List ℕ → List ℕ) (n : ℕ) → ((xs ys : List ℕ) → length xs ≡ n → length ys ≡ n → length (add xs ys) ≡ n)
    → (f : ℕ → List ℕ) (x sources : List ℕ) → length x ≡ n → All (λ src. length (f src) ≡ n) sources → length (summed add f x sources) ≡ n
length-summed add n keeps f x [] e all = e
length-summed add n keeps f x (src ∷ sources) e all =
    length-summed add n keeps f (add x (f src)) sources (keeps x (f src) e (All-head (λ s. length (f s) ≡ n) src sources all)) (All-tail (λ s. length (f s) ≡ n) src sources all)

-- a symbol and those that f gives for places, added one after another
abbrev added : (ℕ → List ℕ) → List ℕ → List ℕ → List ℕ
added = summed (add_symbols octets)

-- other octets in the place of the symbol that a place means
abbrev pub with_symbol : Slab → ℕ → List ℕ → Slab
with_symbol slab dest ys = record slab { values = set slab.values (meant_at slab.order dest) ys }

-- what f makes of the entry at a place, written there
made_there : (f : List ℕ → List ℕ) → f [] ≡ [] → (values : List (List ℕ)) (d : ℕ) → get_or (set values d (f (get_or values d []))) d [] ≡ f (get_or values d [])
made_there f none [] d = sym none
made_there f none (x ∷ values) zero = refl
made_there f none (x ∷ values) (suc d) = made_there f none values d

-- places that mean other symbols than one
abbrev AreOthers : Slab → ℕ → List ℕ → Type 0
AreOthers slab dest sources = All (λ src. meant_at slab.order src ≢ meant_at slab.order dest) sources

module _ (slab : Slab) (dest : ℕ) where
  addition : (x : List ℕ) (src : ℕ) → symbol_in (with_symbol slab dest x) dest ≡ x → meant_at slab.order src ≢ meant_at slab.order dest
      → step (symbols octets) (store_of (with_symbol slab dest x)) (AddAssign dest src) ≡ store_of (with_symbol slab dest (add_symbols octets x (symbol_in slab src)))
  unfolding step
  addition x src there apart =
      let d = meant_at slab.order dest in
      let values = set slab.values d x in
      rw (there, get_or-set_other slab.values d (meant_at slab.order src) x [] apart, set-set slab.values d x (add_symbols octets x (symbol_in slab src))) refl

  -- a multiplication of a symbol, and then an addition to it
  pub scaled_and_added : (scalar src : ℕ) → meant_at slab.order src ≢ meant_at slab.order dest
      → after_all (MulAssign dest scalar ∷ AddAssign dest src ∷ []) slab ≡ with_symbol slab dest (add_symbols octets (map (octets.mul scalar) (symbol_in slab dest)) (symbol_in slab src))
  unfolding step run
  scaled_and_added scalar src apart =
      let multiple = map (octets.mul scalar) (symbol_in slab dest) in
      ap (λ (s : Store (List ℕ)). record slab { values = s.values; order = s.order })
      (unfold step in addition multiple src (made_there (map (octets.mul scalar)) refl slab.values (meant_at slab.order dest)) apart)

module _ (slab : Slab) (dest : ℕ) (to : meant_at slab.order dest < length slab.values) where
  symbol_there : (ys : List ℕ) → symbol_in (with_symbol slab dest ys) dest ≡ ys
  symbol_there ys = get_or-set_same slab.values (meant_at slab.order dest) ys [] to

  -- the additions, one after another
  additions : (x sources : List ℕ) → AreOthers slab dest sources
      → run (symbols octets) (map (λ src. AddAssign dest src) sources) (store_of (with_symbol slab dest x)) ≡ store_of (with_symbol slab dest (added (symbol_in slab) x sources))
  unfolding run
  additions x [] others = refl
  additions x (src ∷ sources) others =
      let P = λ (s : ℕ). meant_at slab.order s ≢ meant_at slab.order dest in
      let sum = add_symbols octets x (symbol_in slab src) in
      ap (λ (s : Store (List ℕ)). fold (step (symbols octets)) s (map (λ k. AddAssign dest k) sources)) (addition slab dest x src (symbol_there x) (All-head P src sources others))
      ∙ unfold run in additions sum sources (All-tail P src sources others)

-- where the symbol that a place means begins
abbrev pub start_in : Slab → ℕ → ℕ
start_in slab i = meant_at slab.order i * slab.symbol_size

-- a place that means a symbol, and another one than `dest` does
abbrev pub IsSource : Slab → ℕ → ℕ → Type 0
IsSource slab dest src = (meant_at slab.order src < length slab.values) × (meant_at slab.order src ≢ meant_at slab.order dest)

abbrev pub AreSources : Slab → ℕ → List ℕ → Type 0
AreSources slab dest sources = All (IsSource slab dest) sources

pub places_of : (inside : Inside) (slab : Slab) → the_view inside ≡ slab → the_invariant inside → (places : List ℕ) → All (HasPlace slab) places → All (λ p. meant_at slab.order p < length slab.values) places
places_of inside slab view invariant places all =
    All-weaker (HasPlace slab) (λ p. meant_at slab.order p < length slab.values) (λ p place. meant_below inside slab view invariant p place) places all

pub sources_of : (inside : Inside) (slab : Slab) → the_view inside ≡ slab → the_invariant inside → (dest : ℕ) (sources : List ℕ) → All (λ src. Allows slab (AddAssign dest src)) sources → AreSources slab dest sources
sources_of inside slab view invariant dest sources allowed =
    All-weaker (λ src. Allows slab (AddAssign dest src)) (IsSource slab dest) (λ src a. (meant_below inside slab view invariant src a.1, a.2)) sources allowed

module _ {bytes : List ℕ} {count size : ℕ} {order : Option (List ℕ)} {slab : Slab} (is : HoldsSlab bytes count size order slab) where
  -- ranges added to a row are symbols added to it
  ranges_are_symbols : (row places : List ℕ) → All (λ p. meant_at slab.order p < length slab.values) places
      → with_ranges_added row bytes (map (start_in slab) places) size ≡ with_symbols_added slab row places
  ranges_are_symbols row [] all = refl
  ranges_are_symbols row (p ∷ places) all =
      let P = λ (q : ℕ). meant_at slab.order q < length slab.values in
      ap (λ y. with_ranges_added (row_sum row y) bytes (map (start_in slab) places) size) (range_at is (meant_at slab.order p) (All-head P p places all))
      ∙ ranges_are_symbols (row_sum row (symbol_in slab p)) places (All-tail P p places all)

  rows_are_symbols : (x places : List ℕ) → length x ≡ size → All (λ p. meant_at slab.order p < length slab.values) places
      → with_symbols_added slab x places ≡ added (symbol_in slab) x places
  rows_are_symbols x [] long all = refl
  rows_are_symbols x (p ∷ places) long all =
      let P = λ (q : ℕ). meant_at slab.order q < length slab.values in
      let y = symbol_in slab p in
      let one = length-range_at is (meant_at slab.order p) (All-head P p places all) in
      ap (λ z. with_symbols_added slab z places) (sym (add_symbols-rows x y (one ∙ sym long)))
      ∙ rows_are_symbols (add_symbols octets x y) places (length-add_symbols octets size size x y long one) (All-tail P p places all)

  pub symbols_long : (n : ℕ) (places : List ℕ) → n ≡ slab.symbol_size → All (λ p. meant_at slab.order p < length slab.values) places → All (λ p. n ≤ length (symbol_in slab p)) places
  symbols_long n places long all =
      All-weaker (λ p. meant_at slab.order p < length slab.values) (λ p. n ≤ length (symbol_in slab p)) (λ p lt. omega (arith, long, size_is is, length-range_at is (meant_at slab.order p) lt)) places all

  module _ (dest : ℕ) (to : meant_at slab.order dest < length slab.values) (sources : List ℕ) (all : AreSources slab dest sources) where
    starts_beside : All (IsRangeBeside (length bytes) (start_in slab dest) size) (map (start_in slab) sources)
    starts_beside =
        All-map (IsRangeBeside (length bytes) (start_in slab dest) size) (start_in slab) sources
        (All-weaker (IsSource slab dest) (λ src. IsRangeBeside (length bytes) (start_in slab dest) size (start_in slab src))
        (λ src a. (within is (meant_at slab.order src) a.0, apart is (meant_at slab.order dest) (meant_at slab.order src) (start_in slab dest) (start_in slab src) a.1 refl refl)) sources all)

    pub beside_in : (start : ℕ) (starts old : List ℕ) → start ≡ start_in slab dest → starts ≡ map (start_in slab) sources → old ≡ bytes → All (IsRangeBeside (length old) start size) starts
    beside_in start starts old e same_starts same =
        rw (same, e, same_starts) starts_beside

    -- what callers see once the sum is written
    pub all_added : (start : ℕ) (starts old new items : List ℕ) → start ≡ start_in slab dest → starts ≡ map (start_in slab) sources → old ≡ bytes → items ≡ new
        → new ≡ with_range old start (sum_of_ranges old start starts size)
        → seen count size order items ≡ after_all (map (λ src. AddAssign dest src) sources) slab
    all_added start starts old new items e same_starts same kept is_new =
        let d = meant_at slab.order dest in
        let x = symbol_in slab dest in
        let sum = added (symbol_in slab) x sources in
        let x_long = length-range_at is d to in
        let meant = All-weaker (IsSource slab dest) (λ src. meant_at slab.order src < length slab.values) (λ src a. a.0) sources all in
        let long : length sum ≡ size = length-summed (add_symbols octets) size (length-add_symbols octets size size) (symbol_in slab) x sources x_long
        (All-weaker (IsSource slab dest) (λ src. length (symbol_in slab src) ≡ size) (λ src a. length-range_at is (meant_at slab.order src) a.0) sources all) in
        let back : ◌≡◌ {A = Slab} (with_symbol slab dest x) slab = ap (λ (v : List (List ℕ)). record slab { values = v }) (set-get_or slab.values d []) in
        one_written is d start old new items sum to e long same kept (
        rw (is_new, same, e, same_starts, range_at is d to, ranges_are_symbols x sources meant, rows_are_symbols x sources x_long meant) refl)
        ∙ ap (λ (s : Store (List ℕ)). record slab { values = s.values; order = s.order }) (sym (additions slab dest to x sources (All-weaker (IsSource slab dest) (λ src. meant_at slab.order src ≢ meant_at slab.order dest) (λ src a. a.1) sources all)))
        ∙ ap (after_all (map (λ src. AddAssign dest src) sources)) back
