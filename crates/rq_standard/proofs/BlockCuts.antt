-- The blocks of an object are its bytes, one block after another.
use Rattle.std.proofs.Common.{◌≡◌, ℕ, zero, suc, ◌+◌, ◌-◌, ◌*◌, ◌<◌, ◌≤◌, min, List, [], ◌++◌, length, take, get_or, map, refl, sym, ap, ◌∙◌, arith, inl, inr, length-append}
use Rattle.std.specs.List.{range_with_len}
use Rattle.std.proofs.lemmas.Bool.{cases_lt, lt-ltb, le-ltb}
use Rattle.std.proofs.lemmas.List.{ext_get_or, get_or-take, length-take-le, get_or_append_left, get_or-append_right, nil_from_length}
use Rattle.std.proofs.lemmas.Grind.{div_ceil_times}
use Rattle.std.proofs.lemmas.List.FromFn.{length-map-range_with_len, get_or-map-range_with_len}
use Rattle.rq_standard.specs.Configuration.{Configuration, total_symbols, largest_block}
use Rattle.rq_standard.specs.Cutting.{block_parts, block_symbols, symbols_before, block_bytes}
use Rattle.rq_standard.proofs.PartSums.{parts-whole}
use Rattle.rq_standard.proofs.PlainCut.{length-block_bytes}

-- ---- how many symbols a block has

pub larger_block : (c : Configuration) (b : ℕ) → b < (block_parts c).larger_count → block_symbols c b ≡ (block_parts c).larger
unfolding block_symbols
larger_block c b h = rw (lt-ltb b (block_parts c).larger_count h) refl

pub smaller_block : (c : Configuration) (b : ℕ) → (block_parts c).larger_count ≤ b → b < c.source_blocks → block_symbols c b ≡ (block_parts c).smaller
unfolding block_symbols
smaller_block c b h below = rw (le-ltb b (block_parts c).larger_count h, lt-ltb b c.source_blocks below) refl

pub block_symbols_few : (c : Configuration) (b : ℕ) → b < c.source_blocks → block_symbols c b ≤ largest_block c
block_symbols_few c b below = elim (cases_lt b (block_parts c).larger_count) [
  | inl lt ↦ omega (arith, larger_block c b lt)
  | inr past ↦ omega (arith, smaller_block c b past below)
]

-- no block is larger than the first
pub first_is_largest : (c : Configuration) (b : ℕ) → b < c.source_blocks → block_symbols c b ≤ block_symbols c 0
first_is_largest c b below = elim (cases_lt b (block_parts c).larger_count) [
  | inl lt ↦ omega (arith, larger_block c b lt, larger_block c 0 (omega arith))
  | inr past ↦ elim (cases_lt 0 (block_parts c).larger_count) [
    | inl lt ↦ omega (arith, smaller_block c b past below, larger_block c 0 lt)
    | inr none ↦ omega (arith, smaller_block c b past below, smaller_block c 0 none (omega arith))
  ]
]

pub symbols_before-first : (c : Configuration) → symbols_before c 0 ≡ 0
unfolding symbols_before
symbols_before-first c =
    let p = block_parts c in
    let none : min 0 p.larger_count ≡ 0 = omega arith in
    let left : 0 - p.larger_count ≡ 0 = omega arith in
    rw (none, left) (omega arith)

pub symbols_before-next : (c : Configuration) (b : ℕ) → b < c.source_blocks → symbols_before c (b + 1) ≡ symbols_before c b + block_symbols c b
unfolding symbols_before
symbols_before-next c b below =
    let p = block_parts c in
    elim (cases_lt b p.larger_count) [
      | inl lt ↦
          let here : min b p.larger_count ≡ b = omega arith in
          let next : min (b + 1) p.larger_count ≡ b + 1 = omega arith in
          let none : b - p.larger_count ≡ 0 = omega arith in
          let none_next : b + 1 - p.larger_count ≡ 0 = omega arith in
          rw (here, next, none, none_next, larger_block c b lt) (omega arith)
      | inr past ↦
          let here : min b p.larger_count ≡ p.larger_count = omega arith in
          let next : min (b + 1) p.larger_count ≡ p.larger_count = omega arith in
          let more : b + 1 - p.larger_count ≡ b - p.larger_count + 1 = omega arith in
          rw (here, next, more, smaller_block c b past below) (omega arith)
    ]

pub symbols_before-grows : (c : Configuration) (m n : ℕ) → m ≤ n → n ≤ c.source_blocks → symbols_before c m ≤ symbols_before c n
symbols_before-grows c m zero h all = let none : m ≡ 0 = omega arith in rw none (omega arith)
symbols_before-grows c m (suc n) h all =
    let next : n + 1 ≡ suc n = omega arith in
    elim (cases_lt m (suc n)) [
      | inl lt ↦ omega (arith, symbols_before-grows c m n (omega arith) (omega arith), symbols_before-next c n (omega arith), ap (symbols_before c) next)
      | inr past ↦ let here : m ≡ suc n = omega arith in rw here (omega arith)
    ]

pub symbols_before-all : (c : Configuration) → 0 < c.source_blocks → symbols_before c c.source_blocks ≡ total_symbols c
unfolding symbols_before
symbols_before-all c some =
    let p = block_parts c in
    let z = c.source_blocks in
    let few : p.larger_count < z = omega arith in
    let here : min z p.larger_count ≡ p.larger_count = omega (arith, few) in
    rw here (omega (arith, parts-whole (total_symbols c) z some))

-- ---- their bytes

abbrev pub pieces : (ℕ → List ℕ) → ℕ → List ℕ
pieces f zero = []
pieces f (suc n) = pieces f n ++ f n

pub pieces_same : (f g : ℕ → List ℕ) (n : ℕ) → ((b : ℕ) → b < n → f b ≡ g b) → pieces f n ≡ pieces g n
pieces_same f g zero same = refl
pieces_same f g (suc n) same = ap (λ xs. xs ++ f n) (pieces_same f g n (λ b l. same b (omega arith))) ∙ ap (λ ys. pieces g n ++ ys) (same n (omega arith))

-- the object's bytes up to some symbols, with zeros past its end
abbrev up_to : Configuration → List ℕ → ℕ → List ℕ
up_to c object symbols = map (λ i. get_or object i 0) (range_with_len 0 (symbols * c.symbol_size))

length-up_to : (c : Configuration) (object : List ℕ) (symbols : ℕ) → length (up_to c object symbols) ≡ symbols * c.symbol_size
length-up_to c object symbols = length-map-range_with_len (λ i. get_or object i 0) 0 (symbols * c.symbol_size)

up_to-byte : (c : Configuration) (object : List ℕ) (symbols i : ℕ) → i < symbols * c.symbol_size → get_or (up_to c object symbols) i 0 ≡ get_or object i 0
up_to-byte c object symbols i below = get_or-map-range_with_len (λ i. get_or object i 0) 0 (symbols * c.symbol_size) i i 0 below (omega arith)

pub block_byte : (c : Configuration) (object : List ℕ) (b i : ℕ) → i < block_symbols c b * c.symbol_size → get_or (block_bytes c object b) i 0 ≡ get_or object (symbols_before c b * c.symbol_size + i) 0
unfolding block_bytes
block_byte c object b i below = get_or-map-range_with_len (λ i. get_or object (symbols_before c b * c.symbol_size + i) 0) 0 (block_symbols c b * c.symbol_size) i i 0 below (omega arith)

-- a block behind those before it
up_to-next : (c : Configuration) (object : List ℕ) (b : ℕ) → b < c.source_blocks → up_to c object (symbols_before c b) ++ block_bytes c object b ≡ up_to c object (symbols_before c (b + 1))
up_to-next c object b below =
    let t = c.symbol_size in
    let front = up_to c object (symbols_before c b) in
    let block = block_bytes c object b in
    let whole : symbols_before c (b + 1) * t ≡ symbols_before c b * t + block_symbols c b * t = ap (λ n. n * t) (symbols_before-next c b below) ∙ omega arith in
    let long : length (front ++ block) ≡ symbols_before c (b + 1) * t = length-append front block ∙ omega (arith, length-up_to c object (symbols_before c b), length-block_bytes c object b, whole) in
    ext_get_or 0 (front ++ block) (up_to c object (symbols_before c (b + 1))) (long ∙ sym (length-up_to c object (symbols_before c (b + 1))))
    (λ i lt. elim (cases_lt i (symbols_before c b * t)) [
      | inl before ↦ get_or_append_left front block 0 i (omega (arith, length-up_to c object (symbols_before c b))) ∙ up_to-byte c object (symbols_before c b) i before ∙ sym (up_to-byte c object (symbols_before c (b + 1)) i (omega (arith, whole)))
      | inr past ↦ get_or-append_right front block (symbols_before c b * t) i 0 (length-up_to c object (symbols_before c b)) past ∙ block_byte c object b (i - symbols_before c b * t) (omega (arith, whole, long)) ∙ ap (λ n. get_or object n 0) (omega arith)
          ∙ sym (up_to-byte c object (symbols_before c (b + 1)) i (omega (arith, long)))
    ])

pieces-up_to : (c : Configuration) (object : List ℕ) (n : ℕ) → n ≤ c.source_blocks → pieces (block_bytes c object) n ≡ up_to c object (symbols_before c n)
pieces-up_to c object zero h = sym (nil_from_length (up_to c object (symbols_before c 0)) (length-up_to c object (symbols_before c 0) ∙ ap (λ n. n * c.symbol_size) (symbols_before-first c) ∙ omega arith))
pieces-up_to c object (suc n) h =
    let next : n + 1 ≡ suc n = omega arith in
    ap (λ xs. xs ++ block_bytes c object n) (pieces-up_to c object n (omega arith)) ∙ up_to-next c object n (omega arith) ∙ ap (λ m. up_to c object (symbols_before c m)) next

-- all blocks are the object, and zeros behind it
pub whole_object : (c : Configuration) (object : List ℕ) → 0 < c.source_blocks → 0 < c.symbol_size → length object ≡ c.transfer_length → take c.transfer_length (pieces (block_bytes c object) c.source_blocks) ≡ object
whole_object c object some pos long =
    let n = total_symbols c in
    let all : pieces (block_bytes c object) c.source_blocks ≡ up_to c object n = pieces-up_to c object c.source_blocks (omega arith) ∙ ap (up_to c object) (symbols_before-all c some) in
    let room : c.transfer_length ≤ n * c.symbol_size = (div_ceil_times c.transfer_length c.symbol_size pos).0 in
    let size : length (take c.transfer_length (up_to c object n)) ≡ c.transfer_length = length-take-le c.transfer_length (up_to c object n) (omega (arith, length-up_to c object n)) in
    ap (take c.transfer_length) all
    ∙ ext_get_or 0 (take c.transfer_length (up_to c object n)) object (size ∙ sym long)
    (λ i below. let lt : i < c.transfer_length = omega (arith, size) in get_or-take c.transfer_length (up_to c object n) i 0 lt ∙ up_to-byte c object n i (omega arith))
