-- A block, sub-block by sub-block.
use Rattle.std.proofs.Common.{◌≡◌, ℕ, zero, suc, ◌+◌, ◌-◌, ◌*◌, ◌/◌, ◌%◌, ◌<◌, ◌≤◌, min, max, List, [], ◌∷◌, ◌++◌, All, length, get_or, take, drop, map, replicate, inl, inr, cond, refl, sym, ap, ◌∙◌, subst, arith, append_assoc, length-append}
use Rattle.std.specs.Prelude.{Result, Ok, Err, OnOk, is_ok, Option, Some, None, IsSomeAnd, unwrap_or}
use Rattle.std.specs.Int.{div_ceil}
use Rattle.std.specs.List.{flat_map, range_with_len}
use Rattle.std.proofs.Math.Nat.{mul-le-mul_right}
use Rattle.std.proofs.lemmas.Nat.{div_below, div-add-mod', mod_below, mul-le}
use Rattle.std.proofs.lemmas.Bool.{cases_lt, lt-ltb, le-ltb}
use Rattle.std.proofs.lemmas.List.{ext_get_or, get_or-take, get_or-drop, get_or-replicate, get_or_past, get_or_append_left, get_or-append_right, get_or-append-add, length-take-le, length-drop, length-replicate, take_all}
use Rattle.rq_block.proofs.NumberRanges.{flat_map-push}
use Rattle.std.proofs.lemmas.List.FromFn.{fill_by_all, length-map-range_with_len, get_or-map-range_with_len, map-range_with_len_more}
use Rattle.std.proofs.lemmas.List.Elements.{All-map}
use Rattle.rq_algebra.specs.Symbols.{AreSymbols as AreOctetSymbols}
use Rattle.rq_standard.specs.OctetField.{octets}
use Rattle.rq_standard.specs.Configuration.{Configuration, IsAligned}
use Rattle.rq_standard.specs.Cutting.{sub_block_count, sub_block_parts, larger_bytes, sub_block_size, sub_block_start, place_in_block, symbol_of_block}
use Rattle.rq_block.specs.BlockLayout.{among_zeros, bytes_by, cut_by}
use Rattle.rq_block.specs.SubBlocks.{AreSymbols, IsCutInto}
use Rattle.rq_block.specs.declared.sub_blocks.BlockLayout.{BlockLayout}
use Rattle.rq_standard.proofs.PlainCut.{map-range_is_take}
use Rattle.rq_standard.proofs.Interleaved.{IsSubBlock, at_byte, get_or-symbol_of_block, next_start, place_in, place_low}
use Rattle.rq_standard.proofs.StandingSteps.{length-symbol_of_block}
use Rattle.rq_bytes.specs.Ranges.{cut}
use Rattle.rq_bytes.proofs.Cuts.{cut-append, cut-join, cut-replicate, length-cut}

-- ---- the size of a sub-block, from the parts of a partition

sub_block_count-max : (n : ℕ) → max n 1 ≡ sub_block_count n
unfolding sub_block_count
sub_block_count-max zero = omega arith
sub_block_count-max (suc n) = omega arith

-- the three numbers that a symbol's partition gives
pub record ArePartsOf (c : Configuration) (al larger smaller count : ℕ) : Type 0 where
  pub alignment : al ≡ c.alignment
  pub larger_is : larger ≡ (sub_block_parts c).larger
  pub smaller_is : smaller ≡ (sub_block_parts c).smaller
  pub count_is : count ≡ (sub_block_parts c).larger_count

pub sub_block_parts_are : (c : Configuration) (al size n : ℕ) (r : ℕ × ℕ × ℕ × ℕ) → al ≡ c.alignment → size ≡ c.symbol_size → n ≡ max c.sub_blocks 1 → r ≡ (div_ceil (size / al) n, size / al / n, size / al - size / al / n * n, n - (size / al - size / al / n * n)) → ArePartsOf c al r.0 r.1 r.2
sub_block_parts_are c al size n r one two three is =
    let units : size / al ≡ c.symbol_size / c.alignment = ap (λ a. size / a) one ∙ ap (λ s. s / c.alignment) two in
    let count : n ≡ sub_block_count c.sub_blocks = three ∙ sub_block_count-max c.sub_blocks in record {
      alignment = one;
      larger_is = ap (λ (t : ℕ × ℕ × ℕ × ℕ). t.0) is ∙ ap (λ u. div_ceil u n) units ∙ ap (λ k. div_ceil (c.symbol_size / c.alignment) k) count;
      smaller_is = ap (λ (t : ℕ × ℕ × ℕ × ℕ). t.1) is ∙ ap (λ u. u / n) units ∙ ap (λ k. c.symbol_size / c.alignment / k) count;
      count_is = ap (λ (t : ℕ × ℕ × ℕ × ℕ). t.2) is ∙ ap (λ u. u - u / n * n) units ∙ ap (λ k. c.symbol_size / c.alignment - c.symbol_size / c.alignment / k * k) count;
    }

larger_bytes-is : (c : Configuration) (al larger smaller count : ℕ) → ArePartsOf c al larger smaller count → larger * count * al ≡ larger_bytes c
larger_bytes-is c al larger smaller count p =
    ap (λ l. l * count * al) p.larger_is ∙ ap (λ k. (sub_block_parts c).larger * k * al) p.count_is ∙ ap (λ a. (sub_block_parts c).larger * (sub_block_parts c).larger_count * a) p.alignment ∙ omega arith

pub size_first : (c : Configuration) (al larger smaller count t width : ℕ) → ArePartsOf c al larger smaller count → t < larger * count * al → width ≡ larger → width * al ≡ sub_block_size c t
unfolding sub_block_size
size_first c al larger smaller count t width p below is =
    ap (λ w. w * al) (is ∙ p.larger_is) ∙ ap (λ a. (sub_block_parts c).larger * a) p.alignment
    ∙ sym (ap (λ b. cond b ((sub_block_parts c).larger * c.alignment) ((sub_block_parts c).smaller * c.alignment)) (lt-ltb t (larger_bytes c) (omega (arith, larger_bytes-is c al larger smaller count p))))

pub size_later : (c : Configuration) (al larger smaller count t width : ℕ) → ArePartsOf c al larger smaller count → larger * count * al ≤ t → width ≡ smaller → width * al ≡ sub_block_size c t
unfolding sub_block_size
size_later c al larger smaller count t width p from is =
    ap (λ w. w * al) (is ∙ p.smaller_is) ∙ ap (λ a. (sub_block_parts c).smaller * a) p.alignment
    ∙ sym (ap (λ b. cond b ((sub_block_parts c).larger * c.alignment) ((sub_block_parts c).smaller * c.alignment)) (le-ltb t (larger_bytes c) (omega (arith, larger_bytes-is c al larger smaller count p))))

-- a list made from a function of the place, and more of it
pub map-range-append : (f g : ℕ → ℕ) (a b : ℕ) → ((i : ℕ) → i < b → g i ≡ f (a + i)) → map f (range_with_len 0 a) ++ map g (range_with_len 0 b) ≡ map f (range_with_len 0 (a + b))
map-range-append f g a b same =
    let front = map f (range_with_len 0 a) in
    let back = map g (range_with_len 0 b) in
    let l : length front ≡ a = length-map-range_with_len f 0 a in
    let m : length back ≡ b = length-map-range_with_len g 0 b in
    fill_by_all f (front ++ back) (a + b) 0 (length-append front back ∙ omega (arith, l, m))
    (λ k below. elim (cases_lt k a) [
      | inl first ↦ get_or_append_left front back 0 k (omega (arith, l)) ∙ get_or-map-range_with_len f 0 a k k 0 first (omega arith)
      | inr last ↦
          let is : a + (k - a) ≡ k = omega arith in
          get_or-append_right front back a k 0 l last ∙ get_or-map-range_with_len g 0 b (k - a) (k - a) 0 (omega arith) (omega arith) ∙ same (k - a) (omega arith) ∙ ap f is
    ])

-- what a block has from a place on, and zeros
pub padded_part : (block : List ℕ) (place width start end : ℕ) → start ≡ min place (length block) → end ≡ min (place + width) (length block)
    → take (end - start) (drop start block) ++ replicate (width - (end - start)) 0 ≡ map (λ i. get_or block (place + i) 0) (range_with_len 0 width)
padded_part block place width start end from to =
    let front = take (end - start) (drop start block) in
    let back = replicate {A = ℕ} (width - (end - start)) 0 in
    let l : length front ≡ end - start = length-take-le (end - start) (drop start block) (omega (arith, length-drop start block)) in
    let m : length back ≡ width - (end - start) = length-replicate (width - (end - start)) 0 in
    fill_by_all (λ i. get_or block (place + i) 0) (front ++ back) width 0 (length-append front back ∙ omega (arith, l, m))
    (λ k below. elim (cases_lt k (end - start)) [
      | inl first ↦
          let is : start + k ≡ place + k = omega arith in
          get_or_append_left front back 0 k (omega (arith, l)) ∙ get_or-take (end - start) (drop start block) k 0 first ∙ get_or-drop start block k 0 ∙ ap (λ n. get_or block n 0) is
      | inr last ↦ get_or-append_right front back (end - start) k 0 l last ∙ get_or-replicate (width - (end - start)) (k - (end - start)) 0 0 (omega arith) ∙ sym (get_or_past block (place + k) 0 (omega arith))
    ])

-- a list with that behind it
pub padded_more : (block xs ys : List ℕ) (place width start end n : ℕ) → start ≡ min place (length block) → end ≡ min (place + width) (length block) → ys ≡ xs ++ take (end - start) (drop start block) → n ≡ length xs + width
    → take n ys ++ replicate (n - length ys) 0 ≡ xs ++ map (λ i. get_or block (place + i) 0) (range_with_len 0 width)
padded_more block xs ys place width start end n from to is all =
    let l : length (take (end - start) (drop start block)) ≡ end - start = length-take-le (end - start) (drop start block) (omega (arith, length-drop start block)) in
    let m : length ys ≡ length xs + (end - start) = ap length is ∙ length-append xs (take (end - start) (drop start block)) ∙ ap (λ k. length xs + k) l in
    let rest : n - length ys ≡ width - (end - start) = omega (arith, m) in
    ap (λ t. t ++ replicate (n - length ys) 0) (take_all n ys (omega (arith, m)) ∙ is) ∙ ap (λ k. (xs ++ take (end - start) (drop start block)) ++ replicate k 0) rest
    ∙ append_assoc xs (take (end - start) (drop start block)) (replicate (width - (end - start)) 0) ∙ ap (λ t. xs ++ t) (padded_part block place width start end from to)

-- what a call that grows a list leaves
pub grown_ok : {E : Type 0} (r : Result (Unit {0}) E) (old new grown wanted : List ℕ) → new ≡ cond (is_ok r) grown old → grown ≡ wanted → OnOk r (new ≡ wanted)
grown_ok (Ok u) old new grown wanted is same = is ∙ same
grown_ok (Err e) old new grown wanted is same = tt

-- as far as the sub-blocks before one
pub record Reaches (c : Configuration) (o : ℕ) : Type 0 where
  pub within : o ≤ c.symbol_size
  pub starts : o < c.symbol_size → sub_block_start c o ≡ o

pub reaches_none : (c : Configuration) → IsAligned c → Reaches c 0
reaches_none c aligned = record { within = omega arith; starts = λ some. omega (arith, (at_byte c 0 aligned some).low) }

pub part_from : (c : Configuration) (o z : ℕ) → IsAligned c → Reaches c o → o < c.symbol_size → z ≡ sub_block_size c o → IsSubBlock c o z
part_from c o z aligned at below is =
    subst (IsSubBlock c o) (sym is) (subst (λ s. IsSubBlock c s (sub_block_size c o)) (at.starts below) (at_byte c o aligned below).part)

pub reaches_more : (c : Configuration) (o z : ℕ) → IsAligned c → Reaches c o → o < c.symbol_size → z ≡ sub_block_size c o → Reaches c (o + z)
reaches_more c o z aligned at below is =
    subst (λ w. Reaches c (o + w)) (sym is) (record { within = (part_from c o (sub_block_size c o) aligned at below refl).room; starts = λ more. next_start c o aligned below (at.starts below) more })

-- a sub-block has bytes, and ends within the symbol
pub width_within : (c : Configuration) (o z size : ℕ) → IsAligned c → Reaches c o → o < size → size ≡ c.symbol_size → z ≡ sub_block_size c o → (0 < z) × (o + z ≤ size)
width_within c o z size aligned at below same is =
    let part = part_from c o z aligned at (omega arith) is in
    (omega (arith, part.positive), omega (arith, part.room))

-- places in a block fit
pub place_fits : (o z k e size : ℕ) → o + z ≤ size → size < 65536 → k < 4294967296 → e < 4294967296 → o * k + z * e + z < 18446744073709551616
place_fits o z k e size room small few below = omega (arith, mul-le o k 65535 4294967295 (omega arith) (omega arith), mul-le z e 65535 4294967295 (omega arith) (omega arith))

-- a symbol's part of one sub-block more
pub symbol_more : (c : Configuration) (k e o z place : ℕ) (block xs ys : List ℕ) → IsAligned c → Reaches c o → o < c.symbol_size → z ≡ sub_block_size c o → place ≡ o * k + z * e
    → xs ≡ map (λ t. get_or block (place_in_block c k e t) 0) (range_with_len 0 o) → ys ≡ xs ++ map (λ i. get_or block (place + i) 0) (range_with_len 0 z) → ys ≡ map (λ t. get_or block (place_in_block c k e t) 0) (range_with_len 0 (o + z))
symbol_more c k e o z place block xs ys aligned at below is so front grown =
    let part = part_from c o z aligned at below is in
    grown ∙ ap (λ l. l ++ map (λ i. get_or block (place + i) 0) (range_with_len 0 z)) front
    ∙ map-range-append (λ t. get_or block (place_in_block c k e t) 0) (λ i. get_or block (place + i) 0) o z
    (λ i lt. let there : place_in_block c k e (o + i) ≡ o * k + z * e + (o + i - o) = place_in c k e o z (o + i) part (omega arith) (omega arith) in
    let same : place + i ≡ place_in_block c k e (o + i) = omega (arith, there) in
    ap (λ n. get_or block n 0) same)

-- ---- pieces of one length, one after another

-- one piece more
pub pieces_more : (f : ℕ → List ℕ) (k : ℕ) (old xs ys zs : List ℕ) → xs ≡ old ++ flat_map f (range_with_len 0 k) → ys ≡ xs ++ zs → zs ≡ f k → ys ≡ old ++ flat_map f (range_with_len 0 (k + 1))
pieces_more f k old xs ys zs so grown is =
    grown ∙ ap (λ l. l ++ zs) so ∙ append_assoc old (flat_map f (range_with_len 0 k)) zs ∙ ap (λ l. old ++ l) (ap (λ l. flat_map f (range_with_len 0 k) ++ l) is ∙ sym (flat_map-push f k))

length-pieces : (f : ℕ → List ℕ) (z k : ℕ) → ((e : ℕ) → e < k → length (f e) ≡ z) → length (flat_map f (range_with_len 0 k)) ≡ k * z
length-pieces f z zero long = omega arith
length-pieces f z (suc k) long =
    let one : suc k ≡ k + 1 = omega arith in
    ap (λ n. length (flat_map f (range_with_len 0 n))) one ∙ ap length (flat_map-push f k) ∙ length-append (flat_map f (range_with_len 0 k)) (f k)
    ∙ omega (arith, length-pieces f z k (λ e h. long e (omega arith)), long k (omega arith))

get_or-pieces : (f : ℕ → List ℕ) (z k e i : ℕ) → ((j : ℕ) → j < k → length (f j) ≡ z) → e < k → i < z → get_or (flat_map f (range_with_len 0 k)) (e * z + i) 0 ≡ get_or (f e) i 0
get_or-pieces f z zero e i long below lt = absurd (omega arith)
get_or-pieces f z (suc k) e i long below lt =
    let one : suc k ≡ k + 1 = omega arith in
    let front = flat_map f (range_with_len 0 k) in
    let shorter : (j : ℕ) → j < k → length (f j) ≡ z = λ j h. long j (omega arith) in
    let l : length front ≡ k * z = length-pieces f z k shorter in
    let split : get_or (flat_map f (range_with_len 0 (suc k))) (e * z + i) 0 ≡ get_or (front ++ f k) (e * z + i) 0 = ap (λ n. get_or (flat_map f (range_with_len 0 n)) (e * z + i) 0) one ∙ ap (λ s. get_or s (e * z + i) 0) (flat_map-push f k) in
    split ∙ elim (cases_lt e k) [
      | inl first ↦
          let b : e + 1 ≤ k = omega arith in
          get_or_append_left front (f k) 0 (e * z + i) (omega (arith, l, mul-le-mul_right z b)) ∙ get_or-pieces f z k e i shorter first lt
      | inr last ↦
          let is : e ≡ k = omega arith in
          let there : e * z + i ≡ length front + i = ap (λ n. n * z + i) is ∙ ap (λ n. n + i) (sym l) in
          ap (λ n. get_or (front ++ f k) n 0) there ∙ get_or-append-add front (f k) i 0 ∙ ap (λ n. get_or (f n) i 0) (sym is)
    ]

-- The symbols of a block that is a single sub-block are the block's bytes, with zeros past its end.
pub plain_block : (c : Configuration) (k : ℕ) (block : List ℕ) → IsAligned c → sub_block_size c 0 ≡ c.symbol_size
    → map (λ i. get_or block (0 + i) 0) (range_with_len 0 (k * c.symbol_size)) ≡ flat_map (symbol_of_block c k block) (range_with_len 0 k)
plain_block c k block aligned single =
    let size = c.symbol_size in
    let f = symbol_of_block c k block in
    let byte = λ (i : ℕ). get_or block (0 + i) 0 in
    let sized : (j : ℕ) → j < k → length (f j) ≡ size = λ j lt. length-symbol_of_block c k block j in
    let long : length (map byte (range_with_len 0 (k * size))) ≡ k * size = length-map-range_with_len byte 0 (k * size) in
    ext_get_or 0 (map byte (range_with_len 0 (k * size))) (flat_map f (range_with_len 0 k)) (long ∙ sym (length-pieces f size k sized))
    (λ i below.
    let within : i < k * size = omega (arith, long) in
    let some : 0 < size = elim (cases_lt 0 size) [
      | inl positive ↦ positive
      | inr none ↦ let zero_size : size ≡ 0 = omega arith in absurd (omega (arith, within, ap (λ z. k * z) zero_size))
    ] in
    let e = i / size in
    let t = i % size in
    let is : i ≡ e * size + t = sym (div-add-mod' i size) in
    let lt : t < size = mod_below i size some in
    let part = part_from c 0 size aligned (reaches_none c aligned) some (sym single) in
    let place : 0 + i ≡ place_in_block c k e t = omega (arith, is, place_in c k e 0 size t part (omega arith) (omega (arith, lt))) in
    get_or-map-range_with_len byte 0 (k * size) i i 0 within (omega arith)
    ∙ ap (λ n. get_or block n 0) place
    ∙ sym (get_or-symbol_of_block c k block e t lt)
    ∙ sym (get_or-pieces f size k e t sized (div_below i size k some within) lt)
    ∙ ap (λ n. get_or (flat_map f (range_with_len 0 k)) n 0) (sym is))

cut-pieces : (f : ℕ → List ℕ) (z k : ℕ) → ((e : ℕ) → e < k → length (f e) ≡ z) → cut k z (flat_map f (range_with_len 0 k)) ≡ map f (range_with_len 0 k)
cut-pieces f z zero long = refl
cut-pieces f z (suc k) long =
    let one : suc k ≡ k + 1 = omega arith in
    let front = flat_map f (range_with_len 0 k) in
    let shorter : (j : ℕ) → j < k → length (f j) ≡ z = λ j h. long j (omega arith) in
    ap (λ n. cut (suc k) z (flat_map f (range_with_len 0 n))) one
    ∙ ap (cut (suc k) z) (flat_map-push f k)
    ∙ cut-append k z front (f k) (length-pieces f z k shorter) (long k (omega arith))
    ∙ ap (λ xs. xs ++ f k ∷ []) (cut-pieces f z k shorter)
    ∙ sym (map-range_with_len_more f 0 k k (omega arith))
    ∙ ap (λ n. map f (range_with_len 0 n)) (sym one)

-- ---- the symbols of a block that is cut so

sized_by : (layout : BlockLayout) (block : List ℕ) (e : ℕ) → e < layout.source_symbols → length (symbol_of_block layout.config layout.source_symbols block e) ≡ layout.config.symbol_size
sized_by layout block e below = length-symbol_of_block layout.config layout.source_symbols block e

pub length-bytes_by : (layout : BlockLayout) (block : List ℕ) → length (bytes_by layout block) ≡ layout.source_symbols * layout.config.symbol_size
length-bytes_by layout block = length-pieces (symbol_of_block layout.config layout.source_symbols block) layout.config.symbol_size layout.source_symbols (sized_by layout block)

pub cut-bytes_by : (layout : BlockLayout) (block : List ℕ) → cut layout.source_symbols layout.config.symbol_size (bytes_by layout block) ≡ cut_by layout block
cut-bytes_by layout block = cut-pieces (symbol_of_block layout.config layout.source_symbols block) layout.config.symbol_size layout.source_symbols (sized_by layout block)

-- they are symbols of octets
pub symbols_by : (layout : BlockLayout) (block : List ℕ) → ((i : ℕ) → get_or block i 0 < 256) → AreOctetSymbols octets layout.config.symbol_size (length (cut_by layout block)) (cut_by layout block)
unfolding symbol_of_block
symbols_by layout block octet = record {
  count_is = refl;
  each = λ e lt.
      let c = layout.config in
      let k = layout.source_symbols in
      let f = symbol_of_block c k block in
      let is : f e ≡ get_or (map f (range_with_len 0 k)) e [] = sym (get_or-map-range_with_len f 0 k e e [] (omega (arith, lt, length-map-range_with_len f 0 k)) (omega arith)) in
      record {
        size_is = ap length (sym is) ∙ length-symbol_of_block c k block e;
        elements = subst (All (λ x. x < 256)) is (All-map (λ x. x < 256) (λ t. get_or block (place_in_block c k e t) 0) (range_with_len 0 c.symbol_size) (λ i d inside. octet _));
      };
}

-- ---- symbols among zeros

pub zeros_around : (size start count n : ℕ) (bytes filled : List ℕ) → length bytes ≡ n * size → start + n ≤ count
    → filled ≡ replicate (start * size) 0 ++ (bytes ++ replicate ((count - start - n) * size) 0) → cut count size filled ≡ among_zeros size start count (cut n size bytes)
zeros_around size start count n bytes filled long fits is =
    let rest = count - start - n in
    let zeros = replicate (rest * size) 0 in
    let all : count ≡ start + (n + rest) = omega arith in
    let first = cut-join start (n + rest) size (replicate (start * size) 0) (bytes ++ zeros) (length-replicate {A = ℕ} (start * size) 0) in
    ap (λ k. cut k size filled) all
    ∙ rw (is, first, cut-replicate {X = ℕ} start size 0, cut-join n rest size bytes zeros long, cut-replicate {X = ℕ} rest size 0, length-cut n size bytes) refl

-- the buffer, filled in three steps
pub filled_around : (size start count n all : ℕ) (bytes one two three : List ℕ) → length bytes ≡ n * size → start + n ≤ count → all ≡ length two
    → one ≡ take (start * size) [] ++ replicate (start * size - 0) 0 → two ≡ one ++ bytes → three ≡ take (count * size) two ++ replicate (count * size - all) 0
    → three ≡ replicate (start * size) 0 ++ (bytes ++ replicate ((count - start - n) * size) 0)
filled_around size start count n all bytes one two three long fits length_two first second third =
    let zeros = replicate (start * size) 0 in
    let rest = count - start - n in
    let first_is : one ≡ zeros = first ∙ ap (λ xs. xs ++ replicate (start * size - 0) 0) (take_all (start * size) [] (omega arith)) ∙ ap (λ k. replicate k 0) (let same : start * size - 0 ≡ start * size = omega arith in same) in
    let two_is : two ≡ zeros ++ bytes = second ∙ ap (λ xs. xs ++ bytes) first_is in
    let long_two : length two ≡ start * size + n * size = ap length two_is ∙ length-append zeros bytes ∙ omega (arith, length-replicate {A = ℕ} (start * size) 0, long) in
    let split : count ≡ start + (n + rest) = omega arith in
    let sizes : count * size ≡ start * size + n * size + rest * size = ap (λ k. k * size) split ∙ omega arith in
    third
    ∙ ap (λ xs. xs ++ replicate (count * size - all) 0) (take_all (count * size) two (omega (arith, long_two, sizes)) ∙ two_is)
    ∙ ap (λ k. (zeros ++ bytes) ++ replicate k 0) (let left : count * size - all ≡ rest * size = omega (arith, length_two, long_two, sizes) in left)
    ∙ append_assoc zeros bytes (replicate (rest * size) 0)

-- ---- a block from its symbols

-- the sub-blocks before byte o of a symbol
pub record HasParts (c : Configuration) (k : ℕ) (symbol : ℕ → Option (List ℕ)) (block : List ℕ) (o : ℕ) : Type 0 where
  pub long : length block ≡ o * k
  pub each : (e t : ℕ) → e < k → t < o → (place_in_block c k e t < o * k) × (get_or block (place_in_block c k e t) 0 ≡ get_or (unwrap_or (symbol e) []) t 0)

pub parts_none : (c : Configuration) (k : ℕ) (symbol : ℕ → Option (List ℕ)) (block : List ℕ) → block ≡ [] → HasParts c k symbol block 0
parts_none c k symbol block is = record { long = ap length is ∙ omega arith; each = λ e t below none. absurd (omega arith) }

-- bytes of a symbol
abbrev pub symbol_part : (start width : ℕ) (symbol : List ℕ) → List ℕ
symbol_part start width symbol = take (start + width - start) (drop start symbol)

length-symbol_part : (start width size : ℕ) (symbol : List ℕ) → start + width ≤ size → length symbol ≡ size → length (symbol_part start width symbol) ≡ width
length-symbol_part start width size symbol within long =
    let width_is : start + width - start ≡ width = omega arith in
    length-take-le (start + width - start) (drop start symbol) (omega (arith, length-drop start symbol)) ∙ width_is

get_or-symbol_part : (start width : ℕ) (symbol : List ℕ) (i : ℕ) → i < width → get_or (symbol_part start width symbol) i 0 ≡ get_or symbol (start + i) 0
get_or-symbol_part start width symbol i lt = get_or-take (start + width - start) (drop start symbol) i 0 (omega arith) ∙ get_or-drop start symbol i 0

-- a symbol that is there
pub length-there : (o : Option (List ℕ)) (n : ℕ) → IsSomeAnd o (λ bytes. length bytes ≡ n) → length (unwrap_or o []) ≡ n
length-there (Some x) n sized = sized
length-there None n sized = absurd sized

there_is : (o : Option (List ℕ)) (n : ℕ) → IsSomeAnd o (λ bytes. length bytes ≡ n) → o ≡ Some (unwrap_or o [])
there_is (Some x) n sized = refl
there_is None n sized = absurd sized

parts_step : (c : Configuration) (k o z : ℕ) (symbol : ℕ → Option (List ℕ)) (xs : List ℕ) → IsSubBlock c o z → AreSymbols c k symbol → HasParts c k symbol xs o
    → HasParts c k symbol (xs ++ flat_map (λ e. symbol_part o z (unwrap_or (symbol e) [])) (range_with_len 0 k)) (o + z)
parts_step c k o z symbol xs part there h =
    let bytes = λ (e : ℕ). unwrap_or (symbol e) [] in
    let f = λ (e : ℕ). symbol_part o z (bytes e) in
    let sized : (e : ℕ) → e < k → length (f e) ≡ z = λ e below. length-symbol_part o z c.symbol_size (bytes e) part.room (length-there (symbol e) c.symbol_size (there e below)) in
    let back = flat_map f (range_with_len 0 k) in record {
      long = length-append xs back ∙ omega (arith, h.long, length-pieces f z k sized);
      each = λ e t below lt. elim (cases_lt t o) [
        | inl before ↦
            let p = h.each e t below before in
            (omega (arith, p.0), get_or_append_left xs back 0 (place_in_block c k e t) (omega (arith, p.0, h.long)) ∙ p.1)
        | inr here ↦
            let is : place_in_block c k e t ≡ o * k + z * e + (t - o) = place_in c k e o z t part here lt in
            let low = place_low k e o z t below here lt in
            let place : place_in_block c k e t ≡ length xs + (e * z + (t - o)) = omega (arith, is, h.long) in
            let byte : o + (t - o) ≡ t = omega arith in (
              omega (arith, is, low),
              ap (λ n. get_or (xs ++ back) n 0) place ∙ get_or-append-add xs back (e * z + (t - o)) 0 ∙ get_or-pieces f z k e (t - o) sized below (omega arith)
                  ∙ get_or-symbol_part o z (bytes e) (t - o) (omega arith) ∙ ap (λ n. get_or (bytes e) n 0) byte,
            )
      ];
    }

-- one sub-block more
pub parts_more : (c : Configuration) (k o z : ℕ) (symbol : ℕ → Option (List ℕ)) (xs ys : List ℕ) → IsAligned c → Reaches c o → o < c.symbol_size → z ≡ sub_block_size c o → AreSymbols c k symbol → HasParts c k symbol xs o
    → ys ≡ xs ++ flat_map (λ e. take (o + z - o) (drop o (unwrap_or (symbol e) []))) (range_with_len 0 k) → HasParts c k symbol ys (o + z)
parts_more c k o z symbol xs ys aligned at below is there h grown =
    subst (λ l. HasParts c k symbol l (o + z)) (sym grown) (parts_step c k o z symbol xs (part_from c o z aligned at below is) there h)

-- all sub-blocks
pub parts_all : (c : Configuration) (k o : ℕ) (symbol : ℕ → Option (List ℕ)) (block : List ℕ) → o ≡ c.symbol_size → AreSymbols c k symbol → HasParts c k symbol block o → IsCutInto c k block symbol
unfolding symbol_of_block
parts_all c k o symbol block all there h e below =
    let bytes = unwrap_or (symbol e) [] in
    let long = length-there (symbol e) c.symbol_size (there e below) in
    let same = map-range_is_take bytes (λ t. get_or block (place_in_block c k e t) 0) 0 c.symbol_size (omega (arith, long))
    (λ t lt. let first : t ≡ 0 + t = omega arith in (h.each e t below (omega (arith, all))).1 ∙ ap (λ n. get_or bytes n 0) first) in
    there_is (symbol e) c.symbol_size (there e below) ∙ ap (λ l. Some l) (sym (same ∙ take_all c.symbol_size bytes (omega (arith, long))))
