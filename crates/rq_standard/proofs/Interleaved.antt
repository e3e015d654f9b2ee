-- Sub-blocks: each place of a block is one byte of one symbol.
use Rattle.std.proofs.Common.{◌≡◌, ℕ, zero, suc, ◌+◌, ◌-◌, ◌*◌, ◌/◌, ◌%◌, ◌<◌, ◌≤◌, inl, inr, List, length, get_or, arith, sym, ap, ◌∙◌, subst, cond, ltb}
use Rattle.std.proofs.Math.Nat.{mul-le-mul_right, lt_of_mul-lt-mul_right}
use Rattle.std.proofs.lemmas.Nat.{div-mul-add, div_below, mod_below, div-add-mod'}
use Rattle.std.proofs.lemmas.Bool.{le-ltb, lt-ltb, cases_lt}
use Rattle.std.proofs.lemmas.List.{ext_get_or}
use Rattle.std.proofs.lemmas.List.FromFn.{get_or-map-range_with_len}
use Rattle.rq_standard.specs.Configuration.{Configuration, IsAligned}
use Rattle.rq_standard.specs.Cutting.{sub_block_count, sub_block_parts, larger_bytes, sub_block_size, sub_block_start, place_in_block, symbol_of_block}
use Rattle.rq_standard.proofs.PartSums.{parts-whole}
use Rattle.rq_standard.proofs.PlainCut.{piece_within}

-- the bytes from o on, z of them, are those of one sub-block
pub record IsSubBlock (c : Configuration) (o z : ℕ) : Type 0 where
  pub positive : 0 < z
  pub room : o + z ≤ c.symbol_size
  pub size : (t : ℕ) → o ≤ t → t < o + z → sub_block_size c t ≡ z
  pub start : (t : ℕ) → o ≤ t → t < o + z → sub_block_start c t ≡ o

-- in bytes
abbrev larger : Configuration → ℕ
larger c = (sub_block_parts c).larger * c.alignment

abbrev smaller : Configuration → ℕ
smaller c = (sub_block_parts c).smaller * c.alignment

count_positive : (n : ℕ) → 0 < sub_block_count n
unfolding sub_block_count
count_positive zero = omega arith
count_positive (suc n) = omega arith

-- the larger sub-blocks and the smaller ones are the symbol
scaled : (l m s w u al : ℕ) → l * m + s * w ≡ u → m * (l * al) + w * (s * al) ≡ u * al
scaled l m s w u al h = subst (λ v. m * (l * al) + w * (s * al) ≡ v * al) h (omega arith)

whole_units : (size al : ℕ) → 0 < al → size % al ≡ 0 → size / al * al ≡ size
whole_units size al pos rem = omega (arith, div-add-mod' size al)

all_bytes : (c : Configuration) → IsAligned c → larger_bytes c + (sub_block_parts c).smaller_count * smaller c ≡ c.symbol_size
all_bytes c aligned =
    let p = sub_block_parts c in
    scaled p.larger p.larger_count p.smaller p.smaller_count (c.symbol_size / c.alignment) c.alignment (parts-whole (c.symbol_size / c.alignment) (sub_block_count c.sub_blocks) (count_positive c.sub_blocks)) ∙ whole_units c.symbol_size c.alignment aligned.alignment_positive aligned.aligned

size_low : (c : Configuration) (t : ℕ) → t < larger_bytes c → sub_block_size c t ≡ larger c
unfolding sub_block_size
size_low c t h = ap (λ b. cond b (larger c) (smaller c)) (lt-ltb t (larger_bytes c) h)

size_high : (c : Configuration) (t : ℕ) → larger_bytes c ≤ t → sub_block_size c t ≡ smaller c
unfolding sub_block_size
size_high c t h = ap (λ b. cond b (larger c) (smaller c)) (le-ltb t (larger_bytes c) h)

start_low : (c : Configuration) (t : ℕ) → t < larger_bytes c → sub_block_start c t ≡ t / larger c * larger c
unfolding sub_block_start
start_low c t h =
    ap (λ z. cond (ltb t (larger_bytes c)) (t / z * z) (larger_bytes c + (t - larger_bytes c) / z * z)) (size_low c t h)
    ∙ ap (λ b. cond b (t / larger c * larger c) (larger_bytes c + (t - larger_bytes c) / larger c * larger c)) (lt-ltb t (larger_bytes c) h)

start_high : (c : Configuration) (t : ℕ) → larger_bytes c ≤ t → sub_block_start c t ≡ larger_bytes c + (t - larger_bytes c) / smaller c * smaller c
unfolding sub_block_start
start_high c t h =
    ap (λ z. cond (ltb t (larger_bytes c)) (t / z * z) (larger_bytes c + (t - larger_bytes c) / z * z)) (size_high c t h)
    ∙ ap (λ b. cond b (t / smaller c * smaller c) (larger_bytes c + (t - larger_bytes c) / smaller c * smaller c)) (le-ltb t (larger_bytes c) h)

-- the number of the part of z bytes that has a place
part_of : (q z t : ℕ) → q * z ≤ t → t < q * z + z → t / z ≡ q
part_of q z t low high = let is : t ≡ q * z + (t - q * z) = omega arith in ap (λ n. n / z) is ∙ div-mul-add q z (t - q * z) (omega arith)

-- a larger sub-block, and a smaller one
in_larger : (c : Configuration) (q : ℕ) → IsAligned c → 0 < larger c → q < (sub_block_parts c).larger_count → IsSubBlock c (q * larger c) (larger c)
in_larger c q aligned some below =
    let z = larger c in
    let fits : q * z + z ≤ larger_bytes c = piece_within q (sub_block_parts c).larger_count z below in record {
      positive = some;
      room = omega (arith, all_bytes c aligned);
      size = λ t low high. size_low c t (omega arith);
      start = λ t low high. start_low c t (omega arith) ∙ ap (λ n. n * z) (part_of q z t low high);
    }

in_smaller : (c : Configuration) (q : ℕ) → IsAligned c → 0 < smaller c → q < (sub_block_parts c).smaller_count → IsSubBlock c (larger_bytes c + q * smaller c) (smaller c)
in_smaller c q aligned some below =
    let z = smaller c in
    let fits : q * z + z ≤ (sub_block_parts c).smaller_count * z = piece_within q (sub_block_parts c).smaller_count z below in record {
      positive = some;
      room = omega (arith, all_bytes c aligned);
      size = λ t low high. size_high c t (omega arith);
      start = λ t low high. start_high c t (omega arith) ∙ ap (λ n. larger_bytes c + n * z) (part_of q z (t - larger_bytes c) (omega arith) (omega arith));
    }

-- the sub-block that has a byte
pub record HasByte (c : Configuration) (o z t : ℕ) : Type 0 where
  pub part : IsSubBlock c o z
  pub low : o ≤ t
  pub high : t < o + z

right_positive : (a b t : ℕ) → t < a * b → 0 < b
right_positive a zero t h = absurd (omega arith)
right_positive a (suc b) t h = omega arith

left_positive : (a b t : ℕ) → t < a * b → 0 < a
left_positive zero b t h = absurd (omega arith)
left_positive (suc a) b t h = omega arith

-- the part of z bytes that has a place, of m parts
pub record InPart (m z t q : ℕ) : Type 0 where
  pub positive : 0 < z
  pub below : q < m
  pub low : q * z ≤ t
  pub high : t < q * z + z

in_part : (m z t : ℕ) → t < m * z → InPart m z t (t / z)
in_part m z t h =
    let pos = right_positive m z t h in
    let split = div-add-mod' t z in
    let rest = mod_below t z pos in
    record { positive = pos; below = div_below t z m pos h; low = omega arith; high = omega arith }

pub at_byte : (c : Configuration) (t : ℕ) → IsAligned c → t < c.symbol_size → HasByte c (sub_block_start c t) (sub_block_size c t) t
at_byte c t aligned below = elim (cases_lt t (larger_bytes c)) [
  | inl first ↦
      let z = larger c in
      let q = t / z in
      let p = in_part (sub_block_parts c).larger_count z t first in
      subst (λ o. HasByte c o (sub_block_size c t) t) (sym (start_low c t first))
      (subst (λ s. HasByte c (q * z) s t) (sym (size_low c t first)) (record { part = in_larger c q aligned p.positive p.below; low = p.low; high = p.high }))
  | inr last ↦
      let z = smaller c in
      let q = (t - larger_bytes c) / z in
      let p : InPart (sub_block_parts c).smaller_count z (t - larger_bytes c) q = in_part (sub_block_parts c).smaller_count z (t - larger_bytes c) (omega (arith, all_bytes c aligned)) in
      subst (λ o. HasByte c o (sub_block_size c t) t) (sym (start_high c t last))
      (subst (λ s. HasByte c (larger_bytes c + q * z) s t) (sym (size_high c t last)) (record { part = in_smaller c q aligned p.positive p.below; low = omega (arith, p.low); high = omega (arith, p.high) }))
]

-- where a sub-block ends the next begins
next_larger : (c : Configuration) (q : ℕ) → IsAligned c → 0 < larger c → q < (sub_block_parts c).larger_count → q * larger c + larger c < c.symbol_size → sub_block_start c (q * larger c + larger c) ≡ q * larger c + larger c
next_larger c q aligned some below more =
    let z = larger c in
    let m = (sub_block_parts c).larger_count in
    let here : q * z + z ≡ (q + 1) * z = omega arith in
    elim (cases_lt (q + 1) m) [
      | inl inside ↦ (in_larger c (q + 1) aligned some inside).start (q * z + z) (omega arith) (omega arith) ∙ sym here
      | inr last ↦
          let is : q + 1 ≡ m = omega arith in
          let ends : q * z + z ≡ larger_bytes c = here ∙ ap (λ n. n * z) is in
          let room : 0 < (sub_block_parts c).smaller_count * smaller c = omega (arith, all_bytes c aligned) in
          let first = in_smaller c 0 aligned (right_positive (sub_block_parts c).smaller_count (smaller c) 0 room) (left_positive (sub_block_parts c).smaller_count (smaller c) 0 room) in
          first.start (q * z + z) (omega arith) (omega (arith, first.positive)) ∙ omega arith
    ]

next_smaller : (c : Configuration) (q : ℕ) → IsAligned c → 0 < smaller c → q < (sub_block_parts c).smaller_count → larger_bytes c + q * smaller c + smaller c < c.symbol_size
    → sub_block_start c (larger_bytes c + q * smaller c + smaller c) ≡ larger_bytes c + q * smaller c + smaller c
next_smaller c q aligned some below more =
    let z = smaller c in
    let w = (sub_block_parts c).smaller_count in
    let here : q * z + z ≡ (q + 1) * z = omega arith in
    let further : (q + 1) * z < w * z = omega (arith, all_bytes c aligned) in
    let p = in_smaller c (q + 1) aligned some (lt_of_mul-lt-mul_right z further) in
    p.start (larger_bytes c + q * z + z) (omega arith) (omega arith) ∙ omega arith

pub next_start : (c : Configuration) (o : ℕ) → IsAligned c → o < c.symbol_size → sub_block_start c o ≡ o → o + sub_block_size c o < c.symbol_size → sub_block_start c (o + sub_block_size c o) ≡ o + sub_block_size c o
next_start c o aligned below starts more = elim (cases_lt o (larger_bytes c)) [
  | inl first ↦
      let p = in_part (sub_block_parts c).larger_count (larger c) o first in
      let is : o / larger c * larger c + larger c ≡ o + sub_block_size c o = ap (λ n. n + larger c) (sym (start_low c o first) ∙ starts) ∙ ap (λ z. o + z) (sym (size_low c o first)) in
      subst (λ n. sub_block_start c n ≡ n) is (next_larger c (o / larger c) aligned p.positive p.below (omega (arith, is)))
  | inr last ↦
      let q = (o - larger_bytes c) / smaller c in
      let p : InPart (sub_block_parts c).smaller_count (smaller c) (o - larger_bytes c) q = in_part (sub_block_parts c).smaller_count (smaller c) (o - larger_bytes c) (omega (arith, all_bytes c aligned)) in
      let is : larger_bytes c + q * smaller c + smaller c ≡ o + sub_block_size c o = ap (λ n. n + smaller c) (sym (start_high c o last) ∙ starts) ∙ ap (λ z. o + z) (sym (size_high c o last)) in
      subst (λ n. sub_block_start c n ≡ n) is (next_smaller c q aligned p.positive p.below (omega (arith, is)))
]

-- where a byte of a sub-block stands
pub place_in : (c : Configuration) (k e o z t : ℕ) → IsSubBlock c o z → o ≤ t → t < o + z → place_in_block c k e t ≡ o * k + z * e + (t - o)
unfolding place_in_block
place_in c k e o z t part low high = ap (λ s. s * k + sub_block_size c t * e + (t - s)) (part.start t low high) ∙ ap (λ s. o * k + s * e + (t - o)) (part.size t low high)

-- the symbols' parts of a sub-block stand in its k * z bytes
pub place_low : (k e o z t : ℕ) → e < k → o ≤ t → t < o + z → o * k + z * e + (t - o) < (o + z) * k
place_low k e o z t below low high = let b : e + 1 ≤ k = omega arith in omega (arith, mul-le-mul_right z b)

-- each byte of a symbol stands in the block
pub place_below : (c : Configuration) (k e t : ℕ) → IsAligned c → e < k → t < c.symbol_size → place_in_block c k e t < k * c.symbol_size
place_below c k e t aligned here below =
    let o = sub_block_start c t in
    let z = sub_block_size c t in
    let b = at_byte c t aligned below in
    let is = place_in c k e o z t b.part b.low b.high in
    let low = place_low k e o z t here b.low b.high in
    omega (arith, is, low, mul-le-mul_right k b.part.room)

-- the sub-block that has a place of a block
pub record HasBlockPlace (c : Configuration) (k i o z : ℕ) : Type 0 where
  pub part : IsSubBlock c o z
  pub low : o * k ≤ i
  pub high : i < o * k + k * z

at_place : (c : Configuration) (k i : ℕ) → IsAligned c → i < k * c.symbol_size → (o : ℕ) × (z : ℕ) × HasBlockPlace c k i o z
at_place c k i aligned below = elim (cases_lt i (larger_bytes c * k)) [
  | inl first ↦
      let m = (sub_block_parts c).larger_count in
      let z = larger c in
      let q = i / (z * k) in
      let p : InPart m (z * k) i q = in_part m (z * k) i (omega (arith, first)) in (
        q * z,
        z,
        record {
          part = in_larger c q aligned (left_positive z k 0 p.positive) p.below;
          low = omega (arith, p.low);
          high = omega (arith, p.high);
        },
      )
  | inr last ↦
      let w = (sub_block_parts c).smaller_count in
      let z = smaller c in
      let j = i - larger_bytes c * k in
      let q = j / (z * k) in
      let all : larger_bytes c * k + w * z * k ≡ k * c.symbol_size = subst (λ n. larger_bytes c * k + w * z * k ≡ k * n) (all_bytes c aligned) (omega arith) in
      let p : InPart w (z * k) j q = in_part w (z * k) j (omega (arith, all, last, below)) in (
        larger_bytes c + q * z,
        z,
        record {
          part = in_smaller c q aligned (left_positive z k 0 p.positive) p.below;
          low = omega (arith, p.low, last);
          high = omega (arith, p.high, last);
        },
      )
]

-- a symbol's byte that stands at a place
pub record StandsAt (c : Configuration) (k i e t : ℕ) : Type 0 where
  pub symbol : e < k
  pub byte : t < c.symbol_size
  pub place : place_in_block c k e t ≡ i

-- each place of a block has one
pub place_found : (c : Configuration) (k i : ℕ) → IsAligned c → i < k * c.symbol_size → (e : ℕ) × (t : ℕ) × StandsAt c k i e t
place_found c k i aligned below =
    let found = at_place c k i aligned below in
    let o = found.0 in
    let z = found.1 in
    let h = found.2 in
    let r = i - o * k in
    let within : InPart k z r (r / z) = in_part k z r (omega (arith, h.low, h.high)) in
    let t = o + (r - r / z * z) in
    let high : t < o + z = omega (arith, within.low, within.high) in (
      r / z,
      t,
      record {
        symbol = within.below;
        byte = omega (arith, high, h.part.room);
        place = place_in c k (r / z) o z t h.part (omega arith) high ∙ omega (arith, h.low, within.low);
      },
    )

-- a byte of a symbol
pub get_or-symbol_of_block : (c : Configuration) (k : ℕ) (block : List ℕ) (e t : ℕ) → t < c.symbol_size → get_or (symbol_of_block c k block e) t 0 ≡ get_or block (place_in_block c k e t) 0
unfolding symbol_of_block
get_or-symbol_of_block c k block e t below = get_or-map-range_with_len (λ i. get_or block (place_in_block c k e i) 0) 0 c.symbol_size t t 0 below (omega arith)

-- two blocks with the same symbols are one
pub same_symbols : (c : Configuration) (k : ℕ) (xs ys : List ℕ) → IsAligned c → length xs ≡ k * c.symbol_size → length ys ≡ k * c.symbol_size → ((e : ℕ) → e < k → symbol_of_block c k xs e ≡ symbol_of_block c k ys e) → xs ≡ ys
same_symbols c k xs ys aligned l m each =
    ext_get_or 0 xs ys (l ∙ sym m)
    (λ i below. let found = place_found c k i aligned (omega (arith, l)) in
    let e = found.0 in
    let t = found.1 in
    let h = found.2 in
    sym (ap (λ n. get_or xs n 0) h.place) ∙ sym (get_or-symbol_of_block c k xs e t h.byte) ∙ ap (λ s. get_or s t 0) (each e h.symbol) ∙ get_or-symbol_of_block c k ys e t h.byte ∙ ap (λ n. get_or ys n 0) h.place)
