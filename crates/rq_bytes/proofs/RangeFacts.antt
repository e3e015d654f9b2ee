-- Two ranges of a list, read and written.
use Rattle.std.proofs.Common.{◌≡◌, ◌⊎◌, ⊎_elim, ℕ, ◌+◌, ◌-◌, ◌≤◌, List, ◌++◌, length, take, drop, sym, ap, ◌∙◌, arith}
use Rattle.std.proofs.Math.Seq.{take-add, take-append_seam, drop-append_seam, drop-append-add}
use Rattle.std.proofs.lemmas.List.{append_assoc, drop-drop, length-append, length-drop, length-take-le, take-append-drop}
use Rattle.std.proofs.lemmas.Simd.{put_chunk_is}
use lib.Lanes.{put_chunk}
use Rattle.rq_bytes.specs.Ranges.{range_of, with_range}

-- other elements in the place of `mid`
with_range-middle : {X : Type 0} (front mid back : List X) (i : ℕ) (ys : List X) → length front ≡ i → length ys ≡ length mid
    → with_range (front ++ (mid ++ back)) i ys ≡ front ++ (ys ++ back)
with_range-middle front mid back i ys at long =
    ap (λ k. with_range (front ++ (mid ++ back)) k ys) (sym at)
    ∙ ap (λ zs. zs ++ (ys ++ drop (length front + length ys) (front ++ (mid ++ back)))) (take-append_seam front (mid ++ back))
    ∙ ap (λ zs. front ++ (ys ++ zs)) (
    drop-append-add front (mid ++ back) (length ys)
    ∙ ap (λ k. drop k (mid ++ back)) long
    ∙ drop-append_seam mid back)

-- a list around two ranges of n elements, at `low` and at `high`
pub record Around {X : Type 0} (xs : List X) (low high n : ℕ) : Type 0 where
  pub front : List X
  pub gap : List X
  pub back : List X
  pub front_long : length front ≡ low
  pub gap_long : low + n + length gap ≡ high
  pub first_long : length (range_of xs low n) ≡ n
  pub second_long : length (range_of xs high n) ≡ n
  pub is : xs ≡ front ++ (range_of xs low n ++ (gap ++ (range_of xs high n ++ back)))

pub around : {X : Type 0} (xs : List X) (low high n : ℕ) → low + n ≤ high → high + n ≤ length xs → Around xs low high n
around xs low high n apart within =
    let rest = drop low xs in
    let after = drop n rest in
    let space = high - (low + n) in
    let last = drop space after in
    let same : last ≡ drop high xs = ap (λ zs. drop space zs) (drop-drop n low xs) ∙ drop-drop space (low + n) xs ∙ ap (λ k. drop k xs) (omega arith) in
    let inner = length-drop low xs in
    let outer = length-drop (low + n) xs in
    let there = ap length (drop-drop n low xs) in
    let gap_is : length (take space after) ≡ space = length-take-le space after (omega arith) in
    record {
      front = take low xs;
      gap = take space after;
      back = drop n last;
      front_long = length-take-le low xs (omega arith);
      gap_long = omega arith;
      first_long = length-take-le n rest (omega arith);
      second_long = length-take-le n (drop high xs) (omega (arith, length-drop high xs));
      is =
          sym (
          ap (λ zs. take low xs ++ (take n rest ++ (take space after ++ zs))) (ap (λ zs. take n zs ++ drop n last) (sym same) ∙ take-append-drop n last)
          ∙ ap (λ zs. take low xs ++ (take n rest ++ zs)) (take-append-drop space after)
          ∙ ap (λ zs. take low xs ++ zs) (take-append-drop n rest)
          ∙ take-append-drop low xs);
    }

module _ {X : Type 0} {xs : List X} {low high n : ℕ} (a : Around xs low high n) where
  -- the list with others in both ranges
  abbrev filled : List X → List X → List X
  filled us vs = a.front ++ (us ++ (a.gap ++ (vs ++ a.back)))

  grouped : (us vs : List X) → filled us vs ≡ (a.front ++ (us ++ a.gap)) ++ (vs ++ a.back)
  grouped us vs = sym (append_assoc a.front (us ++ a.gap) (vs ++ a.back) ∙ ap (λ l. a.front ++ l) (append_assoc us a.gap (vs ++ a.back)))

  set_low : (old us vs : List X) → length old ≡ n → length us ≡ n → with_range (filled old vs) low us ≡ filled us vs
  set_low old us vs o u = with_range-middle a.front old (a.gap ++ (vs ++ a.back)) low us a.front_long (u ∙ sym o)

  set_high : (us old vs : List X) → length us ≡ n → length old ≡ n → length vs ≡ n → with_range (filled us old) high vs ≡ filled us vs
  set_high us old vs u o v =
      let f = a.front_long in
      let g = a.gap_long in
      let before : length (a.front ++ (us ++ a.gap)) ≡ high = omega (arith, length-append a.front (us ++ a.gap), length-append us a.gap) in
      ap (λ l. with_range l high vs) (grouped us old) ∙ with_range-middle (a.front ++ (us ++ a.gap)) old a.back high vs before (v ∙ sym o) ∙ sym (grouped us vs)

module _ {X : Type 0} {xs : List X} {low high n : ℕ} (a : Around xs low high n) (us vs : List X) (u : length us ≡ n) (v : length vs ≡ n) where
  abbrev pub rewritten : List X
  rewritten = filled a us vs

  -- the one at `low` first
  pub rewritten-up : rewritten ≡ with_range (with_range xs low us) high vs
  rewritten-up =
      let old = range_of xs high n in
      sym (
      ap (λ l. with_range (with_range l low us) high vs) a.is
      ∙ ap (λ l. with_range l high vs) (set_low a (range_of xs low n) us old a.first_long u)
      ∙ set_high a us old vs u a.second_long v)

  -- the one at `high` first
  pub rewritten-down : rewritten ≡ with_range (with_range xs high vs) low us
  rewritten-down =
      let old = range_of xs low n in
      sym (
      ap (λ l. with_range (with_range l high vs) low us) a.is
      ∙ ap (λ l. with_range l low us) (set_high a old (range_of xs high n) vs a.first_long a.second_long v)
      ∙ set_low a old us vs a.first_long u)

-- as many as are asked for, where they are there
pub length-range : {X : Type 0} (xs : List X) (i n : ℕ) → i + n ≤ length xs → length (range_of xs i n) ≡ n
length-range xs i n within = length-take-le n (drop i xs) (omega (arith, length-drop i xs))

-- others in the place of some keep the list's length
pub length-with_range : {X : Type 0} (xs : List X) (i : ℕ) (ys : List X) → i + length ys ≤ length xs → length (with_range xs i ys) ≡ length xs
length-with_range xs i ys within =
    omega (
      arith,
      length-append (take i xs) (ys ++ drop (i + length ys) xs),
      length-append ys (drop (i + length ys) xs),
      length-take-le i xs (omega arith),
      length-drop (i + length ys) xs,
    )

-- what was written is read
pub range-written : {X : Type 0} (xs : List X) (i n : ℕ) (ys : List X) → length ys ≡ n → i ≤ length xs → range_of (with_range xs i ys) i n ≡ ys
range-written xs i n ys long within =
    let rest = ys ++ drop (i + length ys) xs in
    ap (λ k. take n (drop k (take i xs ++ rest))) (sym (length-take-le i xs within))
    ∙ ap (take n) (drop-append_seam (take i xs) rest)
    ∙ ap (λ k. take k rest) (sym long)
    ∙ take-append_seam ys (drop (i + length ys) xs)

-- a range written after another one, with what it had
pub second_kept : {X : Type 0} (xs : List X) (i j n : ℕ) (ys : List X) → (i + n ≤ j) ⊎ (j + n ≤ i) → i + n ≤ length xs → j + n ≤ length xs → length ys ≡ n
    → with_range (with_range xs i ys) j (range_of xs j n) ≡ with_range xs i ys
second_kept xs i j n ys apart i_in j_in long = ⊎_elim
    (λ le.
    let a = around xs i j n le j_in in
    let two = range_of xs j n in
    sym (rewritten-up a ys two long a.second_long) ∙ sym (set_low a (range_of xs i n) ys two a.first_long long) ∙ ap (λ l. with_range l i ys) (sym a.is))
    (λ le.
    let a = around xs j i n le i_in in
    let two = range_of xs j n in
    sym (rewritten-down a two ys a.first_long long) ∙ sym (set_high a two (range_of xs i n) ys a.first_long a.second_long long) ∙ ap (λ l. with_range l i ys) (sym a.is))
    apart

-- two ranges that follow each other
pub range-join : {X : Type 0} (xs : List X) (i j n m : ℕ) → j ≡ i + n → range_of xs i (n + m) ≡ range_of xs i n ++ range_of xs j m
range-join xs i j n m e =
    take-add n m (drop i xs)
    ∙ ap (λ ys. range_of xs i n ++ take m ys) (drop-drop n i xs)
    ∙ ap (λ k. range_of xs i n ++ range_of xs k m) (sym e)

-- a vector that is written
pub put_is : (xs : List ℕ) (i : ℕ) (ys : List ℕ) → i + length ys ≤ length xs → put_chunk i xs ys ≡ with_range xs i ys
put_is xs i ys within = put_chunk_is i xs ys within ∙ ap (λ rest. take i xs ++ (ys ++ rest)) (drop-drop (length ys) i xs)
