-- The law of spreads: a row that is made and added to targets piece by piece is made and added whole.
use Rattle.std.proofs.Common.{◌≡◌, ◌⊎◌, inl, inr, ⊎_elim, ℕ, zero, suc, ◌+◌, ◌-◌, ◌<◌, ◌≤◌, refl, sym, ap, ◌∙◌, arith}
use Rattle.std.proofs.Common.{List, [], ◌∷◌, ◌++◌, length, take, drop, map, get_or, All}
use Rattle.std.proofs.lemmas.Bool.{cases_lt}
use Rattle.std.proofs.lemmas.List.{ext_get_or, get_or-take, get_or-drop, get_or_past, take-append-drop, length-map, length-append, map-append, map_more}
use Rattle.std.proofs.lemmas.List.Elements.{All-head, All-tail, All-map, All-weaker}
use Rattle.std.proofs.lemmas.List.Sums.{fold-append}
use Rattle.std.proofs.lemmas.Simd.{length-zip2, length-put_chunk, get_or-put_chunk_below, get_or-put_chunk_at, get_or-put_chunk_above, put_chunk_is}
use Rattle.std.specs.Int.Bits.{bit_xor, xor_assoc, xor_zero_r}
use lib.Lanes.{put_chunk}
use Rattle.rq_standard.specs.OctetProducts.{xor_pairs}
use Rattle.rq_standard.specs.Octets.{octet_mul}
use Rattle.rq_standard.specs.Rows.{row_sum, row_multiple}
use Rattle.rq_bytes.specs.Ranges.{range_of}
use Rattle.rq_bytes.specs.RangeSums.{with_row_added, with_multiples_added, doubled_sum, with_doubled_sum, IsRangeBeside, BeginsNotInside}
use Rattle.rq_bytes.proofs.RangeFacts.{length-range, range-join, range-written, put_is}

-- ---- what a place gets of a row that is added from place i on

abbrev reached : ℕ → List ℕ → ℕ → ℕ
reached zero row p = get_or row p 0
reached (suc i) row zero = 0
reached (suc i) row (suc p) = reached i row p

row_added-at : (xs : List ℕ) (i : ℕ) (ys : List ℕ) (p : ℕ) → i + length ys ≤ length xs
    → get_or (put_chunk i xs (row_sum (range_of xs i (length ys)) ys)) p 0 ≡ bit_xor (get_or xs p 0) (reached i ys p)
row_added-at [] zero [] p le = refl
row_added-at [] zero (y ∷ ys) p le = absurd (omega arith)
row_added-at [] (suc i) ys p le = absurd (omega arith)
row_added-at (x ∷ xs) zero [] p le = sym (xor_zero_r (get_or (x ∷ xs) p 0))
row_added-at (x ∷ xs) zero (y ∷ ys) zero le = refl
row_added-at (x ∷ xs) zero (y ∷ ys) (suc p) le = row_added-at xs zero ys p (omega arith)
row_added-at (x ∷ xs) (suc i) ys zero le = sym (xor_zero_r x)
row_added-at (x ∷ xs) (suc i) ys (suc p) le = row_added-at xs i ys p (omega arith)

-- an addition is a store
pub row_added-is : (xs : List ℕ) (i : ℕ) (ys : List ℕ) → i + length ys ≤ length xs
    → with_row_added xs i ys ≡ put_chunk i xs (row_sum (range_of xs i (length ys)) ys)
row_added-is xs i ys le =
    let old = range_of xs i (length ys) in
    let long = length-range xs i (length ys) le in
    sym (put_is xs i (row_sum old ys) (omega (arith, length-zip2 bit_xor old ys long)))

pub length-row_added : (xs : List ℕ) (i : ℕ) (ys : List ℕ) → i + length ys ≤ length xs → length (with_row_added xs i ys) ≡ length xs
length-row_added xs i ys le = ap length (row_added-is xs i ys le) ∙ length-put_chunk i xs (row_sum (range_of xs i (length ys)) ys)

reached-join : (i j : ℕ) (ys zs : List ℕ) (p : ℕ) → j ≡ i + length ys → reached i (ys ++ zs) p ≡ bit_xor (reached i ys p) (reached j zs p)
reached-join zero zero [] zs p e = refl
reached-join zero zero (y ∷ ys) zs p e = absurd (omega arith)
reached-join zero (suc j) [] zs p e = absurd (omega arith)
reached-join zero (suc j) (y ∷ ys) zs zero e = sym (xor_zero_r y)
reached-join zero (suc j) (y ∷ ys) zs (suc p) e = reached-join zero j ys zs p (omega arith)
reached-join (suc i) zero ys zs p e = absurd (omega arith)
reached-join (suc i) (suc j) ys zs zero e = refl
reached-join (suc i) (suc j) ys zs (suc p) e = reached-join i j ys zs p (omega arith)

reached-none : (i : ℕ) (ys : List ℕ) (p : ℕ) → (p < i) ⊎ (i + length ys ≤ p) → reached i ys p ≡ 0
reached-none zero ys p apart = ⊎_elim (λ l. absurd (omega arith)) (λ l. get_or_past ys p 0 (omega arith)) apart
reached-none (suc i) ys zero apart = refl
reached-none (suc i) ys (suc p) apart = reached-none i ys p (⊎_elim (λ l. inl (omega arith)) (λ l. inr (omega arith)) apart)

-- ---- and of the multiples of a row

abbrev all_reached : List ℕ → ℕ → List (ℕ × ℕ) → ℕ → ℕ
all_reached row at [] p = 0
all_reached row at (t ∷ targets) p = bit_xor (reached (t.0 + at) (row_multiple t.1 row) p) (all_reached row at targets p)

pub length-multiple : (a : ℕ) (row : List ℕ) → length (row_multiple a row) ≡ length row
length-multiple a row = length-map row (octet_mul a)

-- what multiples make of a list: its length stays, and each place gets what reaches it
all_added : (count len : ℕ) (targets : List (ℕ × ℕ)) → All (λ t. t.0 + len ≤ count) targets
    → (xs row : List ℕ) (at : ℕ) → length xs ≡ count → at + length row ≤ len → let new = with_multiples_added xs row at targets in
    (length new ≡ count) × ((p : ℕ) → get_or new p 0 ≡ bit_xor (get_or xs p 0) (all_reached row at targets p))
all_added count len [] room xs row at same le = (same, λ p. sym (xor_zero_r (get_or xs p 0)))
all_added count len (t ∷ targets) room xs row at same le =
    let P = λ (target : ℕ × ℕ). target.0 + len ≤ count in
    let i = t.0 + at in
    let part = row_multiple t.1 row in
    let fits : i + length part ≤ length xs = omega (arith, length-multiple t.1 row, All-head P t targets room) in
    let rest = all_added count len targets (All-tail P t targets room) (with_row_added xs i part) row at (length-row_added xs i part fits ∙ same) le in (
      rest.0,
      λ p.
          rw (rest.1 p, row_added-is xs i part fits, row_added-at xs i part p fits)
          (xor_assoc (get_or xs p 0) (reached i part p) (all_reached row at targets p)),
    )

-- those of a row and of the one that follows it
all_reached-join : (row more : List ℕ) (at b : ℕ) (targets : List (ℕ × ℕ)) (p : ℕ) → b ≡ at + length row
    → all_reached (row ++ more) at targets p ≡ bit_xor (all_reached row at targets p) (all_reached more b targets p)
all_reached-join row more at b [] p e = refl
all_reached-join row more at b (t ∷ targets) p e =
    let first = row_multiple t.1 row in
    let second = row_multiple t.1 more in
    let joined = reached-join (t.0 + at) (t.0 + b) first second p (omega (arith, length-multiple t.1 row)) in
    rw (map-append (octet_mul t.1) row more, joined, all_reached-join row more at b targets p e)
    (xor_pairs (reached (t.0 + at) first p) (reached (t.0 + b) second p) (all_reached row at targets p) (all_reached more b targets p))

-- the m elements from i on are none of the n from a target on
abbrev IsApart : ℕ → ℕ → ℕ → ℕ × ℕ → Type 0
IsApart n i m target = (i + m ≤ target.0) ⊎ (target.0 + n ≤ i)

all_reached-none : (row : List ℕ) (i m p : ℕ) (targets : List (ℕ × ℕ)) → i ≤ p → p < i + m → All (IsApart (length row) i m) targets
    → all_reached row 0 targets p ≡ 0
all_reached-none row i m p [] from below apart = refl
all_reached-none row i m p (t ∷ targets) from below apart =
    let P = IsApart (length row) i m in
    let beside = ⊎_elim (λ l. inl (omega arith)) (λ l. inr (omega (arith, length-multiple t.1 row))) (All-head P t targets apart) in
    rw (reached-none (t.0 + 0) (row_multiple t.1 row) p beside, all_reached-none row i m p targets from below (All-tail P t targets apart)) refl

-- one more target
pub next_added : {T : Type 0} (target_of : T → ℕ × ℕ) (bytes row : List ℕ) (at : ℕ) (targets : List T) (i : ℕ) (t : T) (now new part : List ℕ)
    → i < length targets → t ≡ get_or targets i t → now ≡ with_multiples_added bytes row at (map target_of (take i targets))
    → part ≡ row_multiple (target_of t).1 row → new ≡ with_row_added now ((target_of t).0 + at) part
    → new ≡ with_multiples_added bytes row at (map target_of (take (i + 1) targets))
next_added target_of bytes row at targets i t now new part lt is so_far part_is added =
    let add = λ (sum : List ℕ) (u : ℕ × ℕ). with_row_added sum (u.0 + at) (row_multiple u.1 row) in
    rw (added, part_is, so_far, map_more target_of targets i t lt, ← is) (sym (fold-append add bytes (map target_of (take i targets)) (target_of t ∷ [])))

-- ---- ranges and stores

range-alike : (xs ys : List ℕ) (i m : ℕ) → length xs ≡ length ys → i + m ≤ length ys
    → ((p : ℕ) → i ≤ p → p < i + m → get_or xs p 0 ≡ get_or ys p 0) → range_of xs i m ≡ range_of ys i m
range-alike xs ys i m same le alike =
    let long = length-range xs i m (omega arith) in
    ext_get_or 0 (range_of xs i m) (range_of ys i m) (long ∙ sym (length-range ys i m le)) (λ k l.
    let lt : k < m = omega arith in
    get_or-take m (drop i xs) k 0 lt
    ∙ get_or-drop i xs k 0
    ∙ alike (i + k) (omega arith) (omega arith)
    ∙ sym (get_or-take m (drop i ys) k 0 lt ∙ get_or-drop i ys k 0))

store-outside : (i : ℕ) (xs ys : List ℕ) (p : ℕ) → (p < i) ⊎ (i + length ys ≤ p) → get_or (put_chunk i xs ys) p 0 ≡ get_or xs p 0
store-outside i xs ys p apart = ⊎_elim (λ below. get_or-put_chunk_below i xs ys p 0 below) (λ above. get_or-put_chunk_above i xs ys p 0 above) apart

store-inside : (i : ℕ) (xs ys : List ℕ) (p : ℕ) → i ≤ p → p < i + length ys → i + length ys ≤ length xs → get_or (put_chunk i xs ys) p 0 ≡ get_or ys (p - i) 0
store-inside i xs ys p from below le =
    ap (λ q. get_or (put_chunk i xs ys) q 0) (let place : p ≡ i + (p - i) = omega arith in place) ∙ get_or-put_chunk_at i xs ys (p - i) 0 (omega arith) le

-- two that follow each other are one
store-join : (i j : ℕ) (xs ys zs : List ℕ) → j ≡ i + length ys → put_chunk j (put_chunk i xs ys) zs ≡ put_chunk i xs (ys ++ zs)
store-join i j [] ys zs e = refl
store-join zero zero (x ∷ xs) [] zs e = refl
store-join zero zero (x ∷ xs) (y ∷ ys) zs e = absurd (omega arith)
store-join zero (suc j) (x ∷ xs) [] zs e = absurd (omega arith)
store-join zero (suc j) (x ∷ xs) (y ∷ ys) zs e = ap (λ l. y ∷ l) (store-join zero j xs ys zs (omega arith))
store-join (suc i) zero (x ∷ xs) ys zs e = absurd (omega arith)
store-join (suc i) (suc j) (x ∷ xs) ys zs e = ap (λ l. x ∷ l) (store-join i j xs ys zs (omega arith))

-- ---- what a doubled row is

pub length-doubled_sum : (bytes : List ℕ) (dest src n : ℕ) → dest + n ≤ length bytes → src + n ≤ length bytes → length (doubled_sum bytes dest src n) ≡ n
length-doubled_sum bytes dest src n to from =
    let x = length-multiple 2 (range_of bytes dest n) ∙ length-range bytes dest n to in
    length-zip2 bit_xor (row_multiple 2 (range_of bytes dest n)) (range_of bytes src n) (x ∙ sym (length-range bytes src n from)) ∙ x

sum-join : (xs ys us vs : List ℕ) → length xs ≡ length us → row_sum (xs ++ ys) (us ++ vs) ≡ row_sum xs us ++ row_sum ys vs
sum-join [] ys [] vs e = refl
sum-join [] ys (u ∷ us) vs e = absurd (omega arith)
sum-join (x ∷ xs) ys [] vs e = absurd (omega arith)
sum-join (x ∷ xs) ys (u ∷ us) vs e = ap (λ zs. bit_xor x u ∷ zs) (sum-join xs ys us vs (omega arith))

doubled_sum-join : (bytes : List ℕ) (dest src n m : ℕ) → dest + n ≤ length bytes → src + n ≤ length bytes
    → doubled_sum bytes dest src (n + m) ≡ doubled_sum bytes dest src n ++ doubled_sum bytes (dest + n) (src + n) m
doubled_sum-join bytes dest src n m to from =
    let x = range_of bytes dest n in
    let long = length-multiple 2 x ∙ length-range bytes dest n to ∙ sym (length-range bytes src n from) in
    rw (range-join bytes dest (dest + n) n m refl, range-join bytes src (src + n) n m refl, map-append (octet_mul 2) x (range_of bytes (dest + n) m))
    (sum-join (row_multiple 2 x) (row_multiple 2 (range_of bytes (dest + n) m)) (range_of bytes src n) (range_of bytes (src + n) m) long)

-- a buffer with k elements from `dest` on doubled, others added to them, and them added to the targets
abbrev pub spread_upto : List ℕ → ℕ → ℕ → List (ℕ × ℕ) → ℕ → List ℕ
spread_upto bytes dest src targets k = let sum = with_doubled_sum bytes dest src k in with_multiples_added sum (range_of sum dest k) 0 targets

-- ---- the law

module _ {T : Type 0} (target_of : T → ℕ × ℕ) (bytes : List ℕ) (dest len : ℕ) (items : List T) (fits : dest + len ≤ length bytes)
    (beside : All (λ t. IsRangeBeside (length bytes) dest len (target_of t).0) items) where
  abbrev targets : List (ℕ × ℕ)
  targets = map target_of items

  abbrev spread : List ℕ → List ℕ → List ℕ
  spread xs row = with_multiples_added xs row 0 targets

  all_beside : (P : ℕ × ℕ → Type 0) → ((t : ℕ × ℕ) → IsRangeBeside (length bytes) dest len t.0 → P t) → All P targets
  all_beside P gives = let Q = λ (t : ℕ × ℕ). IsRangeBeside (length bytes) dest len t.0 in All-weaker Q P gives targets (All-map Q target_of items beside)

  apart : (n i m : ℕ) → n ≤ len → dest ≤ i → i + m ≤ dest + len → All (IsApart n i m) targets
  apart n i m short from to = all_beside (IsApart n i m) (λ t b. ⊎_elim (λ behind. inl (omega arith)) (λ before. inr (omega arith)) b.1)

  added : (xs row : List ℕ) (at : ℕ) → length xs ≡ length bytes → at + length row ≤ len → let new = with_multiples_added xs row at targets in
      (length new ≡ length bytes) × ((p : ℕ) → get_or new p 0 ≡ bit_xor (get_or xs p 0) (all_reached row at targets p))
  added = all_added (length bytes) len targets (all_beside (λ t. t.0 + len ≤ length bytes) (λ t b. b.0))

  module _ (xs row : List ℕ) (same : length xs ≡ length bytes) (short : 0 + length row ≤ len) where
    kept : (i m p : ℕ) → i ≤ p → p < i + m → All (IsApart (length row) i m) targets → get_or (spread xs row) p 0 ≡ get_or xs p 0
    kept i m p from below apart_from =
        rw ((added xs row 0 same short).1 p, all_reached-none row i m p targets from below apart_from) (xor_zero_r (get_or xs p 0))

    range-kept : (i m : ℕ) → i + m ≤ length bytes → All (IsApart (length row) i m) targets → range_of (spread xs row) i m ≡ range_of xs i m
    range-kept i m within apart_from =
        range-alike (spread xs row) xs i m ((added xs row 0 same short).0 ∙ sym same) (omega arith) (λ p from below. kept i m p from below apart_from)

    -- a store within the range may as well come before
    store-first : (i : ℕ) (ys : List ℕ) → dest ≤ i → i + length ys ≤ dest + len → put_chunk i (spread xs row) ys ≡ spread (put_chunk i xs ys) row
    store-first i ys from to =
        let stored = put_chunk i xs ys in
        let stored_same = length-put_chunk i xs ys ∙ same in
        let all = added xs row 0 same short in
        let after = added stored row 0 stored_same short in
        let unreached = apart (length row) i (length ys) (omega arith) from to in
        let outside = λ (p : ℕ) (o : (p < i) ⊎ (i + length ys ≤ p)).
        store-outside i (spread xs row) ys p o ∙ all.1 p ∙ ap (λ x. bit_xor x (all_reached row 0 targets p)) (sym (store-outside i xs ys p o)) ∙ sym (after.1 p)
        in
        ext_get_or 0 (put_chunk i (spread xs row) ys) (spread stored row) (length-put_chunk i (spread xs row) ys ∙ all.0 ∙ sym after.0) (λ p l.
        ⊎_elim (λ below. outside p (inl below)) (λ above.
        ⊎_elim
        (λ inside.
        store-inside i (spread xs row) ys p above inside (omega (arith, all.0))
        ∙ sym (store-inside i xs ys p above inside (omega arith))
        ∙ sym (rw (after.1 p, all_reached-none row i (length ys) p targets above inside unreached) (xor_zero_r (get_or stored p 0))))
        (λ behind. outside p (inr behind)) (cases_lt p (i + length ys))) (cases_lt p i))

    -- multiples of a row and those of the one that follows it are those of both
    spread-join : (at : ℕ) (more : List ℕ) → at ≡ length row → at + length more ≤ len
        → with_multiples_added (spread xs row) more at targets ≡ spread xs (row ++ more)
    spread-join at more e le =
        let one = added xs row 0 same short in
        let two = added (spread xs row) more at one.0 le in
        let both = added xs (row ++ more) 0 same (omega (arith, length-append row more)) in
        ext_get_or 0 (with_multiples_added (spread xs row) more at targets) (spread xs (row ++ more)) (two.0 ∙ sym both.0) (λ p l.
        rw (two.1 p, one.1 p, both.1 p, all_reached-join row more 0 at targets p (omega arith))
        (xor_assoc (get_or xs p 0) (all_reached row 0 targets p) (all_reached more at targets p)))

  -- nothing is added
  spread-none : (xs : List ℕ) → length xs ≡ length bytes → spread xs [] ≡ xs
  spread-none xs same =
      let all = added xs [] 0 same (omega arith) in
      ext_get_or 0 (spread xs []) xs (all.0 ∙ sym same) (λ p l. kept xs [] same (omega arith) p 1 p (omega arith) (omega arith) (λ k d lt.
      ⊎_elim (λ b. inl (omega arith)) (λ b. inr (omega arith)) (cases_lt p (get_or targets k d).0)))

  -- ---- the multiples of the range's elements

  abbrev added_upto : ℕ → List ℕ
  added_upto k = spread bytes (range_of bytes dest k)

  pub none_added : (k : ℕ) → k ≡ 0 → bytes ≡ added_upto k
  none_added k none = sym (ap added_upto none ∙ spread-none bytes refl)

  pub more_added : (now new : List ℕ) (at m k : ℕ)
      → now ≡ added_upto at → new ≡ with_multiples_added now (range_of now (dest + at) m) at targets → k ≡ at + m → k ≤ len → new ≡ added_upto k
  more_added now new at m k so_far next all le =
      let front = range_of bytes dest at in
      let piece = range_of bytes (dest + at) m in
      let front_long : length front ≡ at = length-range bytes dest at (omega arith) in
      let piece_long : length piece ≡ m = length-range bytes (dest + at) m (omega arith) in
      let unreached = apart (length front) (dest + at) m (omega arith) (omega arith) (omega arith) in
      let stays = range-kept bytes front refl (omega arith) (dest + at) m (omega arith) unreached in
      rw (next, so_far, stays, all, range-join bytes dest (dest + at) at m refl)
      (spread-join bytes front refl (omega arith) at piece (sym front_long) (omega arith))

  -- ---- the range doubled, with another one added to it

  module _ (src : ℕ) (source : IsRangeBeside (length bytes) dest len src) (unmixed : All (λ t. BeginsNotInside src len (target_of t).0) items) where
    abbrev made : ℕ → List ℕ
    made k = doubled_sum bytes dest src k

    made_long : (k : ℕ) → k ≤ len → length (made k) ≡ k
    made_long k le = let w = source.0 in length-doubled_sum bytes dest src k (omega arith) (omega arith)

    abbrev stored : ℕ → List ℕ
    stored k = put_chunk dest bytes (made k)

    stored_same : (k : ℕ) → length (stored k) ≡ length bytes
    stored_same k = length-put_chunk dest bytes (made k)

    upto_is : (k : ℕ) → k ≤ len → spread_upto bytes dest src targets k ≡ spread (stored k) (made k)
    upto_is k le =
        ap (spread (with_doubled_sum bytes dest src k)) (range-written bytes dest k (made k) (made_long k le) (omega arith))
        ∙ ap (λ xs. spread xs (made k)) (sym (put_is bytes dest (made k) (omega (arith, made_long k le))))

    pub none_spread : (k : ℕ) → k ≡ 0 → bytes ≡ spread_upto bytes dest src targets k
    none_spread k none =
        rw (none, upto_is 0 (omega arith), spread-none (stored 0) (stored_same 0), put_chunk_is dest bytes [] (omega arith)) (sym (take-append-drop dest bytes))

    module _ (at m : ℕ) (le : at + m ≤ len) where
      abbrev piece : List ℕ
      piece = doubled_sum bytes (dest + at) (src + at) m

      -- a piece that is not written before it is read
      piece_kept : (i : ℕ) → i + m ≤ length bytes → All (IsApart (length (made at)) i m) targets → (i + m ≤ dest) ⊎ (dest + at ≤ i)
          → range_of (spread (stored at) (made at)) i m ≡ range_of bytes i m
      piece_kept i within apart_from beside_dest =
          let n = made_long at (omega arith) in
          range-kept (stored at) (made at) (stored_same at) (omega arith) i m within apart_from
          ∙ range-alike (stored at) bytes i m (stored_same at) within (λ p from below.
          store-outside dest bytes (made at) p (⊎_elim (λ before. inl (omega arith)) (λ behind. inr (omega arith)) beside_dest))

      piece_is : doubled_sum (spread (stored at) (made at)) (dest + at) (src + at) m ≡ piece
      piece_is =
          let n = made_long at (omega arith) in
          let w = source.0 in
          let P = λ (t : ℕ × ℕ). BeginsNotInside src len t.0 in
          let unread : (t : ℕ × ℕ) → P t → IsApart (length (made at)) (src + at) m t =
          λ t o. ⊎_elim (λ before. inr (omega arith)) (λ behind. inl (omega arith)) o in
          let x_unreached = apart (length (made at)) (dest + at) m (omega arith) (omega arith) (omega arith) in
          let y_unreached = All-weaker P (IsApart (length (made at)) (src + at) m) unread targets (All-map P target_of items unmixed) in
          let y_beside = ⊎_elim (λ behind. inr (omega arith)) (λ before. inl (omega arith)) source.1 in
          rw (piece_kept (dest + at) (omega arith) x_unreached (inr (omega arith)), piece_kept (src + at) (omega arith) y_unreached y_beside) refl

      next_spread : put_chunk (dest + at) (with_multiples_added (spread (stored at) (made at)) piece at targets) piece
          ≡ spread (stored (at + m)) (made (at + m))
      next_spread =
          let w = source.0 in
          let n = made_long at (omega arith) in
          let joined = doubled_sum-join bytes dest src at m (omega arith) (omega arith) in
          let piece_long : length piece ≡ m = length-doubled_sum bytes (dest + at) (src + at) m (omega arith) (omega arith) in
          rw (spread-join (stored at) (made at) (stored_same at) (omega arith) at piece (sym n) (omega arith), ← joined)
          (store-first (stored at) (made (at + m)) (stored_same at) (omega (arith, made_long (at + m) le)) (dest + at) piece (omega arith) (omega arith)
          ∙ rw (store-join dest (dest + at) bytes (made at) piece (omega arith), ← joined) refl)

    pub more_spread : (now new sum : List ℕ) (at m k : ℕ) → now ≡ spread_upto bytes dest src targets at → sum ≡ doubled_sum now (dest + at) (src + at) m
        → new ≡ put_chunk (dest + at) (with_multiples_added now sum at targets) sum → k ≡ at + m → k ≤ len → new ≡ spread_upto bytes dest src targets k
    more_spread now new sum at m k so_far sum_is next all le =
        let both : at + m ≤ len = omega arith in
        let now_is = so_far ∙ upto_is at (omega arith) in
        rw (next, sum_is, now_is, piece_is at m both, all, upto_is (at + m) both) (next_spread at m both)
