-- Digests of an object's symbols, and where each stands.
use Rattle.std.proofs.Common.{◌≡◌, ℕ, zero, suc, ◌+◌, ◌-◌, ◌*◌, ◌<◌, ◌≤◌, min, List, [], ◌∷◌, ◌++◌, length, take, drop, map, set, get_or, Bor, refl, sym, ap, subst, ◌∙◌, arith, inl, inr, append-nil, length-append}
use Rattle.std.specs.List.{flat_map, range_with_len}
use Rattle.std.proofs.Math.Nat.{zero-mul, mul-le-mul_right}
use Rattle.std.proofs.lemmas.Bool.{cases_lt}
use Rattle.std.proofs.lemmas.List.{take_at, drop_at, drop-drop, drop_min, take_min, take_more_set, length-take-le, length-drop, length-map, map-append, get_or-map, get_or_append_left, get_or-append_right}
use Rattle.std.proofs.lemmas.List.Concat.{flat_map-cons, flat_map-append}
use Rattle.std.proofs.lemmas.List.FromFn.{map-range_with_len_more, length-map-range_with_len, get_or-map-range_with_len}
use Rattle.std.proofs.lemmas.Simd.{map-map}
use Rattle.sha2.specs.Sha512.{sha512}
use Rattle.rq_standard.specs.Configuration.{Configuration}
use Rattle.rq_standard.specs.Cutting.{block_symbols, symbols_before, symbol_of_block, source_symbol}
use Rattle.rq_standard.specs.Headline.{block_source}
use Rattle.rq_standard.specs.Equations.{zero_symbol}
use Rattle.rq_standard.proofs.BlockCuts.{symbols_before-first, symbols_before-next, symbols_before-grows}
use Rattle.rq_standard.proofs.StandingSteps.{length-symbol_of_block, length-block_source, source_at}
use Rattle.rq_block.proofs.NumberRanges.{range-push, flat_map-push}
use Rattle.raptorq.specs.BlockBytes.{bytes_of_block}
use Rattle.raptorq.proofs.EncodedBlocks.{source_is}
use Rattle.rq_digests.specs.Messages.{AreOfOneLength}
use Rattle.rq_cells.specs.Cells.{digest_of}
use Rattle.rq_cells.proofs.Digests.{of_one_length}
use Rattle.rq_cast.specs.Parts.{source_digests}

-- ---- symbols one behind another

abbrev part : ℕ → List ℕ → ℕ → List ℕ
part size bytes i = take size (drop (i * size) bytes)

shift : (f : ℕ → List ℕ) (a n : ℕ) → map f (range_with_len (a + 1) n) ≡ map (λ i. f (i + 1)) (range_with_len a n)
shift f a zero = refl
shift f a (suc n) = ap (λ xs. f (a + 1) ∷ xs) (shift f (a + 1) n)

drop_more : (size i : ℕ) (bytes : List ℕ) → drop ((i + 1) * size) bytes ≡ drop (i * size) (drop size bytes)
drop_more size i bytes =
    let longer : (i + 1) * size ≡ size + i * size = omega arith in
    ap (λ m. drop m bytes) longer ∙ sym (drop-drop (i * size) size bytes)

-- numbers and those behind them
range_append : (a n m : ℕ) → range_with_len a (n + m) ≡ range_with_len a n ++ range_with_len (a + n) m
range_append a zero m =
    let none : zero + m ≡ m = omega arith in
    let here : a + zero ≡ a = omega arith in
    ap (range_with_len a) none ∙ ap (λ k. range_with_len k m) (sym here)
range_append a (suc n) m =
    let more : suc n + m ≡ suc (n + m) = omega arith in
    let there : a + 1 + n ≡ a + suc n = omega arith in
    ap (range_with_len a) more ∙ ap (λ xs. a ∷ xs) (range_append (a + 1) n m ∙ ap (λ k. range_with_len (a + 1) n ++ range_with_len k m) there)

-- one symbol behind others
pub joined_next : (f : ℕ → List ℕ) (first n e : ℕ) → first + n ≡ e → flat_map f (range_with_len first n) ++ f e ≡ flat_map f (range_with_len first (n + 1))
joined_next f first n e is =
    ap (λ xs. flat_map f (range_with_len first n) ++ xs) (sym (append-nil (f e))) ∙ sym (flat_map-append f (range_with_len first n) (e ∷ []))
    ∙ ap (flat_map f) (sym (range-push first n e is))

-- symbols of one length are the parts of what they make one behind another
parts_are : (f : ℕ → List ℕ) (size : ℕ) → ((e : ℕ) → length (f e) ≡ size) → (first n : ℕ)
    → map (part size (flat_map f (range_with_len first n))) (range_with_len 0 n) ≡ map f (range_with_len first n)
parts_are f size each first zero = refl
parts_are f size each first (suc n) =
    let rest = flat_map f (range_with_len (first + 1) n) in
    let bytes = flat_map f (range_with_len first (suc n)) in
    let whole : bytes ≡ f first ++ rest = flat_map-cons f first (range_with_len (first + 1) n) in
    let here : part size bytes 0 ≡ f first =
    ap (λ m. take size (drop m bytes)) (zero-mul size) ∙ ap (take size) whole ∙ take_at (f first) rest size (each first) in
    let behind : drop size bytes ≡ rest = ap (drop size) whole ∙ drop_at (f first) rest size (each first) in
    let next : (i : ℕ) → part size bytes (i + 1) ≡ part size rest i = λ i. ap (take size) (drop_more size i bytes ∙ ap (drop (i * size)) behind) in
    ap (λ x. x ∷ map (part size bytes) (range_with_len (0 + 1) n)) here
    ∙ ap (λ xs. f first ∷ xs) (shift (part size bytes) 0 n ∙ (λ j. map (λ i. next i j) (range_with_len 0 n)) ∙ parts_are f size each (first + 1) n)

-- symbols one behind another are cut into as many parts again
pub length-joined : (f : ℕ → List ℕ) (size : ℕ) → ((e : ℕ) → length (f e) ≡ size) → (first n : ℕ) → length (flat_map f (range_with_len first n)) ≡ n * size
length-joined f size each first zero = sym (zero-mul size)
length-joined f size each first (suc n) =
    let rest = flat_map f (range_with_len (first + 1) n) in
    let more : suc n * size ≡ size + n * size = omega arith in
    ap length (flat_map-cons f first (range_with_len (first + 1) n)) ∙ length-append (f first) rest
    ∙ omega (arith, each first, length-joined f size each (first + 1) n, more)

-- the symbols of a block, and their digests
module _ (c : Configuration) (k : ℕ) (block : List ℕ) where
  abbrev pub symbol : ℕ → List ℕ
  symbol e = symbol_of_block c k block e

  abbrev pub digest : ℕ → List ℕ
  digest e = digest_of (symbol e)

  pub sized : (e : ℕ) → length (symbol e) ≡ c.symbol_size
  sized e = length-symbol_of_block c k block e

  -- digests of symbols that stand one behind another
  pub digests_of_parts : (first n : ℕ) (bytes : List ℕ) (hashes : List (List ℕ)) → bytes ≡ flat_map symbol (range_with_len first n)
      → hashes ≡ map (λ i. sha512 (part c.symbol_size bytes i)) (range_with_len 0 n)
      → map (take 32) hashes ≡ map digest (range_with_len first n)
  digests_of_parts first n bytes hashes are hashed =
      ap (map (take 32)) hashed ∙ map-map (take 32) (λ i. sha512 (part c.symbol_size bytes i)) (range_with_len 0 n)
      ∙ sym (map-map digest_of (part c.symbol_size bytes) (range_with_len 0 n))
      ∙ ap (λ xs. map digest_of (map (part c.symbol_size xs) (range_with_len 0 n))) are
      ∙ ap (map digest_of) (parts_are symbol c.symbol_size sized first n)
      ∙ map-map digest_of symbol (range_with_len first n)

  -- behind those of the first symbols
  pub digests_more : (first n : ℕ) → map digest (range_with_len 0 first) ++ map digest (range_with_len first n) ≡ map digest (range_with_len 0 (first + n))
  digests_more first n =
      let here : 0 + first ≡ first = omega arith in
      sym (map-append digest (range_with_len 0 first) (range_with_len first n))
      ∙ ap (map digest) (ap (λ a. range_with_len 0 first ++ range_with_len a n) (sym here) ∙ sym (range_append 0 first n))

-- ---- block by block

-- the bytes of a block of an object, which may end before it does
pub bytes_are : (c : Configuration) (object rest block : List ℕ) (b start whole : ℕ) → start ≡ symbols_before c b * c.symbol_size → whole ≡ block_symbols c b * c.symbol_size
    → rest ≡ drop (min start (length object)) object → block ≡ take (min whole (length rest)) rest → block ≡ bytes_of_block c object b
bytes_are c object rest block b start whole from long behind front =
    front ∙ take_min whole rest ∙ ap (take whole) (behind ∙ drop_min start object) ∙ (λ i. take (long i) (drop (from i) object))

module _ (c : Configuration) (object : List ℕ) where
  abbrev pub block_digests : ℕ → List (List ℕ)
  block_digests b = map digest_of (block_source c object b)

  abbrev pub digests_before : ℕ → List (List ℕ)
  digests_before n = flat_map block_digests (range_with_len 0 n)

  pub digests_of_block : (b k : ℕ) (bytes : List ℕ) → k ≡ block_symbols c b → bytes ≡ bytes_of_block c object b
      → map (digest c k bytes) (range_with_len 0 k) ≡ block_digests b
  digests_of_block b k bytes count are =
      sym (map-map digest_of (symbol c k bytes) (range_with_len 0 k)) ∙ ap (map digest_of) (source_is c object bytes b k _ count are refl)

  pub digests_next : (n : ℕ) → digests_before n ++ block_digests n ≡ digests_before (n + 1)
  digests_next n = sym (flat_map-push block_digests n)

  length-block_digests : (b : ℕ) → length (block_digests b) ≡ block_symbols c b
  length-block_digests b = length-map (block_source c object b) digest_of ∙ length-block_source c object b

  pub length-digests_before : (n : ℕ) → n ≤ c.source_blocks → length (digests_before n) ≡ symbols_before c n
  length-digests_before zero all = sym (symbols_before-first c)
  length-digests_before (suc n) all =
      let next : n + 1 ≡ suc n = omega arith in
      ap (λ m. length (digests_before m)) (sym next) ∙ ap length (sym (digests_next n)) ∙ length-append (digests_before n) (block_digests n)
      ∙ omega (arith, length-digests_before n (omega arith), length-block_digests n, symbols_before-next c n (omega arith)) ∙ ap (symbols_before c) next

  -- where the digest of a symbol stands
  stands : (n b e : ℕ) (d : List ℕ) → b < n → n ≤ c.source_blocks → e < block_symbols c b
      → get_or (digests_before n) (symbols_before c b + e) d ≡ get_or (block_digests b) e d
  stands zero b e d below all few = absurd (omega (arith, below))
  stands (suc n) b e d below all few =
      let next : n + 1 ≡ suc n = omega arith in
      let at = symbols_before c b + e in
      let long = length-digests_before n (omega arith) in
      ap (λ m. get_or (digests_before m) at d) (sym next) ∙ ap (λ xs. get_or xs at d) (sym (digests_next n))
      ∙ elim (cases_lt b n) [
        | inl lt ↦
            let more = symbols_before-next c b (omega arith) in
            let grows = symbols_before-grows c (b + 1) n (omega arith) (omega arith) in
            get_or_append_left (digests_before n) (block_digests n) d at (omega (arith, long, more, grows, few))
            ∙ stands n b e d lt (omega arith) few
        | inr past ↦
            let here : n ≡ b = omega arith in
            let front : symbols_before c n ≡ symbols_before c b = ap (symbols_before c) here in
            get_or-append_right (digests_before n) (block_digests n) (symbols_before c n) at d long (omega (arith, front))
            ∙ (let place : at - symbols_before c n ≡ e = omega (arith, front) in λ i. get_or (block_digests (here i)) (place i) d)
      ]

  pub digest_at : (b e : ℕ) (d : List ℕ) → b < c.source_blocks → e < block_symbols c b
      → get_or (source_digests c object) (symbols_before c b + e) d ≡ digest_of (source_symbol c object b e)
  digest_at b e d below few =
      stands c.source_blocks b e d below (omega arith) few
      ∙ get_or-map digest_of (block_source c object b) e (zero_symbol c.symbol_size) d (omega (arith, length-block_source c object b))
      ∙ ap digest_of (source_at c object b e few)

-- ---- messages in an array

-- one message more
pub messages_more : (size : ℕ) (symbols : List ℕ) (messages : List (Bor (List ℕ))) (i : ℕ) (m : Bor (List ℕ)) → i < length messages
    → map (λ (x : Bor (List ℕ)). x.now) (take i messages) ≡ map (λ k. take size (drop (k * size) symbols)) (range_with_len 0 i) → m.now ≡ part size symbols i
    → map (λ (x : Bor (List ℕ)). x.now) (take (i + 1) (set messages i m)) ≡ map (λ k. take size (drop (k * size) symbols)) (range_with_len 0 (i + 1))
messages_more size symbols messages i m below before is =
    ap (map (λ (x : Bor (List ℕ)). x.now)) (take_more_set messages i m below)
    ∙ map-append (λ (x : Bor (List ℕ)). x.now) (take i messages) (m ∷ [])
    ∙ (λ j. before j ++ (is j ∷ []))
    ∙ sym (map-range_with_len_more (part size symbols) 0 i i (omega arith))

-- parts that stand in bytes are messages of one length
pub parts_of_one_length : (size n : ℕ) (symbols : List ℕ) (ms : List (List ℕ)) → length symbols ≡ n * size → ms ≡ map (λ k. take size (drop (k * size) symbols)) (range_with_len 0 n) → AreOfOneLength ms
parts_of_one_length size n symbols ms long are =
    subst AreOfOneLength (sym are) (of_one_length size (map (part size symbols) (range_with_len 0 n)) (λ k d below. sized_part k d below))
  where
    sized_part : (k : ℕ) (d : List ℕ) → k < length (map (part size symbols) (range_with_len 0 n)) → length (get_or (map (part size symbols) (range_with_len 0 n)) k d) ≡ size
    sized_part k d below =
        let few : k < n = omega (arith, below, length-map-range_with_len (part size symbols) 0 n) in
        let next : (k + 1) * size ≡ size + k * size = omega arith in
        let room : (k + 1) * size ≤ n * size = mul-le-mul_right size (omega (arith, few)) in
        ap length (get_or-map-range_with_len (part size symbols) 0 n k k d few (omega arith))
        ∙ length-take-le size (drop (k * size) symbols) (omega (arith, length-drop (k * size) symbols, long, room, next))
