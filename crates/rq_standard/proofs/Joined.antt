-- Joining undoes cutting, and cutting undoes joining.
use Rattle.std.proofs.Common.{◌≡◌, ℕ, ◌+◌, ◌-◌, ◌*◌, ◌/◌, ◌%◌, ◌<◌, ◌≤◌, List, [], length, get_or, arith, sym, ap, ◌∙◌}
use Rattle.std.proofs.lemmas.Nat.{div-mul-add, mod-mul-add, div_below, le-div}
use Rattle.std.proofs.lemmas.List.{ext_get_or}
use Rattle.std.proofs.lemmas.List.FromFn.{length-map-range_with_len, get_or-map-range_with_len}
use Rattle.rq_standard.specs.Configuration.{Configuration, IsAligned}
use Rattle.rq_standard.specs.Cutting.{sub_block_size, sub_block_start, place_in_block, symbol_of_block}
use Rattle.rq_standard.specs.Joining.{symbol_of_place, byte_of_place, symbols_of_block, joined_block}
use Rattle.rq_standard.specs.PacketLaws.{JoiningUndoesCutting, CuttingUndoesJoining}
use Rattle.rq_standard.proofs.Interleaved.{at_byte, place_in, place_low, place_below, place_found, get_or-symbol_of_block}
use Rattle.rq_standard.proofs.StandingSteps.{length-symbol_of_block}

-- ---- the byte of a symbol that stands at a place

module _ (c : Configuration) (k e t : ℕ) (aligned : IsAligned c) (here : e < k) (below : t < c.symbol_size) where
  record IsPlaced (i o z : ℕ) : Type 0 where
    place : i ≡ o * k + (e * z + (t - o))
    low : o ≤ t
    high : t < o + z
    start : sub_block_start c (i / k) ≡ o
    size : sub_block_size c (i / k) ≡ z
    rest : t - o < z
    within : i - o * k ≡ e * z + (t - o)

  placed : IsPlaced (place_in_block c k e t) (sub_block_start c t) (sub_block_size c t)
  placed =
      let o = sub_block_start c t in
      let z = sub_block_size c t in
      let i = place_in_block c k e t in
      let b = at_byte c t aligned below in
      let is : i ≡ o * k + z * e + (t - o) = place_in c k e o z t b.part b.low b.high in
      let from : o ≤ i / k = le-div o i k (omega arith) (omega (arith, is)) in
      let to : i / k < o + z = div_below i k (o + z) (omega arith) (omega (arith, is, place_low k e o z t here b.low b.high)) in
      record {
        place = is ∙ omega arith;
        low = b.low;
        high = b.high;
        start = b.part.start (i / k) from to;
        size = b.part.size (i / k) from to;
        rest = omega (arith, b.low, b.high);
        within = omega (arith, is);
      }

  symbol_by : (i o z : ℕ) → IsPlaced i o z → symbol_of_place c k i ≡ e
  unfolding symbol_of_place
  symbol_by i o z p =
      ap (λ s. (i - s * k) / sub_block_size c (i / k)) p.start ∙ ap (λ s. (i - o * k) / s) p.size ∙ ap (λ n. n / z) p.within ∙ div-mul-add e z (t - o) p.rest

  byte_by : (i o z : ℕ) → IsPlaced i o z → byte_of_place c k i ≡ t
  unfolding byte_of_place
  byte_by i o z p =
      ap (λ s. s + (i - s * k) % sub_block_size c (i / k)) p.start ∙ ap (λ s. o + (i - o * k) % s) p.size ∙ ap (λ n. o + n % z) p.within
      ∙ ap (λ n. o + n) (mod-mul-add e z (t - o) p.rest) ∙ omega (arith, p.low)

  pub symbol_of_place-place : symbol_of_place c k (place_in_block c k e t) ≡ e
  symbol_of_place-place = symbol_by (place_in_block c k e t) (sub_block_start c t) (sub_block_size c t) placed

  pub byte_of_place-place : byte_of_place c k (place_in_block c k e t) ≡ t
  byte_of_place-place = byte_by (place_in_block c k e t) (sub_block_start c t) (sub_block_size c t) placed

-- ---- both ways

length-joined_block : (c : Configuration) (k : ℕ) (symbols : List (List ℕ)) → length (joined_block c k symbols) ≡ k * c.symbol_size
unfolding joined_block
length-joined_block c k symbols = length-map-range_with_len _ 0 (k * c.symbol_size)

get_or-joined_block : (c : Configuration) (k : ℕ) (symbols : List (List ℕ)) (i : ℕ) → i < k * c.symbol_size → get_or (joined_block c k symbols) i 0 ≡ get_or (get_or symbols (symbol_of_place c k i) []) (byte_of_place c k i) 0
unfolding joined_block
get_or-joined_block c k symbols i below = get_or-map-range_with_len (λ i. get_or (get_or symbols (symbol_of_place c k i) []) (byte_of_place c k i) 0) 0 (k * c.symbol_size) i i 0 below (omega arith)

-- byte t of symbol e in the block that symbols make
placed_byte : (c : Configuration) (k e t : ℕ) (symbols : List (List ℕ)) → IsAligned c → e < k → t < c.symbol_size → get_or (joined_block c k symbols) (place_in_block c k e t) 0 ≡ get_or (get_or symbols e []) t 0
placed_byte c k e t symbols aligned here below =
    get_or-joined_block c k symbols (place_in_block c k e t) (place_below c k e t aligned here below)
    ∙ ap (λ n. get_or (get_or symbols n []) (byte_of_place c k (place_in_block c k e t)) 0) (symbol_of_place-place c k e t aligned here below)
    ∙ ap (λ n. get_or (get_or symbols e []) n 0) (byte_of_place-place c k e t aligned here below)

-- a block is what its symbols make
pub joined_is_block : JoiningUndoesCutting
joined_is_block c k block aligned long =
    let symbols = symbols_of_block c k block in
    let whole = length-joined_block c k symbols in
    ext_get_or 0 (joined_block c k symbols) block (whole ∙ sym long) (λ i lt.
    let found = place_found c k i aligned (omega (arith, whole)) in
    let e = found.0 in
    let t = found.1 in
    let h = found.2 in
    ap (λ n. get_or (joined_block c k symbols) n 0) (sym h.place)
    ∙ placed_byte c k e t symbols aligned h.symbol h.byte
    ∙ ap (λ s. get_or s t 0) (get_or-map-range_with_len (symbol_of_block c k block) 0 k e e [] h.symbol (omega arith))
    ∙ get_or-symbol_of_block c k block e t h.byte
    ∙ ap (λ n. get_or block n 0) h.place)

-- and the symbols of what symbols make are those
pub symbols_of_joined : CuttingUndoesJoining
symbols_of_joined c k symbols aligned count sized =
    let block = joined_block c k symbols in
    let long = length-map-range_with_len (symbol_of_block c k block) 0 k in
    ext_get_or [] (symbols_of_block c k block) symbols (long ∙ sym count) (λ e lt.
    let here : e < k = omega (arith, long) in
    let size = length-symbol_of_block c k block e in
    get_or-map-range_with_len (symbol_of_block c k block) 0 k e e [] here (omega arith)
    ∙ ext_get_or 0 (symbol_of_block c k block e) (get_or symbols e []) (size ∙ sym (sized e [] (omega (arith, count)))) (λ t inside.
    let below : t < c.symbol_size = omega (arith, size) in
    get_or-symbol_of_block c k block e t below ∙ placed_byte c k e t symbols aligned here below))
