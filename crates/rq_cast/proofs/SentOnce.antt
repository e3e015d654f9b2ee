-- Each id of each block is sent, and once.
use Rattle.std.proofs.Common.{◌≡◌, ℕ, ◌+◌, ◌-◌, ◌*◌, ◌/◌, ◌%◌, ◌<◌, ◌≤◌, min, sym, ap, ◌∙◌, arith, mul-le-mul_left, div-add-mod', le_antisymm, le_of_eq}
use Rattle.std.proofs.Math.Nat.{le_of_mul-le-mul_left}
use Rattle.std.proofs.lemmas.Nat.{div-mul-add, mod-mul-add, mul-add-lt, mod_below, same_from_place}
use Rattle.rq_standard.specs.Packet.{SymbolId}
use Rattle.rq_cast.specs.Sent.{Sending, cell_count, sent_id}
use Rattle.rq_cast.specs.Laws.{EachIsSentOnce}
use Rattle.rq_cast.proofs.Groups.{column_below}

-- ---- each is sent

module _ (ids blocks block k : ℕ) (below : block < blocks) (few : k < ids) where
  abbrev group : ℕ
  group = block / 8

  abbrev width : ℕ
  width = min 8 (blocks - 8 * group)

  abbrev place : ℕ
  place = k * width + block % 8

  abbrev pub number : ℕ
  number = group * (8 * ids) + place

  split : group * 8 + block % 8 ≡ block
  split = div-add-mod' block 8

  column : block % 8 < width
  column = omega (arith, split, mod_below block 8 (omega arith), below)

  place_few : place < width * ids
  place_few = mul-add-lt k width (block % 8) ids few column

  in_group : place < 8 * ids
  in_group =
      let eight : ids * width ≤ ids * 8 = mul-le-mul_left ids (omega arith) in
      let turned : width * ids ≡ ids * width = omega arith in
      omega (arith, place_few, eight, turned)

  pub group_at : number / (8 * ids) ≡ group
  group_at = div-mul-add group (8 * ids) place in_group

  pub place_at : number % (8 * ids) ≡ place
  place_at = mod-mul-add group (8 * ids) place in_group

  pub number_below : number < ids * blocks
  number_below =
      let rest : 8 * group + width ≤ blocks = omega (arith, split, below) in
      let cells : ids * (8 * group + width) ≤ ids * blocks = mul-le-mul_left ids rest in
      let parts : ids * (8 * group + width) ≡ group * (8 * ids) + width * ids = omega arith in
      omega (arith, place_few, cells, parts)

  pub column_at : place % width ≡ block % 8
  column_at = mod-mul-add k width (block % 8) column

  pub id_at : place / width ≡ k
  id_at = div-mul-add k width (block % 8) column

  pub block_at : 8 * group + block % 8 ≡ block
  block_at = omega (arith, split)

-- ---- once

same_factor : (step a b : ℕ) → 0 < step → step * a ≡ step * b → a ≡ b
same_factor step a b some same = le_antisymm (le_of_mul-le-mul_left (le_of_eq same) some) (le_of_mul-le-mul_left (le_of_eq (sym same)) some)

module _ (s : Sending) (some : 0 < s.series.step) where
  abbrev ids : ℕ
  ids = s.series.count

  abbrev blocks : ℕ
  blocks = s.encoded.configuration.source_blocks

  abbrev group_of : ℕ → ℕ
  group_of i = i / (8 * ids)

  abbrev place_of : ℕ → ℕ
  place_of i = i % (8 * ids)

  abbrev width_of : ℕ → ℕ
  width_of g = min 8 (blocks - 8 * g)

  each_sent : (block k : ℕ) (below : block < blocks) (few : k < ids) → sent_id s (number ids blocks block k below few) ≡ record { block = block; esi = s.series.first + s.series.step * k }
  each_sent block k below few =
      let first = s.series.first in
      let step = s.series.step in
      let g = group_at ids blocks block k below few in
      let p = place_at ids blocks block k below few in
      let made : ℕ → ℕ → SymbolId = λ b e. record { block = b; esi = first + step * e } in
      (λ j. made (8 * g j + p j % width_of (g j)) (p j / width_of (g j)))
      ∙ (λ j. made (8 * (block / 8) + column_at ids blocks block k below few j) (id_at ids blocks block k below few j))
      ∙ ap (λ b. made b k) (block_at ids blocks block k below few)

  module _ (i j : ℕ) (here : i < cell_count s) (there : j < cell_count s) (same : sent_id s i ≡ sent_id s j) where
    column_few : (n : ℕ) → n < cell_count s → place_of n % width_of (group_of n) < 8
    column_few n below = omega (arith, column_below ids blocks n below)

    same_block : (group_of i ≡ group_of j) × (place_of i % width_of (group_of i) ≡ place_of j % width_of (group_of j))
    same_block =
        let block = ap (λ (x : SymbolId). x.block) same in
        same_from_place (group_of i) (place_of i % width_of (group_of i)) (group_of j) (place_of j % width_of (group_of j)) 8 (column_few i here) (column_few j there)
        (omega (arith, block))

    same_id : place_of i / width_of (group_of i) ≡ place_of j / width_of (group_of j)
    same_id =
        let id = ap (λ (x : SymbolId). x.esi) same in
        same_factor s.series.step (place_of i / width_of (group_of i)) (place_of j / width_of (group_of j)) some (omega (arith, id))

    same_place : place_of i ≡ place_of j
    same_place =
        sym (div-add-mod' (place_of i) (width_of (group_of i)))
        ∙ (λ t. same_id t * width_of (same_block.0 t) + same_block.1 t)
        ∙ div-add-mod' (place_of j) (width_of (group_of j))

    same_number : i ≡ j
    same_number = sym (div-add-mod' i (8 * ids)) ∙ (λ t. same_block.0 t * (8 * ids) + same_place t) ∙ div-add-mod' j (8 * ids)

pub each_is_sent_once : EachIsSentOnce
each_is_sent_once s some = record {
  each = λ block k below few. (
    number s.series.count s.encoded.configuration.source_blocks block k below few,
    number_below s.series.count s.encoded.configuration.source_blocks block k below few,
    each_sent s some block k below few,
  );
  once = λ i j here there same. same_number s some i j here there same;
}
