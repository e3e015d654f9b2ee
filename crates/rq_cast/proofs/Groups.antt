-- Where the cell of a number stands, in groups of eight blocks.
use Rattle.std.proofs.Common.{◌≡◌, inl, inr, ℕ, ◌+◌, ◌-◌, ◌*◌, ◌/◌, ◌%◌, ◌<◌, ◌≤◌, min, arith, div-add-mod', mul-le-mul_left, mul_comm, zero-mul, ap, ◌∙◌}
use Rattle.std.proofs.lemmas.Bool.{cases_lt}
use Rattle.std.proofs.lemmas.Nat.{div_below, mod_below}

no_less : (n : ℕ) → n ≤ 0 → n ≡ 0
no_less n few = omega (arith, few)

-- some cells of so many ids and blocks, of which this is one
module _ (ids blocks number : ℕ) (below : number < ids * blocks) where
  abbrev group : ℕ
  group = number / (8 * ids)

  abbrev place : ℕ
  place = number % (8 * ids)

  abbrev width : ℕ
  width = min 8 (blocks - 8 * group)

  pub some_ids : 0 < 8 * ids
  some_ids = elim (cases_lt 0 ids) [
    | inl some ↦ omega (arith, some)
    | inr none ↦
        let no_cells : ids * blocks ≡ 0 = ap (λ n. n * blocks) (no_less ids none) ∙ zero-mul blocks in
        absurd (omega (arith, no_cells, below))
  ]

  split : group * (8 * ids) + place ≡ number
  split = div-add-mod' number (8 * ids)

  -- a block of the group is one of the part's
  pub group_within : 8 * group < blocks
  group_within = elim (cases_lt (8 * group) blocks) [
    | inl within ↦ within
    | inr past ↦
        let more : ids * blocks ≤ ids * (8 * group) = mul-le-mul_left ids past in
        let same : ids * (8 * group) ≡ group * (8 * ids) = omega arith in
        absurd (omega (arith, more, same, split, below))
  ]

  pub some_blocks : 0 < width
  some_blocks = omega (arith, group_within)

  -- it stands among the cells of its group
  pub place_within : place < ids * width
  place_within = elim (cases_lt (blocks - 8 * group) 8) [
    | inl few ↦
        let rest : blocks ≡ 8 * group + width = omega (arith, group_within, few) in
        let cells : ids * blocks ≡ ids * (8 * group + width) = ap (λ n. ids * n) rest in
        let parts : ids * (8 * group + width) ≡ group * (8 * ids) + ids * width = omega arith in
        omega (arith, cells, parts, split, below)
    | inr many ↦
        let eight : width ≡ 8 = omega (arith, many) in
        let all : ids * width ≡ 8 * ids = ap (λ n. ids * n) eight ∙ mul_comm ids 8 in
        omega (arith, all, mod_below number (8 * ids) some_ids)
  ]

  pub id_below : place / width < ids
  id_below = div_below place width ids some_blocks place_within

  pub column_below : place % width < width
  column_below = mod_below place width some_blocks

  pub block_below : 8 * group + place % width < blocks
  block_below = omega (arith, group_within, column_below)
