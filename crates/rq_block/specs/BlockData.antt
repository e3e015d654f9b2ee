-- What the encoder of a block is made of, and what it is refused for, from its data.
use Rattle.std.specs.Prelude.{◌≡◌, ◌⊎◌, ℕ, ◌/◌, List, length, map, MatchResult}
use Rattle.std.specs.List.{range_with_len}
use Rattle.rq_bytes.specs.declared.error.Error.{Error}
use Rattle.rq_bytes.specs.declared.error.Error.TheVariants.{Singular, PlanMismatch, OutOfMemory}
use Rattle.rq_standard.specs.declared.row.TableRow.{TableRow}
use Rattle.rq_standard.specs.Configuration.{Configuration}
use Rattle.rq_standard.specs.Cutting.{symbol_of_block}
use Rattle.rq_standard.specs.Headline.{IsSingular}
use Rattle.rq_standard.specs.TableRows.{greatest_size, row_of}
use Rattle.rq_block.specs.SourceBlockEncoder.{BlockEncoded}
use Rattle.rq_block.specs.SourceBlockEncodingPlan.{Plan}
use Rattle.rq_block.specs.RefusedBlocks.{wanted_count}

-- the block of these bytes
abbrev pub block_of : List TableRow → Configuration → ℕ → List ℕ → BlockEncoded
block_of table c number bytes =
    let count = length bytes / c.symbol_size in
    record { number = number; row = row_of table count; size = c.symbol_size; source = map (symbol_of_block c count bytes) (range_with_len 0 count) }

-- the block of these bytes in as many symbols as a plan is for; the bytes may end before the last symbol does
abbrev pub block_by_plan : Plan → Configuration → ℕ → List ℕ → BlockEncoded
block_by_plan plan c number bytes =
    record { number = number; row = plan.row; size = c.symbol_size; source = map (symbol_of_block c plan.count bytes) (range_with_len 0 plan.count) }

-- what its encoder is refused for: first these, and then a singular row
abbrev pub RefusesBlock : List TableRow → Configuration → ℕ → Error → Type 0
RefusesBlock table c bytes e =
    MatchResult (wanted_count (greatest_size table) c bytes)
    (λ count. (e ≡ OutOfMemory) ⊎ ((e ≡ Singular) × IsSingular (row_of table count)))
    (λ wanted. e ≡ wanted)

-- a plan for blocks of `count` source symbols over a table
abbrev pub IsPlanFor : List TableRow → ℕ → Plan → Type 0
IsPlanFor table count plan = (plan.count ≡ count) × (plan.row ≡ row_of table count)

-- what it is refused for with a plan: first these, and then a plan for other blocks
abbrev pub RefusesPlanned : List TableRow → Configuration → ℕ → Plan → Error → Type 0
RefusesPlanned table c bytes plan e =
    MatchResult (wanted_count (greatest_size table) c bytes)
    (λ count. ((e ≡ OutOfMemory) × IsPlanFor table count plan) ⊎ ((e ≡ PlanMismatch) × ¬ IsPlanFor table count plan))
    (λ wanted. e ≡ wanted)
