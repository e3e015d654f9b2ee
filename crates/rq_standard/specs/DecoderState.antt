-- What a decoder of an object keeps, what it is before any packet, and what it answers.
use Rattle.std.specs.Prelude.{◌≡◌, ℕ, zero, suc, ◌<◌, ◌≤◌, List, [], ◌++◌, take, Option, Some, None, option_map, if◌then◌else◌, ◌==◌}
use Rattle.rq_standard.specs.declared.row.TableRow.{TableRow}
use Rattle.rq_standard.specs.TableRows.{IsChecked}
use Rattle.rq_standard.specs.Configuration.{Configuration}
use Rattle.rq_standard.specs.Cutting.{block_symbols}
use Rattle.rq_standard.specs.Headline.{block_row}
use Rattle.rq_standard.specs.ReceivedBlock.{ReceivedBlock, nothing_received}

-- what a decoder keeps of each block, and which blocks it has answered
pub record State : Type 0 where
  pub configuration : Configuration
  pub received : ℕ → ReceivedBlock
  pub answer : ℕ → Option (List ℕ)

-- two lists one after the other, where both are there
abbrev pub append_both : Option (List ℕ) → Option (List ℕ) → Option (List ℕ)
append_both None b = None
append_both (Some xs) b = option_map (λ ys. xs ++ ys) b

-- the first n blocks, where each is answered
abbrev pub first_blocks : ℕ → (ℕ → Option (List ℕ)) → Option (List ℕ)
first_blocks zero answer = Some []
first_blocks (suc n) answer = append_both (first_blocks n answer) (answer n)

-- what a decoder answers: the object's bytes, where each block is answered
abbrev pub result_of : State → Option (List ℕ)
result_of s = option_map (take s.configuration.transfer_length) (first_blocks s.configuration.source_blocks s.answer)

-- what was received is of block b of the configuration
pub record IsReceivedOf (table : List TableRow) (c : Configuration) (b : ℕ) (h : ReceivedBlock) : Type 0 where
  pub configuration : h.configuration ≡ c
  pub number : h.number ≡ b
  pub row : h.row ≡ block_row table c b
  pub source_symbols : h.source_symbols ≡ block_symbols c b
  pub checked : IsChecked h.row
  pub fits : h.source_symbols ≤ h.row.extended_symbols

-- what a decoder has received of a block before any packet
abbrev pub new_received : List TableRow → Configuration → ℕ → ReceivedBlock
new_received table c b = nothing_received c b (block_row table c b) (block_symbols c b)

-- a block of no symbols is answered from the start
abbrev pub new_answer : Configuration → ℕ → Option (List ℕ)
new_answer c b = if block_symbols c b == 0 then Some [] else None

-- nothing was received of any block of the configuration
pub record IsNewState (table : List TableRow) (c : Configuration) (s : State) : Type 0 where
  pub configuration : s.configuration ≡ c
  pub received : (b : ℕ) → b < c.source_blocks → s.received b ≡ new_received table c b
  pub answer : (b : ℕ) → b < c.source_blocks → s.answer b ≡ new_answer c b
