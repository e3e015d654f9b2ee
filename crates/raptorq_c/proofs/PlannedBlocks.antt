-- The encoder of a block by a plan alone is the block's.
use Rattle.raptorq_c.proofs.Names.{◌≡◌, ℕ, false, List, Result, Ok, Err, sym, ap, ◌∙◌, cond, eqb, ltb, map, length, ◌/◌, ◌%◌, eqb-true, not-false, range_with_len, not, and_then, Error, BlockOverTable, WrongDataLength, PlanMismatch, configuration_of_bytes, Configuration, symbol_of_block, greatest_size, row_of, TableRow, both_ok, ok_of}
use Rattle.raptorq_c.proofs.Names.{passed, checked_symbols, block_by_plan, block_of, AreWholeSymbols, BlockEncoded, plan_refusal, Plan, full_rows, planned_refusal, IsPlanIn, IsBlockEncoderIn}

module _ (header bytes : List ℕ) (plan : Plan) (taken : planned_refusal (configuration_of_bytes header) (length bytes) plan ≡ Ok tt) where
  abbrev c : Configuration
  c = configuration_of_bytes header

  abbrev count : ℕ
  count = length bytes / c.symbol_size

  -- the tests behind those of the configuration
  abbrev many_tests : Result (Unit {0}) Error
  many_tests = cond (not (eqb count plan.count)) (Err PlanMismatch) (Ok tt)

  symbols : (x : Unit {0}) × (checked_symbols c ≡ ok_of x) × (cond (not (eqb (length bytes % c.symbol_size) 0)) (Err WrongDataLength) many_tests ≡ ok_of tt)
  symbols = both_ok (checked_symbols c) _ tt taken

  whole : (not (eqb (length bytes % c.symbol_size) 0) ≡ false) × (many_tests ≡ ok_of tt)
  whole = passed (not (eqb (length bytes % c.symbol_size) 0)) WrongDataLength many_tests tt symbols.2

  as_many : count ≡ plan.count
  as_many = eqb-true count plan.count (not-false (eqb count plan.count) (passed (not (eqb count plan.count)) PlanMismatch (Ok tt) tt whole.1).0)

  whole_symbols : (table : List TableRow) → plan_refusal table plan.count ≡ Ok tt → AreWholeSymbols (greatest_size table) c (length bytes)
  whole_symbols table enough =
      let in_table = ap (ltb (greatest_size table)) as_many ∙ (passed (ltb (greatest_size table) plan.count) BlockOverTable (Ok tt) tt enough).0 in
      let size_tests : Result ℕ Error = cond (ltb (greatest_size table) count) (Err BlockOverTable) (Ok count) in
      ap (λ (r : Result (Unit {0}) Error). and_then r (λ _. cond (not (eqb (length bytes % c.symbol_size) 0)) (Err WrongDataLength) size_tests)) symbols.1
      ∙ ap (λ b. cond b (Err WrongDataLength) size_tests) whole.0 ∙ ap (λ b. cond b (Err BlockOverTable) (ok_of count)) in_table

  same_block : (table : List TableRow) (number : ℕ) → plan.row ≡ row_of table plan.count → block_by_plan plan c number bytes ≡ block_of table c number bytes
  same_block table number row =
      let of : ℕ → TableRow → BlockEncoded = λ n r. record { number = number; row = r; size = c.symbol_size; source = map (symbol_of_block c n bytes) (range_with_len 0 n) } in
      ap (of plan.count) row ∙ ap (λ n. of n (row_of table n)) (sym as_many)

  pub planned_over : (number : ℕ) (b : BlockEncoded) → b ≡ block_by_plan plan c number bytes → IsPlanIn plan.count plan → IsBlockEncoderIn header number bytes b
  planned_over number b is made = record { taken = whole_symbols full_rows made.taken; encoder = is ∙ same_block full_rows number made.row }
