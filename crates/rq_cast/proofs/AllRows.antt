-- What is sent over the built-in rows is sent over all.
use Rattle.std.proofs.Common.{◌≡◌, inl, inr, ℕ, ◌<◌, ◌≤◌, List, [], ◌∷◌, ◌++◌, length, Ok, Bool, true, leb, refl, sym, ap, subst, ◌∙◌, arith}
use Rattle.std.specs.Prelude.{nat_le, if◌then◌else◌, ◌==◌, nat_lt}
use Rattle.std.proofs.lemmas.Bool.{le-leb, leb-true}
use Rattle.rq_bytes.specs.declared.error.Error.TheVariants.{PacketSizeZero, TransferLengthZero, TransferTooLong, MemoryRequirementTooSmall, TooManyBlocks}
use Rattle.rq_standard.specs.declared.row.TableRow.{TableRow}
use Rattle.rq_standard.specs.TableRows.{IsTable, built_in_rows, rows_from, greatest_size, row_of, no_row}
use Rattle.rq_standard.specs.Configuration.{Configuration}
use Rattle.rq_standard.specs.Cutting.{block_symbols}
use Rattle.rq_standard.specs.Headline.{IsNonsingular, block_row, block_source}
use Rattle.rq_standard.specs.Parameters.{symbol_size_for, fitting_block, most_sub_blocks, blocks_for, parameters_for}
use Rattle.rq_standard.proofs.BlockCuts.{block_symbols_few}
use Rattle.rq_standard.proofs.RowLaws.{built_in_table, table_length}
use Rattle.rq_base.proofs.Accepted.{passed, same_ok}
use Rattle.rq_base.specs.RefusedInput.{greatest_transfer_length}
use Rattle.rq_rows.specs.declared.further_rows.TheConstants.{FURTHER_ROWS}
use Rattle.rq_rows.specs.FullTable.{full_rows}
use Rattle.rq_rows.proofs.AllPass.{pass, greatest, full_table}
use Rattle.rq_streams.specs.Sent.{default_parameters}
use Rattle.rq_cast.specs.Preparing.{IsFitting}
use Rattle.rq_cast.specs.Sent.{Sending, IsSendingOf}

-- a block that has a row has it also where more rows follow
row_of-more : (rows more : List TableRow) (k : ℕ) → k ≤ greatest_size rows → 0 < length rows → row_of (rows ++ more) k ≡ row_of rows k
unfolding greatest_size row_of
row_of-more [] more k few some = absurd (omega (arith, some))
row_of-more (row ∷ []) more k few some =
    let here = le-leb k row.extended_symbols few in
    ap (λ (b : Bool). if b then row else row_of more k) here ∙ sym (ap (λ (b : Bool). if b then row else no_row) here)
row_of-more (row ∷ next ∷ rest) more k few some =
    ap (λ (r : TableRow). if nat_le k row.extended_symbols then row else r) (row_of-more (next ∷ rest) more k few (omega arith))

module _ (rows more : List TableRow) (some : 0 < length rows) (grows : greatest_size rows ≤ greatest_size (rows ++ more)) (checked : IsTable (rows ++ more))
    (is_last : Bool) (names : List (List ℕ)) (object : List ℕ) (s : Sending) (is : IsSendingOf rows is_last names object s) where
  abbrev c : Configuration
  c = s.encoded.configuration

  row_same : (b : ℕ) → b < c.source_blocks → block_row rows c b ≡ block_row (rows ++ more) c b
  row_same b below =
      let few : block_symbols c b ≤ greatest_size rows = omega (arith, block_symbols_few c b below, is.accepted.in_table) in
      sym (row_of-more rows more (block_symbols c b) few some)

  pub over_more : IsSendingOf (rows ++ more) is_last names object s
  over_more = record {
    few = is.few;
    checked = checked;
    configuration = is.configuration;
    accepted = record {
      size_positive = is.accepted.size_positive;
      alignment_positive = is.accepted.alignment_positive;
      aligned = is.accepted.aligned;
      blocks_positive = is.accepted.blocks_positive;
      in_table = omega (arith, is.accepted.in_table, grows);
    };
    nonsingular = λ b below. subst IsNonsingular (row_same b below) (is.nonsingular b below);
    encoder = record {
      long = is.encoder.long;
      block = λ b below. is.encoder.block b below
          ∙ (λ j. record { number = b; row = row_same b below j; size = c.symbol_size; source = block_source c object b });
    };
    head = is.head;
  }

built_in_few : leb (greatest_size built_in_rows) 56403 ≡ true
unfolding greatest_size built_in_rows rows_from
built_in_few = refl

over_full : (is_last : Bool) (names : List (List ℕ)) (object : List ℕ) (s : Sending) → IsSendingOf built_in_rows is_last names object s
    → IsSendingOf full_rows is_last names object s
unfolding full_rows
over_full is_last names object s is =
    let few : greatest_size built_in_rows ≤ 56403 = leb-true (greatest_size built_in_rows) 56403 built_in_few in
    over_more built_in_rows (rows_from 74 FURTHER_ROWS) (omega (arith, table_length built_in_rows built_in_table)) (omega (arith, few, greatest)) full_table
    is_last names object s is

-- what is sent over rows that fit it
pub over_all : (n size : ℕ) (table : List TableRow) (c : Configuration) (is_last : Bool) (names : List (List ℕ)) (object : List ℕ) (s : Sending)
    → IsFitting n size table c → IsSendingOf table is_last names object s → IsSendingOf full_rows is_last names object s
over_all n size table c is_last names object s (inl built_in) is =
    over_full is_last names object s (subst (λ t. IsSendingOf t is_last names object s) built_in.0 is)
over_all n size table c is_last names object s (inr all) is =
    subst (λ t. IsSendingOf t is_last names object s) (same_ok table full_rows (sym all.1 ∙ pass)) is

-- ---- the size of symbols

-- it is the same for objects of all lengths
size_by : (table : List TableRow) (n size : ℕ) (c : Configuration) → default_parameters table n size ≡ Ok c → c.symbol_size ≡ symbol_size_for size
size_by table n size c is =
    let memory : ℕ = 10485760 in
    let first = passed (size == 0) PacketSizeZero _ _ is in
    let second = passed (n == 0) TransferLengthZero _ _ first.1 in
    let third = passed (nat_lt greatest_transfer_length n) TransferTooLong _ _ second.1 in
    let fourth = passed (fitting_block table size memory (most_sub_blocks size) == 0) MemoryRequirementTooSmall _ _ third.1 in
    let fifth = passed (nat_lt 255 (blocks_for table n size memory)) TooManyBlocks _ _ fourth.1 in
    ap (λ (k : Configuration). k.symbol_size) (sym (same_ok (parameters_for table n size memory) c fifth.1))

pub size_fitting : (n size : ℕ) (table : List TableRow) (c : Configuration) → IsFitting n size table c → c.symbol_size ≡ symbol_size_for size
size_fitting n size table c (inl built_in) = size_by table n size c built_in.1
size_fitting n size table c (inr all) = size_by table n size c all.2
