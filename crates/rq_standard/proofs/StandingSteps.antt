-- Blocks of an object, and what was received of them.
use Rattle.std.proofs.Common.{◌≡◌, ℕ, zero, suc, ◌<◌, ◌≤◌, List, [], ◌∷◌, ◌++◌, length, get_or, take, Option, sym, ap, ◌∙◌, subst, arith, inl, inr}
use Rattle.std.specs.Prelude.{IfSome}
use Rattle.std.specs.List.{AllByRecursion}
use Rattle.std.proofs.lemmas.Bool.{cases_lt}
use Rattle.std.proofs.lemmas.List.{get_or_past, length-replicate}
use Rattle.std.proofs.lemmas.List.FromFn.{length-map-range_with_len, get_or-map-range_with_len}
use Rattle.rq_standard.specs.declared.row.TableRow.{TableRow}
use Rattle.rq_standard.specs.TableRows.{IsChecked}
use Rattle.rq_standard.specs.Packet.{Packet}
use Rattle.rq_standard.specs.Configuration.{Configuration}
use Rattle.rq_standard.specs.Cutting.{block_symbols, block_bytes, symbol_of_block, source_symbol}
use Rattle.rq_standard.specs.Equations.{zero_symbol}
use Rattle.rq_standard.specs.Received.{first_payload}
use Rattle.rq_standard.specs.Headline.{IsEncodingSymbol, block_row, block_source, IsPacketOf}
use Rattle.rq_standard.specs.ReceivedBlock.{ReceivedBlock}
use Rattle.rq_standard.specs.DecoderState.{IsReceivedOf}
use Rattle.rq_standard.proofs.OptionValues.{by_option}
use Rattle.rq_standard.proofs.Firsts.{first_payload-packet}

pub AllByRecursion-append : {X : Type 0} (P : X → Type 0) (xs ys : List X) → AllByRecursion P xs → AllByRecursion P ys → AllByRecursion P (xs ++ ys)
AllByRecursion-append P [] ys all more = more
AllByRecursion-append P (x ∷ xs) ys all more = (all.0, AllByRecursion-append P xs ys all.1 more)

pub all_taken : {X : Type 0} (P : X → Type 0) (n : ℕ) (xs : List X) → AllByRecursion P xs → AllByRecursion P (take n xs)
all_taken P zero xs all = tt
all_taken P (suc n) [] all = tt
all_taken P (suc n) (x ∷ xs) all = (all.0, all_taken P n xs all.1)

-- ---- a block of an object

pub length-symbol_of_block : (c : Configuration) (k : ℕ) (block : List ℕ) (e : ℕ) → length (symbol_of_block c k block e) ≡ c.symbol_size
unfolding symbol_of_block
length-symbol_of_block c k block e = length-map-range_with_len _ 0 c.symbol_size

pub length-block_source : (c : Configuration) (object : List ℕ) (b : ℕ) → length (block_source c object b) ≡ block_symbols c b
length-block_source c object b = length-map-range_with_len (source_symbol c object b) 0 (block_symbols c b)

pub source_at : (c : Configuration) (object : List ℕ) (b e : ℕ) → e < block_symbols c b → get_or (block_source c object b) e (zero_symbol c.symbol_size) ≡ source_symbol c object b e
source_at c object b e below = get_or-map-range_with_len (source_symbol c object b) 0 (block_symbols c b) e e (zero_symbol c.symbol_size) below (omega arith)

pub source_sized : (c : Configuration) (object : List ℕ) (b e : ℕ) → length (get_or (block_source c object b) e (zero_symbol c.symbol_size)) ≡ c.symbol_size
source_sized c object b e = elim (cases_lt e (block_symbols c b)) [
  | inl lt ↦ ap length (source_at c object b e lt) ∙ length-symbol_of_block c (block_symbols c b) (block_bytes c object b) e
  | inr past ↦ ap length (get_or_past (block_source c object b) e (zero_symbol c.symbol_size) (omega (arith, length-block_source c object b))) ∙ length-replicate {A = ℕ} c.symbol_size 0
]

-- ---- what was received of it

-- a block over a row of a table that has room for it
pub record HasRow (row : TableRow) (k : ℕ) : Type 0 where
  pub checked : IsChecked row
  pub fits : k ≤ row.extended_symbols

pub row_of_shape : (table : List TableRow) (c : Configuration) (b : ℕ) (h : ReceivedBlock) → IsReceivedOf table c b h → HasRow (block_row table c b) (block_symbols c b)
row_of_shape table c b h shape = record {
  checked = subst IsChecked shape.row shape.checked;
  fits = subst (λ (r : TableRow). block_symbols c b ≤ r.extended_symbols) shape.row (subst (λ n. n ≤ h.row.extended_symbols) shape.source_symbols shape.fits);
}

module _ (table : List TableRow) (c : Configuration) (object : List ℕ) (packets : List Packet) (b : ℕ) (received : ℕ → Option (List ℕ)) where
  -- each payload that counts is an encoding symbol of the block
  pub received_symbol : AllByRecursion (IsPacketOf table c object) packets → ((e : ℕ) → received e ≡ first_payload b packets e) → (e : ℕ) → IfSome (received e) (λ payload. IsEncodingSymbol (block_row table c b) c.symbol_size (block_source c object b) e payload)
  received_symbol honest reads e = by_option (received e) (IsEncodingSymbol (block_row table c b) c.symbol_size (block_source c object b) e) (λ x is.
      let q = first_payload-packet (IsPacketOf table c object) packets b e x honest (sym (reads e) ∙ is) in
      subst (λ n. IsEncodingSymbol (block_row table c b) c.symbol_size (block_source c object b) e n) q.4
      (subst (λ n. IsEncodingSymbol (block_row table c b) c.symbol_size (block_source c object b) n q.0.payload) q.3
      (subst (λ n. IsEncodingSymbol (block_row table c n) c.symbol_size (block_source c object n) q.0.id.esi q.0.payload) q.2 q.1.symbol)))
