-- What an encoder reads is an encoding symbol, and packets of a block one after another.
use Rattle.std.proofs.Common.{◌≡◌, ℕ, ◌+◌, ◌-◌, ◌<◌, ◌≤◌, ◌^◌, List, [], ◌∷◌, ◌++◌, All, length, get_or, map, Option, Ok, refl, sym, ap, ◌∙◌, subst, arith, inl, inr}
use Rattle.std.specs.List.{range_with_len}
use Rattle.std.proofs.lemmas.Bool.{cases_lt, lt-ltb}
use Rattle.std.proofs.lemmas.List.{get_or_past, length-replicate, map-append, get_or_default}
use Rattle.std.proofs.lemmas.List.Elements.{All-get_or, All-map}
use Rattle.std.proofs.lemmas.List.FromFn.{get_or-map-range_with_len, length-map-range_with_len, map-range_with_len_more}
use Rattle.rq_algebra.specs.Operations.{meant_at}
use Rattle.rq_bytes.specs.SymbolSlab.{symbol_in}
use Rattle.rq_standard.specs.Packet.{SymbolId, Packet}
use Rattle.rq_base.specs.RefusedInput.{new_id}
use Rattle.rq_base.proofs.Accepted.{same_ok}
use Rattle.rq_standard.specs.declared.row.TableRow.{TableRow}
use Rattle.rq_standard.specs.TableRows.{IsChecked}
use Rattle.rq_standard.specs.Equations.{zero_symbol, tuple_sum}
use Rattle.rq_standard.proofs.Columns.{source_sum}
use Rattle.rq_standard.specs.Cutting.{symbol_of_block}
use Rattle.rq_standard.proofs.StandingSteps.{AllByRecursion-append, length-symbol_of_block}
use Rattle.rq_block.specs.BlockLayout.{cut_by}
use Rattle.rq_block.specs.declared.encoder.borrowed.BorrowedBlock.{BorrowedBlock}
use Rattle.rq_block.specs.declared.encoder.block.SourceBlockEncoder.{SourceBlockEncoder}
use Rattle.rq_block.specs.SourceBlockEncoder.{BlockEncoded, IsBlockPacket, AreBlockPackets}
use Rattle.rq_block.proofs.ReceivedEquations.{internal_below}
use Rattle.rq_standard.specs.Headline.{IsOnlyIntermediateColumn, IsEncodingSymbol}

pub new_id-is : (b e : ℕ) (i : SymbolId) → e < 2 ^ 24 → new_id b e ≡ Ok i → i ≡ record { block = b; esi = e }
new_id-is b e i small h =
    let ok : new_id b e ≡ Ok (record { block = b; esi = e }) = rw (lt-ltb e (2 ^ 24) small) refl in
    same_ok i (record { block = b; esi = e }) (sym h ∙ ok)

-- ---- packets of a block

all_sized : (size : ℕ) (source : List (List ℕ)) → All (λ s. length s ≡ size) source → (e : ℕ) → length (get_or source e (zero_symbol size)) ≡ size
all_sized size source sized e = elim (cases_lt e (length source)) [
  | inl below ↦ All-get_or (λ s. length s ≡ size) source e (zero_symbol size) below sized
  | inr past ↦ ap length (get_or_past source e (zero_symbol size) past) ∙ length-replicate {A = ℕ} size 0
]

-- a source symbol is an encoding symbol
source_encodes : (row : TableRow) (size esi : ℕ) (source : List (List ℕ)) (column : ℕ → List ℕ) (payload : List ℕ) → IsChecked row → IsOnlyIntermediateColumn row size source column → length source ≤ row.extended_symbols → All (λ s. length s ≡ size) source → esi < length source
    → payload ≡ get_or source esi payload → IsEncodingSymbol row size source esi payload
source_encodes row size esi source column payload checked is few sized below read = record {
  column = column;
  is_only = is;
  is_sum = read ∙ get_or_default source esi payload (zero_symbol size) below ∙ sym (source_sum row size esi source column checked is.is (all_sized size source sized) (omega (arith, few))) ∙ ap (tuple_sum row column) (sym (internal_below row (length source) esi below));
}

-- what an encoder reads at a source symbol's place is that id's symbol
pub encodes_source : (b : SourceBlockEncoder) (esi : ℕ) (payload : List ℕ) → esi < length b.source.values → payload ≡ symbol_in b.source esi → IsEncodingSymbol b.row.numbers b.intermediate.symbol_size b.source.values esi payload
encodes_source b esi payload below read =
    source_encodes b.row.numbers b.intermediate.symbol_size esi b.source.values (symbol_in b.intermediate) payload b.row.checked b.solved b.few b.sized below
    (read ∙ ap (λ (o : Option (List ℕ)). get_or b.source.values (meant_at o esi) []) b.unordered ∙ get_or_default b.source.values esi [] payload below)

-- and so is the symbol of a block whose bytes are borrowed
pub encodes_borrowed : (b : BorrowedBlock) (esi : ℕ) (payload : List ℕ) → esi < b.layout.source_symbols → payload ≡ symbol_of_block b.layout.config b.layout.source_symbols b.block.now esi
    → IsEncodingSymbol b.row.numbers b.layout.config.symbol_size (cut_by b.layout b.block.now) esi payload
encodes_borrowed b esi payload below read =
    let c = b.layout.config in
    let k = b.layout.source_symbols in
    let f = symbol_of_block c k b.block.now in
    let many = length-map-range_with_len f 0 k in
    source_encodes b.row.numbers c.symbol_size esi (cut_by b.layout b.block.now) (symbol_in b.intermediate) payload b.row.checked b.solved (omega (arith, many, b.few))
    (All-map (λ s. length s ≡ c.symbol_size) f (range_with_len 0 k) (λ i d inside. length-symbol_of_block c k b.block.now _)) (omega (arith, many))
    (read ∙ sym (get_or-map-range_with_len f 0 k esi esi payload below (omega arith)))

-- no packet yet
pub block_packets-none : (b : BlockEncoded) (start : ℕ) (packets : List Packet) → packets ≡ [] → AreBlockPackets b start (start - start) packets
block_packets-none b start packets none =
    let zero_count : start - start ≡ 0 = omega arith in
    subst (λ ps. AreBlockPackets b start (start - start) ps) (sym none) (subst (λ n. AreBlockPackets b start n []) (sym zero_count) (record { ids = refl; each = tt }))

-- one packet more
pub block_packets-more : (b : BlockEncoded) (start j : ℕ) (packets new : List Packet) (p : Packet) → start ≤ j → AreBlockPackets b start (j - start) packets → p.id ≡ record { block = b.number; esi = j } → IsBlockPacket b p → new ≡ packets ++ p ∷ []
    → AreBlockPackets b start (j + 1 - start) new
block_packets-more b start j packets new p from so named is grown =
    let count : j + 1 - start ≡ j - start + 1 = omega arith in
    let id : ℕ → SymbolId = λ e. record { block = b.number; esi = e } in
    subst (λ ps. AreBlockPackets b start (j + 1 - start) ps) (sym grown) (subst (λ n. AreBlockPackets b start n (packets ++ p ∷ [])) (sym count) (record {
      ids = map-append (λ (q : Packet). q.id) packets (p ∷ []) ∙ ap (λ is. is ++ p.id ∷ []) so.ids ∙ ap (λ i. map id (range_with_len start (j - start)) ++ i ∷ []) named ∙ sym (map-range_with_len_more id start (j - start) j (omega arith));
      each = AllByRecursion-append (IsBlockPacket b) packets (p ∷ []) so.each (is, tt);
    }))
