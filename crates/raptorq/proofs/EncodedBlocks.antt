-- The encoders of an object's blocks.
use Rattle.std.proofs.Common.{◌≡◌, ℕ, ◌+◌, ◌*◌, ◌^◌, ◌<◌, ◌≤◌, min, List, [], ◌∷◌, ◌++◌, length, take, drop, get_or, map, Ok, Err, refl, sym, ap, ◌∙◌, subst, arith, ◌⊎◌, inl, inr, eq-eqb}
use Rattle.std.specs.List.{range_with_len, flat_map, AllByRecursion}
use Rattle.std.proofs.lemmas.Bool.{cases_lt, lt-ltb}
use Rattle.std.proofs.lemmas.List.{ext_get_or, get_or-map, get_or-take, get_or-drop, get_or_past, length-take, take_min, drop_min, drop-drop, map-append, get_or_default}
use Rattle.std.proofs.lemmas.List.FromFn.{length-map-range_with_len, get_or-map-range_with_len}
use Rattle.rq_bytes.specs.declared.error.Error.{Error}
use Rattle.rq_bytes.specs.declared.error.Error.TheVariants.{EsiTooLarge, OutOfMemory, Singular}
use Rattle.rq_bytes.specs.Refusals.{IsRefusal}
use Rattle.rq_standard.specs.Packet.{SymbolId, Packet}
use Rattle.rq_standard.specs.Configuration.{Configuration, IsAccepted}
use Rattle.rq_standard.specs.Cutting.{block_symbols, symbols_before, place_in_block, block_bytes, symbol_of_block}
use Rattle.rq_standard.specs.declared.row.TableRow.{TableRow}
use Rattle.rq_standard.specs.TableRows.{greatest_size, row_of}
use Rattle.rq_standard.specs.Headline.{IsEncodingSymbol, IsSingular, block_row, block_source, IsPacketOf, HasNonsingularRows}
use Rattle.rq_standard.specs.ObjectPackets.{first_ids, AreEncoded}
use Rattle.rq_standard.proofs.PlainCut.{length-block_bytes}
use Rattle.rq_standard.proofs.StandingSteps.{length-block_source, AllByRecursion-append}
use Rattle.rq_standard.proofs.BlockCuts.{block_symbols_few, symbols_before-first, symbols_before-next}
use Rattle.rq_block.specs.SourceBlockEncodingPlan.{RefusesPlan}
use Rattle.raptorq.specs.BlockBytes.{bytes_of_block}
use Rattle.raptorq.specs.BlockCutting.{from_block}
use Rattle.raptorq.specs.Encoder.{Encoded, IsEncoderOf, IsPacketIn, no_block, packets_refusal, id_in}
use Rattle.raptorq.specs.BlocksEncoded.{new_block_encoded}
use Rattle.rq_block.proofs.Numbered.{mapped_through}
use Rattle.rq_block.proofs.PlanLaws.{plan_refused}
use Rattle.rq_block.proofs.NumberRanges.{flat_map-push}
use Rattle.rq_block.specs.declared.encoder.block.SourceBlockEncoder.{SourceBlockEncoder}
use Rattle.rq_base.specs.RefusedInput.{checked_configuration, new_id}
use Rattle.rq_base.proofs.Accepted.{ok_of}
use Rattle.raptorq.specs.Refused.{new_encoder, RefusesEncoder}
use Rattle.rq_block.specs.SourceBlockEncoder.{BlockEncoded, block_encoded_of, IsBlockPacket, AreBlockPackets}

-- ---- the bytes of a block

pub from_first : (c : Configuration) (object : List ℕ) → object ≡ from_block c object 0
from_first c object =
    let none : symbols_before c 0 * c.symbol_size ≡ 0 = ap (λ n. n * c.symbol_size) (symbols_before-first c) ∙ omega arith in
    sym (ap (λ n. drop n object) none)

module _ (c : Configuration) (object rest : List ℕ) (b whole : ℕ) (is : rest ≡ from_block c object b) (many : whole ≡ block_symbols c b * c.symbol_size) where
  -- the block's bytes come first
  pub block_front : (bytes : List ℕ) → bytes ≡ take (min whole (length rest)) rest → bytes ≡ bytes_of_block c object b
  block_front bytes front = front ∙ take_min whole rest ∙ ap (λ n. take n rest) many ∙ ap (take (block_symbols c b * c.symbol_size)) is

  -- and the next block comes behind them
  pub block_behind : (behind : List ℕ) → b < c.source_blocks → behind ≡ drop (min whole (length rest)) rest → behind ≡ from_block c object (b + 1)
  block_behind behind below back =
      let both : symbols_before c b * c.symbol_size + block_symbols c b * c.symbol_size ≡ symbols_before c (b + 1) * c.symbol_size = omega arith ∙ ap (λ n. n * c.symbol_size) (sym (symbols_before-next c b below)) in
      back ∙ drop_min whole rest ∙ ap (λ n. drop n rest) many ∙ ap (drop (block_symbols c b * c.symbol_size)) is ∙ drop-drop (block_symbols c b * c.symbol_size) (symbols_before c b * c.symbol_size) object
      ∙ ap (λ n. drop n object) both

pub bytes_of_block-byte : (c : Configuration) (object : List ℕ) (b i : ℕ) → get_or (bytes_of_block c object b) i 0 ≡ get_or (block_bytes c object b) i 0
unfolding block_bytes
bytes_of_block-byte c object b i =
    let whole = block_symbols c b * c.symbol_size in
    let start = symbols_before c b * c.symbol_size in
    elim (cases_lt i whole) [
      | inl lt ↦ get_or-take whole (drop start object) i 0 lt ∙ get_or-drop start object i 0 ∙ sym (get_or-map-range_with_len (λ n. get_or object (start + n) 0) 0 whole i i 0 lt (omega arith))
      | inr past ↦ get_or_past (take whole (drop start object)) i 0 (omega (arith, past, length-take whole (drop start object))) ∙ sym (get_or_past (block_bytes c object b) i 0 (omega (arith, past, length-block_bytes c object b)))
    ]

same_symbol : (c : Configuration) (k : ℕ) (xs ys : List ℕ) (e : ℕ) → ((i : ℕ) → get_or xs i 0 ≡ get_or ys i 0) → symbol_of_block c k xs e ≡ symbol_of_block c k ys e
unfolding symbol_of_block
same_symbol c k xs ys e same = λ j. map (λ t. same (place_in_block c k e t) j) (range_with_len 0 c.symbol_size)

-- they give its source symbols
pub source_is : (c : Configuration) (object bytes : List ℕ) (b k : ℕ) (source : List (List ℕ)) → k ≡ block_symbols c b → bytes ≡ bytes_of_block c object b → source ≡ map (symbol_of_block c k bytes) (range_with_len 0 k) → source ≡ block_source c object b
source_is c object bytes b k source count is so =
    so ∙ ap (λ xs. map (symbol_of_block c k xs) (range_with_len 0 k)) is ∙ ap (λ n. map (symbol_of_block c n (bytes_of_block c object b)) (range_with_len 0 n)) count
    ∙ (λ j. map (λ e. same_symbol c (block_symbols c b) (bytes_of_block c object b) (block_bytes c object b) e (bytes_of_block-byte c object b) j) (range_with_len 0 (block_symbols c b)))

-- ---- packets

-- a packet of a block is one of the object's
module _ (table : List TableRow) (c : Configuration) (object : List ℕ) (b : ℕ) (below : b < c.source_blocks) where
  packet_of_block : (p : Packet) → IsBlockPacket (new_block_encoded table c object b) p → IsPacketOf table c object p
  packet_of_block p is = record {
    block = subst (λ n. n < c.source_blocks) (sym is.number) below;
    esi = is.esi;
    symbol = subst (λ n. IsEncodingSymbol (block_row table c n) c.symbol_size (block_source c object n) p.id.esi p.payload) (sym is.number) is.symbol;
  }

  pub packets_of_block : (packets : List Packet) → AllByRecursion (IsBlockPacket (new_block_encoded table c object b)) packets → AllByRecursion (IsPacketOf table c object) packets
  packets_of_block [] all = tt
  packets_of_block (p ∷ packets) all = (packet_of_block p all.0, packets_of_block packets all.1)

-- and so it is one of the object whose encoder it is
pub packet_in : (e : Encoded) (n : ℕ) (b : BlockEncoded) (p : Packet) → n < e.configuration.source_blocks → b ≡ e.block n → IsBlockPacket b p → IsPacketIn e p
packet_in e n b p below is packet = λ table object made. packet_of_block table e.configuration object n below p (subst (λ k. IsBlockPacket k p) (is ∙ made.block n below) packet)

-- the ids of the packets of the first n blocks
abbrev pub ids_before : Configuration → ℕ → ℕ → List SymbolId
ids_before c repair n = flat_map (λ b. first_ids (block_symbols c b + repair) b) (range_with_len 0 n)

pub ids_next : (c : Configuration) (repair n : ℕ) → ids_before c repair (n + 1) ≡ ids_before c repair n ++ first_ids (block_symbols c n + repair) n
ids_next c repair n = flat_map-push (λ b. first_ids (block_symbols c b + repair) b) n

-- the packets of the first n blocks
pub record AreEncodedSoFar (c : Configuration) (repair n : ℕ) (e : Encoded) (packets : List Packet) : Type 0 where
  pub ids : map (λ p. p.id) packets ≡ ids_before c repair n
  pub each : (table : List TableRow) (object : List ℕ) → IsEncoderOf table object e → AllByRecursion (IsPacketOf table c object) packets

-- those of one block more
pub encoded_more : (e : Encoded) (repair n end : ℕ) (b : BlockEncoded) (done more new : List Packet) → n < e.configuration.source_blocks → b ≡ e.block n → b.number ≡ n → length b.source ≡ block_symbols e.configuration n → end ≡ length b.source + repair
    → AreEncodedSoFar e.configuration repair n e done → AreBlockPackets b 0 end more → new ≡ done ++ more → AreEncodedSoFar e.configuration repair (n + 1) e new
encoded_more e repair n end b done more new below is number count so_many so are grown =
    let c = e.configuration in
    subst (AreEncodedSoFar c repair (n + 1) e) (sym grown) (record {
      ids = map-append (λ (p : Packet). p.id) done more ∙ ap (λ l. l ++ map (λ p. p.id) more) so.ids
          ∙ ap (λ l. ids_before c repair n ++ l) (are.ids ∙ ap (λ k. first_ids end k) number ∙ ap (λ m. first_ids m n) (so_many ∙ ap (λ m. m + repair) count)) ∙ sym (ids_next c repair n);
      each = λ table object made. AllByRecursion-append (IsPacketOf table c object) done more (so.each table object made)
          (packets_of_block table c object n below more (subst (λ k. AllByRecursion (IsBlockPacket k) more) (is ∙ made.block n below) are.each));
    })

-- those of all blocks
pub encoded_all : (e : Encoded) (repair n : ℕ) (packets : List Packet) → n ≡ e.configuration.source_blocks → AreEncodedSoFar e.configuration repair n e packets → (table : List TableRow) (object : List ℕ) → IsEncoderOf table object e → AreEncoded table e.configuration object repair packets
encoded_all e repair n packets all so table object made = record {
  ids = so.ids ∙ ap (ids_before e.configuration repair) all;
  each = so.each table object made;
}

-- ---- what an encoder is made of

abbrev pub encoder_number : SourceBlockEncoder → ℕ
encoder_number b = (block_encoded_of b).number

abbrev pub source_count : SourceBlockEncoder → ℕ
source_count b = length (block_encoded_of b).source

module _ (table : List TableRow) (c : Configuration) (object : List ℕ) (items : List SourceBlockEncoder) (encoded : map block_encoded_of items ≡ map (new_block_encoded table c object) (range_with_len 0 c.source_blocks)) where
  pub new_counts : map source_count items ≡ map (block_symbols c) (range_with_len 0 c.source_blocks)
  new_counts = mapped_through (λ b. length b.source) block_encoded_of (new_block_encoded table c object) items (range_with_len 0 c.source_blocks) encoded ∙ (λ i. map (λ b. length-block_source c object b i) (range_with_len 0 c.source_blocks))

  pub new_block : (b : ℕ) → b < c.source_blocks → (d : BlockEncoded) → get_or (map block_encoded_of items) b d ≡ new_block_encoded table c object b
  new_block b below d = ap (λ l. get_or l b d) encoded ∙ get_or-map-range_with_len (new_block_encoded table c object) 0 c.source_blocks b b d below (omega arith)

-- what the encoder of a block shows
pub encoded_is : (table : List TableRow) (c : Configuration) (object bytes : List ℕ) (b k : ℕ) (e : BlockEncoded) (row : TableRow) → e ≡ record { number = b; row = row; size = c.symbol_size; source = map (symbol_of_block c k bytes) (range_with_len 0 k) }
    → row ≡ block_row table c b → k ≡ block_symbols c b → bytes ≡ bytes_of_block c object b → e ≡ new_block_encoded table c object b
encoded_is table c object bytes b k e row is rows count bytes_are = is ∙ (λ i. record { number = b; row = rows i; size = c.symbol_size; source = source_is c object bytes b k _ count bytes_are refl i })

-- ---- refusals

pub new_encoder-taken : (greatest : ℕ) (c : Configuration) (n : ℕ) → checked_configuration greatest c ≡ Ok tt → n ≡ c.transfer_length → new_encoder greatest c n ≡ Ok tt
new_encoder-taken greatest c n checked long = rw (checked, eq-eqb n c.transfer_length long) refl

-- what a plan of a block's size is refused for
pub refuses_block_plan : (table : List TableRow) (c : Configuration) (b count : ℕ) (e : Error) → IsAccepted (greatest_size table) c → b < c.source_blocks → count ≡ block_symbols c b → RefusesPlan table count e → (e ≡ OutOfMemory) ⊎ ((e ≡ Singular) × ¬ (HasNonsingularRows table c))
refuses_block_plan table c b count e accepted below is refused = elim (plan_refused table count e (omega (arith, is, block_symbols_few c b below, accepted.in_table)) refused) [
  | inl memory ↦ inl memory
  | inr singular ↦ inr (singular.0, λ all. subst (λ k. IsSingular (row_of table k)) is singular.1 (all b below))
]

-- what it is refused for
pub refuses_singular : (table : List TableRow) (c : Configuration) (n : ℕ) (e : Error) → new_encoder (greatest_size table) c n ≡ Ok tt → (e ≡ OutOfMemory) ⊎ ((e ≡ Singular) × ¬ (HasNonsingularRows table c)) → RefusesEncoder table c n e
refuses_singular table c n e taken (inl memory) = inl (subst (IsRefusal e) (sym taken) memory)
refuses_singular table c n e taken (inr singular) = inr (taken, singular.0, singular.1)

-- ---- the encoders in a list

pub block_at : (c : Configuration) (items : List SourceBlockEncoder) (i : ℕ) (x : SourceBlockEncoder) → i < length items → x ≡ get_or items i x → block_encoded_of x ≡ get_or (map block_encoded_of items) i (no_block i c.symbol_size)
block_at c items i x below is = ap block_encoded_of is ∙ sym (get_or-map block_encoded_of items i x (no_block i c.symbol_size) below)

-- a list by its places
pub by_places : {X : Type 0} (xs : List X) (d : ℕ → X) (n : ℕ) → length xs ≡ n → xs ≡ map (λ i. get_or xs i (d i)) (range_with_len 0 n)
by_places xs d n long = ext_get_or (d 0) xs (map (λ i. get_or xs i (d i)) (range_with_len 0 n)) (long ∙ sym (length-map-range_with_len (λ i. get_or xs i (d i)) 0 n))
    (λ i below. get_or_default xs i (d 0) (d i) below ∙ sym (get_or-map-range_with_len (λ j. get_or xs j (d j)) 0 n i i (d 0) (omega (arith, long)) (omega arith)))

-- where packets have ids, there are enough
pub enough_ids : (c : Configuration) (repair : ℕ) → packets_refusal c repair ≡ Ok tt → block_symbols c 0 + repair ≤ 2 ^ 24
enough_ids c repair enough = elim (cases_lt (2 ^ 24) (block_symbols c 0 + repair)) [
  | inl over ↦
      let refused : packets_refusal c repair ≡ Err EsiTooLarge = rw (lt-ltb (2 ^ 24) (block_symbols c 0 + repair) over) refl in
      absurd (cc (refused, enough))
  | inr few ↦ few
]

-- ---- the id that was asked for

-- where the object has its block, it is the id of the block's packet
pub new_id-in : (c : Configuration) (n e : ℕ) (i : SymbolId) → i.block < c.source_blocks → e < 2 ^ 24 → n ≡ i.block → e ≡ i.esi → new_id n e ≡ id_in c i
new_id-in c n e i below small number esi =
    let new : new_id n e ≡ ok_of {X = SymbolId} (record { block = n; esi = e }) = rw (lt-ltb e (2 ^ 24) small) refl in
    let known : id_in c i ≡ ok_of i = rw (lt-ltb i.block c.source_blocks below) refl in
    new ∙ (λ j. ok_of {X = SymbolId} (record { block = number j; esi = esi j })) ∙ sym known
