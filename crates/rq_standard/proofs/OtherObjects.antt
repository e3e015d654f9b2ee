-- Two objects that make the same packets differ by one whose symbols for these packets are zero.
use Rattle.std.proofs.Common.{◌≡◌, ◌≢◌, ℕ, ◌+◌, ◌*◌, ◌<◌, ◌≤◌, cond, eqb, Bool, true, false, List, [], ◌∷◌, length, get_or, Option, Some, None, refl, sym, ap, ◌∙◌, subst, arith, inl, inr}
use Rattle.std.specs.Prelude.{is_some, IsSome, ◌&&◌}
use Rattle.std.specs.List.{AllByRecursion}
use Rattle.std.proofs.lemmas.Bool.{cases_lt, eqb-true, eq-eqb}
use Rattle.std.proofs.lemmas.List.{ext_get_or, get_or_past}
use Rattle.rq_algebra.specs.Systems.{IsColumn}
use Rattle.rq_algebra.specs.Symbols.{add_symbols}
use Rattle.rq_algebra.proofs.Placewise.{at-zeros, add_symbols_at}
use Rattle.rq_algebra.proofs.Sums.{add_twice, mul_zero, dot_zero}
use Rattle.rq_algebra.proofs.SymbolSums.{add_symbols_comm, add_zeros, length-add_symbols}
use Rattle.rq_standard.specs.declared.row.TableRow.{TableRow}
use Rattle.rq_standard.specs.OctetField.{octets}
use Rattle.rq_standard.specs.TableRows.{intermediate_symbols, greatest_size}
use Rattle.rq_standard.specs.Packet.{Packet}
use Rattle.rq_standard.specs.Configuration.{Configuration, IsAligned}
use Rattle.rq_standard.specs.Cutting.{block_symbols, symbols_before, sub_block_size, place_in_block, block_bytes, symbol_of_block}
use Rattle.rq_standard.specs.Equations.{zero_symbol, symbol_coefficient, internal_id}
use Rattle.rq_standard.specs.Received.{or_later, payload_for, first_payload, has_id}
use Rattle.rq_standard.specs.Headline.{IsNonsingular, IsEncodingSymbol, SolvesZeros, known_ids, block_row, block_source, IsPacketOf, HasNonsingularRows, IsAnswerable, IsHonestRun, IsOnlyObject}
use Rattle.rq_standard.specs.ReceivedBlock.{has_received}
use Rattle.rq_standard.specs.DecoderState.{State, result_of}
use Rattle.rq_standard.specs.Following.{FollowsBlock}
use Rattle.rq_standard.specs.Standing.{AnswersOnlyObject}
use Rattle.rq_standard.specs.StepLaws.{ResultIsObject, DifferencesFit}
use Rattle.rq_standard.specs.Differences.{xor_bytes, HasNonsingularBlocks, IsDifference, plain_sum}
use Rattle.rq_standard.proofs.BlockCuts.{block_byte}
use Rattle.rq_standard.proofs.Columns.{sum_symbol}
use Rattle.rq_standard.proofs.DifferenceColumns.{length-zero, add_zero_symbols, encoding-add, known_are_zeros, zeros_solve, zeros_are_octets, zeros_encode, no_change_is_zero, some_change}
use Rattle.rq_standard.proofs.FirstOctets.{first_octet_symbol, first_octets_object, zero_octets, length-first_octets_object, block_of_first_octets, symbol_of_object, object_at_first, first_is_before_end}
use Rattle.rq_standard.proofs.Interleaved.{get_or-symbol_of_block}
use Rattle.rq_standard.proofs.HonestBlocks.{aligned_of}
use Rattle.rq_standard.proofs.ObjectAnswers.{answers_object, answers_nothing_else}
use Rattle.rq_standard.proofs.OneObject.{one_object}
use Rattle.rq_standard.proofs.PlainCut.{length-block_bytes}
use Rattle.rq_standard.proofs.StandingSteps.{HasRow, row_of_shape, length-symbol_of_block, length-block_source, source_at}

-- bytes of an object whose symbols with these ids, of each block, are zero
pub record EncodesToZeros (table : List TableRow) (c : Configuration) (has : ℕ → ℕ → Bool) (bytes : List ℕ) : Type 0 where
  pub long : length bytes ≡ c.transfer_length
  pub zeros : (b e : ℕ) → b < c.source_blocks → has b e ≡ true → IsEncodingSymbol (block_row table c b) c.symbol_size (block_source c bytes b) e (zero_symbol c.symbol_size)

-- ---- the xor of two objects

module _ (c : Configuration) (x y : List ℕ) (b : ℕ) where
  -- byte by byte of a block
  byte-xor : (i : ℕ) → get_or (block_bytes c (xor_bytes x y) b) i 0 ≡ octets.add (get_or (block_bytes c x b) i 0) (get_or (block_bytes c y b) i 0)
  byte-xor i =
      let at_place = symbols_before c b * c.symbol_size + i in
      elim (cases_lt i (block_symbols c b * c.symbol_size)) [
        | inl lt ↦ block_byte c (xor_bytes x y) b i lt ∙ add_symbols_at octets at_place x y ∙ cc (block_byte c x b i lt, block_byte c y b i lt)
        | inr past ↦ past_end (xor_bytes x y) i past ∙ sym (octets.add_self 0) ∙ cc (past_end x i past, past_end y i past)
      ] where
        past_end : (object : List ℕ) (i : ℕ) → block_symbols c b * c.symbol_size ≤ i → get_or (block_bytes c object b) i 0 ≡ 0
        past_end object i past = get_or_past (block_bytes c object b) i 0 (omega (arith, length-block_bytes c object b))

  symbol-xor : (e : ℕ) → symbol_of_block c (block_symbols c b) (block_bytes c (xor_bytes x y) b) e ≡ add_symbols octets (symbol_of_block c (block_symbols c b) (block_bytes c x b) e) (symbol_of_block c (block_symbols c b) (block_bytes c y b) e)
  symbol-xor e =
      let k = block_symbols c b in
      let size = c.symbol_size in
      let sx = symbol_of_block c k (block_bytes c x b) e in
      let sy = symbol_of_block c k (block_bytes c y b) e in
      let long = length-symbol_of_block c k (block_bytes c (xor_bytes x y) b) e in
      ext_get_or 0 (symbol_of_block c k (block_bytes c (xor_bytes x y) b) e) (add_symbols octets sx sy)
      (long ∙ sym (length-add_symbols octets 0 size sx sy (length-symbol_of_block c k (block_bytes c x b) e) (length-symbol_of_block c k (block_bytes c y b) e)))
      (λ t lt. let below : t < size = omega (arith, long) in
      get_or-symbol_of_block c k (block_bytes c (xor_bytes x y) b) e t below ∙ byte-xor (place_in_block c k e t) ∙ cc (get_or-symbol_of_block c k (block_bytes c x b) e t below, get_or-symbol_of_block c k (block_bytes c y b) e t below) ∙ sym (add_symbols_at octets t sx sy))

  pub source-xor : (i : ℕ) → get_or (block_source c (xor_bytes x y) b) i (zero_symbol c.symbol_size) ≡ add_symbols octets (get_or (block_source c x b) i (zero_symbol c.symbol_size)) (get_or (block_source c y b) i (zero_symbol c.symbol_size))
  source-xor i = elim (cases_lt i (block_symbols c b)) [
    | inl lt ↦ source_at c (xor_bytes x y) b i lt ∙ symbol-xor i ∙ sym (ap (λ s. add_symbols octets s (get_or (block_source c y b) i (zero_symbol c.symbol_size))) (source_at c x b i lt) ∙ ap (add_symbols octets (symbol_of_block c (block_symbols c b) (block_bytes c x b) i)) (source_at c y b i lt))
    | inr past ↦ none (xor_bytes x y) i past ∙ sym (add_zero_symbols c.symbol_size) ∙ sym (ap (λ s. add_symbols octets s (get_or (block_source c y b) i (zero_symbol c.symbol_size))) (none x i past) ∙ ap (add_symbols octets (zero_symbol c.symbol_size)) (none y i past))
  ] where
    none : (object : List ℕ) (i : ℕ) → block_symbols c b ≤ i → get_or (block_source c object b) i (zero_symbol c.symbol_size) ≡ zero_symbol c.symbol_size
    none object i past = get_or_past (block_source c object b) i (zero_symbol c.symbol_size) (omega (arith, length-block_source c object b))

-- ---- packets of both

-- each packet of a list has an id that was received
pub all_came : (packets : List Packet) → AllByRecursion (λ (p : Packet). has_id p.id.block packets p.id.esi ≡ true) packets
all_came [] = tt
all_came (p ∷ packets) = (here (first_payload p.id.block packets p.id.esi), later packets (all_came packets)) where
  here : (o : Option (List ℕ)) → is_some (or_later (payload_for p.id.block p p.id.esi) o) ≡ true
  here o = ap (λ t. is_some (or_later (cond (t && eqb p.id.esi p.id.esi) (Some p.payload) None) o)) (eq-eqb p.id.block p.id.block refl) ∙ ap (λ t. is_some (or_later (cond t (Some p.payload) None) o)) (eq-eqb p.id.esi p.id.esi refl)

  stays : (a o : Option (List ℕ)) → is_some o ≡ true → is_some (or_later a o) ≡ true
  stays None o h = h
  stays (Some z) o h = refl

  later : (rest : List Packet) → AllByRecursion (λ (q : Packet). has_id q.id.block packets q.id.esi ≡ true) rest → AllByRecursion (λ (q : Packet). has_id q.id.block (p ∷ packets) q.id.esi ≡ true) rest
  later [] h = tt
  later (q ∷ rest) h = (stays (payload_for q.id.block p q.id.esi) (first_payload q.id.block packets q.id.esi) h.0, later rest h.1)

both-all : (P Q R : Packet → Type 0) (packets : List Packet) → ((p : Packet) → P p → Q p → R p) → AllByRecursion P packets → AllByRecursion Q packets → AllByRecursion R packets
both-all P Q R [] f h g = tt
both-all P Q R (p ∷ packets) f h g = (f p h.0 g.0, both-all P Q R packets f h.1 g.1)

module _ (table : List TableRow) (c : Configuration) (rows : (b : ℕ) → b < c.source_blocks → HasRow (block_row table c b) (block_symbols c b)) (nonsingular : HasNonsingularRows table c) where
  -- the packets of an object are those of its xor with bytes whose symbols are zero there
  packet-xor : (object bytes : List ℕ) (has : ℕ → ℕ → Bool) → EncodesToZeros table c has bytes → (p : Packet) → IsPacketOf table c object p → has p.id.block p.id.esi ≡ true → IsPacketOf table c (xor_bytes object bytes) p
  packet-xor object bytes has z p pk came =
      let b = p.id.block in
      let row = block_row table c b in
      let size = c.symbol_size in
      let length_of = length-block_source c in
      let sized : length p.payload ≡ size = ap length pk.symbol.is_sum ∙ (sum_symbol row size (internal_id row (length (block_source c object b)) p.id.esi) pk.symbol.column (rows b pk.block).checked pk.symbol.is_only.is.symbols).size_is in
      let same : add_symbols octets p.payload (zero_symbol size) ≡ p.payload = add_symbols_comm octets p.payload (zero_symbol size) ∙ add_zeros octets size p.payload sized in
      record {
        block = pk.block;
        esi = pk.esi;
        symbol = subst (IsEncodingSymbol row size (block_source c (xor_bytes object bytes) b) p.id.esi) same
            (encoding-add row size (rows b pk.block).checked (block_source c object b) (block_source c bytes b) (block_source c (xor_bytes object bytes) b) (source-xor c object bytes b) p.id.esi p.payload (zero_symbol size) (nonsingular b pk.block)
            (length_of object b ∙ sym (length_of (xor_bytes object bytes) b)) (length_of bytes b ∙ sym (length_of (xor_bytes object bytes) b)) pk.symbol (z.zeros b p.id.esi pk.block came));
      }

  pub fits-xor : (object bytes : List ℕ) (packets : List Packet) → IsHonestRun table c object packets → EncodesToZeros table c (λ b. has_id b packets) bytes → IsHonestRun table c (xor_bytes object bytes) packets
  fits-xor object bytes packets fits z = record {
    long = length-add_symbols octets 0 c.transfer_length object bytes fits.long z.long;
    nonsingular = nonsingular;
    honest = both-all (IsPacketOf table c object) (λ p. has_id p.id.block packets p.id.esi ≡ true) (IsPacketOf table c (xor_bytes object bytes)) packets (packet-xor object bytes (λ b. has_id b packets) z) fits.honest (all_came packets);
  }

-- what changes nothing is zero
xor-same : (x y : List ℕ) → xor_bytes x y ≡ x → (i : ℕ) → get_or y i 0 ≡ 0
xor-same x y same i = sym (add_twice octets (get_or x i 0) (get_or y i 0)) ∙ ap (octets.add (get_or x i 0)) (sym (add_symbols_at octets i x y) ∙ ap (λ l. get_or l i 0) same) ∙ octets.add_self (get_or x i 0)

-- ---- bytes made of plain columns, one for each block

-- a column for each block that solves what is known of it with all values zero
pub record AreColumns (row : ℕ → TableRow) (k : ℕ → ℕ) (has : ℕ → ℕ → Bool) (count : ℕ) (columns : ℕ → ℕ → ℕ) : Type 0 where
  pub elements : (b : ℕ) → b < count → IsColumn octets (intermediate_symbols (row b)) (columns b)
  pub solves : (b : ℕ) → b < count → SolvesZeros (row b) (known_ids (row b) (k b) (has b)) (columns b)

-- the bytes that they make
abbrev bytes_of : Configuration → (ℕ → TableRow) → (ℕ → ℕ → ℕ) → List ℕ
bytes_of c row columns = first_octets_object c (λ b e. plain_sum (row b) (columns b) e)

module _ (c : Configuration) (row : ℕ → TableRow) (columns : ℕ → ℕ → ℕ) (pos : 0 < c.symbol_size) (some : 0 < c.source_blocks) (aligned : IsAligned c) where
  pub length-bytes_of : length (bytes_of c row columns) ≡ c.transfer_length
  length-bytes_of = length-first_octets_object c (λ b e. plain_sum (row b) (columns b) e) pos some aligned

  source_of : (b e : ℕ) → b < c.source_blocks → e < block_symbols c b → get_or (block_source c (bytes_of c row columns) b) e (zero_symbol c.symbol_size) ≡ first_octet_symbol c.symbol_size (plain_sum (row b) (columns b) e)
  source_of b e below in_block = source_at c (bytes_of c row columns) b e in_block ∙ symbol_of_object c (λ n i. plain_sum (row n) (columns n) i) pos some aligned b e below in_block

  -- their symbols are zero for all ids that are known
  pub columns_encode : (has : ℕ → ℕ → Bool) → AreColumns row (block_symbols c) has c.source_blocks columns → (b e : ℕ) → b < c.source_blocks → HasRow (row b) (block_symbols c b) → IsNonsingular (row b) → has b e ≡ true → IsEncodingSymbol (row b) c.symbol_size (block_source c (bytes_of c row columns) b) e (zero_symbol c.symbol_size)
  columns_encode has are b e below h nonsingular came =
      known_are_zeros c.symbol_size pos (row b) h.checked (columns b) (are.elements b below) (block_symbols c b) (has b) (block_source c (bytes_of c row columns) b) (length-block_source c (bytes_of c row columns) b) (are.solves b below)
      (λ i in_block. source_of b i below in_block) nonsingular h.fits e came

  -- where all bytes are zero, each column is, over a row that isn't singular
  pub zero_bytes : (has : ℕ → ℕ → Bool) → AreColumns row (block_symbols c) has c.source_blocks columns → ((i : ℕ) → get_or (bytes_of c row columns) i 0 ≡ 0) → (b : ℕ) → b < c.source_blocks → IsNonsingular (row b) → (j : ℕ) → j < intermediate_symbols (row b) → columns b j ≡ 0
  zero_bytes has are zeros b below nonsingular =
      no_change_is_zero (row b) (block_symbols c b) (columns b) (has b) nonsingular (are.elements b below) (are.solves b below)
      (λ e in_block. sym (object_at_first c (λ n i. plain_sum (row n) (columns n) i) pos some aligned b e below in_block) ∙ zeros (symbols_before c b * c.symbol_size + sub_block_size c 0 * e))

  -- and where a column isn't zero, some byte isn't
  pub nonzero_byte : (has : ℕ → ℕ → Bool) → AreColumns row (block_symbols c) has c.source_blocks columns → (b : ℕ) → b < c.source_blocks → IsNonsingular (row b) → (((j : ℕ) → j < intermediate_symbols (row b) → columns b j ≡ 0) → ⊥)
      → (i : ℕ) × (i < c.transfer_length) × (get_or (bytes_of c row columns) i 0 ≢ 0)
  nonzero_byte has are b below nonsingular nonzero =
      let q = some_change (row b) (block_symbols c b) (columns b) (has b) nonsingular (are.elements b below) (are.solves b below) nonzero in (
        symbols_before c b * c.symbol_size + sub_block_size c 0 * q.0,
        first_is_before_end c (λ n i. plain_sum (row n) (columns n) i) pos some aligned b q.0 below q.1,
        λ z. q.2 (sym (object_at_first c (λ n i. plain_sum (row n) (columns n) i) pos some aligned b q.0 below q.1) ∙ z),
      )

  -- a block whose column is zero has zeros
  pub zero_block : (b i : ℕ) → b < c.source_blocks → ((j : ℕ) → j < intermediate_symbols (row b) → columns b j ≡ 0) → get_or (block_bytes c (bytes_of c row columns) b) i 0 ≡ 0
  zero_block b i below none =
      let k = block_symbols c b in
      let octet = plain_sum (row b) (columns b) in
      ap (λ block. get_or block i 0) (block_of_first_octets c (λ n e. plain_sum (row n) (columns n) e) pos some aligned b below
      ∙ zero_octets c k octet (λ e. dot_zero octets (intermediate_symbols (row b)) (symbol_coefficient (row b) e) (columns b) (λ j l. ap (octets.mul (symbol_coefficient (row b) e j)) (none j l) ∙ mul_zero octets (symbol_coefficient (row b) e j))))
      ∙ at-zeros (k * c.symbol_size) i

-- ---- the only object

module _ (table : List TableRow) (c : Configuration) (pos : 0 < c.symbol_size) (some : 0 < c.source_blocks) (aligned : IsAligned c) (rows : (b : ℕ) → b < c.source_blocks → HasRow (block_row table c b) (block_symbols c b)) where
  -- where no other object makes the packets, they determine each block
  pub only_is_answerable : (object : List ℕ) (packets : List Packet) → IsHonestRun table c object packets → IsOnlyObject table c packets object → IsAnswerable table c packets
  only_is_answerable object packets fits only b below x is solves =
      let row = block_row table c in
      let has : ℕ → ℕ → Bool = λ n. has_id n packets in
      let columns : ℕ → ℕ → ℕ = λ n j. cond (eqb n b) (x j) 0 in
      let are : AreColumns row (block_symbols c) has c.source_blocks columns = record {
        elements = λ n l. one_of (eqb n b) (row n) (λ e. let same : n ≡ b = eqb-true n b e in subst (λ m. IsColumn octets (intermediate_symbols (row m)) x) (sym same) is);
        solves = λ n l. solves_one (eqb n b) (row n) (known_ids (row n) (block_symbols c n) (has n)) (λ e. let same : n ≡ b = eqb-true n b e in subst (λ m. SolvesZeros (row m) (known_ids (row m) (block_symbols c m) (has m)) x) (sym same) solves);
      } in
      let encodes : EncodesToZeros table c has (bytes_of c row columns) = record {
        long = length-bytes_of c row columns pos some aligned;
        zeros = λ n e l came. columns_encode c row columns pos some aligned has are n e l (rows n l) (fits.nonsingular n l) came;
      } in
      let none = zero_bytes c row columns pos some aligned has are (xor-same object (bytes_of c row columns) (only (xor_bytes object (bytes_of c row columns)) (fits-xor table c rows fits.nonsingular object (bytes_of c row columns) packets fits encodes))) b below (fits.nonsingular b below) in
      λ j l. ap (λ t. cond t (x j) 0) (sym (eq-eqb b b refl)) ∙ none j l
    where
      one_of : (t : Bool) (r : TableRow) → (t ≡ true → IsColumn octets (intermediate_symbols r) x) → IsColumn octets (intermediate_symbols r) (λ j. cond t (x j) 0)
      one_of true r h = h refl
      one_of false r h = zeros_are_octets r

      solves_one : (t : Bool) (r : TableRow) (known : ℕ → Bool) → (t ≡ true → SolvesZeros r known x) → SolvesZeros r known (λ j. cond t (x j) 0)
      solves_one true r known h = h refl
      solves_one false r known h = zeros_solve r known

-- what a decoder answers that stands for a list
pub answers_only : (s : State) → AnswersOnlyObject s (result_of s)
answers_only s table object packets late st now =
    let c = s.configuration in
    let f = st.follows in
    let own = answers_object s table object packets late st now in
    let aligned = aligned_of (greatest_size table) c f.accepted in
    let rows : (b : ℕ) → b < c.source_blocks → HasRow (block_row table c b) (block_symbols c b) = λ b below. row_of_shape table c b (s.received b) (f.shape b below) in (
      λ h other fits. one_object table c object other packets f.accepted.size_positive f.accepted.blocks_positive aligned rows st.run fits (own.only h),
      λ only. subst IsSome (sym (own.whole (only_is_answerable table c f.accepted.size_positive f.accepted.blocks_positive aligned rows object packets st.run only))) refl,
    )

pub result_is_object : ResultIsObject
result_is_object s = (answers_object s, answers_nothing_else s, answers_only s)

-- ---- what a decoder's bytes are

module _ (s : State) (pos : 0 < s.configuration.symbol_size) (some : 0 < s.configuration.source_blocks) (aligned : IsAligned s.configuration) where
  abbrev row_at : ℕ → TableRow
  row_at b = (s.received b).row

  -- bytes of columns that are zero in answered blocks, and not all zero
  pub is_difference : (columns : ℕ → ℕ → ℕ) (b : ℕ)
      → ((n : ℕ) → n < s.configuration.source_blocks → HasRow (s.received n).row (block_symbols s.configuration n))
      → AreColumns row_at (block_symbols s.configuration) (λ n. has_received (s.received n)) s.configuration.source_blocks columns
      → ((n : ℕ) → n < s.configuration.source_blocks → IsSome (s.answer n) → (i : ℕ) → i < intermediate_symbols (row_at n) → columns n i ≡ 0)
      → b < s.configuration.source_blocks → (((j : ℕ) → j < intermediate_symbols (row_at b) → columns b j ≡ 0) → ⊥)
      → IsDifference s (bytes_of s.configuration row_at columns)
  is_difference columns b rows are none below nonzero = record {
    long = length-bytes_of s.configuration row_at columns pos some aligned;
    answered = λ n i l h. zero_block s.configuration row_at columns pos some aligned n i l (none n l h);
    zeros = λ n e l nonsingular came. columns_encode s.configuration row_at columns pos some aligned (λ m. has_received (s.received m)) are n e l (rows n l) nonsingular came;
    nonzero = λ nonsingular. nonzero_byte s.configuration row_at columns pos some aligned (λ m. has_received (s.received m)) are b below (nonsingular b below) nonzero;
  }

-- a block of zeros has zero symbols
zero_source : (s : State) (bytes : List ℕ) (b e : ℕ) → ((i : ℕ) → get_or (block_bytes s.configuration bytes b) i 0 ≡ 0) → e < block_symbols s.configuration b → get_or (block_source s.configuration bytes b) e (zero_symbol s.configuration.symbol_size) ≡ zero_symbol s.configuration.symbol_size
zero_source s bytes b e zeros in_block =
    let c = s.configuration in
    let symbol = symbol_of_block c (block_symbols c b) (block_bytes c bytes b) e in
    let long = length-symbol_of_block c (block_symbols c b) (block_bytes c bytes b) e in
    source_at c bytes b e in_block ∙ ext_get_or 0 symbol (zero_symbol c.symbol_size) (long ∙ sym (length-zero c.symbol_size))
    (λ t lt. get_or-symbol_of_block c (block_symbols c b) (block_bytes c bytes b) e t (omega (arith, long)) ∙ zeros (place_in_block c (block_symbols c b) e t) ∙ sym (at-zeros c.symbol_size t))

-- they make other objects fit
pub makes_others_fit : DifferencesFit
makes_others_fit s bytes d late table object other packets st fits =
    let c = s.configuration in (
      fits-xor table c rows st.run.nonsingular other bytes packets fits (record {
        long = d.long;
        zeros = λ b e below came. by_answer b e below came (s.answer b) refl;
      }),
      λ same. (d.nonzero received).2 (xor-same other bytes same (d.nonzero received).0),
    ) where
      rows : (b : ℕ) → b < s.configuration.source_blocks → HasRow (block_row table s.configuration b) (block_symbols s.configuration b)
      rows b below = row_of_shape table s.configuration b (s.received b) (st.follows.shape b below)

      received : HasNonsingularBlocks s
      received b below = subst IsNonsingular (sym (st.follows.shape b below).row) (st.run.nonsingular b below)

      by_answer : (b e : ℕ) → b < s.configuration.source_blocks → has_id b packets e ≡ true → (a : Option (List ℕ)) → s.answer b ≡ a
          → IsEncodingSymbol (block_row table s.configuration b) s.configuration.symbol_size (block_source s.configuration bytes b) e (zero_symbol s.configuration.symbol_size)
      by_answer b e below came (Some block) is =
          let c = s.configuration in
          zeros_encode (block_row table c b) c.symbol_size (block_symbols c b) (block_source c bytes b) e st.follows.accepted.size_positive (rows b below).checked (st.run.nonsingular b below) (rows b below).fits (length-block_source c bytes b)
          (λ i in_block. zero_source s bytes b i (λ n. d.answered b n below (subst IsSome (sym is) refl)) in_block)
      by_answer b e below came None is =
          let c = s.configuration in
          let kept = (subst (FollowsBlock (late b) table c b packets (s.received b)) is (st.follows.block b below)).0 in
          subst (λ (r : TableRow). IsEncodingSymbol r c.symbol_size (block_source c bytes b) e (zero_symbol c.symbol_size)) (st.follows.shape b below).row (d.zeros b e below (received b below) (ap (λ h. has_received h e) kept ∙ came))
