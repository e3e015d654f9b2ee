-- Where the packets of an object determine each block, no other object makes them.
use Rattle.std.proofs.Common.{◌≡◌, ℕ, ◌+◌, ◌-◌, ◌*◌, ◌<◌, ◌≤◌, ◌⊎◌, cond, eqb, true, false, List, [], ◌∷◌, take, Option, Some, None, refl, sym, ap, ◌∙◌, subst, arith, inl, inr}
use Rattle.std.specs.Prelude.{is_some, IfSome, ◌&&◌}
use Rattle.std.specs.List.{AllByRecursion}
use Rattle.std.proofs.lemmas.Bool.{cases_lt, cases_eq, lt-ltb, le-ltb, ne_eqb}
use Rattle.std.proofs.lemmas.List.{nil_from_length}
use Rattle.rq_algebra.specs.Systems.{dot, at}
use Rattle.rq_algebra.specs.Symbols.{slice_at}
use Rattle.rq_algebra.proofs.Sums.{add_twice, dot_add_column}
use Rattle.rq_algebra.proofs.SymbolSums.{same_symbol, symbol_elements}
use Rattle.rq_standard.specs.declared.row.TableRow.{TableRow}
use Rattle.rq_standard.specs.OctetField.{octets}
use Rattle.rq_standard.specs.TableRows.{IsChecked, intermediate_symbols}
use Rattle.rq_standard.specs.Packet.{Packet}
use Rattle.rq_standard.specs.Configuration.{Configuration, IsAligned}
use Rattle.rq_standard.specs.Cutting.{block_symbols, block_bytes}
use Rattle.rq_standard.specs.Equations.{precode_equations, symbol_coefficient, zero_symbol, internal_id, tuple_sum}
use Rattle.rq_standard.specs.Received.{or_later, first_payload, has_id}
use Rattle.rq_standard.specs.Headline.{SolvesZeros, DetermineBlock, block_row, block_source, known_ids, IsEncodingSymbol, IsPacketOf, IsHonestRun, IsAnswerable}
use Rattle.rq_standard.specs.DecoderSteps.{received_after}
use Rattle.rq_standard.specs.ReceivedBlock.{ReceivedBlock, has_received, SolvesReceived, ReceivedDetermine}
use Rattle.rq_standard.proofs.BlockCuts.{pieces_same, whole_object}
use Rattle.rq_standard.proofs.Columns.{sum_at, tuple_sum-same, source_sum, solves_received}
use Rattle.rq_standard.proofs.Interleaved.{same_symbols}
use Rattle.rq_standard.proofs.KnownIds.{known_source, known_repair, none_determined, block_same}
use Rattle.rq_standard.proofs.PlainCut.{length-block_bytes}
use Rattle.rq_standard.proofs.StandingSteps.{HasRow, received_symbol, length-block_source, source_at, source_sized}

-- ---- columns that solve what was received

both_are : (o : Option (List ℕ)) (x y : List ℕ) → is_some o ≡ true → IfSome o (λ payload. payload ≡ x) → IfSome o (λ payload. payload ≡ y) → x ≡ y
both_are None x y some is_x is_y = absurd (cc some)
both_are (Some z) x y some is_x is_y = sym is_x ∙ is_y

module _ (h : ReceivedBlock) (x y : ℕ → List ℕ) (checked : IsChecked h.row) (fits : h.source_symbols ≤ h.row.extended_symbols) (solves_x : SolvesReceived h x) (solves_y : SolvesReceived h y) where
  -- they have the same sums for all known ids
  same_sums : (i : ℕ) → known_ids h.row h.source_symbols (has_received h) i ≡ true → tuple_sum h.row x i ≡ tuple_sum h.row y i
  same_sums i known =
      let row = h.row in
      let k = h.source_symbols in
      let from : (e : ℕ) → has_received h e ≡ true → internal_id row k e ≡ i → tuple_sum row x i ≡ tuple_sum row y i =
      λ e came is. subst (λ n. tuple_sum row x n ≡ tuple_sum row y n) is (both_are (h.received e) (tuple_sum row x (internal_id row k e)) (tuple_sum row y (internal_id row k e)) came (solves_x.received e) (solves_y.received e)) in
      elim (cases_lt i k) [
        | inl lt ↦ from i (sym (known_source row k i (has_received h) lt) ∙ known) (ap (λ b. cond b i (i + row.extended_symbols - k)) (lt-ltb i k lt))
        | inr ge ↦ elim (cases_lt i row.extended_symbols) [
          | inl lt ↦ solves_x.padding i ge lt ∙ sym (solves_y.padding i ge lt)
          | inr past ↦
              let e : ℕ = i + k - row.extended_symbols in
              from e (sym (known_repair row k i (has_received h) ge past) ∙ known) (ap (λ b. cond b e (e + row.extended_symbols - k)) (le-ltb e k (omega arith)) ∙ omega arith)
        ]
      ]

  -- so at each place of a symbol their sum solves all with values zero
  sum_solves : (p : ℕ) → SolvesZeros h.row (known_ids h.row h.source_symbols (has_received h)) (λ k. octets.add (slice_at p x k) (slice_at p y k))
  sum_solves p =
      let n = intermediate_symbols h.row in
      record {
        precode = record {
          at = λ i l.
              dot_add_column octets n (precode_equations h.row i) (slice_at p x) (slice_at p y)
              ∙ ap (λ s. octets.add s (dot octets n (precode_equations h.row i) (slice_at p y))) ((solves_x.precode.at_place p).at i l)
              ∙ ap (octets.add (slice_at p (λ _. zero_symbol h.configuration.symbol_size) i)) ((solves_y.precode.at_place p).at i l)
              ∙ octets.add_self (slice_at p (λ _. zero_symbol h.configuration.symbol_size) i);
        };
        each = λ i known.
            dot_add_column octets n (symbol_coefficient h.row i) (slice_at p x) (slice_at p y)
            ∙ ap (λ s. octets.add s (dot octets n (symbol_coefficient h.row i) (slice_at p y))) (sym (sum_at h.row h.configuration.symbol_size i x checked solves_x.symbols p) ∙ ap (λ s. at s p) (same_sums i known) ∙ sum_at h.row h.configuration.symbol_size i y checked solves_y.symbols p)
            ∙ octets.add_self (dot octets n (symbol_coefficient h.row i) (slice_at p y));
      }

  -- and where the ids determine the block they are one
  pub received_unique : ReceivedDetermine h → (k : ℕ) → k < intermediate_symbols h.row → x k ≡ y k
  received_unique determined k below =
      let size = h.configuration.symbol_size in
      same_symbol octets size (x k) (y k) (solves_x.symbols k below) (solves_y.symbols k below) (λ p.
      let none : octets.add (slice_at p x k) (slice_at p y k) ≡ 0 =
      determined (λ j. octets.add (slice_at p x j) (slice_at p y j)) (λ j l. octets.add_below _ _ (symbol_elements octets size (x j) (solves_x.symbols j l) p) (symbol_elements octets size (y j) (solves_y.symbols j l) p)) (sum_solves p) k below in
      cc (add_twice octets (slice_at p x k) (slice_at p y k), octets.add_comm (slice_at p x k) 0, octets.zero_add (slice_at p x k)))

-- ---- packets of two objects

-- a packet of a block that both make, or no packet of the block
pub record IsShared (table : List TableRow) (c : Configuration) (one other : List ℕ) (b : ℕ) : Type 0 where
  pub packet : Packet
  pub here : packet.id.block ≡ b
  pub is_one : IsPacketOf table c one packet
  pub is_other : IsPacketOf table c other packet

module _ (table : List TableRow) (c : Configuration) (one other : List ℕ) (b : ℕ) where
  pub shared_packet : (packets : List Packet) → AllByRecursion (IsPacketOf table c one) packets → AllByRecursion (IsPacketOf table c other) packets → IsShared table c one other b ⊎ ((e : ℕ) → has_id b packets e ≡ false)
  shared_packet [] is also = inr (λ e. refl)
  shared_packet (p ∷ packets) is also = elim (cases_eq p.id.block b) [
    | inl here ↦ inl (record { packet = p; here = here; is_one = is.0; is_other = also.0 })
    | inr ne ↦ elim (shared_packet packets is.1 also.1) [
      | inl found ↦ inl found
      | inr none ↦ inr (λ e. ap (λ t. is_some (or_later (cond (t && eqb p.id.esi e) (Some p.payload) None) (first_payload b packets e))) (ne_eqb p.id.block b ne) ∙ none e)
    ]
  ]

  module _ (packets : List Packet) (run : IsHonestRun table c one packets) (also : IsHonestRun table c other packets) (below : b < c.source_blocks) (aligned : IsAligned c) (has_row : HasRow (block_row table c b) (block_symbols c b))
      (determined : DetermineBlock (block_row table c b) (block_symbols c b) (has_id b packets)) where
    abbrev row : TableRow
    row = block_row table c b

    -- what was received of the block
    abbrev came : ReceivedBlock
    came = received_after table c b packets

    column_of : (object : List ℕ) (p : Packet) → p.id.block ≡ b → IsPacketOf table c object p → IsEncodingSymbol row c.symbol_size (block_source c object b) p.id.esi p.payload
    column_of object p here is = subst (λ n. IsEncodingSymbol (block_row table c n) c.symbol_size (block_source c object n) p.id.esi p.payload) here is.symbol

    from_symbols : (p : Packet) → p.id.block ≡ b → IsEncodingSymbol row c.symbol_size (block_source c one b) p.id.esi p.payload → IsEncodingSymbol row c.symbol_size (block_source c other b) p.id.esi p.payload → block_bytes c one b ≡ block_bytes c other b
    from_symbols p here s t =
        let k = block_symbols c b in
        let x = s.column in
        let y = t.column in
        let solves_x = solves_received came (block_source c one b) x has_row.checked (length-block_source c one b) (source_sized c one b) s.is_only.is (received_symbol table c one packets b (first_payload b packets) run.honest (λ e. refl)) in
        let solves_y = solves_received came (block_source c other b) y has_row.checked (length-block_source c other b) (source_sized c other b) t.is_only.is (received_symbol table c other packets b (first_payload b packets) also.honest (λ e. refl)) in
        let same = received_unique came x y has_row.checked has_row.fits solves_x solves_y determined in
        same_symbols c k (block_bytes c one b) (block_bytes c other b) aligned (length-block_bytes c one b) (length-block_bytes c other b) (λ e l.
        sym (source_at c one b e l) ∙ sym (source_sum row c.symbol_size e (block_source c one b) x has_row.checked s.is_only.is (source_sized c one b) (omega (arith, has_row.fits)))
        ∙ tuple_sum-same row e x y has_row.checked same
        ∙ source_sum row c.symbol_size e (block_source c other b) y has_row.checked t.is_only.is (source_sized c other b) (omega (arith, has_row.fits)) ∙ source_at c other b e l)

    -- the bytes of a determined block are the same
    pub same_block : block_bytes c one b ≡ block_bytes c other b
    same_block = elim (cases_eq (block_symbols c b) 0) [
      | inl none ↦
          let empty : (object : List ℕ) → block_bytes c object b ≡ [] = λ object. nil_from_length (block_bytes c object b) (length-block_bytes c object b ∙ ap (λ n. n * c.symbol_size) none ∙ omega arith) in
          empty one ∙ sym (empty other)
      | inr some ↦ elim (shared_packet packets run.honest also.honest) [
        | inl found ↦ from_symbols found.packet found.here (column_of one found.packet found.here found.is_one) (column_of other found.packet found.here found.is_other)
        | inr none ↦ absurd (none_determined row (block_symbols c b) (omega (arith, some)) has_row.fits (block_same row (block_symbols c b) (has_id b packets) (λ _. false) none determined))
      ]
    ]

-- one object alone fits a list that determines each block
pub one_object : (table : List TableRow) (c : Configuration) (one other : List ℕ) (packets : List Packet) → 0 < c.symbol_size → 0 < c.source_blocks → IsAligned c → ((b : ℕ) → b < c.source_blocks → HasRow (block_row table c b) (block_symbols c b))
    → IsHonestRun table c one packets → IsHonestRun table c other packets → IsAnswerable table c packets → other ≡ one
one_object table c one other packets pos some aligned rows run also answerable =
    sym (whole_object c other some pos also.long)
    ∙ ap (take c.transfer_length) (pieces_same (block_bytes c other) (block_bytes c one) c.source_blocks (λ b l. sym (same_block table c one other b packets run also l aligned (rows b l) (answerable b l))))
    ∙ whole_object c one some pos run.long
