-- The cells of a stream's parts as a receiver finds them.
use Rattle.std.proofs.Common.{◌≡◌, inl, inr, ℕ, zero, suc, ◌+◌, ◌*◌, ◌/◌, ◌%◌, ◌^◌, ◌<◌, ◌≤◌, Bool, true, false, List, [], ◌∷◌, ◌++◌, length, drop, filter, refl, sym, ap, subst, ◌∙◌, arith, length-append}
use Rattle.std.specs.Prelude.{All, Contains, ◌==◌, ◌≢◌}
use Rattle.std.specs.List.{AllByRecursion, concat}
use Rattle.std.specs.Int.{w32, to_be_bytes}
use Rattle.std.proofs.lemmas.Bool.{cases_eq, eq-eqb, ne_eqb}
use Rattle.std.proofs.Math.Nat.{mul-le-mul_right}
use Rattle.std.proofs.lemmas.Nat.{div-add-mod'}
use Rattle.std.proofs.lemmas.List.{length-take, length-take-le, length-drop}
use Rattle.std.proofs.lemmas.List.Elements.{All-filter, All-map, All-nil, All-push, All-weaker, filter_passes, recursion_from_All}
use Rattle.std.proofs.lemmas.List.FromFn.{length-map-range_with_len}
use Rattle.sha2.specs.Sha512.{sha512}
use Rattle.sha2.proofs.Facts512.{length-sha512}
use Rattle.rq_standard.specs.declared.row.TableRow.{TableRow}
use Rattle.rq_standard.specs.TableRows.{IsChecked, greatest_size}
use Rattle.rq_standard.specs.Configuration.{Configuration, IsAccepted, header_bytes}
use Rattle.rq_standard.specs.Cutting.{block_symbols}
use Rattle.rq_standard.specs.Headline.{block_row, IsPacketOf, IsHonestRun}
use Rattle.rq_standard.specs.Packet.{Packet}
use Rattle.rq_standard.specs.Parameters.{symbol_size_for}
use Rattle.rq_standard.proofs.BlockCuts.{block_symbols_few}
use Rattle.rq_standard.proofs.RowLaws.{row_checked}
use Rattle.raptorq.specs.Encoder.{IsEncoderOf}
use Rattle.raptorq.proofs.Lists.{length-payload}
use Rattle.rq_rows.specs.FullTable.{full_rows}
use Rattle.rq_cells.specs.declared.head.Head.{Head}
use Rattle.rq_cells.specs.declared.cell.Cell.{Cell}
use Rattle.rq_cells.specs.Cells.{IsHead, IsCell}
use Rattle.rq_cells.specs.Found.{Source, source_of, cells_in}
use Rattle.rq_cells.proofs.FoundCells.{found_of_stream}
use Rattle.rq_cast.specs.Parts.{greatest_count, number_of, seal_of, object_of, stream_of_names, source_digests, name_of_part, IsPart}
use Rattle.rq_cast.specs.Taken.{has_head, packets_with, is_known, received_packets}
use Rattle.rq_cast.specs.Sent.{Sending, IsSendingOf}
use Rattle.rq_cast.specs.SentParts.{last_index, bytes_of_part, names_of}
use Rattle.rq_cast.specs.Streams.{AreParts, AreSenders, index_of, IsCellOf}
use Rattle.rq_cast.specs.Laws.{IsCellFrom, parts_sent, SendAllParts, HaveBytes, SentCellsAreFound, SentAreOneSenders, PreparedPartsAreSent}
use Rattle.rq_cast.proofs.EndsWith.{length-seal}
use Rattle.rq_cast.proofs.AllRows.{over_all, size_fitting}
use Rattle.rq_cast.proofs.PartNames.{concat_push, stream_of_more}
use Rattle.rq_cast.proofs.SameHead.{same_head}
use Rattle.rq_cast.proofs.PartsInOrder.{names_next}

pub length-name : (number : ℕ) (c : Configuration) (object : List ℕ) → length (name_of_part number c object) ≡ 16
length-name number c object =
    let bytes = to_be_bytes w32 number ++ header_bytes c ++ concat (source_digests c object) in
    length-take-le 16 (sha512 bytes) (omega (arith, length-sha512 bytes))

-- a stream's name is as long as it begins that of a part
length-stream : (names : List (List ℕ)) (name : List ℕ) → length name ≡ 16 → length (stream_of_names (names ++ (name ∷ []))) ≡ 8
length-stream names name sixteen =
    length-take-le 8 (concat (names ++ (name ∷ []))) (omega (arith, ap length (concat_push names name), length-append (concat names) name, sixteen))

number_fits : (is_last : Bool) (index : ℕ) → index < greatest_count → number_of is_last index < 2 ^ 32
number_fits true index few = omega (arith, few)
number_fits false index few = omega (arith, few)

-- the index is a part's number without the bit of the last one
index_back : (is_last : Bool) (index : ℕ) → index < greatest_count → number_of is_last index % 2 ^ 31 ≡ index
index_back true index few = omega (arith, few)
index_back false index few = omega (arith, few)

-- ---- one part

module _ (table : List TableRow) (is_last : Bool) (names : List (List ℕ)) (object : List ℕ) (s : Sending) (is : IsSendingOf table is_last names object s) where
  abbrev c : Configuration
  c = s.encoded.configuration

  abbrev number : ℕ
  number = number_of is_last (length names)

  pub name_long : length s.head.name ≡ 16
  name_long = ap (λ (h : Head). length h.name) is.head ∙ length-name number c object

  pub fits : IsHead s.head
  fits =
      let name = name_of_part number c object in
      subst IsHead (sym is.head) (record {
        stream = length-stream names name (length-name number c object);
        number = number_fits is_last (length names) is.few;
        name = length-name number c object;
        configuration = is.configuration;
      })

  pub configured : s.head.configuration ≡ c
  configured = ap (λ (h : Head). h.configuration) is.head

  pub stream_is : s.head.stream ≡ stream_of_names (names ++ (s.head.name ∷ []))
  stream_is =
      ap (λ (h : Head). h.stream) is.head
      ∙ ap (λ name. stream_of_names (names ++ (name ∷ []))) (sym (ap (λ (h : Head). h.name) is.head))

  pub part_is : (bytes : List ℕ) → object ≡ object_of is_last names bytes → IsPart is_last names s.head object bytes
  part_is bytes ended = subst (λ h. IsPart is_last names h object bytes) (sym is.head) (record { number = refl; stream = refl; named = refl; ended = ended })

  pub index_is : s.head.number % 2 ^ 31 ≡ length names
  index_is = ap (λ (h : Head). h.number % 2 ^ 31) is.head ∙ index_back is_last (length names) is.few

  pub is_cell : (p : Packet) → IsPacketOf table c object p → IsCell (record { head = s.head; packet = p })
  is_cell p of =
      let few : block_symbols c p.id.block ≤ _ = block_symbols_few c p.id.block of.block in
      let checked : IsChecked (block_row table c p.id.block) =
      (row_checked table (block_symbols c p.id.block) is.checked (omega (arith, few, is.accepted.in_table))).0 in
      record {
        head = fits;
        id = record { block_fits = omega (arith, of.block, is.configuration.blocks_fit); esi_fits = of.esi };
        payload = length-payload table c object p checked of ∙ sym (ap (λ (k : Configuration). k.symbol_size) configured);
      }

pub sent_cells_are_found : SentCellsAreFound
sent_cells_are_found table is_last names object s is first same i sent before rest cell =
    let p = cell.packet in
    let c : Cell = record { head = s.head; packet = p } in
    let of = cell.of_object table object is.encoder in
    let found : Contains (cells_in (source_of s.key s.head) (before ++ sent ++ rest)) c =
    subst (λ xs. Contains (cells_in (source_of s.key s.head) (before ++ xs ++ rest)) c) (sym cell.spelled)
    (found_of_stream s.key before c rest (is_cell table is_last names object s is p of)) in
    let source : source_of s.key s.head ≡ source_of s.key first = λ j. record { key = s.key; stream = same.0 j; symbol_size = same.1 j } in (
      c,
      cell.id,
      (refl, cell.of_object),
      subst (λ (x : Source). Contains (cells_in x (before ++ sent ++ rest)) c) source found,
    )

-- ---- all parts

-- what passes a test has what the test gives
All-passed : {X : Type 0} (p : X → Bool) (P : X → Type 0) (xs : List X) → All (λ x. p x ≡ true → P x) xs → All P (filter p xs)
All-passed p P xs each = λ k d below. All-filter p (λ x. p x ≡ true → P x) xs each k d below (filter_passes p xs k d below)

same_test : (i last : ℕ) → (i == last) ≡ (i + 1 == last + 1)
same_test i last = elim (cases_eq i last) [
  | inl is ↦ eq-eqb i last is ∙ sym (eq-eqb (i + 1) (last + 1) (ap (λ k. k + 1) is))
  | inr not ↦ ne_eqb i last not ∙ sym (ne_eqb (i + 1) (last + 1) (λ is. not (omega (arith, is))))
]

module _ (table : List TableRow) (of : ℕ → Sending) (last : ℕ) (bytes : ℕ → List ℕ) (all : SendAllParts table of last bytes) where
  abbrev object : ℕ → List ℕ
  object i = object_of (i == last) (names_of of i) (bytes i)

  length-names : (i : ℕ) → length (names_of of i) ≡ i
  length-names i = length-map-range_with_len (λ k. (of k).head.name) 0 i

  names_long : (n : ℕ) → n ≤ last + 1 → All (λ name. length name ≡ 16) (names_of of n)
  names_long zero few = All-nil (λ name. length name ≡ 16)
  names_long (suc n) few =
      let next : n + 1 ≡ suc n = omega arith in
      let here : n ≤ last = omega (arith, few) in
      subst (λ m. All (λ name. length name ≡ 16) (names_of of m)) next
      (subst (All (λ name. length name ≡ 16)) (sym (names_next of n))
      (All-push (λ name. length name ≡ 16) (names_of of n) (of n).head.name (names_long n (omega (arith, few)))
      (name_long table (n == last) (names_of of n) (object n) (of n) (all n here))))

  stream_next : (i : ℕ) → i ≤ last → (of i).head.stream ≡ stream_of_names (names_of of (i + 1))
  stream_next i below =
      stream_is table (i == last) (names_of of i) (object i) (of i) (all i below) ∙ ap stream_of_names (sym (names_next of i))

  -- all are of one stream
  same_stream : (i : ℕ) → i ≤ last → stream_of_names (names_of of (i + 1)) ≡ stream_of_names (names_of of 1)
  same_stream zero below = refl
  same_stream (suc i) below =
      let names = names_of of (i + 1) in
      let next : i + 1 ≡ suc i = omega arith in
      let some : names ≢ [] = λ none. absurd (omega (arith, length-names (i + 1), ap length none)) in
      ap (λ n. stream_of_names (names_of of (n + 1))) (sym next) ∙ ap stream_of_names (names_next of (i + 1))
      ∙ stream_of_more names (of (i + 1)).head.name (names_long (i + 1) (omega (arith, below))) some
      ∙ same_stream i (omega (arith, below))

  pub one_stream : (i : ℕ) → i ≤ last → (of i).head.stream ≡ (of 0).head.stream
  one_stream i below = stream_next i below ∙ same_stream i below ∙ sym (stream_next 0 (omega arith))

  index_at : (i : ℕ) → i ≤ last → (of i).head.number % 2 ^ 31 ≡ i
  index_at i below = index_is table (i == last) (names_of of i) (object i) (of i) (all i below) ∙ length-names i

  -- each has bytes, and the last one a seal
  full : HaveBytes last bytes → (i : ℕ) → i ≤ last → object i ≢ []
  full some i below = elim (cases_eq i last) [
    | inl is ↦ λ none.
        let ended : object i ≡ bytes i ++ seal_of (names_of of i) =
        ap (λ (b : Bool). object_of b (names_of of i) (bytes i)) (eq-eqb i last is) in
        absurd (omega (arith, ap length none, ap length ended, length-append (bytes i) (seal_of (names_of of i)), length-seal (names_of of i)))
    | inr apart ↦ λ none.
        let whole : object i ≡ bytes i = ap (λ (b : Bool). object_of b (names_of of i) (bytes i)) (ne_eqb i last apart) in
        some i (omega (arith, below, apart)) (sym whole ∙ none)
  ]

  are_parts : HaveBytes last bytes → AreParts (of 0).head.stream (parts_sent of last bytes)
  are_parts some = record {
    some = omega arith;
    few = omega (arith, (all last (omega arith)).few, length-names last);
    each = λ i below. subst (λ b. IsPart b (names_of of i) (of i).head (object i) (bytes i)) (same_test i last)
        (part_is table (i == last) (names_of of i) (object i) (of i) (all i (omega (arith, below))) (bytes i) refl);
    stream_is = λ i below. one_stream i (omega (arith, below));
    full = λ i below. full some i (omega (arith, below));
  }

  abbrev IsFromAny : Cell → Type 0
  IsFromAny cell = (i : ℕ) × (i ≤ last) × IsCellFrom (of i) cell

  -- the part of a cell is known by its head
  part_of : (cell : Cell) (i : ℕ) → i ≤ last → cell.head ≡ (of i).head → index_of cell ≡ i
  part_of cell i below is = ap (λ (h : Head). h.number % 2 ^ 31) is ∙ index_at i below

  is_cell_of : (cell : Cell) → IsFromAny cell → IsCellOf (parts_sent of last bytes) cell
  is_cell_of cell (i, below, from) =
      let here : i ≡ index_of cell = sym (part_of cell i below from.0) in
      (omega (arith, below, here), from.0 ∙ ap (λ k. (of k).head) here)

  module _ (i : ℕ) (below : i ≤ last) where
    abbrev IsFrom : Packet → Type 0
    IsFrom = IsPacketOf table (of i).encoded.configuration (object i)

    from_it : (cell : Cell) → IsFromAny cell → has_head (of i).head cell ≡ true → IsFrom cell.packet
    from_it cell (k, there, from) passes =
        let same : k ≡ i = sym (part_of cell k there from.0) ∙ part_of cell i below (same_head (of i).head cell passes) in
        (subst (λ j. (t : List TableRow) (o : List ℕ) → IsEncoderOf t o (of j).encoded → IsPacketOf t (of j).encoded.configuration o cell.packet) same from.1)
        table (object i) (all i below).encoder

    packets_of : (cells : List Cell) → All IsFromAny cells → AllByRecursion IsFrom (received_packets (of i).head cells)
    packets_of cells from =
        recursion_from_All IsFrom (received_packets (of i).head cells)
        (All-filter (is_known (of i).head.configuration) IsFrom (packets_with (of i).head cells)
        (All-map IsFrom (λ (cell : Cell). cell.packet) (filter (has_head (of i).head) cells)
        (All-passed (has_head (of i).head) (λ (cell : Cell). IsFrom cell.packet) cells
        (All-weaker IsFromAny (λ (cell : Cell). has_head (of i).head cell ≡ true → IsFrom cell.packet) from_it cells from))))

    honest : (cells : List Cell) → All IsFromAny cells → IsHonestRun table (of i).head.configuration (object i) (received_packets (of i).head cells)
    honest cells from =
        let is = all i below in
        subst (λ k. IsHonestRun table k (object i) (received_packets (of i).head cells))
        (sym (configured table (i == last) (names_of of i) (object i) (of i) is))
        (record { long = is.encoder.long; nonsingular = is.nonsingular; honest = packets_of cells from })

  accepted : (i : ℕ) → i ≤ last → IsAccepted (greatest_size table) (of i).head.configuration
  accepted i below =
      subst (IsAccepted (greatest_size table)) (sym (configured table (i == last) (names_of of i) (object i) (of i) (all i below))) (all i below).accepted

  one_sender : HaveBytes last bytes → (cells : List Cell) → All IsFromAny cells → AreSenders table (of 0).head.stream (parts_sent of last bytes) cells
  one_sender some cells from = record {
    checked = (all 0 (omega arith)).checked;
    are = are_parts some;
    accepted = λ i below. accepted i (omega (arith, below));
    heads = All-weaker IsFromAny (IsCellOf (parts_sent of last bytes)) is_cell_of cells from;
    honest = λ i below. honest i (omega (arith, below)) cells from;
  }

pub sent_are_one_senders : SentAreOneSenders
sent_are_one_senders table of last bytes all some cells from = one_sender table of last bytes all some cells from

-- ---- a run's parts

-- each part but the last has all its bytes
pub have_bytes : (size : ℕ) (input : List ℕ) → HaveBytes (last_index size input) (bytes_of_part size input)
have_bytes zero input i below none = absurd (omega (arith, below))
have_bytes (suc n) input i below none =
    let size : ℕ = suc n in
    let whole = div-add-mod' (length input) size in
    let past : (i + 1) * size ≤ length input / size * size = mul-le-mul_right size (omega (arith, below)) in
    let long = length-take size (drop (i * size) input) in
    absurd (omega (arith, whole, past, long, length-drop (i * size) input, ap length none))

pub prepared_parts_are_sent : PreparedPartsAreSent
prepared_parts_are_sent order key input of all =
    let last = last_index order.part input in
    let bytes = bytes_of_part order.part input in
    let object : ℕ → List ℕ = λ i. object_of (i == last) (names_of of i) (bytes i) in
    let sends : SendAllParts full_rows of last bytes =
    λ i below. over_all (length (object i)) order.symbol_size (all i below).table (of i).encoded.configuration (i == last) (names_of of i) (object i) (of i)
    (all i below).fitting (all i below).sends in
    let sized : (i : ℕ) → i ≤ last → (of i).head.configuration.symbol_size ≡ symbol_size_for order.symbol_size =
    λ i below. ap (λ (k : Configuration). k.symbol_size) (configured full_rows (i == last) (names_of of i) (object i) (of i) (sends i below))
    ∙ size_fitting (length (object i)) order.symbol_size (all i below).table (of i).encoded.configuration (all i below).fitting in
    record {
      sends = sends;
      have_bytes = have_bytes order.part input;
      one_stream = λ i j here there. (
        one_stream full_rows of last bytes sends i here ∙ sym (one_stream full_rows of last bytes sends j there),
        sized i here ∙ sym (sized j there),
      );
    }
