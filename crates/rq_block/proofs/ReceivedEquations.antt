-- What was received of a block as equations: a list of ids that has the known ones, and their values.
use Rattle.std.proofs.Common.{◌≡◌, ℕ, ◌+◌, ◌-◌, ◌<◌, ◌≤◌, Bool, true, cond, List, [], length, map, get_or, replicate, Option, Some, Vec, Global, refl, sym, ap, ◌∙◌, subst, arith, inl, inr, ◌⊎◌, vec_items}
use Rattle.std.specs.Prelude.{is_some, option_map, IfSome}
use Rattle.std.specs.List.{range_with_len}
use Rattle.std.specs.Ordering.{nat_cmp}
use Rattle.std.specs.BTreeMap.{get, is_at, IsOrdered}
use Rattle.std.proofs.lemmas.Bool.{cases_lt, lt-ltb, le-ltb, eqb-true}
use Rattle.std.proofs.lemmas.List.{get_or_append_left, get_or-append_right, get_or-map, get_or-replicate, length-replicate}
use Rattle.std.proofs.lemmas.List.FromFn.{length-range_with_len, get_or-range_with_len}
use Rattle.std.proofs.lemmas.Option.{same_Some, slice_get_within, slice_get_cases, get_or_from_slice_get}
use Rattle.std.proofs.lemmas.Map.Entries.{place_from_lookup}
use Rattle.rq_algebra.specs.Systems.{dot, at, rows_of}
use Rattle.rq_algebra.specs.Symbols.{symbol_at, slice_at}
use Rattle.rq_algebra.proofs.Stacks.{stacked_above, stacked_below}
use Rattle.rq_standard.specs.declared.row.TableRow.{TableRow}
use Rattle.rq_standard.specs.OctetField.{octets}
use Rattle.rq_standard.specs.TableRows.{intermediate_symbols, IsChecked}
use Rattle.rq_standard.specs.Equations.{precode_equations, symbol_coefficient, zero_symbol, internal_id, tuple_sum}
use Rattle.rq_standard.specs.IdLists.{IsListOf, HasDeterminedRows}
use Rattle.rq_standard.specs.Headline.{known_ids}
use Rattle.rq_standard.specs.ReceivedBlock.{ReceivedBlock, has_received, SolvesReceived, ReceivedDetermine}
use Rattle.rq_standard.proofs.KnownIds.{known_source, known_padding, known_repair, determined_by, determined_list, block_same, few_not_determining}
use Rattle.rq_standard.proofs.Columns.{sum_at}
use Rattle.rq_block.specs.declared.decoder.block.SourceBlockDecoder.{SourceBlockDecoder}
use Rattle.rq_block.specs.SourceBlockDecoder.{received_of}
use Rattle.rq_block.specs.Known.{known_list}
use Rattle.rq_block.specs.BlockSolutions.{SolvesFirstEquations}
use Rattle.rq_block.specs.Payloads.{Payloads, payload_of, has_payload}
use Rattle.rq_standard.proofs.OptionValues.{is_some-mapped, value_of}
use Rattle.rq_block.proofs.Listing.{entry_payload, known_values, length-known_list}
use Rattle.rq_block.proofs.Payloads.{is_eq-nat_cmp}

-- ---- internal ids

pub internal_below : (row : TableRow) (k e : ℕ) → e < k → internal_id row k e ≡ e
internal_below row k e below = ap (λ b. cond b e (e + row.extended_symbols - k)) (lt-ltb e k below)

pub internal_above : (row : TableRow) (k e : ℕ) → k ≤ e → internal_id row k e ≡ e + row.extended_symbols - k
internal_above row k e above = ap (λ b. cond b e (e + row.extended_symbols - k)) (le-ltb e k above)

-- the internal id of an encoding symbol id is known where that was received
known_internal : (row : TableRow) (k e : ℕ) (has : ℕ → Bool) → k ≤ row.extended_symbols → known_ids row k has (internal_id row k e) ≡ has e
known_internal row k e has fits = elim (cases_lt e k) [
  | inl below ↦ ap (known_ids row k has) (internal_below row k e below) ∙ known_source row k e has below
  | inr above ↦
      let back : e + row.extended_symbols - k + k - row.extended_symbols ≡ e = omega arith in
      ap (known_ids row k has) (internal_above row k e above) ∙ known_repair row k (e + row.extended_symbols - k) has (omega arith) (omega arith) ∙ ap has back
]

-- where more ids are had, an internal id that is known then was known, or is that of one of these
pub known-more : (row : TableRow) (k : ℕ) (has now : ℕ → Bool) (Added : ℕ → Type 0) → k ≤ row.extended_symbols → ((e : ℕ) → now e ≡ true → (has e ≡ true) ⊎ Added e) → (x : ℕ) → known_ids row k now x ≡ true
    → (known_ids row k has x ≡ true) ⊎ ((e : ℕ) × Added e × (x ≡ internal_id row k e))
known-more row k has now Added fits more x known = elim (cases_lt x k) [
  | inl below ↦ elim (more x (sym (known_source row k x now below) ∙ known)) [
    | inl was ↦ inl (known_source row k x has below ∙ was)
    | inr added ↦ inr (x, added, sym (internal_below row k x below))
  ]
  | inr from ↦ elim (cases_lt x row.extended_symbols) [
    | inl padding ↦ inl (known_padding row k x has from padding)
    | inr past ↦
        let e : ℕ = x + k - row.extended_symbols in
        elim (more e (sym (known_repair row k x now from past) ∙ known)) [
          | inl was ↦ inl (known_repair row k x has from past ∙ was)
          | inr added ↦ inr (e, added, sym (internal_above row k e (omega arith) ∙ omega arith))
        ]
  ]
]

pub came_sum : (o : Option (List ℕ)) (x y : List ℕ) → o ≡ Some x → IfSome o (λ payload. payload ≡ y) → x ≡ y
came_sum o x y is h = subst (λ r. IfSome r (λ payload. payload ≡ y)) is h

-- ---- what stands at a place

-- padding, or a payload that was received
pub record IsPadding (row : TableRow) (k size j : ℕ) (x : ℕ) (value : List ℕ) : Type 0 where
  pub from : k ≤ x
  pub below : x < row.extended_symbols
  pub is_zero : value ≡ zero_symbol size

pub record IsPayload (row : TableRow) (k : ℕ) (m : Payloads) (x : ℕ) (value : List ℕ) : Type 0 where
  pub esi : ℕ
  pub came : payload_of m esi ≡ Some value
  pub id : x ≡ internal_id row k esi

module _ (row : TableRow) (k size : ℕ) (m : Payloads) (fits : k ≤ row.extended_symbols) (ordered : IsOrdered nat_cmp m) where
  -- the values before the payloads are zeros
  pub zero_at : (f i : ℕ) → i < f + (row.extended_symbols - k) → symbol_at (known_values row k f size m.entries) i ≡ zero_symbol size
  zero_at f i below =
      let n : ℕ = f + (row.extended_symbols - k) in
      get_or_append_left (replicate n (zero_symbol size)) (map (λ e. e.1.items) m.entries) [] i (omega (arith, length-replicate n (zero_symbol size))) ∙ get_or-replicate n i (zero_symbol size) [] below

  -- an id of the padding
  pub padding_at : (j : ℕ) → j < row.extended_symbols - k → at (known_list row k m.entries) j ≡ k + j
  padding_at j below =
      let n : ℕ = row.extended_symbols - k in
      get_or_append_left (range_with_len k n) (map (λ e. internal_id row k e.0) m.entries) 0 j (omega (arith, length-range_with_len k n)) ∙ get_or-range_with_len k n j 0 below

  -- the id and the value of an entry
  entry_id : (i e : ℕ) (v : Vec ℕ Global) → i < length m.entries → get_or m.entries i (e, v) ≡ (e, v) → at (known_list row k m.entries) (row.extended_symbols - k + i) ≡ internal_id row k e
  entry_id i e v within is =
      let n : ℕ = row.extended_symbols - k in
      let named : List ℕ = map (λ x. internal_id row k x.0) m.entries in
      get_or-append_right (range_with_len k n) named n (n + i) 0 (length-range_with_len k n) (omega arith)
      ∙ ap (λ j. get_or named j 0) (let z : n + i - n ≡ i = omega arith in z)
      ∙ get_or-map (λ x. internal_id row k x.0) m.entries i (e, v) 0 within ∙ ap (λ x. internal_id row k x.0) is

  entry_value : (f i e : ℕ) (v : Vec ℕ Global) → i < length m.entries → get_or m.entries i (e, v) ≡ (e, v) → symbol_at (known_values row k f size m.entries) (f + (row.extended_symbols - k + i)) ≡ v.items
  entry_value f i e v within is =
      let n : ℕ = f + (row.extended_symbols - k) in
      let values : List (List ℕ) = map (λ x. x.1.items) m.entries in
      get_or-append_right (replicate n (zero_symbol size)) values n (f + (row.extended_symbols - k + i)) [] (length-replicate n (zero_symbol size)) (omega arith)
      ∙ ap (λ j. get_or values j []) (let z : f + (row.extended_symbols - k + i) - n ≡ i = omega arith in z)
      ∙ get_or-map (λ x. x.1.items) m.entries i (e, v) [] within ∙ ap (λ x. x.1.items) is

  -- the ids and the values of the symbol equations, one by one
  pub known_at : (f j : ℕ) → j < length (known_list row k m.entries)
      → IsPadding row k size j (at (known_list row k m.entries) j) (symbol_at (known_values row k f size m.entries) (f + j)) ⊎ IsPayload row k m (at (known_list row k m.entries) j) (symbol_at (known_values row k f size m.entries) (f + j))
  known_at f j below =
      let n : ℕ = row.extended_symbols - k in
      elim (cases_lt j n) [
        | inl lt ↦
            let id = padding_at j lt in
            inl (record { from = omega (arith, id); below = omega (arith, id); is_zero = zero_at f (f + j) (omega arith) })
        | inr past ↦ elim (slice_get_cases m.entries (j - n)).1 [
          | inl q ↦
              let here : n + (j - n) ≡ j = omega arith in
              let is : get_or m.entries (j - n) (q.0.0, q.0.1) ≡ (q.0.0, q.0.1) = q.3 in
              inr (record {
                esi = q.0.0;
                came = entry_payload m (j - n) q.0.0 q.0.1 ordered q.2 ∙ ap (λ v. Some v) (sym (entry_value f (j - n) q.0.0 q.0.1 q.1 is) ∙ ap (λ i. symbol_at (known_values row k f size m.entries) (f + i)) here);
                id = ap (at (known_list row k m.entries)) (sym here) ∙ entry_id (j - n) q.0.0 q.0.1 q.1 is;
              })
          | inr q ↦ absurd (omega (arith, length-known_list row k m.entries, q.0))
        ]
      ]

  -- what was received has a place
  pub place_of : (f e : ℕ) (x : List ℕ) → payload_of m e ≡ Some x
      → (j : ℕ) × (j < length (known_list row k m.entries)) × (at (known_list row k m.entries) j ≡ internal_id row k e) × (symbol_at (known_values row k f size m.entries) (f + j) ≡ x)
  place_of f e x came =
      let some = value_of (get nat_cmp m e) (sym (is_some-mapped vec_items (get nat_cmp m e)) ∙ ap is_some came) in
      let q = place_from_lookup (is_at (nat_cmp e)) m.entries some.0 some.1 in
      let key : e ≡ q.1 = eqb-true e q.1 (sym (is_eq-nat_cmp e q.1) ∙ q.3) in
      let within : q.0 < length m.entries = slice_get_within m.entries q.0 (q.1, some.0) q.2 in
      let is = get_or_from_slice_get m.entries q.0 (q.1, some.0) (q.1, some.0) q.2 in
      let received : some.0.items ≡ x = same_Some some.0.items x (sym (ap (option_map vec_items) some.1) ∙ came) in (
        row.extended_symbols - k + q.0,
        (omega (arith, length-known_list row k m.entries, within)),
        entry_id q.0 q.1 some.0 within is ∙ ap (internal_id row k) (sym key),
        entry_value f q.0 q.1 some.0 within is ∙ received,
      )

  -- an id that was received has one
  place_came : (e : ℕ) → has_payload m e ≡ true → (j : ℕ) × (j < length (known_list row k m.entries)) × (at (known_list row k m.entries) j ≡ internal_id row k e)
  place_came e came =
      let some = value_of (get nat_cmp m e) (sym (is_some-mapped vec_items (get nat_cmp m e)) ∙ came) in
      let q = place_of 0 e some.0.items (ap (option_map vec_items) some.1) in
      (q.0, q.1, q.2)

  -- the ids are the known ones
  pub known_listed : IsListOf (known_ids row k (has_payload m)) (known_list row k m.entries)
  known_listed = record {
    listed = λ j below. elim (known_at 0 j below) [
      | inl p ↦ known_padding row k (at (known_list row k m.entries) j) (has_payload m) p.from p.below
      | inr p ↦ ap (known_ids row k (has_payload m)) p.id ∙ known_internal row k p.esi (has_payload m) fits ∙ ap is_some p.came
    ];
    place = λ x known. elim (cases_lt x k) [
      | inl below ↦
          let q = place_came x (sym (known_source row k x (has_payload m) below) ∙ known) in
          (q.0, q.1, q.2 ∙ internal_below row k x below)
      | inr above ↦ elim (cases_lt x row.extended_symbols) [
        | inl below ↦ (x - k, (omega (arith, length-known_list row k m.entries)), padding_at (x - k) (omega arith) ∙ omega arith)
        | inr past ↦
            let q = place_came (x + k - row.extended_symbols) (sym (known_repair row k x (has_payload m) above past) ∙ known) in
            (q.0, q.1, q.2 ∙ internal_above row k (x + k - row.extended_symbols) (omega arith) ∙ omega arith)
      ]
    ];
  }

-- ---- of a block

-- the ids of the symbol equations of what was received, and the values of all its equations
abbrev pub received_ids : ReceivedBlock → Payloads → List ℕ
received_ids h m = known_list h.row h.source_symbols m.entries

abbrev pub received_values : ReceivedBlock → Payloads → ℕ → List (List ℕ)
received_values h m precode_rows = known_values h.row h.source_symbols precode_rows h.configuration.symbol_size m.entries

-- it is held as payloads in the order of their ids, over a checked row with room for the block
pub record IsHeldIn (h : ReceivedBlock) (m : Payloads) : Type 0 where
  pub fits : h.source_symbols ≤ h.row.extended_symbols
  pub ordered : IsOrdered nat_cmp m
  pub checked : IsChecked h.row
  pub same : (e : ℕ) → h.received e ≡ payload_of m e

pub held_by_decoder : (d : SourceBlockDecoder) → IsOrdered nat_cmp d.received → IsHeldIn (received_of d) d.received
held_by_decoder d ordered = record { fits = d.fits; ordered = ordered; checked = d.row.checked; same = λ e. refl }

module _ (h : ReceivedBlock) (m : Payloads) (held : IsHeldIn h m) where
  -- a column that solves what was received solves the first of the equations with their values
  pub values_solved : (precode_rows : ℕ) → precode_rows ≤ h.row.ldpc_symbols + h.row.hdpc_symbols → (column : ℕ → List ℕ) → SolvesReceived h column
      → SolvesFirstEquations h.row precode_rows (received_ids h m) column (received_values h m precode_rows)
  values_solved f few column z =
      let row = h.row in
      let k = h.source_symbols in
      let size = h.configuration.symbol_size in
      let ids = received_ids h m in
      let values = received_values h m f in
      record {
        at_place = λ p. record {
          at = λ i below. elim (cases_lt i f) [
            | inl lt ↦
                ap (λ (r : ℕ → ℕ). dot octets (intermediate_symbols row) r (slice_at p column)) (stacked_above f (precode_equations row) (rows_of (symbol_coefficient row) ids) i lt)
                ∙ (z.precode.at_place p).at i (omega arith)
                ∙ ap (λ xs. at xs p) (sym (zero_at row k size m held.fits held.ordered f i (omega arith)))
            | inr past ↦
                let j : ℕ = i - f in
                let e : f + j ≡ i = omega arith in
                rw (← e) (
                ap (λ (r : ℕ → ℕ). dot octets (intermediate_symbols row) r (slice_at p column)) (stacked_below f (precode_equations row) (rows_of (symbol_coefficient row) ids) j)
                ∙ sym (sum_at row size (at ids j) column held.checked z.symbols p)
                ∙ ap (λ xs. at xs p) (elim (known_at row k size m held.fits held.ordered f j (omega arith)) [
                  | inl q ↦ z.padding (at ids j) q.from q.below ∙ sym q.is_zero
                  | inr q ↦ ap (tuple_sum row column) q.id ∙ sym (came_sum (h.received q.esi) (symbol_at values (f + j)) (tuple_sum row column (internal_id row k q.esi)) (held.same q.esi ∙ q.came) (z.received q.esi))
                ]))
          ];
        };
      }

  -- where it finds something, they do
  pub is_received : HasDeterminedRows h.row (received_ids h m) → ReceivedDetermine h
  is_received d =
      block_same h.row h.source_symbols (has_payload m) (has_received h) (λ e. sym (ap is_some (held.same e)))
      (determined_by h.row (known_ids h.row h.source_symbols (has_payload m)) (received_ids h m) (known_listed h.row h.source_symbols h.configuration.symbol_size m held.fits held.ordered).listed d)

  -- and where they do, so do the rows
  pub received_rows : ReceivedDetermine h → HasDeterminedRows h.row (received_ids h m)
  received_rows d =
      determined_list h.row (known_ids h.row h.source_symbols (has_payload m)) (received_ids h m) (known_listed h.row h.source_symbols h.configuration.symbol_size m held.fits held.ordered)
      (block_same h.row h.source_symbols (has_received h) (has_payload m) (λ e. ap is_some (held.same e)) d)

  -- fewer ids than K' determine nothing
  pub too_few : (h.row.extended_symbols - h.source_symbols) + length m.entries < h.row.extended_symbols → ReceivedDetermine h → ⊥
  too_few few d = few_not_determining h.row (received_ids h m) (omega (arith, length-known_list h.row h.source_symbols m.entries)) (received_rows d)
