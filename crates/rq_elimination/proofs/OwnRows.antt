-- Rows of which some have octets of their own, in one buffer.
use Rattle.std.proofs.Common.{◌≡◌, ◌≢◌, ℕ, zero, suc, ◌%◌, ◌<◌, ◌≤◌, ◌^◌, inl, inr, List, [], ◌∷◌, ◌++◌, length, set, get_or, replicate, None, Some, refl, sym, ap, subst, ◌∙◌, arith}
use Rattle.std.specs.Prelude.{All}
use Rattle.std.proofs.Math.ListN.{get_or-append}
use Rattle.std.proofs.Math.Seq.{get_or-append_seam, set-append_seam}
use Rattle.std.proofs.lemmas.Bool.{cases_eq}
use Rattle.std.proofs.lemmas.List.{ext_get_or, get_or-map, get_or-set_same, get_or-set_other, get_or-replicate, length-append, length-map, length-set, length-replicate}
use Rattle.std.proofs.lemmas.List.Elements.{All-append, All-set, All-from_get_or}
use Rattle.rq_algebra.specs.Operations.{meant_at}
use Rattle.rq_algebra.specs.Systems.{at}
use Rattle.rq_bytes.specs.SymbolSlab.{Slab, slab_of, symbol_in}
use Rattle.rq_parts.specs.DenseOctetMatrix.{OctetTable, IsOctetRow, row_at, with_row}
use Rattle.rq_bytes.specs.BinaryOctetVec.{octets_of_bits}
use Rattle.rq_elimination.specs.InactiveEntries.{ArePlaced, own_rows, place_before, placeless, row_placed}
use Rattle.rq_standard.specs.Rows.{row_sum, row_multiple}
use Rattle.rq_elimination.proofs.UnpackedBits.{bits_among_zeros}

-- what callers see
abbrev pub table_of_own : Slab → List ℕ → OctetTable
table_of_own octets places = record { width = octets.symbol_size; rows = own_rows octets.values places }

-- ---- places

placeless-set : (places : List ℕ) (i place : ℕ) → i < length places → at places i ≡ 0 → suc (placeless (set places i (suc place))) ≡ placeless places
placeless-set [] i place l none = absurd (omega arith)
placeless-set (zero ∷ places) zero place l none = refl
placeless-set (suc p ∷ places) zero place l none = absurd (omega arith)
placeless-set (zero ∷ places) (suc i) place l none = ap suc (placeless-set places i place (omega arith) none)
placeless-set (suc p ∷ places) (suc i) place l none = placeless-set places i place (omega arith) none

placeless-replicate : (n : ℕ) → placeless (replicate n 0) ≡ n
placeless-replicate zero = refl
placeless-replicate (suc n) = ap suc (placeless-replicate n)

get_or-own : (octets : List (List ℕ)) (places : List ℕ) (i : ℕ) → i < length places → get_or (own_rows octets places) i [] ≡ row_placed octets (at places i)
get_or-own octets places i l = get_or-map (row_placed octets) places i 0 [] l

-- one row has another piece, in other places and octets, and the other rows have the same
own_rows-set : (octets octets' : List (List ℕ)) (places places' : List ℕ) (i : ℕ) (row : List ℕ) → length places' ≡ length places → i < length places
    → row_placed octets' (at places' i) ≡ row → ((k : ℕ) → k < length places → k ≢ i → row_placed octets' (at places' k) ≡ row_placed octets (at places k))
    → own_rows octets' places' ≡ set (own_rows octets places) i row
own_rows-set octets octets' places places' i row same inside here elsewhere =
    let rows = own_rows octets places in
    let long = length-map places (row_placed octets) in
    let long' = length-map places' (row_placed octets') in
    ext_get_or [] (own_rows octets' places') (set rows i row) (long' ∙ same ∙ sym (length-set rows i row ∙ long)) (λ k l.
    let in_places : k < length places = omega (arith, long', same) in
    get_or-own octets' places' k (omega (arith, long'))
    ∙ elim (cases_eq k i) [
      | inl e ↦ rw e (here ∙ sym (get_or-set_same rows i row [] (omega (arith, long))))
      | inr d ↦ elsewhere k in_places d ∙ sym (get_or-own octets places k in_places) ∙ sym (get_or-set_other rows i k row [] d)
    ])

-- the place of a row
some_place : (place k : ℕ) → place_before place ≡ Some k → place ≡ suc k
some_place zero k e = absurd (cc e)
some_place (suc place) k e = ap suc (cc e)

pub kept_place : {slice places : List ℕ} (row place : ℕ) → slice ≡ places → Some place ≡ place_before (at slice row) → at places row ≡ suc place
kept_place {slice} {places} row place same found = some_place (at places row) place (ap (λ ps. place_before (at ps row)) (sym same) ∙ sym found)

none_place : (place : ℕ) → place_before place ≡ None → place ≡ 0
none_place zero e = refl
none_place (suc place) e = absurd (cc e)

pub no_place : {slice places : List ℕ} (row : ℕ) → slice ≡ places → place_before (at slice row) ≡ None → at places row ≡ 0
no_place {slice} {places} row same none = none_place (at places row) (ap (λ ps. place_before (at ps row)) (sym same) ∙ none)

-- ---- a buffer, and what callers see of it

-- a table whose row is written, by octets where what is written is below 256
pub record HasRowWritten (now : OctetTable) (row : ℕ) (ws : List ℕ) (after : OctetTable) : Type 0 where
  pub is : after ≡ with_row now row ws
  pub octets : All (λ x. x < 256) ws → IsOctetRow now.width (row_at after row)

module _ {octets : Slab} {places : List ℕ} (are : ArePlaced octets places) {now : OctetTable} (seen : table_of_own octets places ≡ now) where
  pub width_is : octets.symbol_size ≡ now.width
  width_is = ap (λ (t : OctetTable). t.width) seen

  height_is : length places ≡ length now.rows
  height_is = sym (length-map places (row_placed octets.values)) ∙ ap (λ (t : OctetTable). length t.rows) seen

  module _ (row : ℕ) (there : row < length now.rows) where
    pub in_places : row < length places
    in_places = omega (arith, height_is)

    row_now : row_at now row ≡ row_placed octets.values (at places row)
    row_now = ap (λ (t : OctetTable). row_at t row) (sym seen) ∙ get_or-own octets.values places row in_places

    below : at places row ≤ length octets.values
    below = are.inside row 0 in_places

    pub is_bits : at places row ≡ 0 → length (row_at now row) ≡ 0
    is_bits none = ap length row_now ∙ ap (λ p. length (row_placed octets.values p)) none

    -- one that has a place
    module _ (place : ℕ) (is : at places row ≡ suc place) where
      pub place_below : place < length octets.values
      place_below = omega (arith, below, is)

      -- it is read
      pub read : symbol_in octets place ≡ row_at now row
      read = ap (λ o. get_or octets.values (meant_at o place) []) are.order ∙ sym (row_now ∙ ap (row_placed octets.values) is)

      -- it is written
      module _ (octets' : Slab) (ws : List ℕ) (long : length ws ≡ octets.symbol_size) (written_is : octets' ≡ record octets { values = set octets.values (meant_at octets.order place) ws }) where
        set_there : octets' ≡ record octets { values = set octets.values place ws }
        set_there = written_is ∙ ap (λ o. record octets { values = set octets.values (meant_at o place) ws }) are.order

        elsewhere : (i : ℕ) → i < length places → i ≢ row → (q : ℕ) → at places i ≡ q → row_placed (set octets.values place ws) q ≡ row_placed octets.values q
        elsewhere i l d zero e = refl
        elsewhere i l d (suc m) e = get_or-set_other octets.values place m ws [] (λ same. d (are.apart i row l in_places (λ none. absurd (omega (arith, none, e))) (e ∙ ap suc same ∙ sym is)))

        row_written : table_of_own octets' places ≡ with_row now row ws
        row_written =
            ap (λ (o : Slab). table_of_own o places) set_there
            ∙ ap (λ (rows : List (List ℕ)). record { width = octets.symbol_size; rows = rows }) (own_rows-set octets.values (set octets.values place ws) places places row ws refl in_places
            (ap (row_placed (set octets.values place ws)) is ∙ get_or-set_same octets.values place ws [] place_below)
            (λ i l d. elsewhere i l d (at places i) refl))
            ∙ ap (λ t. with_row t row ws) seen

        pub written : HasRowWritten now row ws (table_of_own octets' places)
        written = record {
          is = row_written;
          octets = λ are_small. rw (ap (λ (t : OctetTable). row_at t row) row_written ∙ get_or-set_same now.rows row ws [] there) (long ∙ width_is, are_small);
        }

    -- one without a place gets the one behind all others
    module _ (none : at places row ≡ 0) (octets' : Slab) (ws : List ℕ) (long : length ws ≡ octets.symbol_size) (is : octets' ≡ record octets { values = octets.values ++ ws ∷ [] }) where
      behind : length (octets.values ++ ws ∷ []) ≡ suc (length octets.values)
      behind = length-append octets.values (ws ∷ []) ∙ omega arith

      placeless_left : suc (placeless (set places row (suc (length octets.values)))) ≡ placeless places
      placeless_left = placeless-set places row (length octets.values) in_places none

      pushed_are : ArePlaced (record octets { values = octets.values ++ ws ∷ [] }) (set places row (suc (length octets.values)))
      pushed_are =
          let n = length octets.values in
          let same = length-set places row (suc n) in
          record {
            whole = are.whole;
            narrow = are.narrow;
            few = omega (arith, same, are.few);
            order = are.order;
            symbols = All-append (λ symbol. length symbol ≡ octets.symbol_size) octets.values (ws ∷ []) are.symbols (All-from_get_or (λ symbol. length symbol ≡ octets.symbol_size) (ws ∷ []) [] (λ i l. ap (λ k. length (get_or (ws ∷ []) k [])) (let first : i ≡ 0 = omega arith in first) ∙ long));
            counted = omega (arith, same, behind, placeless_left, are.counted);
            inside = All-set (λ place. place ≤ length (octets.values ++ ws ∷ [])) places row (suc n) (omega (arith, behind)) (λ i d l. let le = are.inside i d l in omega (arith, le, behind));
            apart = λ i j l m some e.
                let in_i : i < length places = omega (arith, same) in
                let in_j : j < length places = omega (arith, same) in
                let here : at (set places row (suc n)) row ≡ suc n = get_or-set_same places row (suc n) 0 in_places in
                let other : (k : ℕ) → k ≢ row → at (set places row (suc n)) k ≡ at places k = λ k d. get_or-set_other places row k (suc n) 0 d in
                let under : (k : ℕ) → k < length places → at places k ≤ n = λ k m. are.inside k 0 m in
                elim (cases_eq i row) [
                  | inl a ↦ elim (cases_eq j row) [
                    | inl b ↦ a ∙ sym b
                    | inr b ↦ absurd (omega (arith, ap (at (set places row (suc n))) a, here, e, other j b, under j in_j))
                  ]
                  | inr a ↦ elim (cases_eq j row) [
                    | inl b ↦ absurd (omega (arith, ap (at (set places row (suc n))) b, here, e, other i a, under i in_i))
                    | inr b ↦ are.apart i j in_i in_j (λ z. some (other i a ∙ z)) (sym (other i a) ∙ e ∙ other j b)
                  ]
                ];
          }

      pushed : table_of_own (record octets { values = octets.values ++ ws ∷ [] }) (set places row (suc (length octets.values))) ≡ with_row now row ws
      pushed =
          let n = length octets.values in
          ap (λ (rows : List (List ℕ)). record { width = octets.symbol_size; rows = rows }) (
          own_rows-set octets.values (octets.values ++ ws ∷ []) places (set places row (suc n)) row ws (length-set places row (suc n)) in_places
          (ap (row_placed (octets.values ++ ws ∷ [])) (get_or-set_same places row (suc n) 0 in_places) ∙ get_or-append_seam octets.values ws [] [])
          (λ k l d.
          ap (row_placed (octets.values ++ ws ∷ [])) (get_or-set_other places row k (suc n) 0 d)
          ∙ kept (at places k) (are.inside k 0 l)))
          ∙ ap (λ t. with_row t row ws) seen where
            kept : (q : ℕ) → q ≤ length octets.values → row_placed (octets.values ++ ws ∷ []) q ≡ row_placed octets.values q
            kept zero l = refl
            kept (suc m) l = get_or-append octets.values (ws ∷ []) [] m (omega arith)

      module _ (number : ℕ) (number_is : number ≡ length octets'.values) where
        number_next : number ≡ suc (length octets.values)
        number_next = number_is ∙ ap (λ (o : Slab). length o.values) is ∙ behind

        pub placed_next : ArePlaced octets' (set places row number)
        placed_next = rw (number_next, is) pushed_are

        pub seen_next : table_of_own octets' (set places row number) ≡ with_row now row ws
        seen_next = rw (number_next, is) pushed

-- ---- no row has octets

pub none_placed : (width height : ℕ) (octets : Slab) (places : List ℕ) → octets ≡ slab_of width [] → places ≡ replicate height 0 → width % 32 ≡ 0 → width < 2 ^ 17 → height < 2 ^ 31 → ArePlaced octets places
none_placed width height octets places is none whole narrow few =
    let long : length places ≡ height = ap length none ∙ length-replicate {A = ℕ} height 0 in
    let zero_at : (i : ℕ) → i < length places → at places i ≡ 0 = λ i l. ap (λ ps. at ps i) none ∙ get_or-replicate height i 0 0 (omega (arith, long)) in
    subst (λ (o : Slab). ArePlaced o places) (sym is) (record {
      whole = whole;
      narrow = narrow;
      few = omega (arith, long);
      order = refl;
      symbols = λ i d l. absurd (omega arith);
      counted = omega (arith, ap placeless none ∙ placeless-replicate height, long);
      inside = All-from_get_or (λ place. place ≤ 0) places 0 (λ i l. omega (arith, zero_at i l));
      apart = λ i j l m some e. absurd (some (zero_at i l));
    })

pub none_seen : (width height : ℕ) (octets : Slab) (places : List ℕ) → octets ≡ slab_of width [] → places ≡ replicate height 0 → table_of_own octets places ≡ record { width = width; rows = replicate height [] }
none_seen width height octets places is none =
    ap (λ (o : Slab). table_of_own o places) is
    ∙ ap (λ (rows : List (List ℕ)). record { width = width; rows = rows }) (ap (own_rows []) none ∙ none_of height) where
      none_of : (n : ℕ) → own_rows [] (replicate n 0) ≡ replicate n []
      none_of zero = refl
      none_of (suc n) = ap (λ rows. [] ∷ rows) (none_of n)

-- ---- a buffer with more bits as octets

pub appended : (old zeros : Slab) (bits ws lent : List ℕ) (place : ℕ) → old.order ≡ None → place ≡ length old.values → zeros ≡ record old { values = old.values ++ replicate old.symbol_size 0 ∷ [] }
    → lent ≡ symbol_in zeros place → ws ≡ row_sum lent (row_multiple 1 (octets_of_bits (length lent) bits))
    → ◌≡◌ {A = Slab} (record zeros { values = set zeros.values (meant_at zeros.order place) ws }) (record old { values = old.values ++ octets_of_bits old.symbol_size bits ∷ [] })
appended old zeros bits ws lent place no_order place_is zeros_is lent_is ws_is =
    let row = replicate {A = ℕ} old.symbol_size 0 in
    let more = old.values ++ row ∷ [] in
    let lent_zeros : lent ≡ row =
    lent_is
    ∙ ap (λ (s : Slab). symbol_in s place) zeros_is
    ∙ ap (λ o. get_or more (meant_at o place) []) no_order
    ∙ ap (λ p. get_or more p []) place_is
    ∙ get_or-append_seam old.values row [] []
    in
    ap (λ (s : Slab). record s { values = set s.values (meant_at s.order place) ws }) zeros_is
    ∙ ap (λ o. record old { values = set more (meant_at o place) ws }) no_order
    ∙ ap (λ p. record old { values = set more p ws }) place_is
    ∙ ap (λ (v : List (List ℕ)). record old { values = v }) (set-append_seam old.values row [] ws)
    ∙ ap (λ w. record old { values = old.values ++ w ∷ [] }) (ws_is ∙ bits_among_zeros old.symbol_size bits lent lent_zeros)
