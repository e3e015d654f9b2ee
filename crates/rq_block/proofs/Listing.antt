-- The entries of a map of payloads, listed as ids and values.
use Rattle.std.proofs.Common.{◌≡◌, ℕ, ◌+◌, ◌-◌, ◌<◌, ◌≤◌, true, List, [], ◌∷◌, ◌++◌, All, length, map, replicate, Some, Vec, Global, refl, sym, ap, ◌∙◌, arith, append_assoc, vec_items}
use Rattle.std.specs.Prelude.{is_some, option_map}
use Rattle.std.specs.List.{slice_get, range_with_len}
use Rattle.std.specs.Ordering.{nat_cmp}
use Rattle.std.specs.Map.{keys_of}
use Rattle.std.specs.BTreeMap.{IsOrdered}
use Rattle.std.proofs.lemmas.Cmp.{nat_cmp_total}
use Rattle.std.proofs.lemmas.List.{length-append, length-map, length-replicate}
use Rattle.std.proofs.lemmas.List.Elements.{All-cons, All-map, All-nil}
use Rattle.std.proofs.lemmas.List.FromFn.{length-range_with_len}
use Rattle.std.proofs.lemmas.Map.Entries.{btree_map_get_place}
use Rattle.std.proofs.lemmas.Map.Views.{length-le_from_below}
use Rattle.rq_standard.specs.declared.row.TableRow.{TableRow}
use Rattle.rq_standard.specs.Equations.{zero_symbol, internal_id}
use Rattle.rq_block.specs.Known.{known_list, values_after}
use Rattle.rq_block.specs.Payloads.{Payloads, payload_of, has_payload}

-- ---- entries

slice_get-seam : {X : Type 0} → (xs ys : List X) (x : X) → slice_get (xs ++ x ∷ ys) (length xs) ≡ Some x
slice_get-seam [] ys x = refl
slice_get-seam (y ∷ xs) ys x = slice_get-seam xs ys x

pub entry_payload : (m : Payloads) (i k : ℕ) (v : Vec ℕ Global) → IsOrdered nat_cmp m → slice_get m.entries i ≡ Some (k, v) → payload_of m k ≡ Some (vec_items v)
entry_payload m i k v ordered at = ap (option_map vec_items) (btree_map_get_place nat_cmp_total m i k v ordered at)

-- the entry that comes next
next_payload : (m : Payloads) (done rest : List (ℕ × Vec ℕ Global)) (k : ℕ) (v : Vec ℕ Global) → IsOrdered nat_cmp m → done ++ (k, v) ∷ rest ≡ m.entries → payload_of m k ≡ Some (vec_items v)
next_payload m done rest k v ordered whole = entry_payload m (length done) k v ordered (ap (λ es. slice_get es (length done)) (sym whole) ∙ slice_get-seam done rest (k, v))

-- what holds of a payload and its id holds of each entry
pub each_entry : (m : Payloads) (P : ℕ × Vec ℕ Global → Type 0) → IsOrdered nat_cmp m → ((e : ℕ) (v : Vec ℕ Global) → payload_of m e ≡ Some (vec_items v) → P (e, v)) → (es front : List (ℕ × Vec ℕ Global)) → front ++ es ≡ m.entries → All P es
each_entry m P ordered holds [] front whole = All-nil P
each_entry m P ordered holds (e ∷ es) front whole =
    All-cons P e es (holds e.0 e.1 (next_payload m front es e.0 e.1 ordered whole)) (each_entry m P ordered holds es (front ++ e ∷ []) (append_assoc front (e ∷ []) es ∙ whole))

-- where the ids are small, those of the entries are
pub entries_below : (m : Payloads) (n : ℕ) → IsOrdered nat_cmp m → ((e : ℕ) → has_payload m e ≡ true → e < n) → All (λ e. e.0 < n) m.entries
entries_below m n ordered few = each_entry m (λ e. e.0 < n) ordered (λ e v came. few e (ap is_some came)) m.entries [] refl

-- so there are few
pub few_entries : (m : Payloads) (n : ℕ) → IsOrdered nat_cmp m → ((e : ℕ) → has_payload m e ≡ true → e < n) → length m.entries ≤ n
few_entries m n ordered few =
    omega (arith, length-map m.entries (λ e. e.0), length-le_from_below n (keys_of m.entries) ordered (All-map (λ x. x < n) (λ e. e.0) m.entries (entries_below m n ordered few)))

-- ---- how many

pub length-known_list : (row : TableRow) (k : ℕ) (done : List (ℕ × Vec ℕ Global)) → length (known_list row k done) ≡ row.extended_symbols - k + length done
length-known_list row k done = length-append (range_with_len k (row.extended_symbols - k)) (map (λ e. internal_id row k e.0) done) ∙ omega (arith, length-range_with_len k (row.extended_symbols - k), length-map done (λ e. internal_id row k e.0))

-- zeros for `precode_rows` of the LDPC and HDPC equations and for the padding, and the payloads
abbrev pub known_values : TableRow → ℕ → ℕ → ℕ → List (ℕ × Vec ℕ Global) → List (List ℕ)
known_values row k precode_rows size entries = values_after (precode_rows + (row.extended_symbols - k)) size entries

-- a value for each of the first equations and each id
pub length-known_values : (row : TableRow) (k precode_rows size : ℕ) (done : List (ℕ × Vec ℕ Global)) → length (known_values row k precode_rows size done) ≡ precode_rows + length (known_list row k done)
length-known_values row k precode_rows size done =
    let zeros : ℕ = precode_rows + (row.extended_symbols - k) in
    length-append (replicate zeros (zero_symbol size)) (map (λ e. e.1.items) done) ∙ omega (arith, length-replicate zeros (zero_symbol size), length-map done (λ e. e.1.items), length-known_list row k done)
