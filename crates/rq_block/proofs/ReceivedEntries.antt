-- What was received, key by key and payload by payload.
use Rattle.std.proofs.Common.{◌≡◌, ℕ, suc, ◌+◌, ◌-◌, ◌*◌, true, List, [], ◌∷◌, ◌++◌, All, length, map, replicate, Vec, Global, refl, sym, ap, ◌∙◌, subst, arith, append-nil, append_assoc, vec_items}
use Rattle.std.specs.List.{range_with_len}
use Rattle.std.specs.Ordering.{nat_cmp}
use Rattle.std.specs.BTreeMap.{ContainsKey, IsOrdered, keys, values}
use Rattle.std.specs.Option.{ForSome}
use Rattle.std.proofs.Math.Seq.{get_or-append_seam}
use Rattle.std.proofs.lemmas.List.{length-append, length-replicate, map-append}
use Rattle.std.proofs.lemmas.List.Elements.{All-map}
use Rattle.std.proofs.lemmas.Simd.{map-map}
use Rattle.rq_bytes.specs.Ranges.{cut}
use Rattle.rq_bytes.proofs.Cuts.{cut-append, cut-replicate}
use Rattle.rq_standard.specs.declared.row.TableRow.{TableRow}
use Rattle.rq_standard.specs.Equations.{internal_id, zero_symbol}
use Rattle.rq_block.specs.Known.{known_list, values_after}
use Rattle.rq_block.specs.Payloads.{Payloads, has_payload, payload_of}
use Rattle.rq_block.proofs.Listing.{each_entry}
use Rattle.rq_standard.proofs.OptionValues.{is_some-mapped}

-- ---- keys

-- a payload came with the key that is next
pub next_has_payload : (m : Payloads) (done rest : List ℕ) (e : ℕ) → All (ContainsKey nat_cmp m) (keys m) → done ++ e ∷ rest ≡ keys m → has_payload m e ≡ true
next_has_payload m done rest e found whole =
    let all : All (ContainsKey nat_cmp m) (done ++ e ∷ rest) = subst (All (ContainsKey nat_cmp m)) (sym whole) found in
    is_some-mapped vec_items _ ∙ rw (get_or-append_seam done e rest 0) at (all (length done) 0 (omega (arith, length-append done (e ∷ rest))))

-- the keys are those of what was received
pub known_by_keys : (row : TableRow) (k : ℕ) (m : Payloads) (done : List ℕ) → done ≡ keys m → range_with_len k (row.extended_symbols - k) ++ map (internal_id row k) done ≡ known_list row k m.entries
known_by_keys row k m done all = ap (λ xs. range_with_len k (row.extended_symbols - k) ++ xs) (ap (map (internal_id row k)) all ∙ map-map (internal_id row k) (λ e. e.0) m.entries)

-- ---- payloads

-- of all payloads the first stand one after another behind zeros
pub record AppendsSoFar (zeros size : ℕ) (all done rest : List (Vec ℕ Global)) (bytes : List ℕ) : Type 0 where
  pub whole : done ++ rest ≡ all
  pub long : length bytes ≡ (zeros + length done) * size
  pub symbols : cut (zeros + length done) size bytes ≡ replicate zeros (zero_symbol size) ++ map vec_items done

-- before the first one
pub appends_none : (zeros size : ℕ) (all rest : List (Vec ℕ Global)) (bytes : List ℕ) → rest ≡ all → bytes ≡ replicate (zeros * size) 0 → AppendsSoFar zeros size all [] rest bytes
appends_none zeros size all rest bytes is blank = record {
  whole = is;
  long = ap length blank ∙ length-replicate (zeros * size) 0 ∙ ap (λ n. n * size) (let e : zeros ≡ zeros + 0 = omega arith in e);
  symbols = ap (λ n. cut n size bytes) (let e : zeros + 0 ≡ zeros = omega arith in e) ∙ ap (cut zeros size) blank ∙ cut-replicate zeros size 0 ∙ sym (append-nil (replicate zeros (zero_symbol size)));
}

-- one more
pub appends_more : (m : Payloads) (zeros size : ℕ) → IsOrdered nat_cmp m → ((e : ℕ) → ForSome (payload_of m e) (λ payload. length payload ≡ size)) → (done rest left : List (Vec ℕ Global)) (v : Vec ℕ Global) (old new : List ℕ)
    → AppendsSoFar zeros size (values m) done rest old → rest ≡ v ∷ left → new ≡ old ++ v.items → AppendsSoFar zeros size (values m) (done ++ v ∷ []) left new
appends_more m zeros size ordered sized done rest left v old new so next put =
    let whole : done ++ v ∷ left ≡ values m = ap (λ r. done ++ r) (sym next) ∙ so.whole in
    let all : All (λ w. length w.items ≡ size) (values m) = All-map (λ w. length w.items ≡ size) (λ e. e.1) m.entries (each_entry m (λ e. length e.1.items ≡ size) ordered (λ e w here. sized e w.items here) m.entries [] refl) in
    let long : length v.items ≡ size = rw (get_or-append_seam done v left v) at (subst (All (λ w. length w.items ≡ size)) (sym whole) all (length done) v (omega (arith, length-append done (v ∷ left)))) in
    let count : zeros + length (done ++ v ∷ []) ≡ suc (zeros + length done) = ap (λ n. zeros + n) (length-append done (v ∷ [])) ∙ omega arith in
    let zero_symbols = replicate zeros (zero_symbol size) in
    record {
      whole = append_assoc done (v ∷ []) left ∙ whole;
      long = ap length put ∙ length-append old v.items ∙ ap (λ n. n + length v.items) so.long ∙ ap (λ n. (zeros + length done) * size + n) long ∙ (let e : (zeros + length done) * size + size ≡ suc (zeros + length done) * size = omega arith in e) ∙ ap (λ n. n * size) (sym count);
      symbols = ap (λ n. cut n size new) count ∙ ap (cut (suc (zeros + length done)) size) put
          ∙ cut-append (zeros + length done) size old v.items so.long long
          ∙ ap (λ xs. xs ++ v.items ∷ []) so.symbols
          ∙ append_assoc zero_symbols (map vec_items done) (v.items ∷ [])
          ∙ ap (λ xs. zero_symbols ++ xs) (sym (map-append vec_items done (v ∷ [])));
    }

-- all of them
pub appends_all : (zeros size : ℕ) (m : Payloads) (done rest : List (Vec ℕ Global)) (bytes : List ℕ) (count : ℕ) → AppendsSoFar zeros size (values m) done rest bytes → rest ≡ [] → count ≡ zeros + length (values m)
    → (length bytes ≡ count * size) × (cut count size bytes ≡ values_after zeros size m.entries)
appends_all zeros size m done rest bytes count so none is =
    let all : done ≡ values m = sym (append-nil done) ∙ ap (λ r. done ++ r) (sym none) ∙ so.whole in
    let same : zeros + length done ≡ count = ap (λ xs. zeros + length xs) all ∙ sym is in
    (so.long ∙ ap (λ n. n * size) same, ap (λ n. cut n size bytes) (sym same) ∙ so.symbols ∙ ap (λ xs. replicate zeros (zero_symbol size) ++ map vec_items xs) all ∙ ap (λ xs. replicate zeros (zero_symbol size) ++ xs) (map-map vec_items (λ e. e.1) m.entries))
