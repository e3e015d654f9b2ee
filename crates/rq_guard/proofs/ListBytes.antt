-- Digests that stand one behind another.
use Rattle.std.proofs.Common.{◌≡◌, ◌↔◌, ℕ, zero, suc, ◌+◌, ◌-◌, ◌*◌, ◌/◌, ◌<◌, Option, List, [], ◌∷◌, ◌++◌, length, length-append, take, drop, map, get_or, Some, None, Bool, true, false, if◌then◌else◌, append_assoc, refl, sym, ap, ◌∙◌, arith}
use Rattle.std.specs.List.{All, concat, range_with_len}
use Rattle.std.specs.Prelude.{nat_eq, slice_get, option_and_then, ◌&&◌, ◌==◌, is_ok}
use Rattle.std.specs.Cmp.Lexicographic.{pointwise}
use Rattle.std.proofs.lemmas.Bool.{and_parts, eqb-true, eq-eqb}
use Rattle.std.proofs.lemmas.List.{drop-drop, length-drop, take_all, take_at, drop_at, ext_get_or}
use Rattle.std.proofs.lemmas.List.FromFn.{map-range_with_len_more, length-map-range_with_len, get_or-map-range_with_len}
use Rattle.std.proofs.lemmas.List.Elements.{All-head, All-tail}
use Rattle.std.proofs.Transfers.{starts_with_of_append}
use Rattle.std.proofs.lemmas.Option.{slice_get_read, get_or_from_slice_get}
use Rattle.rq_standard.specs.Configuration.{total_symbols}
use Rattle.rq_base.specs.RefusedInput.{checked_configuration}
use Rattle.rq_cells.specs.declared.head.Head.{Head}
use Rattle.rq_cells.specs.Cells.{Key, head_size, head_bytes, head_at}
use Rattle.rq_cells.proofs.HeadBytes.{length-head_bytes, head_at-begins}
use Rattle.rq_cells.proofs.Beginnings.{same_bytes, same_from_test}
use Rattle.rq_cells.proofs.Digests.{concat_next}
use Rattle.rq_guard.specs.Lists.{Listed, listed_length, is_listable, list_spelled, list_at, list_bytes, IsListable}

-- what is listed at a place of bytes
abbrev pub piece : List ℕ → ℕ → List ℕ
piece bytes i = take listed_length (drop (i * listed_length) bytes)

pub pieces_more : (bytes : List ℕ) (i : ℕ) (before after : List (List ℕ)) (next : List ℕ)
    → before ≡ map (piece bytes) (range_with_len 0 i) → next ≡ piece bytes i → after ≡ before ++ next ∷ [] → after ≡ map (piece bytes) (range_with_len 0 (i + 1))
pieces_more bytes i before after next first is more =
    more ∙ (λ j. first j ++ is j ∷ []) ∙ sym (map-range_with_len_more (piece bytes) 0 i i (omega arith))

-- a digest more
pub bytes_more : (front before after : List ℕ) (digests : List (List ℕ)) (i : ℕ) → i < length digests
    → before ≡ front ++ concat (take i digests) → after ≡ before ++ get_or digests i [] → after ≡ front ++ concat (take (i + 1) digests)
bytes_more front before after digests i within first more =
    let next : suc i ≡ i + 1 = omega arith in
    more ∙ ap (λ b. b ++ get_or digests i []) first ∙ append_assoc front (concat (take i digests)) (get_or digests i [])
    ∙ ap (λ b. front ++ b) (sym (concat_next digests i [] within) ∙ ap (λ n. concat (take n digests)) next)

-- behind a head
pub pieces_behind : (bytes : List ℕ) (n : ℕ) → length bytes ≡ head_size + listed_length * n
    → map (piece (drop head_size bytes)) (range_with_len 0 (length (drop head_size bytes) / listed_length))
    ≡ map (λ i. take listed_length (drop (head_size + i * listed_length) bytes)) (range_with_len 0 n)
pieces_behind bytes n long =
    let many : length (drop head_size bytes) / listed_length ≡ n = omega (arith, long, length-drop head_size bytes) in
    λ j. map (λ i. take listed_length (drop-drop (i * listed_length) head_size bytes j)) (range_with_len 0 (many j))

-- a slice from a place on
pub rest_of : (bytes : List ℕ) (from : ℕ) → take (length bytes - from) (drop from bytes) ≡ drop from bytes
rest_of bytes from = take_all (length bytes - from) (drop from bytes) (omega (arith, length-drop from bytes))

module _ (key : Key) (greatest : ℕ) (bytes : List ℕ) (h : Head) (is : Some h ≡ head_at key bytes) where
  -- what a list with this head is, by its test
  abbrev listed_if : Bool → Option Listed
  listed_if fits = if fits then Some (list_spelled h bytes) else None

  by_test : (fits : Bool) → is_listable greatest h (length bytes) ≡ fits → listed_if fits ≡ list_at key greatest bytes
  by_test fits e =
      ap listed_if (sym e)
      ∙ ap (option_and_then (λ k. if is_listable greatest k (length bytes) then Some (list_spelled k bytes) else None)) is

  pub list_unread : is_listable greatest h (length bytes) ≡ false → None ≡ list_at key greatest bytes
  list_unread = by_test false

  pub list_read : (listed : List (List ℕ)) → is_listable greatest h (length bytes) ≡ true
      → listed ≡ map (piece (drop head_size bytes)) (range_with_len 0 (length (drop head_size bytes) / listed_length))
      → Some (record { head = h; digests = listed }) ≡ list_at key greatest bytes
  list_read listed fits made =
      let long = (and_parts (is_ok (checked_configuration greatest h.configuration) && (h.configuration.source_blocks == 1)) (length bytes == head_size + listed_length * total_symbols h.configuration) fits).1 in
      let same = made ∙ pieces_behind bytes (total_symbols h.configuration) (eqb-true (length bytes) (head_size + listed_length * total_symbols h.configuration) long) in
      ap (λ (ds : List (List ℕ)). Some (record { head = h; digests = ds })) same ∙ by_test true fits

-- what a comparison with the digest at a place says
pub listed_there : (same : Bool) (digests : List (List ℕ)) (i : ℕ) (there digest : List ℕ) → i < length digests → there ≡ get_or digests i there
    → same ≡ pointwise nat_eq there digest → (same ≡ true) ↔ (slice_get digests i ≡ Some digest)
listed_there same digests i there digest within is by = (
  (λ yes. slice_get_read digests (length digests) i there refl within is ∙ ap Some (sym (same_from_test there digest (sym by ∙ yes)))),
  (λ at. by ∙ ap (λ d. pointwise nat_eq d digest) (is ∙ get_or_from_slice_get digests i digest there at) ∙ same_bytes digest),
)

-- ---- what is written is read

-- of digests that stand one behind another each stands at its place
piece_of : (digests : List (List ℕ)) (i : ℕ) → All (λ d. length d ≡ listed_length) digests → i < length digests → piece (concat digests) i ≡ get_or digests i []
piece_of [] i each within = absurd (omega (arith, within))
piece_of (x ∷ xs) zero each within = take_at x (concat xs) listed_length (All-head (λ d. length d ≡ listed_length) x xs each)
piece_of (x ∷ xs) (suc i) each within =
    let long = All-head (λ (d : List ℕ). length d ≡ listed_length) x xs each in
    let place : suc i * listed_length ≡ listed_length + i * listed_length = omega arith in
    ap (λ n. take listed_length (drop n (x ++ concat xs))) place
    ∙ ap (take listed_length) (sym (drop-drop (i * listed_length) listed_length (x ++ concat xs)) ∙ ap (drop (i * listed_length)) (drop_at x (concat xs) listed_length long))
    ∙ piece_of xs i (All-tail (λ d. length d ≡ listed_length) x xs each) (omega (arith, within))

length-listed : (digests : List (List ℕ)) → All (λ d. length d ≡ listed_length) digests → length (concat digests) ≡ listed_length * length digests
length-listed [] each = refl
length-listed (x ∷ xs) each =
    let long = All-head (λ (d : List ℕ). length d ≡ listed_length) x xs each in
    omega (arith, long, length-append x (concat xs), length-listed xs (All-tail (λ d. length d ≡ listed_length) x xs each))

pieces_of : (digests : List (List ℕ)) → All (λ d. length d ≡ listed_length) digests → map (piece (concat digests)) (range_with_len 0 (length digests)) ≡ digests
pieces_of digests each =
    let n = length digests in
    let many = length-map-range_with_len (piece (concat digests)) 0 n in
    ext_get_or [] _ digests many (λ i within.
    let below : i < n = omega (arith, within, many) in
    get_or-map-range_with_len (piece (concat digests)) 0 n i i [] below (omega arith) ∙ piece_of digests i each below)

module _ (key : Key) (greatest : ℕ) (l : Listed) (fits : IsListable greatest l) where
  abbrev spelled : List ℕ
  spelled = list_bytes key l

  long_head : length (head_bytes key l.head) ≡ head_size
  long_head = omega (arith, length-head_bytes key l.head, fits.head.stream, fits.head.name)

  headed : Some l.head ≡ head_at key spelled
  headed = sym (head_at-begins key spelled l.head fits.head (starts_with_of_append spelled (head_bytes key l.head) (concat l.digests) refl))

  length-spelled : length spelled ≡ head_size + listed_length * total_symbols l.head.configuration
  length-spelled =
      omega (arith, length-append (head_bytes key l.head) (concat l.digests), long_head, length-listed l.digests fits.digests, fits.many)

  listable : is_listable greatest l.head (length spelled) ≡ true
  listable = λ j.
      is_ok (fits.accepted j) && (fits.one_block j == 1)
      && eq-eqb (length spelled) (head_size + listed_length * total_symbols l.head.configuration) length-spelled j

  behind : drop head_size spelled ≡ concat l.digests
  behind = drop_at (head_bytes key l.head) (concat l.digests) head_size long_head

  pub read_again : list_at key greatest spelled ≡ Some l
  read_again =
      let count : length (drop head_size spelled) / listed_length ≡ length l.digests =
      ap (λ (b : List ℕ). length b / listed_length) behind ∙ omega (arith, length-listed l.digests fits.digests) in
      let same : map (piece (drop head_size spelled)) (range_with_len 0 (length (drop head_size spelled) / listed_length)) ≡ l.digests =
      (λ j. map (piece (behind j)) (range_with_len 0 (count j))) ∙ pieces_of l.digests fits.digests in
      sym (list_read key greatest spelled l.head headed l.digests listable (sym same))
