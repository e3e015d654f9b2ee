-- The head that bytes begin with.
use Rattle.std.proofs.Common.{◌≡◌, ℕ, ◌+◌, ◌-◌, ◌<◌, ◌≤◌, min, List, ◌++◌, length, take, drop, refl, sym, ap, subst, ◌∙◌, arith, Some, None, Bool, true, false, if◌then◌else◌, length-append, length-take, length-take-le}
use Rattle.std.specs.Int.{w32, to_be_bytes, from_be_bytes}
use Rattle.std.specs.List.{starts_with}
use Rattle.std.specs.Prelude.{nat_eq}
use Rattle.std.specs.Bool.{then_some}
use Rattle.std.specs.Io.{StartsWith}
use Rattle.std.proofs.Transfers.{starts_with_length}
use Rattle.std.proofs.lemmas.List.{length-drop}
use Rattle.std.proofs.lemmas.Nat.{from_be_bytes-to_be_bytes_4, be_bytes_4}
use Rattle.std.proofs.lemmas.Option.{none-some, same_Some}
use Rattle.sha2.specs.Sha512.{sha512}
use Rattle.sha2.proofs.Facts512.{length-sha512}
use Rattle.rq_hmac.specs.Hmac.{hmac_sha512, padded_key}
use Rattle.rq_standard.specs.Configuration.{Configuration, header_bytes, configuration_of_bytes}
use Rattle.rq_standard.proofs.HeaderBytes.{configuration_of_bytes-header_bytes}
use Rattle.rq_cells.specs.declared.head.Head.{Head}
use Rattle.rq_cells.specs.Cells.{Key, mark, check_of, head_fields, head_bytes, head_size, head_spelled, head_at, IsHead}
use Rattle.rq_cells.proofs.Beginnings.{begins, refuted, test_true, test_false, begins_first, begins_second, begins_both, AreBytes, part_fits}

pub length-header_bytes : (c : Configuration) → length (header_bytes c) ≡ 12
unfolding header_bytes
length-header_bytes c = refl

pub length-check_of : (key : Key) (bytes : List ℕ) → length (check_of key bytes) ≡ 8
length-check_of None bytes = length-take-le 8 (sha512 bytes) (omega (arith, length-sha512 bytes))
length-check_of (Some key) bytes =
    length-take-le 8 (hmac_sha512 key bytes) (omega (arith, length-sha512 (padded_key key 0x5c ++ sha512 (padded_key key 0x36 ++ bytes))))

-- ---- beginnings of a head

abbrev pub to_stream : Head → List ℕ
to_stream h = mark ++ h.stream

abbrev pub to_number : Head → List ℕ
to_number h = to_stream h ++ to_be_bytes w32 h.number

abbrev pub to_name : Head → List ℕ
to_name h = to_number h ++ h.name

length-to_stream : (h : Head) → length (to_stream h) ≡ 4 + length h.stream
length-to_stream h = length-append mark h.stream

length-to_number : (h : Head) → length (to_number h) ≡ 8 + length h.stream
length-to_number h =
    let four : length (to_be_bytes w32 h.number) ≡ 4 = refl in
    omega (arith, length-append (to_stream h) (to_be_bytes w32 h.number), length-to_stream h, four)

length-to_name : (h : Head) → length (to_name h) ≡ 8 + length h.stream + length h.name
length-to_name h = omega (arith, length-append (to_number h) h.name, length-to_number h)

pub length-head_fields : (h : Head) → length (head_fields h) ≡ 20 + length h.stream + length h.name
length-head_fields h = omega (arith, length-append (to_name h) (header_bytes h.configuration), length-to_name h, length-header_bytes h.configuration)

pub length-head_bytes : (key : Key) (h : Head) → length (head_bytes key h) ≡ 28 + length h.stream + length h.name
length-head_bytes key h =
    omega (arith, length-append (head_fields h) (check_of key (head_fields h)), length-head_fields h, length-check_of key (head_fields h))

-- bytes that begin with a head spell it
module _ (bytes : List ℕ) (h : Head) (streamed : length h.stream ≡ 8) (named : length h.name ≡ 16) (starts : StartsWith bytes (head_fields h)) where
  begins_to_name : StartsWith bytes (to_name h)
  begins_to_name = begins_first bytes (to_name h) (header_bytes h.configuration) starts

  begins_to_number : StartsWith bytes (to_number h)
  begins_to_number = begins_first bytes (to_number h) h.name begins_to_name

  begins_to_stream : StartsWith bytes (to_stream h)
  begins_to_stream = begins_first bytes (to_stream h) (to_be_bytes w32 h.number) begins_to_number

  pub begins_with_mark : StartsWith bytes mark
  begins_with_mark = begins_first bytes mark h.stream begins_to_stream

  stream_there : take 8 (drop 4 bytes) ≡ h.stream
  stream_there = ap (λ n. take n (drop 4 bytes)) (sym streamed) ∙ begins_second bytes mark h.stream begins_to_stream

  number_there : take 4 (drop 12 bytes) ≡ to_be_bytes w32 h.number
  number_there =
      let place : 12 ≡ length (to_stream h) = omega (arith, length-to_stream h, streamed) in
      ap (λ n. take 4 (drop n bytes)) place ∙ begins_second bytes (to_stream h) (to_be_bytes w32 h.number) begins_to_number

  name_there : take 16 (drop 16 bytes) ≡ h.name
  name_there =
      let place : 16 ≡ length (to_number h) = omega (arith, length-to_number h, streamed) in
      (λ i. take (sym named i) (drop (place i) bytes)) ∙ begins_second bytes (to_number h) h.name begins_to_name

  pub header_there : take 12 (drop 32 bytes) ≡ header_bytes h.configuration
  header_there =
      let place : 32 ≡ length (to_name h) = omega (arith, length-to_name h, streamed, named) in
      (λ i. take (sym (length-header_bytes h.configuration) i) (drop (place i) bytes))
      ∙ begins_second bytes (to_name h) (header_bytes h.configuration) starts

  pub fields_there : take 44 bytes ≡ head_fields h
  fields_there =
      let size : 44 ≡ length (head_fields h) = omega (arith, length-head_fields h, streamed, named) in
      ap (λ n. take n bytes) size ∙ starts

  pub spelled_by : IsHead h → head_spelled bytes ≡ h
  spelled_by fits =
      let numbered = ap (from_be_bytes w32) number_there ∙ from_be_bytes-to_be_bytes_4 h.number fits.number in
      let configured = ap configuration_of_bytes header_there ∙ configuration_of_bytes-header_bytes h.configuration fits.configuration in
      λ i. record { stream = stream_there i; number = numbered i; name = name_there i; configuration = configured i }

pub spelled : (key : Key) (bytes : List ℕ) (h : Head) → IsHead h → StartsWith bytes (head_bytes key h) → head_spelled bytes ≡ h
spelled key bytes h fits starts = spelled_by bytes h fits.stream fits.name (begins_first bytes (head_fields h) (check_of key (head_fields h)) starts) fits

-- the answer by the test
pub head_at-true : (key : Key) (bytes : List ℕ) → StartsWith bytes (head_bytes key (head_spelled bytes)) → head_at key bytes ≡ Some (head_spelled bytes)
head_at-true key bytes starts = ap (λ b. if b then Some (head_spelled bytes) else None) (test_true bytes (head_bytes key (head_spelled bytes)) starts)

pub head_at-false : (key : Key) (bytes : List ℕ) → (StartsWith bytes (head_bytes key (head_spelled bytes)) → ⊥) → head_at key bytes ≡ None
head_at-false key bytes other = ap (λ b. if b then Some (head_spelled bytes) else None) (test_false bytes (head_bytes key (head_spelled bytes)) other)

-- the head that was read
pub record WasRead (key : Key) (bytes : List ℕ) (h : Head) : Type 0 where
  pub is_spelled : head_spelled bytes ≡ h
  pub starts : StartsWith bytes (head_bytes key h)

pub was_read : (key : Key) (bytes : List ℕ) (h : Head) → head_at key bytes ≡ Some h → WasRead key bytes h
was_read key bytes h = by (starts_with nat_eq bytes (head_bytes key (head_spelled bytes))) refl
  where
    by : (b : Bool) → starts_with nat_eq bytes (head_bytes key (head_spelled bytes)) ≡ b → (if b then Some (head_spelled bytes) else None) ≡ Some h → WasRead key bytes h
    by true e is =
        let same = same_Some (head_spelled bytes) h is in
        record { is_spelled = same; starts = subst (λ k. StartsWith bytes (head_bytes key k)) same (begins bytes (head_bytes key (head_spelled bytes)) e) }
    by false e is = absurd (none-some h is)

pub head_at-begins : (key : Key) (bytes : List ℕ) (h : Head) → IsHead h → StartsWith bytes (head_bytes key h) → head_at key bytes ≡ Some h
head_at-begins key bytes h fits starts =
    let is = spelled key bytes h fits starts in
    head_at-true key bytes (subst (λ k. StartsWith bytes (head_bytes key k)) (sym is) starts) ∙ ap Some is

-- ---- what a reader looks at

pub length-part : (bytes : List ℕ) (n at : ℕ) → length (take n (drop at bytes)) ≡ min n (length bytes - at)
length-part bytes n at = length-take n (drop at bytes) ∙ ap (min n) (length-drop at bytes)

-- a head's length, by the parts that are spelled
pub length-spelled : (key : Key) (bytes : List ℕ) → length (head_bytes key (head_spelled bytes)) ≡ 28 + min 8 (length bytes - 4) + min 16 (length bytes - 16)
length-spelled key bytes = omega (arith, length-head_bytes key (head_spelled bytes), length-part bytes 8 4, length-part bytes 16 16)

pub none_in_short : (key : Key) (bytes : List ℕ) → length bytes < head_size → head_at key bytes ≡ None
none_in_short key bytes h =
    head_at-false key bytes (λ starts.
    let size = length-spelled key bytes in
    omega (arith, h, starts_with_length bytes (head_bytes key (head_spelled bytes)) starts, size))

-- a head that was read has parts of the right lengths
pub parts_in_long : (key : Key) (bytes : List ℕ) (h : Head) → head_size ≤ length bytes → head_at key bytes ≡ Some h → (length h.stream ≡ 8) × (length h.name ≡ 16)
parts_in_long key bytes h long is =
    let same = (was_read key bytes h is).is_spelled in (
      ap (λ k. length k.stream) (sym same) ∙ omega (arith, length-part bytes 8 4, long),
      ap (λ k. length k.name) (sym same) ∙ omega (arith, length-part bytes 16 16, long),
    )

module _ (key : Key) (bytes : List ℕ) (long : head_size ≤ length bytes) where
  streamed : length (take 8 (drop 4 bytes)) ≡ 8
  streamed = omega (arith, length-part bytes 8 4, long)

  named : length (take 16 (drop 16 bytes)) ≡ 16
  named = omega (arith, length-part bytes 16 16, long)

  abbrev read_head : Head
  read_head = head_spelled bytes

  front_of : StartsWith bytes (head_bytes key read_head) → StartsWith bytes (head_fields read_head)
  front_of = begins_first bytes (head_fields read_head) (check_of key (head_fields read_head))

  pub none_without_mark : (StartsWith bytes mark → ⊥) → head_at key bytes ≡ None
  none_without_mark h = head_at-false key bytes (λ starts. h (begins_with_mark bytes read_head streamed named (front_of starts)))

  pub none_without_header : (header_bytes read_head.configuration ≡ take 12 (drop 32 bytes) → ⊥) → head_at key bytes ≡ None
  none_without_header h = head_at-false key bytes (λ starts. h (sym (header_there bytes read_head streamed named (front_of starts))))

  all_fields : length (head_fields read_head) ≡ 44
  all_fields = omega (arith, length-head_fields read_head, streamed, named)

  check_there : StartsWith bytes (head_bytes key read_head) → StartsWith (drop 44 bytes) (check_of key (take 44 bytes))
  check_there starts =
      let front = fields_there bytes read_head streamed named (front_of starts) in
      subst (λ xs. StartsWith (drop 44 bytes) (check_of key xs)) (sym front)
      (subst (λ n. StartsWith (drop n bytes) (check_of key (head_fields read_head))) all_fields
      (begins_second bytes (head_fields read_head) (check_of key (head_fields read_head)) starts))

  pub none_without_check : (StartsWith (drop 44 bytes) (check_of key (take 44 bytes)) → ⊥) → head_at key bytes ≡ None
  none_without_check h = head_at-false key bytes (λ starts. h (check_there starts))

  module _ (fits : AreBytes bytes) (marked : StartsWith bytes mark) (header : header_bytes read_head.configuration ≡ take 12 (drop 32 bytes)) where
    stream_begins : StartsWith bytes (to_stream read_head)
    stream_begins = begins_both bytes mark read_head.stream marked (ap (λ n. take n (drop 4 bytes)) streamed)

    number_begins : StartsWith bytes (to_number read_head)
    number_begins =
        let place : length (to_stream read_head) ≡ 12 = omega (arith, length-to_stream read_head, streamed) in
        let four : length (take 4 (drop 12 bytes)) ≡ 4 = omega (arith, length-part bytes 4 12, long) in
        begins_both bytes (to_stream read_head) (to_be_bytes w32 read_head.number) stream_begins
        (ap (λ n. take 4 (drop n bytes)) place ∙ sym (be_bytes_4 (take 4 (drop 12 bytes)) read_head.number four (λ k. part_fits bytes 12 4 k fits) refl))

    name_begins : StartsWith bytes (to_name read_head)
    name_begins =
        let place : length (to_number read_head) ≡ 16 = omega (arith, length-to_number read_head, streamed) in
        begins_both bytes (to_number read_head) read_head.name number_begins (λ i. take (named i) (drop (place i) bytes))

    fields_begin : StartsWith bytes (head_fields read_head)
    fields_begin =
        let place : length (to_name read_head) ≡ 32 = omega (arith, length-to_name read_head, streamed, named) in
        begins_both bytes (to_name read_head) (header_bytes read_head.configuration) name_begins
        ((λ i. take (length-header_bytes read_head.configuration i) (drop (place i) bytes)) ∙ sym header)

    head_read : StartsWith (drop 44 bytes) (check_of key (take 44 bytes)) → head_at key bytes ≡ Some read_head
    head_read checked =
        let last : StartsWith (drop (length (head_fields read_head)) bytes) (check_of key (head_fields read_head)) =
        subst (λ n. StartsWith (drop n bytes) (check_of key (head_fields read_head))) (sym all_fields)
        (subst (λ xs. StartsWith (drop 44 bytes) (check_of key xs)) (fields_there bytes read_head streamed named fields_begin) checked) in
        head_at-true key bytes (begins_both bytes (head_fields read_head) (check_of key (head_fields read_head)) fields_begin last)

    -- the answer by the last of these tests
    pub head_by_check : then_some (starts_with nat_eq (drop 44 bytes) (check_of key (take 44 bytes))) read_head ≡ head_at key bytes
    head_by_check = by (starts_with nat_eq (drop 44 bytes) (check_of key (take 44 bytes))) refl
      where
        by : (b : Bool) → starts_with nat_eq (drop 44 bytes) (check_of key (take 44 bytes)) ≡ b → then_some b read_head ≡ head_at key bytes
        by true e = sym (head_read (begins (drop 44 bytes) (check_of key (take 44 bytes)) e))
        by false e = sym (none_without_check (refuted (drop 44 bytes) (check_of key (take 44 bytes)) e))
