-- What is found in bytes is there whatever stands behind them.
use Rattle.std.proofs.Common.{◌≡◌, ℕ, zero, suc, ◌+◌, ◌-◌, ◌<◌, ◌≤◌, List, [], ◌∷◌, ◌++◌, length, take, drop, arith, refl, sym, ap, subst, ◌∙◌, Some, None, Option, Bool, true, false, cond, ◌&&◌, ◌||◌, not, nat_lt, nat_eq, get_or, length-append, append_assoc, if◌then◌else◌, drop-cons, drop-drop, ◌⊎◌, inl, inr}
use Rattle.std.specs.Int.{w32, from_be_bytes}
use Rattle.std.specs.List.{starts_with, cons_option}
use Rattle.std.specs.Cmp.Lexicographic.{pointwise}
use Rattle.std.specs.Prelude.{option_and_then, option_map, unwrap_or, filter_map, count_by, is_some, is_none}
use Rattle.std.specs.Io.{StartsWith}
use Rattle.std.proofs.KnownBytes.{starts_with_rest}
use Rattle.std.proofs.lemmas.List.{take-append-drop, take-append-le, drop-append-le, length-drop, length-take-le, get_or-take, append-nil}
use Rattle.std.proofs.lemmas.List.Sums.{sum_by-cons}
use Rattle.std.proofs.lemmas.Option.{none-some, same_Some}
use Rattle.std.proofs.lemmas.Bool.{eq-eqb, eqb-true, and_parts, le-leb, leb-true, lt-leb, le-ltb, lt-ltb, ltb-false, or_parts, or_from, or_left, and_right, cases_lt, true≢false}
use Rattle.memchr.specs.Find.{IsFirstByte, Passes, is_byte}
use Rattle.rq_standard.specs.Configuration.{configuration_of_bytes}
use Rattle.rq_standard.specs.Packet.{packet_of_bytes}
use Rattle.rq_standard.specs.Streams.{frame_size}
use Rattle.rq_cells.specs.declared.head.Head.{Head}
use Rattle.rq_cells.specs.declared.cell.Cell.{Cell}
use Rattle.rq_cells.specs.declared.long_heads.LongHead.{LongHead}
use Rattle.rq_cells.specs.Cells.{Key, mark, head_bytes, head_size, cell_size, head_spelled, head_at, cell_bytes, cell_spelled, cell_behind}
use Rattle.rq_cells.specs.Found.{places, HoldNoHead, Source, is_of, head_of, is_long, long_head_of, cell_of, is_damaged, is_other, others_in}
use Rattle.rq_cells.specs.Scans.{is_open, Begins, long_heads_before}
use Rattle.rq_cells.proofs.Beginnings.{test_more}
use Rattle.rq_cells.proofs.HeadBytes.{none_without_mark, none_in_short, parts_in_long, length-spelled}
use Rattle.rq_cells.proofs.CellBytes.{behind-begins, none_behind_in_short, length-cell_bytes, length-payload_spelled}

-- bytes that hold a head, and others behind them
module _ (bytes rest : List ℕ) (long : head_size ≤ length bytes) where
  same_part : (from n : ℕ) → from + n ≤ head_size → take n (drop from (bytes ++ rest)) ≡ take n (drop from bytes)
  same_part from n h =
      ap (take n) (drop-append-le from bytes rest (omega (arith, h, long))) ∙ take-append-le n (drop from bytes) rest (omega (arith, h, long, length-drop from bytes))

  same_spelled_head : head_spelled (bytes ++ rest) ≡ head_spelled bytes
  same_spelled_head = λ i. record {
    stream = same_part 4 8 (omega arith) i;
    number = from_be_bytes w32 (same_part 12 4 (omega arith) i);
    name = same_part 16 16 (omega arith) i;
    configuration = configuration_of_bytes (same_part 32 12 (omega arith) i);
  }

  pub same_head_at : (key : Key) → head_at key (bytes ++ rest) ≡ head_at key bytes
  same_head_at key =
      let h = head_spelled bytes in
      ap (λ k. if starts_with nat_eq (bytes ++ rest) (head_bytes key k) then Some k else None) same_spelled_head
      ∙ ap (λ b. if b then Some h else None) (test_more bytes rest (head_bytes key h) (omega (arith, long, length-spelled key bytes)))

-- bytes that begin with as many others as a head has
pub head_at-front : (key : Key) (xs bytes : List ℕ) → head_size ≤ length bytes → StartsWith xs (take 52 bytes) → head_at key xs ≡ head_at key bytes
head_at-front key xs bytes long starts =
    let front = take 52 bytes in
    let enough : head_size ≤ length front = omega (arith, length-take-le 52 bytes long) in
    ap (head_at key) (starts_with_rest xs front starts)
    ∙ same_head_at front (drop (length front) xs) enough key
    ∙ sym (same_head_at front (drop 52 bytes) enough key)
    ∙ ap (head_at key) (take-append-drop 52 bytes)

-- bytes that hold a cell behind this head, and others behind them
module _ (key : Key) (h : Head) (bytes rest : List ℕ) (streamed : length h.stream ≡ 8) (named : length h.name ≡ 16) (long : cell_size h.configuration.symbol_size ≤ length bytes) where
  same_spelled_cell : cell_spelled h (bytes ++ rest) ≡ cell_spelled h bytes
  same_spelled_cell =
      let size = frame_size h.configuration in
      let held : take size (drop head_size (bytes ++ rest)) ≡ take size (drop head_size bytes) =
      ap (take size) (drop-append-le head_size bytes rest (omega (arith, long))) ∙ take-append-le size (drop head_size bytes) rest (omega (arith, long, length-drop head_size bytes)) in
      λ i. record { head = h; packet = packet_of_bytes (held i) }

  pub same_cell_behind : cell_behind key h (bytes ++ rest) ≡ cell_behind key h bytes
  same_cell_behind =
      let c = cell_spelled h bytes in
      ap (λ k. if starts_with nat_eq (bytes ++ rest) (cell_bytes key k) then Some k else None) same_spelled_cell
      ∙ ap (λ b. if b then Some c else None) (test_more bytes rest (cell_bytes key c) (omega (arith, long, length-cell_bytes key c, length-payload_spelled h bytes, streamed, named)))

-- ---- the heads of one source

pub of_source : (s : Source) (h : Head) → is_of s h ≡ true → h.configuration.symbol_size ≡ s.symbol_size
of_source s h e =
    eqb-true h.configuration.symbol_size s.symbol_size (and_parts (pointwise nat_eq h.stream s.stream) (nat_eq h.configuration.symbol_size s.symbol_size) e).1

-- a head of the source, and as many bytes as its cell has
pub record HasLongHead (s : Source) (bytes : List ℕ) (h : Head) : Type 0 where
  pub headed : head_at s.key bytes ≡ Some h
  pub of : is_of s h ≡ true
  pub long : cell_size s.symbol_size ≤ length bytes

abbrev pub own : Source → Head → Option Head
own s h = if is_of s h then Some h else None

abbrev pub no_head : Option Head
no_head = None

pub no_choice : (b : Bool) → (if b then no_head else no_head) ≡ no_head
no_choice true = refl
no_choice false = refl

module _ (s : Source) (bytes : List ℕ) where
  pub has_long : (h : Head) → long_head_of s bytes ≡ Some h → HasLongHead s bytes h
  has_long h = by_length (is_long s bytes) refl
    where
      by_source : (k : Head) (b : Bool) → is_long s bytes ≡ true → head_at s.key bytes ≡ Some k → is_of s k ≡ b → (if b then Some k else None) ≡ Some h → HasLongHead s bytes h
      by_source k true long headed e is =
          let same = same_Some k h is in
          record {
            headed = headed ∙ ap Some same;
            of = subst (λ j. is_of s j ≡ true) same e;
            long = leb-true (cell_size s.symbol_size) (length bytes) long;
          }
      by_source k false long headed e is = absurd (none-some h is)

      by_head : (o : Option Head) → is_long s bytes ≡ true → head_at s.key bytes ≡ o → option_and_then (own s) o ≡ Some h → HasLongHead s bytes h
      by_head None long headed is = absurd (none-some h is)
      by_head (Some k) long headed is = by_source k (is_of s k) long headed refl is

      by_length : (b : Bool) → is_long s bytes ≡ b → (if b then head_of s bytes else None) ≡ Some h → HasLongHead s bytes h
      by_length true e is = by_head (head_at s.key bytes) e refl is
      by_length false e is = absurd (none-some h is)

  pub is_long_head : (h : Head) → HasLongHead s bytes h → long_head_of s bytes ≡ Some h
  is_long_head h has =
      (λ i. if le-leb (cell_size s.symbol_size) (length bytes) has.long i then option_and_then (own s) (has.headed i) else None)
      ∙ ap (λ b. if b then Some h else None) has.of

  abbrev kept : Cell → Option Cell
  kept c = if is_of s c.head then Some c else None

  -- the cell is the one behind the head
  pub cell_of-headed : (h : Head) → head_at s.key bytes ≡ Some h → is_of s h ≡ true → cell_of s bytes ≡ cell_behind s.key h bytes
  cell_of-headed h headed of = ap (λ o. option_and_then kept (option_and_then (λ k. cell_behind s.key k bytes) o)) headed ∙ by (cell_behind s.key h bytes) refl
    where
      by : (o : Option Cell) → cell_behind s.key h bytes ≡ o → option_and_then kept o ≡ o
      by None is = refl
      by (Some c) is = ap (λ b. if b then Some c else None) (ap (is_of s) (behind-begins s.key h bytes c is).1 ∙ of)

  cell_of-other : (h : Head) → head_at s.key bytes ≡ Some h → is_of s h ≡ false → cell_of s bytes ≡ None
  cell_of-other h headed other = ap (λ o. option_and_then kept (option_and_then (λ k. cell_behind s.key k bytes) o)) headed ∙ by (cell_behind s.key h bytes) refl
    where
      by : (o : Option Cell) → cell_behind s.key h bytes ≡ o → option_and_then kept o ≡ None
      by None is = refl
      by (Some c) is = ap (λ b. if b then Some c else None) (ap (is_of s) (behind-begins s.key h bytes c is).1 ∙ other)

  -- and there is none where no such head has bytes enough
  pub cell_of-short : long_head_of s bytes ≡ None → cell_of s bytes ≡ None
  cell_of-short none = by_head (head_at s.key bytes) refl
    where
      long_enough : (h : Head) → head_at s.key bytes ≡ Some h → head_size ≤ length bytes
      long_enough h headed = by (cases_lt (length bytes) head_size)
        where
          by : (length bytes < head_size) ⊎ (head_size ≤ length bytes) → head_size ≤ length bytes
          by (inl short) = absurd (none-some h (sym (none_in_short s.key bytes short) ∙ headed))
          by (inr long) = long

      by_length : (h : Head) → head_at s.key bytes ≡ Some h → is_of s h ≡ true → (length bytes < cell_size s.symbol_size) ⊎ (cell_size s.symbol_size ≤ length bytes) → cell_of s bytes ≡ None
      by_length h headed of (inl short) =
          let parts = parts_in_long s.key bytes h (long_enough h headed) headed in
          cell_of-headed h headed of ∙ none_behind_in_short s.key h bytes parts.0 parts.1 (omega (arith, short, of_source s h of))
      by_length h headed of (inr long) = absurd (none-some h (sym none ∙ is_long_head h (record { headed = headed; of = of; long = long })))

      by_source : (h : Head) → head_at s.key bytes ≡ Some h → (b : Bool) → is_of s h ≡ b → cell_of s bytes ≡ None
      by_source h headed true of = by_length h headed of (cases_lt (length bytes) (cell_size s.symbol_size))
      by_source h headed false other = cell_of-other h headed other

      by_head : (o : Option Head) → head_at s.key bytes ≡ o → cell_of s bytes ≡ None
      by_head None headed = ap (λ o. option_and_then kept (option_and_then (λ k. cell_behind s.key k bytes) o)) headed
      by_head (Some h) headed = by_source h headed (is_of s h) refl

  pub cell_of-long : cell_of s bytes ≡ option_and_then (λ h. cell_behind s.key h bytes) (long_head_of s bytes)
  cell_of-long = by (long_head_of s bytes) refl
    where
      by : (o : Option Head) → long_head_of s bytes ≡ o → cell_of s bytes ≡ option_and_then (λ h. cell_behind s.key h bytes) o
      by None is = cell_of-short is
      by (Some h) is = let has = has_long h is in cell_of-headed h has.headed has.of

-- what stands where bytes begin that aren't open stays, whatever comes behind them
pub record StaysAt (s : Source) (bytes rest : List ℕ) : Type 0 where
  pub head : long_head_of s (bytes ++ rest) ≡ long_head_of s bytes
  pub cell : cell_of s (bytes ++ rest) ≡ cell_of s bytes
  pub damaged : is_damaged s (bytes ++ rest) ≡ is_damaged s bytes
  pub other : is_other s (bytes ++ rest) ≡ is_other s bytes

pub stays : (s : Source) (bytes rest : List ℕ) → is_open s bytes ≡ false → StaysAt s bytes rest
stays s bytes rest settled = record {
  head = same_long (head_of s bytes) refl;
  cell = same_cell;
  damaged = λ i. is_some (same_long (head_of s bytes) refl i) && is_none (same_cell i);
  other = λ i. is_some (same_head_at bytes rest long s.key i) && is_none (same_own i);
}
  where
    parts : (nat_lt (length bytes) head_size ≡ false) × (is_some (head_of s bytes) && not (is_long s bytes) ≡ false)
    parts = or_parts (nat_lt (length bytes) head_size) (is_some (head_of s bytes) && not (is_long s bytes)) settled

    long : head_size ≤ length bytes
    long = ltb-false (length bytes) head_size parts.0

    same_own : head_of s (bytes ++ rest) ≡ head_of s bytes
    same_own = ap (option_and_then (own s)) (same_head_at bytes rest long s.key)

    by_length : (b : Bool) → is_long s bytes ≡ b → not b ≡ false → is_long s (bytes ++ rest) ≡ is_long s bytes
    by_length true e _ =
        le-leb (cell_size s.symbol_size) (length (bytes ++ rest)) (omega (arith, leb-true (cell_size s.symbol_size) (length bytes) e, length-append bytes rest)) ∙ sym e
    by_length false e wrong = absurd (true≢false wrong)

    same_long : (o : Option Head) → head_of s bytes ≡ o → long_head_of s (bytes ++ rest) ≡ long_head_of s bytes
    same_long None is =
        (λ i. if is_long s (bytes ++ rest) then (same_own ∙ is) i else None) ∙ no_choice (is_long s (bytes ++ rest))
        ∙ sym ((λ i. if is_long s bytes then is i else None) ∙ no_choice (is_long s bytes))
    same_long (Some h) is =
        let enough = by_length (is_long s bytes) refl (sym (ap (λ o. is_some o && not (is_long s bytes)) is) ∙ parts.1) in
        λ i. if enough i then same_own i else None

    behind : (o : Option Head) → long_head_of s bytes ≡ o → option_and_then (λ h. cell_behind s.key h (bytes ++ rest)) o ≡ option_and_then (λ h. cell_behind s.key h bytes) o
    behind None is = refl
    behind (Some h) is =
        let has = has_long s bytes h is in
        let lengths = parts_in_long s.key bytes h long has.headed in
        same_cell_behind s.key h bytes rest lengths.0 lengths.1 (omega (arith, has.long, of_source s h has.of))

    same_cell : cell_of s (bytes ++ rest) ≡ cell_of s bytes
    same_cell =
        cell_of-long s (bytes ++ rest)
        ∙ ap (option_and_then (λ h. cell_behind s.key h (bytes ++ rest))) (same_long (head_of s bytes) refl)
        ∙ behind (long_head_of s bytes) refl
        ∙ sym (cell_of-long s bytes)

-- ---- one place further

places-at : (bytes rest : List ℕ) (at : ℕ) → at < length bytes → places (drop at bytes ++ rest) ≡ (drop at bytes ++ rest) ∷ places (drop (at + 1) bytes ++ rest)
places-at bytes rest at h =
    let first = get_or bytes at 0 in
    let behind = drop (suc at) bytes in
    let next : suc at ≡ at + 1 = omega arith in
    let is : drop at bytes ≡ first ∷ behind = drop-cons bytes at 0 h in
    ap (λ xs. places (xs ++ rest)) is
    ∙ (λ i. (sym is i ++ rest) ∷ places (drop (next i) bytes ++ rest))

pub next_found : {A : Type 0} (f : List ℕ → Option A) (bytes rest : List ℕ) (at : ℕ) → at < length bytes → f (drop at bytes ++ rest) ≡ f (drop at bytes)
    → filter_map f (places (drop at bytes ++ rest)) ≡ cons_option (f (drop at bytes)) (filter_map f (places (drop (at + 1) bytes ++ rest)))
next_found f bytes rest at h same =
    ap (filter_map f) (places-at bytes rest at h) ∙ ap (λ x. cons_option x (filter_map f (places (drop (at + 1) bytes ++ rest)))) same

pub next_counted : (p : List ℕ → Bool) (bytes rest : List ℕ) (at : ℕ) → at < length bytes → p (drop at bytes ++ rest) ≡ p (drop at bytes)
    → count_by p (places (drop at bytes ++ rest)) ≡ cond (p (drop at bytes)) 1 0 + count_by p (places (drop (at + 1) bytes ++ rest))
next_counted p bytes rest at h same =
    let behind = places (drop (at + 1) bytes ++ rest) in
    ap (count_by p) (places-at bytes rest at h) ∙ sum_by-cons (λ xs. cond (p xs) 1 0) (drop at bytes ++ rest) behind ∙ ap (λ b. cond b 1 0 + count_by p behind) same

pub count_place : (p : List ℕ → Bool) (bytes : List ℕ) (at : ℕ) → at < length bytes
    → count_by p (places (drop at bytes)) ≡ cond (p (drop at bytes)) 1 0 + count_by p (places (drop (at + 1) bytes))
count_place p bytes at h = simp append-nil at (next_counted p bytes [] at h (ap p (append-nil (drop at bytes))))

-- ---- what a place is found to be

module _ (s : Source) (bytes : List ℕ) where
  pub open_where_short : length bytes < head_size → is_open s bytes ≡ true
  open_where_short short = or_left (nat_lt (length bytes) head_size) (is_some (head_of s bytes) && not (is_long s bytes)) (lt-ltb (length bytes) head_size short)

  module _ (long : head_size ≤ length bytes) where
    open_by : (b : Bool) → is_some (head_of s bytes) && not (is_long s bytes) ≡ b → is_open s bytes ≡ b
    open_by b e = λ i. le-ltb (length bytes) head_size long i || e i

    -- without a head of the source
    without_own : (o : Option Head) → head_at s.key bytes ≡ o → head_of s bytes ≡ None → Begins s bytes None (is_some o && true)
    without_own o is none = record {
      settled = open_by false (ap (λ k. is_some k && not (is_long s bytes)) none);
      head = ap (λ k. if is_long s bytes then k else None) none ∙ no_choice (is_long s bytes);
      other = λ i. is_some (is i) && is_none (none i);
    }

    pub nothing_there : head_at s.key bytes ≡ None → Begins s bytes None false
    nothing_there is = without_own None is (ap (option_and_then (own s)) is)

    module _ (h : Head) (headed : head_at s.key bytes ≡ Some h) where
      pub other_there : is_of s h ≡ false → Begins s bytes None true
      other_there other = without_own (Some h) headed (ap (option_and_then (own s)) headed ∙ ap (λ b. if b then Some h else None) other)

      own_there : is_of s h ≡ true → head_of s bytes ≡ Some h
      own_there of = ap (option_and_then (own s)) headed ∙ ap (λ b. if b then Some h else None) of

      pub open_behind_head : is_of s h ≡ true → length bytes < cell_size s.symbol_size → is_open s bytes ≡ true
      open_behind_head of short = open_by true (λ i. is_some (own_there of i) && not (lt-leb (cell_size s.symbol_size) (length bytes) short i))

      pub long_there : is_of s h ≡ true → cell_size s.symbol_size ≤ length bytes → Begins s bytes (Some h) false
      long_there of whole = record {
        settled = open_by false (λ i. is_some (own_there of i) && not (le-leb (cell_size s.symbol_size) (length bytes) whole i));
        head = is_long_head s bytes h (record { headed = headed; of = of; long = whole });
        other = λ i. is_some (headed i) && is_none (own_there of i);
      }

-- where the first byte isn't the mark's, no head begins
pub unmarked : (bytes : List ℕ) (at : ℕ) → at < length bytes → (get_or bytes at 0 ≡ 82 → ⊥) → StartsWith (drop at bytes) mark → ⊥
unmarked bytes at below other starts =
    let is : drop at bytes ≡ get_or bytes at 0 ∷ drop (suc at) bytes = drop-cons bytes at 0 below in
    let front : take 4 (get_or bytes at 0 ∷ drop (suc at) bytes) ≡ mark = ap (take 4) (sym is) ∙ starts in
    other (ap (λ xs. get_or xs 0 0) front)

-- places before the first byte of a mark, at which bytes enough for a head stand
pub headless_before : (bytes : List ℕ) (n : ℕ) → n ≤ length bytes - 51 → ((i : ℕ) → i < n → get_or bytes i 0 ≡ 82 → ⊥) → HoldNoHead bytes n
headless_before bytes n few other = record {
  within = omega (arith, few);
  enough = long;
  none = λ key i below. none_without_mark key (drop i bytes) (long i below) (unmarked bytes i (omega (arith, few, below)) (other i below));
}
  where
    long : (i : ℕ) → i < n → head_size ≤ length (drop i bytes)
    long i below = omega (arith, few, below, length-drop i bytes)

-- what a search for that byte among the first bytes finds
pub headless_by : (bytes : List ℕ) (n : ℕ) → n ≡ length bytes - 51 → (r : Option ℕ) → IsFirstByte (is_byte 82) (take n bytes) r → HoldNoHead bytes (unwrap_or r n)
headless_by bytes n is r first = by r first
  where
    size : length (take n bytes) ≡ n
    size = length-take-le n bytes (omega (arith, is))

    passes : (i : ℕ) → i < n → get_or bytes i 0 ≡ 82 → Passes (is_byte 82) (take n bytes) i
    passes i below e = eq-eqb (get_or (take n bytes) i 0) 82 (get_or-take n bytes i 0 below ∙ e)

    by : (r : Option ℕ) → IsFirstByte (is_byte 82) (take n bytes) r → HoldNoHead bytes (unwrap_or r n)
    by None nowhere = headless_before bytes n (omega (arith, is)) (λ i below e. nowhere i (omega arith) (omega (arith, below, size)) (passes i below e))
    by (Some k) found =
        let few : k < n = omega (arith, found.0.high, size) in
        headless_before bytes k (omega (arith, is, few)) (λ i below e. found.0.before i (omega arith) below (passes i (omega (arith, below, few)) e))

-- open bytes are shorter than a cell
pub open_is_short : (s : Source) (bytes : List ℕ) → is_open s bytes ≡ true → length bytes < cell_size s.symbol_size
open_is_short s bytes = by (cases_lt (length bytes) (cell_size s.symbol_size))
  where
    by : (length bytes < cell_size s.symbol_size) ⊎ (cell_size s.symbol_size ≤ length bytes) → is_open s bytes ≡ true → length bytes < cell_size s.symbol_size
    by (inl short) e = short
    by (inr long) e =
        absurd (true≢false (sym e ∙ or_from (nat_lt (length bytes) head_size) (is_some (head_of s bytes) && not (is_long s bytes))
        (le-ltb (length bytes) head_size (omega (arith, long)))
        (and_right (is_some (head_of s bytes)) (not (is_long s bytes)) (ap not (le-leb (cell_size s.symbol_size) (length bytes) long)))))

-- ---- what stands at the places so far

pub record StandsBefore (s : Source) (bytes : List ℕ) (at : ℕ) (heads : List LongHead) (others : ℕ) : Type 0 where
  pub within : at ≤ length bytes
  pub settled : (i : ℕ) → i < at → is_open s (drop i bytes) ≡ false
  pub heads_are : heads ≡ long_heads_before s bytes at
  pub others_are : (rest : List ℕ) → others_in s (bytes ++ rest) ≡ others + others_in s (drop at bytes ++ rest)
  pub few_others : others ≤ at

pub append_found : {A : Type 0} (xs : List A) (x : Option A) (ys : List A) → xs ++ cons_option x ys ≡ xs ++ cons_option x [] ++ ys
append_found xs None ys = ap (λ zs. zs ++ ys) (sym (append-nil xs))
append_found xs (Some x) ys = sym (append_assoc xs (x ∷ []) ys)

pub one_at_most : (b : Bool) → cond b 1 0 ≤ 1
one_at_most true = omega arith
one_at_most false = omega arith

-- the head at a place, with it
abbrev pub long_head_there : Option Head → ℕ → List LongHead
long_head_there h at = cons_option (option_map (λ k. record { at = at; head = k }) h) []

pub one_place_more : (s : Source) (bytes : List ℕ) (at : ℕ) (heads heads' : List LongHead) (others others' : ℕ) (h : Option Head) (o : Bool)
    → at < length bytes → Begins s (drop at bytes) h o → heads' ≡ heads ++ long_head_there h at → others' ≡ others + cond o 1 0
    → StandsBefore s bytes at heads others → StandsBefore s bytes (at + 1) heads' others'
one_place_more s bytes at heads heads' others others' h o within begins-at more-heads more-others before = record {
  within = omega (arith, within);
  settled = λ i below. settled i (cases_lt i at) below;
  heads_are =
      more-heads
      ∙ (λ i. before.heads_are i ++ long_head_there (sym begins-at.head i) at)
      ∙ ap (long_heads_before s bytes) next;
  others_are = λ rest.
      let same = stays s (drop at bytes) rest begins-at.settled in
      let further = next_counted (is_other s) bytes rest at within same.other ∙ ap (λ b. cond b 1 0 + others_in s (drop (at + 1) bytes ++ rest)) begins-at.other in
      omega (arith, before.others_are rest, further, more-others);
  few_others = omega (arith, before.few_others, more-others, one_at_most o);
}
  where
    next : suc at ≡ at + 1
    next = omega arith

    settled : (i : ℕ) → (i < at) ⊎ (at ≤ i) → i < at + 1 → is_open s (drop i bytes) ≡ false
    settled i (inl less) _ = before.settled i less
    settled i (inr more) below =
        let same : at ≡ i = omega (arith, more, below) in
        subst (λ k. is_open s (drop k bytes) ≡ false) same begins-at.settled

-- there are bytes left behind places at which no head begins
pub headless_within : (bytes : List ℕ) (at n : ℕ) → at < length bytes → HoldNoHead (drop at bytes) n → at + n < length bytes
headless_within bytes at zero below headless = omega (arith, below)
headless_within bytes at (suc n) below headless =
    let long = headless.enough n (omega arith) in
    omega (arith, long, length-drop n (drop at bytes), length-drop at bytes)

-- places at which no head begins, behind those before them
pub headless_more : (s : Source) (bytes : List ℕ) (at n : ℕ) (heads : List LongHead) (others : ℕ)
    → HoldNoHead (drop at bytes) n → StandsBefore s bytes at heads others → StandsBefore s bytes (at + n) heads others
headless_more s bytes at n heads others headless before = go n (omega arith)
  where
    go : (k : ℕ) → k ≤ n → StandsBefore s bytes (at + k) heads others
    go zero few = subst (λ i. StandsBefore s bytes i heads others) (omega arith) before
    go (suc k) few =
        let here : drop k (drop at bytes) ≡ drop (at + k) bytes = drop-drop k at bytes in
        let long : head_size ≤ length (drop (at + k) bytes) = subst (λ xs. head_size ≤ length xs) here (headless.enough k (omega (arith, few))) in
        let none : head_at s.key (drop (at + k) bytes) ≡ None = ap (head_at s.key) (sym here) ∙ headless.none s.key k (omega (arith, few)) in
        let next : at + k + 1 ≡ at + suc k = omega arith in
        subst (λ i. StandsBefore s bytes i heads others) next
        (one_place_more s bytes (at + k) heads heads others others None false (omega (arith, long, length-drop (at + k) bytes))
        (nothing_there s (drop (at + k) bytes) long none) (sym (append-nil heads)) (omega arith) (go k (omega (arith, few))))

-- no head begins at those places
pub none_skipped : (key : Key) (bytes : List ℕ) (at n : ℕ) → HoldNoHead (drop at bytes) n → (i : ℕ) → at ≤ i → i < at + n → head_at key (drop i bytes) ≡ None
none_skipped key bytes at n headless i from below =
    let place : at + (i - at) ≡ i = omega (arith, from) in
    ap (head_at key) (ap (λ j. drop j bytes) (sym place) ∙ sym (drop-drop (i - at) at bytes)) ∙ headless.none key (i - at) (omega (arith, from, below))
