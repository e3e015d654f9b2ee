-- Which digests of source symbols are known, and that they are those of the object's symbols.
use Rattle.std.proofs.Common.{◌≡◌, ◌≢◌, ℕ, zero, suc, ◌+◌, ◌-◌, ◌*◌, ◌^◌, ◌<◌, ◌≤◌, max, List, [], ◌++◌, length, take, drop, get_or, Bool, true, false, cond, eqb, ltb, Option, Some, None, refl, sym, ap, subst, ◌∙◌, arith, inl, inr, length-append}
use Rattle.std.specs.Prelude.{IfSome, IsSome, option_map, is_none, ◌&&◌}
use Rattle.std.proofs.Math.Nat.{mul-le-mul_right}
use Rattle.std.proofs.lemmas.Bool.{cases_lt, cases_eq, lt-ltb, eq-eqb, ne_eqb, eqb-true}
use Rattle.std.proofs.lemmas.List.{ext_get_or, length-take, length-drop, get_or-take, get_or_append_left, get_or-append_right}
use Rattle.std.proofs.lemmas.Option.{same_Some}
use Rattle.rq_standard.specs.Configuration.{Configuration, IsAligned}
use Rattle.rq_standard.specs.Cutting.{block_symbols, symbols_before, sub_block_count, sub_block_parts, larger_bytes, sub_block_size, sub_block_start, place_in_block, symbol_of_block}
use Rattle.rq_standard.specs.Packet.{Packet}
use Rattle.rq_standard.specs.Received.{or_later}
use Rattle.rq_standard.specs.ReceivedBlock.{ReceivedBlock, IsBlockWith, with_received}
use Rattle.rq_standard.specs.DecoderState.{State, append_both, first_blocks, result_of}
use Rattle.rq_standard.specs.DecoderSteps.{Adds, AddsOpen, AddsToBlock, kept_of}
use Rattle.rq_standard.proofs.BlockCuts.{symbols_before-first, symbols_before-next, symbols_before-grows, block_byte}
use Rattle.rq_standard.proofs.Firsts.{or_later-none}
use Rattle.rq_standard.proofs.Interleaved.{at_byte, next_start, place_in, get_or-symbol_of_block}
use Rattle.rq_standard.proofs.ObjectAnswers.{joined_each}
use Rattle.rq_standard.proofs.StandingSteps.{length-symbol_of_block}
use Rattle.raptorq.specs.BlockBytes.{bytes_of_block}
use Rattle.raptorq.proofs.AnsweredParts.{AreLong}
use Rattle.raptorq.proofs.EncodedBlocks.{bytes_of_block-byte}
use Rattle.rq_cells.specs.Cells.{digest_of}
use Rattle.rq_cast.specs.declared.digests.KnownDigests.{KnownDigests}
use Rattle.rq_cast.specs.Digests.{known, is_noted, KnowsSymbol, KnowsAll, KnowsDigests, Notes, last_width, AreWhole, KnowsSymbols}

-- ---- which symbols stand in the first bytes of a block

-- no sub-block is narrower than the last one
narrowest : (c : Configuration) (t : ℕ) → last_width c ≤ sub_block_size c t
unfolding sub_block_size
narrowest c t = by (ltb t (larger_bytes c))
  where
    few : (sub_block_parts c).smaller ≤ (sub_block_parts c).larger
    few = omega arith

    by : (b : Bool) → last_width c ≤ cond b ((sub_block_parts c).larger * c.alignment) ((sub_block_parts c).smaller * c.alignment)
    by true = mul-le-mul_right c.alignment few
    by false = omega arith

pub sub_block_count-max : (n : ℕ) → max n 1 ≡ sub_block_count n
unfolding sub_block_count
sub_block_count-max zero = omega arith
sub_block_count-max (suc n) = omega arith

-- Behind a symbol stand the last bytes of those behind it: its own bytes stand before them.
module _ (c : Configuration) (aligned : IsAligned c) (e d t : ℕ) (below : t < c.symbol_size) where
  abbrev size : ℕ
  size = e + 1 + d

  abbrev o : ℕ
  o = sub_block_start c t

  abbrev z : ℕ
  z = sub_block_size c t

  abbrev w : ℕ
  w = last_width c

  place : place_in_block c size e t ≡ o * size + z * e + (t - o)
  place = let b = at_byte c t aligned below in place_in c size e o z t b.part b.low b.high

  in_last : o + z ≡ c.symbol_size → place_in_block c size e t + w * d < size * c.symbol_size
  in_last whole =
      let b = at_byte c t aligned below in
      let narrow : w * d ≤ z * d = mul-le-mul_right d (narrowest c t) in
      let all : (o + z) * size ≡ c.symbol_size * size = ap (λ n. n * size) whole in
      omega (arith, place, b.low, b.high, narrow, all)

  in_earlier : o + z < c.symbol_size → place_in_block c size e t + w * d < size * c.symbol_size
  in_earlier more =
      let b = at_byte c t aligned below in
      let first : sub_block_start c o ≡ o = b.part.start o (omega arith) (omega (arith, b.part.positive)) in
      let width : sub_block_size c o ≡ z = b.part.size o (omega arith) (omega (arith, b.part.positive)) in
      let next : sub_block_start c (o + z) ≡ o + z =
      subst (λ n. sub_block_start c (o + n) ≡ o + n) width (next_start c o aligned (omega (arith, b.low)) first (omega (arith, width, more))) in
      let z' = sub_block_size c (o + z) in
      let room : o + z + z' ≤ c.symbol_size = omega (arith, (at_byte c (o + z) aligned more).part.room, next) in
      let narrow : w * d ≤ z' * d = mul-le-mul_right d (narrowest c (o + z)) in
      let all : (o + z + z') * size ≤ c.symbol_size * size = mul-le-mul_right size room in
      omega (arith, place, b.low, b.high, narrow, all)

  pub place_before : place_in_block c size e t + w * d < size * c.symbol_size
  place_before = elim (cases_lt (o + z) c.symbol_size) [
    | inl more ↦ in_earlier more
    | inr past ↦ in_last (omega (arith, past, (at_byte c t aligned below).part.room))
  ]

-- as many symbols fewer as there may be with bytes among the last ones
pub are_whole : (c : Configuration) (k n count whole : ℕ) → IsAligned c → k * c.symbol_size - n ≤ count * last_width c → whole + count ≤ k → AreWhole c k n whole
are_whole c k n count whole aligned covered fits e t lt below =
    let d = k - e - 1 in
    let is : k ≡ e + 1 + d = omega arith in
    let low : place_in_block c k e t + last_width c * d < k * c.symbol_size =
    subst (λ m. place_in_block c m e t + last_width c * d < m * c.symbol_size) (sym is) (place_before c aligned e d t below) in
    let many : count * last_width c ≤ d * last_width c = mul-le-mul_right (last_width c) (omega arith) in
    omega (arith, low, many, covered)

-- ---- bytes of an object that was answered

module _ (s : State) (long : AreLong s) where
  abbrev c : Configuration
  c = s.configuration

  -- blocks that are all answered, and those before them
  pub record AreJoined (n : ℕ) (all : List ℕ) : Type 0 where
    pub size : length all ≡ symbols_before c n * c.symbol_size
    pub byte : (b i : ℕ) (block : List ℕ) → b < n → s.answer b ≡ Some block → i < block_symbols c b * c.symbol_size
        → get_or all (symbols_before c b * c.symbol_size + i) 0 ≡ get_or block i 0

  joined_more : (n : ℕ) (front last : List ℕ) → n < c.source_blocks → AreJoined n front → s.answer n ≡ Some last → AreJoined (n + 1) (front ++ last)
  joined_more n front last within so is =
      let size : length last ≡ block_symbols c n * c.symbol_size = subst (λ o. IfSome o (λ xs. length xs ≡ block_symbols c n * c.symbol_size)) is (long n within) in
      let next : symbols_before c (n + 1) * c.symbol_size ≡ symbols_before c n * c.symbol_size + block_symbols c n * c.symbol_size =
      ap (λ m. m * c.symbol_size) (symbols_before-next c n within) ∙ omega arith in
      record {
        size = length-append front last ∙ omega (arith, so.size, size, next);
        byte = λ b i block below here few. elim (cases_lt b n) [
          | inl lt ↦
              let grows : symbols_before c (b + 1) * c.symbol_size ≤ symbols_before c n * c.symbol_size =
              mul-le-mul_right c.symbol_size (symbols_before-grows c (b + 1) n (omega arith) (omega (arith, within))) in
              let this : symbols_before c (b + 1) * c.symbol_size ≡ symbols_before c b * c.symbol_size + block_symbols c b * c.symbol_size =
              ap (λ m. m * c.symbol_size) (symbols_before-next c b (omega (arith, within))) ∙ omega arith in
              get_or_append_left front last 0 (symbols_before c b * c.symbol_size + i) (omega (arith, so.size, grows, this, few))
              ∙ so.byte b i block lt here few
          | inr past ↦
              let same : n ≡ b = omega arith in
              let at : symbols_before c n * c.symbol_size ≡ symbols_before c b * c.symbol_size = ap (λ m. symbols_before c m * c.symbol_size) same in
              let last_is : last ≡ block = same_Some last block (sym is ∙ ap s.answer same ∙ here) in
              get_or-append_right front last (symbols_before c n * c.symbol_size) (symbols_before c b * c.symbol_size + i) 0 so.size (omega (arith, at))
              ∙ ap (λ m. get_or last m 0) (omega (arith, at)) ∙ ap (λ xs. get_or xs i 0) last_is
        ];
      }

  are_joined : (n : ℕ) (all : List ℕ) → n ≤ c.source_blocks → first_blocks n s.answer ≡ Some all → AreJoined n all
  are_joined zero all within is =
      let none : [] ≡ all = same_Some [] all is in record {
        size = ap length (sym none) ∙ sym (ap (λ m. m * c.symbol_size) (symbols_before-first c) ∙ omega arith);
        byte = λ b i block below. absurd (omega (arith, below));
      }
  are_joined (suc n) all within is = by (first_blocks n s.answer) (s.answer n) refl refl is (λ xs. are_joined n xs (omega arith))
    where
      by : (x y : Option (List ℕ)) → first_blocks n s.answer ≡ x → s.answer n ≡ y → append_both x y ≡ Some all
          → ((xs : List ℕ) → first_blocks n s.answer ≡ Some xs → AreJoined n xs) → AreJoined (suc n) all
      by None y front last joined so = absurd (cc joined)
      by (Some xs) None front last joined so = absurd (cc joined)
      by (Some xs) (Some ys) front last joined so =
          let next : n + 1 ≡ suc n = omega arith in
          subst (λ m. AreJoined m all) next
          (subst (AreJoined (n + 1)) (same_Some (xs ++ ys) all joined) (joined_more n xs ys (omega arith) (so xs front) last))

  module _ (object : List ℕ) (answered : result_of s ≡ Some object) (b e whole : ℕ) (below : b < c.source_blocks)
      (are : AreWhole c (block_symbols c b) (length (bytes_of_block c object b)) whole) (lt : e < whole) where
    abbrev count : ℕ
    count = block_symbols c b

    abbrev bytes : List ℕ
    bytes = bytes_of_block c object b

    module _ (all : List ℕ) (joined : first_blocks c.source_blocks s.answer ≡ Some all) (block : List ℕ) (here : s.answer b ≡ Some block) where
      object_is : take c.transfer_length all ≡ object
      object_is = same_Some (take c.transfer_length all) object (ap (option_map (take c.transfer_length)) (sym joined) ∙ answered)

      byte_is : (p : ℕ) → p < length bytes → get_or block p 0 ≡ get_or bytes p 0
      byte_is p within =
          let start = symbols_before c b * c.symbol_size in
          let room : p < count * c.symbol_size = omega (arith, within, length-take (count * c.symbol_size) (drop start object)) in
          let inside : start + p < length object = omega (arith, within, length-take (count * c.symbol_size) (drop start object), length-drop start object) in
          let few : length object ≤ c.transfer_length = omega (arith, ap length object_is, length-take c.transfer_length all) in
          sym ((are_joined c.source_blocks all (omega arith) joined).byte b p block below here room)
          ∙ sym (get_or-take c.transfer_length all (start + p) 0 (omega (arith, inside, few)))
          ∙ ap (λ xs. get_or xs (start + p) 0) object_is
          ∙ sym (block_byte c object b p room) ∙ sym (bytes_of_block-byte c object b p)

      pub symbol_is : symbol_of_block c count block e ≡ symbol_of_block c count bytes e
      symbol_is = ext_get_or 0 (symbol_of_block c count block e) (symbol_of_block c count bytes e)
          (length-symbol_of_block c count block e ∙ sym (length-symbol_of_block c count bytes e))
          (λ t few.
          let small : t < c.symbol_size = omega (arith, few, length-symbol_of_block c count block e) in
          get_or-symbol_of_block c count block e t small ∙ byte_is (place_in_block c count e t) (are e t lt small)
          ∙ sym (get_or-symbol_of_block c count bytes e t small))

    known_of : (k : KnownDigests) → KnowsDigests s k → e < count → (a : Option (List ℕ)) → first_blocks c.source_blocks s.answer ≡ a
        → IfSome (known k b e) (λ d. d ≡ digest_of (symbol_of_block c count bytes e))
    known_of k knows few None none = absurd (cc (none, answered))
    known_of k knows few (Some all) joined = by (s.answer b) refl
      where
        some : IsSome (s.answer b)
        some = joined_each s.answer c.source_blocks (subst IsSome (sym joined) refl) b below

        same : (block d : List ℕ) (o : Option (List ℕ)) → s.answer b ≡ Some block → IfSome o (λ x. x ≡ digest_of (symbol_of_block c count block e))
            → IfSome o (λ x. x ≡ digest_of (symbol_of_block c count bytes e))
        same block d None here is = tt
        same block d (Some x) here is = is ∙ ap digest_of (symbol_is all joined block here)

        by : (a : Option (List ℕ)) → s.answer b ≡ a → IfSome (known k b e) (λ d. d ≡ digest_of (symbol_of_block c count bytes e))
        by None here = absurd (cc (subst IsSome here some))
        by (Some block) here = same block [] (known k b e) here
            (subst (λ a. KnowsSymbol c b e (s.received b) a (known k b e)) here (knows b e below few))

  -- of an object that is answered its bytes have the symbols whose digests are known
  pub known_symbols : (object : List ℕ) → result_of s ≡ Some object → (k : KnownDigests) → KnowsDigests s k → (b : ℕ) → b < c.source_blocks
      → (conf : Configuration) (count : ℕ) (bytes : List ℕ) → conf ≡ c → count ≡ block_symbols c b → bytes ≡ bytes_of_block c object b
      → KnowsSymbols conf count bytes b k
  known_symbols object answered k knows b below conf count bytes configured counted is =
      subst (λ x. KnowsSymbols x count bytes b k) (sym configured)
      (subst (λ n. KnowsSymbols c n bytes b k) (sym counted)
      (subst (λ xs. KnowsSymbols c (block_symbols c b) xs b k) (sym is)
      (λ e whole few lt are. known_of object answered b e whole below are lt k knows few (first_blocks c.source_blocks s.answer) refl)))

-- ---- a packet more

later_digest : (o : Option (List ℕ)) (b : Bool) (payload : List ℕ)
    → or_later (option_map digest_of o) (cond b (Some (digest_of payload)) None) ≡ option_map digest_of (or_later o (cond b (Some payload) None))
later_digest None true payload = refl
later_digest None false payload = refl
later_digest (Some x) b payload = refl

-- what has no number of its own is below where its equal is
noted_here : (esi e n : ℕ) (digest : List ℕ) (b : Bool) → e < n → b ≡ eqb esi e
    → cond (ltb esi n && b) (Some digest) None ≡ cond b (Some digest) None
noted_here esi e n digest true below is =
    let same : esi ≡ e = eqb-true esi e (sym is) in ap (λ x. cond (x && true) (Some digest) None) (lt-ltb esi n (omega (arith, below, same)))
noted_here esi e n digest false below is = by (ltb esi n)
  where
    by : (x : Bool) → cond (x && false) (Some digest) None ≡ None
    by true = refl
    by false = refl

-- the digests of all that was received are those of the symbols of its answer
of_answer : (c : Configuration) (b e : ℕ) (h : ReceivedBlock) (block : List ℕ) → h.configuration ≡ c → h.source_symbols ≡ block_symbols c b
    → IsBlockWith h block → e < block_symbols c b → (o : Option (List ℕ)) → h.received e ≡ o
    → IfSome (option_map digest_of o) (λ d. d ≡ digest_of (symbol_of_block c (block_symbols c b) block e))
of_answer c b e h block configured counted is few None here = tt
of_answer c b e h block configured counted is few (Some payload) here =
    let each = is.each e (subst (λ n. e < n) (sym counted) few) in
    let so : payload ≡ symbol_of_block h.configuration h.source_symbols block e = subst (λ o. IfSome o (λ x. x ≡ symbol_of_block h.configuration h.source_symbols block e)) here each in
    ap digest_of (so ∙ (λ i. symbol_of_block (configured i) (counted i) block e))

module _ (s new : State) (p : Packet) (adds : Adds s p new) (old k : KnownDigests) (notes : Notes s p.id (digest_of p.payload) old k)
    (few_ids : (b : ℕ) → b < s.configuration.source_blocks → block_symbols s.configuration b < 2 ^ 24)
    (configured : (s.received p.id.block).configuration ≡ s.configuration)
    (counted : (s.received p.id.block).source_symbols ≡ block_symbols s.configuration p.id.block)
    (knows : KnowsDigests s old) where
  abbrev conf : Configuration
  conf = s.configuration

  abbrev here : ℕ
  here = p.id.block

  abbrev digest : List ℕ
  digest = digest_of p.payload

  -- of another block nothing changes
  elsewhere : (b e : ℕ) → b < conf.source_blocks → e < block_symbols conf b → here ≢ b → KnowsSymbol conf b e (new.received b) (new.answer b) (known k b e)
  elsewhere b e below few apart =
      let stays = adds.elsewhere.other b below (λ is. apart (sym is)) in
      let none : known k b e ≡ known old b e =
      notes b e (omega (arith, few, few_ids b below))
      ∙ ap (λ x. or_later (known old b e) (cond (is_noted s p.id && (x && eqb p.id.esi e)) (Some digest) None)) (ne_eqb here b apart)
      ∙ by (is_noted s p.id) in
      subst (λ x. KnowsSymbol conf b e (new.received b) (new.answer b) x) (sym none)
      (subst (λ a. KnowsSymbol conf b e (new.received b) a (known old b e)) (sym stays.1)
      (subst (λ h. KnowsSymbol conf b e h (s.answer b) (known old b e)) (sym stays.0) (knows b e below few)))
    where
      by : (x : Bool) → or_later (known old b e) (cond (x && false) (Some digest) None) ≡ known old b e
      by true = or_later-none (known old b e)
      by false = or_later-none (known old b e)

  module _ (e : ℕ) (below : here < conf.source_blocks) (few : e < block_symbols conf here) where
    noted : known k here e ≡ or_later (known old here e) (cond (is_noted s p.id && eqb p.id.esi e) (Some digest) None)
    noted = notes here e (omega (arith, few, few_ids here below))
        ∙ ap (λ x. or_later (known old here e) (cond (is_noted s p.id && (x && eqb p.id.esi e)) (Some digest) None)) (eq-eqb here here refl)

    -- an answered block takes nothing more
    in_answered : (block : List ℕ) → s.answer here ≡ Some block → KnowsSymbol conf here e (new.received here) (new.answer here) (known k here e)
    in_answered block answered =
        let stays = subst (λ a. AddsToBlock (s.received here) a p (new.received here) (new.answer here)) answered adds.here in
        let same : known k here e ≡ known old here e =
        noted ∙ ap (λ a. or_later (known old here e) (cond ((is_none a && ltb p.id.esi (block_symbols conf here)) && eqb p.id.esi e) (Some digest) None)) answered
        ∙ or_later-none (known old here e) in
        let was = subst (λ a. KnowsSymbol conf here e (s.received here) a (known old here e)) answered (knows here e below few) in
        subst (λ x. KnowsSymbol conf here e (new.received here) (new.answer here) x) (sym same)
        (subst (λ a. KnowsSymbol conf here e (new.received here) a (known old here e)) (sym stays.1) was)

    abbrev behind : ReceivedBlock
    behind = with_received (s.received here) p.id.esi p.payload

    -- of another one the first digest of an id counts
    in_open : s.answer here ≡ None → KnowsSymbol conf here e (new.received here) (new.answer here) (known k here e)
    in_open unanswered =
        let opened = subst (λ a. AddsToBlock (s.received here) a p (new.received here) (new.answer here)) unanswered adds.here in
        let was : known old here e ≡ option_map digest_of ((s.received here).received e) =
        subst (λ a. KnowsSymbol conf here e (s.received here) a (known old here e)) unanswered (knows here e below few) in
        let now : known k here e ≡ option_map digest_of (behind.received e) =
        noted ∙ ap (λ a. or_later (known old here e) (cond ((is_none a && ltb p.id.esi (block_symbols conf here)) && eqb p.id.esi e) (Some digest) None)) unanswered
        ∙ ap (or_later (known old here e)) (noted_here p.id.esi e (block_symbols conf here) digest (eqb p.id.esi e) few refl)
        ∙ ap (λ o. or_later o (cond (eqb p.id.esi e) (Some digest) None)) was
        ∙ later_digest ((s.received here).received e) (eqb p.id.esi e) p.payload in
        subst (λ x. KnowsSymbol conf here e (new.received here) (new.answer here) x) (sym now) (by (new.answer here) refl opened)
      where
        by : (a : Option (List ℕ)) → new.answer here ≡ a → AddsOpen (s.received here) p (new.received here) (new.answer here)
            → KnowsSymbol conf here e (new.received here) (new.answer here) (option_map digest_of (behind.received e))
        by None is opened =
            let kept : new.received here ≡ behind = opened.kept ∙ ap (kept_of behind) is in
            subst (λ a. KnowsSymbol conf here e (new.received here) a (option_map digest_of (behind.received e))) (sym is)
            (ap (λ h. option_map digest_of (h.received e)) (sym kept))
        by (Some block) is opened =
            let answer : IsBlockWith behind block = subst (λ a. IfSome a (IsBlockWith behind)) is opened.answers.block in
            subst (λ a. KnowsSymbol conf here e (new.received here) a (option_map digest_of (behind.received e))) (sym is)
            (of_answer conf here e behind block configured counted answer few (behind.received e) refl)

    at_block : KnowsSymbol conf here e (new.received here) (new.answer here) (known k here e)
    at_block = by (s.answer here) refl
      where
        by : (a : Option (List ℕ)) → s.answer here ≡ a → KnowsSymbol conf here e (new.received here) (new.answer here) (known k here e)
        by None is = in_open is
        by (Some block) is = in_answered block is

  -- the digests that were known, and that of a packet which is taken
  pub knows_more : KnowsDigests new k
  knows_more = subst (λ c. KnowsAll c new k) (sym adds.elsewhere.configuration)
      (λ b e below few. elim (cases_eq here b) [
        | inl same ↦ subst (λ n. KnowsSymbol conf n e (new.received n) (new.answer n) (known k n e)) same
            (at_block e (subst (λ n. n < conf.source_blocks) (sym same) below) (subst (λ n. e < block_symbols conf n) (sym same) few))
        | inr apart ↦ elsewhere b e below few apart
      ])
