-- The blocks of an object in a list, in the order of their numbers.
use Rattle.std.proofs.Common.{◌≡◌, ◌≢◌, ℕ, suc, ◌+◌, ◌<◌, Bool, true, false, List, [], ◌++◌, length, get_or, set, take, map, All, Option, Some, None, Ok, refl, sym, ap, ◌∙◌, subst, arith, eq-eqb}
use Rattle.std.specs.Prelude.{is_some, IsSome, option_map, unwrap_or, ltb, IfSome, vec_items}
use Rattle.std.specs.Bool.{MatchBool}
use denote.Ref.{Bor}
use Rattle.std.specs.List.{range_with_len, AllWithin, HoldsAt}
use Rattle.std.specs.Option.{option_copied}
use Rattle.std.proofs.lemmas.List.{length-map, get_or-map, get_or-set_same, get_or-set_other, length-set, map-set}
use Rattle.std.proofs.lemmas.List.Elements.{All-set}
use Rattle.std.proofs.Math.Seq.{map-set_same}
use Rattle.std.proofs.lemmas.Bool.{ltb-true, ltb-false}
use Rattle.std.proofs.lemmas.List.FromFn.{get_or-map-range_with_len}
use Rattle.rq_standard.specs.declared.row.TableRow.{TableRow}
use Rattle.rq_standard.specs.Packet.{Packet}
use Rattle.rq_standard.specs.Configuration.{Configuration}
use Rattle.rq_standard.specs.Cutting.{block_symbols}
use Rattle.rq_standard.specs.TableRows.{no_row}
use Rattle.rq_standard.specs.ReceivedBlock.{ReceivedBlock, nothing_received}
use Rattle.rq_standard.specs.DecoderState.{State, new_received, new_answer, IsNewState, append_both, first_blocks, result_of}
use Rattle.rq_standard.proofs.ObjectAnswers.{joined_some, joined_each, not_complete}
use Rattle.rq_standard.proofs.OptionValues.{is_some-mapped, none_is}
use Rattle.rq_block.specs.SourceBlockDecoder.{Solving, received_of, solving_of}
use Rattle.rq_block.specs.declared.decoder.last_outcome.LastOutcome.TheVariants.{Untried}
use Rattle.raptorq.specs.Decoder.{received_at, answer_at, answer_of, solving_at, IsBlockAt}
use Rattle.rq_block.specs.RefusedBlocks.{block_refusal}
use Rattle.raptorq.specs.InTurn.{KeptBlock, block_of, block_at, ChangesBlock}
use Rattle.rq_block.proofs.Numbered.{length-mapped, length-numbered, mapped_through, some_at}
use Rattle.raptorq.specs.declared.decoder.block.ObjectBlock.{ObjectBlock}
use Rattle.raptorq.specs.declared.decoder.object.Decoder.{Decoder}

abbrev pub block_number : ObjectBlock → ℕ
block_number b = (received_of b.decoder).number

abbrev pub state : Configuration → List ObjectBlock → State
state c items = record { configuration = c; received = received_at c items; answer = answer_at items }

-- what was received of it has as many symbols as the configuration says of its number
abbrev pub IsCut : Configuration → ReceivedBlock → Type 0
IsCut c h = h.source_symbols ≡ block_symbols c h.number

-- the blocks are those of the configuration, in their order
pub record AreBlocksOf (c : Configuration) (items : List ObjectBlock) : Type 0 where
  pub numbered : map block_number items ≡ range_with_len 0 c.source_blocks
  pub same : All (λ b. (received_of b.decoder).configuration ≡ c) items
  pub cut : All (λ b. IsCut c (received_of b.decoder)) items

-- what is read of it
pub received_here : (c : Configuration) (items : List ObjectBlock) (i : ℕ) (x : ObjectBlock) → i < length items → x ≡ get_or items i x → received_at c items i ≡ received_of x.decoder
received_here c items i x below is = get_or-map (λ b. received_of b.decoder) items i x (nothing_received c i no_row 0) below ∙ ap (λ b. received_of b.decoder) (sym is)

pub answer_here : (items : List ObjectBlock) (i : ℕ) (x : ObjectBlock) → i < length items → x ≡ get_or items i x → answer_at items i ≡ answer_of x
answer_here items i x below is = get_or-map answer_of items i x None below ∙ ap answer_of (sym is)

-- what is said of it is said of the state
said_here : (c : Configuration) (items : List ObjectBlock) (i : ℕ) (x : ObjectBlock) → i < length items → x ≡ get_or items i x → (P : ReceivedBlock → Option (List ℕ) → Type 0) → P (received_of x.decoder) (answer_of x) → P (received_at c items i) (answer_at items i)
said_here c items i x below is P so = subst (λ h. P h (answer_at items i)) (sym (received_here c items i x below is)) (subst (P (received_of x.decoder)) (sym (answer_here items i x below is)) so)

-- how it is solved, where it is found
pub found_solving : (items : List ObjectBlock) (n : ℕ) (found : Option (Bor ObjectBlock)) → is_some found ≡ ltb n (length items) → IfSome found (λ x. x.now ≡ get_or items n x.now)
    → IfSome (option_copied found) (λ b. solving_of b.decoder ≡ get_or (map (λ x. solving_of x.decoder) items) n (record { sparse_threshold = 0; last_outcome = Untried }))
found_solving items n None none is = tt
found_solving items n (Some x) some is = sym (get_or-map (λ b. solving_of b.decoder) items n x.now _ (ltb-true n (length items) (sym some)) ∙ ap (λ b. solving_of b.decoder) (sym is))

-- the block of a number is found, exactly where the object has it
pub block_found : (c : Configuration) (items : List ObjectBlock) (n : ℕ) (found : Option (Bor ObjectBlock)) → map block_number items ≡ range_with_len 0 c.source_blocks
    → is_some found ≡ ltb n (length items) → IfSome found (λ x. x.now ≡ get_or items n x.now) → IsBlockAt (state c items) n (option_copied found)
block_found c items n None numbered none is = omega (arith, ltb-false n (length items) (sym none), length-numbered block_number c.source_blocks items numbered)
block_found c items n (Some x) numbered some is =
    let below = ltb-true n (length items) (sym some) in
    record {
      known = omega (arith, below, length-numbered block_number c.source_blocks items numbered);
      received = received_here c items n x.now below is;
      answer = answer_here items n x.now below is;
    }

-- a block that is its configuration's and the packet's refuses no packet with a symbol of the size
pub block_takes : (c : Configuration) (h : ReceivedBlock) (p : Packet) → h.configuration ≡ c → h.number ≡ p.id.block → length p.payload ≡ c.symbol_size → block_refusal h p ≡ Ok tt
block_takes c h p same number long = rw (eq-eqb p.id.block h.number (sym number), eq-eqb (length p.payload) h.configuration.symbol_size (long ∙ ap (λ k. k.symbol_size) (sym same))) refl

-- the block of a packet, by its number
pub record IsBlockOf (items : List ObjectBlock) (p : Packet) (i : ℕ) (x : ObjectBlock) : Type 0 where
  pub here : i ≡ p.id.block
  pub below : p.id.block < length items
  pub is : x ≡ get_or items p.id.block x

pub block_of_packet : (items : List ObjectBlock) (p : Packet) (count i : ℕ) (x : ObjectBlock) → map block_number items ≡ range_with_len 0 count → i ≡ p.id.block → i < count → x ≡ get_or items i x → IsBlockOf items p i x
block_of_packet items p count i x numbered here below is = record {
  here = here;
  below = omega (arith, length-numbered block_number count items numbered);
  is = is ∙ ap (λ n. get_or items n x) here;
}

set_there : (items : List ObjectBlock) (i : ℕ) (y : ObjectBlock) → i < length items → y ≡ get_or (set items i y) i y
set_there items i y below = sym (get_or-set_same items i y y below)

within : (items : List ObjectBlock) (i : ℕ) (y : ObjectBlock) → i < length items → i < length (set items i y)
within items i y below = omega (arith, length-set items i y)

-- what is seen of another element than the one that is written
elsewhere_same : {Y : Type 0} (f : ObjectBlock → Y) (items : List ObjectBlock) (i n : ℕ) (y : ObjectBlock) (d : Y) → n ≢ i → get_or (map f (set items i y)) n d ≡ get_or (map f items) n d
elsewhere_same f items i n y d apart = ap (λ l. get_or l n d) (map-set f items i y) ∙ get_or-set_other (map f items) i n (f y) d apart

-- ---- one block is written

module _ (old new : Decoder) (i : ℕ) (x y : ObjectBlock) (below : i < length old.blocks.items) (is : x ≡ get_or old.blocks.items i x)
    (configuration : new.config ≡ old.config) (written : new.blocks.items ≡ set old.blocks.items i y) where
  abbrev first : Solving
  first = record { sparse_threshold = 0; last_outcome = Untried }

  abbrev solving : ObjectBlock → Solving
  solving b = solving_of b.decoder

  -- what is kept of it before,
  kept_before : block_at old i ≡ block_of x
  kept_before =
      let received = received_here old.config old.blocks.items i x below is in
      let answer = answer_here old.blocks.items i x below is in
      let solved : solving_at old i ≡ solving x = get_or-map solving old.blocks.items i x first below ∙ ap solving (sym is) in
      λ k. record { received = received k; answer = answer k; solving = solved k }

  -- and then
  kept_after : block_at new i ≡ block_of y
  kept_after =
      let after = set old.blocks.items i y in
      let there = within old.blocks.items i y below in
      let here = set_there old.blocks.items i y below in
      let received : received_at new.config new.blocks.items i ≡ received_of y.decoder = ap (λ l. received_at new.config l i) written ∙ received_here new.config after i y there here in
      let answer : answer_at new.blocks.items i ≡ answer_of y = ap (λ l. answer_at l i) written ∙ answer_here after i y there here in
      let solved : solving_at new i ≡ solving y = ap (λ l. get_or (map solving l) i first) written ∙ get_or-map solving after i y first there ∙ ap solving (sym here) in
      λ k. record { received = received k; answer = answer k; solving = solved k }

  kept_elsewhere : (m : ℕ) → m ≢ i → block_at new m ≡ block_at old m
  kept_elsewhere m apart =
      let items = old.blocks.items in
      let received : received_at new.config new.blocks.items m ≡ received_at old.config items m =
      ap (λ l. received_at new.config l m) written ∙ elsewhere_same (λ b. received_of b.decoder) items i m y (nothing_received new.config m no_row 0) apart
      ∙ ap (λ c. received_at c items m) configuration in
      let answer : answer_at new.blocks.items m ≡ answer_at items m = ap (λ l. answer_at l m) written ∙ elsewhere_same answer_of items i m y None apart in
      let solved : solving_at new m ≡ solving_at old m = ap (λ l. get_or (map solving l) m first) written ∙ elsewhere_same solving items i m y first apart in
      λ k. record { received = received k; answer = answer k; solving = solved k }

  -- what is said of the block is said of its number
  pub changes_block : (Here : KeptBlock → KeptBlock → Type 0) → Here (block_of x) (block_of y) → ChangesBlock Here old i new
  changes_block Here so = record {
    configuration = configuration;
    here = subst (λ b. Here b (block_at new i)) (sym kept_before) (subst (Here (block_of x)) (sym kept_after) so);
    others = kept_elsewhere;
  }

-- what each block says of its number, its configuration and its symbols stays, where the block that is written says the same
pub blocks_same : (d : Decoder) (i : ℕ) (x y : ObjectBlock) → i < length d.blocks.items → x ≡ get_or d.blocks.items i x
    → (received_of y.decoder).number ≡ (received_of x.decoder).number → (received_of y.decoder).configuration ≡ (received_of x.decoder).configuration
    → (received_of y.decoder).source_symbols ≡ (received_of x.decoder).source_symbols → AreBlocksOf d.config (set d.blocks.items i y)
blocks_same d i x y below is number configuration symbols =
    let items = d.blocks.items in
    record {
      numbered = map-set_same block_number items i y x (number ∙ ap block_number is) ∙ d.numbered;
      same = All-set (λ b. (received_of b.decoder).configuration ≡ d.config) items i y (configuration ∙ ap (λ b. (received_of b.decoder).configuration) is ∙ d.same i x below) d.same;
      cut = All-set (λ b. IsCut d.config (received_of b.decoder)) items i y
          (symbols ∙ ap (λ b. (received_of b.decoder).source_symbols) is ∙ d.cut i x below ∙ ap (λ b. block_symbols d.config (received_of b.decoder).number) (sym is)
          ∙ ap (block_symbols d.config) (sym number)) d.cut;
    }

-- ---- all blocks joined

pub unwrapped : (o : Option (List ℕ)) → IsSome o → o ≡ Some (unwrap_or o [])
unwrapped None h = absurd (cc h)
unwrapped (Some xs) h = refl

pub complete : (s : State) → ((b : ℕ) → b < s.configuration.source_blocks → IsSome (s.answer b)) → is_some (result_of s) ≡ true
complete s each = ap (λ o. is_some (option_map (take s.configuration.transfer_length) o)) (joined_some (λ b. unwrap_or (s.answer b) []) s.answer s.configuration.source_blocks (λ b below. unwrapped (s.answer b) (each b below)))

-- whether each block in a list has an answer
pub all_answered : (c : Configuration) (items : List ObjectBlock) → map block_number items ≡ range_with_len 0 c.source_blocks → (r : Bool)
    → MatchBool r (AllWithin (λ b. is_some b.answer ≡ true) items 0 (length items)) ((k : ℕ) × (k < length items) × HoldsAt (λ b. is_some b.answer ≡ false) items k) → r ≡ is_some (result_of (state c items))
all_answered c items numbered true all =
    sym (complete (state c items) (λ b below.
    let there : b < length items = omega (arith, below, length-numbered block_number c.source_blocks items numbered) in
    let block = some_at items b there in
    subst IsSome (sym (answer_here items b block.0 there block.1)) (is_some-mapped vec_items block.0.answer ∙ ap (λ x. is_some x.answer) block.1 ∙ all b block.0 (omega arith) there)))
all_answered c items numbered false found =
    let block = some_at items found.0 found.1 in
    sym (not_complete (state c items) found.0 (omega (arith, found.1, length-numbered block_number c.source_blocks items numbered))
    (answer_here items found.0 block.0 found.1 block.1 ∙ none_is _ (is_some-mapped vec_items block.0.answer ∙ ap (λ x. is_some x.answer) block.1 ∙ found.2 block.0)))

-- one block more
pub join_next : (items : List ObjectBlock) (n : ℕ) (x : ObjectBlock) (done bytes new : List ℕ) → n < length items → x ≡ get_or items n x → answer_of x ≡ Some bytes → Some done ≡ first_blocks n (answer_at items) → new ≡ done ++ bytes → Some new ≡ first_blocks (n + 1) (answer_at items)
join_next items n x done bytes new below is some so grown =
    let next : suc n ≡ n + 1 = omega arith in
    ap (λ xs. Some xs) grown ∙ ap (λ o. append_both o (Some bytes)) so ∙ ap (append_both (first_blocks n (answer_at items))) (sym some ∙ sym (answer_here items n x below is)) ∙ ap (λ m. first_blocks m (answer_at items)) next

-- where all are answered, each is
pub join_some : (c : Configuration) (items : List ObjectBlock) (n : ℕ) (x : ObjectBlock) → IsSome (result_of (state c items)) → n < c.source_blocks → n < length items → x ≡ get_or items n x → answer_of x ≡ None → ⊥
join_some c items n x all below within is none = cc (joined_each (answer_at items) c.source_blocks (sym (is_some-mapped (take c.transfer_length) (first_blocks c.source_blocks (answer_at items))) ∙ all) n below, answer_here items n x within is, none)

-- ---- before any packet

module _ (table : List TableRow) (c : Configuration) (items : List ObjectBlock) (received : map (λ b. received_of b.decoder) items ≡ map (new_received table c) (range_with_len 0 c.source_blocks)) where
  -- each of them is what was received of a new block
  pub new_each : (P : ReceivedBlock → Type 0) → ((n : ℕ) → n < c.source_blocks → P (new_received table c n)) → All (λ b. P (received_of b.decoder)) items
  new_each P each i d below =
      let long = length-mapped (λ b. received_of b.decoder) (new_received table c) c.source_blocks items received in
      let within : i < c.source_blocks = omega (arith, below, long) in
      let is : received_of (get_or items i d).decoder ≡ new_received table c i = sym (get_or-map (λ b. received_of b.decoder) items i d (received_of d.decoder) below) ∙ ap (λ l. get_or l i (received_of d.decoder)) received ∙ get_or-map-range_with_len (new_received table c) 0 c.source_blocks i i (received_of d.decoder) within (omega arith) in
      subst P (sym is) (each i within)

  pub new_state : map answer_of items ≡ map (new_answer c) (range_with_len 0 c.source_blocks) → IsNewState table c (state c items)
  new_state answers = record {
    configuration = refl;
    received = λ b below. ap (λ l. get_or l b (nothing_received c b no_row 0)) received ∙ get_or-map-range_with_len (new_received table c) 0 c.source_blocks b b (nothing_received c b no_row 0) below (omega arith);
    answer = λ b below. ap (λ l. get_or l b None) answers ∙ get_or-map-range_with_len (new_answer c) 0 c.source_blocks b b None below (omega arith);
  }

-- ---- blocks that hold what others did

module _ (c : Configuration) (old new : List ObjectBlock) (received : map (λ b. received_of b.decoder) new ≡ map (λ b. received_of b.decoder) old) where
  pub same_length : length new ≡ length old
  same_length = sym (length-map new (λ b. received_of b.decoder)) ∙ ap length received ∙ length-map old (λ b. received_of b.decoder)

  pub same_numbers : map block_number new ≡ map block_number old
  same_numbers = mapped_through (λ h. h.number) (λ b. received_of b.decoder) (λ b. received_of b.decoder) new old received

  -- what each old one is, each new one is
  pub same_each : (P : ReceivedBlock → Type 0) → All (λ b. P (received_of b.decoder)) old → All (λ b. P (received_of b.decoder)) new
  same_each P all i d below =
      let within : i < length old = omega (arith, below, same_length) in
      let is : received_of (get_or new i d).decoder ≡ received_of (get_or old i d).decoder = sym (get_or-map (λ b. received_of b.decoder) new i d (received_of d.decoder) below) ∙ ap (λ l. get_or l i (received_of d.decoder)) received ∙ get_or-map (λ b. received_of b.decoder) old i d (received_of d.decoder) within in
      subst P (sym is) (all i d within)
