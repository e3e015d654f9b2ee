-- The object's bytes in its blocks, one block after another, are the object.
use Rattle.std.proofs.Common.{◌≡◌, ℕ, zero, suc, ◌+◌, ◌-◌, ◌*◌, ◌<◌, ◌≤◌, List, [], ◌∷◌, ◌++◌, All, length, get_or, take, drop, map, min, Option, Some, None, refl, sym, ap, ◌∙◌, subst, arith, inl, inr, append-nil, length-append, length-drop}
use Rattle.std.specs.Prelude.{option_map, vec_items, IfSome}
use Rattle.std.specs.List.{range_with_len}
use Rattle.std.specs.Option.{ForSome}
use Rattle.std.specs.declared.vec.Vec.{Vec}
use Rattle.std.specs.declared.alloc.Global.{Global}
use Rattle.std.proofs.lemmas.Bool.{cases_lt}
use Rattle.std.proofs.lemmas.List.{get_or-map, get_or_default, get_or_past, length-map, get_or-take, ext_get_or, length-take, length-take-le, take_min, take-append-le, take_all}
use Rattle.std.proofs.Math.Seq.{take-append-add, take-nil}
use Rattle.std.proofs.lemmas.Grind.{div_ceil_times}
use Rattle.rq_standard.specs.Configuration.{Configuration}
use Rattle.rq_standard.specs.Cutting.{block_symbols, symbols_before, block_bytes}
use Rattle.rq_standard.specs.Packet.{Packet}
use Rattle.rq_standard.specs.ReceivedBlock.{ReceivedBlock}
use Rattle.rq_standard.specs.DecoderState.{State, append_both, first_blocks, result_of}
use Rattle.rq_standard.specs.declared.row.TableRow.{TableRow}
use Rattle.rq_standard.specs.Following.{Lateness}
use Rattle.rq_standard.proofs.BlockCuts.{symbols_before-first, symbols_before-next, symbols_before-all}
use Rattle.rq_standard.proofs.HonestBlocks.{BlockStandsFor, stands_block}
use Rattle.rq_standard.proofs.ObjectAnswers.{answered, has_answer}
use Rattle.rq_standard.proofs.PlainCut.{length-block_bytes}
use Rattle.raptorq.specs.declared.decoder.object.Decoder.{Decoder}
use Rattle.raptorq.specs.declared.decoder.block.ObjectBlock.{ObjectBlock}
use Rattle.raptorq.specs.BlockBytes.{bytes_of_block, object_part, answered_part, PartsMakeObject}
use Rattle.raptorq.specs.Laws.{PartsAreObjects}
use Rattle.raptorq.specs.Decoder.{answer_of, state_of, HoldsBlock}
use Rattle.rq_block.specs.SourceBlockDecoder.{received_of}
use Rattle.raptorq.proofs.EncodedBlocks.{bytes_of_block-byte}
use Rattle.rq_block.proofs.Numbered.{length-numbered, numbered_at}
use Rattle.rq_standard.proofs.OptionValues.{is_some-mapped}
use Rattle.raptorq.proofs.ObjectBlocks.{state, block_number, IsCut}

-- each answer is as long as its block
abbrev pub AreLong : State → Type 0
AreLong s = (b : ℕ) → b < s.configuration.source_blocks → IfSome (s.answer b) (λ block. length block ≡ block_symbols s.configuration b * s.configuration.symbol_size)

-- the beginning of two lists is that of the first, and of the second what is left
take_both : (n : ℕ) (xs ys : List ℕ) → take n xs ++ take (n - length xs) ys ≡ take n (xs ++ ys)
take_both n xs ys = elim (cases_lt n (length xs)) [
  | inl within ↦
      let none : n - length xs ≡ 0 = omega arith in
      ap (λ m. take n xs ++ take m ys) none ∙ append-nil (take n xs) ∙ sym (take-append-le n xs ys (omega arith))
  | inr past ↦
      let whole : length xs + (n - length xs) ≡ n = omega arith in
      ap (λ zs. zs ++ take (n - length xs) ys) (take_all n xs past) ∙ sym (take-append-add xs ys (n - length xs)) ∙ ap (λ m. take m (xs ++ ys)) whole
]

both_long : (x y : Option (List ℕ)) (m n : ℕ) → IfSome x (λ xs. length xs ≡ m) → IfSome y (λ ys. length ys ≡ n) → IfSome (append_both x y) (λ zs. length zs ≡ m + n)
both_long None y m n long more = tt
both_long (Some xs) None m n long more = tt
both_long (Some xs) (Some ys) m n long more = length-append xs ys ∙ omega (arith, long, more)

both_parts : (n m : ℕ) (x y : Option (List ℕ)) → IfSome x (λ xs. length xs ≡ m) → append_both (option_map (take n) x) (option_map (take (n - m)) y) ≡ option_map (take n) (append_both x y)
both_parts n m None y long = refl
both_parts n m (Some xs) None long = refl
both_parts n m (Some xs) (Some ys) long = ap (λ k. Some (take n xs ++ take (n - k) ys)) (sym long) ∙ ap (λ zs. Some zs) (take_both n xs ys)

taken_long : (o : Option (List ℕ)) (m n : ℕ) → n ≤ m → IfSome o (λ xs. length xs ≡ m) → IfSome (option_map (take n) o) (λ xs. length xs ≡ n)
taken_long None m n few long = tt
taken_long (Some xs) m n few long = length-take-le n xs (omega (arith, few, long))

module _ (s : State) (long : AreLong s) where
  -- the first n blocks
  first_long : (n : ℕ) → n ≤ s.configuration.source_blocks → IfSome (first_blocks n s.answer) (λ xs. length xs ≡ symbols_before s.configuration n * s.configuration.symbol_size)
  first_long zero within = sym (ap (λ m. m * s.configuration.symbol_size) (symbols_before-first s.configuration) ∙ omega arith)
  first_long (suc n) within =
      let c = s.configuration in
      let next : n + 1 ≡ suc n = omega arith in
      let is : symbols_before c n * c.symbol_size + block_symbols c n * c.symbol_size ≡ symbols_before c (suc n) * c.symbol_size =
      omega arith ∙ ap (λ m. m * c.symbol_size) (sym (symbols_before-next c n (omega arith)) ∙ ap (symbols_before c) next) in
      subst (λ m. IfSome (append_both (first_blocks n s.answer) (s.answer n)) (λ xs. length xs ≡ m)) is (both_long (first_blocks n s.answer) (s.answer n) _ _ (first_long n (omega arith)) (long n (omega arith)))

  pub first_parts : (n : ℕ) → n ≤ s.configuration.source_blocks → first_blocks n (answered_part s) ≡ option_map (take s.configuration.transfer_length) (first_blocks n s.answer)
  first_parts zero within = ap (λ xs. Some xs) (sym (take-nil s.configuration.transfer_length))
  first_parts (suc n) within =
      ap (λ x. append_both x (answered_part s n)) (first_parts n (omega arith))
      ∙ both_parts s.configuration.transfer_length (symbols_before s.configuration n * s.configuration.symbol_size) (first_blocks n s.answer) (s.answer n) (first_long n (omega arith))

  parts_make_object : PartsMakeObject s
  parts_make_object = first_parts s.configuration.source_blocks (omega arith)

  -- the object is as long as the configuration says
  pub result_long : 0 < s.configuration.source_blocks → 0 < s.configuration.symbol_size → IfSome (result_of s) (λ object. length object ≡ s.configuration.transfer_length)
  result_long some positive =
      let c = s.configuration in
      let room : c.transfer_length ≤ symbols_before c c.source_blocks * c.symbol_size =
      subst (λ n. c.transfer_length ≤ n * c.symbol_size) (sym (symbols_before-all c some)) (div_ceil_times c.transfer_length c.symbol_size positive).0 in
      taken_long (first_blocks c.source_blocks s.answer) _ c.transfer_length room (first_long c.source_blocks (omega arith))

-- ---- after a list of an object's packets

-- without the zeros a block is the object's bytes in it
part_is : (c : Configuration) (object : List ℕ) (b : ℕ) → length object ≡ c.transfer_length → object_part c b (block_bytes c object b) ≡ bytes_of_block c object b
part_is c object b long =
    let whole = block_symbols c b * c.symbol_size in
    let start = symbols_before c b * c.symbol_size in
    let rest = c.transfer_length - start in
    let part = object_part c b (block_bytes c object b) in
    let size : length part ≡ min rest whole = length-take rest (block_bytes c object b) ∙ ap (min rest) (length-block_bytes c object b) in
    let same : length part ≡ length (bytes_of_block c object b) = omega (arith, size, length-take whole (drop start object), length-drop start object, long) in
    ext_get_or 0 part (bytes_of_block c object b) same (λ i below. get_or-take rest (block_bytes c object b) i 0 (omega (arith, below, size)) ∙ sym (bytes_of_block-byte c object b i))

answered_is : (l : Lateness) (table : List TableRow) (c : Configuration) (object : List ℕ) (packets : List Packet) (b : ℕ) (h : ReceivedBlock) (a : Option (List ℕ)) → length object ≡ c.transfer_length → BlockStandsFor l table c object b packets h a
    → IfSome (option_map (object_part c b) a) (λ bytes. bytes ≡ bytes_of_block c object b)
answered_is l table c object packets b h None long stands = tt
answered_is l table c object packets b h (Some block) long stands = ap (object_part c b) stands.0 ∙ part_is c object b long

pub parts_are_objects : PartsAreObjects
parts_are_objects s b table object packets late st below =
    let c = s.configuration in
    let h = s.received b in
    let a = s.answer b in
    let stands = stands_block late table object packets s st b below in
    record {
      part = answered_is (late b) table c object packets b h a st.run.long stands;
      only = λ some. (answered (late b) table c object packets b h a stands (sym (is_some-mapped (object_part c b) a) ∙ some)).1;
      each = λ now determined. is_some-mapped (object_part c b) a ∙ has_answer (late b) table c object packets b h a stands now determined;
    }

-- ---- of blocks in a list

some_block : (items : List ObjectBlock) (n : ℕ) → n < length items → ObjectBlock
some_block [] n below = absurd (omega arith)
some_block (x ∷ items) n below = x

seen_long : (o : Option (Vec ℕ Global)) (m : ℕ) → ForSome o (λ v. length v.items ≡ m) → IfSome (option_map vec_items o) (λ xs. length xs ≡ m)
seen_long None m long = tt
seen_long (Some v) m long = long v refl

module _ (c : Configuration) (items : List ObjectBlock) (numbered : map block_number items ≡ range_with_len 0 c.source_blocks) (same : All (λ b. (received_of b.decoder).configuration ≡ c) items) (cut : All (λ b. IsCut c (received_of b.decoder)) items) where
  each_long : AreLong (state c items)
  each_long b below =
      let within : b < length items = omega (arith, below, length-numbered block_number c.source_blocks items numbered) in
      let first = some_block items b within in
      let x = get_or items b first in
      let is : x ≡ get_or items b x = get_or_default items b first x within in
      let symbols : (received_of x.decoder).source_symbols ≡ block_symbols c b = cut b first within ∙ ap (block_symbols c) (numbered_at block_number c.source_blocks items numbered b x below is) in
      let size : (received_of x.decoder).configuration.symbol_size ≡ c.symbol_size = ap (λ k. k.symbol_size) (same b first within) in
      let whole : (received_of x.decoder).source_symbols * (received_of x.decoder).configuration.symbol_size ≡ block_symbols c b * c.symbol_size =
      ap (λ m. m * (received_of x.decoder).configuration.symbol_size) symbols ∙ ap (λ m. block_symbols c b * m) size in
      subst (λ a. IfSome a (λ block. length block ≡ block_symbols c b * c.symbol_size)) (sym (get_or-map answer_of items b first None within))
      (subst (λ m. IfSome (answer_of x) (λ block. length block ≡ m)) whole (seen_long x.answer _ x.long))

pub long_answers : (d : Decoder) → AreLong (state_of d)
long_answers d = each_long d.config d.blocks.items d.numbered d.same d.cut

pub parts_of_decoder : (d : Decoder) → PartsMakeObject (state_of d)
parts_of_decoder d = parts_make_object (state_of d) (long_answers d)

-- a number that no block has
pub no_part : (c : Configuration) (items : List ObjectBlock) (n : ℕ) → map block_number items ≡ range_with_len 0 c.source_blocks → c.source_blocks ≤ n → None ≡ answered_part (state c items) n
no_part c items n numbered past =
    ap (option_map (object_part c n)) (sym (get_or_past (map answer_of items) n None (omega (arith, past, length-map items answer_of, length-numbered block_number c.source_blocks items numbered))))

module _ {s : State} {n : ℕ} {x : ObjectBlock} (holds : HoldsBlock s n x) where
  pub part_here : (a : Option (List ℕ)) → answer_of x ≡ a → option_map (object_part s.configuration n) a ≡ answered_part s n
  part_here a so = ap (option_map (object_part s.configuration n)) (sym so ∙ sym holds.answer)

  -- what is lent of its bytes
  pub part_lent : (block lent : List ℕ) (rest size : ℕ) → answer_of x ≡ Some block → lent ≡ block → rest ≡ s.configuration.transfer_length - symbols_before s.configuration n * s.configuration.symbol_size → size ≡ min rest (length block)
      → Some (take size lent) ≡ answered_part s n
  part_lent block lent rest size so same left long =
      ap (λ xs. Some (take size xs)) same ∙ ap (λ m. Some (take m block)) long ∙ ap (λ xs. Some xs) (take_min rest block) ∙ ap (λ m. Some (take m block)) left ∙ part_here (Some block) so
