-- A slab's buffer and the symbols that callers see.
use Rattle.std.proofs.Common.{length-set, ◌&&◌, ◌≡◌, ◌⊎◌, inl, inr, ⊎_elim, Global, ℕ, ◌+◌, ◌*◌, ◌^◌, ◌<◌, ◌≤◌, List, [], ◌∷◌, ◌++◌, Vec, length, drop, replicate, set, get_or, All, Option, None, Some, refl, sym, ap, ◌∙◌, arith, subst, add-one}
use Rattle.std.specs.Prelude.{◌==◌}
use Rattle.std.proofs.lemmas.List.{length-replicate, length-map, get_or-map, get_or_read}
use Rattle.std.specs.List.{swap}
use Rattle.std.proofs.Math.Nat.{mul-le-mul_right}
use Rattle.rq_algebra.specs.Operations.{Operation, AddAssign, MulAssign, Fma, Reorder, step, values_in, meant_at, order_after, IsPlace, IsOrder}
use Rattle.rq_algebra.specs.Symbols.{symbols, AreSymbols}
use Rattle.std.proofs.lemmas.List.Elements.{All-take, All-drop}
use Rattle.rq_standard.specs.OctetField.{octets}
use Rattle.rq_bytes.specs.Ranges.{range_of, with_range, ranges_exchanged, cut, joined_pieces}
use Rattle.rq_bytes.proofs.Pieces as Pieces
use Rattle.rq_bytes.proofs.Pieces.{HoldsPieces, piece_at, length-piece, piece_written, written_is, refilled_is}
use Rattle.rq_bytes.specs.SymbolSlab.{Slab, after, symbols_in, same_slab, HasPlace}
use Rattle.rq_bytes.specs.SlabLends.{with_octets_from}
use Rattle.rq_bytes.specs.contracts.symbol_slab.SymbolSlab.{the_view, the_invariant}
use Rattle.rq_bytes.specs.declared.symbol_slab.SymbolSlab.TheInside.{Inside}
use Rattle.std.specs.Option.{option_map, option_eq, ForSome}
use Rattle.std.specs.Cmp.Lexicographic.{pointwise}
use Rattle.rq_bytes.proofs.Cuts.{refilled, cut-append, joined-cut, length-cut, cut-with_ranges, pieces_apart}

-- what callers see of the buffer `bytes` of `count` symbols of `size` octets
abbrev pub seen : ℕ → ℕ → Option (List ℕ) → List ℕ → Slab
seen count size order bytes = record { values = cut count size bytes; symbol_size = size; order = order }

pub record HoldsSlab (bytes : List ℕ) (count size : ℕ) (order : Option (List ℕ)) (slab : Slab) : Type 0 where
  pub view : seen count size order bytes ≡ slab
  pub long : length bytes ≡ count * size

pub holds_slab : (inside : Inside) (slab : Slab) → the_view inside ≡ slab → the_invariant inside
    → HoldsSlab inside.data.items inside.count inside.symbol_size (option_map (λ o. o.items) inside.order) slab
holds_slab inside slab view invariant = record { view = view; long = sym inside.data.ok.0 ∙ invariant.0 }

module _ {bytes : List ℕ} {count size : ℕ} {order : Option (List ℕ)} {slab : Slab} (is : HoldsSlab bytes count size order slab) where
  held : HoldsPieces bytes count size slab.values
  held = record { view = ap (λ (v : Slab). v.values) is.view; long = is.long }

  pub count_is : count ≡ length slab.values
  count_is = Pieces.count_is held

  pub size_is : size ≡ slab.symbol_size
  size_is = ap (λ (v : Slab). v.symbol_size) is.view

  pub order_is : order ≡ slab.order
  order_is = ap (λ (v : Slab). v.order) is.view

  -- the octets of one symbol
  pub range_at : (p : ℕ) → p < length slab.values → range_of bytes (p * slab.symbol_size) size ≡ get_or slab.values p []
  range_at p lt = ap (λ s. range_of bytes (p * s) size) (sym size_is) ∙ piece_at held p lt

  pub length-range_at : (p : ℕ) → p < length slab.values → length (get_or slab.values p []) ≡ size
  length-range_at p lt = length-piece held p lt

  -- the values are symbols
  pub are_symbols : All (λ x. x < 256) bytes → AreSymbols octets slab.symbol_size count slab.values
  are_symbols below = record {
    count_is = sym count_is;
    each = λ k lt.
        let here : k < length slab.values = omega (arith, count_is) in
        record {
          size_is = length-range_at k here ∙ size_is;
          elements = subst (All (λ x. x < 256)) (range_at k here) (All-take (λ x. x < 256) size (drop (k * slab.symbol_size) bytes) (All-drop (λ x. x < 256) (k * slab.symbol_size) bytes below));
        };
  }

  -- where a symbol stands
  pub within : (p : ℕ) → p < length slab.values → p * slab.symbol_size + size ≤ length bytes
  within p lt = omega (arith, Pieces.within held p lt, ap (λ s. p * s) size_is)

  pub within_slice : (p a : ℕ) (now : List ℕ) → p < length slab.values → a ≡ p * slab.symbol_size → now ≡ bytes → a + size ≤ length now
  within_slice p a now lt e same = omega (arith, within p lt, ap length same)

  pub apart : (p q a b : ℕ) → (q ≡ p → ⊥) → a ≡ p * slab.symbol_size → b ≡ q * slab.symbol_size → (a + size ≤ b) ⊎ (b + size ≤ a)
  apart p q a b ne e f =
      let s = size_is in
      ⊎_elim
      (λ (l : p * slab.symbol_size + slab.symbol_size ≤ q * slab.symbol_size). inl (omega arith))
      (λ (l : q * slab.symbol_size + slab.symbol_size ≤ p * slab.symbol_size). inr (omega arith))
      (pieces_apart p q slab.symbol_size ne)

  pub range_in : (p a : ℕ) (old : List ℕ) → p < length slab.values → a ≡ p * slab.symbol_size → old ≡ bytes → range_of old a size ≡ get_or slab.values p []
  range_in p a old lt e same = ap (λ xs. range_of xs a size) same ∙ ap (λ k. range_of bytes k size) e ∙ range_at p lt

  -- the buffer again, of what callers see
  pub joined_is : joined_pieces slab.values ≡ bytes
  joined_is = Pieces.joined_is held

  -- what callers see after a write of any octets from one symbol on, in a buffer that keeps its length
  pub octets_written : (p a all : ℕ) (ws : List ℕ) → p < length slab.values → a ≡ p * slab.symbol_size → all ≡ length bytes
      → seen count size order (refilled all bytes a ws) ≡ with_octets_from slab p ws
  octets_written p a all ws lt e whole =
      rw (e ∙ ap (λ s. p * s) (sym size_is), refilled_is held p all ws lt whole)
      (ap (λ (v : Slab). with_octets_from (record v { values = slab.values }) p ws) is.view)

  -- and where they are as many as a symbol has
  pub symbol_written : (p : ℕ) (ws : List ℕ) → p < length slab.values → length ws ≡ slab.symbol_size
      → with_octets_from slab p ws ≡ record slab { values = set slab.values p ws }
  symbol_written p ws lt long =
      ap (λ s. record slab { values = cut (length slab.values) s (with_range (joined_pieces slab.values) (p * s) ws) }) (sym size_is)
      ∙ ap (λ (v : List (List ℕ)). record slab { values = v }) (sym (written_is held p ws) ∙ (piece_written held p ws lt (long ∙ sym size_is)).view)

  -- what callers see after a write of several symbols' octets
  pub block_written : (start k a : ℕ) (old new items source : List ℕ) → start + k ≤ length slab.values → a ≡ start * slab.symbol_size → length source ≡ k * slab.symbol_size
      → old ≡ bytes → items ≡ new → new ≡ with_range old a source
      → seen count size order items ≡ record slab { values = with_range slab.values start (cut k slab.symbol_size source) }
  block_written start k a old new items source fits e whole same kept is_new =
      let count_is_there = count_is in
      let written = cut-with_ranges count size start k bytes source (omega arith) (whole ∙ ap (λ s. k * s) (sym size_is)) is.long in
      rw (kept, is_new, same, e ∙ ap (λ s. start * s) (sym size_is), written)
      (ap (λ (v : Slab). record v { values = with_range v.values start (cut k v.symbol_size source) }) is.view)

  -- what callers see after a symbol of zeros behind the others
  pub zeros_behind : seen (count + 1) size order (bytes ++ replicate size 0) ≡ record slab { values = slab.values ++ replicate slab.symbol_size 0 ∷ [] }
  zeros_behind =
      rw (add-one count, cut-append count size bytes (replicate size 0) is.long (length-replicate {A = ℕ} size 0))
      (ap (λ (v : Slab). record v { values = v.values ++ replicate v.symbol_size 0 ∷ [] }) is.view)

  -- what callers see after an exchange of two symbols' octets
  pub exchanged : (p q : ℕ) (items : List ℕ) → p < length slab.values → q < length slab.values → items ≡ ranges_exchanged bytes (p * size) (q * size) size
      → seen count size order items ≡ record slab { values = swap slab.values p q }
  exchanged p q items first second is_new =
      rw (is_new, Pieces.exchanged held p q first second) (ap (λ (v : Slab). record v { values = swap slab.values p q }) is.view)

  -- what callers see after a write of the octets of one symbol
  pub one_written : (p a : ℕ) (old new items ws : List ℕ) → p < length slab.values → a ≡ p * slab.symbol_size → length ws ≡ size
      → old ≡ bytes → items ≡ new → new ≡ with_range old a ws
      → seen count size order items ≡ record slab { values = set slab.values p ws }
  one_written p a old new items ws lt e long same kept is_new =
      rw (kept, is_new, same, e ∙ ap (λ s. p * s) (sym size_is), (piece_written held p ws lt long).view)
      (ap (λ (v : Slab). record v { values = set slab.values p ws }) is.view)

  pub block_within : (start k : ℕ) → start + k ≤ length slab.values → start * slab.symbol_size + k * slab.symbol_size ≤ length bytes
  block_within start k fits =
      let count_is_there = count_is in
      let enough : start + k ≤ count = omega arith in
      omega (arith, mul-le-mul_right size enough, is.long, ap (λ s. start * s) size_is, ap (λ s. k * s) size_is)

below_in : {Z : Type 0} (order : Option (Vec ℕ Z)) (count i : ℕ) → ForSome order (λ o. IsOrder count o.items)
    → IsPlace count (option_map (λ o. o.items) order) i → meant_at (option_map (λ o. o.items) order) i < count
below_in None count i entries place = place
below_in (Some o) count i entries place = entries o refl i 0 place

-- a defined place means one of the symbols
pub meant_below : (inside : Inside) (slab : Slab) → the_view inside ≡ slab → the_invariant inside → (i : ℕ) → HasPlace slab i → meant_at slab.order i < length slab.values
meant_below inside slab view invariant i =
    let order = option_map (λ o. o.items) inside.order in
    let long = length-cut inside.count inside.symbol_size inside.data.items in
    subst (λ (v : Slab). HasPlace v i → meant_at v.order i < length v.values) view
    (λ place. subst (λ n. meant_at order i < n) (sym long) (below_in inside.order inside.count i invariant.1 (subst (λ n. IsPlace n order i) long place)))

-- the entry of an order that is read
pub entry_below : (inside : Inside) (slab : Slab) → the_view inside ≡ slab → the_invariant inside → (order : Vec ℕ Global) (x i : ℕ)
    → ◌≡◌ {A = Option (Vec ℕ Global)} inside.order (Some order) → HasPlace slab i → x ≡ get_or order.items i x → x < length slab.values
entry_below inside slab view invariant order x i some place e =
    let is = holds_slab inside slab view invariant in
    let set : ◌≡◌ {A = Option (List ℕ)} slab.order (Some order.items) = sym (order_is is) ∙ ap (option_map (λ o. o.items)) some in
    let lt = subst (λ o. IsPlace (length slab.values) o i) set place in
    subst (λ n. n < length slab.values) (ap (λ o. meant_at o i) set ∙ sym (get_or_read order.items i x lt e 0)) (meant_below inside slab view invariant i place)

-- how many places are defined where no order is set
pub count_unordered : (inside : Inside) (slab : Slab) → the_view inside ≡ slab → the_invariant inside → ◌≡◌ {A = Option (Vec ℕ Global)} inside.order None
    → inside.count ≡ length (symbols_in slab)
count_unordered inside slab view invariant none =
    let is = holds_slab inside slab view invariant in
    let unset : ◌≡◌ {A = Option (List ℕ)} slab.order None = sym (order_is is) ∙ ap (option_map (λ o. o.items)) none in
    count_is is ∙ ap (λ o. length (values_in (symbols octets) slab.values o)) (sym unset)

-- the symbols at the defined places, one by one
pub get_or-values_in : (values : List (List ℕ)) (order : Option (List ℕ)) (i : ℕ) → i < length (values_in (symbols octets) values order)
    → get_or (values_in (symbols octets) values order) i [] ≡ get_or values (meant_at order i) []
get_or-values_in values None i lt = refl
get_or-values_in values (Some o) i lt = get_or-map (λ k. get_or values k []) o i 0 [] (omega (arith, length-map o (λ k. get_or values k [])))

same_order : {Z : Type 0} (a b : Option (Vec ℕ Z))
    → option_eq (pointwise ◌==◌) (option_map (λ o. o.items) a) (option_map (λ o. o.items) b) ≡ option_eq (λ x y. pointwise ◌==◌ x.items y.items) a b
same_order None None = refl
same_order None (Some y) = refl
same_order (Some x) None = refl
same_order (Some x) (Some y) = refl

-- what `==` of two slabs compares
pub compared_slabs : (a b : Inside) (left right : Slab) → the_view a ≡ left → the_invariant a → the_view b ≡ right → the_invariant b
    → same_slab left right
    ≡ (a.symbol_size == b.symbol_size && (a.count == b.count && (option_eq (λ x y. pointwise ◌==◌ x.items y.items) a.order b.order && pointwise ◌==◌ a.«data».items b.«data».items)))
compared_slabs a b left right av ai bv bi =
    let octets_a = joined-cut a.count a.symbol_size a.«data».items (sym a.«data».ok.0 ∙ ai.0) in
    let octets_b = joined-cut b.count b.symbol_size b.«data».items (sym b.«data».ok.0 ∙ bi.0) in
    let count_a = length-cut a.count a.symbol_size a.«data».items in
    let count_b = length-cut b.count b.symbol_size b.«data».items in
    rw (← av, ← bv, count_a, count_b, octets_a, octets_b, same_order a.order b.order) refl

-- ---- what an operation keeps and sets

pub length-after : (operation : Operation) (slab : Slab) → length (after operation slab).values ≡ length slab.values
unfolding step
length-after (AddAssign dest src) slab = length-set slab.values (meant_at slab.order dest) _
length-after (MulAssign dest scalar) slab = length-set slab.values (meant_at slab.order dest) _
length-after (Fma dest src scalar) slab = length-set slab.values (meant_at slab.order dest) _
length-after (Reorder order) slab = refl

pub order-after : (operation : Operation) (slab : Slab) → (after operation slab).order ≡ order_after slab.order operation
unfolding step
order-after (AddAssign dest src) slab = refl
order-after (MulAssign dest scalar) slab = refl
order-after (Fma dest src scalar) slab = refl
order-after (Reorder order) slab = refl

-- a symbol ends within its slab's buffer
pub symbol_within : (inside : Inside) (i a : ℕ) → the_invariant inside → meant_at (the_view inside).order i < length (the_view inside).values → a ≡ meant_at (the_view inside).order i * (the_view inside).symbol_size → a + inside.symbol_size ≤ length inside.data.items
symbol_within inside i a invariant below start = within_slice (holds_slab inside (the_view inside) refl invariant) (meant_at (the_view inside).order i) a inside.data.items below start refl

-- and begins at a place in memory
pub start_fits : (inside : Inside) (slab : Slab) → the_view inside ≡ slab → the_invariant inside → (p : ℕ) → p < length slab.values → p * inside.symbol_size < 2 ^ 64
start_fits inside slab view invariant p below =
    let is = holds_slab inside slab view invariant in
    omega (arith, within is p below, ap (λ s. p * s) (size_is is), inside.data.small, inside.data.ok)
