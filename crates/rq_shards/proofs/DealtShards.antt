-- What shards hold whose cells are dealt.
use Rattle.std.proofs.Common.{◌≡◌, ◌≢◌, ℕ, ◌%◌, ◌<◌, Bool, true, false, List, [], ◌∷◌, ◌++◌, length, take, Option, Some, None, inl, inr, refl, sym, ap, subst, ◌∙◌, nat_eq, arith, eqb-true, eq-eqb, get_or-set_same, get_or-set_other, length-set}
use Rattle.std.specs.Prelude.{if◌then◌else◌, slice_index_or, slice_set}
use Rattle.std.specs.Io.KnownBytes.{Appends, Keeps}
use Rattle.std.specs.List.{AllByRecursion}
use Rattle.std.proofs.KnownBytes.{Appends-nil, Appends-trans}
use Rattle.std.proofs.lemmas.Bool.{cases_eq}
use Rattle.std.proofs.lemmas.List.{get_or_read, take_all}
use Rattle.rq_cells.specs.declared.cell.Cell.{Cell}
use Rattle.rq_cells.specs.Cells.{Key, cell_at}
use Rattle.rq_shards.specs.declared.dealing.Dealer.{Dealer}
use Rattle.rq_shards.specs.Dealing.{Deals, DealsAll, IsCellBy, dealt_to, is_dealt}

-- a cell is dealt by one call
module _ {W : Type 0} (contents : W → Option (List ℕ)) (key : Key) (shard : ℕ) (d : W) (old mid : Dealer W) (cell : List ℕ) (rest : old.rest ≡ 0)
    (below : shard < length old.shards.items) (is_cell : IsCellBy key cell) (deals : Deals contents old mid cell (length cell)) where
  abbrev at : Dealer W → W
  at dealer = slice_index_or dealer.shards.items shard d

  current_is : mid.current ≡ is_cell.0.packet.id.esi % length old.shards.items
  current_is = deals.next.begins rest key is_cell.0 is_cell.1

  -- to this shard
  here : mid.current ≡ shard → Appends (contents (at old)) (contents (at mid)) cell
  here same =
      let before_is : deals.before ≡ slice_index_or old.shards.items mid.current d =
      get_or_read old.shards.items mid.current deals.before deals.within deals.was d in
      let old_is : deals.before ≡ at old = before_is ∙ ap (λ i. slice_index_or old.shards.items i d) same in
      let set_is : slice_index_or (slice_set old.shards.items mid.current deals.after) mid.current d ≡ deals.after =
      get_or-set_same old.shards.items mid.current deals.after d deals.within in
      let new_is : deals.after ≡ at mid =
      sym set_is ∙ sym (ap (λ xs. slice_index_or xs mid.current d) deals.is) ∙ ap (λ i. slice_index_or mid.shards.items i d) same in
      let all : take (length cell) cell ≡ cell = take_all (length cell) cell (omega arith) in
      subst (λ w. Appends (contents w) (contents (at mid)) cell) old_is
      (subst (λ w. Appends (contents deals.before) (contents w) cell) new_is
      (subst (λ bytes. Appends (contents deals.before) (contents deals.after) bytes) all deals.grows))

  -- to another one
  elsewhere : mid.current ≢ shard → Appends (contents (at old)) (contents (at mid)) []
  elsewhere apart =
      let other : shard ≢ mid.current = λ same. apart (sym same) in
      let kept : at mid ≡ at old =
      ap (λ xs. slice_index_or xs shard d) deals.is ∙ get_or-set_other old.shards.items mid.current shard deals.after d other in
      subst (λ w. Appends (contents (at old)) (contents w) []) (sym kept) (Appends-nil (contents (at old)))

  by : (t : Bool) → nat_eq (is_cell.0.packet.id.esi % length old.shards.items) shard ≡ t
      → Appends (contents (at old)) (contents (at mid)) (if t then cell else [])
  by true is = here (current_is ∙ eqb-true (is_cell.0.packet.id.esi % length old.shards.items) shard is)
  by false is = elsewhere (λ same. absurd (cc (is, eq-eqb (is_cell.0.packet.id.esi % length old.shards.items) shard (sym current_is ∙ same))))

  pub one_dealt : Appends (contents (at old)) (contents (at mid)) (if is_dealt (length old.shards.items) shard (cell_at key cell) then cell else [])
  one_dealt =
      subst (λ (o : Option Cell). Appends (contents (at old)) (contents (at mid)) (if is_dealt (length old.shards.items) shard o then cell else []))
      (sym is_cell.1) (by (nat_eq (is_cell.0.packet.id.esi % length old.shards.items) shard) refl)

  pub as_many : length mid.shards.items ≡ length old.shards.items
  as_many = ap (λ xs. length xs) deals.is ∙ length-set old.shards.items mid.current deals.after

  pub none_left : mid.rest ≡ 0
  none_left = omega (arith, deals.rest, deals.next.begun rest)

-- ---- where a call fails

pub keeps_same : (there : Option (List ℕ)) → Keeps there there
keeps_same None = tt
keeps_same (Some bytes) = refl

pub kept_all : {W : Type 0} (contents : W → Option (List ℕ)) (shards : List W) (current : ℕ) (before after : W) → current < length shards
    → before ≡ slice_index_or shards current before → Keeps (contents before) (contents after) → (shard : ℕ) (d : W)
    → Keeps (contents (slice_index_or shards shard d)) (contents (slice_index_or (slice_set shards current after) shard d))
kept_all {W} contents shards current before after within was keeps shard d = elim (cases_eq shard current) [
  | inl same ↦
      let before_is : before ≡ slice_index_or shards shard d = get_or_read shards current before within was d ∙ ap (λ i. slice_index_or shards i d) (sym same) in
      let after_is : after ≡ slice_index_or (slice_set shards current after) shard d =
      sym (get_or-set_same shards current after d within) ∙ ap (λ i. slice_index_or (slice_set shards current after) i d) (sym same) in
      subst (λ w. Keeps (contents w) (contents (slice_index_or (slice_set shards current after) shard d))) before_is
      (subst (λ w. Keeps (contents before) (contents w)) after_is keeps)
  | inr apart ↦
      subst (λ w. Keeps (contents (slice_index_or shards shard d)) (contents w)) (sym (get_or-set_other shards current shard after d apart))
      (keeps_same (contents (slice_index_or shards shard d)))
]

-- ---- one behind another

pub hold : {W : Type 0} (contents : W → Option (List ℕ)) (key : Key) (shard : ℕ) (d : W) (cells : List (List ℕ)) (old new : Dealer W) → old.rest ≡ 0
    → shard < length old.shards.items → AllByRecursion (IsCellBy key) cells → DealsAll contents old cells new
    → Appends (contents (slice_index_or old.shards.items shard d)) (contents (slice_index_or new.shards.items shard d))
    (dealt_to key (length old.shards.items) shard cells)
hold {W} contents key shard d [] old new rest below each is =
    subst (λ (n : Dealer W). Appends (contents (slice_index_or old.shards.items shard d)) (contents (slice_index_or n.shards.items shard d)) []) (sym is)
    (Appends-nil (contents (slice_index_or old.shards.items shard d)))
hold {W} contents key shard d (cell ∷ cells) old new rest below each deals =
    let mid : Dealer W = deals.0 in
    let many : length mid.shards.items ≡ length old.shards.items = as_many contents key shard d old mid cell rest below each.0 deals.1 in
    let first = one_dealt contents key shard d old mid cell rest below each.0 deals.1 in
    let more = hold contents key shard d cells mid new (none_left contents key shard d old mid cell rest below each.0 deals.1) (omega (arith, many, below)) each.1
    deals.2 in
    Appends-trans (contents (slice_index_or old.shards.items shard d)) (contents (slice_index_or mid.shards.items shard d))
    (contents (slice_index_or new.shards.items shard d)) (if is_dealt (length old.shards.items) shard (cell_at key cell) then cell else [])
    (dealt_to key (length old.shards.items) shard cells) first
    (subst (λ n. Appends (contents (slice_index_or mid.shards.items shard d)) (contents (slice_index_or new.shards.items shard d)) (dealt_to key n shard cells)) many
    more)
