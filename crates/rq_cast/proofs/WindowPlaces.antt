-- The places of a window, and what is received at each.
use Rattle.std.proofs.Common.{◌≡◌, ◌≢◌, ℕ, zero, suc, ◌+◌, ◌<◌, List, [], ◌∷◌, ◌++◌, Bool, true, false, Option, Some, None, refl, sym, ap, subst, ◌∙◌, arith, length, map, set, drop, get_or, inl, inr, length-append}
use Rattle.std.specs.Prelude.{IfSome, Contains}
use Rattle.std.proofs.lemmas.Bool.{cases_eq, cases_lt}
use Rattle.std.proofs.lemmas.List.{get_or-set_same, get_or-set_other, get_or-drop, get_or_past, length-drop, length-set}
use Rattle.std.proofs.lemmas.List.Elements.{Contains-push}
use Rattle.rq_standard.specs.declared.row.TableRow.{TableRow}
use Rattle.rq_cells.specs.declared.cell.Cell.{Cell}
use Rattle.rq_cast.specs.declared.part_receiver.PartReceiver.{PartReceiver}
use Rattle.rq_cast.specs.declared.window.Window.{Window}
use Rattle.rq_cast.specs.Taken.{has_head, part_index}
use Rattle.rq_cast.specs.PartReceiving.{IsSound, BeginsAnew}
use Rattle.rq_cast.specs.Windows.{open_at, IsSoundWindow, IsOpen, AreOpen, ReceivesCell}
use Rattle.rq_cast.proofs.SameHead.{same_head}
use Rattle.rq_cast.proofs.PartTaken.{head_of, unused_received, begun_received, received_passed}
use Rattle.rq_cast.proofs.SettledParts.{still_came}

-- ---- what holds of what is there

abbrev IsOf : Type 1
IsOf = PartReceiver → Type 0

pub some_both : (P Q R : IsOf) → ((p : PartReceiver) → P p → Q p → R p) → (o : Option PartReceiver) → IfSome o P → IfSome o Q → IfSome o R
some_both P Q R all None p q = tt
some_both P Q R all (Some x) p q = all x p q

pub some_all : (P R : IsOf) → ((p : PartReceiver) → P p → R p) → (o : Option PartReceiver) → IfSome o P → IfSome o R
some_all P R all None p = tt
some_all P R all (Some x) p = all x p

-- ---- places

push_none : (xs : List (Option PartReceiver)) (k : ℕ) → get_or (xs ++ None ∷ []) k None ≡ get_or xs k None
push_none [] zero = refl
push_none [] (suc k) = refl
push_none (x ∷ xs) zero = refl
push_none (x ∷ xs) (suc k) = push_none xs k

-- one place is changed
module _ (old new : Window) (k : ℕ) (slot : Option PartReceiver) (places : new.parts.items ≡ set old.parts.items k slot)
    (within : k < length old.parts.items) where
  pub place_here : open_at new k ≡ slot
  place_here = ap (λ xs. get_or xs k None) places ∙ get_or-set_same old.parts.items k slot None within

  pub place_elsewhere : (j : ℕ) → j ≢ k → open_at new j ≡ open_at old j
  place_elsewhere j apart = ap (λ xs. get_or xs j None) places ∙ get_or-set_other old.parts.items k j slot None apart

  pub each_place : (P : ℕ → IsOf) → ((j : ℕ) → j ≢ k → IfSome (open_at old j) (P j)) → IfSome slot (P k) → (j : ℕ) → IfSome (open_at new j) (P j)
  each_place P others this j = elim (cases_eq j k) [
    | inl same ↦ subst (λ n. IfSome (open_at new n) (P n)) (sym same) (subst (λ o. IfSome o (P k)) (sym place_here) this)
    | inr apart ↦ subst (λ o. IfSome o (P j)) (sym (place_elsewhere j apart)) (others j apart)
  ]

-- the window slides
module _ (old new : Window) (places : new.parts.items ≡ drop 1 old.parts.items ++ None ∷ []) where
  pub slid : (j : ℕ) → open_at new j ≡ open_at old (1 + j)
  slid j = ap (λ xs. get_or xs j None) places ∙ push_none (drop 1 old.parts.items) j ∙ get_or-drop 1 old.parts.items j None

  pub slid_width : 0 < length old.parts.items → length new.parts.items ≡ length old.parts.items
  slid_width some =
      let none : Option PartReceiver = None in
      let size = length-append (drop 1 old.parts.items) (none ∷ []) in
      omega (arith, ap length places, size, length-drop 1 old.parts.items, some)

-- ---- heads of the parts

module _ (table : List TableRow) (old new : Window) where
  pub sound_same : new.parts.items ≡ old.parts.items → new.names.count ≡ old.names.count → IsSoundWindow table old → IsSoundWindow table new
  sound_same places count sound = record {
    each = λ j. subst (λ (xs : List (Option PartReceiver)). IfSome (get_or xs j None) (IsSound table (new.names.count + j))) (sym places)
        (subst (λ n. IfSome (open_at old j) (IsSound table (n + j))) (sym count) (sound.each j));
  }

  pub sound_set : (k : ℕ) (slot : Option PartReceiver) → new.parts.items ≡ set old.parts.items k slot → k < length old.parts.items
      → new.names.count ≡ old.names.count → IfSome slot (IsSound table (old.names.count + k)) → IsSoundWindow table old → IsSoundWindow table new
  sound_set k slot places within count this sound = record {
    each = each_place old new k slot places within (λ j. IsSound table (new.names.count + j))
        (λ j apart. subst (λ n. IfSome (open_at old j) (IsSound table (n + j))) (sym count) (sound.each j))
        (subst (λ n. IfSome slot (IsSound table (n + k))) (sym count) this);
  }

  pub sound_slid : new.parts.items ≡ drop 1 old.parts.items ++ None ∷ [] → new.names.count ≡ old.names.count + 1 → IsSoundWindow table old
      → IsSoundWindow table new
  sound_slid places count sound = record {
    each = λ j.
        let index : old.names.count + (1 + j) ≡ new.names.count + j = omega (arith, count) in
        subst (λ o. IfSome o (IsSound table (new.names.count + j))) (sym (slid old new places j))
        (subst (λ n. IfSome (open_at old (1 + j)) (IsSound table n)) index (sound.each (1 + j)));
  }

-- ---- what is received

module _ (table : List TableRow) (came : List Cell) (cell : Cell) where
  abbrev all : List Cell
  all = came ++ cell ∷ []

  -- a cell of another part
  pub open_passed : (p : PartReceiver) → part_index p.choice.head ≢ part_index cell.head → IsOpen table came p → IsOpen table all p
  open_passed p apart is = record {
    first = is.first;
    among = still_came came (cell ∷ []) is.first is.among;
    received = received_passed table is.first came cell p is.received (by (has_head p.choice.head cell) refl);
  }
    where
      by : (b : Bool) → has_head p.choice.head cell ≡ b → b ≡ false
      by false e = refl
      by true e = absurd (apart (ap part_index (sym (same_head p.choice.head cell e))))

  cell_came : Contains (map head_of all) cell.head
  cell_came = subst (λ hs. Contains hs cell.head) (sym (map_push came)) (Contains-push (map head_of came) cell.head)
    where
      map_push : (xs : List Cell) → map head_of (xs ++ cell ∷ []) ≡ map head_of xs ++ cell.head ∷ []
      map_push [] = refl
      map_push (x ∷ xs) = ap (λ hs. x.head ∷ hs) (map_push xs)

  -- one of the part itself
  pub open_received : (old new : Option PartReceiver) → ReceivesCell table old cell new → IfSome old (IsOpen table came) → IfSome new (IsOpen table all)
  open_received None None receives is = tt
  open_received None (Some new) (unused, is_unused, takes) is =
      record { first = cell.head; among = cell_came; received = takes.whoever cell.head came (unused_received table cell.head unused is_unused came) }
  open_received (Some old) None receives is = absurd receives
  open_received (Some old) (Some new) takes is =
      record { first = is.first; among = still_came came (cell ∷ []) is.first is.among; received = takes.whoever is.first came is.received }

-- it begins anew
pub open_begun : (table : List TableRow) (came : List Cell) (old new : PartReceiver) → BeginsAnew table old new → IsOpen table came old → IsOpen table came new
open_begun table came old new anew is =
    record { first = is.first; among = is.among; received = begun_received table is.first came old new anew is.received.heads }

module _ (table : List TableRow) (width : ℕ) (came : List Cell) (old new : Window) (are : AreOpen table width came old) where
  -- a cell of none of the window's parts
  pub open_past : (cell : Cell) → IsSoundWindow table old → ((k : ℕ) → k < length old.parts.items → part_index cell.head ≢ old.names.count + k)
      → new.parts.items ≡ old.parts.items → AreOpen table width (came ++ cell ∷ []) new
  open_past cell sound apart places = record {
    wide = ap length places ∙ are.wide;
    each = λ j. subst (λ (xs : List (Option PartReceiver)). IfSome (get_or xs j None) (IsOpen table (came ++ cell ∷ []))) (sym places) (at j);
  }
    where
      at : (j : ℕ) → IfSome (open_at old j) (IsOpen table (came ++ cell ∷ []))
      at j = elim (cases_lt j (length old.parts.items)) [
        | inl within ↦ some_both (IsSound table (old.names.count + j)) (IsOpen table came) (IsOpen table (came ++ cell ∷ []))
            (λ p is so. open_passed table came cell p (λ same. apart j within (sym same ∙ is.heads.0.place)) so) (open_at old j) (sound.each j) (are.each j)
        | inr past ↦ subst (λ o. IfSome o (IsOpen table (came ++ cell ∷ []))) (sym (get_or_past old.parts.items j None past)) tt
      ]

  -- one of the part at a place
  pub open_given : (cell : Cell) → IsSoundWindow table old → (k : ℕ) (slot : Option PartReceiver) → new.parts.items ≡ set old.parts.items k slot
      → k < length old.parts.items → part_index cell.head ≡ old.names.count + k → ReceivesCell table (open_at old k) cell slot
      → AreOpen table width (came ++ cell ∷ []) new
  open_given cell sound k slot places within here receives = record {
    wide = ap length places ∙ length-set old.parts.items k slot ∙ are.wide;
    each = each_place old new k slot places within (λ j. IsOpen table (came ++ cell ∷ []))
        (λ j apart. some_both (IsSound table (old.names.count + j)) (IsOpen table came) (IsOpen table (came ++ cell ∷ []))
        (λ p is so. open_passed table came cell p (λ same. apart (omega (arith, same, here, is.heads.0.place))) so) (open_at old j) (sound.each j) (are.each j))
        (open_received table came cell (open_at old k) slot receives (are.each k));
  }

  -- the first one begins anew
  pub open_anew : (slot : Option PartReceiver) → new.parts.items ≡ set old.parts.items 0 slot → 0 < length old.parts.items
      → (IfSome (open_at old 0) (IsOpen table came) → IfSome slot (IsOpen table came)) → AreOpen table width came new
  open_anew slot places some first = record {
    wide = ap length places ∙ length-set old.parts.items 0 slot ∙ are.wide;
    each = each_place old new 0 slot places some (λ j. IsOpen table came) (λ j apart. are.each j) (first (are.each 0));
  }

  -- the window slides
  pub open_slid : new.parts.items ≡ drop 1 old.parts.items ++ None ∷ [] → 0 < length old.parts.items → AreOpen table width came new
  open_slid places some = record {
    wide = slid_width old new places some ∙ are.wide;
    each = λ j. subst (λ o. IfSome o (IsOpen table came)) (sym (slid old new places j)) (are.each (1 + j));
  }
