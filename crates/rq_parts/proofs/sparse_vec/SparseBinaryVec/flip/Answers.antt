-- What the check leaves to show of `sparse_vec::SparseBinaryVec::flip`.
use Rattle.std.proofs.Common.{◌≡◌, ℕ, List, [], ◌∷◌, ◌++◌, length, filter, ap, sym, subst, ◌∙◌, arith, rules}
use mathlib.Core.Bool.{false≢true}
use Rattle.std.specs.Int.Bits.{bit_xor}
use Rattle.std.specs.List.{insert, refill}
use Rattle.std.specs.List.Sorted.{IsStrictlyIncreasing}
use Rattle.std.proofs.lemmas.List.Kept.{IsStrictlyIncreasing-filter}
use Rattle.rq_parts.specs.SparseBinaryVec.{listed_bit, SetsListed, IsInsertionPlace}
use Rattle.rq_parts.proofs.ListedBits.{listed-contained, listed-missing, place-of, gap-at, rises-with, sets-inserted, is_other, filter-from_retain, others-inserted, sets-others}
use Rattle.rq_parts.proofs.InsertedLower.{inserted_whole}
use Rattle.rq_parts.proofs.sparse_vec.SparseBinaryVec.flip.Goals as goal

record IsFlipped (xs : List ℕ) (i : ℕ) (new : List ℕ) : Type 0 where
  increasing : IsStrictlyIncreasing new
  sets : SetsListed xs i (bit_xor (listed_bit xs i) 1) new

module _ (xs ys zs : List ℕ) (i : ℕ) (up : IsStrictlyIncreasing xs) (pushed : ys ≡ xs ++ i ∷ []) (inserted : (place : ℕ) → IsInsertionPlace xs i place → zs ≡ insert xs place i) where
  whole : (place : ℕ) → IsInsertionPlace xs i place → refill (length ys) ys zs ≡ insert xs place i
  whole place found = inserted_whole xs ys zs i place found.within pushed (inserted place found)

  -- one that was missing is listed
  put_in : listed_bit xs i ≡ 0 → IsFlipped xs i (refill (length ys) ys zs)
  put_in none =
      let place = place-of xs i up in
      let gap = gap-at xs i place.0 up none place.1 in
      record {
        increasing = subst IsStrictlyIncreasing (sym (whole place.0 place.1)) (rises-with xs i place.0 up gap);
        sets = subst (SetsListed xs i (bit_xor (listed_bit xs i) 1)) (sym (whole place.0 place.1))
            (subst (λ bit. SetsListed xs i (bit_xor bit 1) (insert xs place.0 i)) (sym none) (sets-inserted xs i place.0 1 (λ zero. omega arith) gap));
      }

  -- one that was listed is taken out
  taken_out : (new : List ℕ) → listed_bit xs i ≡ 1 → new ≡ filter (is_other i) (refill (length ys) ys zs) → IsFlipped xs i new
  taken_out new one kept =
      let place = place-of xs i up in
      let others : new ≡ filter (is_other i) xs = kept ∙ ap (filter (is_other i)) (whole place.0 place.1) ∙ others-inserted xs place.0 i in
      record {
        increasing = subst IsStrictlyIncreasing (sym others) (IsStrictlyIncreasing-filter (is_other i) xs up);
        sets = subst (SetsListed xs i (bit_xor (listed_bit xs i) 1)) (sym others) (subst (λ bit. SetsListed xs i (bit_xor bit 1) (filter (is_other i) xs)) (sym one) (sets-others xs i));
      }

is_put_in : (c : goal.Else-insert_last) → IsFlipped c.args.self.now c.args.i (refill (length c.push.new.ones.items) c.push.new.ones.items c.insert_last.new.ones)
is_put_in c =
    let ones = c.args.self.now in
    let up = subst IsStrictlyIncreasing c.self.view_is c.self.invariant in
    let pushed = c.in_ok-push.ensures.ok ∙ ap (λ (xs : List ℕ). xs ++ c.args.i ∷ []) c.self.view_is in
    let shown = c.deref_mut.ensures.value ∙ pushed in
    put_in ones c.push.new.ones.items c.insert_last.new.ones c.args.i up pushed (λ place found. c.insert_last.ensures.put ones c.args.i place shown up found)
    (listed-missing ones c.args.i (λ found. false≢true (sym c.if-insert_last.false ∙ (c.insert_last.ensures.listed ones c.args.i shown).1 found)))

is_taken_out : (c : goal.After-retain) → IsFlipped c.args.self.now c.args.i c.retain.new.self.items
is_taken_out c =
    let ones = c.args.self.now in
    let up = subst IsStrictlyIncreasing c.self.view_is c.self.invariant in
    let pushed = c.in_ok-push.ensures.ok ∙ ap (λ (xs : List ℕ). xs ++ c.args.i ∷ []) c.self.view_is in
    let shown = c.deref_mut.ensures.value ∙ pushed in
    taken_out ones c.push.new.ones.items c.insert_last.new.ones c.args.i up pushed (λ place found. c.insert_last.ensures.put ones c.args.i place shown up found) c.retain.new.self.items
    (listed-contained ones c.args.i up ((c.insert_last.ensures.listed ones c.args.i shown).0 c.if-insert_last.true))
    (filter-from_retain _ (is_other c.args.i) _ (λ x b f' y called. search rules) _ _ c.retain.ensures.filtered)

pub invariant_of-self-then-insert_last : goal.invariant_of-self-then-insert_last
invariant_of-self-then-insert_last c = (is_taken_out c).increasing

pub invariant_of-self-else-insert_last : goal.invariant_of-self-else-insert_last
invariant_of-self-else-insert_last c = (is_put_in c).increasing

pub returns-then-insert_last-clause-ok : goal.returns-then-insert_last-clause-ok
returns-then-insert_last-clause-ok c = (is_taken_out c).sets

pub returns-then-insert_last-clause-increasing : goal.returns-then-insert_last-clause-increasing
returns-then-insert_last-clause-increasing c = (is_taken_out c).increasing

pub returns-else-insert_last-clause-ok : goal.returns-else-insert_last-clause-ok
returns-else-insert_last-clause-ok c = (is_put_in c).sets

pub returns-else-insert_last-clause-increasing : goal.returns-else-insert_last-clause-increasing
returns-else-insert_last-clause-increasing c = (is_put_in c).increasing
