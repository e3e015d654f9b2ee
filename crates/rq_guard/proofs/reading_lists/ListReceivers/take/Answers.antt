use Rattle.std.proofs.Common.{◌≡◌, ◌≢◌, ◌+◌, ◌-◌, ℕ, Option, IfSome, sym, subst, ◌∙◌, arith, Result, Ok, Err}
use Rattle.std.specs.Prelude.{OnOk}
use Rattle.std.specs.Ordering.{nat_cmp}
use Rattle.std.specs.BTreeMap.{get}
use Rattle.rq_cast.specs.declared.part_receiver.PartReceiver.{PartReceiver}
use Rattle.rq_cast.specs.Taken.{part_index}
use Rattle.rq_cast.specs.PartReceiving.{IsSound}
use Rattle.rq_cast.specs.Windows.{ReceivesCell}
use Rattle.rq_guard.specs.ListReading.{first_list, receiver_of, AreSound, TakesListCell}
use Rattle.rq_guard.proofs.ReceivedLists.{lists_taken, lists_sound}
use Rattle.rq_guard.proofs.reading_lists.ListReceivers.take.Goals as goal
use Rattle.rq_guard.proofs.reading_lists.ListReceivers.take.Goals.{After-put}

pub receive_cell-requires-clause-sound : goal.receive_cell-requires-clause-sound
receive_cell-requires-clause-sound c =
    let index = part_index c.args.found.cell.head in
    let i = index - first_list in
    let is : first_list + i ≡ index = omega (arith, c.if-index-lt-LIST_PART.false) in
    subst (λ o. IfSome o (IsSound c.args.table.now index)) (sym c.lift-place.ensures.value)
    (subst (λ n. IfSome (get nat_cmp c.args.self.now.of n) (IsSound c.args.table.now n)) is (c.requires.sound i))

on_ok_by : {T E : Type 0} (r : Result T E) (P Q R : Type 0) → (P → Q → R) → OnOk r P → OnOk r Q → OnOk r R
on_ok_by (Ok v) P Q R by p q = by p q
on_ok_by (Err e) P Q R by p q = tt

module _ (c : After-put) where
  abbrev index : ℕ
  index = part_index c.args.found.cell.head

  abbrev i : ℕ
  i = index - first_list

  is : index ≡ first_list + i
  is = omega (arith, c.if-index-lt-LIST_PART.false)

  abbrev place : Option PartReceiver
  place = c.receive_cell.new.place

  receives : ReceivesCell c.args.table.now (receiver_of c.args.self.now i) c.args.found.cell place
  receives =
      subst (λ n. ReceivesCell c.args.table.now (get nat_cmp c.args.self.now.of n) c.args.found.cell place) is
      (subst (λ o. ReceivesCell c.args.table.now o c.args.found.cell place) c.lift-place.ensures.value c.in_ok-_anew.ensures.receives)

  module _ (here : get nat_cmp c.put.new.self.of index ≡ place)
      (others : (k : ℕ) → k ≢ index → get nat_cmp c.put.new.self.of k ≡ get nat_cmp c.lift-place.new.self.of k) where
    there : receiver_of c.put.new.self i ≡ place
    there = subst (λ n. get nat_cmp c.put.new.self.of n ≡ place) is here

    elsewhere : (j : ℕ) → j ≢ i → receiver_of c.put.new.self j ≡ receiver_of c.args.self.now j
    elsewhere j apart =
        let far : first_list + j ≢ index = λ same. apart (omega (arith, same, is)) in
        others (first_list + j) far ∙ c.lift-place.ensures.others (first_list + j) far

    taken : TakesListCell c.args.table.now c.args.self.now c.args.found.cell c.put.new.self
    taken = lists_taken c.args.table.now c.args.self.now c.put.new.self c.args.found.cell i place is receives there elsewhere

    sound : AreSound c.args.table.now c.put.new.self
    sound = lists_sound c.args.table.now c.args.self.now c.put.new.self c.args.found.cell i place is receives there elsewhere c.requires.sound c.in_ok-_anew.ensures.sound

pub returns-clause-takes : goal.returns-clause-takes
returns-clause-takes c =
    let at = (goal.at.returns-clause-takes c).After-put in
    on_ok_by c.put.result _ _ _ (taken at) c.put.ensures.here c.put.ensures.others

pub returns-clause-sound : goal.returns-clause-sound
returns-clause-sound c =
    let at = (goal.at.returns-clause-sound c).After-put in
    on_ok_by c.put.result _ _ _ (sound at) c.put.ensures.here c.put.ensures.others
