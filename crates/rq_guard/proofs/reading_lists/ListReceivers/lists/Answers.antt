use Rattle.std.proofs.Common.{◌≡◌, ◌<◌, ◌+◌, ℕ, List, [], ◌∷◌, ◌++◌, length, get_or, Option, Some, None, All, true, false, sym, ap, subst, ◌∙◌, arith, option_map, length-append}
use Rattle.std.specs.Prelude.{IfSome, ◌==◌}
use Rattle.std.proofs.lemmas.Bool.{le-leb, lt-leb, eq-eqb, ne_eqb}
use Rattle.std.proofs.lemmas.List.Elements.{All-push}
use Rattle.rq_cells.specs.declared.cell.Cell.{Cell}
use Rattle.rq_guard.specs.declared.list.DigestList.{DigestList}
use Rattle.rq_guard.specs.Lists.{listed_of}
use Rattle.rq_guard.specs.Damage.{IsList}
use Rattle.rq_guard.specs.ListReading.{HasLists, IsListIn, is_last_of}
use Rattle.rq_guard.proofs.ListedParts.{each_push}
use Rattle.rq_guard.proofs.reading_lists.ListReceivers.lists.Goals as goal
use Rattle.rq_guard.proofs.reading_lists.ListReceivers.lists.Goals.{In_ok-push}

pub returns-in_default-clause-lists : goal.returns-in_default-clause-lists
returns-in_default-clause-lists c = λ came has.
    let kept = c.loop-index.invariant in
    record {
      first = c.loop-index.lists.items;
      are = record { each = kept.each came has; few = omega (arith, kept.count, c.loop-index-test.true, c.loop-index.auto.index-end) };
      none_last = kept.none_last;
      lacks = λ _.
          subst (λ n. IsListIn c.args.by.now.table.now c.args.by.now.key.now c.args.stream.now came n None) (sym kept.count)
          (subst (λ (o : Option DigestList). IsListIn c.args.by.now.table.now c.args.by.now.key.now c.args.stream.now came c.loop-index.index (option_map listed_of o)) c.in_default.is
          (c.in_ok-list.ensures.list came has));
    }

module _ (c : In_ok-push) where
  abbrev old : List DigestList
  old = c.loop-index.lists.items

  abbrev l : DigestList
  l = c.in-Some.list

  pushed : c.push.new.self.items ≡ old ++ l ∷ []
  pushed = c.in_ok-push.ensures.items

  each : (came : List Cell) → HasLists c.args.by.now.table.now came c.args.self.now → (i : ℕ) (d : DigestList) → i < length c.push.new.self.items
      → IsListIn c.args.by.now.table.now c.args.by.now.key.now c.args.stream.now came i (Some (listed_of (get_or c.push.new.self.items i d)))
  each came has =
      let P : ℕ → DigestList → Type 0 = λ n x. IsListIn c.args.by.now.table.now c.args.by.now.key.now c.args.stream.now came n (Some (listed_of x)) in
      each_push P old c.push.new.self.items l pushed (c.loop-index.invariant.each came has)
      (subst (λ n. P n l) (sym c.loop-index.invariant.count)
      (subst (λ (o : Option DigestList). IsListIn c.args.by.now.table.now c.args.by.now.key.now c.args.stream.now came c.loop-index.index (option_map listed_of o)) c.in-Some.is
      (c.in_ok-list.ensures.list came has)))

  usable : All (λ m. IsList (listed_of m)) c.push.new.self.items
  usable =
      subst (All (λ (m : DigestList). IsList (listed_of m))) (sym pushed)
      (All-push (λ (m : DigestList). IsList (listed_of m)) old l c.loop-index.invariant.usable
      (subst (λ (o : Option DigestList). IfSome o (λ m. IsList (listed_of m))) c.in-Some.is c.in_ok-list.ensures.usable))

  count : length c.push.new.self.items ≡ c.loop-index.index + 1
  count = omega (arith, ap length pushed, length-append old (l ∷ []), c.loop-index.invariant.count)

  none_last : is_last_of l ≡ false → (i : ℕ) (d : DigestList) → i < length c.push.new.self.items → is_last_of (get_or c.push.new.self.items i d) ≡ false
  none_last is = each_push (λ n x. is_last_of x ≡ false) old c.push.new.self.items l pushed c.loop-index.invariant.none_last is

  last : is_last_of l ≡ true → (i : ℕ) (d : DigestList) → i < length c.push.new.self.items
      → is_last_of (get_or c.push.new.self.items i d) ≡ (i + 1 == length c.push.new.self.items)
  last is =
      let size = length c.push.new.self.items in
      let here : length old + 1 ≡ size = omega (arith, count, c.loop-index.invariant.count) in
      each_push (λ n x. is_last_of x ≡ (n + 1 == size)) old c.push.new.self.items l pushed
      (λ i d below. c.loop-index.invariant.none_last i d below ∙ sym (ne_eqb (i + 1) size (λ same. absurd (omega (arith, below, here, same)))))
      (is ∙ sym (eq-eqb (length old + 1) size here))

pub returns-then-is_last-clause-lists : goal.returns-then-is_last-clause-lists
returns-then-is_last-clause-lists c = λ came has.
    let at = (goal.at.returns-then-is_last-clause-lists c).In_ok-push in
    record {
      are = record { each = each at came has; few = omega (arith, count at, c.loop-index-test.true, c.loop-index.auto.index-end) };
      some = omega (arith, count at);
      last = last at (le-leb 2147483648 c.in-Some.list.head.number c.if-is_last.true);
    }

pub returns-then-is_last-clause-usable : goal.returns-then-is_last-clause-usable
returns-then-is_last-clause-usable c = usable (goal.at.returns-then-is_last-clause-usable c).In_ok-push

pub loop-index-preserved : goal.loop-index-preserved
loop-index-preserved c =
    let at = (goal.at.loop-index-preserved c).In_ok-push in
    record {
      count = count at;
      each = each at;
      usable = usable at;
      none_last = none_last at (lt-leb 2147483648 c.in-Some.list.head.number c.if-is_last.false);
    }

pub returns-clause-lists : goal.returns-clause-lists
returns-clause-lists c = λ came has.
    let kept = c.loop-index.invariant in
    record {
      first = c.loop-index.lists.items;
      are = record { each = kept.each came has; few = omega (arith, kept.count, c.loop-index.auto.index-end) };
      none_last = kept.none_last;
      lacks = λ few. absurd (omega (arith, kept.count, c.loop-index-test.false, few));
    }
