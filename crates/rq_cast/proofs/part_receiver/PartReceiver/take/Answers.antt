use Rattle.std.proofs.Common.{◌≡◌, true, false, sym, subst, ◌∙◌, arith}
use Rattle.std.proofs.lemmas.Result.{on_ok_weaker}
use Rattle.rq_cast.specs.PartReceiving.{CountsOther}
use Rattle.rq_cast.proofs.PartVotes.{votes_same, votes_counted, votes_anew}
use Rattle.rq_cast.proofs.PartTaken.{received_same, received_counted, received_anew, no_other, added_all}
use Rattle.rq_cast.proofs.part_receiver.PartReceiver.take.Goals as goal

pub returns-then-eq-clause-takes : goal.returns-then-eq-clause-takes
returns-then-eq-clause-takes c =
    let table = c.args.table.now in
    let old = c.args.self.now in
    let cell = c.args.found.cell in
    on_ok_weaker c.add.result (λ adds. record {
      whoever = λ first came has.
          received_same table first came cell old has (sym c.eq.ensures ∙ c.if-eq.true) c.count.new.self c.count.ensures.head c.count.ensures.rival c.add.new.self adds;
      one_sender = λ h came one has. added_all table h came cell old one has c.count.new.self c.count.ensures.head c.add.new.self adds;
      votes = λ names came has.
          votes_same table names came cell old has (sym c.eq.ensures ∙ c.if-eq.true) c.count.new.self c.count.ensures.head c.count.ensures.rival
          c.count.ensures.more c.add.new.self adds;
    }) c.add.ensures.adds

pub returns-then-not-count_other-clause-takes : goal.returns-then-not-count_other-clause-takes
returns-then-not-count_other-clause-takes c =
    let table = c.args.table.now in
    let old = c.args.self.now in
    let cell = c.args.found.cell in
    let other = sym c.eq.ensures ∙ c.if-eq.false in
    let same : c.count_other.result ≡ false = grind (arith, c.if-not-count_other.true) in
    record {
      whoever = λ first came has.
          received_counted table first came cell old has other c.count_other.new.self c.count_other.ensures.heads (c.count_other.ensures.same same);
      one_sender = λ h came one has. absurd (no_other table h came cell old one has other);
      votes = λ names came has.
          votes_counted table names came cell old has other c.count_other.new.self
          (subst (λ b. CountsOther table old.choice cell.head b c.count_other.new.self) same c.count_other.ensures.counts);
    }

pub returns-clause-takes : goal.returns-clause-takes
returns-clause-takes c =
    let table = c.args.table.now in
    let old = c.args.self.now in
    let cell = c.args.found.cell in
    let other = sym c.eq.ensures ∙ c.if-eq.false in
    let changed : c.count_other.result ≡ true = grind (arith, c.if-not-count_other.false) in
    on_ok_weaker c.add-2.result (λ adds. record {
      whoever = λ first came has.
          received_anew table first came cell old has other c.count_other.new.self c.count_other.ensures.heads (c.count_other.ensures.changed changed)
          c.begin_anew.new.self c.in_ok-begin_anew.ensures.begins c.add-2.new.self adds;
      one_sender = λ h came one has. absurd (no_other table h came cell old one has other);
      votes = λ names came has.
          votes_anew table names came cell old has other c.count_other.new.self
          (subst (λ b. CountsOther table old.choice cell.head b c.count_other.new.self) changed c.count_other.ensures.counts)
          c.begin_anew.new.self c.in_ok-begin_anew.ensures.begins c.begin_anew.ensures.counts c.add-2.new.self adds;
    }) c.add-2.ensures.adds
