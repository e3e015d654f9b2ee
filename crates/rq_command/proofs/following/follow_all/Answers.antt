use Rattle.std.proofs.Common.{◌≡◌, ◌+◌, [], map, sym, ap, subst, ◌∙◌, refl, arith, OnOk, false}
use Rattle.std.specs.Prelude.{IfNone}
use Rattle.rq_streams.specs.Counted.{failed_count}
use Rattle.rq_cast.specs.Input.{counted_of, is_put_back, last_piece, unread}
use Rattle.rq_cast.specs.Received.{is_given_up, wish_over}
use Rattle.rq_command.specs.Following.{EndsOne, FollowsUpTo, PassesOver}
use Rattle.rq_command.specs.Program.{FailsReceiving}
use Rattle.rq_command.proofs.Failing.{over_without_fault}
use Rattle.rq_devices.proofs.Counting.{failed_then}
use Rattle.rq_devices.specs.Spots.{InFolder}
use Rattle.rq_command.proofs.Followed.{follows_on, follows_no_more, follows_up_to, not_over, over_is}
use Rattle.rq_command.proofs.following.follow_all.Goals as goal

pub returns-in_default-clause-all : goal.returns-in_default-clause-all
returns-in_default-clause-all g c =
    let run = c.args.run.now in
    let given = map (λ v. v.items) c.args.passed.items in
    let input = unread g.D.Reader.Read.remaining c.args.input in
    let held = g.D.Devices.filed c.args.devices.now in
    let passed = map (λ v. v.items) c.streams.passed.items in
    let left = unread g.D.Reader.Read.remaining c.streams.input in
    let there = g.D.Devices.filed c.streams.devices in
    let there' = g.D.Devices.filed c.follow_one-ended.new.devices in
    let after = unread g.D.Reader.Read.remaining c.follow_one-ended.new.input in
    let came = last_piece c.follow_one-ended.new.input in
    let last = c.follow_one-ended.result.0 in
    let seen = c.follow_one-ended.result.1 in
    let one = subst (λ xs. EndsOne run.table.now (wish_over run.table.now run.key.now [] (map (λ v. v.items) xs)) run.window (g.D.Devices.blank (InFolder run.folder.now)) last seen left after came there there')
    c.as_slice.ensures.value c.follow_one-ended.ensures.one in
    subst (FollowsUpTo run.table.now run.key.now given run.window run.timeout (g.D.Devices.blank (InFolder run.folder.now)) input c.streams.streams last seen held) (sym c.count.ensures.filed)
    (follows_up_to run.table.now run.key.now given run.window run.timeout (g.D.Devices.blank (InFolder run.folder.now)) input held c.streams.number c.streams.streams passed left there
    c.streams.invariant.following seen after came there' last (not_over c.over.result last c.over.ensures c.in_default.not-Some) one)

pub put_back-requires : goal.put_back-requires
put_back-requires g c =
    let o = over_is c.follow_one-ended.result.0 c.in-Some.found.0 c.in-Some.found.1 (sym c.over.ensures ∙ c.in-Some.is) in
    subst (λ r. OnOk r (is_put_back c.follow_one-ended.new.input ≡ false)) o.is c.follow_one-ended.ensures.once

pub with_one-streams-requires : goal.with_one-streams-requires
with_one-streams-requires g c = omega (arith, c.streams.invariant.following.all, c.streams-test.true)

pub returns-in_default-pass_over-clause-all : goal.returns-in_default-pass_over-clause-all
returns-in_default-pass_over-clause-all g c =
    let run = c.args.run.now in
    let given = map (λ v. v.items) c.args.passed.items in
    let input = unread g.D.Reader.Read.remaining c.args.input in
    let held = g.D.Devices.filed c.args.devices.now in
    let passed = map (λ v. v.items) c.streams.passed.items in
    let left = unread g.D.Reader.Read.remaining c.streams.input in
    let there = g.D.Devices.filed c.streams.devices in
    let there' = g.D.Devices.filed c.follow_one-ended.new.devices in
    let after = unread g.D.Reader.Read.remaining c.follow_one-ended.new.input in
    let came = last_piece c.follow_one-ended.new.input in
    let last = c.follow_one-ended.result.0 in
    let seen = c.follow_one-ended.result.1 in
    let one = subst (λ xs. EndsOne run.table.now (wish_over run.table.now run.key.now [] (map (λ v. v.items) xs)) run.window (g.D.Devices.blank (InFolder run.folder.now)) last seen left after came there there')
    c.as_slice.ensures.value c.follow_one-ended.ensures.one in
    let ending = c.in-Some.found.0 in
    let o = over_is last ending c.in-Some.found.1 (sym c.over.ensures ∙ c.in-Some.is) in
    let whole = subst (λ r. EndsOne run.table.now (wish_over run.table.now run.key.now [] passed) run.window (g.D.Devices.blank (InFolder run.folder.now)) r seen left after came there there') o.is one in
    let patient = subst (λ r. IfNone run.timeout (is_given_up r ≡ false)) o.is c.follow_one-ended.ensures.patient in
    follows_no_more run.table.now run.key.now given run.window run.timeout (g.D.Devices.blank (InFolder run.folder.now)) input held c.streams.number c.streams.streams passed left there
    c.streams.invariant.following seen after came there' ending o.is_over patient whole (unread g.D.Reader.Read.remaining c.put_back.new.self)
    (c.put_back.ensures.unread g.D.Reader.Read.remaining) c.with_one-streams.result c.with_one-streams.ensures _ refl

pub returns-in_default-pass_over-clause-failures : goal.returns-in_default-pass_over-clause-failures
returns-in_default-pass_over-clause-failures g c =
    let ending = c.in-Some.found.0 in
    let o = over_is c.follow_one-ended.result.0 ending c.in-Some.found.1 (sym c.over.ensures ∙ c.in-Some.is) in
    let fails = c.follow_one-ended.ensures.failures in
    let none : failed_count (counted_of c.follow_one-ended.new.input) + fails.0 ≡ 0 =
    over_without_fault ending o.is_over (failed_count (counted_of c.follow_one-ended.new.input) + fails.0)
    (subst (λ r. FailsReceiving r (failed_count (counted_of c.follow_one-ended.new.input) + fails.0)) o.is fails.2) in (
      0,
      failed_then (g.D.Devices.failed c.args.devices.now) (g.D.Devices.failed c.streams.devices) (g.D.Devices.failed c.follow_one-ended.new.devices) 0 fails.0 0
          c.streams.invariant.fails fails.1 (omega (arith, none)),
      omega arith,
    )

pub streams-preserved : goal.streams-preserved
streams-preserved g c =
    let run = c.args.run.now in
    let given = map (λ v. v.items) c.args.passed.items in
    let input = unread g.D.Reader.Read.remaining c.args.input in
    let held = g.D.Devices.filed c.args.devices.now in
    let passed = map (λ v. v.items) c.streams.passed.items in
    let left = unread g.D.Reader.Read.remaining c.streams.input in
    let there = g.D.Devices.filed c.streams.devices in
    let there' = g.D.Devices.filed c.follow_one-ended.new.devices in
    let after = unread g.D.Reader.Read.remaining c.follow_one-ended.new.input in
    let came = last_piece c.follow_one-ended.new.input in
    let last = c.follow_one-ended.result.0 in
    let seen = c.follow_one-ended.result.1 in
    let one = subst (λ xs. EndsOne run.table.now (wish_over run.table.now run.key.now [] (map (λ v. v.items) xs)) run.window (g.D.Devices.blank (InFolder run.folder.now)) last seen left after came there there')
    c.as_slice.ensures.value c.follow_one-ended.ensures.one in
    let ending = c.in-Some.found.0 in
    let o = over_is last ending c.in-Some.found.1 (sym c.over.ensures ∙ c.in-Some.is) in
    let whole = subst (λ r. EndsOne run.table.now (wish_over run.table.now run.key.now [] passed) run.window (g.D.Devices.blank (InFolder run.folder.now)) r seen left after came there there') o.is one in
    let patient = subst (λ r. IfNone run.timeout (is_given_up r ≡ false)) o.is c.follow_one-ended.ensures.patient in
    let fails = c.follow_one-ended.ensures.failures in
    let none : failed_count (counted_of c.follow_one-ended.new.input) + fails.0 ≡ 0 =
    over_without_fault ending o.is_over (failed_count (counted_of c.follow_one-ended.new.input) + fails.0)
    (subst (λ r. FailsReceiving r (failed_count (counted_of c.follow_one-ended.new.input) + fails.0)) o.is fails.2) in
    let same = ap failed_count c.put_back.ensures.reader in
    record {
      following = follows_on run.table.now run.key.now given run.window run.timeout (g.D.Devices.blank (InFolder run.folder.now)) input held c.streams.number c.streams.streams passed left there
          c.streams.invariant.following seen after came there' ending o.is_over patient whole (unread g.D.Reader.Read.remaining c.put_back.new.self)
          (c.put_back.ensures.unread g.D.Reader.Read.remaining) c.with_one-streams.result c.with_one-streams.ensures (map (λ v. v.items) c.pass_over.new.passed.items)
          (subst (λ name. PassesOver c.streams.number passed name (map (λ v. v.items) c.pass_over.new.passed.items)) (sym o.named) c.in-Ok.ensures);
      none = omega (arith, none, same);
      fails = failed_then (g.D.Devices.failed c.args.devices.now) (g.D.Devices.failed c.streams.devices) (g.D.Devices.failed c.follow_one-ended.new.devices) 0 fails.0 0
          c.streams.invariant.fails fails.1 (omega (arith, none));
      kept = c.follow_one-ended.ensures.kept ∙ c.streams.invariant.kept;
      earlier = c.follow_one-ended.ensures.earlier ∙ c.streams.invariant.earlier;
    }
