use Rattle.std.proofs.Common.{◌≡◌, ◌<◌, ◌≤◌, length, Bool, Err, refl, subst, ap, ◌∙◌, arith}
use Rattle.std.proofs.lemmas.Result.{err_from_is_err_and}
use Rattle.rq_streams.specs.Counted.{failed_count}
use Rattle.rq_streams.specs.Ends.{failed_calls}
use Rattle.rq_guard.specs.Mending.{mended_parts}
use Rattle.rq_guard.specs.Reading.{RepairsPart}
use Rattle.rq_guard_runs.specs.Pairs.{in_guard}
use Rattle.rq_devices.specs.Placed.{Contents}
use Rattle.rq_devices.proofs.Counting.{failed_behind, failed_then, none_fails}
use Rattle.rq_guard_runs.proofs.MendedParts.{mending_none, mending_more, mending_stops, mending_ends}
use Rattle.rq_guard_runs.proofs.pair.Pair.mend_from.Goals as goal

pub parts-init : goal.parts-init
parts-init g c =
    let table = c.args.self.now.by.table.now in
    record {
      mends = mending_none table c.args.self.now.by.key.now c.args.lists.now (g.F.Read.remaining c.args.file.now.inner)
          (in_guard c.args.self.now (g.D.Devices.stands c.args.devices.now)) (g.W.Write.contents c.args.writer.now.inner) c.in_ok-mending.mending
          (c.in_ok-mending.ensures.mended table);
      sound = c.in_ok-mending.ensures.sound table;
      reads = c.requires.reads;
      writes = c.requires.writes;
      fails = none_fails (g.D.Devices.failed c.args.devices.now);
      stays = refl;
      kept = refl;
      filed = refl;
      earlier = refl;
    }

pub returns-in_err-guard-clause-counts : goal.returns-in_err-guard-clause-counts
returns-in_err-guard-clause-counts g c =
    let now = c.parts.invariant in
    let p = err_from_is_err_and c.from_residual-in_err-guard.result c.from_residual-in_err-guard.ensures.1 in
    let n = failed_calls {X = Bool} (Err c.in_err-guard.field-0.0) in
    let same : failed_calls c.from_residual-in_err-guard.result ≡ n = ap failed_calls (p.1 ∙ ap (λ s. Err s) p.2) in (
      n,
      failed_behind (g.D.Devices.failed c.args.devices.now) (g.D.Devices.failed c.parts.devices) (g.D.Devices.failed c.open_guard.new.devices) n now.fails
          c.in_err-guard.ensures.counts,
      omega (arith, same, now.reads, now.writes),
    )

pub returns-in_err-mended-clause-counts : goal.returns-in_err-mended-clause-counts
returns-in_err-mended-clause-counts g c =
    let now = c.parts.invariant in
    let b = g.D.Devices.failed c.parts.devices in
    let z = g.D.Devices.failed c.count.new.self in
    let p = err_from_is_err_and c.from_residual-in_err-mended.result c.from_residual-in_err-mended.ensures.1 in
    let n = failed_count c.repair_part-mended.new.guard in
    let same : failed_calls c.from_residual-in_err-mended.result ≡ failed_calls {X = Bool} (Err c.in_err-mended.field-0.0) =
    ap failed_calls (p.1 ∙ ap (λ s. Err s) p.2) in (
      n,
      failed_behind (g.D.Devices.failed c.args.devices.now) b z n now.fails
          (failed_behind b (g.D.Devices.failed c.open_guard.new.devices) z n c.in_ok-guard.ensures.counts c.count.ensures.counts),
      omega (arith, same, now.reads, now.writes, c.in_ok-guard.ensures.none, c.in_err-mended.ensures.counts),
    )

pub returns-then-not-branch-clause-repairs : goal.returns-then-not-branch-clause-repairs
returns-then-not-branch-clause-repairs g c =
    let self = c.args.self.now in
    let lists = c.args.lists.now in
    let guard = in_guard self (g.D.Devices.stands c.args.devices.now) in
    let mid = g.F.Read.remaining c.parts.file.inner in
    let left = g.F.Read.remaining c.repair_part-mended.new.file.inner in
    let guard' = g.D.Reader.Read.remaining c.repair_part-mended.new.guard.inner in
    let between = g.W.Write.contents c.parts.writer.inner in
    let then = g.W.Write.contents c.repair_part-mended.new.writer.inner in
    let answer = c.in_ok-mended.field-0 in
    let new = c.repair_part-mended.new.mending in
    let is_guard = c.in_ok-guard.ensures.bytes ∙ ap (in_guard self) c.parts.invariant.stays in
    let part = subst (λ (b : Contents). RepairsPart self.by.table.now self.by.key.now lists mid left b guard' between then c.parts.mending new answer) is_guard
    c.in_ok-mended.ensures.repairs in
    mending_stops self.by.table.now self.by.key.now lists (g.F.Read.remaining c.args.file.now.inner) mid guard (g.W.Write.contents c.args.writer.now.inner)
    between c.parts.mending c.parts.invariant.mends left guard' then new answer part c.if-not-branch.true

pub parts-preserved : goal.parts-preserved
parts-preserved g c =
    let now = c.parts.invariant in
    let self = c.args.self.now in
    let lists = c.args.lists.now in
    let guard = in_guard self (g.D.Devices.stands c.args.devices.now) in
    let mid = g.F.Read.remaining c.parts.file.inner in
    let left = g.F.Read.remaining c.repair_part-mended.new.file.inner in
    let guard' = g.D.Reader.Read.remaining c.repair_part-mended.new.guard.inner in
    let between = g.W.Write.contents c.parts.writer.inner in
    let then = g.W.Write.contents c.repair_part-mended.new.writer.inner in
    let answer = c.in_ok-mended.field-0 in
    let new = c.repair_part-mended.new.mending in
    let is_guard = c.in_ok-guard.ensures.bytes ∙ ap (in_guard self) now.stays in
    let part = subst (λ (b : Contents). RepairsPart self.by.table.now self.by.key.now lists mid left b guard' between then c.parts.mending new answer) is_guard
    c.in_ok-mended.ensures.repairs in
    let below : mended_parts c.parts.mending < length lists = omega (arith, c.parts-test.true, c.mended_parts.ensures) in
    let b = g.D.Devices.failed c.parts.devices in
    let z = g.D.Devices.failed c.count.new.self in
    let counts = c.in_ok-mended.ensures.counts in
    let none : failed_count c.repair_part-mended.new.guard ≡ 0 = omega (arith, counts, now.reads, now.writes, c.in_ok-guard.ensures.none) in
    record {
      mends = mending_more self.by.table.now self.by.key.now lists (g.F.Read.remaining c.args.file.now.inner) mid guard
          (g.W.Write.contents c.args.writer.now.inner) between c.parts.mending now.mends left guard' then new answer below part c.if-not-branch.false;
      sound = c.in_ok-mended.ensures.sound;
      reads = omega (arith, counts, now.reads, now.writes, c.in_ok-guard.ensures.none);
      writes = omega (arith, counts, now.reads, now.writes, c.in_ok-guard.ensures.none);
      fails = failed_behind (g.D.Devices.failed c.args.devices.now) b z 0 now.fails
          (failed_then b (g.D.Devices.failed c.open_guard.new.devices) z 0 (failed_count c.repair_part-mended.new.guard) 0 c.in_ok-guard.ensures.counts
          c.count.ensures.counts (omega (arith, none)));
      stays = c.count.ensures.stays ∙ c.in_ok-guard.ensures.stays ∙ now.stays;
      kept = c.count.ensures.kept ∙ c.in_ok-guard.ensures.kept ∙ now.kept;
      filed = c.count.ensures.filed ∙ c.in_ok-guard.ensures.filed ∙ now.filed;
      earlier = c.count.ensures.earlier ∙ c.in_ok-guard.ensures.earlier ∙ now.earlier;
    }

pub returns-clause-repairs : goal.returns-clause-repairs
returns-clause-repairs g c =
    let self = c.args.self.now in
    let all : length c.args.lists.now ≤ mended_parts c.parts.mending = omega (arith, c.parts-test.false, c.mended_parts.ensures) in
    mending_ends self.by.table.now self.by.key.now c.args.lists.now (g.F.Read.remaining c.args.file.now.inner) (g.F.Read.remaining c.parts.file.inner)
    (in_guard self (g.D.Devices.stands c.args.devices.now)) (g.W.Write.contents c.args.writer.now.inner) (g.W.Write.contents c.parts.writer.inner)
    c.parts.mending c.parts.invariant.mends c.has_ended.result all c.has_ended.ensures
