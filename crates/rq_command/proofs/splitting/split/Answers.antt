use Rattle.std.proofs.Common.{◌≡◌, ◌+◌, ◌∷◌, [], ℕ, List, Err, option_map, ap, refl, sym, subst, ◌∙◌, Result}
use Rattle.std.proofs.lemmas.Result.{err_from_is_err_and}
use Rattle.rq_streams.specs.declared.run.Stop.{Stop}
use Rattle.rq_streams.specs.Counted.{failed_count, inner}
use Rattle.rq_cast.specs.Output.{counting, sink}
use Rattle.rq_command.specs.declared.ending.End.{End}
use Rattle.rq_devices.specs.Failed.{Fails}
use Rattle.rq_command.specs.Splitting.{CountsStop, EndsSplitting, order_of, shards_spot}
use Rattle.rq_devices.specs.Keyed.{IsKeyRead, key_file}
use Rattle.rq_command.specs.Program.{end_of}
use Rattle.rq_command.proofs.Failing.{passed_on}
use Rattle.rq_devices.proofs.Counting.{failed_behind, failed_then}
use Rattle.rq_command.proofs.Guarding.{stopped_by}
use Rattle.rq_command.proofs.Made.{fault_counted, none_counted, whole_from}
use Rattle.rq_command.proofs.Sharded.{splits, stops_split, sent_counted}
use Rattle.rq_devices.proofs.Putting.{stopped_shards, whole_put}
use Rattle.rq_command.proofs.splitting.split.Goals as goal
use Rattle.rq_command.proofs.splitting.split.Given.{Over}
use Rattle.rq_command.proofs.splitting.split.Goals.{After-put}

pub returns-in_err-reader-clause-failures : goal.returns-in_err-reader-clause-failures
returns-in_err-reader-clause-failures g c =
    passed_on c.from_residual-in_err-reader.result c.in_err-reader.field-0.0 (g.D.Devices.failed c.args.devices.now) (g.D.Devices.failed c.key_of.new.devices)
    (g.D.Devices.failed c.open_files.new.devices) c.from_residual-in_err-reader.ensures.1 c.in_ok-key.ensures.counts c.in_err-reader.ensures.counts

pub returns-in_err-create-clause-failures : goal.returns-in_err-create-clause-failures
returns-in_err-create-clause-failures g c =
    let a = g.D.Devices.failed c.args.devices.now in
    let o = g.D.Devices.failed c.open_files.new.devices in
    passed_on c.from_residual-in_err-create.result c.in_err-create.field-0.0 a o (g.D.Devices.failed c.create.new.self)
    c.from_residual-in_err-create.ensures.1
    (failed_behind a (g.D.Devices.failed c.key_of.new.devices) o 0 c.in_ok-key.ensures.counts c.in_ok-reader.ensures.counts) c.in_err-create.ensures.counts

module _ (g : Over) (c : After-put g) where
  abbrev file : List ℕ
  file = c.args.job.now.file.now

  read : g.D.Reader.Read.remaining (inner c.new-input.result) ≡ g.D.Devices.stands c.args.devices.now (file ∷ [])
  read =
      ap g.D.Reader.Read.remaining c.new-input.ensures.inner ∙ c.in_ok-reader.ensures.bytes ∙ ap (λ there. there (file ∷ [])) c.key_of.ensures.stays

  there : g.D.Writer.Write.contents (sink c.new-output.result) ≡ g.D.Devices.blank (shards_spot c.args.job.now)
  there =
      ap (λ w. g.D.Writer.Write.contents (inner w)) c.new-output.ensures.writer ∙ ap g.D.Writer.Write.contents c.new.ensures.inner ∙ c.in_ok-create.ensures.blank

  kept : g.D.Devices.placed c.count-2.new.self ≡ g.D.Devices.placed c.args.devices.now
  kept = c.count-2.ensures.kept ∙ c.count.ensures.kept ∙ c.create.ensures.kept ∙ c.open_files.ensures.kept ∙ c.key_of.ensures.kept

  written : g.D.Writer.Write.contents c.into_inner.result ≡ g.D.Writer.Write.contents (sink c.send_whole-made.new.output)
  written = ap g.D.Writer.Write.contents (c.into_inner.ensures ∙ ap inner c.into_counted-counted.ensures)

  abbrev n : ℕ
  n = c.put.ensures.failures.0

  abbrev all : ℕ
  all = failed_count c.send_whole-made.new.reader + (failed_count (counting c.send_whole-made.new.output) + n)

  unwritten : failed_count (counting c.new-output.result) ≡ 0
  unwritten = ap failed_count c.new-output.ensures.writer ∙ c.new.ensures.none

  fails : Fails (g.D.Devices.failed c.args.devices.now) (g.D.Devices.failed c.put.new.devices) all
  fails =
      let a = g.D.Devices.failed c.args.devices.now in
      let k = g.D.Devices.failed c.key_of.new.devices in
      let o = g.D.Devices.failed c.open_files.new.devices in
      let w = g.D.Devices.failed c.create.new.self in
      let r = g.D.Devices.failed c.count.new.self in
      let s = g.D.Devices.failed c.count-2.new.self in
      let z = g.D.Devices.failed c.put.new.devices in
      let writes = failed_count (counting c.send_whole-made.new.output) in
      let behind : Fails r s writes = subst (Fails r s) (ap failed_count c.into_counted-counted.ensures) c.count-2.ensures.counts in
      failed_behind a k z all c.in_ok-key.ensures.counts (failed_behind k o z all c.in_ok-reader.ensures.counts
      (failed_behind o w z all c.in_ok-create.ensures.counts
      (failed_then w r z (failed_count c.send_whole-made.new.reader) (writes + n) all c.count.ensures.counts
      (failed_then r s z writes n (writes + n) behind c.put.ensures.failures.1 refl) refl)))

pub returns-in_err-made-clause-does : goal.returns-in_err-made-clause-does
returns-in_err-made-clause-does g c =
    let moved = (goal.at.returns-in_err-made-clause-does g c).After-put in
    let stands = g.D.Devices.stands c.args.devices.now in
    let keys = key_file stands (option_map (λ s. s.now) c.args.job.now.key) in
    let old = g.D.Devices.placed c.args.devices.now in
    let new = g.D.Devices.placed c.put.new.devices in
    let stop = c.in_err-made.field-0.0 in
    let p = err_from_is_err_and c.from_residual-in_err-made.result c.from_residual-in_err-made.ensures.1 in
    subst (λ (r : Result End Stop). EndsSplitting c.args.job.now stands g.D.Devices.blank (end_of r) old new) (sym (p.1 ∙ ap (λ s. Err s) p.2)) (
      stopped_shards c.args.job.now.folder.now c.args.job.now.file.now c.args.job.now.shares.all c.is_ok-is_whole.result
          (g.D.Writer.Write.contents c.into_inner.result) (g.D.Devices.placed c.count-2.new.self) new c.put.result stop c.in_err-made.was c.put.ensures.placed
          ∙ kept g moved,
      stops_split (order_of c.args.job.now) keys (stands (c.args.job.now.file.now ∷ [])) (g.D.Reader.Read.remaining (inner c.new-input.result))
          (g.D.Reader.Read.remaining (inner c.send_whole-made.new.reader)) (g.D.Devices.blank (shards_spot c.args.job.now)) (g.D.Writer.Write.contents (sink c.new-output.result))
          (g.D.Writer.Write.contents (sink c.send_whole-made.new.output)) c.in-Some.key c.is_ok-is_whole.result c.send_whole-made.result c.put.result
          (subst (IsKeyRead keys) c.in-Some.is c.in_ok-key.ensures.key) (read g moved) (there g moved) stop c.in_err-made.was c.put.ensures.same
          (rw c.order_of-order.ensures at c.send_whole-made.ensures.stops),
    )

pub returns-in_err-made-clause-failures : goal.returns-in_err-made-clause-failures
returns-in_err-made-clause-failures g c =
    let moved = (goal.at.returns-in_err-made-clause-failures g c).After-put in
    let stop = c.in_err-made.field-0.0 in
    let p = err_from_is_err_and c.from_residual-in_err-made.result c.from_residual-in_err-made.ensures.1 in
    stopped_by c.from_residual-in_err-made.result stop (g.D.Devices.failed c.args.devices.now) (g.D.Devices.failed c.put.new.devices) (all g moved)
    (p.1 ∙ ap (λ s. Err s) p.2) (fails g moved)
    (fault_counted c.new-input.result c.send_whole-made.new.reader c.new-output.result c.send_whole-made.new.output c.is_ok-is_whole.result
    c.send_whole-made.result c.put.result (n g moved) c.new-input.ensures.none (unwritten g moved) c.put.ensures.same c.put.ensures.failures.2
    (CountsStop c.new-input.result c.send_whole-made.new.reader c.new-output.result c.send_whole-made.new.output) (λ more. more) stop
    c.in_err-made.was c.send_whole-made.ensures.failed)

pub returns-clause-does : goal.returns-clause-does
returns-clause-does g c =
    let moved = (goal.at.returns-clause-does g c).After-put in
    let stands = g.D.Devices.stands c.args.devices.now in
    let keys = key_file stands (option_map (λ s. s.now) c.args.job.now.key) in
    let new = g.D.Devices.placed c.put.new.devices in
    let whole = whole_from c.is_ok-is_whole.result c.send_whole-made.result c.put.result c.in_ok-made.made c.in_ok-made.was c.is_ok-is_whole.ensures.value
    c.put.ensures.same in
    let spot = shards_spot c.args.job.now in
    let filed = whole_put spot c.is_ok-is_whole.result (g.D.Writer.Write.contents c.into_inner.result) (g.D.Devices.placed c.count-2.new.self) new c.put.result
    c.in_ok-made.made whole c.in_ok-made.was c.put.ensures.placed in (
      splits (order_of c.args.job.now) keys (stands (c.args.job.now.file.now ∷ [])) (g.D.Reader.Read.remaining (inner c.new-input.result))
          (g.D.Reader.Read.remaining (inner c.send_whole-made.new.reader)) (g.D.Devices.blank spot) (g.D.Writer.Write.contents (sink c.new-output.result))
          (g.D.Writer.Write.contents (sink c.send_whole-made.new.output)) c.in-Some.key c.is_ok-is_whole.result c.send_whole-made.result c.put.result
          (subst (IsKeyRead keys) c.in-Some.is c.in_ok-key.ensures.key) (read g moved) (there g moved) (new spot) c.in_ok-made.made c.in_ok-made.was c.put.ensures.same
          (rw c.order_of-order.ensures at c.send_whole-made.ensures.sends)
          (filed.there ∙ written g moved),
      λ other differs. filed.others other differs ∙ ap (λ there. there other) (kept g moved),
    )

pub returns-clause-failures : goal.returns-clause-failures
returns-clause-failures g c =
    let moved = (goal.at.returns-clause-failures g c).After-put in (
      all g moved,
      fails g moved,
      sent_counted c.send_whole-made.result c.put.result c.is_ok-is_whole.result (order_of c.args.job.now) c.in-Some.key
          (g.D.Reader.Read.remaining (inner c.new-input.result)) (g.D.Reader.Read.remaining (inner c.send_whole-made.new.reader))
          (g.D.Writer.Write.contents (sink c.new-output.result)) (g.D.Writer.Write.contents (sink c.send_whole-made.new.output)) c.in_ok-made.made
          c.in_ok-made.was c.put.ensures.same (rw c.order_of-order.ensures at c.send_whole-made.ensures.sends) (all g moved)
          (none_counted c.new-input.result c.send_whole-made.new.reader c.new-output.result c.send_whole-made.new.output c.is_ok-is_whole.result
          c.send_whole-made.result c.put.result (n g moved) c.new-input.ensures.none (unwritten g moved) c.put.ensures.same c.put.ensures.failures.2
          c.in_ok-made.made c.in_ok-made.was c.is_ok-is_whole.ensures.value c.send_whole-made.ensures.reader c.send_whole-made.ensures.counts),
    )
