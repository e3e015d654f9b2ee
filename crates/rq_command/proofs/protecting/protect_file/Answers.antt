use Rattle.std.proofs.Common.{◌≡◌, ◌+◌, ◌∷◌, [], ℕ, List, Err, option_map, ap, refl, sym, subst, ◌∙◌, Result}
use Rattle.std.proofs.lemmas.Result.{err_from_is_err_and}
use Rattle.rq_streams.specs.declared.run.Stop.{Stop}
use Rattle.rq_streams.specs.Counted.{failed_count, inner}
use Rattle.rq_cast.specs.Output.{counting, sink}
use Rattle.rq_command.specs.declared.ending.End.{End}
use Rattle.rq_devices.specs.Failed.{Fails}
use Rattle.rq_command.specs.Guarding.{EndsProtecting, guard_spot, order_of}
use Rattle.rq_devices.specs.Placed.{guard_name}
use Rattle.rq_devices.specs.Spots.{AtFile, IsFinished}
use Rattle.rq_devices.specs.Keyed.{IsKeyRead, key_file}
use Rattle.rq_command.specs.Program.{end_of}
use Rattle.rq_devices.specs.Told.{told}
use Rattle.rq_command.proofs.Failing.{passed_on}
use Rattle.rq_devices.proofs.Counting.{failed_behind, failed_then}
use Rattle.rq_guard.specs.Protecting.{CountsStop}
use Rattle.rq_command.proofs.Guarding.{stopped_by, guards, stops_guard}
use Rattle.rq_command.proofs.Made.{fault_counted, none_counted, whole_from}
use Rattle.rq_devices.proofs.Putting.{stopped_at_file, whole_put}
use Rattle.rq_command.proofs.protecting.protect_file.Goals as goal
use Rattle.rq_command.proofs.protecting.protect_file.Given.{Over}
use Rattle.rq_command.proofs.protecting.protect_file.Goals.{After-put}

pub returns-in_err-guard-clause-failures : goal.returns-in_err-guard-clause-failures
returns-in_err-guard-clause-failures g c =
    passed_on c.from_residual-in_err-guard.result c.in_err-guard.field-0.0 (g.D.Devices.failed c.args.devices.now) (g.D.Devices.failed c.key_of.new.devices)
    (g.D.Devices.failed c.place_of.new.devices) c.from_residual-in_err-guard.ensures.1 c.in_ok-key.ensures.counts c.in_err-guard.ensures.counts

pub returns-in_err-reader-clause-failures : goal.returns-in_err-reader-clause-failures
returns-in_err-reader-clause-failures g c =
    let a = g.D.Devices.failed c.args.devices.now in
    let p = g.D.Devices.failed c.place_of.new.devices in
    passed_on c.from_residual-in_err-reader.result c.in_err-reader.field-0.0 a p (g.D.Devices.failed c.open_files.new.devices)
    c.from_residual-in_err-reader.ensures.1
    (failed_behind a (g.D.Devices.failed c.key_of.new.devices) p 0 c.in_ok-key.ensures.counts c.in_ok-guard.ensures.counts) c.in_err-reader.ensures.counts

pub returns-in_err-create-clause-failures : goal.returns-in_err-create-clause-failures
returns-in_err-create-clause-failures g c =
    let a = g.D.Devices.failed c.args.devices.now in
    let k = g.D.Devices.failed c.key_of.new.devices in
    let p = g.D.Devices.failed c.place_of.new.devices in
    let o = g.D.Devices.failed c.open_files.new.devices in
    passed_on c.from_residual-in_err-create.result c.in_err-create.field-0.0 a o (g.D.Devices.failed c.create.new.self) c.from_residual-in_err-create.ensures.1
    (failed_behind a k o 0 c.in_ok-key.ensures.counts (failed_behind k p o 0 c.in_ok-guard.ensures.counts c.in_ok-reader.ensures.counts))
    c.in_err-create.ensures.counts

module _ (g : Over) (c : After-put g) where
  abbrev file : List ℕ
  file = c.args.job.now.file.now

  read : g.D.Reader.Read.remaining (told (inner c.new-input.result)) ≡ g.D.Devices.stands c.args.devices.now (file ∷ [])
  read =
      ap (λ t. g.D.Reader.Read.remaining (told t)) c.new-input.ensures.inner ∙ ap g.D.Reader.Read.remaining c.new-2.ensures ∙ c.in_ok-reader.ensures.bytes
      ∙ ap (λ there. there (file ∷ [])) c.place_of.ensures.stays ∙ ap (λ there. there (file ∷ [])) c.key_of.ensures.stays

  there : g.D.Writer.Write.contents (sink c.new-output.result) ≡ g.D.Devices.blank (guard_spot c.args.job.now)
  there =
      ap (λ w. g.D.Writer.Write.contents (inner w)) c.new-output.ensures.writer ∙ ap g.D.Writer.Write.contents c.new.ensures.inner ∙ c.in_ok-create.ensures.blank
      ∙ ap (λ n. g.D.Devices.blank (AtFile n)) c.in_ok-guard.ensures.place

  kept : g.D.Devices.placed c.count-2.new.self ≡ g.D.Devices.placed c.args.devices.now
  kept =
      c.count-2.ensures.kept ∙ c.count.ensures.kept ∙ c.create.ensures.kept ∙ c.open_files.ensures.kept ∙ c.place_of.ensures.kept ∙ c.key_of.ensures.kept

  finished : IsFinished (guard_spot c.args.job.now) c.is_ok-is_whole.result c.put.result (g.D.Writer.Write.contents c.into_inner.result)
      (g.D.Devices.placed c.count-2.new.self) (g.D.Devices.placed c.put.new.devices)
  finished =
      subst (λ (n : List ℕ). IsFinished (AtFile n) c.is_ok-is_whole.result c.put.result (g.D.Writer.Write.contents c.into_inner.result)
      (g.D.Devices.placed c.count-2.new.self) (g.D.Devices.placed c.put.new.devices)) c.in_ok-guard.ensures.place c.put.ensures.placed

  written : g.D.Writer.Write.contents c.into_inner.result ≡ g.D.Writer.Write.contents (sink c.protect-made.new.output)
  written = ap g.D.Writer.Write.contents (c.into_inner.ensures ∙ ap inner c.into_counted-counted.ensures)

  abbrev n : ℕ
  n = c.put.ensures.failures.0

  abbrev all : ℕ
  all = failed_count c.protect-made.new.reader + (failed_count (counting c.protect-made.new.output) + n)

  unwritten : failed_count (counting c.new-output.result) ≡ 0
  unwritten = ap failed_count c.new-output.ensures.writer ∙ c.new.ensures.none

  fails : Fails (g.D.Devices.failed c.args.devices.now) (g.D.Devices.failed c.put.new.devices) all
  fails =
      let a = g.D.Devices.failed c.args.devices.now in
      let k = g.D.Devices.failed c.key_of.new.devices in
      let p = g.D.Devices.failed c.place_of.new.devices in
      let o = g.D.Devices.failed c.open_files.new.devices in
      let w = g.D.Devices.failed c.create.new.self in
      let r = g.D.Devices.failed c.count.new.self in
      let s = g.D.Devices.failed c.count-2.new.self in
      let z = g.D.Devices.failed c.put.new.devices in
      let writes = failed_count (counting c.protect-made.new.output) in
      let behind : Fails r s writes = subst (Fails r s) (ap failed_count c.into_counted-counted.ensures) c.count-2.ensures.counts in
      failed_behind a k z all c.in_ok-key.ensures.counts (failed_behind k p z all c.in_ok-guard.ensures.counts
      (failed_behind p o z all c.in_ok-reader.ensures.counts (failed_behind o w z all c.in_ok-create.ensures.counts
      (failed_then w r z (failed_count c.protect-made.new.reader) (writes + n) all c.count.ensures.counts
      (failed_then r s z writes n (writes + n) behind c.put.ensures.failures.1 refl) refl))))

pub returns-in_err-made-clause-does : goal.returns-in_err-made-clause-does
returns-in_err-made-clause-does g c =
    let moved = (goal.at.returns-in_err-made-clause-does g c).After-put in
    let stands = g.D.Devices.stands c.args.devices.now in
    let keys = key_file stands (option_map (λ s. s.now) c.args.job.now.key) in
    let old = g.D.Devices.placed c.args.devices.now in
    let new = g.D.Devices.placed c.put.new.devices in
    let stop = c.in_err-made.field-0.0 in
    let p = err_from_is_err_and c.from_residual-in_err-made.result c.from_residual-in_err-made.ensures.1 in
    subst (λ (r : Result End Stop). EndsProtecting c.args.job.now stands g.D.Devices.blank (end_of r) old new) (sym (p.1 ∙ ap (λ s. Err s) p.2)) (
      stopped_at_file (guard_name c.args.job.now.file.now (option_map (λ s. s.now) c.args.job.now.output)) c.is_ok-is_whole.result
          (g.D.Writer.Write.contents c.into_inner.result) (g.D.Devices.placed c.count-2.new.self) new c.put.result stop c.in_err-made.was (finished g moved)
          ∙ kept g moved,
      stops_guard (order_of c.args.job.now) keys (stands (c.args.job.now.file.now ∷ [])) (g.D.Reader.Read.remaining (told (inner c.new-input.result)))
          (g.D.Reader.Read.remaining (told (inner c.protect-made.new.reader))) (g.D.Devices.blank (guard_spot c.args.job.now)) (g.D.Writer.Write.contents (sink c.new-output.result))
          (g.D.Writer.Write.contents (sink c.protect-made.new.output)) c.in-Some.key c.is_ok-is_whole.result c.protect-made.result c.put.result
          (subst (IsKeyRead keys) c.in-Some.is c.in_ok-key.ensures.key) (read g moved) (there g moved) stop c.in_err-made.was c.put.ensures.same
          c.protect-made.ensures.stops,
    )

pub returns-in_err-made-clause-failures : goal.returns-in_err-made-clause-failures
returns-in_err-made-clause-failures g c =
    let moved = (goal.at.returns-in_err-made-clause-failures g c).After-put in
    let stop = c.in_err-made.field-0.0 in
    let p = err_from_is_err_and c.from_residual-in_err-made.result c.from_residual-in_err-made.ensures.1 in
    stopped_by c.from_residual-in_err-made.result stop (g.D.Devices.failed c.args.devices.now) (g.D.Devices.failed c.put.new.devices) (all g moved)
    (p.1 ∙ ap (λ s. Err s) p.2) (fails g moved)
    (fault_counted c.new-input.result c.protect-made.new.reader c.new-output.result c.protect-made.new.output c.is_ok-is_whole.result c.protect-made.result
    c.put.result (n g moved) c.new-input.ensures.none (unwritten g moved) c.put.ensures.same c.put.ensures.failures.2
    (CountsStop c.new-input.result c.protect-made.new.reader c.new-output.result c.protect-made.new.output) (λ more. more) stop c.in_err-made.was
    c.protect-made.ensures.failed)

pub returns-clause-does : goal.returns-clause-does
returns-clause-does g c =
    let moved = (goal.at.returns-clause-does g c).After-put in
    let stands = g.D.Devices.stands c.args.devices.now in
    let keys = key_file stands (option_map (λ s. s.now) c.args.job.now.key) in
    let new = g.D.Devices.placed c.put.new.devices in
    let whole = whole_from c.is_ok-is_whole.result c.protect-made.result c.put.result c.in_ok-made.made c.in_ok-made.was c.is_ok-is_whole.ensures.value
    c.put.ensures.same in
    let spot = guard_spot c.args.job.now in
    let filed = whole_put spot c.is_ok-is_whole.result (g.D.Writer.Write.contents c.into_inner.result) (g.D.Devices.placed c.count-2.new.self) new c.put.result
    c.in_ok-made.made whole c.in_ok-made.was (finished g moved) in (
      guards (order_of c.args.job.now) keys (stands (c.args.job.now.file.now ∷ [])) (g.D.Reader.Read.remaining (told (inner c.new-input.result)))
          (g.D.Reader.Read.remaining (told (inner c.protect-made.new.reader))) (g.D.Devices.blank spot) (g.D.Writer.Write.contents (sink c.new-output.result))
          (g.D.Writer.Write.contents (sink c.protect-made.new.output)) c.in-Some.key c.is_ok-is_whole.result c.protect-made.result c.put.result
          (subst (IsKeyRead keys) c.in-Some.is c.in_ok-key.ensures.key) (read g moved) (there g moved) (new spot) c.in_ok-made.made c.in_ok-made.was c.put.ensures.same
          c.protect-made.ensures.protects
          (filed.there ∙ written g moved),
      λ other differs. filed.others other differs ∙ ap (λ there. there other) (kept g moved),
    )

pub returns-clause-failures : goal.returns-clause-failures
returns-clause-failures g c =
    let moved = (goal.at.returns-clause-failures g c).After-put in (
      all g moved,
      fails g moved,
      none_counted c.new-input.result c.protect-made.new.reader c.new-output.result c.protect-made.new.output c.is_ok-is_whole.result c.protect-made.result
          c.put.result (n g moved) c.new-input.ensures.none (unwritten g moved) c.put.ensures.same c.put.ensures.failures.2 c.in_ok-made.made c.in_ok-made.was
          c.is_ok-is_whole.ensures.value c.protect-made.ensures.reader c.protect-made.ensures.counts,
    )
