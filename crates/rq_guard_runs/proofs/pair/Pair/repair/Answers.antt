use Rattle.std.proofs.Common.{◌≡◌, ℕ, List, Bool, false, Option, option_map, sym, subst, ap, ◌∙◌}
use Rattle.std.specs.Prelude.{IfSome, unwrap_or}
use Rattle.rq_guard.specs.declared.list.DigestList.{DigestList}
use Rattle.rq_guard_runs.specs.declared.findings.Findings.{Findings}
use Rattle.rq_guard_runs.specs.Guards.{FailsMended, Finds, Replaces, RepairsBy, stays}
use Rattle.rq_guard_runs.specs.Pairs.{in_file, in_guard}
use Rattle.rq_devices.specs.Placed.{Files}
use Rattle.rq_devices.specs.Spots.{Spots}
use Rattle.rq_devices.proofs.Counting.{failed_behind}
use Rattle.rq_guard_runs.proofs.Repairing.{fails_never, finds_still, place_is, replaced, stays_still}
use Rattle.rq_guard_runs.proofs.pair.Pair.repair.Goals as goal

pub returns-then-stays-clause-failures : goal.returns-then-stays-clause-failures
returns-then-stays-clause-failures g c = (0, c.in_ok-found.ensures.counts, fails_never c.in-Some.found.is_mended)

pub returns-clause-found : goal.returns-clause-found
returns-clause-found g c =
    let p = c.args.self.now in
    let table = p.by.table.now in
    let key = p.by.key.now in
    let stands = g.D.Devices.stands c.args.devices.now in
    let blank = g.D.Devices.blank in
    let old = g.D.Devices.placed c.args.devices.now in
    let new = g.D.Devices.placed c.put_mended.new.devices in
    let said = option_map (λ s. s.now) c.args.output in
    let place = unwrap_or said p.file.now in
    let found = c.in-Some.found in
    let mended = c.in_ok-is_mended.is_mended in
    let with : Findings = record found { is_mended = mended } in
    let finds : Finds table key (in_file p stands) (in_guard p stands) found =
    subst (λ (o : Option Findings). IfSome o (Finds table key (in_file p stands) (in_guard p stands))) c.in-Some.is c.in_ok-found.ensures.found in
    let named : c.unwrap_or-place.result.now ≡ place = ap (λ s. s.now) c.unwrap_or-place.ensures ∙ place_is c.args.output p.file in
    let by_lists = subst (λ (ls : List DigestList). Replaces table key ls (in_file p) (in_guard p) c.unwrap_or-place.result.now
    (g.D.Devices.stands c.find.new.devices) blank (g.D.Devices.placed c.find.new.devices) new mended) c.as_slice.ensures.value c.in_ok-is_mended.ensures.replaces in
    let at_place = subst (λ (n : List ℕ). Replaces table key found.lists.items (in_file p) (in_guard p) n (g.D.Devices.stands c.find.new.devices) blank
    (g.D.Devices.placed c.find.new.devices) new mended) named by_lists in
    let over = subst (λ (s : Files). Replaces table key found.lists.items (in_file p) (in_guard p) place s blank (g.D.Devices.placed c.find.new.devices) new mended)
    c.find.ensures.stays at_place in
    let replaces = subst (λ (b : Spots). Replaces table key found.lists.items (in_file p) (in_guard p) place stands blank b new mended) c.find.ensures.kept over in
    let still : stays said with ≡ false = stays_still said found mended ∙ sym c.stays.ensures ∙ c.if-stays.false in
    subst (λ (f : Findings). Finds table key (in_file p stands) (in_guard p stands) f × RepairsBy (stays said f) table key (in_file p) (in_guard p) place stands
    blank f old new) (sym c.with.ensures) (
      finds_still table key (in_file p stands) (in_guard p stands) found mended finds,
      replaced table key (in_file p) (in_guard p) place stands blank with old new (stays said with) still replaces,
    )

pub returns-clause-failures : goal.returns-clause-failures
returns-clause-failures g c =
    let fails = c.in_ok-is_mended.ensures.failures in (
      fails.0,
      failed_behind (g.D.Devices.failed c.args.devices.now) (g.D.Devices.failed c.find.new.devices) (g.D.Devices.failed c.put_mended.new.devices) fails.0
          c.in_ok-found.ensures.counts fails.1,
      subst (λ (b : Bool). FailsMended b fails.0) (sym (ap (λ (f : Findings). f.is_mended) c.with.ensures)) fails.2,
    )
