use Rattle.std.proofs.Common.{◌≡◌, ℕ, List, ◌+◌, ◌-◌, ◌<◌, sym, subst, ◌∙◌, length, take, drop, arith, append-nil, Some, None, true, false, inl, inr}
use Rattle.std.proofs.lemmas.List.{take_rest, length-drop, nil_from_length}
use Rattle.rq_cells.specs.declared.long_heads.LongHeads.{LongHeads}
use Rattle.rq_cells.specs.declared.long_heads.Place.{Place}
use Rattle.rq_cells.specs.declared.long_heads.Place.TheVariants as P
use Rattle.rq_cells.specs.Found.{Source, HoldNoHead}
use Rattle.rq_cells.specs.Scans.{IsPlace, AreLongHeads}
use Rattle.rq_cells.proofs.FoundCells.{long_heads_there}
use Rattle.rq_cells.proofs.Scanning.{StandsBefore, one_place_more, headless_more, headless_within}
use Rattle.rq_cells.proofs.scanner.CellScanner.long_heads.Goals as goal
use Rattle.rq_cells.proofs.scanner.CellScanner.long_heads.Goals.{After-headless_places, in-Nothing, in-Headed+in_ok-push-in-Headed, in-Other, else-places-test, then-places-test+in-Open}

-- what a look at the bytes from a place on says
place_there : (s self : Source) (bytes : List ℕ) (at : ℕ) (p : Place) → self ≡ s → IsPlace self (take (length bytes - at) (drop at bytes)) p → IsPlace s (drop at bytes) p
place_there s self bytes at p same is = subst (λ k. IsPlace k (drop at bytes) p) same (subst (λ xs. IsPlace self xs p) (take_rest bytes at) is)

-- behind the places at which no head begins
module _ (c : After-headless_places) where
  abbrev bytes : List ℕ
  bytes = c.args.bytes.now

  abbrev found : LongHeads
  found = c.places.found

  abbrev here : ℕ
  here = found.places + c.headless_places.result

  headless : HoldNoHead (drop found.places bytes) c.headless_places.result
  headless = subst (λ xs. HoldNoHead xs c.headless_places.result) (take_rest bytes found.places) c.headless_places.ensures

  below : here < length bytes
  below = headless_within bytes found.places c.headless_places.result c.places-test.true headless

  before : StandsBefore c.args.self.now bytes here found.heads.items found.others
  before = headless_more c.args.self.now bytes found.places c.headless_places.result found.heads.items found.others headless c.places.invariant.before

pub places-preserved : goal.places-preserved
places-preserved c =
    let moved = (goal.at.places-preserved c).After-headless_places in
    let s = c.args.self.now in
    let bytes = c.args.bytes.now in
    let here = here moved in
    let heads = c.places.found.heads.items in
    let others = c.places.found.others in
    let none = sym (append-nil heads) in
    let same : others ≡ others + 0 = omega arith in
    record {
      same = c.look.ensures.same ∙ c.places.invariant.same;
      before = elim c.match-look.branch [
        | in-Nothing w ↦ subst (λ (t : LongHeads). StandsBefore s bytes (t.places + 1) t.heads.items t.others) (sym w.found-is)
            (one_place_more s bytes here heads heads others others None false (below moved)
            (place_there s c.places.self bytes here P.Nothing c.places.invariant.same w.in-Nothing.ensures.place) none same (before moved))
        | in-Headed+in_ok-push-in-Headed w ↦ subst (λ (t : LongHeads). StandsBefore s bytes (t.places + 1) t.heads.items t.others) (sym w.found-is)
            (one_place_more s bytes here heads w.push.new.self.items others others (Some w.in-Headed.head) false (below moved)
            (place_there s c.places.self bytes here (P.Headed w.in-Headed.head) c.places.invariant.same w.in-Headed.ensures.place) w.in_ok-push-in-Headed.ensures.items same (before moved))
        | in-Other w ↦ subst (λ (t : LongHeads). StandsBefore s bytes (t.places + 1) t.heads.items t.others) (sym w.found-is)
            (one_place_more s bytes here heads heads others (others + 1) None true (below moved)
            (place_there s c.places.self bytes here P.Other c.places.invariant.same w.in-Other.ensures.place) none (omega arith) (before moved))
      ];
    }

pub returns-clause-found : goal.returns-clause-found
returns-clause-found c =
    let s = c.args.self.now in
    let bytes = c.args.bytes.now in
    let found = c.places.found in
    let before = c.places.invariant.before in
    elim c.places-test.branch [
      | else-places-test w ↦ subst (AreLongHeads s bytes) (sym w.found-is)
          (long_heads_there s bytes found before (inl (nil_from_length (drop found.places bytes) (omega (arith, w.places-test.false, length-drop found.places bytes)))))
      | then-places-test+in-Open w ↦
          let n = w.headless_places.result in
          let headless = subst (λ xs. HoldNoHead xs n) (take_rest bytes found.places) w.headless_places.ensures in
          let there : LongHeads = record { places = found.places + n; heads = found.heads; others = found.others } in
          subst (AreLongHeads s bytes) (sym w.found-is)
          (long_heads_there s bytes there (headless_more s bytes found.places n found.heads.items found.others headless before)
          (inr (place_there s c.places.self bytes (found.places + n) P.Open c.places.invariant.same w.in-Open.ensures.place)))
    ]
