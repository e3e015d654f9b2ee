use Rattle.std.proofs.Common.{◌≡◌, ℕ, ◌+◌, ◌<◌, List, [], ◌∷◌, ◌++◌, length, take, drop, get_or, map, sym, ap, subst, ◌∙◌, arith, append-nil, Some, None}
use Rattle.std.specs.List.{All, cons_option}
use Rattle.std.specs.Prelude.{filter_map, is_none}
use Rattle.std.proofs.lemmas.List.{get_or_default, take_rest, map-append}
use Rattle.std.proofs.lemmas.List.Elements.{All-push}
use Rattle.std.proofs.lemmas.List.Sums.{count_by_more_no, count_by_more_yes}
use Rattle.rq_cells.specs.declared.cell.FoundCell.{FoundCell}
use Rattle.rq_cells.specs.declared.checking.Checked.{Checked}
use Rattle.rq_cells.specs.declared.long_heads.LongHead.{LongHead}
use Rattle.rq_cells.specs.Cells.{digest_of, cell_behind}
use Rattle.rq_cells.specs.LongHeads.{cell_there, is_damaged_there}
use Rattle.rq_cells.specs.Scans.{HasDigest}
use Rattle.rq_cells.proofs.CellBytes.{symbol_there, payload_behind}
use Rattle.rq_cells.proofs.CheckedHeads.{found_next, digest_there}
use Rattle.rq_cells.proofs.checking.check_cells.Goals as goal
use Rattle.rq_cells.proofs.checking.check_cells.Goals.{After-part-digest, in-Some+in_ok-push-in-Some, in-None}

-- the head at the index, and the digest of what stands where its symbol does
module _ (c : After-part-digest) where
  abbrev heads : List LongHead
  heads = c.args.heads.now

  abbrev bytes : List ℕ
  bytes = c.args.bytes.now

  abbrev i : ℕ
  i = c.loop-i.i

  abbrev h : LongHead
  h = get_or heads i c.index-heads-i.result

  below : i < length heads
  below = omega (arith, c.loop-i-test.true, c.loop-i.auto.i-end)

  same_head : h ≡ get_or heads i c.index-heads-i-in-loop-i.result
  same_head = get_or_default heads i c.index-heads-i.result c.index-heads-i-in-loop-i.result below

  hashed : c.part-digest.result ≡ digest_of (symbol_there h.head (drop h.at bytes))
  hashed =
      c.part-digest.ensures
      ∙ ap (take 32) c.index.ensures
      ∙ digest_there c.args.key.now c.args.symbol_size bytes heads c.in_ok-hashes.hashes.items i c.index-heads-i.result c.index.result.now
      c.in_ok-hashes.ensures.hashes below c.requires

pub read_behind-requires-clause-digest : goal.read_behind-requires-clause-digest
read_behind-requires-clause-digest c =
    let here = (goal.at.read_behind-requires-clause-digest c).After-part-digest in
    let h = h here in
    hashed here ∙ (λ j. digest_of (take (same_head here j).head.configuration.symbol_size (drop 56 (sym (take_rest c.args.bytes.now h.at) j))))

pub loop-i-preserved : goal.loop-i-preserved
loop-i-preserved c =
    let here = (goal.at.loop-i-preserved c).After-part-digest in
    let key = c.args.key.now in
    let bytes = c.args.bytes.now in
    let heads = c.args.heads.now in
    let i = c.loop-i.i in
    let h = h here in
    let d = c.index-heads-i.result in
    let below = below here in
    let before = c.loop-i.invariant in
    let cell = cell_there key bytes in
    let damaged = is_damaged_there key bytes in
    let found = c.loop-i.checked.cells.items in
    let there : c.in_ok-cell.field-0 ≡ cell h =
    c.in_ok-cell.ensures.cell ∙ (λ j. cell_behind key (sym (same_head here) j).head (take_rest bytes h.at j)) in
    elim c.match-branch-4.branch [
      | in-Some+in_ok-push-in-Some w ↦
          let made : FoundCell = record { cell = w.in-Some.cell; digest = c.part-digest.result } in
          let some : cell h ≡ Some w.in-Some.cell = sym there ∙ w.in-Some.is in
          let items : c.match-branch-4.checked.cells.items ≡ found ++ made ∷ [] =
          ap (λ (t : Checked). t.cells.items) w.checked-is ∙ w.in_ok-push-in-Some.ensures.items in
          let has : HasDigest made = hashed here ∙ ap digest_of (sym (payload_behind key h.head (drop h.at bytes) w.in-Some.cell some)) in
          let count = ap (λ (t : Checked). t.damaged) w.checked-is in
          record {
            cells =
                ap (map (λ (k : FoundCell). k.cell)) items
                ∙ map-append (λ (k : FoundCell). k.cell) found (made ∷ [])
                ∙ (λ j. before.cells j ++ cons_option (sym some j) [])
                ∙ sym (found_next cell heads i d below);
            digests = subst (All HasDigest) (sym items) (All-push HasDigest found made before.digests has);
            damaged = count ∙ before.damaged ∙ sym (count_by_more_no damaged heads i d below (ap is_none some));
            few = omega (arith, count, before.few);
          }
      | in-None w ↦
          let none : cell h ≡ None = sym there ∙ w.in-None.is in
          let items : c.match-branch-4.checked.cells.items ≡ found = ap (λ (t : Checked). t.cells.items) w.checked-is in
          let count = ap (λ (t : Checked). t.damaged) w.checked-is in
          record {
            cells =
                ap (map (λ (k : FoundCell). k.cell)) items
                ∙ before.cells
                ∙ sym (found_next cell heads i d below ∙ (λ j. filter_map cell (take i heads) ++ cons_option (none j) []) ∙ append-nil (filter_map cell (take i heads)));
            digests = subst (All HasDigest) (sym items) before.digests;
            damaged = count ∙ ap (λ n. n + 1) before.damaged ∙ sym (count_by_more_yes damaged heads i d below (ap is_none none));
            few = omega (arith, count, before.few);
          }
    ]
