use Rattle.std.proofs.Common.{◌≡◌, ℕ, ◌+◌, ◌≤◌, Bor, Vec, Global, List, length, length-drop, map, take, drop, sym, ap, subst, ◌∙◌, arith}
use Rattle.std.specs.Prelude.{vec_items}
use Rattle.std.proofs.lemmas.List.{take_all, take_at, length-map, length-take-le}
use Rattle.std.proofs.lemmas.List.Elements.{All-map, All-weaker}
use Rattle.std.proofs.lemmas.Simd.{map-map}
use Rattle.sha2.specs.Sha512.{sha512}
use Rattle.rq_digests.specs.Messages.{AreOfOneLength}
use Rattle.rq_cells.proofs.Digests.{of_one_length}
use Rattle.rq_cast.proofs.sending.rows.hashes_in.Goals as goal
use Rattle.rq_cast.proofs.sending.rows.hashes_in.Goals.{After-loop-j}

module _ (c : After-loop-j) where
  abbrev symbol : Vec ℕ Global → List ℕ
  symbol v = take c.args.size (drop 56 v.items)

  -- all symbols
  symbols_are : map (λ (m : Bor (List ℕ)). m.now) (take (length c.args.row.now) c.loop-j.messages) ≡ map symbol c.args.row.now
  symbols_are =
      let all : c.loop-j.j ≡ length c.args.row.now = omega (arith, c.loop-j-test.false, c.loop-j.auto.j-end) in
      ap (λ n. map (λ (m : Bor (List ℕ)). m.now) (take n c.loop-j.messages)) (sym all) ∙ c.loop-j.invariant.symbols
      ∙ ap (map symbol) (take_all c.loop-j.j c.args.row.now (omega (arith, all)))

pub all_digests-requires-clause-lengths : goal.all_digests-requires-clause-lengths
all_digests-requires-clause-lengths c =
    let moved = (goal.at.all_digests-requires-clause-lengths c).After-loop-j in
    let size = c.args.size in
    let row = c.args.row.now in
    subst AreOfOneLength (sym (symbols_are moved))
    (of_one_length size (map (symbol moved) row)
    (All-map (λ m. length m ≡ size) (symbol moved) row
    (All-weaker (λ (v : Vec ℕ Global). 56 + size ≤ length v.items) (λ v. length (symbol moved v) ≡ size)
    (λ v long. length-take-le size (drop 56 v.items) (omega (arith, long, length-drop 56 v.items))) row c.requires.long)))

pub returns : goal.returns
returns c =
    let moved = (goal.at.returns c).After-loop-j in
    let row = c.args.row.now in
    let made = c.all_digests.new.digests in
    let all = take (length row) c.loop-j.messages in
    let long : length made ≡ length row =
    ap length c.all_digests.ensures ∙ length-map all (λ (m : Bor (List ℕ)). sha512 m.now)
    ∙ length-take-le (length row) c.loop-j.messages (omega (arith, c.loop-j.invariant.long, c.requires.few)) in
    take_at made _ (length row) long ∙ c.all_digests.ensures ∙ sym (map-map sha512 (λ (m : Bor (List ℕ)). m.now) all)
    ∙ ap (map sha512) (symbols_are moved) ∙ map-map sha512 (symbol moved) row
    ∙ sym (map-map (λ cell. sha512 (take c.args.size (drop 56 cell))) (vec_items {X = ℕ} {Z = Global}) row)
