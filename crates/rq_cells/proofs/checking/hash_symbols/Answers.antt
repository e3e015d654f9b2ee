use Rattle.std.proofs.Common.{◌≡◌, ℕ, List, length, map, Bor, sym, ap, subst, ◌∙◌, arith}
use Rattle.std.proofs.lemmas.List.{take_all}
use Rattle.std.proofs.lemmas.Simd.{map-map}
use Rattle.sha2.specs.Sha512.{sha512}
use Rattle.rq_digests.specs.Messages.{AreOfOneLength}
use Rattle.rq_cells.specs.LongHeads.{symbol_at}
use Rattle.rq_cells.proofs.Digests.{symbols_of_one_length, filled}
use Rattle.rq_cells.proofs.checking.hash_symbols.Goals as goal
use Rattle.rq_cells.proofs.checking.hash_symbols.Goals.{After-as_slice}

-- all symbols
symbols_are : (c : After-as_slice) → map (λ m. m.now) c.as_slice.result.now ≡ map (symbol_at c.args.symbol_size c.args.bytes.now) c.args.heads.now
symbols_are c =
    ap (map (λ m. m.now)) c.as_slice.ensures.value ∙ c.loop-head.invariant
    ∙ ap (map (symbol_at c.args.symbol_size c.args.bytes.now)) (take_all c.loop-head.head-index c.args.heads.now (omega (arith, c.loop-head-test.false)))

pub all_digests-requires-clause-lengths : goal.all_digests-requires-clause-lengths
all_digests-requires-clause-lengths c =
    let moved = (goal.at.all_digests-requires-clause-lengths c).After-as_slice in
    subst AreOfOneLength (sym (symbols_are moved)) (symbols_of_one_length c.args.symbol_size c.args.bytes.now c.args.heads.now c.requires)

pub returns-clause-hashes : goal.returns-clause-hashes
returns-clause-hashes c =
    let moved = (goal.at.returns-clause-hashes c).After-as_slice in
    let size = c.in_ok-hashes.hashes.len in
    let made = c.all_digests.new.digests in
    let all : size ≡ length made = omega (arith, c.in_ok-hashes.ensures.len, ap length c.all_digests.ensures) in
    filled size made c.in_ok-hashes.hashes.items all ∙ c.all_digests.ensures
    ∙ sym (map-map sha512 (λ (m : Bor (List ℕ)). m.now) c.as_slice.result.now) ∙ ap (map sha512) (symbols_are moved)
    ∙ map-map sha512 (symbol_at c.args.symbol_size c.args.bytes.now) c.args.heads.now
