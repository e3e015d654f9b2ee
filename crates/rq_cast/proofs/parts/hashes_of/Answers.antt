use Rattle.std.proofs.Common.{◌≡◌, ◌+◌, ◌-◌, ◌*◌, length, map, take, drop, Bor, List, ℕ, sym, ap, subst, ◌∙◌, arith}
use Rattle.std.specs.List.{range_with_len}
use Rattle.std.proofs.lemmas.List.{take_at, length-map, length-set, length-take-le}
use Rattle.std.proofs.lemmas.Simd.{map-map}
use Rattle.sha2.specs.Sha512.{sha512}
use Rattle.rq_cast.proofs.SymbolDigests.{messages_more, parts_of_one_length}
use Rattle.rq_cast.proofs.parts.hashes_of.Goals as goal
use Rattle.rq_cast.proofs.parts.hashes_of.Goals.{After-loop-i}

pub loop-i-preserved : goal.loop-i-preserved
loop-i-preserved c =
    let kept = c.loop-i.invariant in
    let one : (c.loop-i.i + 1) * c.args.size - c.loop-i.i * c.args.size ≡ c.args.size = omega arith in
    record {
      long = length-set c.loop-i.messages c.loop-i.i _ ∙ kept.long;
      symbols = messages_more c.args.size c.args.symbols.now c.loop-i.messages c.loop-i.i _ (omega (arith, kept.long, c.requires.few, c.loop-i-test.true)) kept.symbols
          (ap (λ n. take n (drop (c.loop-i.i * c.args.size) c.args.symbols.now)) one);
    }

-- all symbols
symbols_are : (c : After-loop-i) → map (λ (m : Bor (List ℕ)). m.now) (take c.args.count c.loop-i.messages)
    ≡ map (λ k. take c.args.size (drop (k * c.args.size) c.args.symbols.now)) (range_with_len 0 c.args.count)
symbols_are c =
    let all : c.args.count ≡ c.loop-i.i = omega (arith, c.loop-i-test.false, c.loop-i.auto.i-end) in
    subst (λ n. map (λ (m : Bor (List ℕ)). m.now) (take n c.loop-i.messages) ≡ map (λ k. take c.args.size (drop (k * c.args.size) c.args.symbols.now)) (range_with_len 0 n))
    (sym all) c.loop-i.invariant.symbols

pub all_digests-requires-clause-lengths : goal.all_digests-requires-clause-lengths
all_digests-requires-clause-lengths c =
    let moved = (goal.at.all_digests-requires-clause-lengths c).After-loop-i in
    parts_of_one_length c.args.size c.args.count c.args.symbols.now _ c.requires.long (symbols_are moved)

pub returns : goal.returns
returns c =
    let moved = (goal.at.returns c).After-loop-i in
    let made = c.all_digests.new.digests in
    let all = take c.args.count c.loop-i.messages in
    let long : length made ≡ c.args.count =
    ap length c.all_digests.ensures ∙ length-map all (λ (m : Bor (List ℕ)). sha512 m.now) ∙ length-take-le c.args.count c.loop-i.messages (omega (arith, c.loop-i.invariant.long, c.requires.few)) in
    take_at made _ c.args.count long ∙ c.all_digests.ensures ∙ sym (map-map sha512 (λ (m : Bor (List ℕ)). m.now) all)
    ∙ ap (map sha512) (symbols_are moved)
    ∙ map-map sha512 (λ k. take c.args.size (drop (k * c.args.size) c.args.symbols.now)) (range_with_len 0 c.args.count)
