use Rattle.std.proofs.Common.{ℕ, [], ◌∷◌, ◌++◌, ◌+◌, ◌-◌, ◌*◌, ◌^◌, ◌≡◌, ◌≤◌, length, map, replicate, take, sym, ap, ◌∙◌, subst, arith}
use Rattle.std.specs.BTreeMap.{values}
use Rattle.std.specs.Map.Iter.{deref}
use Rattle.std.proofs.lemmas.List.{map-append, take_all}
use Rattle.std.proofs.lemmas.Map.Entries.{length-values_of}
use Rattle.rq_bytes.specs.SymbolSlab.{slab_of}
use Rattle.rq_block.proofs.ReceivedEntries.{AppendsSoFar, appends_none, appends_more, appends_all}
use Rattle.rq_block.proofs.Listing.{few_entries}
use Rattle.rq_block.proofs.decoder.known.known_symbol_values.Goals as goal

pub symbol_buffer-requires-clause-few : goal.symbol_buffer-requires-clause-few
symbol_buffer-requires-clause-few c =
    let count : c.len.result ≤ 2 ^ 24 = omega (arith, c.len.ensures.len, few_entries c.args.received.now (2 ^ 24) c.len.ensures.ordered c.requires.few) in
    omega (arith, count, c.requires.few_symbols)

pub loop-payload-init : goal.loop-payload-init
loop-payload-init c =
    let zeros : ℕ = c.args.zeros in
    let n = zeros * c.args.size in
    let empty = c.in_ok-bytes.ensures in
    let none : c.in_ok-bytes.bytes.len ≡ 0 = c.in_ok-bytes.bytes.ok.0 ∙ ap length empty in
    appends_none zeros c.args.size (values c.args.received.now) c.into_iter-payload-iterator.result c.resize.new.self.items
    (c.into_iter-payload-iterator.ensures.into_iter_gives ∙ c.values-payload-items.ensures.rest)
    (c.in_ok-resize.ensures.items
    ∙ ap (λ xs. take n xs ++ replicate (n - c.in_ok-bytes.bytes.len) 0) empty
    ∙ ap (λ xs. xs ++ replicate (n - c.in_ok-bytes.bytes.len) 0) (take_all n [] (omega arith))
    ∙ ap (λ m. replicate m 0) (let e : n - c.in_ok-bytes.bytes.len ≡ n = omega (arith, none) in e))

pub loop-payload-preserved : goal.loop-payload-preserved
loop-payload-preserved c =
    let zeros : ℕ = c.args.zeros in
    subst (λ d. AppendsSoFar zeros c.args.size (values c.args.received.now) d c.next.new.self c.extend_from_slice.new.self.items) (sym (map-append deref c.loop-payload.yielded (c.in-Some.payload ∷ [])))
    (appends_more c.args.received.now zeros c.args.size c.len.ensures.ordered c.requires.sized (map deref c.loop-payload.yielded) c.loop-payload.payload-iterator c.next.new.self c.in-Some.payload.now c.loop-payload.bytes.items c.extend_from_slice.new.self.items
    c.loop-payload.invariant c.in-Some.ensures.steps (c.in_ok-extend_from_slice.ensures.items ∙ ap (λ xs. c.loop-payload.bytes.items ++ xs) c.as_slice.ensures.value))

pub returns : goal.returns
returns c =
    let zeros : ℕ = c.args.zeros in
    let count = ap (λ n. zeros + n) (c.len.ensures.len ∙ sym (length-values_of c.args.received.now.entries)) in
    c.from_bytes.ensures ∙ ap (slab_of c.args.size) (appends_all zeros c.args.size c.args.received.now (map deref c.loop-payload.yielded) c.loop-payload.payload-iterator c.loop-payload.bytes.items _ c.loop-payload.invariant c.in-None.ensures.steps.0 count).1
