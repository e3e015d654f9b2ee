-- What the check leaves to show of `symbol_slab::SymbolSlab::gather`.
use Rattle.std.proofs.Common.{◌≡◌, ◌+◌, ◌<◌, ◌++◌, [], ◌∷◌, List, ℕ, length, map, take, ap, sym, ◌∙◌, arith, add-one}
use Rattle.std.proofs.lemmas.List.{take_more, get_or-map, length-map}
use Rattle.rq_bytes.specs.Ranges.{cut}
use Rattle.rq_bytes.specs.SymbolSlab.{symbol_in}
use Rattle.rq_bytes.proofs.Cuts.{cut-append}
use Rattle.rq_bytes.proofs.symbol_slab.SymbolSlab.gather.Goals as goal

pub loop-place-preserved : goal.loop-place-preserved
loop-place-preserved c =
    let slab = c.args.self.now in
    let i = c.loop-place.place-index in
    let s = slab.symbol_size in
    let old = c.loop-place.«data» in
    let bytes = c.get.result.now in
    let places = c.args.places.now in
    let symbols = map (symbol_in slab) places in
    let lt : i < length symbols = omega (arith, length-map places (symbol_in slab)) in
    let long : length bytes ≡ s = c.get.ensures.len
    in (
      ap (cut (i + 1) s) c.in_ok-extend_from_slice.ensures.items
          ∙ ap (λ k. cut k s (old.items ++ bytes)) (add-one i)
          ∙ cut-append i s old.items bytes (sym old.ok.0 ∙ c.loop-place.invariant.1) long
          ∙ ap (λ (xs : List (List ℕ)). xs ++ bytes ∷ []) c.loop-place.invariant.0
          ∙ ap (λ (x : List ℕ). take i symbols ++ x ∷ []) (c.get.ensures.symbol ∙ sym (get_or-map (symbol_in slab) places i 0 [] (omega arith)))
          ∙ sym (take_more symbols i [] lt),
      c.in_ok-extend_from_slice.ensures.len ∙ omega (arith, long, c.loop-place.invariant.1),
    )
