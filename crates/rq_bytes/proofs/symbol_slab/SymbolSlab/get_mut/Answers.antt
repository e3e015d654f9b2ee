-- What the check leaves to show of `symbol_slab::SymbolSlab::get_mut`.
use Rattle.std.proofs.Common.{length, ◌≡◌, ◌+◌, ◌-◌, ◌≤◌, refl, ◌∙◌, ap, subst, arith}
use Rattle.rq_algebra.specs.Operations.{meant_at}
use Rattle.rq_bytes.specs.Ranges.{range_of}
use Rattle.rq_bytes.specs.SymbolSlab.{Slab, symbol_in}
use Rattle.rq_bytes.specs.SlabLends.{with_octets, IsSymbolWrite}
use Rattle.rq_bytes.specs.contracts.symbol_slab.SymbolSlab.{the_view}
use Rattle.rq_bytes.proofs.SlabFacts.{holds_slab, range_in, length-range_at, symbol_within, octets_written, symbol_written}
use Rattle.rq_bytes.proofs.symbol_slab.SymbolSlab.get_mut.Goals as goal
use Rattle.rq_bytes.proofs.symbol_slab.SymbolSlab.get_mut.Goals.{After-start_of-start}

module _ (c : After-start_of-start) where
  fits : c.start_of-start.result + c.self.inside.symbol_size ≤ length c.self.inside.data.items
  fits = symbol_within c.self.inside c.args.i c.start_of-start.result c.self.invariant c.start_of-start.ensures.below c.start_of-start.ensures.start

pub overflow_add-start : goal.overflow_add-start
overflow_add-start c = record { fits = omega (arith, fits (goal.at.overflow_add-start c).After-start_of-start, c.self.inside.data.small, c.self.inside.data.ok) }

pub slice_mut-requires-clause-in_bounds : goal.slice_mut-requires-clause-in_bounds
slice_mut-requires-clause-in_bounds c = omega (arith, fits (goal.at.slice_mut-requires-clause-in_bounds c).After-start_of-start, c.self.inside.data.ok)

pub returns : goal.returns
returns c =
    let d = c.start_of-start in
    let inside = c.self.inside in
    let slab = the_view inside in
    let is = holds_slab inside slab refl c.self.invariant in
    let at = meant_at slab.order c.args.i in
    let few : d.result + inside.symbol_size - d.result ≡ inside.symbol_size = omega arith in
    let shown =
    c.slice_mut.ensures.value ∙ ap (λ n. range_of inside.data.items d.result n) few ∙ range_in is at d.result inside.data.items d.ensures.below d.ensures.start refl
    in (
      (refl, λ w. octets_written is at d.result inside.data.len w d.ensures.below d.ensures.start inside.data.ok.0 ∙ ap (λ (v : Slab). with_octets v c.args.i w) c.self.view_is),
      record {
        writes_back = tt;
        whole_symbol = subst (λ (v : Slab). IsSymbolWrite v c.args.i) c.self.view_is (λ ws long. symbol_written is at ws d.ensures.below long);
        symbol = shown ∙ ap (λ (v : Slab). symbol_in v c.args.i) c.self.view_is;
        len = ap length shown ∙ length-range_at is at d.ensures.below ∙ ap (λ (v : Slab). v.symbol_size) c.self.view_is;
      },
    )
