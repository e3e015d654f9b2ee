-- What the check leaves to show of `symbol_slab::SymbolSlab::get_pair_mut`.
use Rattle.std.proofs.Common.{◌≢◌, length, refl, sym, ap, subst, ◌∙◌, arith}
use Rattle.rq_algebra.specs.Operations.{meant_at}
use Rattle.rq_bytes.specs.SymbolSlab.{Slab, symbol_in}
use Rattle.rq_bytes.specs.SlabLends.{with_octets, IsSymbolWrite}
use Rattle.rq_bytes.specs.contracts.symbol_slab.SymbolSlab.{the_view}
use Rattle.rq_bytes.proofs.SlabFacts.{holds_slab, apart, range_in, length-range_at, symbol_within, octets_written, symbol_written}
use Rattle.rq_bytes.proofs.symbol_slab.SymbolSlab.get_pair_mut.Goals as goal

pub get_range_pair-requires-clause-apart : goal.get_range_pair-requires-clause-apart
get_range_pair-requires-clause-apart c =
    let slab = the_view c.self.inside in
    let d = c.start_of-dest_start in
    let s = c.start_of-src_start in
    let two = subst (λ (v : Slab). meant_at v.order c.args.src ≢ meant_at v.order c.args.dest) (sym c.self.view_is) c.requires.2 in
    apart (holds_slab c.self.inside slab refl c.self.invariant) (meant_at slab.order c.args.dest) (meant_at slab.order c.args.src) d.result s.result two d.ensures.start s.ensures.start

pub get_range_pair-requires-clause-dest_within : goal.get_range_pair-requires-clause-dest_within
get_range_pair-requires-clause-dest_within c = omega (arith, symbol_within c.self.inside c.args.dest _ c.self.invariant c.start_of-dest_start.ensures.below c.start_of-dest_start.ensures.start, c.self.inside.data.ok)

pub get_range_pair-requires-clause-src_within : goal.get_range_pair-requires-clause-src_within
get_range_pair-requires-clause-src_within c = omega (arith, symbol_within c.self.inside c.args.src _ c.self.invariant c.start_of-src_start.ensures.below c.start_of-src_start.ensures.start, c.self.inside.data.ok)

pub returns : goal.returns
returns c =
    let inside = c.self.inside in
    let slab = the_view inside in
    let is = holds_slab inside slab refl c.self.invariant in
    let d = c.start_of-dest_start in
    let s = c.start_of-src_start in
    let to = meant_at slab.order c.args.dest in
    let from = meant_at slab.order c.args.src in
    let size = ap (λ (v : Slab). v.symbol_size) c.self.view_is in
    let dest_is = c.get_range_pair.ensures.dest ∙ range_in is to d.result inside.data.items d.ensures.below d.ensures.start refl in
    let src_is = c.get_range_pair.ensures.src ∙ range_in is from s.result inside.data.items s.ensures.below s.ensures.start refl in (
      (refl, λ w. octets_written is to d.result inside.data.len w d.ensures.below d.ensures.start inside.data.ok.0 ∙ ap (λ (v : Slab). with_octets v c.args.dest w) c.self.view_is),
      record {
        writes_back = tt;
        whole_symbol = subst (λ (v : Slab). IsSymbolWrite v c.args.dest) c.self.view_is (λ ws long. symbol_written is to ws d.ensures.below long);
        dest = dest_is ∙ ap (λ (v : Slab). symbol_in v c.args.dest) c.self.view_is;
        src = src_is ∙ ap (λ (v : Slab). symbol_in v c.args.src) c.self.view_is;
        dest_len = ap length dest_is ∙ length-range_at is to d.ensures.below ∙ size;
        src_len = ap length src_is ∙ length-range_at is from s.ensures.below ∙ size;
      },
    )
