-- What the check leaves to show of `symbol_slab::SymbolSlab::set_reorder`.
use Rattle.std.proofs.Common.{Some, sym, ap, subst, unwrap_or}
use Rattle.rq_algebra.specs.Operations.{step, IsOrder}
use Rattle.rq_bytes.specs.SymbolSlab.{Slab}
use Rattle.rq_bytes.proofs.SlabFacts.{holds_slab, count_is}
use Rattle.rq_bytes.proofs.symbol_slab.SymbolSlab.set_reorder.Goals as goal

pub invariant_of-self : goal.invariant_of-self
invariant_of-self c =
    let is = holds_slab c.self.inside c.args.self.now c.self.view_is c.self.invariant in (
      c.self.invariant.0,
      λ x e.
          let same = ap (λ o. unwrap_or o c.args.order) e in
          subst (λ o. IsOrder c.self.inside.count o.items) same (subst (λ n. IsOrder n c.args.order.items) (sym (count_is is)) c.requires),
    )

pub returns : goal.returns
unfolding step
returns c = ap (λ (v : Slab). record v { order = Some c.args.order.items }) c.self.view_is
