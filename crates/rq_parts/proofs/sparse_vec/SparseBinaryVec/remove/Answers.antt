use Rattle.std.proofs.Common.{Some, ap, ◌∙◌}
use Rattle.rq_parts.proofs.ListedBits.{listed-gap, listed-found, octet-listed, octet-none, rises-without, sets-removed, sets-nothing}
use Rattle.rq_parts.proofs.sparse_vec.SparseBinaryVec.remove.Goals as goal

pub returns-in-Ok-clause-removed : goal.returns-in-Ok-clause-removed
returns-in-Ok-clause-removed c = rw (c.remove.ensures.items, c.self.view_is) (sets-removed c.args.self.now c.args.i _ c.find.ensures.increasing c.in-Ok.ensures.found)

pub returns-in-Ok-clause-value : goal.returns-in-Ok-clause-value
returns-in-Ok-clause-value c = ap Some c.one.ensures ∙ octet-listed c.args.self.now c.args.i (listed-found c.args.self.now c.args.i _ c.find.ensures.increasing c.in-Ok.ensures.found)

pub returns-in-Err-clause-removed : goal.returns-in-Err-clause-removed
returns-in-Err-clause-removed c = sets-nothing c.args.self.now c.args.i (listed-gap c.args.self.now c.args.i _ c.in-Err.ensures.missing)

pub returns-in-Err-clause-value : goal.returns-in-Err-clause-value
returns-in-Err-clause-value c = octet-none c.args.self.now c.args.i (listed-gap c.args.self.now c.args.i _ c.in-Err.ensures.missing)

pub invariant_of-self : goal.invariant_of-self
invariant_of-self c = rw (c.remove.ensures.items, c.self.view_is) (rises-without c.args.self.now c.in-Ok.at c.in-Ok.ensures.found.within c.find.ensures.increasing)

pub returns-in-Ok-clause-increasing : goal.returns-in-Ok-clause-increasing
returns-in-Ok-clause-increasing c = rw (c.remove.ensures.items, c.self.view_is) (rises-without c.args.self.now c.in-Ok.at c.in-Ok.ensures.found.within c.find.ensures.increasing)
