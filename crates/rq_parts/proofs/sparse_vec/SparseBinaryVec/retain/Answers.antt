-- What the check leaves to show of `sparse_vec::SparseBinaryVec::retain`.
use Rattle.std.proofs.Common.{ℕ, Bool, subst, rules}
use Rattle.std.specs.Fn.{FnReturnsAt}
use Rattle.rq_parts.proofs.RetainedOnes.{AreRetained, retained}
use Rattle.rq_parts.proofs.sparse_vec.SparseBinaryVec.retain.Goals as goal

are_retained : (g : _) (c : goal.After-drop-predicate g) → AreRetained (λ k kept. FnReturnsAt g.P.Fn c.args.predicate (k, 1) kept) c.args.self.now c.retain.new.self.items
are_retained g c =
    let answers : ℕ → Bool → Type 0 = λ k kept. FnReturnsAt g.P.Fn c.args.predicate (k, 1) kept in
    subst (λ xs. AreRetained answers xs c.retain.new.self.items) c.self.view_is
    (retained answers _ _ (λ x kept f' y called. search rules) _ _ c.self.invariant c.retain.ensures.filtered)

pub invariant_of-self : goal.invariant_of-self
invariant_of-self g c = (are_retained g c).increasing

pub returns-clause-listed : goal.returns-clause-listed
returns-clause-listed g c = (are_retained g c).listed

pub returns-clause-kept : goal.returns-clause-kept
returns-clause-kept g c = (are_retained g c).kept

pub returns-clause-dropped : goal.returns-clause-dropped
returns-clause-dropped g c = (are_retained g c).dropped

pub returns-clause-increasing : goal.returns-clause-increasing
returns-clause-increasing g c = (are_retained g c).increasing
