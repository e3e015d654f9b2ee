use Rattle.std.proofs.Common.{arith}
use Rattle.rq_parts.proofs.ListedBits.{listed-found, sets-again, sets-nonzero}
use Rattle.rq_parts.proofs.sparse_vec.SparseBinaryVec.insert.Goals as goal

pub returns-in_ok-list_at-clause-ok : goal.returns-in_ok-list_at-clause-ok
returns-in_ok-list_at-clause-ok c =
    sets-nonzero c.args.self.now c.args.i c.args.value c.list_at.new.self (λ zero. omega arith) c.in_ok-list_at.ensures.ok

pub returns-in_default-clause-ok : goal.returns-in_default-clause-ok
returns-in_default-clause-ok c =
    sets-again c.args.self.now c.args.i c.args.value (λ zero. omega arith) (listed-found c.args.self.now c.args.i _ c.find.ensures.increasing c.in_default.ensures.found)
