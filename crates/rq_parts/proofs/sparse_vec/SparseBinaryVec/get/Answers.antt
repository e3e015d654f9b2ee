use Rattle.std.proofs.Common.{◌≡◌, Some, Ok, Err, ap, sym, subst, ◌∙◌}
use Rattle.std.specs.List.Sorted.{IsStrictlyIncreasing}
use Rattle.rq_parts.specs.SparseBinaryVec.{listed_bit}
use Rattle.rq_parts.proofs.ListedBits.{found_or_gap, listed-gap, listed-found, octet-listed, octet-none}
use Rattle.rq_parts.proofs.sparse_vec.SparseBinaryVec.get.Goals as goal

pub returns-in-Ok : goal.returns-in-Ok
returns-in-Ok c =
    let items = c.deref.result.now in
    let same = c.deref.ensures ∙ c.self.view_is in
    let rises = subst IsStrictlyIncreasing (sym c.deref.ensures) c.self.invariant in
    let found = (found_or_gap items c.args.i (Ok c.in-Ok.field-0) rises c.in-Ok.ensures.position).found in
    ap Some c.one.ensures ∙ octet-listed c.args.self.now c.args.i (subst (λ xs. listed_bit xs c.args.i ≡ 1) same (listed-found items c.args.i c.in-Ok.field-0 rises found))

pub returns-in-Err : goal.returns-in-Err
returns-in-Err c =
    let items = c.deref.result.now in
    let same = c.deref.ensures ∙ c.self.view_is in
    let gap = (found_or_gap items c.args.i (Err c.in-Err.field-0) (subst IsStrictlyIncreasing (sym c.deref.ensures) c.self.invariant) c.in-Err.ensures.position).missing in
    octet-none c.args.self.now c.args.i (subst (λ xs. listed_bit xs c.args.i ≡ 0) same (listed-gap items c.args.i c.in-Err.field-0 gap))
