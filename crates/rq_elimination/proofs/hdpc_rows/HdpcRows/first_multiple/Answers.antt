-- What the check leaves to show of `hdpc_rows::HdpcRows::first_multiple`.
use Rattle.std.proofs.Common.{◌≡◌, ◌<◌, length, sym, ap, ◌∙◌, arith}
use Rattle.std.proofs.lemmas.List.{get_or_read}
use Rattle.rq_algebra.specs.Systems.{at}
use Rattle.rq_standard.specs.OctetField.{octets}
use Rattle.rq_elimination.specs.HdpcRows.{HdpcTable}
use Rattle.rq_elimination.proofs.ChangedEntries.{mul_is}
use Rattle.rq_elimination.proofs.hdpc_rows.HdpcRows.first_multiple.Goals as goal

pub returns : goal.returns
returns c =
    let inside = c.self.inside.factors.items in
    let some : 0 < length inside = omega (arith, c.self.invariant.count, ap (λ (hdpc : HdpcTable). length hdpc.table.rows) c.self.view_is, c.requires) in
    let lead : c.index.result.now ≡ at inside 0 = get_or_read inside 0 c.index.result.now some c.index.ensures 0 in
    let small : c.args.scalar < 256 = omega arith in
    let below : at inside 0 < 256 = omega (arith, lead) in
    c.byte.ensures ∙ rw (c.new.ensures, c.new-2.ensures ∙ lead) at c.mul.ensures ∙ sym (mul_is c.args.scalar (at inside 0) small below)
    ∙ ap (λ (hdpc : HdpcTable). octets.mul c.args.scalar (at hdpc.factors 0)) c.self.view_is
