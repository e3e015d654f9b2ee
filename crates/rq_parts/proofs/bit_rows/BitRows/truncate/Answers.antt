-- What the check leaves to show of `bit_rows::BitRows::truncate`.
use Rattle.std.proofs.Common.{◌≤◌, length, ap, ◌∙◌, arith}
use Rattle.std.proofs.Math.Nat.{mul-le-mul_right}
use Rattle.rq_bytes.specs.Ranges.{cut}
use Rattle.rq_bytes.proofs.Pieces.{count_is}
use Rattle.rq_parts.proofs.RowBuffers.{holds_rows, truncated}
use Rattle.rq_parts.proofs.bit_rows.BitRows.truncate.Goals as goal

pub overflow_mul-height : goal.overflow_mul-height
overflow_mul-height c =
    let is = holds_rows c.self.inside c.args.self.now c.self.view_is c.self.invariant in
    let few : c.args.height ≤ c.self.inside.count = omega (arith, c.requires, count_is is) in
    record { fits = omega (arith, mul-le-mul_right c.self.inside.row_len few, is.long, c.self.inside.words.small, c.self.inside.words.ok) }

pub invariant_of-self : goal.invariant_of-self
invariant_of-self c =
    let is = truncated c.self.inside.words.items c.self.inside.count c.self.inside.row_len c.args.height c.args.self.now (holds_rows c.self.inside c.args.self.now c.self.view_is c.self.invariant) c.requires in
    c.truncate.new.self.ok.0 ∙ ap length c.truncate.ensures.items ∙ is.long

pub returns : goal.returns
returns c =
    let is = truncated c.self.inside.words.items c.self.inside.count c.self.inside.row_len c.args.height c.args.self.now (holds_rows c.self.inside c.args.self.now c.self.view_is c.self.invariant) c.requires in
    ap (cut c.args.height c.self.inside.row_len) c.truncate.ensures.items ∙ is.view
