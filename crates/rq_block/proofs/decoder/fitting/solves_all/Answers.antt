use Rattle.std.proofs.lemmas.Result.{IfOk-weaker}
use Rattle.rq_block.proofs.decoder.fitting.solves_all.Goals as goal

pub returns : goal.returns
returns c =
    let unread = c.in_ok-is_zero_unread.ensures.0 c.if-not-branch.false in
    IfOk-weaker c.solves_hdpc.result _ _ (λ solves told. (λ t. record { unread = unread; hdpc = λ _. told.0 t }, λ s. told.1 (s.hdpc (rw c.precode_rows.ensures.value at c.if-solution-precode_rows.false)))) c.solves_hdpc.ensures
