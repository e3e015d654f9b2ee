use Rattle.std.proofs.Common.{◌∙◌, sym}
use Rattle.rq_words.proofs.Reading.{named, unnamed}
use Rattle.rq_words.proofs.values.name.Goals as goal

pub returns-in-Ok : goal.returns-in-Ok
returns-in-Ok c = c.sized.ensures ∙ named c.args.text.now c.in-Ok.bytes.items c.in-Ok.ensures.ok

pub returns-in-Err-2 : goal.returns-in-Err-2
returns-in-Err-2 c = unnamed c.args.text.now c.in-Err.error c.in-Err.ensures.err (sym c.is_refused.ensures ∙ c.if-is_refused.false)
