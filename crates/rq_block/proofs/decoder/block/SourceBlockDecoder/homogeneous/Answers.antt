use Rattle.std.proofs.Common.{sym, subst}
use Rattle.std.proofs.lemmas.Result.{IfOk-weaker}
use Rattle.rq_standard.specs.Headline.{known_ids}
use Rattle.rq_standard.specs.IdLists.{IsListOf}
use Rattle.rq_block.specs.Payloads.{has_payload}
use Rattle.rq_block.proofs.Undetermined.{shows_known}
use Rattle.rq_block.proofs.decoder.block.SourceBlockDecoder.homogeneous.Goals as goal

pub returns-clause-shown : goal.returns-clause-shown
returns-clause-shown c =
    let d = c.args.self.now in
    let known = known_ids d.row.numbers d.source_symbols (has_payload d.received) in
    let list = subst (IsListOf known) (sym c.as_slice.ensures.value) c.in_ok-ids.ensures.listed in
    IfOk-weaker c.homogeneous.result _ _ (λ answer shows. shows_known d.row.numbers known c.as_slice.result.now list answer shows) c.homogeneous.ensures.shown
