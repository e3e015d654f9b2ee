use Rattle.std.proofs.Common.{sym, subst}
use Rattle.std.proofs.lemmas.Result.{IfOk-weaker, err_from_is_err_and}
use Rattle.rq_standard.specs.Headline.{AnswersExactly, AnswersWhereAnyCan}
use Rattle.raptorq.specs.Decoder.{state_of}
use Rattle.raptorq.specs.Runs.{packets_of}
use Rattle.raptorq.proofs.FollowedRuns.{run_answers}
use Rattle.raptorq.proofs.Lists.{answers_exactly, answers_where_any_can}
use Rattle.raptorq.proofs.decoder.object.decode_all.Goals as goal

pub returns-in_err-decoder-clause-in_order : goal.returns-in_err-decoder-clause-in_order
returns-in_err-decoder-clause-in_order c =
    let p = err_from_is_err_and c.from_residual.result c.from_residual.ensures.1 in
    rw (p.1, p.2) c.in_err-decoder.ensures.in_order

pub returns-clause-in_order : goal.returns-clause-in_order
returns-clause-in_order c = run_answers c.args.table.now c.args.config (packets_of c.args.steps.items) c.get_result.result c.in_ok-decoder.ensures.in_order c.get_result.ensures.memory

pub returns-clause-answer : goal.returns-clause-answer
returns-clause-answer c =
    let made = c.in_ok-decoder.ensures in
    IfOk-weaker c.get_result.result _ _ (λ r is. record { state = state_of c.in_ok-decoder.decoder; configuration = made.configuration; follows = made.follows; value = is }) c.get_result.ensures.answer

pub returns-clause-headline : goal.returns-clause-headline
returns-clause-headline c =
    let made = c.in_ok-decoder.ensures in
    let all = packets_of c.args.steps.items in
    IfOk-weaker c.get_result.result _ _ (λ r is. subst (AnswersExactly c.args.table.now c.args.config all) (sym is)
    (answers_exactly c.args.table.now c.args.config all (state_of c.in_ok-decoder.decoder) made.configuration made.follows)) c.get_result.ensures.answer

pub returns-clause-only_object : goal.returns-clause-only_object
returns-clause-only_object c =
    let made = c.in_ok-decoder.ensures in
    let all = packets_of c.args.steps.items in
    IfOk-weaker c.get_result.result _ _ (λ r is. subst (AnswersWhereAnyCan c.args.table.now c.args.config all) (sym is)
    (answers_where_any_can c.args.table.now c.args.config all (state_of c.in_ok-decoder.decoder) made.configuration made.follows)) c.get_result.ensures.answer
