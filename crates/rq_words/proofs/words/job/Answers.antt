use Rattle.std.proofs.Common.{None, Some, map, ◌∙◌}
use Rattle.std.proofs.lemmas.Result.{err_from_is_err_and}
use Rattle.clap.specs.Words.{found_of, kind_of, rows_of}
use Rattle.rq_options.specs.declared.matches.Verb.TheVariants as verb
use Rattle.rq_words.proofs.Asking.{fails_then, received, refused_at_once, refused_then, uses}
use Rattle.rq_words.proofs.words.job.Goals as goal

pub returns-in_err-matches-clause-refused : goal.returns-in_err-matches-clause-refused
returns-in_err-matches-clause-refused g c =
    let p = err_from_is_err_and c.from_residual.result c.from_residual.ensures.1 in
    rw (p.1, p.2) (refused_at_once (map g.S.AsStr.text c.args.words.now) (kind_of c.in_err-matches.field-0.0) c.in_err-matches.ensures.fails)

pub returns-in_err-send_job-in-Some-Send-default-clause-refused : goal.returns-in_err-send_job-in-Some-Send-default-clause-refused
returns-in_err-send_job-in-Some-Send-default-clause-refused g c =
    let p = err_from_is_err_and c.from_residual-in_err-send_job-in-Some-Send-default.result c.from_residual-in_err-send_job-in-Some-Send-default.ensures.1 in
    rw (p.1, p.2)
    (refused_then (map g.S.AsStr.text c.args.words.now) (kind_of c.in_err-send_job-in-Some-Send-default.field-0.0)
    (Some (verb.Send, rows_of (found_of c.in-Some-Send-default.behind.now))) c.in_ok-matches.ensures.fails
    ((rw c.in-Some-Send-default.field-0-0-is at c.in-Some-Send-default.ensures) ∙ c.in_ok-matches.ensures.used) c.in_err-send_job-in-Some-Send-default.ensures.fails)

pub returns-in-Some-Receive-default-clause-job : goal.returns-in-Some-Receive-default-clause-job
returns-in-Some-Receive-default-clause-job g c =
    let words = map g.S.AsStr.text c.args.words.now in
    let rows = rows_of (found_of c.in-Some-Receive-default.behind.now) in
    received words rows c.receive_job.result
    (uses words c.in_ok-matches.matches verb.Receive rows c.in_ok-matches.ensures.fails (rw c.in-Some-Receive-default.field-0-0-is at c.in-Some-Receive-default.ensures)
    c.in_ok-matches.ensures.used) c.receive_job.ensures.job

pub returns-in-Some-Receive-default-clause-refused : goal.returns-in-Some-Receive-default-clause-refused
returns-in-Some-Receive-default-clause-refused g c =
    let words = map g.S.AsStr.text c.args.words.now in
    fails_then words c.receive_job.result (Some (verb.Receive, rows_of (found_of c.in-Some-Receive-default.behind.now))) c.in_ok-matches.ensures.fails
    ((rw c.in-Some-Receive-default.field-0-0-is at c.in-Some-Receive-default.ensures) ∙ c.in_ok-matches.ensures.used) c.receive_job.ensures.fails

pub returns-in_err-info_job-in-Some-Info-default-clause-refused : goal.returns-in_err-info_job-in-Some-Info-default-clause-refused
returns-in_err-info_job-in-Some-Info-default-clause-refused g c =
    let p = err_from_is_err_and c.from_residual-in_err-info_job-in-Some-Info-default.result c.from_residual-in_err-info_job-in-Some-Info-default.ensures.1 in
    rw (p.1, p.2)
    (refused_then (map g.S.AsStr.text c.args.words.now) (kind_of c.in_err-info_job-in-Some-Info-default.field-0.0)
    (Some (verb.Info, rows_of (found_of c.in-Some-Info-default.behind.now))) c.in_ok-matches.ensures.fails
    ((rw c.in-Some-Info-default.field-0-0-is at c.in-Some-Info-default.ensures) ∙ c.in_ok-matches.ensures.used) c.in_err-info_job-in-Some-Info-default.ensures.fails)

pub returns-in_err-protect_job-in-Some-Protect-default-clause-refused : goal.returns-in_err-protect_job-in-Some-Protect-default-clause-refused
returns-in_err-protect_job-in-Some-Protect-default-clause-refused g c =
    let p = err_from_is_err_and c.from_residual-in_err-protect_job-in-Some-Protect-default.result c.from_residual-in_err-protect_job-in-Some-Protect-default.ensures.1 in
    rw (p.1, p.2)
    (refused_then (map g.S.AsStr.text c.args.words.now) (kind_of c.in_err-protect_job-in-Some-Protect-default.field-0.0)
    (Some (verb.Protect, rows_of (found_of c.in-Some-Protect-default.behind.now))) c.in_ok-matches.ensures.fails
    ((rw c.in-Some-Protect-default.field-0-0-is at c.in-Some-Protect-default.ensures) ∙ c.in_ok-matches.ensures.used) c.in_err-protect_job-in-Some-Protect-default.ensures.fails)

pub returns-in_err-check_job-in-Some-Check-default-clause-refused : goal.returns-in_err-check_job-in-Some-Check-default-clause-refused
returns-in_err-check_job-in-Some-Check-default-clause-refused g c =
    let p = err_from_is_err_and c.from_residual-in_err-check_job-in-Some-Check-default.result c.from_residual-in_err-check_job-in-Some-Check-default.ensures.1 in
    rw (p.1, p.2)
    (refused_then (map g.S.AsStr.text c.args.words.now) (kind_of c.in_err-check_job-in-Some-Check-default.field-0.0)
    (Some (verb.Check, rows_of (found_of c.in-Some-Check-default.behind.now))) c.in_ok-matches.ensures.fails
    ((rw c.in-Some-Check-default.field-0-0-is at c.in-Some-Check-default.ensures) ∙ c.in_ok-matches.ensures.used) c.in_err-check_job-in-Some-Check-default.ensures.fails)

pub returns-in_err-repair_job-in-Some-Repair-default-clause-refused : goal.returns-in_err-repair_job-in-Some-Repair-default-clause-refused
returns-in_err-repair_job-in-Some-Repair-default-clause-refused g c =
    let p = err_from_is_err_and c.from_residual-in_err-repair_job-in-Some-Repair-default.result c.from_residual-in_err-repair_job-in-Some-Repair-default.ensures.1 in
    rw (p.1, p.2)
    (refused_then (map g.S.AsStr.text c.args.words.now) (kind_of c.in_err-repair_job-in-Some-Repair-default.field-0.0)
    (Some (verb.Repair, rows_of (found_of c.in-Some-Repair-default.behind.now))) c.in_ok-matches.ensures.fails
    ((rw c.in-Some-Repair-default.field-0-0-is at c.in-Some-Repair-default.ensures) ∙ c.in_ok-matches.ensures.used) c.in_err-repair_job-in-Some-Repair-default.ensures.fails)

pub returns-in_err-split_job-in-Some-Split-default-clause-refused : goal.returns-in_err-split_job-in-Some-Split-default-clause-refused
returns-in_err-split_job-in-Some-Split-default-clause-refused g c =
    let p = err_from_is_err_and c.from_residual-in_err-split_job-in-Some-Split-default.result c.from_residual-in_err-split_job-in-Some-Split-default.ensures.1 in
    rw (p.1, p.2)
    (refused_then (map g.S.AsStr.text c.args.words.now) (kind_of c.in_err-split_job-in-Some-Split-default.field-0.0)
    (Some (verb.Split, rows_of (found_of c.in-Some-Split-default.behind.now))) c.in_ok-matches.ensures.fails
    ((rw c.in-Some-Split-default.field-0-0-is at c.in-Some-Split-default.ensures) ∙ c.in_ok-matches.ensures.used) c.in_err-split_job-in-Some-Split-default.ensures.fails)

pub returns-in_err-join_job-in-Some-Join-default-clause-refused : goal.returns-in_err-join_job-in-Some-Join-default-clause-refused
returns-in_err-join_job-in-Some-Join-default-clause-refused g c =
    let p = err_from_is_err_and c.from_residual-in_err-join_job-in-Some-Join-default.result c.from_residual-in_err-join_job-in-Some-Join-default.ensures.1 in
    rw (p.1, p.2)
    (refused_then (map g.S.AsStr.text c.args.words.now) (kind_of c.in_err-join_job-in-Some-Join-default.field-0.0)
    (Some (verb.Join, rows_of (found_of c.in-Some-Join-default.behind.now))) c.in_ok-matches.ensures.fails
    ((rw c.in-Some-Join-default.field-0-0-is at c.in-Some-Join-default.ensures) ∙ c.in_ok-matches.ensures.used) c.in_err-join_job-in-Some-Join-default.ensures.fails)

pub returns-clause-refused : goal.returns-clause-refused
returns-clause-refused g c =
    refused_then (map g.S.AsStr.text c.args.words.now) (kind_of c.no_subcommand.result) None c.in_ok-matches.ensures.fails
    (c.in-None.ensures ∙ c.in_ok-matches.ensures.used) c.no_subcommand.ensures
