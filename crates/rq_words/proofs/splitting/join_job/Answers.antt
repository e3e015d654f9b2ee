use Rattle.std.proofs.Common.{sym}
use Rattle.clap.specs.Words.{found_of, rows_of}
use Rattle.rq_options.proofs.Parsed.{fails_refused}
use Rattle.rq_options.specs.Options.{misuse_kind}
use Rattle.rq_words.specs.Asked.{joined_asked, kinds_of}
use Rattle.rq_words.proofs.Asking.{fails_so, passes}
use Rattle.rq_words.proofs.splitting.join_job.Goals as goal

pub returns-in-Err-clause-fails : goal.returns-in-Err-clause-fails
returns-in-Err-clause-fails c =
    fails_so (joined_asked (rows_of (found_of c.args.matches.now))) (misuse_kind c.in-Err.misuse) c.error.result (sym c.in-Err.ensures) c.error.ensures

pub returns-in_err-files-clause-fails : goal.returns-in_err-files-clause-fails
returns-in_err-files-clause-fails c =
    fails_refused (kinds_of (joined_asked (rows_of (found_of c.args.matches.now)))) c.from_residual.result c.from_residual.ensures.1

pub returns-clause-fails : goal.returns-clause-fails
returns-clause-fails c = passes (joined_asked (rows_of (found_of c.args.matches.now))) _ (sym c.in-Ok.ensures)
