use Rattle.std.proofs.Common.{map}
use Rattle.clap.specs.Words.{app_of}
use Rattle.rq_options.specs.Definition.{faults_of}
use Rattle.rq_options.proofs.Parsed.{fails_by, fails_refused, used_by}
use Rattle.rq_options.proofs.matches.matches_of.Goals as goal

pub returns-clause-fails : goal.returns-clause-fails
returns-clause-fails g c =
    fails_by (app_of c.in_ok-program.field-0) (map g.S.AsStr.text c.args.words.now) c.try_get_matches_from.result c.in_ok-program.ensures
    c.try_get_matches_from.ensures.kinds

pub returns-clause-used : goal.returns-clause-used
returns-clause-used g c =
    used_by (app_of c.in_ok-program.field-0) (map g.S.AsStr.text c.args.words.now) c.try_get_matches_from.result c.in_ok-program.ensures
    c.try_get_matches_from.ensures.matches

pub returns-in_err-program-clause-fails : goal.returns-in_err-program-clause-fails
returns-in_err-program-clause-fails g c =
    fails_refused (faults_of (map g.S.AsStr.text c.args.words.now)) c.from_residual.result c.from_residual.ensures.1
