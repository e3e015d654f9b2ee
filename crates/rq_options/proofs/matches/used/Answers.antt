use Rattle.std.proofs.Common.{Some}
use Rattle.clap.specs.Words.{found_of, rows_of}
use Rattle.rq_options.proofs.Named.{found, none}
use Rattle.rq_options.proofs.matches.used.Goals as goal

pub returns-in_err-name : goal.returns-in_err-name
returns-in_err-name c = rw c.from_residual.ensures (none c.args.matches.now c.in_err-name.ensures)

pub returns-in_err-verb : goal.returns-in_err-verb
returns-in_err-verb c =
    rw c.from_residual-in_err-verb.ensures
    (found c.args.matches.now c.in_ok-name.name.now (rows_of (found_of c.in_ok-name.behind.now)) _ c.in_ok-name.ensures c.in_err-verb.ensures)

pub returns : goal.returns
returns c =
    found c.args.matches.now c.in_ok-name.name.now (rows_of (found_of c.in_ok-name.behind.now)) (Some c.in_ok-verb.verb) c.in_ok-name.ensures
    c.in_ok-verb.ensures
