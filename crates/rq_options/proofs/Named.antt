-- Subcommands by their names.
use Rattle.std.proofs.Common.{◌≡◌, List, Option, Some, None, ap, ◌∙◌}
use Rattle.std.specs.Prelude.{option_map}
use Rattle.clap.specs.Words.{Row, Text, subcommand_rows_of}
use Rattle.clap.specs.declared.parser.matches.ArgMatches.{ArgMatches}
use Rattle.rq_options.specs.declared.matches.Verb.{Verb}
use Rattle.rq_options.specs.Options.{named, verb_in, verb_named}

-- what was parsed has a subcommand of this name
pub found : (m : ArgMatches) (name : Text) (rows : List Row) (verb : Option Verb) → Some (name, rows) ≡ subcommand_rows_of m → verb ≡ verb_named name
    → option_map (λ v. (v, rows)) verb ≡ verb_in m
unfolding named verb_in
found m name rows verb is has = ap (option_map (λ (v : Verb). (v, rows))) has ∙ ap named is

-- and none
pub none : (m : ArgMatches) → None ≡ subcommand_rows_of m → None ≡ verb_in m
unfolding named verb_in
none m is = ap named is
