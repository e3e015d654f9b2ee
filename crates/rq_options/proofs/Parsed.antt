-- What the parser finds among words, by what the program takes.
use Rattle.std.proofs.Common.{◌≡◌, List, Result, Ok, Err, IfOk, true, inl, refl, ap, subst, ◌∙◌}
use Rattle.std.specs.Result.{IsErrAnd}
use Rattle.clap.specs.Words.{App, FailsBy, HasMatchesOf, Kinds, Text, fault_of, is_simple, is_simple_and_free, kind_of, subcommand_of}
use Rattle.clap.specs.declared.error.Error.{Error}
use Rattle.clap.specs.declared.error.kind.ErrorKind.TheVariants.{OutOfMemory}
use Rattle.clap.specs.declared.parser.matches.ArgMatches.{ArgMatches}
use Rattle.clap.proofs.OnLiterals.{clap_on_literals}
use Rattle.rq_options.specs.Definition.{program_app, send_app, receive_app, info_app, protect_app, check_app, repair_app, split_app, join_app, faults_of, used_of}
use Rattle.rq_options.specs.Options.{named, verb_in, verb_used}

-- clap's clauses on matches and faults are exact of this program
simple : is_simple program_app ≡ true
unfolding program_app send_app receive_app info_app protect_app check_app repair_app split_app join_app clap_on_literals
simple = refl

free : is_simple_and_free program_app ≡ true
unfolding program_app send_app receive_app info_app protect_app check_app repair_app split_app join_app clap_on_literals
free = refl

-- the subcommand that is used, where the parser took the words
pub used_by : (a : App) (words : List Text) (r : Result ArgMatches Error) → a ≡ program_app → IfOk r (HasMatchesOf a words)
    → IfOk r (λ m. verb_in m ≡ verb_used words)
unfolding used_of verb_in verb_used
used_by a words (Ok m) is h = ap named ((h (ap is_simple is ∙ simple)).1 ∙ ap (λ b. subcommand_of b words) is)
used_by a words (Err e) is h = tt

-- what it finds at fault
pub fails_by : (a : App) (words : List Text) (r : Result ArgMatches Error) → a ≡ program_app
    → (is_simple_and_free a ≡ true → FailsBy (fault_of a words) r) → FailsBy (faults_of words) r
unfolding faults_of
fails_by a words r is h = subst (λ (b : App). FailsBy (fault_of b words) r) is (h (ap is_simple_and_free is ∙ free))

-- memory may be refused before that
pub fails_refused : {T : Type 0} (kinds : Kinds) (r : Result T Error) → IsErrAnd r (λ e. kind_of e ≡ OutOfMemory) → FailsBy kinds r
fails_refused kinds (Ok x) h = absurd h
fails_refused kinds (Err e) h = inl h
