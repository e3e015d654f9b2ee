-- What the words say of options, and the kinds of errors.
use Rattle.std.specs.Prelude.{List, [], Bool, false, Option, Some, None, option_and_then, option_map, unwrap_or, codes, if◌then◌else◌}
use Rattle.std.specs.Str.{bytes_eq}
use Rattle.clap.specs.Words.{Row, Text, all_of, first_of, subcommand_rows_of}
use Rattle.clap.specs.declared.error.kind.ErrorKind.{ErrorKind}
use Rattle.clap.specs.declared.error.kind.ErrorKind.TheVariants.{ArgumentConflict, MissingRequiredArgument, ValueValidation}
use Rattle.clap.specs.declared.parser.matches.ArgMatches.{ArgMatches}
use Rattle.rq_options.specs.declared.matches.Verb.{Verb}
use Rattle.rq_options.specs.declared.matches.Verb.TheVariants.{Send, Receive, Info, Protect, Check, Repair, Split, Join}
use Rattle.rq_options.specs.declared.misuse.Misuse.{Misuse}
use Rattle.rq_options.specs.declared.misuse.Misuse.TheVariants.{Together, Alone, Value}
use Rattle.rq_options.specs.Definition.{used_of}

-- ---- subcommands

-- the subcommand of a name
unfoldable pub verb_named : Text → Option Verb
verb_named name =
    if bytes_eq name (codes "send") then Some Send else (if bytes_eq name (codes "receive") then Some Receive
    else (if bytes_eq name (codes "info") then Some Info else (if bytes_eq name (codes "protect") then Some Protect
    else (if bytes_eq name (codes "check") then Some Check else (if bytes_eq name (codes "repair") then Some Repair
    else (if bytes_eq name (codes "split") then Some Split else (if bytes_eq name (codes "join") then Some Join else None)))))))

-- a subcommand and what stands behind it, by its name
unfoldable pub named : Option (Text × List Row) → Option (Verb × List Row)
named used = option_and_then (λ u. option_map (λ verb. (verb, u.1)) (verb_named u.0)) used

-- that of what was parsed, and of words
unfoldable pub verb_in : ArgMatches → Option (Verb × List Row)
verb_in m = named (subcommand_rows_of m)

unfoldable pub verb_used : List Text → Option (Verb × List Row)
verb_used words = named (used_of words)

-- ---- what stands behind it

-- the text of an option, or another one where it has none
abbrev pub text_or : List Row → Text → Text → Text
text_or rows id other = unwrap_or (first_of id rows) other

abbrev pub is_true : Option Text → Bool
is_true None = false
is_true (Some text) = bytes_eq text (codes "true")

-- a flag is there
abbrev pub is_flagged : List Row → Text → Bool
is_flagged rows id = is_true (first_of id rows)

-- the texts of an argument
abbrev pub texts_of : List Row → Text → List Text
texts_of rows id = unwrap_or (all_of id rows) []

-- ---- errors

-- the kind of the error of options that ask for nothing
abbrev pub misuse_kind : Misuse → ErrorKind
misuse_kind (Together one other) = ArgumentConflict
misuse_kind (Alone option missing reason) = MissingRequiredArgument
misuse_kind (Value option takes text) = ValueValidation
