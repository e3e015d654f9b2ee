-- The words that the program takes, as clap reads them.
use Rattle.std.specs.Prelude.{ℕ, List, [], ◌∷◌, Option, Some, codes, true}
use Rattle.clap.specs.Words.{App, Kinds, Row, Rule, Text, fault_of, new_app, new_rule, subcommand_of, with_rule, with_subcommand}
use Rattle.clap.specs.Simple.{on_top}
use Rattle.clap.specs.declared.builder.action.ArgAction.TheVariants.{Set, Append, SetTrue}

-- an option that takes a value
abbrev pub value_rule : Text → Rule
value_rule id = record (new_rule id) { long = Some id; action = Some Set; value_names = 1 }

-- one that may be said several times
abbrev pub several_rule : Text → Rule
several_rule id = record (new_rule id) { long = Some id; action = Some Append; value_names = 1 }

-- one with a letter, and one with a default
abbrev pub with_letter : ℕ → Rule → Rule
with_letter letter rule = record rule { short = Some letter }

abbrev pub with_default : Text → Rule → Rule
with_default text rule = record rule { defaults = text ∷ [] }

-- an option that is there or not
abbrev pub flag_rule : Text → Rule
flag_rule id = record (new_rule id) { long = Some id; action = Some SetTrue }

-- a file that is read, and files
abbrev pub file_rule : Rule
file_rule = record (new_rule (codes "file")) { action = Some Set; value_names = 1 }

abbrev pub cells_rule : Rule
cells_rule = record (new_rule (codes "cells")) { action = Some Append; value_names = 1 }

-- a file that has a guard or is split, which has to be named, and its guard
abbrev pub guarded_rule : Rule
guarded_rule = record (new_rule (codes "file")) { action = Some Set; value_names = 1; required = true }

abbrev pub guard_rule : Rule
guard_rule = record (new_rule (codes "guard")) { action = Some Set; value_names = 1 }

-- a folder of shards, which has to be named
abbrev pub folder_rule : Rule
folder_rule = record (new_rule (codes "folder")) { action = Some Set; value_names = 1; required = true }

-- a subcommand, which says the version too
abbrev pub subcommand_app : Text → App
subcommand_app name = on_top (λ s. record s { has_version = true }) (new_app name)

-- the options that all subcommands have
abbrev pub with_common : App → App
with_common a = with_rule (with_rule (with_rule (with_rule a (with_letter 107 (value_rule (codes "key")))) (with_letter 113 (flag_rule (codes "quiet"))))
    (flag_rule (codes "progress"))) (flag_rule (codes "json"))

-- the options that say what a part is, and which packets are sent of it
abbrev pub with_repair : App → App
with_repair a = with_rule (with_rule (with_rule (with_rule a (with_default (codes "16M") (value_rule (codes "part"))))
    (with_default (codes "1472") (with_letter 99 (value_rule (codes "cell"))))) (with_letter 108 (value_rule (codes "loss"))))
    (with_letter 114 (value_rule (codes "repair")))

-- the options that say which ids are sent, how fast, and how often
abbrev pub with_ids : App → App
with_ids a = with_rule (with_rule (with_rule (with_rule a (value_rule (codes "rate"))) (value_rule (codes "share")))
    (with_default (codes "0") (value_rule (codes "from")))) (value_rule (codes "rounds"))

-- the options that say where to is received, whether one stream or all, how long one may be silent, and where what is read is kept
abbrev pub with_places : App → App
with_places a = with_rule (with_rule (with_rule (with_rule a (with_letter 111 (value_rule (codes "output")))) (flag_rule (codes "follow")))
    (value_rule (codes "timeout"))) (value_rule (codes "state"))

-- the options that say which stream is received, and by what window
abbrev pub with_choice : App → App
with_choice a =
    with_rule (with_rule (with_rule a (value_rule (codes "name"))) (several_rule (codes "not"))) (with_default (codes "2") (value_rule (codes "window")))

-- the options that say how a guard is made, and where to
abbrev pub with_guard : App → App
with_guard a = with_rule (with_rule (with_rule a (with_default (codes "250M") (value_rule (codes "part"))))
    (with_default (codes "10%") (with_letter 114 (value_rule (codes "repair"))))) (with_letter 111 (value_rule (codes "output")))

unfoldable pub send_app : App
send_app = with_rule (with_common (with_ids (with_repair (subcommand_app (codes "send"))))) file_rule

unfoldable pub receive_app : App
receive_app = with_rule (with_common (with_choice (with_places (subcommand_app (codes "receive"))))) cells_rule

unfoldable pub info_app : App
info_app = with_rule (with_common (subcommand_app (codes "info"))) cells_rule

unfoldable pub protect_app : App
protect_app = with_rule (with_common (with_guard (subcommand_app (codes "protect")))) guarded_rule

unfoldable pub check_app : App
check_app = with_rule (with_rule (with_common (subcommand_app (codes "check"))) guarded_rule) guard_rule

unfoldable pub repair_app : App
repair_app = with_rule (with_rule (with_common (with_rule (subcommand_app (codes "repair")) (with_letter 111 (value_rule (codes "output"))))) guarded_rule) guard_rule

-- the options that say how a file is split
abbrev pub with_shards : App → App
with_shards a = with_rule (with_rule (with_rule (with_rule a (with_default (codes "16") (value_rule (codes "need"))))
    (with_default (codes "20") (value_rule (codes "of")))) (with_default (codes "16M") (value_rule (codes "part"))))
    (with_default (codes "4096") (with_letter 99 (value_rule (codes "cell"))))

unfoldable pub split_app : App
split_app = with_rule (with_rule (with_common (with_shards (subcommand_app (codes "split")))) guarded_rule) folder_rule

unfoldable pub join_app : App
join_app = with_rule (with_common (with_rule (subcommand_app (codes "join")) (with_letter 111 (value_rule (codes "output"))))) folder_rule

-- the program, with no subcommand yet
abbrev pub top_app : App
top_app = on_top (λ s. record s { has_version = true; no_binary_name = true; subcommand_required = true; disable_help_subcommand = true }) (new_app (codes "rqcast"))

-- all words behind the program's name
unfoldable pub program_app : App
program_app =
    with_subcommand (with_subcommand
    (with_subcommand (with_subcommand (with_subcommand (with_subcommand (with_subcommand (with_subcommand top_app send_app.top) receive_app.top) info_app.top)
    protect_app.top) check_app.top) repair_app.top) split_app.top) join_app.top

-- what the parser finds at fault in words
unfoldable pub faults_of : List Text → Kinds
faults_of words = fault_of program_app words

-- the subcommand among them, and what is found behind it
unfoldable pub used_of : List Text → Option (Text × List Row)
used_of words = subcommand_of program_app words
