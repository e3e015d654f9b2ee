-- Commands with no global argument.
use Rattle.std.proofs.Common.{◌≡◌, ◌||◌, Bool, true, false, refl, ap, ◌∙◌}
use Rattle.clap.specs.Words.{AddsArg}
use Rattle.clap.specs.declared.builder.arg.Arg.{Arg}
use Rattle.clap.specs.declared.builder.command.Command.{Command}
use Rattle.clap.specs.declared.builder.command.Command.TheViews.{out-Command}

or_false : (b : Bool) → (b || false) ≡ b
or_false true = refl
or_false false = refl

-- an argument that isn't global leaves it so
pub adds_local : (old : Command) (a : Arg) (new : Command) → AddsArg old a new → a.global ≡ false
    → (out-Command new).has_globals ≡ (out-Command old).has_globals
adds_local old a new h local = h.globals ∙ ap (λ g. (out-Command old).has_globals || g) local ∙ or_false (out-Command old).has_globals
