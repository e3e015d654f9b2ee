-- A coder's box as the kit's calls on boxes see it, and how its coder goes.
use Rattle.std.proofs.Common.{[], ◌∷◌, refl}
use Rattle.raptorq_c.proofs.Walking.{Lasts, lasts, bare, layout, arg, Laws, arg_laws, RattleType, Bx, box_of, boxed}
use mir.Syntax.{Dict, impl, tnil, dnil, method}
use denote.Exit.{no}
use denote.Param.{layouts}
use denote.Triple.Carry.{AllWithin}
use denote.Triple.Clauses.{Ended, at_exit}
use denote.Triple.Walked.{Fit}
use seplogic.Ra.Ura.{Ura}
use prog.Model.{Model}
use prog.Wired.{Wired}
use types.Logic.{Logic}
use contract.Running.{Running}
use denote.Param.Glue.{Met}
use borrow.Fn.Glue.{glue_by, glue_ps}
use borrow.Fn.Impl.{via_longer, method_Known}
use borrow.Fn.Kinds.{ended_of, stays, r_unit}
use borrow.Fn.Run.{Over}
use borrow.Fn.World.{World}
pub use Rattle.raptorq_c.specs.contracts.kept.Coder.{the_row as row}
pub use Rattle.raptorq_c.proofs.kept.Coder.TheLaws.{the_row_laws as row_laws, the_within as row_within}
use Rattle.raptorq_c.proofs.raptorq_c++kept++Coder+Destruct.drop.Kinds as drops
use Rattle.raptorq_c.proofs.raptorq_c++kept++Coder+Destruct.drop.Reads as reads
use Rattle.raptorq_c.proofs.raptorq_c++kept++Coder+Destruct.drop.Symbol as symbol
use Rattle.raptorq_c.proofs.raptorq_c++kept++Coder+Destruct.drop.Met.{met}

abbrev pub T : RattleType
T = arg (bare (layout row)) no row

abbrev pub LT : Laws T
LT = arg_laws (bare (layout row)) no row row_laws refl

-- how it goes
abbrev pub dx : Dict
dx = impl ("raptorq_c::raptorq_c++kept++Coder+Destruct::drop" ∷ []) tnil dnil

abbrev pub E : Bx
E = boxed T LT

abbrev pub B : RattleType
B = box_of E

-- a coder goes by the drop that is derived of it
abbrev over : Ended
over = ended_of 0 drops.ps drops.r

pub coder_glue : {M : Type 1} (𝓤 : Ura M) (𝓛 : Logic 𝓤) (𝓜 : Model 𝓤 𝓛.H) (𝓡 : Running 𝓤 𝓛.H 𝓜) → Wired 𝓡.env symbol.code → Met 𝓛 𝓜 𝓡 𝓡.env T dx
coder_glue {M} 𝓤 𝓛 𝓜 𝓡 wired =
    let world : World = record { M = M; 𝓤 = 𝓤; 𝓛 = 𝓛; 𝓜 = 𝓜; 𝓡 = 𝓡 } in
    glue_by T LT world dx 𝓡.env (λ κs a. Lasts over tt a) (λ κs a. lasts over tt a) (λ κs a x ws. Fit over (stays drops.ps) tt a ws × reads.Learnt tt a x (at_exit over tt a ws)) (λ κs a. AllWithin 1 (κs.0, tt) (T.lives, tt) × Unit {0}) 0 tt (λ κs a h. ((h, tt), tt))
    (via_longer 𝓛 (Over 𝓛 𝓜 𝓡 𝓡.env) 1 (glue_ps T LT) r_unit (λ κs a. Lasts over tt a) (λ κs a. lasts over tt a) (λ κs a x ws. Fit over (stays drops.ps) tt a ws × reads.Learnt tt a x (at_exit over tt a ws)) (λ κs a. AllWithin 1 (κs.0, tt) (T.lives, tt) × Unit {0})
    (method dx 0 (layouts [] tt)) 0 tt (λ κs. tt) (λ κs a. reads.Asked tt a) (λ κs a p. (tt, tt))
    (λ κs bd within a vss qs. method_Known 0 drops.ps drops.r reads.requires reads.ensures reads.Asked reads.Learnt reads.known world symbol.name (method dx 0 (layouts [] tt)) (symbol.as_method 𝓡.env wired (method dx 0 (layouts [] tt)) refl) (met 𝓤 𝓛 𝓜 𝓡 wired) ((tt, qs, tt, a, vss), tt)))
