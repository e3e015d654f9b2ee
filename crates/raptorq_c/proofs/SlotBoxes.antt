-- A box of what is kept as the kit's calls on boxes see it, and what a pointer that C keeps owns.
use Rattle.std.proofs.Common.{◌≡◌, ℕ, List, [], ◌∷◌, refl, Option, Some, None}
use Rattle.raptorq_c.proofs.Walking.{bare, layout, arg, Laws, arg_laws, RattleType, Bx, box_of, boxed, full_share, never, fst∗, sem, Ptr, block_ptr, null_ptr, in_a_block, ghosts, box_owns, ‵, use1, ◌$◌, feq_l}
use mir.Syntax.{Dict, impl, tcons, tnil, dnil}
use seplogic.Ra.Ura.{Ura}
use base.Fml.{Fml}
use base.Logic.{via, snd∗, guard_i}
use types.Kit.{Item, Goal, Seq, given, learn}
use types.Logic.{Logic}
use contract.Monad.{fact_use}
use denote.Exit.{no}
use denote.RawPtr.{Testable, lies_at}
use Rattle.std.proofs.GlobalToken.{dealloc_token-Testable}
use Rattle.raptorq_c.specs.Kept.{heap}
use Rattle.raptorq_c.specs.Slot.{slot_at}
use Rattle.raptorq_c.specs.declared.kept.Kept.{Kept}
pub use Rattle.raptorq_c.specs.contracts.kept.Kept.{the_row as row}
pub use Rattle.raptorq_c.proofs.kept.Kept.TheLaws.{the_row_laws as row_laws, the_within as row_within}

abbrev pub T : RattleType
T = arg (bare (layout row)) no row

abbrev pub LT : Laws T
LT = arg_laws (bare (layout row)) no row row_laws refl

-- how it goes
abbrev pub dx : Dict
dx = impl ("raptorq_c::Destruct++none::drop" ∷ []) (tcons (layout T) tnil) dnil

abbrev pub E : Bx
E = boxed T LT

abbrev pub B : RattleType
B = box_of E

abbrev pub owned_box : Ptr → Kept → Fml
owned_box p kept = box_owns (ghosts.dealloc_token heap) row p kept

module _ {M : Type 1} {𝓤 : Ura M} {𝓛 : Logic 𝓤} {K : Type 0} {Γ : List (Item 𝓤)} {G : Goal 𝓤 𝓛.H} where
  -- a step of a walk: the pointer is null and owns nothing, or a box's, and may be compared with null
  pub null_or_box : K → (p : Ptr) (value : Option Kept) → (p ≡ null_ptr → value ≡ None → Seq K 𝓛 Γ G)
      → ((b o : ℕ) (kept : Kept) → p ≡ block_ptr b o → value ≡ Some kept → Testable (block_ptr b o) → Seq K 𝓛 (‵ (owned_box (block_ptr b o) kept) ∷ Γ) G) → Seq K 𝓛 (‵ (slot_at p value) ∷ Γ) G
  null_or_box t p None null boxed_at = feq_l t (λ e. null e refl)
  null_or_box t p (Some kept) null boxed_at =
      let token : Ptr → Fml = λ q. ghosts.dealloc_token heap (bare (layout row)) q in
      in_a_block t p (λ q. owned_box q kept) (fst∗ 𝓤 (never 𝓤) (sem 𝓛 (token null_ptr))) (λ b o e.
      let q = block_ptr b o in let there = sem 𝓛 (lies_at row full_share q kept) in
      use1 𝓛 (given (Testable q) (‵ (owned_box q kept))) (fact_use 𝓤 (Testable q) (via 𝓤 (sem 𝓛 (token q)) (snd∗ 𝓤 there (sem 𝓛 (token q))) (dealloc_token-Testable 𝓛 heap (bare (layout row)) q)) (guard_i 𝓤 (Testable q) (sem 𝓛 (owned_box q kept)))) $
      learn t (λ tested. boxed_at b o kept e refl tested))
