-- What walks by hand are written with, and boxes on the heap as the kit's calls see them.
use Rattle.std.proofs.Common.{◌≡◌, List, [], ◌∷◌, ◌++◌, refl, ◌∙◌, lit<}
use mir.Syntax.{Dict, impl, tcons, tnil, dnil, ty_ptr, ty_struct}
use mir.Val.{vstruct, vcons, vnil, of_list}
use seplogic.Ra.Ura.{Ura}
use base.Logic.{ent}
use base.Fml.{Fml}
use types.Logic.{Logic}
use denote.RawPtr.{ptr_val}
use denote.Shadow.{shadow, makes_shadow}
use denote.Struct.Struct.{Struct}
pub use mir.Raw.{raw as bare}
pub use mir.Val.{Val, vptr}
pub use base.Fraction.{full_share}
pub use base.Logic.{SProp, emp, never, id⊢, fst∗}
pub use base.Fml.{ftrue, flft}
pub use prog.Wp.{WpFn}
pub use types.Logic.{sem}
pub use types.Kit.{‵, raw, ◌⊛◌, some, later, prop, at_ret, ◌$◌, ◌∵◌, !, qed, by, move, keep, drop, split, split3, join, fsplit, fjoin, pick, regoal, use0, use1, await, rewrite, feq_i, feq_l}
pub use types.Run.{stop, fld, of_opd, no_more, and_then, first, blocks, exec, returns, enter, lit}
pub use types.ByLocal.{alloc_all, pass_all, free_all, look_at, get, get_in, sets, lands_last, env, lands_as}
pub use types.Part.{sub, whole, agg}
pub use contract.Monad.{fact, fact_i}
pub use contract.BorrowLft.{◌⊑◌}
pub use contract.Running.{tables}
use denote.Exit.{no}
pub use denote.Exit.{yes}
pub use denote.RattleType.{owns, RattleType}
pub use denote.Signature.{types_at, plain}
pub use denote.RawPtr.{Ptr, block_ptr, null_ptr, in_a_block, RawPtr}
pub use denote.Steps.{nothing, only, heard}
pub use denote.Param.{layout, arg}
pub use denote.Param.Laws.{Laws, arg_laws}
pub use denote.Param.NoDrop.{glues}
pub use denote.Triple.Clauses.{Lasts, lasts}
pub use denote.Triple.Entry.{alive}
pub use denote.Triple.Spec.{triple_of}
pub use denote.Triple.Call.{calls_at_last, calls_at}
pub use denote.Triple.Table.{framed}
pub use denote.Triple.Walked.{Stays, stay_dropped, walk_of}
pub use Rattle.std.proofs.alloc.Calls.{Goes-blank}
pub use Rattle.std.proofs.cell.Inside.{Good, one}
pub use Rattle.std.proofs.raw_atomic.Walks.{proved_at, leaves}
pub use Rattle.std.specs.contracts.impls.GlobalAllocator.TheImpl.{ghosts, dict}
pub use Rattle.std.proofs.impls.GlobalAllocator.TheImpl.Met.{passed}
pub use Rattle.rq_standard.proofs.OptionValues.{value_of}
pub use Rattle.std_alloc.specs.Box.Ownership.{box_owns}
pub use Rattle.std_alloc.proofs.BoxSteps.Steps.{box_out, box_in}
pub use Rattle.std.specs.contracts.alloc.Global.{the_row as heap_row}
pub use Rattle.std.proofs.alloc.Global.TheLaws.{the_row_laws as heap_laws, the_within as heap_within}
pub use Rattle.std_alloc.specs.contracts.boxed.Box.{the_row as box_row}
pub use Rattle.std_alloc.proofs.BoxSteps.Form.{Bx, B as box_of, word as box_word, box_typed}

abbrev pub A : RattleType
A = arg (bare (layout heap_row)) no heap_row

abbrev pub LA : Laws A
LA = arg_laws (bare (layout heap_row)) no heap_row heap_laws refl

-- how the allocator goes
abbrev pub dd : Dict
dd = impl ("raptorq_c::Destruct++none::drop" ∷ []) (tcons (layout A) tnil) dnil

abbrev pub boxed : (T : RattleType) → Laws T → Bx
boxed T LT = record { row = T; laws = LT; al = record { row = A; laws = LA; g = ghosts; d = dict; drops = dd } }

-- ---- a struct of one pointer

abbrev pub word : Ptr → Val
word p = vstruct (vcons (ptr_val p) vnil)

abbrev pub field_own : Ptr → List Val → Fml
field_own p = (Struct (record { name = []; args = []; types = []; fields = RawPtr ∷ [] })).own_val (p, tt)

pub ptr_typed : (p : Ptr) → Good ty_ptr (ptr_val p)
ptr_typed (block_ptr b o) = (tt, tt)
ptr_typed null_ptr = (tt, record { fits = lit< tt })

pub word_typed : (p : Ptr) → Good (ty_struct [] (tcons ty_ptr tnil)) (word p)
word_typed (block_ptr b o) = (tt, (tt, tt))
word_typed null_ptr = (tt, (record { fits = lit< tt }, tt))

pub told : (p : Ptr) (vs : List Val) → shadow (field_own p vs) → vs ≡ word p ∷ []
told p vs s = s.1.0 ∙ (λ i. vstruct (of_list (s.1.1.0 i ++ [])) ∷ [])

pub made : {M : Type 1} {𝓤 : Ura M} (𝓛 : Logic 𝓤) (p : Ptr) → ent 𝓤 (emp 𝓤) (sem 𝓛 (field_own p (word p ∷ [])))
made 𝓛 p = makes_shadow 𝓛 (field_own p (word p ∷ [])) (λ _. (tt, (tt, tt))) ((ptr_val p ∷ [], tt), (refl, (refl, tt)))
