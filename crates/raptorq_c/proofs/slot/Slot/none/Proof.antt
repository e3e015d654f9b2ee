-- `none` holds a null pointer, which owns nothing.
use Rattle.std.proofs.Common.{◌≡◌, [], ◌∷◌, refl, Option, None}
use Rattle.raptorq_c.proofs.Walking.{Val, SProp, emp, ftrue, fact, fact_i, tables, ‵, raw, ◌⊛◌, ◌$◌, ◌∵◌, !, qed, by, move, use0, split, drop, fjoin, feq_i, agg, lit, no_more, and_then, returns, enter, alloc_all, pass_all, free_all, look_at, sets, owns, Ptr, null_ptr, types_at, alive, walk_of, proved_at, leaves, word, word_typed, field_own, made}
use Rattle.raptorq_c.specs.declared.kept.Kept.{Kept}
use Rattle.raptorq_c.specs.contracts.slot.Slot.none.{ended, clauses, Key.name as #self}
use Rattle.raptorq_c.proofs.slot.Slot.none.Statement.{statement}
use Rattle.raptorq_c.proofs.slot.Slot.none.Code as compiled

abbrev none : Option Kept
none = None

pub none_spec : {M : Type 1} → statement M
none_spec 𝓤 𝓛 𝓜 𝓡 wired =
    let c = clauses 𝓛 𝓜.mem 𝓡.returns in let 𝓣 = tables 𝓤 𝓛.H 𝓜 𝓡 𝓡.env in
    proved_at 𝓛 ended tt c 𝓜 𝓡 tt #self compiled.function (compiled.unfolded 𝓤 𝓛.H 𝓜 𝓡 wired) (λ z are.
    let Post : Val → SProp 𝓤 = (walk_of 𝓛 ended tt c).post z in
    qed 𝓛 ((raw (alive 𝓛 ended.signature z.0.0 z.0.1) ⊛ ‵ (owns (types_at ended.signature.params z.0.0) z.0.3 z.0.4)) ∷ ‵ ftrue ∷ []) ∵
    enter ! 𝓣.C 𝓣.Λ compiled.function [] Post $ alloc_all ! (λ l. pass_all ! refl tt $
    sets ! (agg ! (and_then ! (lit ! tt) (no_more !))) refl (word_typed null_ptr) $
    returns ! (look_at ! 0 refl) $ free_all ! refl $ split ! $
    -- [what is alive; no parameters; no premise]
    use0 𝓛 (‵ (field_own null_ptr (word null_ptr ∷ []))) (made 𝓛 null_ptr) $ feq_i ! Ptr null_ptr null_ptr refl $ move ! (1 ∷ 0 ∷ []) $ fjoin ! $ move ! (2 ∷ []) $ drop ! $
    use0 𝓛 (raw (fact 𝓤 (none ≡ none))) (fact_i 𝓤 (none ≡ none) (emp 𝓤) refl) $
    move ! (2 ∷ 3 ∷ 1 ∷ 0 ∷ []) $
    by ! (leaves 𝓛 ended tt c z (word null_ptr) (record { at = null_ptr; value = none }) tt tt)))
