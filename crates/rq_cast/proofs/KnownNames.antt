-- Names of parts that are known from an earlier round.
use Rattle.std.proofs.Common.{◌≡◌, ℕ, ◌+◌, Bool, List, [], ◌∷◌, ◌++◌, length, Some, refl, sym, ap, subst, ◌∙◌, append-nil, append_assoc}
use Rattle.std.specs.Prelude.{◌==◌, slice_get}
use Rattle.rq_cast.specs.declared.known.Known.{Known}
use Rattle.rq_cast.specs.declared.known.Stage.{Stage}
use Rattle.rq_cast.specs.declared.known.Stage.TheVariants.{Alone, First, Later}
use Rattle.rq_cast.specs.Rounds.{IsAsKnown, KeepsNames, KnowsAll, kept_in, next_stage}

-- none more
kept_none : (s : Stage) (before : List (List ℕ)) → kept_in s before [] ≡ before
kept_none Alone before = refl
kept_none First before = append-nil before
kept_none Later before = refl

kept_twice : (s : Stage) (before some more : List (List ℕ)) → kept_in s (kept_in s before some) more ≡ kept_in s before (some ++ more)
kept_twice Alone before some more = refl
kept_twice First before some more = append_assoc before some more
kept_twice Later before some more = refl

pub keeps_none : (k : Known) → KeepsNames k [] k
keeps_none k = record { stage = refl; kept = sym (kept_none k.stage k.names.items) }

module _ (old mid : Known) (names : List (List ℕ)) (kept : KeepsNames old names mid) where
  -- one more
  pub keeps_more : (new : Known) (name : List ℕ) → KeepsNames mid (name ∷ []) new → KeepsNames old (names ++ (name ∷ [])) new
  keeps_more new name more = record {
    stage = more.stage ∙ kept.stage;
    kept = more.kept ∙ (λ j. kept_in (kept.stage j) (kept.kept j) (name ∷ [])) ∙ kept_twice old.stage old.names.items names (name ∷ []);
  }

  -- what is known from an earlier round stays
  same_names : old.stage ≡ Later → mid.names.items ≡ old.names.items
  same_names later = kept.kept ∙ ap (λ s. kept_in s old.names.items names) later

  abbrev IsIn : ℕ → Bool → List ℕ → List (List ℕ) → Type 0
  IsIn index is_last name known = (slice_get known index ≡ Some name) × (is_last ≡ (index + 1 == length known))

  pub known_before : (index : ℕ) (is_last : Bool) (name : List ℕ) → IsAsKnown mid index is_last name → IsAsKnown old index is_last name
  known_before index is_last name is later = subst (IsIn index is_last name) (same_names later) (is (kept.stage ∙ later))

  pub known_now : (index : ℕ) (is_last : Bool) (name : List ℕ) → IsAsKnown old index is_last name → IsAsKnown mid index is_last name
  known_now index is_last name is later =
      let early : old.stage ≡ Later = sym kept.stage ∙ later in subst (IsIn index is_last name) (sym (same_names early)) (is early)

  -- behind the last one
  pub knows_all : (behind : Known) → behind.stage ≡ next_stage mid.stage → behind.names.items ≡ mid.names.items → KnowsAll old names behind
  knows_all behind stage same = record { stage = stage ∙ ap next_stage kept.stage; kept = same ∙ kept.kept }
