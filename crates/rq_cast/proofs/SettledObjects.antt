-- Which part an object is behind parts of some names.
use Rattle.std.proofs.Common.{◌≡◌, ◌≢◌, ℕ, List, [], ◌∷◌, ◌++◌, length, take, Bool, true, false, Option, Some, None, sym, ap, subst, ◌∙◌, arith, take_all}
use Rattle.rq_cells.specs.declared.head.Head.{Head}
use Rattle.rq_cast.specs.declared.names.Names.{Names}
use Rattle.rq_cast.specs.Names.{AreNames}
use Rattle.rq_cast.specs.Parts.{name_of_part, number_of, seal_of, stream_of_names}
use Rattle.rq_cast.specs.Settling.{IsPartWhere}

module _ (names : Names) (h : Head) (object : List ℕ) where
  abbrev Behind : Option (Bool × ℕ) → Type 0
  Behind o = (before : List (List ℕ)) → AreNames before names → IsPartWhere before h object o

  -- it has another number
  pub other_number : ((is_last : Bool) → h.number ≢ number_of is_last names.count) → Behind None
  other_number apart before are is_last bytes part = apart is_last (subst (λ n. h.number ≡ number_of is_last n) (sym are.count) part.number)

  -- or another stream
  pub other_stream : (stream : List ℕ) → ((before : List (List ℕ)) → AreNames before names → stream ≡ stream_of_names (before ++ (h.name ∷ [])))
      → h.stream ≢ stream → Behind None
  other_stream stream streamed apart before are is_last bytes part = apart (part.stream ∙ sym (streamed before are))

  module _ (named : name_of_part h.number h.configuration object ≡ h.name) (stream : List ℕ)
      (streamed : (before : List (List ℕ)) → AreNames before names → stream ≡ stream_of_names (before ++ (h.name ∷ []))) (same : h.stream ≡ stream) where
    -- a part that isn't the last one is all its bytes
    pub inner_part : h.number ≡ number_of false names.count → Behind (Some (false, length object))
    inner_part number before are = record {
      number = subst (λ n. h.number ≡ number_of false n) are.count number;
      stream = same ∙ streamed before are;
      named = named;
      ended = sym (take_all (length object) object (omega arith));
    }

    -- the last one ends with the seal
    module _ (number : h.number ≡ number_of true names.count) (seal : List ℕ) (sealed : (before : List (List ℕ)) → AreNames before names → seal ≡ seal_of before) where
      pub last_part : (n : ℕ) → object ≡ take n object ++ seal → Behind (Some (true, n))
      last_part n ends before are = record {
        number = subst (λ n. h.number ≡ number_of true n) are.count number;
        stream = same ∙ streamed before are;
        named = named;
        ended = ends ∙ ap (λ xs. take n object ++ xs) (sealed before are);
      }

      pub other_seal : ((bytes : List ℕ) → object ≢ bytes ++ seal) → Behind None
      other_seal apart before are true bytes part = apart bytes (part.ended ∙ ap (λ xs. bytes ++ xs) (sym (sealed before are)))
      other_seal apart before are false bytes part =
          absurd (omega (arith, number, subst (λ n. h.number ≡ number_of false n) (sym are.count) part.number))
