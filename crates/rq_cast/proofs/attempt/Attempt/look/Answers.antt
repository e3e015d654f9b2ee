use Rattle.std.proofs.Common.{◌≡◌, ℕ, List, Option, Some, None, true, false, refl, sym, ◌∙◌, Vec, Global}
use Rattle.std.specs.Prelude.{IfSome, IsSome, is_some, option_map, vec_items}
use Rattle.rq_standard.specs.DecoderState.{result_of}
use Rattle.raptorq.specs.Decoder.{state_of}
use Rattle.rq_cells.specs.declared.head.Head.{Head}
use Rattle.rq_cast.specs.declared.attempt.Attempt.{Attempt}
use Rattle.rq_cast.specs.Taken.{IsNotNamed, IsNamedIn}
use Rattle.rq_cast.specs.PartReceiving.{IsUnlooked, LooksAt}
use Rattle.rq_cast.proofs.attempt.Attempt.look.Goals as goal

-- its object is determined already
still_is : (h : Head) (answer : Option (List ℕ)) (o : Option (Vec ℕ Global)) → is_some o ≡ true
    → IfSome (option_map vec_items o) (λ xs. IsNamedIn h answer (Some xs)) → IsNamedIn h answer (option_map vec_items o)
still_is h answer None is so = absurd (cc is)
still_is h answer (Some v) is so = so

-- or no object is yet
none_yet : (h : Head) (answer : Option (List ℕ)) (o : Option (Vec ℕ Global)) → is_some o ≡ false → is_some answer ≡ false
    → IsNamedIn h answer (option_map vec_items o)
none_yet h None None is none = λ object some named. absurd (cc some)
none_yet h (Some xs) None is none = absurd (cc none)
none_yet h answer (Some v) is none = absurd (cc is)

module _ (h : Head) (old : Attempt) (u : IsUnlooked h old) where
  not_named_in : (answer : Option (List ℕ)) → IsSome answer → IsNotNamed h answer → (object : List ℕ) × (answer ≡ Some object) × IsNotNamed h (Some object)
  not_named_in None some none = absurd (cc some)
  not_named_in (Some object) some none = (object, refl, none)

  looks : IsSome (result_of (state_of old.decoder)) → (o : Option (Vec ℕ Global))
      → IsNamedIn h (result_of (state_of old.decoder)) (option_map vec_items o) → LooksAt h old (record old { object = o }) (is_some o)
  looks some None is = not_named_in (result_of (state_of old.decoder)) some is
  looks some (Some v) is = (record { few = u.few; configuration = u.configuration; knows = u.knows; object = is }, refl)

pub returns-then-is_some-clause-looks : goal.returns-then-is_some-clause-looks
returns-then-is_some-clause-looks c =
    let u = c.requires in
    let old = c.args.self.now in (
      record {
        few = u.few;
        configuration = u.configuration;
        knows = u.knows;
        object = still_is c.args.head.now (result_of (state_of old.decoder)) old.object (sym c.is_some.ensures ∙ c.if-is_some.true) u.object;
      },
      refl,
    )
