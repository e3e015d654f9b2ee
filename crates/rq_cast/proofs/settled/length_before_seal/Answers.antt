use Rattle.std.proofs.Common.{◌≡◌, ◌≢◌, ◌+◌, ◌-◌, ◌++◌, refl, ap, sym, subst, ◌∙◌, length, take, drop, arith, IfSome, None, Bool, true, false, List, ℕ}
use Rattle.std.specs.Bool.{then_some}
use Rattle.std.specs.List.{starts_with}
use Rattle.std.specs.Prelude.{nat_eq}
use Rattle.std.proofs.lemmas.List.{take_rest}
use Rattle.rq_cells.proofs.Beginnings.{begins, refuted}
use Rattle.rq_cast.proofs.EndsWith.{ends_with, starts_at_end, is_as_long}
use Rattle.rq_cast.proofs.settled.length_before_seal.Goals as goal
use Rattle.rq_cast.proofs.settled.length_before_seal.Goals.{After-then_some}

pub returns-then-object-lt-SEAL_LENGTH-clause-none : goal.returns-then-object-lt-SEAL_LENGTH-clause-none
returns-then-object-lt-SEAL_LENGTH-clause-none c =
    λ none bytes is. absurd (omega (arith, c.if-object-lt-SEAL_LENGTH.true, is_as_long c.args.object.now bytes c.args.seal.now is))

module _ (c : After-then_some) where
  abbrev object : List ℕ
  object = c.args.object.now

  abbrev ending : List ℕ
  ending = c.args.seal.now

  abbrev place : ℕ
  place = length object - 32

  all : place + length ending ≡ length object
  all = omega (arith, c.if-object-lt-SEAL_LENGTH.false)

  test : c.starts_with.result ≡ starts_with nat_eq (drop place object) ending
  test = c.starts_with.ensures.value ∙ ap (λ xs. starts_with nat_eq xs ending) (take_rest object place)

  some : (b : Bool) → c.starts_with.result ≡ b → IfSome (then_some b place) (λ n. object ≡ take n object ++ ending)
  some true e = ends_with object ending place all (begins (drop place object) ending (sym test ∙ e))
  some false e = tt

  none : (b : Bool) → c.starts_with.result ≡ b → then_some b place ≡ None → (bytes : List ℕ) → object ≢ bytes ++ ending
  none true e is = absurd (cc is)
  none false e is = λ bytes ends. refuted (drop place object) ending (sym test ∙ e) (starts_at_end object ending place all bytes ends)

pub returns-clause-some : goal.returns-clause-some
returns-clause-some c =
    let at = (goal.at.returns-clause-some c).After-then_some in
    subst (λ r. IfSome r (λ n. c.args.object.now ≡ take n c.args.object.now ++ c.args.seal.now)) (sym c.then_some.ensures) (some at c.starts_with.result refl)

pub returns-clause-none : goal.returns-clause-none
returns-clause-none c =
    let at = (goal.at.returns-clause-none c).After-then_some in
    λ is. none at c.starts_with.result refl (sym c.then_some.ensures ∙ is)
