use Rattle.std.proofs.Common.{◌≡◌, ℕ, ◌+◌, ◌≤◌, arith, rules, Bool, true, false, List, length, Some, refl, sym, ap, subst, ◌∙◌, nat_eq}
use Rattle.std.proofs.Math.Bool.{beq}
use Rattle.std.specs.Prelude.{slice_get}
use Rattle.std.specs.Cmp.Lexicographic.{same_text, other_text}
use Rattle.std.proofs.lemmas.Option.{slice_get_read, slice_get_within}
use Rattle.rq_cast.proofs.known.Known.has.Goals as goal
use Rattle.rq_cast.proofs.known.Known.has.Goals.{In-Some}

beq_same : (a b : Bool) → a ≡ b → beq a b ≡ true
beq_same true true is = refl
beq_same true false is = sym is
beq_same false true is = is
beq_same false false is = refl

same_beq : (a b : Bool) → beq a b ≡ true → a ≡ b
same_beq true true is = refl
same_beq true false is = sym is
same_beq false true is = is
same_beq false false is = refl

module _ (c : In-Some) where
  abbrev names : List (List ℕ)
  names = c.args.self.now.names.items

  deref : c.deref.result.now ≡ names
  deref = c.deref.ensures.value

  -- there is a name
  there : slice_get names c.args.index ≡ Some c.in-Some.known.now
  there =
      subst (λ xs. slice_get xs c.args.index ≡ Some c.in-Some.known.now) deref
      (slice_get_read c.deref.result.now (length c.deref.result.now) c.args.index c.in-Some.known.now refl c.in-Some.ensures.lookup.3.0 c.in-Some.ensures.lookup.1)

pub returns-then-eq : goal.returns-then-eq
returns-then-eq c =
    let moved = (goal.at.returns-then-eq c).In-Some in
    let same = same_text c.in-Some.known.now c.args.name.now (sym c.if-eq.true ∙ c.eq.ensures) in
    let size : c.len.result ≡ length c.args.self.now.names.items = search rules in
    let long : nat_eq (c.args.index + 1) c.len.result ≡ nat_eq (c.args.index + 1) (length c.args.self.now.names.items) =
    ap (nat_eq (c.args.index + 1)) size in (
      λ is later. (there moved ∙ ap (λ (x : List ℕ). Some x) same, same_beq c.args.is_last (nat_eq (c.args.index + 1) c.len.result) is ∙ long),
      λ known. beq_same c.args.is_last (nat_eq (c.args.index + 1) c.len.result) ((known c.requires).1 ∙ sym long),
    )

pub returns-else-eq : goal.returns-else-eq
returns-else-eq c =
    let moved = (goal.at.returns-else-eq c).In-Some in
    let other = other_text c.in-Some.known.now c.args.name.now (sym c.if-eq.false ∙ c.eq.ensures) in (
      λ is. absurd (cc (is, c.if-eq.false)),
      λ known. absurd (other (cc (there moved, (known c.requires).0))),
    )

pub returns-in-None : goal.returns-in-None
returns-in-None c = (
  λ is. absurd (cc is),
  λ known.
      let within = slice_get_within c.args.self.now.names.items c.args.index c.args.name.now (known c.requires).0 in
      let past = subst (λ (xs : List (List ℕ)). length xs ≤ c.args.index) c.deref.ensures.value c.in-None.ensures.lookup.3 in
      absurd (omega (arith, within, past)),
)
