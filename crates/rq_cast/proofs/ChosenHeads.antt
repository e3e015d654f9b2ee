-- Which heads there may be behind a cell with another head.
use Rattle.std.proofs.Common.{◌≡◌, List, Bool, true, false, Option, Some, None, Result, Ok, Err, refl, sym, subst, inl, inr}
use Rattle.std.specs.Prelude.{◌⊎◌, IfSome, MatchOption, is_err}
use Rattle.rq_bytes.specs.declared.error.Error.{Error}
use Rattle.rq_standard.specs.declared.row.TableRow.{TableRow}
use Rattle.rq_cells.specs.declared.head.Head.{Head}
use Rattle.rq_cast.specs.declared.choice.Choice.{Choice}
use Rattle.rq_cast.specs.declared.choice.Rival.{Rival}
use Rattle.rq_cast.specs.Taken.{IsTakenHead}
use Rattle.rq_cast.specs.PartReceiving.{EachHead, IsHeadBehind}

pub not_refused : (r : Result (Unit {0}) Error) → is_err r ≡ false → r ≡ Ok tt
not_refused (Ok u) is = refl
not_refused (Err e) is = absurd (cc is)

-- what a head that there was is
abbrev IsRivalOf : Option Rival → Head → Type 0
IsRivalOf o k = MatchOption o ⊥ (λ old. k ≡ old.head)

module _ (table : List TableRow) (old : Choice) (h : Head) where
  -- those that there were
  pub heads_still : EachHead (IsHeadBehind table old h) old
  heads_still = (inl refl, by old.rival refl)
    where
      by : (o : Option Rival) → old.rival ≡ o → IfSome o (λ r. IsHeadBehind table old h r.head)
      by None is = tt
      by (Some r) is = inr (inl (subst (λ (x : Option Rival). IsRivalOf x r.head) (sym is) refl))

  module _ (taken : IsTakenHead table h) where
    next_rival : (o : Option Rival) → IfSome o (λ r. (r.head ≡ h) ⊎ IsRivalOf old.rival r.head) → IfSome o (λ r. IsHeadBehind table old h r.head)
    next_rival None is = tt
    next_rival (Some r) (inl same) = inr (inr (same, taken))
    next_rival (Some r) (inr was) = inr (inl was)

    old_rival : (o : Option Rival) → IfSome o (λ r. r.head ≡ old.head) → IfSome o (λ r. IsHeadBehind table old h r.head)
    old_rival None is = tt
    old_rival (Some r) is = inl is

    -- and that one, whether it is in use now or not
    module _ (rival : Option Rival) (next : IfSome rival (λ r. (r.head ≡ h) ⊎ IsRivalOf old.rival r.head)) (new : Choice) where
      abbrev middle : Choice
      middle = record old { rival = rival }

      pub heads_behind : (b : Bool) → (b ≡ false → new ≡ middle) → (b ≡ true → new.head ≡ h) → (b ≡ true → IfSome new.rival (λ r. r.head ≡ old.head))
          → EachHead (IsHeadBehind table old h) new
      heads_behind false same changed was = subst (EachHead (IsHeadBehind table old h)) (sym (same refl)) (inl refl, next_rival rival next)
      heads_behind true same changed was = (inr (inr (changed refl, taken)), old_rival new.rival (was refl))
