use Rattle.std.proofs.Common.{ℕ, ◌+◌, ◌-◌, ◌*◌, ◌/◌, ◌%◌, ◌^◌, ◌<◌, ◌≤◌, sym, subst, arith, mul-le-mul_left, mul-le-mul_right}
use Rattle.std.proofs.lemmas.Nat.{mod_below}
use Rattle.rq_cast.specs.Ids.{AreIds}
use Rattle.rq_cast.specs.Rounds.{ids_from}
use Rattle.rq_cast.proofs.RoundIds.{stretch_are, some_fit}
use Rattle.rq_cast.proofs.series.Series.in_round.Goals as goal
use Rattle.rq_cast.proofs.series.Series.in_round.Goals.{Joined-round-fit, then-round-fit, else-round-fit}

pub nonzero_rem-begin : goal.nonzero_rem-begin
nonzero_rem-begin c =
    let s = c.args.self in
    let some = some_fit s.step c.requires s.count (omega arith) s.first (s.first % s.step) (omega arith) s.ids in
    omega (arith, some, c.stretches_from.ensures)

module _ (c : Joined-round-fit) where
  abbrev step : ℕ
  step = c.args.self.step

  abbrev count : ℕ
  count = c.args.self.count

  abbrev begin : ℕ
  begin = c.if-round-fit.begin.0

  abbrev number : ℕ
  number = c.if-round-fit.begin.1

  some : 0 < count
  some = omega arith

  -- the stretch fits
  below : number < ids_from begin step / count
  below = elim c.if-round-fit.branch [
    | then-round-fit w ↦
        subst (λ (b : ℕ × ℕ). b.1 < ids_from b.0 step / count) (sym w.begin-is) (omega (arith, w.if-round-fit.true, c.stretches_from-fit.ensures))
    | else-round-fit w ↦
        let s = c.args.self in
        let fit = some_fit step c.requires count some s.first (s.first % step) (omega arith) s.ids in
        let less = mod_below (c.args.round - c.stretches_from-fit.result) w.stretches_from.result (omega (arith, fit, w.stretches_from.ensures)) in
        subst (λ (b : ℕ × ℕ). b.1 < ids_from b.0 step / count) (sym w.begin-is) (omega (arith, less, w.stretches_from.ensures))
  ]

  ids : AreIds (begin + step * (number * count)) step count
  ids = stretch_are step c.requires count some begin number below

  first : begin + step * (number * count) < 2 ^ 24
  first = omega (arith, ids 0 some)

  -- what is skipped is no more than what that is
  skipped : number * count ≤ step * (number * count)
  skipped =
      let least : 1 * (number * count) ≤ step * (number * count) = mul-le-mul_right (number * count) (omega (arith, c.requires)) in omega (arith, least)

pub overflow_cast-skipped : goal.overflow_cast-skipped
overflow_cast-skipped c =
    let least : number c * 1 ≤ number c * count c = mul-le-mul_left (number c) (omega (arith, some c)) in
    omega (arith, least, skipped c, first c)

pub overflow_mul-skipped : goal.overflow_mul-skipped
overflow_mul-skipped c = omega (arith, skipped c, first c)

pub overflow_mul-result : goal.overflow_mul-result
overflow_mul-result c = omega (arith, first c)

pub overflow_add-result : goal.overflow_add-result
overflow_add-result c = omega (arith, first c)

pub invariant_of-result : goal.invariant_of-result
invariant_of-result c = record { few = c.args.self.few; ids = ids c }
