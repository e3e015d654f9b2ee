-- Rounds follow each other.
use Rattle.std.proofs.Common.{◌≡◌, inl, inr, ℕ, ◌+◌, ◌-◌, ◌*◌, ◌/◌, ◌%◌, ◌^◌, ◌<◌, ◌≤◌, if◌then◌else◌, sym, ap, subst, ◌∙◌, arith, mul-le-mul_right, div-add-mod'}
use Rattle.std.proofs.lemmas.Bool.{cases_lt, lt-ltb, le-ltb}
use Rattle.std.proofs.lemmas.Nat.{le-div, mod_below, mod-mul-add}
use Rattle.rq_cast.specs.Ids.{AreIds}
use Rattle.rq_cast.specs.Rounds.{ids_from, round_first}
use Rattle.rq_cast.specs.Laws.{FollowEachOther, RoundsFollow}
use Rattle.rq_cast.proofs.RoundIds.{all_from, some_fit, stretch_are}

module _ (first step count : ℕ) (some : 0 < step) (many : 0 < count) (are : AreIds first step count) where
  abbrev least : ℕ
  least = first % step

  abbrev fit : ℕ
  fit = ids_from first step / count

  abbrev cycle : ℕ
  cycle = ids_from least step / count

  some_first : 0 < fit
  some_first = some_fit step some count many first first (omega arith) are

  some_least : 0 < cycle
  some_least = some_fit step some count many first least (omega arith) are

  -- a stretch that is there fits behind others
  fits : (begin number : ℕ) → AreIds (begin + step * (number * count)) step count → number < ids_from begin step / count
  fits begin number there =
      let all : AreIds begin step ((number + 1) * count) = λ k below. each k below in
      let long = all_from step some begin ((number + 1) * count) all in
      let whole = le-div (number + 1) (ids_from begin step) count many long in
      omega (arith, whole)
    where
      each : (k : ℕ) → k < (number + 1) * count → begin + step * k < 2 ^ 24
      each k below =
          let last = there (count - 1) (omega (arith, many)) in
          let next : (number + 1) * count ≡ number * count + count = omega arith in
          let within : k ≤ number * count + (count - 1) = omega (arith, below, next, many) in
          let less : k * step ≤ (number * count + (count - 1)) * step = mul-le-mul_right step within in
          let parts : (number * count + (count - 1)) * step ≡ step * (number * count) + step * (count - 1) = omega arith in
          let turned : k * step ≡ step * k = omega arith in
          omega (arith, last, less, parts, turned)

  -- one more is a stretch further
  further : (begin number : ℕ) → begin + step * ((number + 1) * count) ≡ begin + step * (number * count) + step * count
  further begin number = omega arith

  first_of : (round : ℕ) → round < fit → round_first first step count round ≡ first + step * (round * count)
  first_of round below =
      ap (λ b. if b then first + step * (round * count) else least + step * ((round - fit) % cycle * count)) (lt-ltb round fit below)

  later_of : (round : ℕ) → fit ≤ round → round_first first step count round ≡ least + step * ((round - fit) % cycle * count)
  later_of round past =
      ap (λ b. if b then first + step * (round * count) else least + step * ((round - fit) % cycle * count)) (le-ltb round fit past)

  -- the remainder of one more
  next_mod : (j : ℕ) → j % cycle + 1 < cycle → (j + 1) % cycle ≡ j % cycle + 1
  next_mod j below =
      let split : j / cycle * cycle + j % cycle ≡ j = div-add-mod' j cycle in
      let more : j + 1 ≡ j / cycle * cycle + (j % cycle + 1) = omega (arith, split) in
      ap (λ k. k % cycle) more ∙ mod-mul-add (j / cycle) cycle (j % cycle + 1) below

  again_mod : (j : ℕ) → cycle ≤ j % cycle + 1 → (j + 1) % cycle ≡ 0
  again_mod j past =
      let split : j / cycle * cycle + j % cycle ≡ j = div-add-mod' j cycle in
      let less = mod_below j cycle some_least in
      let whole : (j / cycle + 1) * cycle ≡ j / cycle * cycle + cycle = omega arith in
      let more : j + 1 ≡ (j / cycle + 1) * cycle + 0 = omega (arith, split, less, past, whole) in
      ap (λ k. k % cycle) more ∙ mod-mul-add (j / cycle + 1) cycle 0 some_least

  abbrev at : ℕ → ℕ
  at round = round_first first step count round

  stretch_behind : (begin number here : ℕ) → here ≡ begin + step * (number * count) → AreIds (here + step * count) step count → number + 1 < ids_from begin step / count
  stretch_behind begin number here is there =
      fits begin (number + 1) (subst (λ id. AreIds id step count) (ap (λ h. h + step * count) is ∙ sym (further begin number)) there)

  unbehind : (begin number here : ℕ) → here ≡ begin + step * (number * count) → (AreIds (here + step * count) step count → ⊥) → ids_from begin step / count ≤ number + 1
  unbehind begin number here is none = elim (cases_lt (number + 1) (ids_from begin step / count)) [
    | inl below ↦
        absurd (none (subst (λ id. AreIds id step count) (further begin number ∙ ap (λ h. h + step * count) (sym is)) (stretch_are step some count many begin (number + 1) below)))
    | inr past ↦ past
  ]

  pub follow : FollowEachOther first step count
  follow = record {
    begins = first_of 0 some_first ∙ (omega arith);
    next = λ round there. elim (cases_lt round fit) [
      | inl below ↦
          let more = stretch_behind first round (at round) (first_of round below) there in
          first_of (round + 1) more ∙ further first round ∙ ap (λ h. h + step * count) (sym (first_of round below))
      | inr past ↦
          let j = round - fit in
          let more = stretch_behind least (j % cycle) (at round) (later_of round past) there in
          let is : round + 1 - fit ≡ j + 1 = omega (arith, past) in
          later_of (round + 1) (omega (arith, past))
          ∙ ap (λ k. least + step * (k % cycle * count)) is
          ∙ ap (λ k. least + step * (k * count)) (next_mod j more)
          ∙ further least (j % cycle) ∙ ap (λ h. h + step * count) (sym (later_of round past))
    ];
    again = λ round none. elim (cases_lt round fit) [
      | inl below ↦
          let past = unbehind first round (at round) (first_of round below) none in
          let is : round + 1 - fit ≡ 0 * cycle + 0 = omega (arith, past, below) in
          later_of (round + 1) past
          ∙ ap (λ k. least + step * (k % cycle * count)) is
          ∙ ap (λ k. least + step * (k * count)) (mod-mul-add 0 cycle 0 some_least) ∙ (omega arith)
      | inr past ↦
          let j = round - fit in
          let over = unbehind least (j % cycle) (at round) (later_of round past) none in
          let is : round + 1 - fit ≡ j + 1 = omega (arith, past) in
          later_of (round + 1) (omega (arith, past))
          ∙ ap (λ k. least + step * (k % cycle * count)) is
          ∙ ap (λ k. least + step * (k * count)) (again_mod j over) ∙ (omega arith)
    ];
  }

pub rounds_follow : RoundsFollow
rounds_follow first step count some many are = follow first step count some many are
