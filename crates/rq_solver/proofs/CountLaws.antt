-- How many additions are recorded at most.
use Rattle.std.proofs.Common.{add-one, zero-add, ◌≡◌, ◌≢◌, ℕ, zero, suc, ◌+◌, ◌-◌, ◌*◌, ◌<◌, ◌≤◌, refl, sym, ap, ◌∙◌, arith, inl, inr}
use Rattle.std.proofs.lemmas.Bool.{cases_eq, cases_lt}
use Rattle.std.proofs.Math.Nat.{mul-le-mul_left, mul-le-mul_right}
use Rattle.rq_algebra.specs.Arrangements.{ArePlaces}
use Rattle.rq_algebra.specs.Changes.{with_at}
use Rattle.rq_algebra.proofs.ChangeLaws.{with_at_same, with_at_other}
use Rattle.rq_algebra.proofs.Places.{more_places}
use Rattle.rq_elimination.specs.OperationCounts.{beyond_one, multiples, multiples-none, multiples-more, triangle, triangle-none, triangle-more}
use Rattle.rq_solver.specs.HdpcOctets.{hdpc_bound}

-- n different places below the bound were met among the first t of these
pub record HasMet (bound : ℕ) (place : ℕ → ℕ) (t n : ℕ) : Type 0 where
  pub which : ℕ → ℕ
  pub are : ArePlaces n bound which
  pub met : (s : ℕ) → s < n → (q : ℕ) × (q < t) × (place q ≡ which s)

module _ (bound : ℕ) (place : ℕ → ℕ) where
  pub met_none : HasMet bound place 0 0
  met_none = record {
    which = λ s. 0;
    are = record { below = λ s l. absurd (omega arith); apart = λ s r l m e. omega arith };
    met = λ s l. absurd (omega arith);
  }

  module _ (t n : ℕ) (has : HasMet bound place t n) where
    pub met_skipped : HasMet bound place (t + 1) n
    met_skipped = record {
      which = has.which;
      are = has.are;
      met = λ s l. let q = has.met s l in (q.0, (let early = q.1 in omega arith), q.2);
    }

    further : ((q : ℕ) → q < t → place q ≢ place t) → (s : ℕ) → s < n → has.which s ≢ place t
    further fresh s l e = let q = has.met s l in fresh q.0 q.1 (q.2 ∙ e)

    -- the next one is a further place
    pub met_more : place t < bound → ((q : ℕ) → q < t → place q ≢ place t) → HasMet bound place (t + 1) (n + 1)
    met_more below fresh = record {
      which = with_at has.which n (place t);
      are = rw (add-one n) (more_places n bound has.which (place t) has.are below (further fresh));
      met = λ s l. elim (cases_eq s n) [
        | inl e ↦ (t, (omega arith), sym (with_at_same has.which n (place t) s e))
        | inr d ↦ let q = has.met s (omega arith) in (q.0, (let early = q.1 in omega arith), q.2 ∙ sym (with_at_other has.which n (place t) s d))
      ];
    }

-- ---- sums of what the phases add

pub one_turn_more : (each before now turn t : ℕ) → now ≤ before + t * each → turn ≤ now + each → turn ≤ before + (t + 1) * each
one_turn_more each before now turn t l m = omega arith

-- the HDPC rows
pub hdpc_sum : (k count width done met pivots : ℕ) → done ≤ width → met ≤ pivots → k + (done * k + count * met) ≤ k * (1 + width) + count * pivots
hdpc_sum k count width done met pivots l m =
    let columns : done * k ≤ width * k = mul-le-mul_right k l in
    let rows : count * met ≤ count * pivots = mul-le-mul_left count m in
    omega (arith, columns, rows)

triangle-next : (n : ℕ) → triangle (n + 1) ≡ triangle n + n
triangle-next n = let shift : n + 1 ≡ suc n = omega arith in ap triangle shift ∙ triangle-more n

-- forward, each column is cleared in the rows behind its pivot's
pub triangle-start : (before each : ℕ) → before + triangle 0 ≤ before + 0 * each
triangle-start before each = let none = triangle-none in omega (arith, none)

pub forward_more : (rows before now turn t : ℕ) → t < rows → now + triangle t ≤ before + t * (rows - 1) → turn + (t + 1) ≤ now + rows → turn + triangle (t + 1) ≤ before + (t + 1) * (rows - 1)
forward_more rows before now turn t l m n = let next = triangle-next t in omega (arith, next)

pub forward_bound : (rows before now t count : ℕ) → t ≤ count → now + triangle t ≤ before + t * (rows - 1) → now ≤ before + count * (rows - 1)
forward_bound rows before now t count l m = let most : t * (rows - 1) ≤ count * (rows - 1) = mul-le-mul_right (rows - 1) l in omega (arith, most)

-- entries that are neither 0 nor 1
beyond_few : (x : ℕ) → beyond_one x ≤ 1
beyond_few zero = omega arith
beyond_few (suc zero) = omega arith
beyond_few (suc (suc n)) = omega arith

beyond_some : (x : ℕ) → 1 < x → beyond_one x ≡ 1
beyond_some zero l = absurd (omega arith)
beyond_some (suc zero) l = absurd (omega arith)
beyond_some (suc (suc n)) l = refl

multiples-next : (values : ℕ → ℕ) (first n : ℕ) → multiples values first (n + 1) ≡ beyond_one (values first) + multiples values (first + 1) n
multiples-next values first n = rw (add-one n, add-one first) (multiples-more values first n)

multiples-last : (values : ℕ → ℕ) (first n : ℕ) → multiples values first (n + 1) ≡ multiples values first n + beyond_one (values (first + n))
multiples-last values first zero =
    let whole = multiples-next values first 0 in
    let none = multiples-none values first in
    let rest = multiples-none values (first + 1) in
    let place : beyond_one (values (first + 0)) ≡ beyond_one (values first) = ap (λ (k : ℕ). beyond_one (values k)) (omega arith) in
    omega (arith, whole, none, rest, place)
multiples-last values first (suc n) =
    let whole = multiples-next values first (suc n) in
    let start = multiples-next values first n in
    let rest = multiples-last values (first + 1) n in
    let shift : multiples values first (suc n) ≡ multiples values first (n + 1) = ap (multiples values first) (sym (add-one n)) in
    let shift_rest : multiples values (first + 1) (suc n) ≡ multiples values (first + 1) (n + 1) = ap (multiples values (first + 1)) (sym (add-one n)) in
    let place : beyond_one (values (first + suc n)) ≡ beyond_one (values (first + 1 + n)) = ap (λ (k : ℕ). beyond_one (values k)) (omega arith) in
    omega (arith, whole, start, rest, shift, shift_rest, place)

multiples-few : (values : ℕ → ℕ) (first n more : ℕ) → multiples values first (n + more) ≤ multiples values first n + more
multiples-few values first n zero =
    let same : multiples values first (n + 0) ≡ multiples values first n = ap (multiples values first) (omega arith) in
    omega (arith, same)
multiples-few values first n (suc more) =
    let less = multiples-few values first n more in
    let last = multiples-last values first (n + more) in
    let few = beyond_few (values (first + (n + more))) in
    let same : multiples values first (n + suc more) ≡ multiples values first (n + more + 1) = ap (multiples values first) (omega arith) in
    omega (arith, less, last, few, same)

pub multiples-counted : (values : ℕ → ℕ) (n : ℕ) → 1 < values n → multiples values 0 (n + 1) ≡ multiples values 0 n + 1
multiples-counted values n l =
    let last = multiples-last values 0 n in
    let place : beyond_one (values (0 + n)) ≡ 1 = ap (λ (k : ℕ). beyond_one (values k)) (zero-add n) ∙ beyond_some (values n) l in
    omega (arith, last, place)

pub multiples-grow : (values : ℕ → ℕ) (n : ℕ) → multiples values 0 n ≤ multiples values 0 (n + 1)
multiples-grow values n = let last = multiples-last values 0 n in omega (arith, last)

-- a row takes ones, and no multiple
module _ (values : ℕ → ℕ) (start from before now : ℕ) (order : start ≤ from) (few : now + multiples values start (from - start) ≤ before + (from - start)) where
  pub ones_passed : (to : ℕ) → from ≤ to → now + multiples values start (to - start) ≤ before + (to - start)
  ones_passed to forward =
      let more = multiples-few values start (from - start) (to - from) in
      let same : multiples values start (to - start) ≡ multiples values start (from - start + (to - from)) = ap (multiples values start) (omega arith) in
      omega (arith, more, same)

  pub ones_taken : (f : ℕ) → from ≤ f → values f ≡ 1 → now + 1 + multiples values start (f + 1 - start) ≤ before + (f + 1 - start)
  ones_taken f forward one =
      let passed = ones_passed f forward in
      let last = multiples-last values start (f - start) in
      let place : beyond_one (values (start + (f - start))) ≡ 0 = ap (λ (k : ℕ). beyond_one (values k)) (omega arith) ∙ ap beyond_one one in
      let same : multiples values start (f + 1 - start) ≡ multiples values start (f - start + 1) = ap (multiples values start) (omega arith) in
      omega (arith, passed, last, place, same)

-- the multiples in n columns of the first s rows
abbrev pub given_before : (ℕ → ℕ → ℕ) → ℕ → ℕ → ℕ → ℕ
given_before entries first n zero = 0
given_before entries first n (suc s) = given_before entries first n s + multiples (entries s) first n

given_before-column : (entries : ℕ → ℕ → ℕ) (first n s : ℕ) → given_before entries first (n + 1) s ≡ multiples (λ i. entries i first) 0 s + given_before entries (first + 1) n s
given_before-column entries first n zero = let none = multiples-none (λ i. entries i first) 0 in omega (arith, none)
given_before-column entries first n (suc s) =
    let less = given_before-column entries first n s in
    let row = multiples-next (entries s) first n in
    let last = multiples-last (λ i. entries i first) 0 s in
    let place : beyond_one (entries (0 + s) first) ≡ beyond_one (entries s first) = ap (λ (k : ℕ). beyond_one (entries k first)) (zero-add s) in
    let shift : multiples (λ i. entries i first) 0 (suc s) ≡ multiples (λ i. entries i first) 0 (s + 1) = ap (multiples (λ i. entries i first) 0) (sym (add-one s)) in
    omega (arith, less, row, last, place, shift)

-- back, each row takes those behind it, by ones in its own turn, and by other multiples in theirs
pub back_turn : (entries : ℕ → ℕ → ℕ) (q n before now mid turn : ℕ) → now ≤ before + triangle n + given_before entries (q + 1) n (q + 1) → mid + multiples (entries q) (q + 1) n ≤ now + n
    → turn ≤ mid + multiples (λ i. entries i q) 0 q → turn ≤ before + triangle (n + 1) + given_before entries q (n + 1) q
back_turn entries q n before now mid turn so_far ones given =
    let next = triangle-next n in
    let own = ap (given_before entries (q + 1) n) (add-one q) in
    let column = given_before-column entries q n q in
    omega (arith, so_far, ones, given, next, own, column)

-- the second phase and the fourth
inactive_shifted : (inactive less left pivots : ℕ) → left ≡ less + 1 → inactive * (left - 1) + pivots * inactive ≤ inactive * (left + pivots - 1)
inactive_shifted inactive less left pivots e =
    let a : less + 1 - 1 ≡ less = omega arith in
    let b : less + 1 + pivots - 1 ≡ less + pivots = omega arith in
    rw (e, a, b) (omega arith)

pub inactive_bound : (inactive left pivots : ℕ) → inactive ≤ left → inactive * (left - 1) + pivots * inactive ≤ inactive * (left + pivots - 1)
inactive_bound inactive left pivots l = elim (cases_lt 0 left) [
  | inl some ↦ inactive_shifted inactive (left - 1) left pivots (omega arith)
  | inr none ↦ let zero_inactive : inactive ≡ 0 = omega arith in rw zero_inactive (omega arith)
]

-- all of them, with `more` for what pivots' rows take back and again
few_with_hdpc : (p u h m more : ℕ) → p + (h + 1) ≤ m + 1 → more + (h + 1) ≤ p + u → (m + 1) * p + (h * (1 + (p + u)) + (h + 1) * p) + u * m + p * more ≤ 2 * (p + u) * (m + 1)
few_with_hdpc p u h m more rows columns =
    let all : (p + (h + 1)) * (p + u) ≤ (m + 1) * (p + u) = mul-le-mul_right (p + u) rows in
    let hdpc : p * (more + (h + 1)) ≤ p * (p + u) = mul-le-mul_left p columns in
    omega (arith, all, hdpc, columns)

few_shifted : (p u less_h less_m h m more : ℕ) → h ≡ less_h + 1 → m ≡ less_m + 1 → p + h ≤ m → more + h ≤ p + u → m * p + hdpc_bound h (p + u) p + u * (m - 1) + p * more ≤ 2 * (p + u) * m
few_shifted p u less_h less_m h m more eh em rows columns =
    let a : less_h + 1 - 1 ≡ less_h = omega arith in
    let b : less_m + 1 - 1 ≡ less_m = omega arith in
    rw (eh, em, a, b) (few_with_hdpc p u less_h less_m more (omega arith) (omega arith))

few_bits : (p u less m more : ℕ) → m ≡ less + 1 → p ≤ m → more ≤ p + u → m * p + u * (m - 1) + p * more ≤ 2 * (p + u) * m
few_bits p u less m more e rows columns =
    let a : less + 1 - 1 ≡ less = omega arith in
    let first : p * more ≤ p * (p + u) = mul-le-mul_left p columns in
    let second : p * (p + u) ≤ (less + 1) * (p + u) = mul-le-mul_right (p + u) (omega arith) in
    rw (e, a) (omega (arith, first, second))

pub few_in_all : (p u h m more : ℕ) → p + h ≤ m → more + h ≤ p + u → m * p + hdpc_bound h (p + u) p + u * (m - 1) + p * more ≤ 2 * (p + u) * m
few_in_all p u h m more rows columns = elim (cases_lt 0 m) [
  | inl some ↦ elim (cases_lt 0 h) [
    | inl has ↦ few_shifted p u (h - 1) (m - 1) h m more (omega arith) (omega arith) rows columns
    | inr none ↦
        let z : h ≡ 0 = omega arith in
        let less = few_bits p u (m - 1) m more (omega arith) (omega arith) (omega arith) in
        rw z (omega (arith, less))
  ]
  | inr none ↦
      let z : h ≡ 0 = omega arith in
      let y : m ≡ 0 = omega arith in
      let x : p ≡ 0 = omega arith in
      rw (z, y, x) (omega arith)
]
