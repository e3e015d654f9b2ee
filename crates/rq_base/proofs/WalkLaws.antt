-- The walk over the PI indices ends, and gives the indices of the definition.
use Rattle.std.proofs.Common.{◌≡◌, ℕ, zero, suc, ◌+◌, ◌-◌, ◌*◌, ◌%◌, ◌≤◌, ◌<◌, cond, ltb, List, [], ◌∷◌, map, take, filter, refl, sym, ap, ◌∙◌, arith, ⊎_elim}
use Rattle.std.proofs.lemmas.Bool.{lt-ltb, le-ltb, cases_lt}
use Rattle.std.proofs.lemmas.Nat.{mod_below}
use Rattle.std.proofs.Math.Nat.{mod-eq_of_lt, mod-add-mod}
use Rattle.std.specs.List.{range_with_len}
use Rattle.rq_standard.proofs.PlaceLaws.{sum_past}
use Rattle.rq_base.specs.Indices.{walk, next_below, walk_below}

-- ---- the walk ends

-- How far a value is from the values below p: a step of at most p goes up until it passes the modulus, a greater one is a step down.
abbrev pub steps_left : (p m step x : ℕ) → ℕ
steps_left p m step x = cond (ltb x p) 0 (cond (ltb p step) (x + 1 - p) (m - x))

steps_below : (p m step x : ℕ) → x < p → steps_left p m step x ≡ 0
steps_below p m step x lt = rw (lt-ltb x p lt) refl

steps_down : (p m step x : ℕ) → p ≤ x → p < step → steps_left p m step x ≡ x + 1 - p
steps_down p m step x le down = rw (le-ltb x p le, lt-ltb p step down) refl

steps_up : (p m step x : ℕ) → p ≤ x → step ≤ p → steps_left p m step x ≡ m - x
steps_up p m step x le up = rw (le-ltb x p le, le-ltb p step up) refl

-- a modulus, a step and a bound with which the walk ends
pub record HasWalkEnds (p m step : ℕ) : Type 0 where
  pub some : 1 ≤ step
  pub below : step < m
  pub bound : 1 ≤ p
  pub above : p ≤ m
  pub near : m ≤ 2 * p

-- each step comes nearer
nearer : (p m step x : ℕ) → HasWalkEnds p m step → x < m → p ≤ x → steps_left p m step ((x + step) % m) < steps_left p m step x
nearer p m step x ends hx le =
    ⊎_elim
    (λ (down : p < step).
    let high : (x + step) % m ≡ x + step - m = sum_past m x step hx ends.below (omega (arith, ends.near)) in
    let now : steps_left p m step x ≡ x + 1 - p = steps_down p m step x le down in
    ⊎_elim
    (λ (there : x + step - m < p). rw (high, now, steps_below p m step (x + step - m) there) (omega arith))
    (λ (more : p ≤ x + step - m). rw (high, now, steps_down p m step (x + step - m) more down) (omega (arith, ends.below)))
    (cases_lt (x + step - m) p))
    (λ (up : step ≤ p).
    let now : steps_left p m step x ≡ m - x = steps_up p m step x le up in
    ⊎_elim
    (λ (low : x + step < m). let more : p ≤ x + step = omega arith in rw (mod-eq_of_lt low, now, steps_up p m step (x + step) more up) (omega (arith, ends.some)))
    (λ (high : m ≤ x + step).
    let there : x + step - m < p = omega arith in
    rw (sum_past m x step hx ends.below high, now, steps_below p m step (x + step - m) there) (omega arith))
    (cases_lt (x + step) m))
    (cases_lt p step)

steps-lt : (p m step x : ℕ) → HasWalkEnds p m step → x < m → steps_left p m step x < m
steps-lt p m step x ends hx =
    ⊎_elim
    (λ (there : x < p). rw (steps_below p m step x there) (omega (arith, ends.below)))
    (λ (le : p ≤ x).
    ⊎_elim
    (λ (down : p < step). rw (steps_down p m step x le down) (omega (arith, ends.bound)))
    (λ (up : step ≤ p). rw (steps_up p m step x le up) (omega (arith, ends.bound)))
    (cases_lt p step))
    (cases_lt x p)

-- ---- the first value below p

pub next_here : (p m step more x : ℕ) → x < p → next_below p m step more x ≡ x
unfolding next_below
next_here p m step zero x lt = refl
next_here p m step (suc more) x lt = rw (lt-ltb x p lt) refl

next_later : (p m step more x : ℕ) → p ≤ x → next_below p m step (suc more) x ≡ next_below p m step more ((x + step) % m)
unfolding next_below
next_later p m step more x le = rw (le-ltb x p le) refl

-- more steps than are needed change nothing
next_enough : (p m step f g x : ℕ) → HasWalkEnds p m step → x < m → steps_left p m step x < f → steps_left p m step x < g → next_below p m step f x ≡ next_below p m step g x
next_enough p m step zero g x ends hx hf hg = absurd (omega arith)
next_enough p m step (suc f) zero x ends hx hf hg = absurd (omega arith)
next_enough p m step (suc f) (suc g) x ends hx hf hg =
    ⊎_elim
    (λ (there : x < p). next_here p m step (suc f) x there ∙ sym (next_here p m step (suc g) x there))
    (λ (le : p ≤ x).
    let near = nearer p m step x ends hx le in
    next_later p m step f x le
    ∙ next_enough p m step f g ((x + step) % m) ends (mod_below (x + step) m (omega (arith, ends.below))) (omega (arith, near)) (omega (arith, near))
    ∙ sym (next_later p m step g x le))
    (cases_lt x p)

-- a step before the first value below p leads to the same
pub next_step : (p m step x : ℕ) → HasWalkEnds p m step → x < m → p ≤ x → next_below p m step m ((x + step) % m) ≡ next_below p m step m x
next_step p m step x ends hx le =
    let near = nearer p m step x ends hx le in
    let few = steps-lt p m step x ends hx in
    let there : (x + step) % m < m = mod_below (x + step) m (omega (arith, ends.below)) in
    let fuel : m ≡ suc (m - 1) = omega (arith, ends.below) in
    next_enough p m step m (m - 1) ((x + step) % m) ends there (omega (arith, near, few)) (omega (arith, near, few))
    ∙ sym (next_later p m step (m - 1) x le)
    ∙ ap (λ (n : ℕ). next_below p m step n x) (sym fuel)

-- ---- the values below p

abbrev below_of : ℕ → List ℕ → List ℕ
below_of p xs = filter (λ value. ltb value p) xs

walk_here : (p m step x n : ℕ) → x < p → below_of p (walk m step x (suc n)) ≡ x ∷ below_of p (walk m step ((x + step) % m) n)
unfolding walk
walk_here p m step x n lt = rw (lt-ltb x p lt) refl

walk_later : (p m step x n : ℕ) → p ≤ x → below_of p (walk m step x (suc n)) ≡ below_of p (walk m step ((x + step) % m) n)
unfolding walk
walk_later p m step x n le = rw (le-ltb x p le) refl

-- the values below p of a walk that is long enough: the first one, and those of a walk from after it that is shorter by few
record Skips (p m step f x n : ℕ) : Type 0 where
  left : ℕ
  enough : n ≤ left + f
  splits : below_of p (walk m step x n) ≡ next_below p m step f x ∷ below_of p (walk m step ((next_below p m step f x + step) % m) left)

skips : (p m step f x n : ℕ) → HasWalkEnds p m step → x < m → steps_left p m step x < f → f ≤ n → Skips p m step f x n
skips p m step zero x n ends hx hf hn = absurd (omega arith)
skips p m step (suc f) x zero ends hx hf hn = absurd (omega arith)
skips p m step (suc f) x (suc n) ends hx hf hn =
    ⊎_elim
    (λ (there : x < p).
    let here : Skips p m step (suc f) x (suc n) = record { left = n; enough = omega arith; splits = rw (next_here p m step (suc f) x there) (walk_here p m step x n there) } in here)
    (λ (le : p ≤ x).
    let near = nearer p m step x ends hx le in
    let rest = skips p m step f ((x + step) % m) n ends (mod_below (x + step) m (omega (arith, ends.below))) (omega (arith, near)) (omega arith) in
    let later : Skips p m step (suc f) x (suc n) = record { left = rest.left; enough = omega (arith, rest.enough); splits = walk_later p m step x n le ∙ rw (next_later p m step f x le) rest.splits } in later)
    (cases_lt x p)

walk_below_is : (p m step n x count : ℕ) → HasWalkEnds p m step → x < m → n * m ≤ count → take n (below_of p (walk m step x count)) ≡ walk_below p m step x n
unfolding walk_below
walk_below_is p m step zero x count ends hx enough = refl
walk_below_is p m step (suc n) x count ends hx enough =
    let few = steps-lt p m step x ends hx in
    let s = skips p m step m x count ends hx few (omega (arith, enough)) in
    rw s.splits
    (ap (λ (rest : List ℕ). next_below p m step m x ∷ rest)
    (walk_below_is p m step n ((next_below p m step m x + step) % m) s.left ends (mod_below (next_below p m step m x + step) m (omega (arith, ends.below))) (omega (arith, enough, s.enough))))

-- ---- the walk is the sequence of the definition

walk_is : (m step x k n : ℕ) → map (λ j. (x + step * j) % m) (range_with_len k n) ≡ walk m step ((x + step * k) % m) n
unfolding walk
walk_is m step x k zero = refl
walk_is m step x k (suc n) =
    ap (λ (rest : List ℕ). (x + step * k) % m ∷ rest)
    (walk_is m step x (k + 1) n
    ∙ ap (λ (y : ℕ). walk m step y n) (ap (λ (y : ℕ). y % m) (let same : x + step * (k + 1) ≡ x + step * k + step = omega arith in same) ∙ sym (mod-add-mod (x + step * k) m step)))

pub walk_from : (m step x n : ℕ) → x < m → map (λ j. (x + step * j) % m) (range_with_len 0 n) ≡ walk m step x n
walk_from m step x n lt =
    walk_is m step x 0 n ∙ ap (λ (y : ℕ). walk m step y n) (ap (λ (y : ℕ). y % m) (let same : x + step * 0 ≡ x = omega arith in same) ∙ mod-eq_of_lt lt)

pub pi_walk : (p m step x n : ℕ) → HasWalkEnds p m step → x < m → take n (filter (λ value. ltb value p) (map (λ j. (x + step * j) % m) (range_with_len 0 (n * m)))) ≡ walk_below p m step x n
pi_walk p m step x n ends hx = rw (walk_from m step x (n * m) hx) (walk_below_is p m step n x (n * m) ends hx (omega arith))

-- ---- one index at a time

pub walk-next : (m step x n : ℕ) → 0 < n → walk m step x n ≡ x ∷ walk m step ((x + step) % m) (n - 1)
unfolding walk
walk-next m step x zero lt = absurd (omega arith)
walk-next m step x (suc n) lt = ap (λ (k : ℕ). x ∷ walk m step ((x + step) % m) k) (let same : n ≡ suc n - 1 = omega arith in same)

pub walk-none : (m step x n : ℕ) → n ≡ 0 → walk m step x n ≡ []
unfolding walk
walk-none m step x n none = rw none refl

pub walk_below-next : (p m step x n : ℕ) → 0 < n → walk_below p m step x n ≡ next_below p m step m x ∷ walk_below p m step ((next_below p m step m x + step) % m) (n - 1)
unfolding walk_below
walk_below-next p m step x zero lt = absurd (omega arith)
walk_below-next p m step x (suc n) lt =
    ap (λ (k : ℕ). next_below p m step m x ∷ walk_below p m step ((next_below p m step m x + step) % m) k) (let same : n ≡ suc n - 1 = omega arith in same)

pub walk_below-none : (p m step x n : ℕ) → n ≡ 0 → walk_below p m step x n ≡ []
unfolding walk_below
walk_below-none p m step x n none = rw none refl
