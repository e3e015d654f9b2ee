-- How far a head leads, cell by cell.
use Rattle.std.proofs.Common.{◌≡◌, ℕ, ◌+◌, ◌-◌, ◌<◌, Bool, true, false, Option, Some, None, not, inl, inr, arith, refl}
use Rattle.std.specs.Prelude.{◌⊎◌}
use Rattle.rq_cast.specs.Streams.{one_if}
use Rattle.rq_cast.specs.Votes.{Lead}

-- a cell with the head in use
pub own_lead : (u : Bool) (c : ℕ) (r : Option (Bool × ℕ)) (a o : ℕ) → Lead u c r a o → Lead u (c + 1) r (a + one_if u) (o + one_if (not u))
own_lead true c None a o l = omega (arith, l)
own_lead true c (Some (v, m)) a o l = omega (arith, l)
own_lead false c None a o l = omega (arith, l)
own_lead false c (Some (true, m)) a o l = omega (arith, l)
own_lead false c (Some (false, m)) a o l = omega (arith, l)

-- one with another head, where there is no rival
pub first_lead : (u t : Bool) (c a o : ℕ) → (u ≡ true → t ≡ false) → Lead u c None a o → Lead u c (Some (t, 1)) (a + one_if t) (o + one_if (not t))
first_lead true true c a o apart l = absurd (cc (apart refl))
first_lead true false c a o apart l = omega (arith, l)
first_lead false true c a o apart l = omega (arith, l)
first_lead false false c a o apart l = omega (arith, l)

-- one of the rival's
pub more_lead : (u t : Bool) (c m a o : ℕ) → (u ≡ true → t ≡ false) → Lead u c (Some (t, m)) a o → Lead u c (Some (t, m + 1)) (a + one_if t) (o + one_if (not t))
more_lead true true c m a o apart l = absurd (cc (apart refl))
more_lead true false c m a o apart l = omega (arith, l)
more_lead false true c m a o apart l = omega (arith, l)
more_lead false false c m a o apart l = omega (arith, l)

-- one of neither
pub less_lead : (u v t : Bool) (c m a o : ℕ) → (u ≡ true → t ≡ false) → (v ≡ true → t ≡ false) → 1 < m → Lead u c (Some (v, m)) a o
    → Lead u c (Some (v, m - 1)) (a + one_if t) (o + one_if (not t))
less_lead true v true c m a o apart other some l = absurd (cc (apart refl))
less_lead true v false c m a o apart other some l = omega (arith, l, some)
less_lead false true true c m a o apart other some l = absurd (cc (other refl))
less_lead false true false c m a o apart other some l = omega (arith, l, some)
less_lead false false true c m a o apart other some l = omega (arith, l, some)
less_lead false false false c m a o apart other some l = omega (arith, l, some)

pub gone_lead : (u v t : Bool) (c m a o : ℕ) → (u ≡ true → t ≡ false) → (v ≡ true → t ≡ false) → m ≡ 1 → Lead u c (Some (v, m)) a o
    → Lead u c None (a + one_if t) (o + one_if (not t))
gone_lead true v true c m a o apart other one l = absurd (cc (apart refl))
gone_lead true v false c m a o apart other one l = omega (arith, l, one)
gone_lead false true true c m a o apart other one l = absurd (cc (other refl))
gone_lead false true false c m a o apart other one l = omega (arith, l, one)
gone_lead false false true c m a o apart other one l = omega (arith, l, one)
gone_lead false false false c m a o apart other one l = omega (arith, l, one)

-- the rival takes the place of the head in use
pub swapped_lead : (u t : Bool) (c n a o : ℕ) → (u ≡ true → t ≡ false) → Lead u c (Some (t, n)) a o → Lead t n (Some (u, c)) a o
swapped_lead true true c n a o apart l = absurd (cc (apart refl))
swapped_lead true false c n a o apart l = omega (arith, l)
swapped_lead false true c n a o apart l = omega (arith, l)
swapped_lead false false c n a o apart l = omega (arith, l)

pub alone_lead : (u t : Bool) (c n a o : ℕ) → (u ≡ true → t ≡ false) → c ≡ 0 → Lead u c (Some (t, n)) a o → Lead t n None a o
alone_lead true true c n a o apart none l = absurd (cc (apart refl))
alone_lead true false c n a o apart none l = omega (arith, l, none)
alone_lead false true c n a o apart none l = omega (arith, l, none)
alone_lead false false c n a o apart none l = omega (arith, l, none)

-- another head's attempt fails
pub uncounted_lead : (c : ℕ) (r : Option (Bool × ℕ)) (a o : ℕ) → Lead false c r a o → Lead false 0 r a o
uncounted_lead c None a o l = omega (arith, l)
uncounted_lead c (Some (true, m)) a o l = omega (arith, l)
uncounted_lead c (Some (false, m)) a o l = omega (arith, l)

-- a cell with another head that doesn't count
pub passed_lead : (u : Bool) (c : ℕ) (r : Option (Bool × ℕ)) (a o : ℕ) → Lead u c r a o → Lead u c r a (o + 1)
passed_lead true c None a o l = omega (arith, l)
passed_lead true c (Some (v, m)) a o l = omega (arith, l)
passed_lead false c None a o l = omega (arith, l)
passed_lead false c (Some (true, m)) a o l = omega (arith, l)
passed_lead false c (Some (false, m)) a o l = omega (arith, l)

-- where it leads, it is in use, or the rival with more cells
pub who_leads : (u : Bool) (c : ℕ) (r : Option (Bool × ℕ)) (a o : ℕ) → Lead u c r a o → o < a → (u ≡ true) ⊎ ((m : ℕ) × (r ≡ Some (true, m)) × (c < m))
who_leads true c r a o l more = inl refl
who_leads false c None a o l more = absurd (omega (arith, l, more))
who_leads false c (Some (true, m)) a o l more = inr (m, refl, omega (arith, l, more))
who_leads false c (Some (false, m)) a o l more = absurd (omega (arith, l, more))
