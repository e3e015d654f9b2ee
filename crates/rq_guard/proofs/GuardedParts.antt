-- Parts that are guarded one behind another.
use Rattle.std.proofs.Common.{◌≡◌, ℕ, zero, suc, ◌+◌, ◌*◌, ◌<◌, ◌≤◌, List, ◌++◌, length, refl, sym, subst, arith}
use Rattle.rq_cells.specs.Cells.{Key}
use Rattle.rq_cast.proofs.PartsInOrder.{with_next, with_next_below, with_next_at, ready_longer, ready_next}
use Rattle.rq_guard.specs.declared.protecting.GuardOrder.{GuardOrder}
use Rattle.rq_guard.specs.Protecting.{Guarding, IsGuarding, IsGuardOf, AreGuarded, IsGuardedPart, GuardsParts}

-- what is written of the first n is so by what is the same there
guarded_same : (f g : ℕ → Guarding) (n : ℕ) (written : List ℕ) → ((i : ℕ) → i < n → f i ≡ g i) → AreGuarded f n written → AreGuarded g n written
guarded_same f g zero written same sent = sent
guarded_same f g (suc n) written same (front, bytes, first, next, is) = (
  front,
  bytes,
  guarded_same f g n front (λ i below. same i (omega (arith, below))) first,
  subst (λ k. IsGuardOf k bytes) (same n (omega arith)) next,
  is,
)

module _ (order : GuardOrder) (key : Key) where
  -- whole parts stay when more is read
  pub guards_longer : 0 < order.part → (input more : List ℕ) (of : ℕ → Guarding) (n : ℕ) (written : List ℕ) → n * order.part ≤ length input
      → GuardsParts order key input of n written → GuardsParts order key (input ++ more) of n written
  guards_longer some input more of n written whole guards = record {
    prepared = ready_longer (IsGuarding order key) (λ (g : Guarding). g.part) order.part input more some of n whole guards.prepared;
    sent = guards.sent;
  }

  -- one part more
  pub guards_next : (input : List ℕ) (of : ℕ → Guarding) (n : ℕ) (g : Guarding) (front bytes : List ℕ) → GuardsParts order key input of n front
      → IsGuardedPart order key input of n g → IsGuardOf g bytes → GuardsParts order key input (with_next of n g) (n + 1) (front ++ bytes)
  guards_next input of n g front bytes guards ready sent =
      let all = with_next of n g in
      let same : suc n ≡ n + 1 = omega arith in
      record {
        prepared = ready_next (IsGuarding order key) (λ (k : Guarding). k.part) order.part input of n g guards.prepared ready;
        sent = subst (λ m. AreGuarded all m (front ++ bytes)) same (
          front,
          bytes,
          guarded_same of all n front (λ k few. sym (with_next_below of n g k few)) guards.sent,
          subst (λ k. IsGuardOf k bytes) (sym (with_next_at of n g)) sent,
          refl,
        );
      }
