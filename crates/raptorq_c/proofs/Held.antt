-- What is said of what C handed in, and of a coder that is kept, of one kind.
use Rattle.raptorq_c.proofs.Names.{◌≡◌, List, Option, Some, sym, subst, IsSomeAnd, option_and_then, Configuration, TableRow, full_rows, Coder}

-- over the table that was made, and of the configuration that was read
pub over : (P : List TableRow → Configuration → Type 0) (table : List TableRow) (read c : Configuration) → table ≡ full_rows → read ≡ c → P table read → P full_rows c
over P table read c is same holds = subst (λ t. P t c) is (subst (P table) same holds)

-- ---- of one kind

module _ {X : Type 0} (kind : Coder → Option X) (held : Option Coder) (k : Coder) (is : held ≡ Some k) where
  pub said_kept : (P : X → Type 0) → IsSomeAnd (kind k) P → IsSomeAnd (option_and_then kind held) P
  said_kept P said = subst (λ o. IsSomeAnd (option_and_then kind o) P) (sym is) said

  -- and of what it becomes
  pub changed_kept : (after : Option Coder) (l : Coder) (P : X → X → Type 0) → after ≡ Some l → IsSomeAnd (kind k) (λ old. IsSomeAnd (kind l) (P old))
      → IsSomeAnd (option_and_then kind held) (λ old. IsSomeAnd (option_and_then kind after) (P old))
  changed_kept after l P now said = said_kept (λ old. IsSomeAnd (option_and_then kind after) (P old)) (subst (λ o. IsSomeAnd (kind k) (λ old. IsSomeAnd (option_and_then kind o) (P old))) (sym now) said)
