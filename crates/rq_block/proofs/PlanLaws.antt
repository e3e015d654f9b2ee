-- What plans refuse, and what a copy of a list shows.
use Rattle.std.proofs.Common.{◌≡◌, ℕ, ◌≤◌, List, [], ◌∷◌, map, Ok, refl, sym, ap, ◌∙◌, subst, ◌⊎◌, inl, inr}
use Rattle.std.specs.List.{AllZip}
use Rattle.std.proofs.lemmas.Bool.{le-ltb}
use Rattle.rq_bytes.specs.declared.error.Error.{Error}
use Rattle.rq_bytes.specs.declared.error.Error.TheVariants.{OutOfMemory, Singular}
use Rattle.rq_bytes.specs.Refusals.{IsRefusal}
use Rattle.rq_standard.specs.declared.row.TableRow.{TableRow}
use Rattle.rq_standard.specs.TableRows.{greatest_size, row_of}
use Rattle.rq_standard.specs.Headline.{IsSingular}
use Rattle.rq_standard.specs.Configuration.{Configuration}
use Rattle.rq_block.specs.BlockData.{RefusesBlock}
use Rattle.rq_block.specs.SourceBlockEncodingPlan.{plan_refusal, RefusesPlan}
use Rattle.rq_block.specs.RefusedBlocks.{wanted_count}

-- a function of clones that keeps what it sees of each
pub map-clones : {X Y : Type 0} (C : X → X → Type 0) (f : X → Y) → ((x y : X) → C x y → f y ≡ f x) → (xs ys : List X) → AllZip C xs ys → map f ys ≡ map f xs
map-clones C f same [] [] all = refl
map-clones C f same [] (y ∷ ys) all = absurd all
map-clones C f same (x ∷ xs) [] all = absurd all
map-clones C f same (x ∷ xs) (y ∷ ys) all = ap (λ z. z ∷ map f ys) (same x y all.0) ∙ ap (λ zs. f x ∷ zs) (map-clones C f same xs ys all.1)

-- ---- what is refused

pub plan_taken : (table : List TableRow) (count : ℕ) → count ≤ greatest_size table → plan_refusal table count ≡ Ok tt
plan_taken table count within = rw (le-ltb (greatest_size table) count within) refl

pub refuses_plan : (table : List TableRow) (count : ℕ) (row : TableRow) (e : Error) → plan_refusal table count ≡ Ok tt → row ≡ row_of table count → (e ≡ OutOfMemory) ⊎ ((e ≡ Singular) × IsSingular row) → RefusesPlan table count e
refuses_plan table count row e taken is (inl memory) = inl (subst (IsRefusal e) (sym taken) memory)
refuses_plan table count row e taken is (inr singular) = inr (taken, singular.0, subst IsSingular is singular.1)

-- the refusals that are left where the table has a row
pub plan_refused : (table : List TableRow) (count : ℕ) (e : Error) → count ≤ greatest_size table → RefusesPlan table count e → (e ≡ OutOfMemory) ⊎ ((e ≡ Singular) × IsSingular (row_of table count))
plan_refused table count e within (inl refused) = inl (subst (IsRefusal e) (plan_taken table count within) refused)
plan_refused table count e within (inr singular) = inr (singular.1, singular.2)

pub refuses_block : (table : List TableRow) (c : Configuration) (bytes count : ℕ) (e : Error) → Ok count ≡ wanted_count (greatest_size table) c bytes → count ≤ greatest_size table → RefusesPlan table count e → RefusesBlock table c bytes e
refuses_block table c bytes count e is within refused = rw (← is) (plan_refused table count e within refused)
