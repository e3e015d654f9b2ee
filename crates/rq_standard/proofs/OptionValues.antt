-- An option, by whether it has a value.
use Rattle.std.proofs.Common.{◌≡◌, true, false, Option, Some, None, refl}
use Rattle.std.specs.Prelude.{is_some, option_map, IfSome}

pub is_some-mapped : {A B : Type 0} (f : A → B) (o : Option A) → is_some (option_map f o) ≡ is_some o
is_some-mapped f None = refl
is_some-mapped f (Some x) = refl

pub none_is : {A : Type 0} (o : Option A) → is_some o ≡ false → o ≡ None
none_is None h = refl
none_is (Some x) h = absurd (cc h)

pub value_of : {A : Type 0} (o : Option A) → is_some o ≡ true → (x : A) × (o ≡ Some x)
value_of None h = absurd (cc h)
value_of (Some x) h = (x, refl)

-- what holds of any value that is there
pub by_option : {A : Type 0} (o : Option A) (P : A → Type 0) → ((x : A) → o ≡ Some x → P x) → IfSome o P
by_option None P h = tt
by_option (Some x) P h = h x refl

pub none_otherwise : {A B : Type 0} (f : A → B) (o : Option A) → ((x : A) → o ≡ Some x → ⊥) → option_map f o ≡ None
none_otherwise f None h = refl
none_otherwise f (Some x) h = absurd (h x refl)
