-- A closure that is called at each item of a list in turn.
use Rattle.std.specs.Prelude.{List, [], ◌∷◌, ⊤}

-- it may be called at the first item, and then, whatever that call made of it, at the rest
abbrev pub CallableAlong : {P A : Type 0} → (P → A → Type 0) → (P → A → P → Type 0) → P → List A → Type 0
CallableAlong may step f [] = ⊤
CallableAlong {P} may step f (x ∷ xs) = may f x × ((g : P) → step f x g → CallableAlong may step g xs)
