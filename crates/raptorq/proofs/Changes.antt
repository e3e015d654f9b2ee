-- Lists whose elements a loop changes one after another.
use Rattle.std.proofs.Common.{◌≡◌, ℕ, zero, suc, ◌+◌, ◌<◌, ◌≤◌, List, [], ◌∷◌, length, get_or, set, map, refl, sym, ap, ◌∙◌, subst, arith}
use Rattle.std.proofs.lemmas.List.{get_or-map, length-map}

-- with the first n elements changed
abbrev pub changed_below : {Y : Type 0} → (Y → Y) → ℕ → List Y → List Y
changed_below g zero ys = ys
changed_below g (suc n) [] = []
changed_below g (suc n) (y ∷ ys) = g y ∷ changed_below g n ys

pub none_changed : {Y : Type 0} (g : Y → Y) (ys : List Y) → changed_below g 0 ys ≡ ys
none_changed g ys = refl

pub all_changed : {Y : Type 0} (g : Y → Y) (n : ℕ) (ys : List Y) → length ys ≤ n → changed_below g n ys ≡ map g ys
all_changed g zero [] past = refl
all_changed g zero (y ∷ ys) past = absurd (omega arith)
all_changed g (suc n) [] past = refl
all_changed g (suc n) (y ∷ ys) past = ap (λ l. g y ∷ l) (all_changed g n ys (omega arith))

one_more : {Y : Type 0} (g : Y → Y) (n : ℕ) (ys : List Y) (y d : Y) → n < length (changed_below g n ys) → y ≡ get_or (changed_below g n ys) n d → set (changed_below g n ys) n (g y) ≡ changed_below g (suc n) ys
one_more g zero [] y d below is = absurd (omega arith)
one_more g zero (x ∷ ys) y d below is = ap (λ e. g e ∷ ys) is
one_more g (suc n) [] y d below is = absurd (omega arith)
one_more g (suc n) (x ∷ ys) y d below is = ap (λ l. g x ∷ l) (one_more g n ys y d (omega arith) is)

-- the next element is changed, as f sees it
pub next_changed : {X Y : Type 0} (f : X → Y) (g : Y → Y) (old : List Y) (items : List X) (n : ℕ) (d : X) → n < length items → map f items ≡ changed_below g n old
    → set (map f items) n (g (f (get_or items n d))) ≡ changed_below g (n + 1) old
next_changed f g old items n d below so =
    let within = subst (λ l. n < length l) so (omega (arith, below, length-map items f)) in
    let here = sym (get_or-map f items n d (f d) below) ∙ ap (λ l. get_or l n (f d)) so in
    let next : suc n ≡ n + 1 = omega arith in
    ap (λ l. set l n (g (f (get_or items n d)))) so ∙ one_more g n old (f (get_or items n d)) (f d) within here ∙ ap (λ m. changed_below g m old) next
