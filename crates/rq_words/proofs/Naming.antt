-- Names, one after another.
use Rattle.std.proofs.Common.{◌≡◌, ℕ, ◌+◌, ◌<◌, ◌≤◌, List, [], ◌∷◌, ◌++◌, length, map, drop, get_or, refl, sym, ap, subst, ◌∙◌, Ok, Err, Some, None, append_assoc, append-nil, arith, false}
use Rattle.std.specs.Prelude.{codes, nat_lt}
use Rattle.std.proofs.lemmas.Bool.Decides.{nat_tests}
use Rattle.std.proofs.lemmas.List.{drop-map, drop_all, drop_more, length-map}
use Rattle.clap.specs.Words.{Row}
use Rattle.clap.specs.declared.error.kind.ErrorKind.TheVariants.{ValueValidation}
use Rattle.rq_words.specs.Values.{name_of}
use Rattle.rq_options.specs.Options.{texts_of}
use Rattle.rq_words.specs.Asked.{Asked, and_then, each_named, passed_asked, passed_by, valued}

-- what is named of the first texts, and then of the others
pub named_behind : List (List ℕ) → List (List ℕ) → Asked (List (List ℕ))
named_behind names texts = and_then (each_named texts) (λ others. Ok (names ++ others))

-- of none yet
pub named_first : (texts : List (List ℕ)) → each_named texts ≡ named_behind [] texts
unfolding named_behind
named_first texts = by (each_named texts)
  where
    by : (a : Asked (List (List ℕ))) → a ≡ and_then a (λ others. Ok ([] ++ others))
    by (Ok x) = refl
    by (Err k) = refl

-- of one more
pub named_more : (names texts : List (List ℕ)) (text name : List ℕ) → Some name ≡ name_of text
    → named_behind names (text ∷ texts) ≡ named_behind (names ++ (name ∷ [])) texts
unfolding named_behind
named_more names texts text name is =
    sym (ap (λ o. and_then (and_then (valued o) (λ n. and_then (each_named texts) (λ ns. Ok (n ∷ ns)))) (λ others. Ok (names ++ others))) is)
    ∙ by (each_named texts)
  where
    by : (a : Asked (List (List ℕ))) → and_then (and_then a (λ ns. Ok (name ∷ ns))) (λ others. Ok (names ++ others))
        ≡ and_then a (λ others. Ok ((names ++ (name ∷ [])) ++ others))
    by (Ok x) = ap (λ ys. Ok ys) (sym (append_assoc names (name ∷ []) x))
    by (Err k) = refl

-- of one that names nothing
pub named_wrong : (names texts : List (List ℕ)) (text : List ℕ) → None ≡ name_of text → named_behind names (text ∷ texts) ≡ Err ValueValidation
unfolding named_behind
named_wrong names texts text is =
    sym (ap (λ o. and_then (and_then (valued o) (λ n. and_then (each_named texts) (λ ns. Ok (n ∷ ns)))) (λ others. Ok (names ++ others))) is)

-- of all
pub named_all : (names : List (List ℕ)) → named_behind names [] ≡ Ok names
unfolding named_behind
named_all names = ap (λ xs. Ok xs) (append-nil names)

-- ---- as they are read, from items that hold the texts

-- what is left of them has a first one
left : {X : Type 0} (f : X → List ℕ) (items : List X) (i : ℕ) (d : X) → i < length items
    → drop i (map f items) ≡ f (get_or items i d) ∷ drop (i + 1) (map f items)
left f items i d less =
    drop-map f i items ∙ ap (map f) (drop_more items i d less) ∙ ap (λ ys. f (get_or items i d) ∷ ys) (sym (drop-map f (i + 1) items))

pub read_on : {X : Type 0} (f : X → List ℕ) (items : List X) (i : ℕ) (d : X) (names : List (List ℕ)) (name : List ℕ) → i < length items
    → each_named (map f items) ≡ named_behind names (drop i (map f items)) → Some name ≡ name_of (f (get_or items i d))
    → each_named (map f items) ≡ named_behind (names ++ (name ∷ [])) (drop (i + 1) (map f items))
read_on f items i d names name less behind is =
    behind ∙ ap (named_behind names) (left f items i d less) ∙ named_more names (drop (i + 1) (map f items)) (f (get_or items i d)) name is

pub read_wrong : {X : Type 0} (f : X → List ℕ) (items : List X) (i : ℕ) (d : X) (names : List (List ℕ)) → i < length items
    → each_named (map f items) ≡ named_behind names (drop i (map f items)) → None ≡ name_of (f (get_or items i d))
    → each_named (map f items) ≡ Err ValueValidation
read_wrong f items i d names less behind is =
    behind ∙ ap (named_behind names) (left f items i d less) ∙ named_wrong names (drop (i + 1) (map f items)) (f (get_or items i d)) is

pub read_all : {X : Type 0} (f : X → List ℕ) (items : List X) (i : ℕ) (names : List (List ℕ)) → length items ≤ i
    → each_named (map f items) ≡ named_behind names (drop i (map f items)) → each_named (map f items) ≡ Ok names
read_all f items i names all behind =
    behind ∙ ap (named_behind names) (drop-map f i items ∙ ap (map f) (drop_all i items all)) ∙ named_all names

-- ---- how many

-- no more than are taken
few : (texts : List (List ℕ)) → length texts ≤ 64 → passed_by texts ≡ each_named texts
few texts h = let is : nat_lt 64 (length texts) ≡ false = grind (arith, nat_tests, h) in rw is refl

-- of items that hold the texts of the option, few enough of them, what they name
pub passed_are : {X : Type 0} (f : X → List ℕ) (rows : List Row) (items given : List X) (named : Asked (List (List ℕ))) → items ≡ given
    → map f given ≡ texts_of rows (codes "not") → length given ≤ 64 → each_named (map f items) ≡ named → named ≡ passed_asked rows
unfolding passed_asked
passed_are f rows items given named same said some is =
    sym is ∙ ap (λ xs. each_named (map f xs)) same ∙ sym (few (map f given) (subst (λ n. n ≤ 64) (sym (length-map given f)) some)) ∙ ap passed_by said
