-- Names of parts one behind another.
use Rattle.std.proofs.Common.{◌≡◌, ℕ, List, [], ◌∷◌, ◌++◌, length, take, arith, refl, sym, ap, ◌∙◌, append-nil, append_assoc}
use Rattle.std.specs.Prelude.{◌≢◌, All}
use Rattle.std.specs.List.{concat}
use Rattle.std.proofs.lemmas.List.{take-append-le, nil_from_length}
use Rattle.std.proofs.lemmas.List.Elements.{All-head}
use Rattle.rq_cast.specs.Parts.{stream_of_names}

-- one name more
pub concat_push : (names : List (List ℕ)) (name : List ℕ) → concat (names ++ (name ∷ [])) ≡ concat names ++ name
concat_push [] name = append-nil name
concat_push (x ∷ names) name = ap (λ xs. x ++ xs) (concat_push names name) ∙ sym (append_assoc x (concat names) name)

-- there are none where there are as many as of none
pub none_named : (names : List (List ℕ)) (count : ℕ) → count ≡ length names → count ≡ 0 → names ≡ []
none_named names count is none = nil_from_length names (sym is ∙ none)

pub some_named : (names : List (List ℕ)) (count : ℕ) → count ≡ length names → count ≢ 0 → names ≢ []
some_named names count is some none = some (is ∙ ap length none)

-- the first name begins that of the stream
pub stream_of_first : (names : List (List ℕ)) (name : List ℕ) → names ≡ [] → stream_of_names (names ++ (name ∷ [])) ≡ take 8 name
stream_of_first names name none = ap (λ xs. stream_of_names (xs ++ (name ∷ []))) none ∙ ap (take 8) (append-nil name)

-- and those behind it don't change that
pub stream_of_more : (names : List (List ℕ)) (name : List ℕ) → All (λ n. length n ≡ 16) names → names ≢ [] → stream_of_names (names ++ (name ∷ [])) ≡ stream_of_names names
stream_of_more [] name long some = absurd (some refl)
stream_of_more (first ∷ names) name long some =
    let sixteen : length first ≡ 16 = All-head (λ n. length n ≡ 16) first names long in
    take-append-le 8 first (concat (names ++ (name ∷ []))) (omega (arith, sixteen)) ∙ sym (take-append-le 8 first (concat names) (omega (arith, sixteen)))
