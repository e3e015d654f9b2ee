-- Parts of what is read, one behind another, and what is made of each.
use Rattle.std.proofs.Common.{◌≡◌, inl, inr, ℕ, zero, suc, ◌+◌, ◌*◌, ◌/◌, ◌<◌, ◌≤◌, mul-le-mul_right, Bool, true, false, List, [], ◌∷◌, ◌++◌, length, take, drop, map, Option, refl, sym, ap, subst, ◌∙◌, arith, length-append}
use Rattle.std.specs.Prelude.{nat_lt, ◌==◌, if◌then◌else◌}
use Rattle.std.specs.List.{range_with_len, sum_by}
use Rattle.std.specs.Io.KnownBytes.{Consumes, IsAtEnd}
use Rattle.std.proofs.KnownBytes.{Consumes-trans}
use Rattle.std.proofs.lemmas.Bool.{cases_lt, lt-ltb, le-ltb, eq-eqb, ne_eqb, ltb-true, ltb-false}
use Rattle.std.proofs.lemmas.Nat.{div-mul-add, le-div}
use Rattle.std.proofs.lemmas.List.{take_all, drop_at, drop-append-le, take-append-le, length-drop}
use Rattle.std.proofs.lemmas.List.FromFn.{map-range_with_len_more, sum_by-map-range_with_len_more}
use Rattle.rq_cast.specs.PartReading.{ReadsPart}
use Rattle.rq_cast.specs.Sent.{Sending}
use Rattle.rq_cast.specs.SentParts.{bytes_of_part, last_index, IsRead, names_of}

-- ---- the parts of what was read, and of more

module _ (size : ℕ) (input more : List ℕ) where
  -- a part that is whole stays
  bytes_same : (i : ℕ) → (i + 1) * size ≤ length input → bytes_of_part size (input ++ more) i ≡ bytes_of_part size input i
  bytes_same i whole =
      let next : (i + 1) * size ≡ i * size + size = omega arith in
      ap (take size) (drop-append-le (i * size) input more (omega (arith, whole, next)))
      ∙ take-append-le size (drop (i * size) input) more (omega (arith, length-drop (i * size) input, whole, next))

  -- the next one
  bytes_next : (n : ℕ) → length input ≡ n * size → length more ≤ size → bytes_of_part size (input ++ more) n ≡ more
  bytes_next n whole few = ap (take size) (drop_at input more (n * size) whole) ∙ take_all size more few

  last_is : (n : ℕ) → length input ≡ n * size → length more < size → last_index size (input ++ more) ≡ n
  last_is n whole few = ap (λ k. k / size) (length-append input more ∙ ap (λ k. k + length more) whole) ∙ div-mul-add n size (length more) few

-- none that is whole is the last one
not_last : (size : ℕ) (input : List ℕ) (i : ℕ) → 0 < size → (i + 1) * size ≤ length input → (i == last_index size input) ≡ false
not_last size input i some whole =
    let past : i + 1 ≤ last_index size input = le-div (i + 1) (length input) size some whole in
    ne_eqb i (last_index size input) (λ same. omega (arith, past, same))

-- the next one is the last where it has fewer bytes
is_last_next : (size : ℕ) (input more : List ℕ) (n : ℕ) → 0 < size → length input ≡ n * size → length more ≤ size
    → (n == last_index size (input ++ more)) ≡ nat_lt (length more) size
is_last_next size input more n some whole few = elim (cases_lt (length more) size) [
  | inl less ↦ eq-eqb n (last_index size (input ++ more)) (sym (last_is size input more n whole less)) ∙ sym (lt-ltb (length more) size less)
  | inr all ↦
      let next : (n + 1) * size ≡ n * size + size = omega arith in
      not_last size (input ++ more) n some (omega (arith, length-append input more, whole, all, next)) ∙ sym (le-ltb (length more) size all)
]

-- The next part of an input is read, behind whole ones.
pub record ReadsNext (size : ℕ) (before after : Option (List ℕ)) (input bytes : List ℕ) (n : ℕ) (is_last : Bool) : Type 0 where
  pub taken : Consumes before after (input ++ bytes)
  pub long : length (input ++ bytes) ≡ n * size + length bytes
  pub no_further : length (input ++ bytes) ≤ (n + 1) * size
  pub last : is_last ≡ (n == last_index size (input ++ bytes))
  pub are : bytes ≡ bytes_of_part size (input ++ bytes) n
  pub read : IsRead size (input ++ bytes) n after
  pub whole : is_last ≡ false → length (input ++ bytes) ≡ (n + 1) * size
  pub ends : is_last ≡ true → IsAtEnd after × (last_index size (input ++ bytes) ≡ n)

pub reads_next : (size : ℕ) → 0 < size → (before mid after : Option (List ℕ)) (input bytes : List ℕ) (n : ℕ) (is_last : Bool) → Consumes before mid input
    → length input ≡ n * size → is_last ≡ nat_lt (length bytes) size → ReadsPart mid after size bytes → ReadsNext size before after input bytes n is_last
reads_next size some before mid after input bytes n is_last taken whole short reads =
    let next : (n + 1) * size ≡ n * size + size = omega arith in
    let long = length-append input bytes ∙ ap (λ k. k + length bytes) whole in
    let ended : length bytes < size → IsAtEnd after × (last_index size (input ++ bytes) ≡ n) = λ less. (reads.at_end less, last_is size input bytes n whole less) in
    record {
      taken = Consumes-trans before mid after input bytes taken reads.taken;
      long = long;
      no_further = omega (arith, long, reads.few, next);
      last = short ∙ sym (is_last_next size input bytes n some whole reads.few);
      are = sym (bytes_next size input bytes n whole reads.few);
      read = elim (cases_lt (length bytes) size) [
        | inl less ↦ inr (ended less)
        | inr all ↦ inl (omega (arith, long, all, reads.few, next))
      ];
      whole = λ more_to_come.
          let all : size ≤ length bytes = ltb-false (length bytes) size (sym short ∙ more_to_come) in
          omega (arith, long, all, reads.few, next);
      ends = λ last. ended (ltb-true (length bytes) size (sym short ∙ last));
    }

-- ---- what is made of the first n of them, and of one more

abbrev pub with_next : {X : Type 0} → (ℕ → X) → ℕ → X → ℕ → X
with_next of n x i = if nat_lt i n then of i else x

-- what is made of the first n is the same by what is the same there
map_same : {X : Type 0} (f g : ℕ → X) (n : ℕ) → ((i : ℕ) → i < n → f i ≡ g i) → map f (range_with_len 0 n) ≡ map g (range_with_len 0 n)
map_same f g zero same = refl
map_same {X} f g (suc n) same =
    let next : n + 1 ≡ suc n = omega arith in
    let before : map f (range_with_len 0 n) ≡ map g (range_with_len 0 n) = map_same f g n (λ i below. same i (omega (arith, below))) in
    let here : f n ≡ g n = same n (omega arith) in
    ap (λ m. map f (range_with_len 0 m)) (sym next) ∙ map-range_with_len_more f 0 n n (omega arith)
    ∙ (λ j. before j ++ (here j ∷ []))
    ∙ sym (map-range_with_len_more g 0 n n (omega arith)) ∙ ap (λ m. map g (range_with_len 0 m)) next

-- one name more
pub names_next : (of : ℕ → Sending) (n : ℕ) → names_of of (n + 1) ≡ names_of of n ++ ((of n).head.name ∷ [])
names_next of n = map-range_with_len_more (λ i. (of i).head.name) 0 n n (omega arith)

module _ {X : Type 0} (of : ℕ → X) (n : ℕ) (x : X) where
  pub with_next_below : (i : ℕ) → i < n → with_next of n x i ≡ of i
  with_next_below i below = ap (λ b. if b then of i else x) (lt-ltb i n below)

  pub with_next_at : with_next of n x n ≡ x
  with_next_at = ap (λ b. if b then of n else x) (le-ltb n n (omega arith))

  -- what is so of each
  pub each_next : (P : ℕ → X → Type 0) → ((i : ℕ) → i < n → P i (of i)) → P n x → (i : ℕ) → i < n + 1 → P i (with_next of n x i)
  each_next P each here i below = elim (cases_lt i n) [
    | inl before ↦ subst (P i) (sym (with_next_below i before)) (each i before)
    | inr past ↦
        let there : n ≡ i = omega (arith, below, past) in
        subst (λ k. P k (with_next of n x k)) there (subst (P n) (sym with_next_at) here)
  ]

  -- what they have in all
  pub sum_next : (size : X → ℕ) → sum_by size (map (with_next of n x) (range_with_len 0 (n + 1))) ≡ sum_by size (map of (range_with_len 0 n)) + size x
  sum_next size =
      sum_by-map-range_with_len_more size (with_next of n x) 0 n n (omega arith)
      ∙ (λ j. sum_by size (map_same (with_next of n x) of n with_next_below j) + size (with_next_at j))

  -- their names
  module _ (sends : X → Sending) where
    names_before : (m : ℕ) → m ≤ n → names_of (λ k. sends (with_next of n x k)) m ≡ names_of (λ k. sends (of k)) m
    names_before m few =
        map_same (λ k. (sends (with_next of n x k)).head.name) (λ k. (sends (of k)).head.name) m
        (λ k below. ap (λ (y : X). (sends y).head.name) (with_next_below k (omega (arith, few, below))))

    pub names_all : names_of (λ k. sends (with_next of n x k)) (n + 1) ≡ names_of (λ k. sends (of k)) n ++ ((sends x).head.name ∷ [])
    names_all = names_next (λ k. sends (with_next of n x k)) n ∙ (λ j. names_before n (omega arith) j ++ ((sends (with_next_at j)).head.name ∷ []))

-- ---- parts that are made ready

-- what is so of a part is so of whatever is the same
pub part_same : {X : Type 0} (P : Bool → List (List ℕ) → List ℕ → X → Type 0) {b b' : Bool} {names names' : List (List ℕ)} {bytes bytes' : List ℕ} {x x' : X}
    → b ≡ b' → names ≡ names' → bytes ≡ bytes' → x ≡ x' → P b names bytes x → P b' names' bytes' x'
part_same P {b} {b'} {names} {names'} {bytes} {bytes'} {x} {x'} last named are is ready =
    subst (P b' names' bytes') is
    (subst (λ xs. P b' names' xs x) are
    (subst (λ ns. P b' ns bytes x) named
    (subst (λ t. P t names bytes x) last ready)))

-- a part of the first n, which are whole, when more is read
module _ (size : ℕ) (input more : List ℕ) (some : 0 < size) (n : ℕ) (whole : n * size ≤ length input) (i : ℕ) (below : i < n) where
  part_whole : (i + 1) * size ≤ length input
  part_whole =
      let least : (i + 1) * size ≤ n * size = mul-le-mul_right size (omega (arith, below)) in
      omega (arith, least, whole)

  pub still_first : (i == last_index size input) ≡ (i == last_index size (input ++ more))
  still_first =
      let there : (i + 1) * size ≤ length (input ++ more) = omega (arith, part_whole, length-append input more) in
      not_last size input i some part_whole ∙ sym (not_last size (input ++ more) i some there)

  pub bytes_stay : bytes_of_part size input i ≡ bytes_of_part size (input ++ more) i
  bytes_stay = sym (bytes_same size input more i part_whole)

module _ {X : Type 0} (P : Bool → List (List ℕ) → List ℕ → X → Type 0) (sends : X → Sending) (size : ℕ) where
  -- the part of an index is made ready, behind those before it, and the last one as such
  abbrev pub IsReady : List ℕ → (ℕ → X) → ℕ → X → Type 0
  IsReady input of i x = P (i == last_index size input) (names_of (λ k. sends (of k)) i) (bytes_of_part size input i) x

  pub ready_longer : (input more : List ℕ) → 0 < size → (of : ℕ → X) (n : ℕ) → n * size ≤ length input → ((i : ℕ) → i < n → IsReady input of i (of i))
      → (i : ℕ) → i < n → IsReady (input ++ more) of i (of i)
  ready_longer input more some of n whole each i below =
      part_same P (still_first size input more some n whole i below) refl (bytes_stay size input more some n whole i below) refl (each i below)

  pub ready_next : (input : List ℕ) (of : ℕ → X) (n : ℕ) (x : X) → ((i : ℕ) → i < n → IsReady input of i (of i)) → IsReady input of n x
      → (i : ℕ) → i < n + 1 → IsReady input (with_next of n x) i (with_next of n x i)
  ready_next input of n x each here =
      let named = λ (k : ℕ) (few : k ≤ n) (y : X) (ready : IsReady input of k y). part_same P refl (sym (names_before of n x sends k few)) refl refl ready in
      each_next of n x (IsReady input (with_next of n x)) (λ i below. named i (omega (arith, below)) (of i) (each i below)) (named n (omega arith) x here)
