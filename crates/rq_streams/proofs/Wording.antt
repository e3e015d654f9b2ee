-- What words ask for.
use Rattle.std.proofs.Common.{◌≡◌, ℕ, ◌^◌, ◌<◌, List, [], ◌∷◌, length, map, get_or, Option, Some, Result, Ok, Err, refl, sym, ap, ◌∙◌, subst, arith, Global, Bool, true}
use Rattle.std.specs.Prelude.{codes, string_bytes}
use Rattle.std.specs.declared.string.String.{String}
use Rattle.std.specs.Result.{result_ok}
use Rattle.std.specs.Str.{bytes_eq}
use Rattle.std.proofs.lemmas.Slice.Eq.{bytes_eq-Decides}
use Rattle.std.specs.Str.Parse.{ParsesUnsigned, digits_value, without_leading_plus}
use Rattle.rq_streams.specs.declared.jobs.Job.{Job}
use Rattle.rq_streams.specs.declared.jobs.Job.TheVariants.{Send, Receive}
use Rattle.rq_streams.specs.Asked.{AsksFor, IsNumberOf}

abbrev wanted_job : Job → Option Job
wanted_job j = Some j

abbrev OnlyAsksFor : Job → List (List ℕ) → Job → Type 0
OnlyAsksFor asked words wanted = (wanted_job asked ≡ wanted_job wanted → AsksFor wanted words) × (AsksFor wanted words → wanted_job asked ≡ wanted_job wanted)

pub asks_receive : (words : List (List ℕ)) → words ≡ codes "receive" ∷ [] → (wanted : Job) → OnlyAsksFor Receive words wanted
asks_receive words is Receive = (λ _. is, λ _. refl)
asks_receive words is (Send size repair) = (λ e. absurd (cc e), λ (s, r, e, n, m). absurd (let three : 1 ≡ 3 = ap length (sym is ∙ e) in cc three))

same_number : (bits : ℕ) (text other : List ℕ) (n m : ℕ) → IsNumberOf bits text n → IsNumberOf bits other m → text ≡ other → n ≡ m
same_number bits text other n m h k e = sym h.value ∙ ap (λ t. digits_value 10 (without_leading_plus t)) e ∙ k.value

pub asks_send : (words : List (List ℕ)) (s r : List ℕ) (size repair : ℕ) → words ≡ codes "send" ∷ s ∷ r ∷ [] → IsNumberOf 16 s size → IsNumberOf 32 r repair → (wanted : Job) → OnlyAsksFor (Send size repair) words wanted
asks_send words s r size repair is n m Receive = (λ e. absurd (cc e), λ e. absurd (let three : 3 ≡ 1 = ap length (sym is ∙ e) in cc three))
asks_send words s r size repair is n m (Send a b) = (
  λ e. let x : size ≡ a = cc in let y : repair ≡ b = cc in (s, r, is, subst (IsNumberOf 16 s) x n, subst (IsNumberOf 32 r) y m),
  λ (t, u, e, k, l).
      let same : codes "send" ∷ s ∷ r ∷ [] ≡ codes "send" ∷ t ∷ u ∷ [] = sym is ∙ e in
      let x : s ≡ t = cc in
      let y : r ≡ u = cc in
      let first = same_number 16 s t size a n k x in
      let second = same_number 32 r u repair b m l y in
      λ i. wanted_job (Send (first i) (second i)),
)

-- what `parse` read
pub number_by : {E : Type 0} (bits : ℕ) (text : List ℕ) (r : Result ℕ E) (n : ℕ) → ParsesUnsigned bits 10 text r → Some n ≡ result_ok r → IsNumberOf bits text n
number_by bits text (Ok x) n h e =
    let same : n ≡ x = cc in
    record { digits = h.0.0; value = sym (same ∙ h.1); fits = subst (λ k. k < 2 ^ bits) (sym (same ∙ h.1)) h.0.1 }
number_by bits text (Err e) n h is = absurd (cc is)

abbrev Word : Type 0
Word = String Global

-- a list of one word, and of three
pub one_word : (words : List Word) (a : Word) → length words ≡ 1 → a ≡ get_or words 0 a → map string_bytes words ≡ string_bytes a ∷ []
one_word [] a long is = absurd (cc long)
one_word (x ∷ []) a long is = ap (λ w. string_bytes w ∷ []) (sym is)
one_word (x ∷ y ∷ words) a long is = absurd (omega (arith, long))

pub three_words : (words : List Word) (a b d : Word) → length words ≡ 3 → a ≡ get_or words 0 a → b ≡ get_or words 1 b → d ≡ get_or words 2 d → map string_bytes words ≡ string_bytes a ∷ string_bytes b ∷ string_bytes d ∷ []
three_words [] a b d long x y z = absurd (omega (arith, long))
three_words (p ∷ []) a b d long x y z = absurd (omega (arith, long))
three_words (p ∷ q ∷ []) a b d long x y z = absurd (omega (arith, long))
three_words (p ∷ q ∷ r ∷ []) a b d long x y z = λ i. string_bytes (sym x i) ∷ string_bytes (sym y i) ∷ string_bytes (sym z i) ∷ []
three_words (p ∷ q ∷ r ∷ s ∷ words) a b d long x y z = absurd (omega (arith, long))

-- a text that passed `==`
pub text_is : (b : Bool) (text other : List ℕ) → b ≡ bytes_eq text other → b ≡ true → text ≡ other
text_is b text other e so = (bytes_eq-Decides text other).0 (sym e ∙ so)
