-- Digests one behind another, and those of symbols of one length.
use Rattle.std.proofs.Common.{◌≡◌, ℕ, zero, suc, ◌+◌, ◌<◌, List, [], ◌∷◌, ◌++◌, length, take, drop, map, get_or, arith, sym, ap, ◌∙◌, append-nil, append_assoc}
use Rattle.std.specs.List.{All, concat}
use Rattle.std.proofs.lemmas.List.{length-drop, length-take-le}
use Rattle.std.proofs.lemmas.List.Elements.{All-map, All-weaker}
use Rattle.std.proofs.Math.Seq.{take-append_seam}
use Rattle.rq_digests.specs.Messages.{AreOfOneLength}
use Rattle.rq_cells.specs.declared.long_heads.LongHead.{LongHead}
use Rattle.rq_cells.specs.LongHeads.{IsLong, symbol_at}

pub concat_next : (xs : List (List ℕ)) (i : ℕ) (d : List ℕ) → i < length xs → concat (take (suc i) xs) ≡ concat (take i xs) ++ get_or xs i d
concat_next [] i d below = absurd (omega (arith, below))
concat_next (x ∷ xs) zero d below = append-nil x
concat_next (x ∷ xs) (suc i) d below = ap (λ ys. x ++ ys) (concat_next xs i d (omega (arith, below))) ∙ sym (append_assoc x (concat (take i xs)) (get_or xs i d))

-- symbols of one length are messages of one length
pub of_one_length : (size : ℕ) (ms : List (List ℕ)) → All (λ m. length m ≡ size) ms → AreOfOneLength ms
of_one_length size ms each =
    All-weaker (λ m. length m ≡ size) (λ m. All (λ n. length n ≡ length m) ms)
    (λ m is. All-weaker (λ n. length n ≡ size) (λ n. length n ≡ length m) (λ n same. same ∙ sym is) ms each) ms each

-- where bytes enough stand for a cell, its symbol has its length
pub symbol_length : (size : ℕ) (bytes : List ℕ) (h : LongHead) → IsLong size bytes h → length (symbol_at size bytes h) ≡ size
symbol_length size bytes h long = length-take-le size (drop (h.at + 56) bytes) (omega (arith, long, length-drop (h.at + 56) bytes))

pub symbols_of_one_length : (size : ℕ) (bytes : List ℕ) (heads : List LongHead) → All (IsLong size bytes) heads → AreOfOneLength (map (symbol_at size bytes) heads)
symbols_of_one_length size bytes heads long =
    of_one_length size (map (symbol_at size bytes) heads)
    (All-map (λ m. length m ≡ size) (symbol_at size bytes) heads (All-weaker (IsLong size bytes) (λ h. length (symbol_at size bytes h) ≡ size) (symbol_length size bytes) heads long))

-- a buffer that is filled
pub filled : {A : Type 0} (n : ℕ) (made behind : List A) → n ≡ length made → take n (made ++ drop (length made) behind) ≡ made
filled n made behind is = ap (λ k. take k (made ++ drop (length made) behind)) is ∙ take-append_seam made (drop (length made) behind)
