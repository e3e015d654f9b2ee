-- What blocks that are written one after another leave behind a writer.
use Rattle.std.proofs.Common.{◌≡◌, ℕ, zero, suc, ◌+◌, ◌<◌, ◌≤◌, min, List, [], ◌++◌, length, take, Option, Some, None, sym, ap, ◌∙◌, subst, arith, inl, inr, append-nil, append_assoc}
use Rattle.std.specs.Prelude.{Ok, Err, IsSome, unwrap_or}
use Rattle.std.specs.Io.KnownBytes.{Appends, Keeps}
use Rattle.std.proofs.KnownBytes.{Appends-trans, Appends-kept}
use Rattle.std.proofs.Math.Seq.{take-append-add}
use Rattle.std.proofs.lemmas.Bool.{cases_lt}
use Rattle.std.proofs.lemmas.List.{take-append-le, take_all, take_min}
use Rattle.rq_standard.specs.DecoderState.{State, result_of}
use Rattle.rq_standard.proofs.BlockCuts.{pieces}
use Rattle.rq_standard.proofs.ObjectAnswers.{joined_some, joined_each}
use Rattle.raptorq.specs.BlockBytes.{answered_part}
use Rattle.raptorq.specs.Decoder.{state_of}
use Rattle.raptorq.specs.declared.decoder.object.Decoder.{Decoder}
use Rattle.raptorq.proofs.AnsweredParts.{parts_of_decoder}
use Rattle.raptorq.proofs.ObjectBlocks.{unwrapped}
use Rattle.rq_streams.specs.declared.run.Outcome.TheVariants.{Written}
use Rattle.rq_streams.specs.declared.run.Stop.{Stop}
use Rattle.rq_streams.specs.declared.run.Stop.TheVariants.{Fault}
use Rattle.rq_streams.specs.Ends.{Ends}

-- what is written of a block: nothing where it isn't answered
abbrev pub written_part : State → ℕ → List ℕ
written_part s b = unwrap_or (answered_part s b) []

-- what is written of the first n
abbrev pub written_parts : State → ℕ → List ℕ
written_parts s n = pieces (written_part s) n

-- all of them are the object, where it is answered
pub written_object : (d : Decoder) → IsSome (result_of (state_of d)) → written_parts (state_of d) (state_of d).configuration.source_blocks ≡ unwrap_or (result_of (state_of d)) []
written_object d whole =
    let s = state_of d in
    let makes = parts_of_decoder d in
    let z = s.configuration.source_blocks in
    let each = joined_each (answered_part s) z (subst IsSome (sym makes) whole) in
    let all = joined_some (written_part s) (answered_part s) z (λ b below. unwrapped (answered_part s b) (each b below)) in
    ap (λ o. unwrap_or o []) (sym all ∙ makes)

-- one block more
pub written_next : (s : State) (n : ℕ) (bytes : List ℕ) (old mid new : Option (List ℕ)) → Some bytes ≡ answered_part s n → Appends old mid (written_parts s n) → Appends mid new bytes → Appends old new (written_parts s (n + 1))
written_next s n bytes old mid new is so more =
    let next : suc n ≡ n + 1 = omega arith in
    subst (λ m. Appends old new (written_parts s m)) next
    (subst (λ xs. Appends old new (written_parts s n ++ xs)) (ap (λ o. unwrap_or o []) is) (Appends-trans old mid new (written_parts s n) bytes so more))

-- one that isn't answered
pub written_not : (s : State) (n : ℕ) (old new : Option (List ℕ)) → None ≡ answered_part s n → Appends old new (written_parts s n) → Appends old new (written_parts s (n + 1))
written_not s n old new is so =
    let next : suc n ≡ n + 1 = omega arith in
    let none : written_parts s n ≡ written_parts s n ++ written_part s n = sym (append-nil (written_parts s n)) ∙ ap (λ o. written_parts s n ++ unwrap_or o []) is in
    subst (λ m. Appends old new (written_parts s m)) next (subst (Appends old new) none so)

-- the first pieces stand in front
front_of : (f : ℕ → List ℕ) (n m : ℕ) → n ≤ m → (rest : List ℕ) × (pieces f m ≡ pieces f n ++ rest)
front_of f n zero h = let is : zero ≡ n = omega arith in ([], ap (pieces f) is ∙ sym (append-nil (pieces f n)))
front_of f n (suc m) h = elim (cases_lt n (suc m)) [
  | inl lt ↦ let q = front_of f n m (omega arith) in (q.0 ++ f m, ap (λ xs. xs ++ f m) q.1 ∙ append_assoc (pieces f n) q.0 (f m))
  | inr past ↦ let is : suc m ≡ n = omega arith in ([], ap (pieces f) is ∙ sym (append-nil (pieces f n)))
]

-- a beginning of a piece behind those before it is a beginning of them all
beginning_of : (xs ys zs : List ℕ) (n : ℕ) → take (length xs + min n (length ys)) ((xs ++ ys) ++ zs) ≡ xs ++ take n ys
beginning_of xs ys zs n =
    let k = min n (length ys) in
    ap (take (length xs + k)) (append_assoc xs ys zs) ∙ take-append-add xs (ys ++ zs) k ∙ ap (λ l. xs ++ l) (take-append-le k ys zs (omega arith) ∙ take_min n ys)

-- where a block isn't written to its end, a beginning of the object is there
pub written_beginning : (s : State) (n m count : ℕ) (bytes : List ℕ) (old mid new : Option (List ℕ)) → n < count → Some bytes ≡ answered_part s n → Appends old mid (written_parts s n) → Appends mid new (take m bytes)
    → (k : ℕ) × Appends old new (take k (written_parts s count))
written_beginning s n m count bytes old mid new below is so more =
    let front = written_parts s n in
    let q = front_of (written_part s) (suc n) count (omega arith) in
    let part : bytes ≡ written_part s n = ap (λ o. unwrap_or o []) is in
    let all : (front ++ bytes) ++ q.0 ≡ written_parts s count = ap (λ xs. (front ++ xs) ++ q.0) part ∙ sym q.1 in
    let k = length front + min m (length bytes) in
    (k, subst (Appends old new) (sym (beginning_of front bytes q.0 m) ∙ ap (take k) all) (Appends-trans old mid new front (take m bytes) so more))

-- ---- a last flush

module _ (made old mid new : Option (List ℕ)) (some : IsSome made) (so : Appends old mid (unwrap_or made [])) (kept : Keeps mid new) where
  pub flushed : Ends (Ok Written) old new (Ok made)
  flushed = (unwrap_or made [], ap (λ o. Ok o) (unwrapped made some), Appends-kept old mid new (unwrap_or made []) so kept)

  pub not_flushed : (stop : Stop) → stop ≡ Fault → Ends (Err stop) old new (Ok made)
  not_flushed stop is =
      let object = unwrap_or made [] in
      subst (λ e. Ends (Err e) old new (Ok made)) (sym is) (inr (object, length object, ap (λ o. Ok o) (unwrapped made some), subst (Appends old new) (sym (take_all (length object) object (omega arith))) (Appends-kept old mid new object so kept)))
