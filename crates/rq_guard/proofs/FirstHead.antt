-- The first wanted cell in bytes that come in pieces.
use Rattle.std.proofs.Common.{◌≡◌, ◌⊎◌, ℕ, ◌+◌, ◌-◌, ◌^◌, ◌<◌, ◌≤◌, List, [], ◌++◌, length, drop, Option, Some, None, refl, sym, ap, subst, ◌∙◌, append_assoc, append-nil, length-append, arith, inl, inr}
use Rattle.std.specs.Io.KnownBytes.{Consumes, IsAtEnd}
use Rattle.std.proofs.KnownBytes.{Consumes-trans}
use Rattle.std.proofs.lemmas.Bool.{cases_lt}
use Rattle.std.proofs.lemmas.List.{drop-append-le, drop-drop, length-drop}
use Rattle.rq_cells.specs.declared.head.Head.{Head}
use Rattle.rq_cells.specs.declared.wanted.Heads.{Heads}
use Rattle.rq_cells.specs.declared.wanted.Search.TheVariants.{NotYet}
use Rattle.rq_cells.specs.Wanted.{Wish, wanted_at, NoneBefore, IsFirstWanted, HasNoWanted}
use Rattle.rq_cells.specs.Search.{Searching, left_behind}
use Rattle.rq_guard.specs.StreamReading.{FindsFirst, IsLooking}

module _ (w : Wish) (before mid after : Option (List ℕ)) (reads : ℕ) (s : Searching) (t : IsLooking w before mid reads s) where
  -- nothing more comes
  pub looking_ends : Consumes mid after [] → IsAtEnd after ⊎ (2 ^ 64 - 1 ≤ reads) → FindsFirst w before after None
  looking_ends rest ended = (
    t.past,
    subst (Consumes before after) (append-nil t.past) (Consumes-trans before mid after t.past [] t.read rest),
    elim ended [ inl at ↦ inl at | inr many ↦ inr (omega (arith, many, t.many)) ],
    t.none,
  )

  module _ (piece : List ℕ) (some : 0 < length piece) (came : Consumes mid after piece) where
    abbrev now : List ℕ
    now = t.past ++ piece

    abbrev there : List ℕ
    there = s.bytes ++ piece

    from_there : drop t.from now ≡ there
    from_there = drop-append-le t.from t.past piece t.within ∙ ap (λ xs. xs ++ piece) (sym t.kept)

    longer : t.from + length there ≡ length now
    longer =
        omega (arith, length-append s.bytes piece, length-append t.past piece, ap length t.kept, length-drop t.from t.past, t.within)

    read : Consumes before after now
    read = Consumes-trans before mid after t.past piece t.read came

    -- a place from the kept ones on
    at_kept : (i j : ℕ) → t.from + j ≡ i → drop i now ≡ drop j there
    at_kept i j is = ap (λ n. drop n now) (sym is) ∙ sym (drop-drop j t.from now) ∙ ap (drop j) from_there

    -- before those none begins
    before_kept : (rest : List ℕ) (i : ℕ) → i < t.from → wanted_at w (drop i now ++ rest) ≡ None
    before_kept rest i below =
        let cut : drop i now ++ rest ≡ drop i t.past ++ (piece ++ rest) =
        ap (λ xs. xs ++ rest) (drop-append-le i t.past piece (omega (arith, below, t.within))) ∙ append_assoc (drop i t.past) piece rest in
        ap (wanted_at w) cut ∙ t.never (piece ++ rest) i below

    none_kept : (i : ℕ) → i < t.from → wanted_at w (drop i now) ≡ None
    none_kept i below = ap (wanted_at w) (sym (append-nil (drop i now))) ∙ before_kept [] i below

    -- none at the first places, where none is at the first of those that are kept
    none_to : (n : ℕ) → NoneBefore w there n → NoneBefore w now (t.from + n)
    none_to n none i below = elim (cases_lt i t.from) [
      | inl lt ↦ none_kept i lt
      | inr past ↦
          let j : t.from + (i - t.from) ≡ i = omega (arith, past) in
          ap (wanted_at w) (at_kept i (i - t.from) j) ∙ none (i - t.from) (omega (arith, below, past))
    ]

    pub finds : (place : ℕ) (h : Head) → IsFirstWanted w there place h → FindsFirst w before after (Some h)
    finds place h first = (
      now,
      t.from + place,
      read,
      record {
        within = omega (arith, first.within, longer);
        found = ap (wanted_at w) (at_kept (t.from + place) place refl) ∙ first.found;
        first = none_to place first.first;
      },
    )

    pub looks_on : (place : ℕ) (heads every : Heads) (new : Searching) → HasNoWanted w there place heads every
        → new ≡ left_behind s piece (NotYet place heads every) → IsLooking w before after (reads + 1) new
    looks_on place heads every new held left = record {
      past = now;
      read = read;
      many = omega (arith, length-append t.past piece, some, t.many);
      wish = ap (λ (x : Searching). x.wish) left ∙ t.wish;
      from = t.from + place;
      within = omega (arith, held.within, longer);
      kept = ap (λ (x : Searching). x.bytes) left ∙ sym (at_kept (t.from + place) place refl);
      never = λ rest i below. elim (cases_lt i t.from) [
        | inl lt ↦ before_kept rest i lt
        | inr past ↦
            let j : t.from + (i - t.from) ≡ i = omega (arith, past) in
            ap (λ xs. wanted_at w (xs ++ rest)) (at_kept i (i - t.from) j) ∙ held.never rest (i - t.from) (omega (arith, below, past))
      ];
      none = subst (NoneBefore w now) longer (none_to (length there) held.none);
    }
