-- A `&mut [T]` is lent on as two of its ranges, and the slice follows what is written. Assumes `Logic`.
--     lends_both     both ranges for writing
--     lends_pair     the first range for writing, and the second for reading
use mathlib.Core.Path.{◌≡◌, refl, sym, ap, ◌∙◌}
use mathlib.Core.Logic.{◌⊎◌}
use Prim.Native.Nat.{ℕ, zero, suc, ◌+◌, ◌*◌, ◌^◌, ◌<◌, ◌≤◌}
use prog.Memory.{capped}
use prog.Capped.{capped_is}
use native.Mathlib.Omega.{arith}
use native.Mathlib.Nat.{add-mul, mul-le-mul_right, suc-mul, zero-mul}
use mathlib.Core.List.{List, [], ◌∷◌, ◌++◌}
use lib.ListN.{length}
use seplogic.Ra.Ura.{Ura}
use mir.Syntax.{Lifetime}
use mir.Val.{Val, vstruct, vcons, vnil}
use base.Logic.{SProp, ent, sep, ex}
use base.Stored.{coded_list}
use base.Fml.{Lft, GName, Share, ftrue, flft, fobs, fbor, fhide, fseps, Incl-refl}
use base.Fraction.{full_share}
use types.Logic.{Logic, sem}
use types.Kit.{‵, ◌⊛◌, raw, ◌$◌, ◌∵◌, !, qed, by, move, keep, drop, use1, use2, use3, fsplit, fsplit3, fjoin, fpack, updating, await, now, later, some, group, pick, show, done, split, split3, rewrite, feq_l, feq_i}
use types.SemTy.{SemTy, cells, Arr, Body}
use types.Follow.{takes_two, takes_beside}
use types.Mut.{open_ref}
use denote.RattleType.{RattleType, Valss}
use denote.Struct.Struct.{within}
use denote.Struct.Declared.{shape}
use denote.Struct.Tuple.{Tuple, tuple_type}
use denote.Memory.{mem, shared_of}
use denote.Array.{Array}
use denote.Slice.{MutSlice, ShrSlice, Room, slice_val, shr_slice_at, elements_shared}
use denote.Index.{row, whole_in, whole_out}
use denote.Shadow.{pure_i}
use denote.Shares.{shares_each}
use denote.Param.Laws.{Laws}
use denote.Steps.{nothing}
use contract.BorrowLft.{◌⊑◌}
use denote.Follow.{follows, follows_both, both_by}
use denote.FollowSlice.{heres_id, slice_of}
use borrow.Table.Elements.{at, at_mul, cut_app, join_app}
use Rattle.std.proofs.Common.{⊎_elim}
use Rattle.rq_bytes.specs.Ranges.{range_of, with_range, with_ranges}
use Rattle.rq_bytes.proofs.RangeFacts.{Around, around, rewritten, rewritten-up, rewritten-down, length-range, length-with_range, second_kept}

-- where the product fits a word, the count is zero or the size fits too
pub uncapped : (i k : ℕ) → i * k < 2 ^ 64 → i * capped k ≡ i * k
uncapped zero k h = zero-mul (capped k) ∙ sym (zero-mul k)
uncapped (suc i) k h = let step = suc-mul i k in ap (λ (j : ℕ). suc i * j) (capped_is k (omega arith))

-- some of the elements take no more bytes than all
pub fewer_bytes : (k n size : ℕ) → k ≤ n → n * size < 2 ^ 63 → k * size < 2 ^ 63
fewer_bytes k n size le fit = let less = mul-le-mul_right size le in omega arith

-- a pair is made of its two values
abbrev pub pair_val : Val → Val → Val
pair_val u v = vstruct (vcons u (vcons v vnil))

pub pair_of : {M : Type 1} {𝓤 : Ura M} (𝓛 : Logic 𝓤) (R S : RattleType) (x : R.Denot) (y : S.Denot) (u v : Val)
    → ent 𝓤 (sep 𝓤 (sem 𝓛 (R.own_val x (u ∷ []))) (sem 𝓛 (S.own_val y (v ∷ [])))) (sem 𝓛 ((Tuple (R ∷ S ∷ [])).own_val (x, y) (pair_val u v ∷ [])))
pair_of 𝓛 R S x y u v =
    let fields : List RattleType = R ∷ S ∷ [] in
    qed 𝓛 (‵ (R.own_val x (u ∷ [])) ∷ ‵ (S.own_val y (v ∷ [])) ∷ []) ∵ nothing ! $ move ! (2 ∷ 0 ∷ []) $ fjoin ! $ move ! (1 ∷ 0 ∷ []) $ fjoin ! $ feq_i ! (List Val) (pair_val u v ∷ []) (pair_val u v ∷ []) refl $ fjoin ! $
    fpack ! (Valss fields) (within (shape (tuple_type fields)) (x, (y, tt)) (pair_val u v ∷ [])) (u ∷ [], (v ∷ [], tt)) $ done !

-- ---- the cells
module _ {M : Type 1} {𝓤 : Ura M} (𝓛 : Logic 𝓤) (R : RattleType) (b o : ℕ) where
  abbrev s : ℕ
  s = (mem R).size

  -- where element i lies
  abbrev pub spot : ℕ → ℕ
  spot i = i * s + o

  ahead : (i n : ℕ) → at (spot i) s n ≡ spot (i + n)
  ahead i n = at_mul (spot i) s n ∙ (let both = add-mul i n s in omega arith)

  module _ (front gap back : List R.Denot) (low high n : ℕ) (f : length front ≡ low) (g : low + n + length gap ≡ high) where
    -- what stays
    abbrev pub Others : SProp 𝓤
    Others = sep 𝓤 (sem 𝓛 (cells (mem R) front b o)) (sep 𝓤 (sem 𝓛 (cells (mem R) gap b (spot (low + n)))) (sem 𝓛 (cells (mem R) back b (spot (high + n)))))

    module _ (us vs : List R.Denot) (u : length us ≡ n) (v : length vs ≡ n) where
      first : at o s (length front) ≡ spot low
      first = at_mul o s (length front) ∙ ap spot f

      second : at (spot low) s (length us) ≡ spot (low + n)
      second = ahead low (length us) ∙ ap (λ k. spot (low + k)) u

      third : at (spot (low + n)) s (length gap) ≡ spot high
      third = ahead (low + n) (length gap) ∙ ap spot g

      fourth : at (spot high) s (length vs) ≡ spot (high + n)
      fourth = ahead high (length vs) ∙ ap (λ k. spot (high + k)) v

      pub takes_out : ent 𝓤 (sem 𝓛 (cells (mem R) (front ++ (us ++ (gap ++ (vs ++ back)))) b o)) (sep 𝓤 (sem 𝓛 (cells (mem R) us b (spot low))) (sep 𝓤 (sem 𝓛 (cells (mem R) vs b (spot high))) Others))
      takes_out =
          let late : List R.Denot = vs ++ back in
          let after : List R.Denot = gap ++ late in
          let rest : List R.Denot = us ++ after in
          qed 𝓛 (‵ (cells (mem R) (front ++ rest) b o) ∷ []) ∵
          use1 𝓛 (‵ (cells (mem R) front b o) ⊛ ‵ (cells (mem R) rest b (at o s (length front)))) (cut_app 𝓛 (mem R) front rest b o) $ split ! $ move ! (1 ∷ []) $
          rewrite ! 0 (λ (p : ℕ). ‵ (cells (mem R) rest b p)) first refl $
          use1 𝓛 (‵ (cells (mem R) us b (spot low)) ⊛ ‵ (cells (mem R) after b (at (spot low) s (length us)))) (cut_app 𝓛 (mem R) us after b (spot low)) $ split ! $ move ! (1 ∷ []) $
          rewrite ! 0 (λ (p : ℕ). ‵ (cells (mem R) after b p)) second refl $
          use1 𝓛 (‵ (cells (mem R) gap b (spot (low + n))) ⊛ ‵ (cells (mem R) late b (at (spot (low + n)) s (length gap)))) (cut_app 𝓛 (mem R) gap late b (spot (low + n))) $ split ! $ move ! (1 ∷ []) $
          rewrite ! 0 (λ (p : ℕ). ‵ (cells (mem R) late b p)) third refl $
          use1 𝓛 (‵ (cells (mem R) vs b (spot high)) ⊛ ‵ (cells (mem R) back b (at (spot high) s (length vs)))) (cut_app 𝓛 (mem R) vs back b (spot high)) $ split ! $ move ! (1 ∷ []) $
          rewrite ! 0 (λ (p : ℕ). ‵ (cells (mem R) back b p)) fourth refl $
          move ! (3 ∷ 1 ∷ 4 ∷ 2 ∷ 0 ∷ []) $ done !

      pub puts_back : ent 𝓤 (sep 𝓤 (sem 𝓛 (cells (mem R) us b (spot low))) (sep 𝓤 (sem 𝓛 (cells (mem R) vs b (spot high))) Others)) (sem 𝓛 (cells (mem R) (front ++ (us ++ (gap ++ (vs ++ back)))) b o))
      puts_back =
          let late : List R.Denot = vs ++ back in
          let after : List R.Denot = gap ++ late in
          let rest : List R.Denot = us ++ after in
          qed 𝓛 (‵ (cells (mem R) us b (spot low)) ∷ ‵ (cells (mem R) vs b (spot high)) ∷ ‵ (cells (mem R) front b o) ∷ ‵ (cells (mem R) gap b (spot (low + n))) ∷ ‵ (cells (mem R) back b (spot (high + n))) ∷ []) ∵
          rewrite ! 4 (λ (p : ℕ). ‵ (cells (mem R) back b p)) (sym fourth) refl $ move ! (1 ∷ 4 ∷ []) $
          use2 𝓛 (‵ (cells (mem R) late b (spot high))) (join_app 𝓛 (mem R) vs back b (spot high)) $
          rewrite ! 0 (λ (p : ℕ). ‵ (cells (mem R) late b p)) (sym third) refl $ move ! (3 ∷ 0 ∷ []) $
          use2 𝓛 (‵ (cells (mem R) after b (spot (low + n)))) (join_app 𝓛 (mem R) gap late b (spot (low + n))) $
          rewrite ! 0 (λ (p : ℕ). ‵ (cells (mem R) after b p)) (sym second) refl $ move ! (1 ∷ 0 ∷ []) $
          use2 𝓛 (‵ (cells (mem R) rest b (spot low))) (join_app 𝓛 (mem R) us after b (spot low)) $
          rewrite ! 0 (λ (p : ℕ). ‵ (cells (mem R) rest b p)) (sym first) refl $ move ! (1 ∷ 0 ∷ []) $
          by ! (join_app 𝓛 (mem R) front rest b o)

-- ---- what is lent: runs `one` at p and `two` at p' of the slice under γ
module _ {M : Type 1} {𝓤 : Ura M} (𝓛 : Logic 𝓤) (ℓ : Lifetime) (κ : Lft) (q : Share) (b : ℕ) (γ : GName) (R : RattleType) (one two : List R.Denot) (p p' : ℕ) where
  open 𝓛 use {A}

  -- `one` for writing under the name δ
  abbrev pub Writes : (zs : List R.Denot) → ℕ → GName → SProp 𝓤
  Writes zs at δ = sem 𝓛 ((MutSlice ℓ κ R).own_val (record { ref_ptr = (b, at); ghost_name = δ; now = zs }) (slice_val (b, at) (length zs) ∷ []))

  abbrev pub BothLent : (List R.Denot → List R.Denot → List R.Denot) → GName × GName → SProp 𝓤
  BothLent F γs = sep 𝓤 (Writes one p γs.0) (sep 𝓤 (Writes two p' γs.1) (sep 𝓤 (A.lft κ q) (sem 𝓛 (follows_both (Array R 0) (Array R 0) (Array R 0) γ γs.0 γs.1 F))))

  abbrev pub PairLent : (List R.Denot → List R.Denot) → GName → SProp 𝓤
  PairLent G δ = sep 𝓤 (Writes one p δ)
      (sep 𝓤 (sem 𝓛 ((ShrSlice ℓ κ R).own_val (record { ref_ptr = (b, p'); now = two }) (slice_val (b, p') (length two) ∷ [])))
      (sep 𝓤 (A.lft κ q) (sem 𝓛 (follows (Array R 0) (Array R 0) γ δ G))))

-- ---- the loans of any two runs that come out of the cells and go back
module _ {M : Type 1} {𝓤 : Ura M} (𝓛 : Logic 𝓤) (ℓ : Lifetime) (κ : Lft) (q : Share) (b o : ℕ) (γ : GName) (R : RattleType) (xs one two : List R.Denot) (p p' : ℕ) (Rest : SProp 𝓤)
    (out : ent 𝓤 (sem 𝓛 (cells (mem R) xs b o)) (sep 𝓤 (sem 𝓛 (cells (mem R) one b p)) (sep 𝓤 (sem 𝓛 (cells (mem R) two b p')) Rest))) where
  open 𝓛 use {H, A}

  abbrev L : ℕ → SemTy
  L n = Arr (mem R) n

  module _ (F : List R.Denot → List R.Denot → List R.Denot)
      (back : (us vs : List R.Denot) → length us ≡ length one → length vs ≡ length two → ent 𝓤 (sep 𝓤 (sem 𝓛 (cells (mem R) us b p)) (sep 𝓤 (sem 𝓛 (cells (mem R) vs b p')) Rest)) (sem 𝓛 (cells (mem R) (F us vs) b o)))
      (long : (us vs : List R.Denot) → length us ≡ length one → length vs ≡ length two → length (F us vs) ≡ length xs) where
    put : (us vs : List R.Denot) → ent 𝓤 (sep 𝓤 (sem 𝓛 ((L (length one)).own_at us b p)) (sep 𝓤 (sem 𝓛 ((L (length two)).own_at vs b p')) Rest)) (sem 𝓛 ((L (length xs)).own_at (F us vs) b o))
    put us vs = qed 𝓛 (‵ ((L (length one)).own_at us b p) ∷ ‵ ((L (length two)).own_at vs b p') ∷ raw Rest ∷ []) ∵ fsplit ! $ feq_l ! (λ u. move ! (1 ∷ []) $ fsplit ! $ feq_l ! (λ v.
        move ! (1 ∷ 0 ∷ 2 ∷ []) $ use3 𝓛 (‵ (cells (mem R) (F us vs) b o)) (back us vs u v) $ feq_i ! ℕ (length (F us vs)) (length xs) (long us vs u v) $ fjoin ! $ done !))

    lends_two : Room R (length one) → Room R (length two) → (vs : List Val)
        → ent 𝓤 (sep 𝓤 (sem 𝓛 ((MutSlice ℓ κ R).own_val (record { ref_ptr = (b, o); ghost_name = γ; now = xs }) vs)) (A.lft κ q)) (H.⇛ (ex 𝓤 (BothLent 𝓛 ℓ κ q b γ R one two p p' F)))
    unfolding both_by
    lends_two r r' vs = qed 𝓛 (‵ ((MutSlice ℓ κ R).own_val (record { ref_ptr = (b, o); ghost_name = γ; now = xs }) vs) ∷ ‵ (flft κ q) ∷ []) ∵ updating ! $ fsplit3 ! $ drop ! $
        rewrite ! 0 (λ (l : List R.Denot). ‵ (fobs γ ((coded_list R.coded).code l))) (heres_id R xs) refl $ open_ref ! tt (L (length xs)) {b = b} {o = o} $ fsplit ! $ drop ! $
        use1 𝓛 (‵ (cells (mem R) one b p) ⊛ ‵ (cells (mem R) two b p') ⊛ raw Rest) out $ split3 ! $
        feq_i ! ℕ (length one) (length one) refl $ fjoin ! $ move ! (1 ∷ []) $ feq_i ! ℕ (length two) (length two) refl $ fjoin ! $ move ! (3 ∷ 4 ∷ 5 ∷ 1 ∷ 0 ∷ 2 ∷ []) $ group ! 6 $
        use1 𝓛 (later (some (λ (γs : GName × GName). (‵ (fobs γs.0 ((coded_list R.coded).code one)) ⊛ ‵ (fbor κ (Body (L (length one)) b p γs.0))) ⊛ (‵ (fobs γs.1 ((coded_list R.coded).code two)) ⊛ ‵ (fbor κ (Body (L (length two)) b p' γs.1)))
        ⊛ ‵ (flft κ q) ⊛ ‵ (follows_both (Array R 0) (Array R 0) (Array R 0) γ γs.0 γs.1 F))))
        (takes_two 𝓛 (L (length xs)) (L (length one)) (L (length two)) F κ q b o b p b p' γ Rest put ((coded_list R.coded).code xs) ((coded_list R.coded).code xs) one two) $ await ! tt $ pick ! (λ γs. split3 ! $
        use1 𝓛 (‵ ((MutSlice ℓ κ R).own_val (record { ref_ptr = (b, p); ghost_name = γs.0; now = one }) (slice_val (b, p) (length one) ∷ []))) (slice_of 𝓛 R ℓ κ b p γs.0 one r) $ move ! (1 ∷ []) $
        use1 𝓛 (‵ ((MutSlice ℓ κ R).own_val (record { ref_ptr = (b, p'); ghost_name = γs.1; now = two }) (slice_val (b, p') (length two) ∷ []))) (slice_of 𝓛 R ℓ κ b p' γs.1 two r') $ move ! (1 ∷ 0 ∷ []) $ now ! $ show ! (BothLent 𝓛 ℓ κ q b γ R one two p p' F) γs $ done !)

    -- the second run alone is read, so that it goes back as it was
    module _ (G : List R.Denot → List R.Denot) (kept : (us : List R.Denot) → length us ≡ length one → F us two ≡ G us) where
      put_one : (us : List R.Denot) → ent 𝓤 (sep 𝓤 (sem 𝓛 ((L (length one)).own_at us b p)) (sep 𝓤 (sem 𝓛 (fseps (row R full_share two b p' ∷ []))) Rest)) (sem 𝓛 ((L (length xs)).own_at (G us) b o))
      unfolding fseps
      put_one us = qed 𝓛 (‵ ((L (length one)).own_at us b p) ∷ (‵ (row R full_share two b p') ⊛ ‵ ftrue) ∷ raw Rest ∷ []) ∵ fsplit ! $ feq_l ! (λ u. move ! (1 ∷ []) $ split ! $
          use1 𝓛 (‵ (cells (mem R) two b p')) (whole_in 𝓛 R two b p') $ keep ! (2 ∷ 0 ∷ 3 ∷ []) $
          use3 𝓛 (‵ (cells (mem R) (F us two) b o)) (back us two u refl) $ rewrite ! 0 (λ (l : List R.Denot). ‵ (cells (mem R) l b o)) (kept us u) refl $
          feq_i ! ℕ (length (G us)) (length xs) (ap length (sym (kept us u)) ∙ long us two u refl) $ fjoin ! $ done !)

      lends_one : Laws R → κ ⊑ R.lives → Room R (length one) → Room R (length two) → (vs : List Val)
          → ent 𝓤 (sep 𝓤 (sem 𝓛 ((MutSlice ℓ κ R).own_val (record { ref_ptr = (b, o); ghost_name = γ; now = xs }) vs)) (A.lft κ q)) (H.⇛ (ex 𝓤 (PairLent 𝓛 ℓ κ q b γ R one two p p' G)))
      unfolding fseps
      lends_one laws within r r' vs = qed 𝓛 (‵ ((MutSlice ℓ κ R).own_val (record { ref_ptr = (b, o); ghost_name = γ; now = xs }) vs) ∷ ‵ (flft κ q) ∷ []) ∵ updating ! $ fsplit3 ! $ drop ! $
          rewrite ! 0 (λ (l : List R.Denot). ‵ (fobs γ ((coded_list R.coded).code l))) (heres_id R xs) refl $ open_ref ! tt (L (length xs)) {b = b} {o = o} $ fsplit ! $ drop ! $
          use1 𝓛 (‵ (cells (mem R) one b p) ⊛ ‵ (cells (mem R) two b p') ⊛ raw Rest) out $ split3 ! $
          feq_i ! ℕ (length one) (length one) refl $ fjoin ! $ move ! (1 ∷ []) $ use1 𝓛 (‵ (row R full_share two b p')) (whole_out 𝓛 R two b p') $ nothing ! $ move ! (1 ∷ 0 ∷ []) $ fjoin ! $
          move ! (3 ∷ 4 ∷ 5 ∷ 1 ∷ 0 ∷ 2 ∷ []) $ group ! 6 $
          use1 𝓛 (later (some (λ (δ : GName). ‵ (fobs δ ((coded_list R.coded).code one)) ⊛ ‵ (fbor κ (Body (L (length one)) b p δ)) ⊛ ‵ (flft κ q) ⊛ ‵ (follows (Array R 0) (Array R 0) γ δ G) ⊛ ‵ (fbor κ (row R full_share two b p')) ⊛ ‵ ftrue)))
          (takes_beside 𝓛 (L (length xs)) (L (length one)) G κ q b o b p γ (row R full_share two b p' ∷ []) Rest put_one ((coded_list R.coded).code xs) ((coded_list R.coded).code xs) one) $ await ! tt $ pick ! (λ δ. split3 ! $
          use2 𝓛 (‵ ((MutSlice ℓ κ R).own_val (record { ref_ptr = (b, p); ghost_name = δ; now = one }) (slice_val (b, p) (length one) ∷ []))) (slice_of 𝓛 R ℓ κ b p δ one r) $
          move ! (1 ∷ []) $ split3 ! $ move ! (2 ∷ []) $ split ! $ move ! (0 ∷ 2 ∷ []) $
          use2 𝓛 (later (‵ (fhide (elements_shared R two b p' κ)) ⊛ ‵ (flft κ q))) (shares_each 𝓛 R (shared_of R) R.lives (laws.shares 𝓛) two κ ((κ, q) ∷ []) b p' within (Incl-refl κ)) $ await ! tt $ split ! $
          pure_i ! (shr_slice_at R (record { ref_ptr = (b, p'); now = two }) (slice_val (b, p') (length two) ∷ [])) (tt, (tt, tt)) (refl, r') $ fjoin ! $
          now ! $ show ! (PairLent 𝓛 ℓ κ q b γ R one two p p' G) δ $ keep ! (4 ∷ 0 ∷ 1 ∷ 3 ∷ []) $ done !)

-- ---- the loans of two ranges
module _ {M : Type 1} {𝓤 : Ura M} (𝓛 : Logic 𝓤) (ℓ : Lifetime) (κ : Lft) (q : Share) (b o : ℕ) (γ : GName) (R : RattleType) (xs : List R.Denot) (i j n : ℕ) (i_in : i + n ≤ length xs) (j_in : j + n ≤ length xs) where
  open 𝓛 use {H, A}

  abbrev one : List R.Denot
  one = range_of xs i n

  abbrev two : List R.Denot
  two = range_of xs j n

  abbrev P : ℕ → ℕ
  P = spot 𝓛 R b o

  abbrev F : List R.Denot → List R.Denot → List R.Denot
  F = with_ranges xs i j

  abbrev Slice : List Val → SProp 𝓤
  Slice vs = sep 𝓤 (sem 𝓛 ((MutSlice ℓ κ R).own_val (record { ref_ptr = (b, o); ghost_name = γ; now = xs }) vs)) (A.lft κ q)

  long : (us vs : List R.Denot) → length us ≡ length one → length vs ≡ length two → length (F us vs) ≡ length xs
  long us vs u v =
      let fits_us : i + length us ≤ length xs = omega (arith, u, length-range xs i n i_in) in
      let kept = length-with_range xs i us fits_us in
      length-with_range (with_range xs i us) j vs (omega (arith, v, length-range xs j n j_in, kept)) ∙ kept

  module _ (a : Around xs i j n) where
    abbrev Up : SProp 𝓤
    Up = Others 𝓛 R b o a.front a.gap a.back i j n a.front_long a.gap_long

    out_up : ent 𝓤 (sem 𝓛 (cells (mem R) xs b o)) (sep 𝓤 (sem 𝓛 (cells (mem R) one b (P i))) (sep 𝓤 (sem 𝓛 (cells (mem R) two b (P j))) Up))
    out_up = qed 𝓛 (‵ (cells (mem R) xs b o) ∷ []) ∵ rewrite ! 0 (λ (l : List R.Denot). ‵ (cells (mem R) l b o)) a.is refl $
        by ! (takes_out 𝓛 R b o a.front a.gap a.back i j n a.front_long a.gap_long one two a.first_long a.second_long)

    back_up : (us vs : List R.Denot) → length us ≡ length one → length vs ≡ length two → ent 𝓤 (sep 𝓤 (sem 𝓛 (cells (mem R) us b (P i))) (sep 𝓤 (sem 𝓛 (cells (mem R) vs b (P j))) Up)) (sem 𝓛 (cells (mem R) (F us vs) b o))
    back_up us vs u v = qed 𝓛 (‵ (cells (mem R) us b (P i)) ∷ ‵ (cells (mem R) vs b (P j)) ∷ raw Up ∷ []) ∵
        use3 𝓛 (‵ (cells (mem R) (rewritten a us vs (u ∙ a.first_long) (v ∙ a.second_long)) b o)) (puts_back 𝓛 R b o a.front a.gap a.back i j n a.front_long a.gap_long us vs (u ∙ a.first_long) (v ∙ a.second_long)) $
        rewrite ! 0 (λ (l : List R.Denot). ‵ (cells (mem R) l b o)) (rewritten-up a us vs (u ∙ a.first_long) (v ∙ a.second_long)) refl $ done !

  module _ (a : Around xs j i n) where
    abbrev Down : SProp 𝓤
    Down = Others 𝓛 R b o a.front a.gap a.back j i n a.front_long a.gap_long

    out_down : ent 𝓤 (sem 𝓛 (cells (mem R) xs b o)) (sep 𝓤 (sem 𝓛 (cells (mem R) one b (P i))) (sep 𝓤 (sem 𝓛 (cells (mem R) two b (P j))) Down))
    out_down = qed 𝓛 (‵ (cells (mem R) xs b o) ∷ []) ∵ rewrite ! 0 (λ (l : List R.Denot). ‵ (cells (mem R) l b o)) a.is refl $
        use1 𝓛 (‵ (cells (mem R) two b (P j)) ⊛ ‵ (cells (mem R) one b (P i)) ⊛ raw Down) (takes_out 𝓛 R b o a.front a.gap a.back j i n a.front_long a.gap_long two one a.first_long a.second_long) $
        split3 ! $ move ! (1 ∷ 0 ∷ []) $ done !

    back_down : (us vs : List R.Denot) → length us ≡ length one → length vs ≡ length two → ent 𝓤 (sep 𝓤 (sem 𝓛 (cells (mem R) us b (P i))) (sep 𝓤 (sem 𝓛 (cells (mem R) vs b (P j))) Down)) (sem 𝓛 (cells (mem R) (F us vs) b o))
    back_down us vs u v = qed 𝓛 (‵ (cells (mem R) us b (P i)) ∷ ‵ (cells (mem R) vs b (P j)) ∷ raw Down ∷ []) ∵ move ! (1 ∷ 0 ∷ []) $
        use3 𝓛 (‵ (cells (mem R) (rewritten a vs us (v ∙ a.first_long) (u ∙ a.second_long)) b o)) (puts_back 𝓛 R b o a.front a.gap a.back j i n a.front_long a.gap_long vs us (v ∙ a.first_long) (u ∙ a.second_long)) $
        rewrite ! 0 (λ (l : List R.Denot). ‵ (cells (mem R) l b o)) (rewritten-down a vs us (v ∙ a.first_long) (u ∙ a.second_long)) refl $ done !

  pub lends_both : (i + n ≤ j) ⊎ (j + n ≤ i) → Room R (length one) → Room R (length two) → (vs : List Val)
      → ent 𝓤 (Slice vs) (H.⇛ (ex 𝓤 (BothLent 𝓛 ℓ κ q b γ R one two (P i) (P j) F)))
  lends_both apart r r' vs = ⊎_elim
      (λ le. let a = around xs i j n le j_in in lends_two 𝓛 ℓ κ q b o γ R xs one two (P i) (P j) (Up a) (out_up a) F (back_up a) long r r' vs)
      (λ le. let a = around xs j i n le i_in in lends_two 𝓛 ℓ κ q b o γ R xs one two (P i) (P j) (Down a) (out_down a) F (back_down a) long r r' vs)
      apart

  pub lends_pair : (i + n ≤ j) ⊎ (j + n ≤ i) → Laws R → κ ⊑ R.lives → Room R (length one) → Room R (length two) → (vs : List Val)
      → ent 𝓤 (Slice vs) (H.⇛ (ex 𝓤 (PairLent 𝓛 ℓ κ q b γ R one two (P i) (P j) (with_range xs i))))
  lends_pair apart laws within r r' vs =
      let kept : (us : List R.Denot) → length us ≡ length one → F us two ≡ with_range xs i us = λ us u. second_kept xs i j n us apart i_in j_in (u ∙ length-range xs i n i_in) in
      ⊎_elim
      (λ le. let a = around xs i j n le j_in in lends_one 𝓛 ℓ κ q b o γ R xs one two (P i) (P j) (Up a) (out_up a) F (back_up a) long (with_range xs i) kept laws within r r' vs)
      (λ le. let a = around xs j i n le i_in in lends_one 𝓛 ℓ κ q b o γ R xs one two (P i) (P j) (Down a) (out_down a) F (back_down a) long (with_range xs i) kept laws within r r' vs)
      apart
