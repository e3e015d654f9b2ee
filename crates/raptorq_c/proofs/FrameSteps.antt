-- Frames that a decoder takes one after another.
use Rattle.raptorq_c.proofs.Names.{◌≡◌, ℕ, List, refl, sym, ap, ◌∙◌, subst, arith, [], ◌∷◌, ◌++◌, append_assoc, append-nil, code_of, Error, frames_in, AddsEach, AddsFrames, AreAdded, StopsAtFrame}
use Rattle.raptorq_c.proofs.Ending.{code_positive}

module _ {D : Type 0} (Adds : D → List ℕ → ℕ → D → Type 0) where
  AddsEach-push : (old : D) (first : List (List ℕ)) (d : D) (frame : List ℕ) (new : D) → AddsEach Adds old first d → Adds d frame 0 new → AddsEach Adds old (first ++ frame ∷ []) new
  AddsEach-push old [] d frame new same added = (new, subst (λ (before : D). Adds before frame 0 new) same added, refl)
  AddsEach-push old (f ∷ first) d frame new done added = (done.0, done.1, AddsEach-push done.0 first d frame new done.2 added)

  -- the frames are added but for those that are left
  pub record TakenBefore (old : D) (frames left : List (List ℕ)) (now : D) : Type 0 where
    pub first : List (List ℕ)
    pub cut : frames ≡ first ++ left
    pub added : AddsEach Adds old first now

  pub taken_none : (d : D) (frames left : List (List ℕ)) → left ≡ frames → TakenBefore d frames left d
  taken_none d frames left all = record { first = []; cut = sym all; added = refl }

  module _ (old : D) (frames left : List (List ℕ)) (d : D) (so : TakenBefore old frames left d) where
    -- none is left
    pub taken_all : left ≡ [] → AddsFrames Adds frames 0 old d
    taken_all none =
        let same : frames ≡ so.first = so.cut ∙ ap (λ fs. so.first ++ fs) none ∙ append-nil so.first in
        record { all = λ _. subst (λ fs. AddsEach Adds old fs d) (sym same) so.added; some = λ other. absurd (other refl) }

    module _ (frame : List ℕ) (later : List (List ℕ)) (is : left ≡ frame ∷ later) (new : D) where
      -- one more is added
      pub taken_more : Adds d frame 0 new → TakenBefore old frames later new
      taken_more added = record {
        first = so.first ++ frame ∷ [];
        cut = so.cut ∙ ap (λ fs. so.first ++ fs) is ∙ sym (append_assoc so.first (frame ∷ []) later);
        added = AddsEach-push old so.first d frame new so.added added;
      }

      -- or it is refused
      pub taken_some : (e : Error) → Adds d frame (code_of e) new → AddsFrames Adds frames (code_of e) old new
      taken_some e refused = record {
        all = λ zero. absurd (omega (arith, zero, code_positive e));
        some = λ _. record { first = so.first; refused = frame; later = later; cut = so.cut ∙ ap (λ fs. so.first ++ fs) is; between = d; added = so.added; stops = refused };
      }

-- ---- what is seen of a decoder

module _ {D E : Type 0} (seen : D → E) (Adds : E → List ℕ → ℕ → E → Type 0) where
  abbrev AddsSeen : D → List ℕ → ℕ → D → Type 0
  AddsSeen old bytes answer new = Adds (seen old) bytes answer (seen new)

  each_seen : (old : D) (frames : List (List ℕ)) (new : D) → AddsEach AddsSeen old frames new → AddsEach Adds (seen old) frames (seen new)
  each_seen old [] new same = ap seen same
  each_seen old (frame ∷ frames) new added = (seen added.0, added.1, each_seen added.0 frames new added.2)

  stops_seen : (frames : List (List ℕ)) (answer : ℕ) (old new : D) → StopsAtFrame AddsSeen frames answer old new → StopsAtFrame Adds frames answer (seen old) (seen new)
  stops_seen frames answer old new s = record { first = s.first; refused = s.refused; later = s.later; cut = s.cut; between = seen s.between; added = each_seen old s.first s.between s.added; stops = s.stops }

  pub frames_seen : (frames : List (List ℕ)) (answer : ℕ) (old new : D) → AddsFrames AddsSeen frames answer old new → AddsFrames Adds frames answer (seen old) (seen new)
  frames_seen frames answer old new so = record { all = λ zero. each_seen old frames new (so.all zero); some = λ other. stops_seen frames answer old new (so.some other) }

  pub added_seen : (size : ℕ) (old : D) (bytes : List ℕ) (answer : ℕ) (new : D) → AreAdded AddsSeen size old bytes answer new → AreAdded Adds size (seen old) bytes answer (seen new)
  added_seen size old bytes answer new so = record {
    added = λ whole. frames_seen (frames_in size bytes) answer old new (so.added whole);
    broken = λ other. let stays = so.broken other in (stays.0, ap seen stays.1);
  }
