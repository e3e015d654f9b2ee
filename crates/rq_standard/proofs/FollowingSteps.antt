-- A decoder that follows packets follows, after one packet more, all of them.
use Rattle.std.proofs.Common.{◌≡◌, ◌≢◌, ℕ, ◌<◌, false, true, List, [], ◌∷◌, ◌++◌, Option, Some, None, refl, sym, ap, ◌∙◌, subst, arith, inl, inr}
use Rattle.std.proofs.lemmas.Bool.{cases_eq, eq-eqb, ne_eqb}
use Rattle.rq_algebra.proofs.ChangeLaws.{with_at_same, with_at_other}
use Rattle.rq_standard.specs.declared.row.TableRow.{TableRow}
use Rattle.rq_standard.specs.TableRows.{greatest_size}
use Rattle.rq_standard.specs.Packet.{Packet}
use Rattle.rq_standard.specs.Configuration.{Configuration, IsAccepted}
use Rattle.rq_standard.specs.Cutting.{block_symbols}
use Rattle.rq_standard.specs.Headline.{block_row}
use Rattle.rq_standard.specs.ReceivedBlock.{ReceivedBlock, with_received, CanAnswer, IsBlockAnswer}
use Rattle.rq_standard.specs.DecoderState.{State, IsReceivedOf, new_received, new_answer, IsNewState}
use Rattle.rq_standard.specs.DecoderSteps.{kept_of, AddsToBlock, RecordsInBlock, IsSameElsewhere, received_after}
use Rattle.rq_standard.specs.Following.{Lateness, InTime, Late, WasLate, tried, FollowsBlock, FollowsButLate, FollowsRun}
use Rattle.rq_standard.specs.StepLaws.{TakenIsFollowed, TakenIsTried, RecordedIsLate}
use Rattle.rq_standard.proofs.FirstAnswers.{first_stays, first_now, first_none}
use Rattle.rq_standard.proofs.Firsts.{first_payload-here, first_payload-elsewhere}
use Rattle.rq_standard.proofs.KnownIds.{none_determined}

-- ---- what was received

-- one packet later
pub received_later : (table : List TableRow) (c : Configuration) (packets : List Packet) (p : Packet) → with_received (received_after table c p.id.block packets) p.id.esi p.payload ≡ received_after table c p.id.block (packets ++ p ∷ [])
received_later table c packets p = λ i. record (received_after table c p.id.block packets) { received = λ e. sym (first_payload-here p.id.block packets p e refl) i }

-- and of another block
received_meanwhile : (table : List TableRow) (c : Configuration) (b : ℕ) (packets : List Packet) (p : Packet) → p.id.block ≢ b → received_after table c b packets ≡ received_after table c b (packets ++ p ∷ [])
received_meanwhile table c b packets p ne = λ i. record (received_after table c b packets) { received = λ e. sym (first_payload-elsewhere b packets p e ne) i }

-- of a block it stays
same_shape : (table : List TableRow) (c : Configuration) (b : ℕ) (h : ReceivedBlock) (received : ℕ → Option (List ℕ)) → IsReceivedOf table c b h → IsReceivedOf table c b (record h { received = received })
same_shape table c b h received s = record { configuration = s.configuration; number = s.number; row = s.row; source_symbols = s.source_symbols; checked = s.checked; fits = s.fits }

shape_step : (table : List TableRow) (c : Configuration) (b : ℕ) (p : Packet) (old new : ReceivedBlock) (a after : Option (List ℕ)) → IsReceivedOf table c b old → AddsToBlock old a p new after → IsReceivedOf table c b new
shape_step table c b p old new None None s add = subst (IsReceivedOf table c b) (sym add.kept) (same_shape table c b old _ s)
shape_step table c b p old new None (Some bytes) s add = subst (IsReceivedOf table c b) (sym add.kept) (same_shape table c b old _ s)
shape_step table c b p old new (Some bytes) after s add = subst (IsReceivedOf table c b) (sym add.0) s

-- ---- a block

not_late : (l : Lateness) → tried l ≡ InTime → l ≢ Late
not_late InTime e = λ late. cc late
not_late Late e = λ late. cc e
not_late WasLate e = λ late. cc e

in_time : (l : Lateness) → tried l ≡ InTime → l ≡ InTime
in_time InTime e = refl
in_time Late e = absurd (cc e)
in_time WasLate e = absurd (cc e)

module _ (table : List TableRow) (c : Configuration) (packets : List Packet) (p : Packet) where
  abbrev more : List Packet
  more = packets ++ p ∷ []

  -- a packet of another one
  other_block : (l : Lateness) (b : ℕ) (h : ReceivedBlock) (a : Option (List ℕ)) → p.id.block ≢ b → FollowsBlock l table c b packets h a → FollowsBlock l table c b more h a
  other_block l b h None ne f = (f.0 ∙ received_meanwhile table c b packets p ne, f.1)
  other_block l b h (Some bytes) ne f = first_stays table c b packets p l l (λ t. t) (Some bytes) f

  -- the packet's own, which is tried
  tried_block : (l : Lateness) (h new : ReceivedBlock) (after : Option (List ℕ)) → (l ≡ InTime → CanAnswer (received_after table c p.id.block packets) → ⊥) → h ≡ received_after table c p.id.block more
      → IsBlockAnswer h after → new ≡ kept_of h after → FollowsBlock l table c p.id.block more new after
  tried_block l h new None before is answers kept = (kept ∙ is, λ _ can. absurd (cc (answers.none (subst CanAnswer kept can))))
  tried_block l h new (Some bytes) before is answers kept = first_now table c p.id.block packets p l (Some bytes) before (subst (λ g. IsBlockAnswer g (Some bytes)) is answers)

  own_block : (l : Lateness) (old new : ReceivedBlock) (a after : Option (List ℕ)) → FollowsBlock l table c p.id.block packets old a → AddsToBlock old a p new after → FollowsBlock (tried l) table c p.id.block more new after
  own_block l old new None after f add =
      tried_block (tried l) (with_received old p.id.esi p.payload) new after (λ e can. f.1 (not_late l e) (subst CanAnswer (sym f.0) can))
      (ap (λ h. with_received h p.id.esi p.payload) f.0 ∙ received_later table c packets p) add.answers add.kept
  own_block l old new (Some bytes) after f add = subst (FollowsBlock (tried l) table c p.id.block more new) (sym add.1) (first_stays table c p.id.block packets p l (tried l) (in_time l) (Some bytes) f)

  -- or isn't
  pub recorded_after : (l : Lateness) (old new : ReceivedBlock) (a after : Option (List ℕ)) → FollowsBlock l table c p.id.block packets old a → RecordsInBlock old a p new after → new ≡ received_after table c p.id.block more
  recorded_after l old new a after f r = r.received ∙ ap (λ h. with_received h p.id.esi p.payload) (subst (FollowsBlock l table c p.id.block packets old) r.unanswered f).0 ∙ received_later table c packets p

  late_block : (l : Lateness) (old new : ReceivedBlock) (a after : Option (List ℕ)) → FollowsBlock l table c p.id.block packets old a → RecordsInBlock old a p new after → FollowsBlock Late table c p.id.block more new after
  late_block l old new a after f r = subst (FollowsBlock Late table c p.id.block more new) (sym r.waits) (recorded_after l old new a after f r, λ now. absurd (now refl))

-- ---- all blocks

-- the packet's own block, and the others
moved : (late now : ℕ → Lateness) (table : List TableRow) (earlier : List Packet) (p : Packet) (old new : State) → FollowsButLate late table earlier old → IsSameElsewhere old p.id.block new
    → ((b : ℕ) → p.id.block ≢ b → now b ≡ late b) → IsReceivedOf table old.configuration p.id.block (new.received p.id.block)
    → FollowsBlock (now p.id.block) table old.configuration p.id.block (earlier ++ p ∷ []) (new.received p.id.block) (new.answer p.id.block)
    → FollowsButLate now table (earlier ++ p ∷ []) new
moved late now table earlier p old new f other there shape_here block_here =
    let c = old.configuration in
    let more = earlier ++ p ∷ [] in
    let after : State = record { configuration = c; received = new.received; answer = new.answer } in
    let is : after ≡ new = λ i. record { configuration = sym other.configuration i; received = new.received; answer = new.answer } in
    subst (FollowsButLate now table more) is (record {
      accepted = f.accepted;
      shape = λ b below. elim (cases_eq p.id.block b) [
        | inl e ↦ subst (λ n. IsReceivedOf table c n (new.received n)) e shape_here
        | inr ne ↦ subst (IsReceivedOf table c b) (sym (other.other b below (λ e. ne (sym e))).0) (f.shape b below)
      ];
      block = λ b below. elim (cases_eq p.id.block b) [
        | inl e ↦ subst (λ n. FollowsBlock (now n) table c n more (new.received n) (new.answer n)) e block_here
        | inr ne ↦
            let q = other.other b below (λ e. ne (sym e)) in
            subst (λ l. FollowsBlock l table c b more (new.received b) (new.answer b)) (sym (there b ne))
            (subst (λ h. FollowsBlock (late b) table c b more h (new.answer b)) (sym q.0)
            (subst (FollowsBlock (late b) table c b more (old.received b)) (sym q.1) (other_block table c earlier p (late b) b (old.received b) (old.answer b) ne (f.block b below))))
      ];
    })

-- any blocks late
pub taken_is_tried : TakenIsTried
taken_is_tried late table earlier p old new f below add =
    let b = p.id.block in
    let block = own_block table old.configuration earlier p (late b) (old.received b) (new.received b) (old.answer b) (new.answer b) (f.block b below) add.here in
    moved late _ table earlier p old new f add.elsewhere (λ n ne. with_at_other late b (tried (late b)) n (λ e. ne (sym e)))
    (shape_step table old.configuration b p (old.received b) (new.received b) (old.answer b) (new.answer b) (f.shape b below) add.here)
    (subst (λ l. FollowsBlock l table old.configuration b (earlier ++ p ∷ []) (new.received b) (new.answer b)) (sym (with_at_same late b (tried (late b)) b refl)) block)

-- and none
pub taken_is_followed : TakenIsFollowed
taken_is_followed table earlier p old new f below add =
    let b = p.id.block in
    moved (λ _. InTime) (λ _. InTime) table earlier p old new f add.elsewhere (λ n ne. refl)
    (shape_step table old.configuration b p (old.received b) (new.received b) (old.answer b) (new.answer b) (f.shape b below) add.here)
    (own_block table old.configuration earlier p InTime (old.received b) (new.received b) (old.answer b) (new.answer b) (f.block b below) add.here)

-- the packet is only recorded
pub recorded_is_late : RecordedIsLate
recorded_is_late late table earlier p old new f below r =
    let b = p.id.block in
    let block = late_block table old.configuration earlier p (late b) (old.received b) (new.received b) (old.answer b) (new.answer b) (f.block b below) r.here in
    moved late _ table earlier p old new f r.elsewhere (λ n ne. with_at_other late b Late n (λ e. ne (sym e)))
    (subst (IsReceivedOf table old.configuration b) (sym r.here.received) (same_shape table old.configuration b (old.received b) _ (f.shape b below)))
    (subst (λ l. FollowsBlock l table old.configuration b (earlier ++ p ∷ []) (new.received b) (new.answer b)) (sym (with_at_same late b Late b refl)) block)

-- ---- before any packet

new_block : (table : List TableRow) (c : Configuration) (b : ℕ) → IsReceivedOf table c b (new_received table c b) → FollowsBlock InTime table c b [] (new_received table c b) (new_answer c b)
new_block table c b shape = elim (cases_eq (block_symbols c b) 0) [
  | inl none ↦
      let a : Some [] ≡ new_answer c b = sym (rw (eq-eqb (block_symbols c b) 0 none) refl) in
      subst (FollowsBlock InTime table c b [] (new_received table c b)) a (first_none InTime table c b shape.checked none)
  | inr some ↦
      let a : None ≡ new_answer c b = sym (rw (ne_eqb (block_symbols c b) 0 some) refl) in
      subst (FollowsBlock InTime table c b [] (new_received table c b)) a (
        refl,
        λ _ can. elim can [
          | inl all ↦ let first : false ≡ true = all.each 0 (omega (arith, some)) in cc first
          | inr d ↦ none_determined (block_row table c b) (block_symbols c b) (omega (arith, some)) shape.fits d
        ],
      )
]

pub follows_no_packets : (table : List TableRow) (c : Configuration) (s : State) → IsAccepted (greatest_size table) c → ((b : ℕ) → b < c.source_blocks → IsReceivedOf table c b (new_received table c b)) → IsNewState table c s → FollowsRun table [] s
follows_no_packets table c s accepted shape new =
    let after : State = record { configuration = c; received = s.received; answer = s.answer } in
    let is : after ≡ s = λ i. record { configuration = sym new.configuration i; received = s.received; answer = s.answer } in
    subst (FollowsRun table []) is (record {
      accepted = accepted;
      shape = λ b below. subst (IsReceivedOf table c b) (sym (new.received b below)) (shape b below);
      block = λ b below. subst (λ h. FollowsBlock InTime table c b [] h (s.answer b)) (sym (new.received b below)) (subst (FollowsBlock InTime table c b [] (new_received table c b)) (sym (new.answer b below)) (new_block table c b (shape b below)));
    })
