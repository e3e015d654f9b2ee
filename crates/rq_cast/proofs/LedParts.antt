-- What a part's packets determine whose head leads.
use Rattle.std.proofs.Common.{◌≡◌, ◌≢◌, ℕ, ◌+◌, ◌^◌, ◌<◌, ◌≤◌, List, [], ◌∷◌, ◌++◌, Bool, true, false, Option, Some, None, length, take, drop, filter, sym, ap, subst, ◌∙◌, arith, inl, inr, length-append}
use Rattle.std.specs.Prelude.{IfSome, is_some, option_map, vec_items}
use Rattle.std.proofs.lemmas.Bool.{false_from_ne_true}
use Rattle.std.proofs.lemmas.List.{take-append-drop}
use Rattle.std.proofs.lemmas.Option.{same_Some}
use Rattle.std.proofs.lemmas.List.Elements.{filter-append}
use Rattle.rq_standard.specs.declared.row.TableRow.{TableRow}
use Rattle.rq_standard.specs.Headline.{IsHonestRun, IsPacketOf, IsOnlyObject, IsObjectAnswer}
use Rattle.rq_standard.specs.DecoderState.{result_of}
use Rattle.raptorq.specs.Decoder.{state_of}
use Rattle.raptorq.proofs.Lists.{answers_exactly, answers_where_any_can}
use Rattle.rq_cells.specs.declared.head.Head.{Head}
use Rattle.rq_cells.specs.declared.cell.Cell.{Cell}
use Rattle.rq_cast.specs.declared.choice.Rival.{Rival}
use Rattle.rq_cast.specs.declared.names.Names.{Names}
use Rattle.rq_cast.specs.declared.part_receiver.PartReceiver.{PartReceiver}
use Rattle.rq_cast.specs.Names.{AreNames}
use Rattle.rq_cast.specs.Parts.{IsPart}
use Rattle.rq_cast.specs.Settling.{IsMisplaced}
use Rattle.rq_cast.specs.Streams.{one_if}
use Rattle.rq_cast.specs.Taken.{has_head, IsTakenHead, received_packets, IsNamed, IsNamedIn}
use Rattle.rq_cast.specs.Votes.{votes_for, votes_against, LeadsFrom, IsHonestHead, is_same, rival_for, rival_cells, Lead, HasTakenOf, IsNext, HasVotes}
use Rattle.rq_cast.specs.PartReceiving.{IsAttempt, GivesUp, IsUnused}
use Rattle.rq_cast.proofs.Leads.{uncounted_lead}
use Rattle.rq_cast.proofs.Senders.{none_only, all_back}
use Rattle.rq_cast.proofs.TakenPackets.{first_run}
use Rattle.rq_cast.proofs.Votes.{same_is, for_more, none_with}

-- No cell that came has a head: those that came of it determine nothing.
pub none_leads : (table : List TableRow) (h : Head) (object : List ℕ) {came : List Cell} → IsHonestHead table h object came → (n : ℕ)
    → votes_for h (drop n came) ≡ 0 → IsOnlyObject table h.configuration (received_packets h (drop n came)) object → ⊥
none_leads table h object {came} here n none only =
    none_only table h.configuration object here.named.some (first_run h table object [] came here.honest)
    (subst (λ ps. IsOnlyObject table h.configuration ps object) (none_with h (drop n came) none) only)

-- ---- before its first cell

none_lead : (u : Bool) (n : ℕ) → Lead u 0 None 0 n
none_lead true n = omega arith
none_lead false n = omega arith

-- there are as many in a beginning and behind it
pub for_behind : (h : Head) (cells : List Cell) (n : ℕ) → votes_for h cells ≡ 0 → votes_for h (drop n cells) ≡ 0
for_behind h cells n none =
    let whole = ap (votes_for h) (take-append-drop n cells) in
    let both = ap length (filter-append (has_head h) (take n cells) (drop n cells)) ∙ length-append (filter (has_head h) (take n cells)) (filter (has_head h) (drop n cells)) in
    omega (arith, none, whole, both)

module _ (table : List TableRow) (names : Option (List (List ℕ))) (came : List Cell) where
  pub unused_votes : (first : Head) (p : PartReceiver) → IsUnused table first p → ((h : Head) → IsTakenHead table h → votes_for h came ≡ 0)
      → HasVotes table names came p
  unused_votes first p unused none = record {
    tally = record {
      few = omega (arith, unused.uncounted, ap rival_cells unused.alone);
      apart = subst (λ (k : Option Rival). IfSome k (λ r. (is_same p.choice.head r.head ≡ false) × (0 < r.cells))) (sym unused.alone) tt;
    };
    led = λ h object next here.
        let nothing = none h here.taken in
        let empty : IsHonestRun table h.configuration object [] = first_run h table object [] came here.honest in
        record {
          lead = λ few.
              subst (λ (k : ℕ × Option Rival × ℕ). Lead (is_same h p.choice.head) k.0 (rival_for h k.1) k.2 (votes_against h came))
              (λ i. (sym unused.uncounted i, sym unused.alone i, sym nothing i)) (none_lead (is_same h p.choice.head) (votes_against h came));
          uses = λ is. record { in_use = is; earlier = []; follows = unused.follows; honest = empty };
          takes = λ few n within leads. inr (for_behind h came n nothing);
        };
  }

  -- a head that coders don't take
  pub refused_none : (cell : Cell) → (IsTakenHead table cell.head → ⊥) → ((h : Head) → IsTakenHead table h → votes_for h came ≡ 0)
      → (h : Head) → IsTakenHead table h → votes_for h (came ++ cell ∷ []) ≡ 0
  refused_none cell refused none h taken =
      let apart : has_head h cell ≡ false = false_from_ne_true (has_head h cell) (λ own. refused (subst (IsTakenHead table) (sym (same_is h cell.head own)) taken)) in
      for_more h came cell ∙ ap (λ b. votes_for h came + one_if b) apart ∙ omega (arith, none h taken)

-- where no names are asked, any may be
pub votes_named : (table : List TableRow) (names : List (List ℕ)) (came : List Cell) (p : PartReceiver) → HasVotes table None came p → HasVotes table (Some names) came p
votes_named table names came p has = record { tally = has.tally; led = λ h object next here. has.led h object tt here }

-- ---- what its packets determine

module _ (table : List TableRow) (p : PartReceiver) (is : IsAttempt p.choice.head p.attempt) where
  -- the answer is the object of the head in use
  answered : (h : Head) (object : List ℕ) (cells : List Cell) (u : HasTakenOf table h object cells p)
      → IsObjectAnswer table h.configuration object (u.earlier ++ received_packets h cells) (result_of (state_of p.attempt.decoder))
  answered h object cells u =
      answers_exactly table h.configuration (u.earlier ++ received_packets h cells) (state_of p.attempt.decoder)
      (is.configuration ∙ ap (λ (k : Head). k.configuration) u.in_use) u.follows object u.honest

  -- they determine what isn't the part, and it begins anew
  module _ (names : List (List ℕ)) (came : List Cell) (has : HasVotes table (Some names) came p) (asked : Names) (are : AreNames names asked)
      (mis : IsMisplaced asked p) (new : PartReceiver) (up : GivesUp table p new) where
    not_misplaced : (h : Head) (object : List ℕ) → IsNext (Some names) h object → HasTakenOf table h object [] p → ⊥
    not_misplaced h object (is_last, bytes, part) u =
        let a = answered h object [] u in
        let same : mis.object ≡ object = same_Some mis.object object (sym mis.answered ∙ a.whole (a.only (ap is_some mis.answered))) in
        mis.no_part names are is_last bytes
        (subst (λ (k : Head × List ℕ). IsPart is_last names k.0 k.1 bytes) (λ i. (sym u.in_use i, sym same i)) part)

    pub misplaced_votes : HasVotes table (Some names) came new
    misplaced_votes = record {
      tally = record {
        few = omega (arith, has.tally.few, up.uncounted, ap rival_cells up.anew.rival);
        apart = subst (λ (k : Head × Option Rival). IfSome k.1 (λ r. (is_same k.0 r.head ≡ false) × (0 < r.cells)))
            (λ i. (sym up.anew.head i, sym up.anew.rival i)) has.tally.apart;
      };
      led = λ h object next here.
          let l = has.led h object next here in
          let differ : p.choice.head ≢ h = λ used. not_misplaced h object next (l.uses used) in
          let unused : is_same h p.choice.head ≡ false = false_from_ne_true (is_same h p.choice.head) (λ e. differ (same_is h p.choice.head e)) in
          record {
            lead = λ few.
                let now = subst (λ b. Lead b p.choice.cells (rival_for h p.choice.rival) (votes_for h came) (votes_against h came)) unused (l.lead few) in
                let none = uncounted_lead p.choice.cells (rival_for h p.choice.rival) (votes_for h came) (votes_against h came) now in
                subst (λ (k : Bool × ℕ × Option Rival). Lead k.0 k.1 (rival_for h k.2) (votes_for h came) (votes_against h came))
                (λ i. ((sym unused ∙ ap (is_same h) (sym up.anew.head)) i, sym up.uncounted i, sym up.anew.rival i)) none;
            uses = λ used. absurd (differ (sym up.anew.head ∙ used));
            takes = λ few n within leads. elim (l.takes few n within leads) [
              | inl u ↦ absurd (differ u.in_use)
              | inr none ↦ inr none
            ];
          };
    }

  -- a head leads by cells that determine its object
  module _ (names : Option (List (List ℕ))) (came : List Cell) (has : HasVotes table names came p) (h : Head) (object : List ℕ) (next : IsNext names h object)
      (here : IsHonestHead table h object came) (few : length came < 2 ^ 64) (n : ℕ) (within : n ≤ length came) (leads : LeadsFrom h n came)
      (only : IsOnlyObject table h.configuration (received_packets h (drop n came)) object) where
    answers : HasTakenOf table h object (drop n came) p → result_of (state_of p.attempt.decoder) ≡ Some object
    answers u =
        let packets = u.earlier ++ received_packets h (drop n came) in
        let longer : IsOnlyObject table h.configuration packets object = λ other run.
        only other (record {
          long = run.long;
          nonsingular = run.nonsingular;
          honest = all_back (IsPacketOf table h.configuration other) u.earlier (received_packets h (drop n came)) run.honest;
        }) in
        let some = (answers_where_any_can table h.configuration packets (state_of p.attempt.decoder)
        (is.configuration ∙ ap (λ (k : Head). k.configuration) u.in_use) u.follows object u.honest).1 longer in
        let a = answered h object (drop n came) u in
        a.whole (a.only some)

    named_so : (answer : Option (List ℕ)) → IsNamedIn p.choice.head (result_of (state_of p.attempt.decoder)) answer → HasTakenOf table h object (drop n came) p
        → answer ≡ Some object
    named_so None none u = absurd (none object (answers u) (subst (λ (k : Head). IsNamed k object) (sym u.in_use) here.named))
    named_so (Some x) (same, named) u = sym same ∙ answers u

    pub led_object : option_map vec_items p.attempt.object ≡ Some object
    led_object = elim ((has.led h object next here).takes few n within leads) [
      | inl u ↦ named_so (option_map vec_items p.attempt.object) is.object u
      | inr none ↦ absurd (none_leads table h object here n none only)
    ]

    -- so it doesn't wait
    pub no_leader : p.attempt.object ≡ None → ⊥
    no_leader waits = let e : None ≡ Some object = sym (ap (option_map vec_items) waits) ∙ led_object in absurd (cc e)
