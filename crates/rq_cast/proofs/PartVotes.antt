-- What a receiver of a part has of the head that leads, one cell more.
use Rattle.std.proofs.Common.{◌≡◌, ◌≢◌, ◌⊎◌, ℕ, ◌+◌, ◌^◌, ◌<◌, ◌≤◌, List, [], ◌∷◌, ◌++◌, Bool, true, false, not, Option, Some, None, length, take, drop, refl, sym, ap, subst, ◌∙◌, arith, inl, inr, append-nil, append_assoc, length-append}
use Rattle.std.specs.Prelude.{IfSome}
use Rattle.std.proofs.lemmas.Bool.{cases_lt, true≢false, false_from_ne_true}
use Rattle.std.proofs.lemmas.List.{take-append-le, drop-append-le, drop_all, take_all}
use Rattle.std.proofs.lemmas.Option.{same_Some}
use Rattle.rq_standard.specs.declared.row.TableRow.{TableRow}
use Rattle.rq_standard.specs.Packet.{Packet}
use Rattle.rq_standard.specs.Headline.{IsHonestRun, IsPacketOf}
use Rattle.rq_standard.specs.Following.{FollowsRun}
use Rattle.raptorq.specs.Decoder.{state_of}
use Rattle.rq_cells.specs.declared.head.Head.{Head}
use Rattle.rq_cells.specs.declared.cell.Cell.{Cell}
use Rattle.rq_cast.specs.declared.choice.Choice.{Choice}
use Rattle.rq_cast.specs.declared.choice.Rival.{Rival}
use Rattle.rq_cast.specs.declared.part_receiver.PartReceiver.{PartReceiver}
use Rattle.rq_cast.specs.Searching.{counted}
use Rattle.rq_cast.specs.Streams.{one_if}
use Rattle.rq_cast.specs.Taken.{has_head, IsTakenHead, known_packets, received_packets}
use Rattle.rq_cast.specs.Votes.{votes_for, votes_against, LeadsFrom, IsHonestHead, is_same, rival_for, rival_cells, Lead, LeadBy, IsTally, HasTakenOf, HasLed, IsNext, HasVotes}
use Rattle.rq_cast.specs.PartReceiving.{IsNextRival, TakesPlace, CountsOther, IsForeign, BeginsAnew, GivesUp, GoesOnWith, AddsPacket}
use Rattle.rq_cast.proofs.Leads.{own_lead, uncounted_lead, passed_lead, who_leads}
use Rattle.rq_cast.proofs.Senders.{all_back, all_both}
use Rattle.rq_cast.proofs.TakenPackets.{received_both, received_own, received_other, received_since, first_run}
use Rattle.rq_cast.proofs.Votes.{same_is, same_own, for_more, against_more, none_with, next_lead, next_tally, place_lead, place_tally, not_led}

module _ (table : List TableRow) (names : Option (List (List ℕ))) (came : List Cell) (cell : Cell) where
  abbrev pub all : List Cell
  all = came ++ cell ∷ []

  longer : length all ≡ length came + 1
  longer = length-append came (cell ∷ [])

  module _ (h : Head) (object : List ℕ) (here : IsHonestHead table h object all) where
    honest_first : IsHonestHead table h object came
    honest_first = record { taken = here.taken; named = here.named; honest = first_run h table object came (cell ∷ []) here.honest }

    none_honest : IsHonestRun table h.configuration object []
    none_honest = first_run h table object [] all here.honest

    -- a packet more of its object
    honest_next : (packets : List Packet) → has_head h cell ≡ true → IsHonestRun table h.configuration object packets
        → IsHonestRun table h.configuration object (packets ++ known_packets h.configuration (cell.packet ∷ []))
    honest_next packets own run =
        let P = IsPacketOf table h.configuration object in
        let both = subst (IsHonestRun table h.configuration object) (received_both h came (cell ∷ [])) here.honest in
        let one = subst (λ ps. IsHonestRun table h.configuration object (received_packets h came ++ ps)) (received_own h cell own) both in
        record {
          long = run.long;
          nonsingular = run.nonsingular;
          honest = all_both P packets (known_packets h.configuration (cell.packet ∷ [])) run.honest
              (all_back P (received_packets h came) (known_packets h.configuration (cell.packet ∷ [])) one.honest);
        }

  -- it led before
  leads_first : (h : Head) (n : ℕ) → LeadsFrom h n all → LeadsFrom h n came
  leads_first h n leads k from within =
      let same : take k all ≡ take k came = take-append-le k came (cell ∷ []) within in
      subst (λ cs. votes_against h cs < votes_for h cs) same (leads k from (omega (arith, within, longer)))

  -- and does still
  leads_now : (h : Head) (n : ℕ) → n ≤ length all → LeadsFrom h n all → votes_against h all < votes_for h all
  leads_now h n within leads =
      subst (λ cs. votes_against h cs < votes_for h cs) (take_all (length all) all (omega arith)) (leads (length all) within (omega arith))

  -- since some cells
  module _ (h : Head) (n : ℕ) (within : n ≤ length came) where
    since : drop n all ≡ drop n came ++ cell ∷ []
    since = drop-append-le n came (cell ∷ []) within

    for_since : votes_for h (drop n all) ≡ votes_for h (drop n came) + one_if (has_head h cell)
    for_since = ap (votes_for h) since ∙ for_more h (drop n came) cell

    still_none : has_head h cell ≡ false → votes_for h (drop n came) ≡ 0 → votes_for h (drop n all) ≡ 0
    still_none other none = for_since ∙ ap (λ b. votes_for h (drop n came) + one_if b) other ∙ omega (arith, none)

    packets_own : has_head h cell ≡ true → received_packets h (drop n all) ≡ received_packets h (drop n came) ++ known_packets h.configuration (cell.packet ∷ [])
    packets_own own = received_since h n came (cell ∷ []) within ∙ ap (λ ps. received_packets h (drop n came) ++ ps) (received_own h cell own)

    packets_other : has_head h cell ≡ false → received_packets h (drop n all) ≡ received_packets h (drop n came)
    packets_other other =
        received_since h n came (cell ∷ []) within ∙ ap (λ ps. received_packets h (drop n came) ++ ps) (received_other h cell other)
        ∙ append-nil (received_packets h (drop n came))

  -- behind the last cell none came
  none_since : (h : Head) (n : ℕ) → length came < n → votes_for h (drop n all) ≡ 0
  none_since h n past = ap (votes_for h) (drop_all n all (omega (arith, past, longer)))

  -- ---- it is counted, for the head in use, and its packet isn't taken yet

  pub record IsLedBy (h : Head) (object : List ℕ) (mid : PartReceiver) : Type 0 where
    pub lead : length all < 2 ^ 64 → LeadBy h mid.choice (votes_for h all) (votes_against h all)
    pub uses : mid.choice.head ≡ h → HasTakenOf table h object [] mid
    pub takes : length all < 2 ^ 64 → (n : ℕ) → n ≤ length came → LeadsFrom h n all
        → HasTakenOf table h object (drop n came) mid ⊎ (votes_for h (drop n all) ≡ 0)

  pub record IsCounted (mid : PartReceiver) : Type 0 where
    pub own : has_head mid.choice.head cell ≡ true
    pub tally : IsTally (length all) mid.choice
    pub led : (h : Head) (object : List ℕ) → IsNext names h object → IsHonestHead table h object all → IsLedBy h object mid

  module _ (mid : PartReceiver) (counted_in : IsCounted mid) (new : PartReceiver) where
    -- the head in use is the cell's
    own_is : (h : Head) → mid.choice.head ≡ h → has_head h cell ≡ true
    own_is h is = subst (λ (k : Head). has_head k cell ≡ true) is counted_in.own

    -- its packet is taken
    module _ (on : GoesOnWith mid cell.packet new) where
      one_more : (h : Head) (object : List ℕ) → IsHonestHead table h object all → (before cells : List Cell)
          → received_packets h cells ≡ received_packets h before ++ known_packets h.configuration (cell.packet ∷ [])
          → HasTakenOf table h object before mid → HasTakenOf table h object cells new
      one_more h object here before cells packets has =
          let more : (has.earlier ++ received_packets h before) ++ known_packets h.configuration (cell.packet ∷ []) ≡ has.earlier ++ received_packets h cells =
          append_assoc has.earlier (received_packets h before) (known_packets h.configuration (cell.packet ∷ [])) ∙ ap (λ ps. has.earlier ++ ps) (sym packets) in
          let follows = subst (λ (k : Head). FollowsRun table ((has.earlier ++ received_packets h before) ++ known_packets k.configuration (cell.packet ∷ []))
          (state_of new.attempt.decoder)) has.in_use (on.attempt.follows table (has.earlier ++ received_packets h before) has.follows) in
          record {
            in_use = ap (λ (c : Choice). c.head) on.choice ∙ has.in_use;
            earlier = has.earlier;
            follows = subst (λ ps. FollowsRun table ps (state_of new.attempt.decoder)) more follows;
            honest = subst (IsHonestRun table h.configuration object) more
                (honest_next h object here (has.earlier ++ received_packets h before) (own_is h has.in_use) has.honest);
          }

      -- behind the packets before it, of which none is asked for
      one_first : (h : Head) (object : List ℕ) → IsHonestHead table h object all → HasTakenOf table h object [] mid → HasTakenOf table h object [] new
      one_first h object here has =
          let one = known_packets h.configuration (cell.packet ∷ []) in
          let before : has.earlier ++ [] ≡ has.earlier = append-nil has.earlier in
          let follows = subst (λ (k : Head). FollowsRun table (has.earlier ++ known_packets k.configuration (cell.packet ∷ [])) (state_of new.attempt.decoder)) has.in_use
          (on.attempt.follows table has.earlier (subst (λ ps. FollowsRun table ps (state_of mid.attempt.decoder)) before has.follows)) in
          let run = honest_next h object here has.earlier (own_is h has.in_use) (subst (IsHonestRun table h.configuration object) before has.honest) in
          record {
            in_use = ap (λ (c : Choice). c.head) on.choice ∙ has.in_use;
            earlier = has.earlier ++ one;
            follows = subst (λ ps. FollowsRun table ps (state_of new.attempt.decoder)) (sym (append-nil (has.earlier ++ one))) follows;
            honest = subst (IsHonestRun table h.configuration object) (sym (append-nil (has.earlier ++ one))) run;
          }

      goes_on_votes : HasVotes table names all new
      goes_on_votes = record {
        tally = subst (IsTally (length all)) (sym on.choice) counted_in.tally;
        led = λ h object next here.
            let l = counted_in.led h object next here in
            record {
              lead = λ few. subst (λ (c : Choice). LeadBy h c (votes_for h all) (votes_against h all)) (sym on.choice) (l.lead few);
              uses = λ is. one_first h object here (l.uses (sym (ap (λ (c : Choice). c.head) on.choice) ∙ is));
              takes = λ few n within leads. elim (cases_lt (length came) n) [
                | inl past ↦ inr (none_since h n past)
                | inr inside ↦ elim (l.takes few n inside leads) [
                  | inl has ↦ inl (one_more h object here (drop n came) (drop n all) (packets_own h n inside (own_is h has.in_use)) has)
                  | inr none ↦ inr none
                ]
              ];
            };
      }

    -- the attempt is given up
    module _ (foreign : IsForeign mid.choice.head mid.attempt cell.packet) (up : GivesUp table mid new) where
      not_used : (h : Head) (object : List ℕ) → IsHonestHead table h object all → HasTakenOf table h object [] mid → ⊥
      not_used h object here has =
          subst (λ (k : Head). IsForeign k mid.attempt cell.packet) has.in_use foreign table object (has.earlier ++ []) has.follows here.named
          (honest_next h object here (has.earlier ++ []) (own_is h has.in_use) has.honest)

      fails_votes : HasVotes table names all new
      fails_votes = record {
        tally = record {
          few = omega (arith, counted_in.tally.few, up.uncounted, ap rival_cells up.anew.rival);
          apart = subst (λ (k : Head × Option Rival). IfSome k.1 (λ r. (is_same k.0 r.head ≡ false) × (0 < r.cells)))
              (λ i. (sym up.anew.head i, sym up.anew.rival i)) counted_in.tally.apart;
        };
        led = λ h object next here.
            let l = counted_in.led h object next here in
            let differ : mid.choice.head ≢ h = λ is. not_used h object here (l.uses is) in
            let unused : is_same h mid.choice.head ≡ false = false_from_ne_true (is_same h mid.choice.head) (λ is. differ (same_is h mid.choice.head is)) in
            record {
              lead = λ few.
                  let now = subst (λ b. Lead b mid.choice.cells (rival_for h mid.choice.rival) (votes_for h all) (votes_against h all)) unused (l.lead few) in
                  let none = uncounted_lead mid.choice.cells (rival_for h mid.choice.rival) (votes_for h all) (votes_against h all) now in
                  subst (λ (k : Bool × ℕ × Option Rival). Lead k.0 k.1 (rival_for h k.2) (votes_for h all) (votes_against h all))
                  (λ i. ((sym unused ∙ ap (is_same h) (sym up.anew.head)) i, sym up.uncounted i, sym up.anew.rival i)) none;
              uses = λ is. absurd (differ (sym up.anew.head ∙ is));
              takes = λ few n within leads. elim (cases_lt (length came) n) [
                | inl past ↦ inr (none_since h n past)
                | inr inside ↦ elim (l.takes few n inside leads) [
                  | inl has ↦ absurd (differ has.in_use)
                  | inr none ↦ inr none
                ]
              ];
            };
      }

    pub added_votes : AddsPacket table mid cell.packet new → HasVotes table names all new
    added_votes (inl on) = goes_on_votes on
    added_votes (inr (foreign, up)) = fails_votes foreign up

  -- ---- the three ways of a cell

  module _ (old : PartReceiver) (has : HasVotes table names came old) where
    -- it has the head in use
    module _ (own : has_head old.choice.head cell ≡ true) (choice : Choice) (head : choice.head ≡ old.choice.head) (rival : choice.rival ≡ old.choice.rival)
        (more : choice.cells ≡ counted (old.choice.cells + 1)) where
      cell_is : cell.head ≡ old.choice.head
      cell_is = same_is old.choice.head cell.head own

      counted_own : IsCounted (record old { choice = choice })
      counted_own = record {
        own = subst (λ (k : Head). has_head k cell ≡ true) (sym head) own;
        tally = record {
          few = omega (arith, has.tally.few, more, ap rival_cells rival, longer);
          apart = subst (λ (k : Head × Option Rival). IfSome k.1 (λ r. (is_same k.0 r.head ≡ false) × (0 < r.cells))) (λ i. (sym head i, sym rival i)) has.tally.apart;
        };
        led = λ h object next here.
            let l = has.led h object next (honest_first h object here) in
            let same : is_same h old.choice.head ≡ has_head h cell = ap (is_same h) (sym cell_is) in
            record {
              lead = λ few.
                  let whole : old.choice.cells + 1 ≡ choice.cells = omega (arith, more, has.tally.few, few, longer) in
                  let now = own_lead (is_same h old.choice.head) old.choice.cells (rival_for h old.choice.rival) (votes_for h came) (votes_against h came)
                  (l.lead (omega (arith, few, longer))) in
                  subst (λ (k : Bool × ℕ × Option Rival × ℕ × ℕ). Lead k.0 k.1 (rival_for h k.2) k.3 k.4)
                  (λ i. (
                    ap (is_same h) (sym head) i,
                    whole i,
                    sym rival i,
                    (ap (λ b. votes_for h came + one_if b) same ∙ sym (for_more h came cell)) i,
                    (ap (λ b. votes_against h came + one_if (not b)) same ∙ sym (against_more h came cell)) i,
                  )) now;
              uses = λ is.
                  let u = l.uses (sym head ∙ is) in record { in_use = is; earlier = u.earlier; follows = u.follows; honest = u.honest };
              takes = λ few n within leads. elim (l.takes (omega (arith, few, longer)) n within (leads_first h n leads)) [
                | inl u ↦ inl (record { in_use = head ∙ u.in_use; earlier = u.earlier; follows = u.follows; honest = u.honest })
                | inr none ↦ by l n within none (has_head h cell) refl
              ];
            };
      }
        where
          by : {h : Head} {object : List ℕ} (l : HasLed table h object came old) (n : ℕ) → n ≤ length came → votes_for h (drop n came) ≡ 0 → (b : Bool)
              → has_head h cell ≡ b → HasTakenOf table h object (drop n came) (record old { choice = choice }) ⊎ (votes_for h (drop n all) ≡ 0)
          by {h} {object} l n within none true is =
              let used : old.choice.head ≡ h = sym cell_is ∙ same_is h cell.head is in
              let u = l.uses used in
              let nothing : [] ≡ received_packets h (drop n came) = sym (none_with h (drop n came) none) in
              inl (record {
                in_use = head ∙ used;
                earlier = u.earlier;
                follows = subst (λ ps. FollowsRun table (u.earlier ++ ps) (state_of old.attempt.decoder)) nothing u.follows;
                honest = subst (λ ps. IsHonestRun table h.configuration object (u.earlier ++ ps)) nothing u.honest;
              })
          by {h} {object} l n within none false is = inr (still_none h n within is none)

      pub votes_same : (new : PartReceiver) → AddsPacket table (record old { choice = choice }) cell.packet new → HasVotes table names all new
      votes_same new = added_votes (record old { choice = choice }) counted_own new

    -- it has another one
    module _ (other : has_head old.choice.head cell ≡ false) where
      not_own : (h : Head) → old.choice.head ≡ h → has_head h cell ≡ false
      not_own h is = subst (λ (k : Head). has_head k cell ≡ false) is other

      -- what the next rival is
      module _ (rival : Option Rival) (next : IsNextRival old.choice.rival cell.head rival) where
        abbrev mid : Choice
        mid = record old.choice { rival = rival }

        mid_tally : (mid.cells + rival_cells rival ≤ length all) × IfSome rival (λ r. (is_same mid.head r.head ≡ false) × (0 < r.cells))
        mid_tally =
            let t = next_tally cell.head old.choice.head old.choice.cells other old.choice.rival rival (length came) has.tally.few has.tally.apart next in
            (omega (arith, t.0, longer), t.1)

        mid_lead : (h : Head) → length all < 2 ^ 64 → LeadBy h old.choice (votes_for h came) (votes_against h came)
            → LeadBy h mid (votes_for h all) (votes_against h all)
        mid_lead h few lead =
            subst (λ (k : ℕ × ℕ). LeadBy h mid k.0 k.1) (λ i. (sym (for_more h came cell) i, sym (against_more h came cell) i))
            (next_lead cell.head old.choice.head old.choice.cells other h old.choice.rival rival (length came) (votes_for h came) (votes_against h came)
            has.tally.few (omega (arith, few, longer)) has.tally.apart next lead)

      -- the head in use stays
      module _ (choice : Choice) (counts : CountsOther table old.choice cell.head false choice) where
        abbrev now : PartReceiver
        now = record old { choice = choice }

        head_still : choice.head ≡ old.choice.head
        head_still = elim counts [
          | inl (refused, is, none) ↦ ap (λ (c : Choice). c.head) is
          | inr (taken, rival, next, (is, most)) ↦ ap (λ (c : Choice). c.head) is
        ]

        tally_still : IsTally (length all) choice
        tally_still = elim counts [
          | inl (refused, is, none) ↦
              subst (IsTally (length all)) (sym is) (record { few = omega (arith, has.tally.few, longer); apart = has.tally.apart })
          | inr (taken, rival, next, (is, most)) ↦
              subst (IsTally (length all)) (sym is) (record { few = (mid_tally rival next).0; apart = (mid_tally rival next).1 })
        ]

        -- a head that coders take
        module _ (h : Head) (taken : IsTakenHead table h) (few : length all < 2 ^ 64) (lead : LeadBy h old.choice (votes_for h came) (votes_against h came)) where
          lead_still : LeadBy h choice (votes_for h all) (votes_against h all)
          lead_still = elim counts [
            | inl (refused, is, none) ↦
                let apart : has_head h cell ≡ false = false_from_ne_true (has_head h cell) (λ own. refused (subst (IsTakenHead table) (sym (same_is h cell.head own)) taken)) in
                let same : votes_for h came ≡ votes_for h all = sym (for_more h came cell ∙ ap (λ b. votes_for h came + one_if b) apart ∙ omega arith) in
                let more : votes_against h came + 1 ≡ votes_against h all = sym (against_more h came cell ∙ ap (λ b. votes_against h came + one_if (not b)) apart) in
                subst (λ (k : Choice × ℕ × ℕ). LeadBy h k.0 k.1 k.2) (λ i. (sym is i, same i, more i))
                (passed_lead (is_same h old.choice.head) old.choice.cells (rival_for h old.choice.rival) (votes_for h came) (votes_against h came) lead)
            | inr (known, rival, next, (is, most)) ↦
                subst (λ (c : Choice). LeadBy h c (votes_for h all) (votes_against h all)) (sym is) (mid_lead rival next h few lead)
          ]

          -- it isn't the cell's, where it leads and isn't in use
          other_led : is_same h choice.head ≡ false → votes_against h all < votes_for h all → has_head h cell ≡ true → ⊥
          other_led unused leads own = elim counts [
            | inl (refused, is, none) ↦ refused (subst (IsTakenHead table) (sym (same_is h cell.head own)) taken)
            | inr (known, rival, next, (is, most)) ↦
                by rival most (who_leads (is_same h old.choice.head) old.choice.cells (rival_for h rival) (votes_for h all) (votes_against h all) (mid_lead rival next h few lead) leads)
          ]
            where
              by : (rival : Option Rival) → IfSome rival (λ r. r.head ≡ cell.head → r.cells ≤ old.choice.cells)
                  → (is_same h old.choice.head ≡ true) ⊎ ((m : ℕ) × (rival_for h rival ≡ Some (true, m)) × (old.choice.cells < m)) → ⊥
              by rival most (inl used) = true≢false (sym used ∙ ap (is_same h) (sym head_still) ∙ unused)
              by None most (inr (m, is, more)) = absurd (cc is)
              by (Some r) most (inr (m, is, more)) =
                  let both = same_Some (is_same h r.head, r.cells) (true, m) is in
                  let r_is : r.head ≡ cell.head = same_is h r.head (ap (λ (k : Bool × ℕ). k.0) both) ∙ sym (same_is h cell.head own) in
                  absurd (omega (arith, most r_is, ap (λ (k : Bool × ℕ). k.1) both, more))

        pub votes_counted : HasVotes table names all now
        votes_counted = record {
          tally = tally_still;
          led = λ h object next here.
              let l = has.led h object next (honest_first h object here) in
              record {
                lead = λ few. lead_still h here.taken few (l.lead (omega (arith, few, longer)));
                uses = λ is.
                    let u = l.uses (sym head_still ∙ is) in record { in_use = is; earlier = u.earlier; follows = u.follows; honest = u.honest };
                takes = λ few n within leads. elim (cases_lt (length came) n) [
                  | inl past ↦ inr (none_since h n past)
                  | inr inside ↦ elim (l.takes (omega (arith, few, longer)) n inside (leads_first h n leads)) [
                    | inl u ↦
                        let same = packets_other h n inside (not_own h u.in_use) in
                        inl (record {
                          in_use = head_still ∙ u.in_use;
                          earlier = u.earlier;
                          follows = subst (λ ps. FollowsRun table (u.earlier ++ ps) (state_of old.attempt.decoder)) (sym same) u.follows;
                          honest = subst (λ ps. IsHonestRun table h.configuration object (u.earlier ++ ps)) (sym same) u.honest;
                        })
                    | inr none ↦ by h object l here few n within inside leads none (has_head h cell) refl
                  ]
                ];
              };
        }
          where
            by : (h : Head) (object : List ℕ) → HasLed table h object came old → IsHonestHead table h object all → length all < 2 ^ 64 → (n : ℕ)
                → n ≤ length all → n ≤ length came → LeadsFrom h n all → votes_for h (drop n came) ≡ 0 → (b : Bool) → has_head h cell ≡ b
                → HasTakenOf table h object (drop n all) now ⊎ (votes_for h (drop n all) ≡ 0)
            by h object l here few n within inside leads none false is = inr (still_none h n inside is none)
            by h object l here few n within inside leads none true is =
                let unused : is_same h choice.head ≡ false =
                false_from_ne_true (is_same h choice.head)
                (λ used. true≢false (sym is ∙ not_own h (sym head_still ∙ same_is h choice.head used))) in
                absurd (other_led h here.taken few (l.lead (omega (arith, few, longer))) unused (leads_now h n within leads) is)

      -- or the cell's takes its place
      module _ (choice : Choice) (counts : CountsOther table old.choice cell.head true choice) (mid : PartReceiver)
          (anew : BeginsAnew table (record old { choice = choice }) mid) (kept : mid.choice ≡ choice) where
        record IsPlaced : Type 0 where
          rival : Option Rival
          next : IsNextRival old.choice.rival cell.head rival
          place : TakesPlace (record old.choice { rival = rival }) cell.head true choice

        placed_now : IsPlaced
        placed_now = elim counts [
          | inl (refused, is, none) ↦ absurd (true≢false none)
          | inr (taken, rival, next, place) ↦ record { rival = rival; next = next; place = place }
        ]

        head_now : mid.choice.head ≡ cell.head
        head_now = ap (λ (c : Choice). c.head) kept ∙ placed_now.place.3

        counted_anew : IsCounted mid
        counted_anew =
            let p = placed_now in
            record {
              own = subst (λ (k : Head). has_head k cell ≡ true) (sym head_now) (same_own cell.head);
              tally = subst (IsTally (length all)) (sym kept)
                  (place_tally cell.head (record old.choice { rival = p.rival }) choice other p.place (length all) (mid_tally p.rival p.next).0);
              led = λ h object next here.
                  let l = has.led h object next (honest_first h object here) in
                  record {
                    lead = λ few.
                        subst (λ (c : Choice). LeadBy h c (votes_for h all) (votes_against h all)) (sym kept)
                        (place_lead cell.head (record old.choice { rival = p.rival }) choice other p.place h (votes_for h all) (votes_against h all)
                        (mid_lead p.rival p.next h few (l.lead (omega (arith, few, longer)))));
                    uses = λ is. fresh h object here [] refl is;
                    takes = λ few n within leads. elim (l.takes (omega (arith, few, longer)) n within (leads_first h n leads)) [
                      | inl u ↦
                          absurd (not_led cell.head (record old.choice { rival = p.rival }) choice other p.place h (votes_for h all) (votes_against h all)
                          (subst (λ (k : Head). is_same h k ≡ true) (sym u.in_use) (same_own h))
                          (mid_lead p.rival p.next h few (l.lead (omega (arith, few, longer)))) (leads_now h n (omega (arith, within, longer)) leads))
                      | inr none ↦ by h object here n within none (has_head h cell) refl
                    ];
                  };
            }
          where
            fresh : (h : Head) (object : List ℕ) → IsHonestHead table h object all → (cells : List Cell) → received_packets h cells ≡ [] → mid.choice.head ≡ h
                → HasTakenOf table h object cells mid
            fresh h object here cells nothing is = record {
              in_use = is;
              earlier = [];
              follows = subst (λ ps. FollowsRun table ps (state_of mid.attempt.decoder)) (sym nothing) anew.follows;
              honest = subst (IsHonestRun table h.configuration object) (sym nothing) (none_honest h object here);
            }

            by : (h : Head) (object : List ℕ) → IsHonestHead table h object all → (n : ℕ) → n ≤ length came → votes_for h (drop n came) ≡ 0 → (b : Bool)
                → has_head h cell ≡ b → HasTakenOf table h object (drop n came) mid ⊎ (votes_for h (drop n all) ≡ 0)
            by h object here n within none true is =
                inl (fresh h object here (drop n came) (none_with h (drop n came) none) (head_now ∙ same_is h cell.head is))
            by h object here n within none false is = inr (still_none h n within is none)

        pub votes_anew : (new : PartReceiver) → AddsPacket table mid cell.packet new → HasVotes table names all new
        votes_anew new = added_votes mid counted_anew new
