-- What a window makes of one sender's cells.
use Rattle.std.proofs.Common.{◌≡◌, ◌≢◌, ℕ, ◌+◌, ◌<◌, ◌≤◌, List, [], ◌∷◌, ◌++◌, Bool, true, false, if◌then◌else◌, Option, Some, None, refl, sym, ap, subst, ◌∙◌, arith, length, map, drop, inl, inr, ltb, leb, length-append}
use Rattle.std.specs.Prelude.{All, IfSome, is_some, option_map, vec_items, ◌&&◌, ◌==◌}
use Rattle.std.specs.List.{range_with_len}
use Rattle.std.proofs.lemmas.Bool.{cases_eq, eq-eqb, ne_eqb, le-leb, lt-ltb, leb-true, ltb-true, and_parts}
use Rattle.std.proofs.lemmas.List.{append_cancel_right, map-append}
use Rattle.std.proofs.lemmas.Option.{same_Some}
use Rattle.std.proofs.lemmas.List.Elements.{All-push}
use Rattle.std.proofs.lemmas.List.FromFn.{map-range_with_len_more}
use Rattle.rq_standard.specs.declared.row.TableRow.{TableRow}
use Rattle.rq_standard.specs.TableRows.{greatest_size}
use Rattle.rq_standard.specs.Packet.{Packet}
use Rattle.rq_standard.specs.Headline.{IsHonestRun, IsObjectAnswer, IsAnswerable}
use Rattle.rq_standard.specs.DecoderState.{result_of}
use Rattle.raptorq.specs.Decoder.{state_of}
use Rattle.raptorq.proofs.Lists.{answers_exactly}
use Rattle.rq_cells.specs.declared.head.Head.{Head}
use Rattle.rq_cells.specs.declared.cell.Cell.{Cell}
use Rattle.rq_cast.specs.declared.part_receiver.PartReceiver.{PartReceiver}
use Rattle.rq_cast.specs.declared.window.Window.{Window}
use Rattle.rq_cast.specs.Parts.{number_of, object_of, seal_of, IsPart}
use Rattle.rq_cast.specs.Taken.{IsTakenHead, received_packets, IsNamed, IsNamedIn, IsNotNamed, IsOneSender}
use Rattle.rq_cast.specs.Streams.{Parts, names_before, AreSenders, IsCellOf, index_of, Reached, is_in, came_with, Determine, Writes}
use Rattle.rq_cast.specs.PartReceiving.{IsAttempt, HasReceivedAll}
use Rattle.rq_cast.specs.Windows.{Settled, names_of, open_at, HasAll, StandsAt, ReceivesCell, restarted_of}
use Rattle.rq_cast.proofs.PartTaken.{unused_all}
use Rattle.rq_cast.proofs.SettledParts.{names_more}
use Rattle.rq_cast.proofs.Senders.{checked_by, last_cell, none_undetermined, honest_more}
use Rattle.rq_cast.proofs.WindowPlaces.{slid}

-- ---- one part alone

same_last : (l m : Bool) (n : ℕ) → number_of l n ≡ number_of m n → l ≡ m
same_last true true n is = refl
same_last true false n is = absurd (omega (arith, is))
same_last false true n is = absurd (omega (arith, is))
same_last false false n is = refl

module _ (names : List (List ℕ)) (h : Head) (object : List ℕ) (l m : Bool) (xs ys : List ℕ) (one : IsPart l names h object xs) (other : IsPart m names h object ys) where
  pub last_is_same : l ≡ m
  last_is_same = same_last l m (length names) (sym one.number ∙ other.number)

  same_bytes : (k : Bool) → object ≡ object_of k names xs → object ≡ object_of k names ys → xs ≡ ys
  same_bytes true x y = append_cancel_right xs ys (seal_of names) (sym x ∙ y)
  same_bytes false x y = sym x ∙ y

  pub bytes_are_same : xs ≡ ys
  bytes_are_same = same_bytes m (subst (λ k. object ≡ object_of k names xs) last_is_same one.ended) other.ended

-- ---- cells in the window

pub in_window : (width first k : ℕ) → k < width → is_in width first (first + k) ≡ true
in_window width first k within =
    (λ i. le-leb first (first + k) (omega arith) i && lt-ltb (first + k) (first + width) (omega (arith, within)) i)

pub out_of_window : (width first i : ℕ) → (first ≤ i → i < first + width → ⊥) → is_in width first i ≡ false
out_of_window width first i out = by (is_in width first i) refl
  where
    by : (b : Bool) → is_in width first i ≡ b → b ≡ false
    by false e = refl
    by true e = let both = and_parts (leb first i) (ltb i (first + width)) e in absurd (out (leb-true first i both.0) (ltb-true i (first + width) both.1))

taken_there : {X : Type 0} (p q : Bool) (x y : X) → p ≡ true → q ≡ true → (if p && q then x else y) ≡ x
taken_there p q x y is so = (λ i. if is i && so i then x else y)

left_there : {X : Type 0} (p q : Bool) (x y : X) → q ≡ false → (if p && q then x else y) ≡ y
left_there true q x y so = (λ i. if so i then x else y)
left_there false q x y so = refl

module _ (width : ℕ) (b : Reached) (cell : Cell) (k : ℕ) (within : k < width) (here : index_of cell ≡ b.first + k) where
  abbrev i₀ : ℕ
  i₀ = b.first + k

  came_here : came_with width b cell i₀ ≡ b.came i₀ ++ (cell ∷ [])
  came_here = taken_there (is_in width b.first i₀) (index_of cell == i₀) (b.came i₀ ++ (cell ∷ [])) (b.came i₀) (in_window width b.first k within)
      (eq-eqb (index_of cell) i₀ here)

  came_elsewhere : (i : ℕ) → i ≢ i₀ → came_with width b cell i ≡ b.came i
  came_elsewhere i apart = left_there (is_in width b.first i) (index_of cell == i) (b.came i ++ (cell ∷ [])) (b.came i)
      (ne_eqb (index_of cell) i (λ same. apart (sym same ∙ here)))

  each_came : (P : ℕ → List Cell → Type 0) → ((i : ℕ) → P i (b.came i)) → P i₀ (b.came i₀ ++ (cell ∷ [])) → (i : ℕ) → P i (came_with width b cell i)
  each_came P others this i = elim (cases_eq i i₀) [
    | inl same ↦ subst (λ n. P n (came_with width b cell n)) (sym same) (subst (P i₀) (sym came_here) this)
    | inr apart ↦ subst (P i) (sym (came_elsewhere i apart)) (others i)
  ]

-- ---- what it has of one sender's cells

module _ (table : List TableRow) (stream : List ℕ) (s : Parts) (came : List Cell) (all : AreSenders table stream s came) (b : Reached)
    (parts : List Settled) (w : Window) (stands : StandsAt table s b parts w) where
  named : (i : ℕ) → i < s.count → IsNamed (s.head i) (s.object i)
  named i below = record { some = all.are.full i below; named = (all.are.each i below).named }

  abbrev first : ℕ
  first = b.first

  pub at_first : HasAll table (s.head first) (b.came first) (open_at w 0)
  at_first =
      let same : first + 0 ≡ first = omega arith in
      subst (λ n. HasAll table (s.head n) (b.came n) (open_at w 0)) same (stands.received 0)

  abbrev packets : List Packet
  packets = received_packets (s.head first) (b.came first)

  module _ (below : first < s.count) where
    -- what is answered of its first part
    answered_first : (p : PartReceiver) → IsAttempt p.choice.head p.attempt → HasReceivedAll table (s.head first) (b.came first) p
        → IsObjectAnswer table (s.head first).configuration (s.object first) packets (result_of (state_of p.attempt.decoder))
    answered_first p is has =
        answers_exactly table (s.head first).configuration packets (state_of p.attempt.decoder)
        (is.configuration ∙ ap (λ (h : Head). h.configuration) has.head) has.follows (s.object first) (stands.honest first below)

    unwritten_at : (o : Option PartReceiver) → HasAll table (s.head first) (b.came first) o → IfSome o (λ p. IsAttempt p.choice.head p.attempt)
        → IfSome o (λ p. p.attempt.object ≡ None) → Determine table s first (b.came first) → ⊥
    unwritten_at None none is waits determined =
        none_undetermined table stream s came all first below
        (subst (λ cs. IsAnswerable table (s.head first).configuration (received_packets (s.head first) cs)) none determined)
    unwritten_at (Some p) has is waits determined =
        let whole = (answered_first p is has).whole determined in
        let none : IsNotNamed p.choice.head (result_of (state_of p.attempt.decoder)) =
        subst (λ o. IsNamedIn p.choice.head (result_of (state_of p.attempt.decoder)) (option_map vec_items o)) waits is.object in
        none (s.object first) whole (subst (λ (h : Head). IsNamed h (s.object first)) (sym has.head) (named first below))

    -- its first part waits where it isn't determined
    pub unwritten_first : IfSome (open_at w 0) (λ p. IsAttempt p.choice.head p.attempt) → IfSome (open_at w 0) (λ p. p.attempt.object ≡ None)
        → Determine table s first (b.came first) → ⊥
    unwritten_first = unwritten_at (open_at w 0) at_first

    -- the part that its cells determine is the sender's
    module _ (p : PartReceiver) (opened : open_at w 0 ≡ Some p) (is : IsAttempt p.choice.head p.attempt) (object : List ℕ)
        (answered : result_of (state_of p.attempt.decoder) ≡ Some object) where
      has_all : HasReceivedAll table (s.head first) (b.came first) p
      has_all = subst (HasAll table (s.head first) (b.came first)) opened at_first

      pub determined_first : Determine table s first (b.came first)
      determined_first = (answered_first p is has_all).only (ap is_some answered)

      pub object_first : object ≡ s.object first
      object_first = same_Some object (s.object first) (sym answered ∙ (answered_first p is has_all).whole determined_first)

      pub part_first : IsPart (first + 1 == s.count) (names_of parts) p.choice.head object (s.bytes first)
      part_first =
          subst (λ ns. IsPart (first + 1 == s.count) ns p.choice.head object (s.bytes first)) (sym stands.names)
          (subst (λ (h : Head). IsPart (first + 1 == s.count) (names_before s first) h object (s.bytes first)) (sym has_all.head)
          (subst (λ xs. IsPart (first + 1 == s.count) (names_before s first) (s.head first) xs (s.bytes first)) (sym object_first) (all.are.each first below)))

      -- it is settled
      module _ (part : Settled) (new : Window) (head : part.head ≡ p.choice.head)
          (is_part : IsPart part.is_last (names_of parts) p.choice.head object part.bytes)
          (places : new.parts.items ≡ drop 1 w.parts.items ++ None ∷ []) (ended : new.ended ≡ part.is_last) (restarted : new.restarted ≡ w.restarted) where
        abbrev pub after : Reached
        after = record { first = first + 1; came = b.came }

        name_is : part.head.name ≡ (s.head first).name
        name_is = ap (λ (h : Head). h.name) (head ∙ has_all.head)

        bytes_is : part.bytes ≡ s.bytes first
        bytes_is = bytes_are_same (names_of parts) p.choice.head object part.is_last (first + 1 == s.count) part.bytes (s.bytes first) is_part part_first

        last_is : part.is_last ≡ (first + 1 == s.count)
        last_is = last_is_same (names_of parts) p.choice.head object part.is_last (first + 1 == s.count) part.bytes (s.bytes first) is_part part_first

        pub stands_settled : StandsAt table s after (parts ++ part ∷ []) new
        stands_settled = record {
          count = omega (arith, length-append parts (part ∷ []), stands.count);
          names = names_more table [] part parts ∙ ap (λ ns. ns ++ (part.head.name ∷ [])) stands.names ∙ ap (λ n. names_before s first ++ (n ∷ [])) name_is
              ∙ sym (map-range_with_len_more (λ (i : ℕ). (s.head i).name) 0 first first (omega arith));
          same = map-append (λ (q : Settled). q.bytes) parts (part ∷ []) ∙ ap (λ xs. xs ++ (part.bytes ∷ [])) stands.same
              ∙ ap (λ xs. map s.bytes (range_with_len 0 first) ++ (xs ∷ [])) bytes_is ∙ sym (map-range_with_len_more s.bytes 0 first first (omega arith));
          heads = stands.heads;
          honest = stands.honest;
          received = λ j.
              let index : first + (1 + j) ≡ first + 1 + j = omega arith in
              subst (λ o. HasAll table (s.head (first + 1 + j)) (b.came (first + 1 + j)) o) (sym (slid w new places j))
              (subst (λ n. HasAll table (s.head n) (b.came n) (open_at w (1 + j))) index (stands.received (1 + j)));
          within = omega (arith, below);
          ended = ended ∙ last_is;
          restarted = restarted ∙ stands.restarted;
        }

        -- as one sender's are
        pub writes_settled : (width : ℕ) (old : Reached) (cell : Cell) → Writes table s width old cell b → Writes table s width old cell after
        writes_settled width old cell writes = record {
          came = writes.came;
          from = omega (arith, writes.from);
          within = omega (arith, below);
          written = λ i least less. elim (cases_eq i first) [
            | inl same ↦ subst (λ n. Determine table s n (b.came n)) (sym same) determined_first
            | inr apart ↦ writes.written i least (omega (arith, less, apart))
          ];
        }

-- ---- a cell of a part in the window

module _ (table : List TableRow) (stream : List ℕ) (s : Parts) (came : List Cell) (cell : Cell) (all : AreSenders table stream s (came ++ cell ∷ []))
    (width : ℕ) (b : Reached) (parts : List Settled) (old new : Window) (stands : StandsAt table s b parts old)
    (k : ℕ) (within : k < width) (here : index_of cell ≡ b.first + k) where
  abbrev pub with_cell : Reached
  with_cell = record { first = b.first; came = came_with width b cell }

  abbrev i₀' : ℕ
  i₀' = b.first + k

  of_sender : IsCellOf s cell
  of_sender = last_cell table stream s came cell all

  below_count : i₀' < s.count
  below_count = subst (λ n. n < s.count) here of_sender.0

  head_is : cell.head ≡ s.head i₀'
  head_is = of_sender.1 ∙ ap s.head here

  heads_with : (i : ℕ) → All (λ (c : Cell). c.head ≡ s.head i) (with_cell.came i)
  heads_with = each_came width b cell k within here (λ i cs. All (λ (c : Cell). c.head ≡ s.head i) cs) stands.heads
      (All-push (λ (c : Cell). c.head ≡ s.head i₀') (b.came i₀') cell (stands.heads i₀') head_is)

  honest_with : (i : ℕ) → i < s.count → IsHonestRun table (s.head i).configuration (s.object i) (received_packets (s.head i) (with_cell.came i))
  honest_with = each_came width b cell k within here
      (λ i cs. i < s.count → IsHonestRun table (s.head i).configuration (s.object i) (received_packets (s.head i) cs)) stands.honest
      (λ below. honest_more table (s.head i₀') (s.object i₀') (b.came i₀') came cell (stands.honest i₀' below) (all.honest i₀' below))

  abbrev more : List Cell
  more = b.came i₀' ++ (cell ∷ [])

  one_sender : IsOneSender table (s.head i₀') more
  one_sender =
      let is : with_cell.came i₀' ≡ more = came_here width b cell k within here in
      record {
        heads = subst (All (λ (c : Cell). c.head ≡ s.head i₀')) is (heads_with i₀');
        object = s.object i₀';
        named = record { some = all.are.full i₀' below_count; named = (all.are.each i₀' below_count).named };
        honest = subst (λ cs. IsHonestRun table (s.head i₀').configuration (s.object i₀') (received_packets (s.head i₀') cs)) is (honest_with i₀' below_count);
      }

  -- its part has all cells then
  has_all_with : (before after : Option PartReceiver) → ReceivesCell table before cell after → HasAll table (s.head i₀') (b.came i₀') before
      → HasAll table (s.head i₀') more after
  has_all_with None None refused none = absurd (refused (subst (IsTakenHead table) (sym head_is) (checked_by (greatest_size table) (s.head i₀').configuration (all.accepted i₀' below_count))))
  has_all_with None (Some p) (unused, is_unused, takes) none =
      let from_none : HasReceivedAll table (s.head i₀') (b.came i₀') unused =
      subst (λ cs. HasReceivedAll table (s.head i₀') cs unused) (sym none)
      (subst (λ (h : Head). HasReceivedAll table h [] unused) head_is (unused_all table cell.head unused is_unused)) in
      takes.one_sender (s.head i₀') (b.came i₀') one_sender from_none
  has_all_with (Some q) None receives has = absurd receives
  has_all_with (Some q) (Some p) takes has = takes.one_sender (s.head i₀') (b.came i₀') one_sender has

  module _ (slot : Option PartReceiver) (receives : ReceivesCell table (open_at old k) cell slot) (placed : open_at new k ≡ slot)
      (others : (j : ℕ) → j ≢ k → open_at new j ≡ open_at old j) (ended : new.ended ≡ old.ended)
      (restarted : new.restarted ≤ old.restarted + restarted_of slot) where
    here_all : HasAll table (s.head i₀') more slot
    here_all = has_all_with (open_at old k) slot receives (stands.received k)

    never : (o : Option PartReceiver) → HasAll table (s.head i₀') more o → restarted_of o ≡ 0
    never None has = refl
    never (Some p) has = has.restarted

    open_with : (j : ℕ) → HasAll table (s.head (b.first + j)) (with_cell.came (b.first + j)) (open_at new j)
    open_with j = elim (cases_eq j k) [
      | inl same ↦ subst (λ n. HasAll table (s.head (b.first + n)) (with_cell.came (b.first + n)) (open_at new n)) (sym same)
          (subst (λ cs. HasAll table (s.head i₀') cs (open_at new k)) (sym (came_here width b cell k within here))
          (subst (HasAll table (s.head i₀') more) (sym placed) here_all))
      | inr apart ↦
          subst (λ cs. HasAll table (s.head (b.first + j)) cs (open_at new j))
          (sym (came_elsewhere width b cell k within here (b.first + j) (λ same. apart (omega (arith, same)))))
          (subst (HasAll table (s.head (b.first + j)) (b.came (b.first + j))) (sym (others j apart)) (stands.received j))
    ]

    pub stands_with : StandsAt table s with_cell parts new
    stands_with = record {
      count = stands.count;
      names = stands.names;
      same = stands.same;
      heads = heads_with;
      honest = honest_with;
      received = open_with;
      within = stands.within;
      ended = ended ∙ stands.ended;
      restarted = omega (arith, restarted, stands.restarted, never slot here_all);
    }

    pub writes_with : Writes table s width b cell with_cell
    writes_with = record {
      came = λ i. refl;
      from = omega arith;
      within = stands.within;
      written = λ i least less. absurd (omega (arith, least, less));
    }
