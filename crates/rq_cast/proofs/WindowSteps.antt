-- What a window does, step by step.
use Rattle.std.proofs.Common.{◌≡◌, ◌≢◌, ℕ, zero, suc, ◌+◌, ◌-◌, ◌<◌, ◌≤◌, List, [], ◌∷◌, ◌++◌, Bool, true, false, Option, Some, None, refl, sym, ap, subst, ◌∙◌, arith, length, set, drop, take, get_or, replicate, inl, inr, append-nil, append_assoc, take-append-drop, length-append}
use Rattle.std.specs.Prelude.{IfSome, ◌==◌}
use Rattle.std.proofs.lemmas.Bool.{cases_eq, cases_lt, eqb-true, eqb-false, ne_eqb}
use Rattle.std.proofs.lemmas.List.{get_or-replicate, get_or_past, length-replicate, length-map, drop-set-lt}
use Rattle.rq_standard.specs.declared.row.TableRow.{TableRow}
use Rattle.rq_cells.specs.declared.cell.Cell.{Cell}
use Rattle.rq_cast.specs.declared.part_receiver.PartReceiver.{PartReceiver}
use Rattle.rq_cast.specs.declared.settled.SettledPart.{SettledPart}
use Rattle.rq_cast.specs.declared.window.Window.{Window}
use Rattle.rq_cast.specs.Names.{AreNames}
use Rattle.rq_cast.specs.Taken.{part_index, received_packets, IsAnswered}
use Rattle.rq_cast.specs.Streams.{Parts, AreSenders, index_of, Reached, reached_none, is_in, Determine, Moves, MovesOver, stand, stand_at, stands_over, cell_at, cells_of}
use Rattle.rq_cast.specs.PartReceiving.{IsAttempt, IsSound}
use Rattle.rq_cast.specs.Settling.{SettlesAs, IsMisplaced}
use Rattle.rq_cast.specs.Windows.{Settled, CountsDropped, names_of, has_last, IsSettled, open_at, IsSoundWindow, IsOpen, HasVoted, names_at, HasAll, StandsAt, HasTaken, IsMoving, ReceivesCell, restarted_of, KeepsCounts, MovesOn}
use Rattle.rq_cast.proofs.Answering.{answered_by}
use Rattle.rq_cast.proofs.Dropped.{CountsCell, counts_given, drops_more, drops_same, drops_behind, stands_more}
use Rattle.rq_cast.proofs.SettledParts.{headed_by, settled_later, settled_more, names_more, bytes_more, last_more}
use Rattle.rq_cast.proofs.Senders.{senders_first, last_cell, moves_more, came_passed}
use Rattle.rq_cast.proofs.WindowPlaces.{some_all, place_here, place_elsewhere, slid, open_past, open_given, open_anew, open_slid}
use Rattle.rq_cast.proofs.WindowVotes.{cells_more, cell_out, cell_in, voted_received, voted_named, first_voted, unled_by}
use Rattle.rq_cast.proofs.WindowSenders.{out_of_window, unwritten_first, part_first, after, stands_settled, writes_settled, with_cell, stands_with, writes_with}

-- ---- before any cell

open_none : (w : Window) (width : ℕ) → w.parts.items ≡ replicate width None → (j : ℕ) → open_at w j ≡ None
open_none w width places j = ap (λ (xs : List (Option PartReceiver)). get_or xs j None) places ∙ elim (cases_lt j width) [
  | inl within ↦ get_or-replicate width j None None within
  | inr past ↦
      let none : Option PartReceiver = None in
      get_or_past (replicate width none) j none (omega (arith, past, length-replicate width none))
]

pub taken_none : (table : List TableRow) (stream : List ℕ) (width : ℕ) (w : Window) → w.parts.items ≡ replicate width None → AreNames [] w.names
    → w.ready.items ≡ [] → w.ended ≡ false → w.restarted ≡ 0 → w.behind ≡ 0 → w.ahead ≡ 0 → HasTaken table stream width [] [] w
taken_none table stream width w places names ready ended restarted behind ahead =
    let none = open_none w width places in
    record {
      parts = [];
      settles = record { settled = tt; exactly = λ s all. record { reached = reached_none; moves = refl; count = refl; same = refl } };
      names = names;
      out = sym ready;
      ended = ended;
      are_open = λ _. record {
        wide = ap length places ∙ length-replicate width None;
        each = λ j. subst (λ o. IfSome o (IsOpen table [])) (sym (none j)) tt;
      };
      waits = λ _. subst (λ (o : Option PartReceiver). IfSome o (λ p. p.attempt.object ≡ None)) (sym (none 0)) tt;
      drops = record { stands = []; as_many = refl; each = λ k less. absurd (omega (arith, less)); behind_is = behind; ahead_is = ahead };
      standing = λ s all. (
        reached_none,
        refl,
        record {
          count = refl;
          names = refl;
          same = refl;
          heads = λ i k d less. absurd (omega (arith, less));
          honest = all.honest;
          received = λ j. subst (HasAll table (s.head (0 + j)) []) (sym (none j)) refl;
          within = omega arith;
          ended = ended ∙ sym (ne_eqb 0 s.count (λ same. absurd (omega (arith, same, all.are.some))));
          restarted = restarted;
        },
        refl,
      );
      voted = λ _ j. subst (HasVoted table (names_at [] j) []) (sym (none j)) (λ h taken. refl);
      unled = λ _. unled_by table width [] [] [] None (λ h taken. refl) tt tt;
    }

-- ---- what stays

stands_same : (table : List TableRow) (s : Parts) (b : Reached) (parts : List Settled) (old new : Window) → new.parts.items ≡ old.parts.items
    → new.ended ≡ old.ended → new.restarted ≡ old.restarted → StandsAt table s b parts old → StandsAt table s b parts new
stands_same table s b parts old new places ended restarted stands = record {
  count = stands.count;
  names = stands.names;
  same = stands.same;
  heads = stands.heads;
  honest = stands.honest;
  received = λ j. subst (λ (xs : List (Option PartReceiver)). HasAll table (s.head (b.first + j)) (b.came (b.first + j)) (get_or xs j None)) (sym places) (stands.received j);
  within = stands.within;
  ended = ended ∙ stands.ended;
  restarted = restarted ∙ stands.restarted;
}

-- the attempt at the first part
pub attempt_first : (table : List TableRow) (w : Window) → IsSoundWindow table w → IfSome (open_at w 0) (λ p. IsAttempt p.choice.head p.attempt)
attempt_first table w sound =
    some_all (IsSound table (w.names.count + 0)) (λ p. IsAttempt p.choice.head p.attempt) (λ p is. is.attempt) (open_at w 0) (sound.each 0)

-- whether all parts are settled
module _ (table : List TableRow) (s : Parts) (b : Reached) (parts : List Settled) (w : Window) (stands : StandsAt table s b parts w) where
  all_settled : w.ended ≡ true → b.first ≡ s.count
  all_settled ended = eqb-true b.first s.count (sym stands.ended ∙ ended)

  pub some_left : w.ended ≡ false → b.first < s.count
  some_left ended = let apart = eqb-false b.first s.count (sym stands.ended ∙ ended) in omega (arith, stands.within, apart)

-- the first part isn't determined
unwritten_of : (table : List TableRow) (stream : List ℕ) (s : Parts) (came : List Cell) → AreSenders table stream s came → (b : Reached)
    (parts : List Settled) (w : Window) → StandsAt table s b parts w → IsSoundWindow table w
    → (w.ended ≡ false → IfSome (open_at w 0) (λ p. p.attempt.object ≡ None)) → b.first < s.count → Determine table s b.first (b.came b.first) → ⊥
unwritten_of table stream s came all b parts w stands sound waits below = by w.ended refl
  where
    by : (e : Bool) → w.ended ≡ e → Determine table s b.first (b.came b.first) → ⊥
    by true e = absurd (omega (arith, all_settled table s b parts w stands e, below))
    by false e = unwritten_first table stream s came all b parts w stands below (attempt_first table w sound) (waits e)

-- ---- a cell that isn't looked at

module _ (table : List TableRow) (stream : List ℕ) (width : ℕ) (came : List Cell) (given : List ℕ) (cell : Cell) (old new : Window)
    (has : HasTaken table stream width came given old) (sound : IsSoundWindow table old) (names : new.names ≡ old.names)
    (ready : new.ready.items ≡ old.ready.items) (ended : new.ended ≡ old.ended) where
  abbrev all : List Cell
  all = came ++ cell ∷ []

  names_count : old.names.count ≡ length has.parts
  names_count = has.names.count ∙ length-map has.parts (λ (q : Settled). q.head.name)

  -- where the window stood
  stood_at : (s : Parts) (b : Reached) → StandsAt table s b has.parts old → stand (has_last has.parts) (length has.parts) ≡ stand_at s b
  stood_at s b st = (λ i. stand ((sym has.ended ∙ st.ended) i) (st.count i))

  module _ (places : new.parts.items ≡ old.parts.items) (restarted : new.restarted ≡ old.restarted)
      (counts : CountsCell table width came has.parts old has.drops cell new)
      (apart : old.ended ≡ false → (k : ℕ) → k < length old.parts.items → part_index cell.head ≢ old.names.count + k) where
    abbrev drops : CountsDropped table width all has.parts new.behind new.ahead
    drops = drops_more table width came has.parts old has.drops cell has.ended names_count has.settles.settled (λ more. has.unled (has.ended ∙ more)) new counts

    -- none of the cells of the window's parts comes
    none_more : old.ended ≡ false → (j : ℕ) → cells_of width (length has.parts + j) has.drops.stands came ≡ cells_of width (length has.parts + j) drops.stands all
    none_more e j =
        let i = length has.parts + j in
        let there = stand (has_last has.parts) (length has.parts) in
        let out : cell_at width i there cell ≡ [] = cell_out width i (length has.parts) (has_last has.parts) cell
        (λ open_still less index. apart e j (omega (arith, less, (has.are_open e).wide)) (omega (arith, index, names_count))) in
        sym (append-nil (cells_of width i has.drops.stands came)) ∙ ap (λ cs. cells_of width i has.drops.stands came ++ cs) (sym out)
        ∙ sym (cells_more width i has.drops.stands there came cell has.drops.as_many)

    voted_still : old.ended ≡ false → (j : ℕ) → HasVoted table (names_at has.parts j) (cells_of width (length has.parts + j) drops.stands all) (open_at old j)
    voted_still e j = subst (λ cs. HasVoted table (names_at has.parts j) cs (open_at old j)) (none_more e j) (has.voted e j)

    module _ (s : Parts) (senders : AreSenders table stream s all) where
      earlier : AreSenders table stream s came
      earlier = senders_first table stream s came (cell ∷ []) senders

      abbrev b : Reached
      b = (has.standing s earlier).0

      stands : StandsAt table s b has.parts old
      stands = (has.standing s earlier).2

      out : is_in width b.first (index_of cell) ≡ false
      out = out_of_window width b.first (index_of cell) (λ least less. by least less old.ended refl)
        where
          by : b.first ≤ index_of cell → index_of cell < b.first + width → (e : Bool) → old.ended ≡ e → ⊥
          by least less true e = absurd (omega (arith, least, all_settled table s b has.parts old stands e, (last_cell table stream s came cell senders).0))
          by least less false e =
              apart e (index_of cell - b.first) (omega (arith, least, less, (has.are_open e).wide)) (omega (arith, least, names_count, stands.count))

      moves : Moves table s width b cell b
      moves = record {
        writes = record {
          came = λ i. sym (came_passed width b cell out i);
          from = omega arith;
          within = stands.within;
          written = λ i least less. absurd (omega (arith, least, less));
        };
        unwritten = unwritten_of table stream s came earlier b has.parts old stands sound has.waits;
      }

      abbrev over : MovesOver table s width reached_none all b
      over = moves_more table s width came reached_none b b cell (has.standing s earlier).1 moves

    pub taken_past : HasTaken table stream width all given new
    taken_past = record {
      parts = has.parts;
      settles = record {
        settled = settled_later table came (cell ∷ []) [] has.parts has.settles.settled;
        exactly = λ s senders.
            let st = stands s senders in record { reached = b s senders; moves = over s senders; count = st.count; same = st.same };
      };
      names = subst (AreNames (names_of has.parts)) (sym names) has.names;
      out = has.out ∙ ap (λ xs. given ++ xs) (sym ready);
      ended = ended ∙ has.ended;
      are_open = λ e. let was = sym ended ∙ e in open_past table width came old new (has.are_open was) cell sound (apart was) places;
      waits = λ e. subst (λ (xs : List (Option PartReceiver)). IfSome (get_or xs 0 None) (λ p. p.attempt.object ≡ None)) (sym places) (has.waits (sym ended ∙ e));
      drops = drops;
      standing = λ s senders. (
        b s senders,
        over s senders,
        stands_same table s (b s senders) has.parts old new places ended restarted (stands s senders),
        ap (λ xs. xs ++ stand (has_last has.parts) (length has.parts) ∷ []) (has.standing s (earlier s senders)).3
            ∙ ap (λ x. stands_over table s width reached_none came (b s senders) (has.standing s (earlier s senders)).1 ++ x ∷ []) (stood_at s (b s senders) (stands s senders))
            ∙ sym (stands_more table s width came reached_none (b s senders) (b s senders) cell (has.standing s (earlier s senders)).1 (moves s senders)),
      );
      voted = λ e j. subst (λ (xs : List (Option PartReceiver)). HasVoted table (names_at has.parts j) (cells_of width (length has.parts + j) drops.stands all)
          (get_or xs j None)) (sym places) (voted_still (sym ended ∙ e) j);
      unled = λ e.
          let was = sym ended ∙ e in
          unled_by table width all drops.stands has.parts (open_at old 0) (first_voted table width all drops.stands has.parts (open_at old 0) (voted_still was 0))
          (attempt_first table old sound) (has.waits was);
    }

  -- ---- a cell that is given to its part

  module _ (k : ℕ) (slot : Option PartReceiver) (places : new.parts.items ≡ set old.parts.items k slot) (within : k < length old.parts.items)
      (open_still : old.ended ≡ false) (here : part_index cell.head ≡ old.names.count + k) (receives : ReceivesCell table (open_at old k) cell slot)
      (restarted : new.restarted ≤ old.restarted + restarted_of slot) (behind : new.behind ≡ old.behind) (ahead : new.ahead ≡ old.ahead) where
    counts_cell : CountsCell table width came has.parts old has.drops cell new
    counts_cell =
        counts_given table width came has.parts old has.drops cell new open_still behind ahead (omega (arith, here))
        (omega (arith, here, within, (has.are_open open_still).wide))

    abbrev dropped : CountsDropped table width all has.parts new.behind new.ahead
    dropped = drops_more table width came has.parts old has.drops cell has.ended names_count has.settles.settled (λ more. has.unled (has.ended ∙ more)) new counts_cell

    still_open : has_last has.parts ≡ false
    still_open = sym has.ended ∙ open_still

    voted_now : (j : ℕ) → HasVoted table (names_at has.parts j) (cells_of width (length has.parts + j) dropped.stands all) (open_at new j)
    voted_now j =
        let n = length has.parts in
        let there = stand (has_last has.parts) n in
        let index : part_index cell.head ≡ n + k = omega (arith, here, names_count) in
        elim (cases_eq j k) [
          | inl same ↦
              let inside : k < width = omega (arith, within, (has.are_open open_still).wide) in
              let cells = cells_of width (n + k) has.drops.stands came in
              let more : cells ++ cell ∷ [] ≡ cells_of width (n + k) dropped.stands all =
              ap (λ cs. cells ++ cs) (sym (cell_in width n k (has_last has.parts) cell still_open inside index))
              ∙ sym (cells_more width (n + k) has.drops.stands there came cell has.drops.as_many) in
              subst (λ i. HasVoted table (names_at has.parts i) (cells_of width (n + i) dropped.stands all) (open_at new i)) (sym same)
              (subst (λ (o : List Cell × Option PartReceiver). HasVoted table (names_at has.parts k) o.0 o.1)
              (λ i. (more i, sym (place_here old new k slot places within) i))
              (voted_received table (names_at has.parts k) cells cell (open_at old k) slot receives (has.voted open_still k)))
          | inr apart ↦
              let cells = cells_of width (n + j) has.drops.stands came in
              let out : cell_at width (n + j) there cell ≡ [] =
              cell_out width (n + j) n (has_last has.parts) cell (λ e less at. apart (omega (arith, at, index))) in
              let more : cells ≡ cells_of width (n + j) dropped.stands all =
              sym (append-nil cells) ∙ ap (λ cs. cells ++ cs) (sym out) ∙ sym (cells_more width (n + j) has.drops.stands there came cell has.drops.as_many) in
              subst (λ (o : List Cell × Option PartReceiver). HasVoted table (names_at has.parts j) o.0 o.1)
              (λ i. (more i, sym (place_elsewhere old new k slot places within j apart) i)) (has.voted open_still j)
        ]

    pub taken_given : IsMoving table stream width came cell given new
    taken_given = record {
      parts = has.parts;
      settled = settled_later table came (cell ∷ []) [] has.parts has.settles.settled;
      names = subst (AreNames (names_of has.parts)) (sym names) has.names;
      out = has.out ∙ ap (λ xs. given ++ xs) (sym ready);
      ended = ended ∙ has.ended;
      are_open = λ e. open_given table width came old new (has.are_open open_still) cell sound k slot places within here receives;
      drops = dropped;
      standing = λ s senders.
          let standing = has.standing s (senders_first table stream s came (cell ∷ []) senders) in
          let st = standing.2 in
          let inside : k < width = omega (arith, within, (has.are_open open_still).wide) in
          let index : index_of cell ≡ standing.0.first + k = omega (arith, here, names_count, st.count) in (
            standing.0,
            with_cell table stream s came cell senders width standing.0 has.parts old new st k inside index,
            standing.1,
            writes_with table stream s came cell senders width standing.0 has.parts old new st k inside index slot receives
                (place_here old new k slot places within) (place_elsewhere old new k slot places within) ended restarted,
            stands_with table stream s came cell senders width standing.0 has.parts old new st k inside index slot receives
                (place_here old new k slot places within) (place_elsewhere old new k slot places within) ended restarted,
            ap (λ xs. xs ++ stand (has_last has.parts) (length has.parts) ∷ []) standing.3
                ∙ ap (λ x. stands_over table s width reached_none came standing.0 standing.1 ++ x ∷ []) (stood_at s standing.0 st),
          );
      voted = λ e j. voted_now j;
    }

-- ---- the first part

module _ (table : List TableRow) (stream : List ℕ) (width : ℕ) (came : List Cell) (cell : Cell) (given : List ℕ) (old : Window)
    (m : IsMoving table stream width came cell given old) (sound : IsSoundWindow table old) where
  abbrev seen : List Cell
  seen = came ++ cell ∷ []

  -- it isn't determined
  pub rested : (old.ended ≡ false → IfSome (open_at old 0) (λ p. p.attempt.object ≡ None)) → HasTaken table stream width seen given old
  rested waits = record {
    parts = m.parts;
    settles = record {
      settled = m.settled;
      exactly = λ s senders.
          let st = m.standing s senders in
          record {
            reached = st.1;
            moves = moves_more table s width came reached_none st.0 st.1 cell st.2 (moves s senders);
            count = st.4.count;
            same = st.4.same;
          };
    };
    names = m.names;
    out = m.out;
    ended = m.ended;
    are_open = m.are_open;
    waits = waits;
    drops = m.drops;
    standing = λ s senders.
        let st = m.standing s senders in (
          st.1,
          moves_more table s width came reached_none st.0 st.1 cell st.2 (moves s senders),
          st.4,
          st.5 ∙ sym (stands_more table s width came reached_none st.0 st.1 cell st.2 (moves s senders)),
        );
    voted = m.voted;
    unled = λ e.
        unled_by table width seen m.drops.stands m.parts (open_at old 0) (first_voted table width seen m.drops.stands m.parts (open_at old 0) (m.voted e 0))
        (attempt_first table old sound) (waits e);
  }
    where
      moves : (s : Parts) (senders : AreSenders table stream s seen) → Moves table s width (m.standing s senders).0 cell (m.standing s senders).1
      moves s senders =
          let st = m.standing s senders in
          record { writes = st.3; unwritten = unwritten_of table stream s seen senders st.1 m.parts old st.4 sound waits }

  -- what is received of it changes
  module _ (new : Window) (slot : Option PartReceiver) (places : new.parts.items ≡ set old.parts.items 0 slot) (some : 0 < length old.parts.items)
      (names : new.names ≡ old.names) (ready : new.ready.items ≡ old.ready.items) (ended : new.ended ≡ old.ended)
      (behind : new.behind ≡ old.behind) (ahead : new.ahead ≡ old.ahead)
      (opens : IfSome (open_at old 0) (IsOpen table seen) → IfSome slot (IsOpen table seen))
      (votes : (cells : List Cell) → HasVoted table (Some (names_of m.parts)) cells (open_at old 0) → HasVoted table (Some (names_of m.parts)) cells slot)
      (one_sender : (s : Parts) → AreSenders table stream s seen → (b : Reached) → StandsAt table s b m.parts old
      → HasAll table (s.head b.first) (b.came b.first) slot × (new.restarted ≡ 0)) where
    stands_changed : (s : Parts) → AreSenders table stream s seen → (b : Reached) → StandsAt table s b m.parts old → StandsAt table s b m.parts new
    stands_changed s senders b st = record {
      count = st.count;
      names = st.names;
      same = st.same;
      heads = st.heads;
      honest = st.honest;
      received = open_now;
      within = st.within;
      ended = ended ∙ st.ended;
      restarted = (one_sender s senders b st).1;
    }
      where
        open_now : (j : ℕ) → HasAll table (s.head (b.first + j)) (b.came (b.first + j)) (open_at new j)
        open_now j = elim (cases_eq j 0) [
          | inl same ↦
              let index : b.first ≡ b.first + j = omega (arith, same) in
              subst (λ n. HasAll table (s.head n) (b.came n) (open_at new j)) index
              (subst (HasAll table (s.head b.first) (b.came b.first)) (sym (ap (open_at new) same ∙ place_here old new 0 slot places some))
              (one_sender s senders b st).0)
          | inr apart ↦
              subst (HasAll table (s.head (b.first + j)) (b.came (b.first + j))) (sym (place_elsewhere old new 0 slot places some j apart)) (st.received j)
        ]

    voted_changed : old.ended ≡ false → (j : ℕ)
        → HasVoted table (names_at m.parts j) (cells_of width (length m.parts + j) m.drops.stands seen) (open_at new j)
    voted_changed was j = elim (cases_eq j 0) [
      | inl same ↦
          let cells = cells_of width (length m.parts + 0) m.drops.stands seen in
          subst (λ n. HasVoted table (names_at m.parts n) (cells_of width (length m.parts + n) m.drops.stands seen) (open_at new n)) (sym same)
          (subst (HasVoted table (Some (names_of m.parts)) cells) (sym (place_here old new 0 slot places some)) (votes cells (m.voted was 0)))
      | inr apart ↦
          subst (HasVoted table (names_at m.parts j) (cells_of width (length m.parts + j) m.drops.stands seen))
          (sym (place_elsewhere old new 0 slot places some j apart)) (m.voted was j)
    ]

    pub first_changed : IsMoving table stream width came cell given new
    first_changed = record {
      parts = m.parts;
      settled = m.settled;
      names = subst (AreNames (names_of m.parts)) (sym names) m.names;
      out = m.out ∙ ap (λ xs. given ++ xs) (sym ready);
      ended = ended ∙ m.ended;
      are_open = λ e. open_anew table width seen old new (m.are_open (sym ended ∙ e)) slot places some opens;
      drops = drops_same table width seen m.parts old new m.drops behind ahead;
      voted = λ e j. voted_changed (sym ended ∙ e) j;
      standing = λ s senders. let st = m.standing s senders in (st.0, st.1, st.2, st.3, stands_changed s senders st.1 st.4, st.5);
    }

  -- it is open
  module _ (open_still : old.ended ≡ false) (p : PartReceiver) (opened : open_at old 0 ≡ Some p) where
    is_attempt : IsAttempt p.choice.head p.attempt
    is_attempt = subst (λ (o : Option PartReceiver). IfSome o (λ q. IsAttempt q.choice.head q.attempt)) opened (attempt_first table old sound)

    is_open : IsOpen table seen p
    is_open = subst (λ o. IfSome o (IsOpen table seen)) opened ((m.are_open open_still).each 0)

    -- of one sender's cells it isn't misplaced
    pub not_misplaced : IsMisplaced old.names p → (s : Parts) → AreSenders table stream s seen → (b : Reached) → StandsAt table s b m.parts old → ⊥
    not_misplaced mis s senders b st =
        let below = some_left table s b m.parts old st open_still in
        mis.no_part (names_of m.parts) m.names (b.first + 1 == s.count) (s.bytes b.first)
        (part_first table stream s seen senders b m.parts old st below p opened is_attempt mis.object mis.answered)

    -- it is settled
    module _ (part : SettledPart) (settles : SettlesAs old.names p part) (mid new : Window) (slot : Option PartReceiver)
        (changed : mid.parts.items ≡ set old.parts.items 0 slot) (some : 0 < length old.parts.items) (mid_names : mid.names ≡ old.names)
        (mid_ready : mid.ready.items ≡ old.ready.items) (mid_restarted : mid.restarted ≡ old.restarted) (mid_behind : mid.behind ≡ old.behind)
        (mid_ahead : mid.ahead ≡ old.ahead) (moves : MovesOn mid part new) (counts : KeepsCounts mid new) where
      abbrev the_part : Settled
      the_part = record {
        is_last = part.is_last;
        head = p.choice.head;
        packets = received_packets p.choice.head (drop is_open.received.begun seen);
        object = settles.object;
        bytes = part.bytes.items;
      }

      is_settled : IsSettled table seen (names_of m.parts) the_part
      is_settled =
          let begun = is_open.received.begun in
          record {
            part = settles.is_part (names_of m.parts) m.names;
            headed = headed_by seen is_open.first p.choice.head is_open.among is_open.received.heads.0;
            stretch = drop begun seen;
            within = (
              take begun seen,
              [],
              sym (take-append-drop begun seen) ∙ ap (λ xs. take begun seen ++ xs) (sym (append-nil (drop begun seen))),
            );
            packets_are = refl;
            answered = subst (IsAnswered table p.choice.head.configuration the_part.packets) settles.answered
                (answered_by table is_open.first seen p is_attempt is_open.received);
          }

      places : new.parts.items ≡ drop 1 old.parts.items ++ None ∷ []
      places = moves.places ∙ ap (λ (xs : List (Option PartReceiver)). drop 1 xs ++ None ∷ []) changed
          ∙ ap (λ (xs : List (Option PartReceiver)). xs ++ None ∷ []) (drop-set-lt 1 old.parts.items 0 slot (omega arith))

      no_last : has_last m.parts ≡ false
      no_last = sym m.ended ∙ open_still

      voted_slid : (j : ℕ) → HasVoted table (names_at (m.parts ++ the_part ∷ []) j) (cells_of width (length (m.parts ++ the_part ∷ []) + j) m.drops.stands seen) (open_at new j)
      voted_slid zero =
          let index : length m.parts + 1 ≡ length (m.parts ++ the_part ∷ []) + 0 = omega (arith, length-append m.parts (the_part ∷ [])) in
          let names = names_of (m.parts ++ the_part ∷ []) in
          subst (HasVoted table (Some names) (cells_of width (length (m.parts ++ the_part ∷ []) + 0) m.drops.stands seen)) (sym (slid old new places 0))
          (subst (λ n. HasVoted table (Some names) (cells_of width n m.drops.stands seen) (open_at old 1)) index
          (voted_named table names (cells_of width (length m.parts + 1) m.drops.stands seen) (open_at old 1) (m.voted open_still 1)))
      voted_slid (suc j) =
          let index : length m.parts + suc (suc j) ≡ length (m.parts ++ the_part ∷ []) + suc j = omega (arith, length-append m.parts (the_part ∷ [])) in
          let next : 1 + suc j ≡ suc (suc j) = omega arith in
          let place : open_at old (suc (suc j)) ≡ open_at new (suc j) = sym (slid old new places (suc j) ∙ ap (open_at old) next) in
          subst (HasVoted table None (cells_of width (length (m.parts ++ the_part ∷ []) + suc j) m.drops.stands seen)) place
          (subst (λ n. HasVoted table None (cells_of width n m.drops.stands seen) (open_at old (suc (suc j)))) index (m.voted open_still (suc (suc j))))

      pub moved_on : IsMoving table stream width came cell given new
      moved_on = record {
        parts = m.parts ++ the_part ∷ [];
        settled = settled_more table seen the_part [] m.parts m.settled no_last is_settled;
        names = subst (λ ns. AreNames ns new.names)
            (ap (λ n. names_of m.parts ++ (n ∷ [])) settles.name ∙ sym (names_more table seen the_part m.parts))
            (moves.names (names_of m.parts) (subst (AreNames (names_of m.parts)) (sym mid_names) m.names));
        out = bytes_more table seen the_part m.parts ∙ ap (λ xs. xs ++ part.bytes.items) m.out ∙ append_assoc given old.ready.items part.bytes.items
            ∙ ap (λ xs. given ++ xs) (ap (λ xs. xs ++ part.bytes.items) (sym mid_ready) ∙ sym moves.ready);
        ended = moves.ended ∙ sym (last_more table seen the_part m.parts no_last);
        are_open = λ e. open_slid table width seen old new (m.are_open open_still) places some;
        drops = drops_behind table width seen m.parts old new m.drops (counts.behind ∙ mid_behind) (counts.ahead ∙ mid_ahead) (the_part ∷ []);
        voted = λ e. voted_slid;
        standing = λ s senders.
            let st = m.standing s senders in
            let below = some_left table s st.1 m.parts old st.4 open_still in (
              st.0,
              after table stream s seen senders st.1 m.parts old st.4 below p opened is_attempt settles.object settles.answered the_part new refl
                  (settles.is_part (names_of m.parts) m.names) places moves.ended (moves.restarted ∙ mid_restarted),
              st.2,
              writes_settled table stream s seen senders st.1 m.parts old st.4 below p opened is_attempt settles.object settles.answered the_part new refl
                  (settles.is_part (names_of m.parts) m.names) places moves.ended (moves.restarted ∙ mid_restarted) width st.0 cell st.3,
              stands_settled table stream s seen senders st.1 m.parts old st.4 below p opened is_attempt settles.object settles.answered the_part new refl
                  (settles.is_part (names_of m.parts) m.names) places moves.ended (moves.restarted ∙ mid_restarted),
              st.5,
            );
      }

-- ---- bytes are handed out

pub handed_out : (table : List TableRow) (stream : List ℕ) (width : ℕ) (came : List Cell) (given bytes : List ℕ) (old new : Window)
    → new.parts.items ≡ old.parts.items → new.names ≡ old.names → new.ended ≡ old.ended → new.restarted ≡ old.restarted → new.behind ≡ old.behind
    → new.ahead ≡ old.ahead → new.ready.items ≡ [] → bytes ≡ old.ready.items → HasTaken table stream width came given old
    → HasTaken table stream width came (given ++ bytes) new
handed_out table stream width came given bytes old new places names ended restarted behind ahead none ready has = record {
  parts = has.parts;
  settles = has.settles;
  names = subst (AreNames (names_of has.parts)) (sym names) has.names;
  out = has.out ∙ ap (λ xs. given ++ xs) (sym ready) ∙ sym (append-nil (given ++ bytes)) ∙ ap (λ xs. (given ++ bytes) ++ xs) (sym none);
  ended = ended ∙ has.ended;
  are_open = λ e.
      let was = has.are_open (sym ended ∙ e) in
      record {
        wide = ap length places ∙ was.wide;
        each = λ j. subst (λ (xs : List (Option PartReceiver)). IfSome (get_or xs j None) (IsOpen table came)) (sym places) (was.each j);
      };
  waits = λ e. subst (λ (xs : List (Option PartReceiver)). IfSome (get_or xs 0 None) (λ p. p.attempt.object ≡ None)) (sym places) (has.waits (sym ended ∙ e));
  drops = drops_same table width came has.parts old new has.drops behind ahead;
  standing = λ s all. let st = has.standing s all in (st.0, st.1, stands_same table s st.0 has.parts old new places ended restarted st.2, st.3);
  voted = λ e j. subst (λ (xs : List (Option PartReceiver)). HasVoted table (names_at has.parts j) (cells_of width (length has.parts + j) has.drops.stands came)
      (get_or xs j None)) (sym places) (has.voted (sym ended ∙ e) j);
  unled = λ e. has.unled (sym ended ∙ e);
}
