-- Which cells a window drops.
use Rattle.std.proofs.Common.{◌≡◌, ℕ, ◌+◌, ◌<◌, ◌≤◌, List, [], ◌∷◌, ◌++◌, Bool, true, false, Option, None, length, take, get_or, sym, ap, subst, ◌∙◌, arith, inl, inr, append-nil, append_assoc, length-append}
use Rattle.std.proofs.lemmas.Bool.{cases_lt, lt-ltb, le-ltb, le-leb, lt-leb}
use Rattle.std.proofs.lemmas.List.{get_or_push, get_or_append_left, take_at, take-append-le}
use Rattle.rq_standard.specs.declared.row.TableRow.{TableRow}
use Rattle.rq_cells.specs.declared.cell.Cell.{Cell}
use Rattle.rq_cast.specs.declared.window.Window.{Window}
use Rattle.rq_cast.specs.Searching.{counted}
use Rattle.rq_cast.specs.Streams.{Parts, index_of, Reached, Moves, MovesOver, stand, stand_at, stands_over, is_late, is_early, one_if, dropped_at, dropped_where}
use Rattle.rq_cast.specs.Windows.{Settled, has_last, AreSettled, IsLed, StoodBehind, CountsDropped, KeepsCounts}
use Rattle.rq_cast.proofs.Senders.{moves_more}

pub keeps_both : {old mid new : Window} → KeepsCounts old mid → KeepsCounts mid new → KeepsCounts old new
keeps_both one other = record { behind = other.behind ∙ one.behind; ahead = other.ahead ∙ one.ahead }

-- ---- one cell more

pub dropped_more : (is : ℕ → Cell → Bool) (stands : List (Option ℕ)) (there : Option ℕ) (came : List Cell) (cell : Cell) → length stands ≡ length came
    → dropped_where is (stands ++ there ∷ []) (came ++ cell ∷ []) ≡ dropped_where is stands came + dropped_at is there cell
dropped_more is [] there [] cell long = omega arith
dropped_more is [] there (x ∷ came) cell long = absurd (omega (arith, long))
dropped_more is (t ∷ stands) there [] cell long = absurd (omega (arith, long))
dropped_more is (t ∷ stands) there (x ∷ came) cell long =
    let rest = dropped_more is stands there came cell (omega (arith, long)) in omega (arith, rest)

-- whether it is dropped
module _ (is : ℕ → Cell → Bool) (ended : Bool) (first : ℕ) (cell : Cell) where
  dropped_ended : ended ≡ true → dropped_at is (stand ended first) cell ≡ 0
  dropped_ended e = ap (λ b. dropped_at is (stand b first) cell) e

  dropped_so : (b : Bool) → ended ≡ false → is first cell ≡ b → dropped_at is (stand ended first) cell ≡ one_if b
  dropped_so b e so = ap (λ x. dropped_at is (stand x first) cell) e ∙ ap one_if so

module _ (table : List TableRow) (width : ℕ) (came : List Cell) (parts : List Settled) (old : Window)
    (d : CountsDropped table width came parts old.behind old.ahead) (cell : Cell) where
  abbrev pub here : Option ℕ
  here = stand old.ended old.names.count

  -- so it is counted
  pub record CountsCell (new : Window) : Type 0 where
    pub late : new.behind ≡ counted (old.behind + dropped_at is_late here cell)
    pub early : new.ahead ≡ counted (old.ahead + dropped_at (is_early width) here cell)

  module _ (new : Window) where
    counts_none : new.behind ≡ old.behind → new.ahead ≡ old.ahead → dropped_at is_late here cell ≡ 0 → dropped_at (is_early width) here cell ≡ 0
        → CountsCell new
    counts_none behind ahead late early =
        record { late = omega (arith, behind, late, d.behind_is); early = omega (arith, ahead, early, d.ahead_is) }

    -- the last part is settled
    pub counts_ended : new.behind ≡ old.behind → new.ahead ≡ old.ahead → old.ended ≡ true → CountsCell new
    counts_ended behind ahead ended =
        counts_none behind ahead (dropped_ended is_late old.ended old.names.count cell ended)
        (dropped_ended (is_early width) old.ended old.names.count cell ended)

    module _ (open_still : old.ended ≡ false) where
      not_late : old.names.count ≤ index_of cell → dropped_at is_late here cell ≡ 0
      not_late from = dropped_so is_late old.ended old.names.count cell false open_still (le-ltb (index_of cell) old.names.count from)

      not_early : index_of cell < old.names.count + width → dropped_at (is_early width) here cell ≡ 0
      not_early less =
          dropped_so (is_early width) old.ended old.names.count cell false open_still (lt-leb (old.names.count + width) (index_of cell) less)

      -- its part is in the window
      pub counts_given : new.behind ≡ old.behind → new.ahead ≡ old.ahead → old.names.count ≤ index_of cell
          → index_of cell < old.names.count + width → CountsCell new
      counts_given behind ahead from less = counts_none behind ahead (not_late from) (not_early less)

      -- its part is settled
      pub counts_late : new.behind ≡ counted (old.behind + 1) → new.ahead ≡ old.ahead → index_of cell < old.names.count → CountsCell new
      counts_late behind ahead less =
          let late = dropped_so is_late old.ended old.names.count cell true open_still (lt-ltb (index_of cell) old.names.count less) in
          let early = not_early (omega (arith, less)) in
          record { late = omega (arith, behind, late); early = omega (arith, ahead, early, d.ahead_is) }

      -- it is behind the window
      pub counts_early : new.behind ≡ old.behind → new.ahead ≡ counted (old.ahead + 1) → old.names.count + width ≤ index_of cell → CountsCell new
      counts_early behind ahead past =
          let early = dropped_so (is_early width) old.ended old.names.count cell true open_still (le-leb (old.names.count + width) (index_of cell) past) in
          let late = not_late (omega (arith, past)) in
          record { late = omega (arith, behind, late, d.behind_is); early = omega (arith, ahead, early) }

  -- where the window stood
  module _ (ended : old.ended ≡ has_last parts) (count : old.names.count ≡ length parts) (settled : AreSettled table came [] parts)
      (unled : has_last parts ≡ false → IsLed table width came d.stands parts → ⊥) where
    abbrev pub there : Option ℕ
    there = stand (has_last parts) (length parts)

    pub same : here ≡ there
    same = (λ i. stand (ended i) (count i))

    pub each_more : (k : ℕ) → k < length (came ++ cell ∷ [])
        → StoodBehind table width (take k (came ++ cell ∷ [])) (take k (d.stands ++ there ∷ [])) parts (get_or (d.stands ++ there ∷ []) k None)
    each_more k less =
        let none : Option ℕ = None in
        elim (cases_lt k (length came)) [
          | inl before ↦
              let cells = take-append-le k came (cell ∷ []) (omega (arith, before)) in
              let stands = take-append-le k d.stands (there ∷ []) (omega (arith, before, d.as_many)) in
              let at = get_or_append_left d.stands (there ∷ []) none k (omega (arith, before, d.as_many)) in
              subst (λ (x : List Cell × List (Option ℕ) × Option ℕ). StoodBehind table width x.0 x.1 parts x.2) (λ i. (sym cells i, sym stands i, sym at i))
              (d.each k before)
          | inr past ↦
              let last : length came ≡ k = omega (arith, past, less, length-append came (cell ∷ [])) in
              record {
                earlier = parts;
                later = [];
                cut = sym (append-nil parts);
                settled = subst (λ cs. AreSettled table cs [] parts) (sym (take_at came (cell ∷ []) k last)) settled;
                unled = λ more. subst (λ (x : List Cell × List (Option ℕ)). IsLed table width x.0 x.1 parts → ⊥)
                    (λ i. (sym (take_at came (cell ∷ []) k last) i, sym (take_at d.stands (there ∷ []) k (d.as_many ∙ last)) i)) (unled more);
                is = get_or_push d.stands there none k (omega (arith, last, d.as_many));
              }
        ]

    abbrev pub drops_more : (new : Window) → CountsCell new → CountsDropped table width (came ++ cell ∷ []) parts new.behind new.ahead
    drops_more new counts = record {
      stands = d.stands ++ there ∷ [];
      as_many = omega (arith, length-append d.stands (there ∷ []), length-append came (cell ∷ []), d.as_many);
      each = each_more;
      behind_is =
          let more = dropped_more is_late d.stands there came cell d.as_many in
          let at = ap (λ x. dropped_at is_late x cell) same in
          omega (arith, counts.late, at, more, d.behind_is);
      ahead_is =
          let more = dropped_more (is_early width) d.stands there came cell d.as_many in
          let at = ap (λ x. dropped_at (is_early width) x cell) same in
          omega (arith, counts.early, at, more, d.ahead_is);
    }

-- ---- what stays

module _ (table : List TableRow) (width : ℕ) (came : List Cell) (parts : List Settled) (old new : Window)
    (d : CountsDropped table width came parts old.behind old.ahead) (behind : new.behind ≡ old.behind) (ahead : new.ahead ≡ old.ahead) where
  abbrev pub drops_same : CountsDropped table width came parts new.behind new.ahead
  drops_same = record {
    stands = d.stands;
    as_many = d.as_many;
    each = d.each;
    behind_is = behind ∙ d.behind_is;
    ahead_is = ahead ∙ d.ahead_is;
  }

  -- parts are settled behind those
  pub stood_still : (more : List Settled) (before : List Cell) (stands : List (Option ℕ)) (there : Option ℕ) → StoodBehind table width before stands parts there
      → StoodBehind table width before stands (parts ++ more) there
  stood_still more before stands there s = record {
    earlier = s.earlier;
    later = s.later ++ more;
    cut = ap (λ ps. ps ++ more) s.cut ∙ append_assoc s.earlier s.later more;
    settled = s.settled;
    unled = s.unled;
    is = s.is;
  }

  abbrev pub drops_behind : (more : List Settled) → CountsDropped table width came (parts ++ more) new.behind new.ahead
  drops_behind more = record {
    stands = d.stands;
    as_many = d.as_many;
    each = λ k less. stood_still more (take k came) (take k d.stands) (get_or d.stands k None) (d.each k less);
    behind_is = behind ∙ d.behind_is;
    ahead_is = ahead ∙ d.ahead_is;
  }

-- ---- of one sender's cells

pub stands_more : (table : List TableRow) (s : Parts) (width : ℕ) (came : List Cell) (old mid new : Reached) (cell : Cell)
    (over : MovesOver table s width old came mid) (moves : Moves table s width mid cell new)
    → stands_over table s width old (came ++ cell ∷ []) new (moves_more table s width came old mid new cell over moves)
    ≡ stands_over table s width old came mid over ++ (stand_at s mid ∷ [])
unfolding moves_more
stands_more table s width [] old mid new cell over moves = ap (λ b. stand_at s b ∷ []) (sym over)
stands_more table s width (x ∷ came) old mid new cell over moves =
    ap (λ xs. stand_at s old ∷ xs) (stands_more table s width came over.0 mid new cell over.2 moves)
