-- Parts that are settled one behind another.
use Rattle.std.proofs.Common.{◌≡◌, zero, suc, arith, List, [], ◌∷◌, ◌++◌, Bool, true, false, refl, sym, ap, subst, ◌∙◌, map, append-nil, append_assoc}
use Rattle.std.specs.Prelude.{Contains, ◌||◌, ℕ}
use Rattle.std.proofs.lemmas.Bool.{true≢false}
use Rattle.std.proofs.lemmas.List.{map-append, flat_map_more}
use Rattle.std.proofs.lemmas.List.Elements.{Contains-append_left}
use Rattle.std.proofs.lemmas.List.Folds.{list_any-append}
use Rattle.rq_standard.specs.declared.row.TableRow.{TableRow}
use Rattle.rq_cells.specs.declared.head.Head.{Head}
use Rattle.rq_cells.specs.declared.cell.Cell.{Cell}
use Rattle.rq_cast.specs.Windows.{Settled, names_of, bytes_of, has_last, IsSettled, AreSettled}

-- ---- more cells come

abbrev pub head_of : Cell → Head
head_of c = c.head

pub still_came : (came more : List Cell) (h : Head) → Contains (map head_of came) h → Contains (map head_of (came ++ more)) h
still_came came more h is =
    subst (λ hs. Contains hs h) (sym (map-append head_of came more)) (Contains-append_left (map head_of came) (map head_of more) h is)

-- a head that is the first one, which came, or came
pub headed_by : (came : List Cell) (first h : Head) → Contains (map head_of came) first → Contains (first ∷ map head_of came) h → Contains (map head_of came) h
headed_by came first h among (zero, less, same) = subst (Contains (map head_of came)) same among
headed_by came first h among (suc n, less, same) = (n, omega (arith, less), same)

module _ (table : List TableRow) (came more : List Cell) where
  one_later : (names : List (List ℕ)) (p : Settled) → IsSettled table came names p → IsSettled table (came ++ more) names p
  one_later names p is =
      let (before, after, cut) = is.within in
      record {
        part = is.part;
        headed = still_came came more p.head is.headed;
        stretch = is.stretch;
        within = (
          before,
          after ++ more,
          ap (λ xs. xs ++ more) cut ∙ append_assoc before (is.stretch ++ after) more ∙ ap (λ xs. before ++ xs) (append_assoc is.stretch after more),
        );
        packets_are = is.packets_are;
        answered = is.answered;
      }

  pub settled_later : (names : List (List ℕ)) (parts : List Settled) → AreSettled table came names parts → AreSettled table (came ++ more) names parts
  settled_later names [] are = tt
  settled_later names (p ∷ parts) are = (one_later names p are.0, are.1, settled_later (names ++ (p.head.name ∷ [])) parts are.2)

-- ---- one part more

pub either : (a b : Bool) → (a || b) ≡ false → (a ≡ false) × (b ≡ false)
either true b is = absurd (true≢false is)
either false b is = (refl, is)

module _ (table : List TableRow) (came : List Cell) (p : Settled) where
  pub settled_more : (names : List (List ℕ)) (parts : List Settled) → AreSettled table came names parts → has_last parts ≡ false
      → IsSettled table came (names ++ names_of parts) p → AreSettled table came names (parts ++ p ∷ [])
  settled_more names [] are none is = (subst (λ ns. IsSettled table came ns p) (append-nil names) is, λ last. refl, tt)
  settled_more names (q ∷ parts) are none is =
      let both = either q.is_last (has_last parts) none in (
        are.0,
        λ last. absurd (true≢false (sym last ∙ both.0)),
        settled_more (names ++ (q.head.name ∷ [])) parts are.2 both.1
            (subst (λ ns. IsSettled table came ns p) (sym (append_assoc names (q.head.name ∷ []) (names_of parts))) is),
      )

  pub names_more : (parts : List Settled) → names_of (parts ++ p ∷ []) ≡ names_of parts ++ (p.head.name ∷ [])
  names_more parts = map-append (λ (q : Settled). q.head.name) parts (p ∷ [])

  pub bytes_more : (parts : List Settled) → bytes_of (parts ++ p ∷ []) ≡ bytes_of parts ++ p.bytes
  bytes_more parts = sym (flat_map_more (λ (q : Settled). q.bytes) [] parts p)

  one_last : (b : Bool) → (b || false) ≡ b
  one_last true = refl
  one_last false = refl

  pub last_more : (parts : List Settled) → has_last parts ≡ false → has_last (parts ++ p ∷ []) ≡ p.is_last
  last_more parts none =
      list_any-append (λ (q : Settled). q.is_last) parts (p ∷ []) ∙ ap (λ (b : Bool). b || (p.is_last || false)) none ∙ one_last p.is_last
