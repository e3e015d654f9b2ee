-- What a mending hands out is what its cells settle.
use Rattle.std.proofs.Common.{◌≡◌, ℕ, List, [], ◌∷◌, ◌++◌, sym, ap, refl, ◌∙◌, append-nil, arith}
use Rattle.std.proofs.lemmas.List.{length-map}
use Rattle.rq_standard.specs.declared.row.TableRow.{TableRow}
use Rattle.rq_cast.specs.declared.window.Window.{Window}
use Rattle.rq_cast.specs.Windows.{Settled, AreSettled, HasTaken, bytes_of}
use Rattle.rq_guard.specs.Mending.{MendsWhatItTook}

-- nothing is settled by no cells
none_settled : (table : List TableRow) (names : List (List ℕ)) (parts : List Settled) → AreSettled table [] names parts → parts ≡ []
none_settled table names [] are = refl
none_settled table names (p ∷ parts) are = absurd (omega (arith, are.0.headed.1))

pub none_ready : (table : List TableRow) (stream : List ℕ) (w : Window) → HasTaken table stream 1 [] [] w → w.ready.items ≡ []
none_ready table stream w has = sym has.out ∙ ap bytes_of (none_settled table [] has.parts has.settles.settled)

pub mends : MendsWhatItTook
mends table stream came given m has =
    let w = has.taken in
    record {
      parts = w.parts;
      settles = w.settles;
      bytes_are = sym (append-nil given) ∙ ap (λ xs. given ++ xs) (sym has.none_left) ∙ sym w.out;
      count_is = w.names.count ∙ length-map w.parts (λ (p : Settled). p.head.name);
      ended_is = w.ended;
      behind = m.window.behind;
      ahead = m.window.ahead;
      drops = w.drops;
      unled = w.unled;
    }
