-- What is received of lists, cell by cell.
use Rattle.std.proofs.Common.{◌≡◌, ◌≢◌, ◌⊎◌, ℕ, ◌+◌, List, [], ◌∷◌, ◌++◌, All, Option, Some, None, Bool, cond, refl, sym, ap, subst, ◌∙◌, arith, inl, inr, length-append, nat_eq, IfSome, append-nil, option_map, vec_items}
use Rattle.std.specs.Prelude.{option_and_then}
use Rattle.std.proofs.lemmas.Bool.{cases_eq, false_from_ne_true, eq-eqb, eqb-true}
use Rattle.std.proofs.lemmas.List.{get_or_append_left}
use Rattle.std.proofs.lemmas.List.Elements.{filter-append}
use Rattle.rq_standard.specs.declared.row.TableRow.{TableRow}
use Rattle.rq_standard.specs.TableRows.{greatest_size}
use Rattle.raptorq.specs.Decoder.{state_of}
use Rattle.raptorq.proofs.Lists.{answers_exactly, answers_where_any_can}
use Rattle.rq_standard.specs.DecoderState.{result_of}
use Rattle.rq_cells.specs.declared.head.Head.{Head}
use Rattle.rq_cells.specs.declared.cell.Cell.{Cell}
use Rattle.rq_cast.specs.declared.part_receiver.PartReceiver.{PartReceiver}
use Rattle.rq_cast.specs.Taken.{part_index, IsTakenHead, received_packets, IsNamedIn, IsOneSender}
use Rattle.rq_cast.specs.PartReceiving.{IsAttempt, IsSound, HasReceivedAll}
use Rattle.rq_cast.specs.Windows.{IsOpen, HasAll, ReceivesCell}
use Rattle.rq_cast.proofs.Answering.{answered_by}
use Rattle.rq_cast.proofs.SettledParts.{headed_by}
use Rattle.rq_cast.proofs.TakenPackets.{first_run, last_head}
use Rattle.rq_cast.proofs.PartTaken.{unused_all}
use Rattle.rq_cast.proofs.WindowPlaces.{open_received}
use Rattle.rq_cast.proofs.WindowVotes.{voted_received}
use Rattle.rq_cast.proofs.LedParts.{none_leads, for_behind, led_object}
use Rattle.rq_guard.specs.declared.reading_lists.ListReceivers.{ListReceivers}
use Rattle.rq_cells.specs.Cells.{Key}
use Rattle.rq_guard.specs.Lists.{Listed}
use Rattle.rq_guard.specs.ListReading.{first_list, is_list_cell, list_cells, HasListCells, receiver_of, HasLists, TakesListCell, IsReceivedOf, IsReceivedExactly, IsListObject, IsListIn, list_of_part}

-- ---- one cell more

all_front : (h : Head) (came more : List Cell) → All (λ (c : Cell). c.head ≡ h) (came ++ more) → All (λ (c : Cell). c.head ≡ h) came
all_front h came more all = λ k d below.
    subst (λ (c : Cell). c.head ≡ h) (get_or_append_left came more d k below) (all k d (omega (arith, below, length-append came more)))

module _ (table : List TableRow) (came : List Cell) (cell : Cell) where
  first_sender : (h : Head) → IsOneSender table h (came ++ cell ∷ []) → IsOneSender table h came
  first_sender h one = record {
    heads = all_front h came (cell ∷ []) one.heads;
    object = one.object;
    named = one.named;
    honest = first_run h table one.object came (cell ∷ []) one.honest;
  }

  all_with : (old new : Option PartReceiver) → ReceivesCell table old cell new → (h : Head) → IsTakenHead table h → IsOneSender table h (came ++ cell ∷ [])
      → HasAll table h came old → HasAll table h (came ++ cell ∷ []) new
  all_with None None refused h taken one none = absurd (refused (subst (IsTakenHead table) (sym (last_head h came cell one.heads)) taken))
  all_with None (Some p) (unused, is_unused, takes) h taken one none =
      takes.one_sender h came one
      (subst (λ cs. HasReceivedAll table h cs unused) (sym none)
      (subst (λ (k : Head). HasReceivedAll table k [] unused) (last_head h came cell one.heads) (unused_all table cell.head unused is_unused)))
  all_with (Some q) None receives h taken one has = absurd receives
  all_with (Some q) (Some p) takes h taken one has = takes.one_sender h came one has

  pub list_grows : (old new : Option PartReceiver) → ReceivesCell table old cell new → HasListCells table came old → HasListCells table (came ++ cell ∷ []) new
  list_grows old new receives has = record {
    are_open = open_received table came cell old new receives has.are_open;
    voted = voted_received table None came cell old new receives has.voted;
    one_sender = λ h taken one. all_with old new receives h taken one (has.one_sender h taken (first_sender h one));
  }

-- ---- cells of lists among others

pub cells_here : (i : ℕ) (came : List Cell) (cell : Cell) → part_index cell.head ≡ first_list + i → list_cells i (came ++ cell ∷ []) ≡ list_cells i came ++ cell ∷ []
cells_here i came cell is =
    filter-append (is_list_cell i) came (cell ∷ []) ∙ ap (λ (b : Bool). list_cells i came ++ cond b (cell ∷ []) []) (eq-eqb (part_index cell.head) (first_list + i) is)

pub cells_elsewhere : (i : ℕ) (came : List Cell) (cell : Cell) → part_index cell.head ≢ first_list + i → list_cells i (came ++ cell ∷ []) ≡ list_cells i came
cells_elsewhere i came cell apart =
    filter-append (is_list_cell i) came (cell ∷ [])
    ∙ ap (λ (b : Bool). list_cells i came ++ cond b (cell ∷ []) []) (false_from_ne_true (nat_eq (part_index cell.head) (first_list + i)) (λ e. apart (eqb-true (part_index cell.head) (first_list + i) e)))
    ∙ append-nil (list_cells i came)

-- a cell of one
module _ (table : List TableRow) (old new : ListReceivers) (cell : Cell) (i : ℕ) (place : Option PartReceiver) (is : part_index cell.head ≡ first_list + i)
    (receives : ReceivesCell table (receiver_of old i) cell place) (here : receiver_of new i ≡ place)
    (others : (j : ℕ) → j ≢ i → receiver_of new j ≡ receiver_of old j) where
  lists_at : (came : List Cell) → HasLists table came old → (j : ℕ) → (j ≡ i) ⊎ (j ≢ i) → HasListCells table (list_cells j (came ++ cell ∷ [])) (receiver_of new j)
  lists_at came has j (inl same) =
      subst (λ k. HasListCells table (list_cells k (came ++ cell ∷ [])) (receiver_of new k)) (sym same)
      (subst (λ cells. HasListCells table cells (receiver_of new i)) (sym (cells_here i came cell is))
      (subst (HasListCells table (list_cells i came ++ cell ∷ [])) (sym here) (list_grows table (list_cells i came) cell (receiver_of old i) place receives (has i))))
  lists_at came has j (inr apart) =
      subst (λ cells. HasListCells table cells (receiver_of new j)) (sym (cells_elsewhere j came cell (λ same. apart (omega (arith, is, same)))))
      (subst (HasListCells table (list_cells j came)) (sym (others j apart)) (has j))

  pub lists_taken : TakesListCell table old cell new
  lists_taken came has = λ j. lists_at came has j (cases_eq j i)

  pub lists_sound : ((j : ℕ) → IfSome (receiver_of old j) (IsSound table (first_list + j))) → IfSome place (IsSound table (part_index cell.head))
      → (j : ℕ) → IfSome (receiver_of new j) (IsSound table (first_list + j))
  lists_sound sound this j = by (cases_eq j i)
    where
      by : (j ≡ i) ⊎ (j ≢ i) → IfSome (receiver_of new j) (IsSound table (first_list + j))
      by (inl same) =
          subst (λ k. IfSome (receiver_of new k) (IsSound table (first_list + k))) (sym same)
          (subst (λ o. IfSome o (IsSound table (first_list + i))) (sym here) (subst (λ n. IfSome place (IsSound table n)) is this))
      by (inr apart) = subst (λ o. IfSome o (IsSound table (first_list + j))) (sym (others j apart)) (sound j)

-- ---- the object of a list

module _ (table : List TableRow) (cells : List Cell) (p : PartReceiver) (attempt : IsAttempt p.choice.head p.attempt) where
  abbrev object : Option (List ℕ)
  object = option_map vec_items p.attempt.object

  received_of : IsOpen table cells p → (o : Option (List ℕ)) → object ≡ o → IfSome o (IsReceivedOf table cells)
  received_of is None e = tt
  received_of is (Some x) e = record {
    head = p.choice.head;
    headed = headed_by cells is.first p.choice.head is.among is.received.heads.0;
    begun = is.received.begun;
    answer = result_of (state_of p.attempt.decoder);
    answered = answered_by table is.first cells p attempt is.received;
    named = subst (IsNamedIn p.choice.head (result_of (state_of p.attempt.decoder))) e attempt.object;
  }

  exactly : (h : Head) → HasReceivedAll table h cells p → IsReceivedExactly table h cells object
  exactly h has =
      let state = state_of p.attempt.decoder in
      let configuration = attempt.configuration ∙ ap (λ (k : Head). k.configuration) has.head in
      record {
        answer = result_of state;
        answered = record {
          whoever = record { state = state; configuration = configuration; follows = has.follows; value = refl };
          honest = answers_exactly table h.configuration (received_packets h cells) state configuration has.follows;
          only_object = answers_where_any_can table h.configuration (received_packets h cells) state configuration has.follows;
        };
        named = subst (λ (k : Head). IsNamedIn k (result_of state) object) has.head attempt.object;
      }

-- of what is received
object_of_cells : (table : List TableRow) (index : ℕ) (cells : List Cell) (o : Option PartReceiver) → IfSome o (IsSound table index) → HasListCells table cells o
    → IsListObject table cells (option_and_then (λ p. option_map vec_items p.attempt.object) o)
object_of_cells table index cells None sound has = record {
  whoever = tt;
  led = λ x l. absurd (none_leads table l.head x l.honest l.from (for_behind l.head cells l.from (has.voted l.head l.honest.taken)) l.only);
  one_sender = λ h taken one. inl (has.one_sender h taken one, refl);
}
object_of_cells table index cells (Some p) sound has = record {
  whoever = received_of table cells p sound.attempt has.are_open (option_map vec_items p.attempt.object) refl;
  led = λ x l. led_object table p sound.attempt None cells has.voted l.head x tt l.honest l.few l.from l.within l.leads l.only;
  one_sender = λ h taken one. inr (exactly table cells p sound.attempt h (has.one_sender h taken one));
}

-- the list of a part
pub list_said : (table : List TableRow) (key : Key) (stream : List ℕ) (r : ListReceivers) (i : ℕ) (object : Option (List ℕ)) (o : Option Listed)
    → ((j : ℕ) → IfSome (receiver_of r j) (IsSound table (first_list + j)))
    → object ≡ option_and_then (λ p. option_map vec_items p.attempt.object) (receiver_of r i)
    → o ≡ option_and_then (list_of_part key (greatest_size table) stream i) object
    → (came : List Cell) → HasLists table came r → IsListIn table key stream came i o
list_said table key stream r i object o sound is list came has = record {
  object = object;
  received = subst (IsListObject table (list_cells i came)) (sym is) (object_of_cells table (first_list + i) (list_cells i came) (receiver_of r i) (sound i) (has i));
  list_is = list;
}
