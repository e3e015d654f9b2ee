-- Of a list of packets, only which ids were received decides what it determines.
use Rattle.std.proofs.Common.{◌≡◌, ℕ, true, List, [], ◌∷◌, All, Option, Some, None, refl, sym, ◌∙◌, subst}
use Rattle.std.specs.Prelude.{Contains, IsSome, is_some}
use Rattle.std.specs.List.{AllByRecursion}
use Rattle.std.proofs.lemmas.List.Elements.{All-head, All-tail, All-map, All-contains, All-from_recursion}
use Rattle.rq_standard.specs.declared.row.TableRow.{TableRow}
use Rattle.rq_standard.specs.Configuration.{Configuration}
use Rattle.rq_standard.specs.Cutting.{block_symbols}
use Rattle.rq_standard.specs.Packet.{SymbolId, Packet}
use Rattle.rq_standard.specs.Received.{first_payload, has_id}
use Rattle.rq_standard.specs.SameIds.{ids_of, HasIdsOf, HaveSameIds}
use Rattle.rq_standard.specs.Headline.{block_row, IsObjectAnswer}
use Rattle.rq_standard.specs.PacketLaws.{MorePacketsDetermine, MorePacketsAreAnswerable, AnswersStay, SameIdsAreAnswerable, SameIdsAnswerTheSame}
use Rattle.rq_standard.proofs.Firsts.{first_payload-packet}
use Rattle.rq_standard.proofs.KnownIds.{block_more}
use Rattle.rq_standard.proofs.OtherObjects.{all_came}

-- ---- ids that were received

-- an id of a list was received
came_of : (packets : List Packet) (i : SymbolId) → Contains (ids_of packets) i → has_id i.block packets i.esi ≡ true
came_of packets i at =
    let came : SymbolId → Type 0 = λ j. has_id j.block packets j.esi ≡ true in
    All-contains came (ids_of packets) i (All-map came (λ (p : Packet). p.id) packets (All-from_recursion (λ (p : Packet). came p.id) packets (all_came packets))) at

each_id : (P : SymbolId → Type 0) (packets : List Packet) → All P (ids_of packets) → AllByRecursion (λ (p : Packet). P p.id) packets
each_id P [] all = tt
each_id P (p ∷ packets) all = (All-head P p.id (ids_of packets) all, each_id P packets (All-tail P p.id (ids_of packets) all))

came_by : (packets more : List Packet) → HasIdsOf more packets → (b e : ℕ) (o : Option (List ℕ)) → first_payload b packets e ≡ o → is_some o ≡ true → has_id b more e ≡ true
came_by packets more ids b e None is some = absurd (cc some)
came_by packets more ids b e (Some x) is some =
    let found = first_payload-packet (λ (p : Packet). Contains (ids_of more) p.id) packets b e x (each_id (Contains (ids_of more)) packets ids) is in
    let p = found.0 in
    subst (λ n. has_id n more e ≡ true) found.2 (subst (λ n. has_id p.id.block more n ≡ true) found.3 (came_of more p.id found.1))

-- so each that was received in one list was received in a list that has its ids
came_in_more : (packets more : List Packet) → HasIdsOf more packets → (b e : ℕ) → has_id b packets e ≡ true → has_id b more e ≡ true
came_in_more packets more ids b e came = came_by packets more ids b e (first_payload b packets e) refl came

-- ---- what they determine

-- a block that is determined stays so when more packets come
pub more_determine_block : MorePacketsDetermine
more_determine_block row k b packets more ids = block_more row k (has_id b packets) (has_id b more) (came_in_more packets more ids b)

pub more_answerable : MorePacketsAreAnswerable
more_answerable table c packets more ids determined b below = more_determine_block (block_row table c b) (block_symbols c b) b packets more ids (determined b below)

pub same_answerable : SameIdsAreAnswerable
same_answerable table c one other same = (more_answerable table c one other same.there, more_answerable table c other one same.back)

-- ---- what is answered

module _ (table : List TableRow) (c : Configuration) (object : List ℕ) where
  -- an answer is that of more packets too
  stays : (packets more : List Packet) (answer later : Option (List ℕ)) → HasIdsOf more packets → IsObjectAnswer table c object packets answer → IsObjectAnswer table c object more later → IsSome answer → later ≡ answer
  stays packets more answer later ids is after some =
      let determined = is.only some in
      after.whole (more_answerable table c packets more ids determined) ∙ sym (is.whole determined)

  same_by : (one other : List Packet) (answer later : Option (List ℕ)) → HaveSameIds one other → IsObjectAnswer table c object one answer → IsObjectAnswer table c object other later → answer ≡ later
  same_by one other (Some x) later same is after = sym (stays one other (Some x) later same.there is after refl)
  same_by one other None (Some y) same is after = stays other one (Some y) None same.back after is refl
  same_by one other None None same is after = refl

-- Two answers, each right for its own list of an object's packets: what is answered stays the answer when more packets come,
pub answer_stays : AnswersStay
answer_stays table c object packets more answer later run longer ids right after = stays table c object packets more answer later ids (right object run) (after object longer)

-- and lists of the same ids have the same answer
pub same_answers : SameIdsAnswerTheSame
same_answers table c object one other answer later run again same right after = same_by table c object one other answer later same (right object run) (after object again)
