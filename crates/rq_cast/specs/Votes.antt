-- Which head of a part leads, as cells with several come, and what a receiver of the part then has.
use Rattle.std.specs.Prelude.{◌≡◌, ◌⊎◌, ⊤, ℕ, ◌+◌, ◌^◌, ◌<◌, ◌≤◌, List, [], ◌++◌, length, take, drop, filter, Option, Some, None, IfSome, Bool, true, false, not}
use Rattle.rq_standard.specs.declared.row.TableRow.{TableRow}
use Rattle.rq_standard.specs.Packet.{Packet}
use Rattle.rq_standard.specs.Headline.{IsHonestRun}
use Rattle.rq_standard.specs.Following.{FollowsRun}
use Rattle.raptorq.specs.Decoder.{state_of}
use Rattle.rq_cells.specs.declared.head.Head.{Head}
use Rattle.rq_cells.specs.declared.cell.Cell.{Cell}
use Rattle.rq_cells.specs.contracts.head.HeadPartialEq.TheImpl.{ghosts}
use Rattle.rq_cast.specs.declared.choice.Choice.{Choice}
use Rattle.rq_cast.specs.declared.choice.Rival.{Rival}
use Rattle.rq_cast.specs.declared.part_receiver.PartReceiver.{PartReceiver}
use Rattle.rq_cast.specs.Parts.{IsPart}
use Rattle.rq_cast.specs.Taken.{has_head, IsTakenHead, received_packets, IsNamed}

-- ---- votes

-- how many of some cells have a head, and how many have others
abbrev pub votes_for : Head → List Cell → ℕ
votes_for h cells = length (filter (has_head h) cells)

abbrev pub votes_against : Head → List Cell → ℕ
votes_against h cells = length (filter (λ cell. not (has_head h cell)) cells)

-- Of the first cells, n of them or more, those with a head are always more than the others.
abbrev pub LeadsFrom : Head → ℕ → List Cell → Type 0
LeadsFrom h n cells = (k : ℕ) → n ≤ k → k ≤ length cells → votes_against h (take k cells) < votes_for h (take k cells)

-- Coders take the configuration of a head, and the packets of the cells that have it are those of an object that is named so.
pub record IsHonestHead (table : List TableRow) (h : Head) (object : List ℕ) (cells : List Cell) : Type 0 where
  pub taken : IsTakenHead table h
  pub named : IsNamed h object
  pub honest : IsHonestRun table h.configuration object (received_packets h cells)

-- ---- what a choice says of them

-- whether a head is this one
abbrev pub is_same : Head → Head → Bool
is_same h k = ghosts.eq k h

-- of a rival whether it is a head, and how many of its cells count
abbrev pub rival_for : Head → Option Rival → Option (Bool × ℕ)
rival_for h None = None
rival_for h (Some r) = Some (is_same h r.head, r.cells)

abbrev pub rival_cells : Option Rival → ℕ
rival_cells None = 0
rival_cells (Some r) = r.cells

-- A head with so many votes doesn't lead further than a choice says, by whether it is in use, how many cells of that one count, and what the rival is.
abbrev pub Lead : Bool → ℕ → Option (Bool × ℕ) → ℕ → ℕ → Type 0
Lead true cells None votes against = votes ≤ against + cells
Lead true cells (Some (is, n)) votes against = votes + n ≤ against + cells
Lead false cells None votes against = votes + cells ≤ against
Lead false cells (Some (true, n)) votes against = votes + cells ≤ against + n
Lead false cells (Some (false, n)) votes against = votes + cells + n ≤ against

abbrev pub LeadBy : Head → Choice → ℕ → ℕ → Type 0
LeadBy h c votes against = Lead (is_same h c.head) c.cells (rival_for h c.rival) votes against

-- It counts no more cells than came. The rival is another head than that in use, of which a cell counts.
pub record IsTally (cells : ℕ) (c : Choice) : Type 0 where
  pub few : c.cells + rival_cells c.rival ≤ cells
  pub apart : IfSome c.rival (λ r. (is_same c.head r.head ≡ false) × (0 < r.cells))

-- ---- what a receiver of the part has

-- A head is in use, and the packets of these cells that have it are taken, behind other packets of its object.
pub record HasTakenOf (table : List TableRow) (h : Head) (object : List ℕ) (cells : List Cell) (p : PartReceiver) : Type 0 where
  pub in_use : p.choice.head ≡ h
  pub earlier : List Packet
  pub follows : FollowsRun table (earlier ++ received_packets h cells) (state_of p.attempt.decoder)
  pub honest : IsHonestRun table h.configuration object (earlier ++ received_packets h cells)

-- Of an honest head the cells are taken from where it leads on.
pub record HasLed (table : List TableRow) (h : Head) (object : List ℕ) (came : List Cell) (p : PartReceiver) : Type 0 where
  pub lead : length came < 2 ^ 64 → LeadBy h p.choice (votes_for h came) (votes_against h came)
  pub uses : p.choice.head ≡ h → HasTakenOf table h object [] p
  pub takes : length came < 2 ^ 64 → (n : ℕ) → n ≤ length came → LeadsFrom h n came
      → HasTakenOf table h object (drop n came) p ⊎ (votes_for h (drop n came) ≡ 0)

-- an object is the part behind those of some names, where that is asked
abbrev pub IsNext : Option (List (List ℕ)) → Head → List ℕ → Type 0
IsNext None h object = ⊤
IsNext (Some names) h object = (is_last : Bool) × (bytes : List ℕ) × IsPart is_last names h object bytes

-- These cells of a part came, and so it is of each head whose object is that part.
pub record HasVotes (table : List TableRow) (names : Option (List (List ℕ))) (came : List Cell) (p : PartReceiver) : Type 0 where
  pub tally : IsTally (length came) p.choice
  pub led : (h : Head) (object : List ℕ) → IsNext names h object → IsHonestHead table h object came → HasLed table h object came p
