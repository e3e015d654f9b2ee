-- A stream that is sent in rounds.
use Rattle.std.specs.Prelude.{◌≡◌, ◌⊎◌, ℕ, zero, suc, ◌+◌, ◌<◌, Option, nat_lt}
use Rattle.rq_streams.specs.declared.run.Stop.{Stop}
use Rattle.rq_cast.specs.declared.halt.Halt.{Halt}
use Rattle.rq_cast.specs.declared.halt.Halt.TheVariants.{By}
use Rattle.rq_cast.specs.declared.known.Known.{Known}
use Rattle.rq_cast.specs.declared.order.Order.{Order}
use Rattle.rq_cast.specs.declared.stream_sending.Sent.{Sent}
use Rattle.rq_cast.specs.Rounds.{IsFresh, in_round, sum_of}
use Rattle.rq_cast.specs.Searching.{counted}
use Rattle.rq_cast.specs.SentParts.{SendsStream, StopsStream, halted_calls}
use Rattle.rq_cells.specs.Cells.{Key}
use Rattle.rq_devices.specs.Failed.{Fails, StopsReading}
use Rattle.rq_command.specs.Outside.{KnownCalls}
use Rattle.rq_devices.specs.Placed.{Contents}

-- before the first round
abbrev pub none_sent : Sent
none_sent = record { parts = 0; cells = 0; lost = 0 }

-- so many rounds of what is read are sent one behind another: each is of the same bytes, and of the parts that were known behind the one before
abbrev pub SendRounds : Order → Key → Known → Contents → ℕ → KnownCalls → KnownCalls → Contents → Contents → Sent → Known → Type 0
SendRounds order key first input zero told told' there then sent known = (told' ≡ told) × (then ≡ there) × (sent ≡ none_sent) × (known ≡ first)
SendRounds order key first input (suc n) told told' there then sent known =
    (between : KnownCalls) × (mid : Contents) × (before : Sent) × (old : Known) × (more : Sent) × (after : Contents)
    × SendRounds order key first input n told between there mid before old
    × SendsStream (in_round order n) key old input after mid then between told' more known
    × (sent ≡ sum_of before more)

-- all that are asked for; or the first one, where it has no cell, since no other has one then
abbrev pub AreAll : ℕ → ℕ → Sent → Type 0
AreAll rounds number sent = (number ≡ rounds) ⊎ ((number ≡ 1) × (sent.cells ≡ 0))

-- of so many that are asked for all are sent, where nothing is known before the first
pub record SendsRounds (order : Order) (key : Key) (rounds : ℕ) (input : Contents) (told told' : KnownCalls) (there then : Contents) (sent : Sent) : Type 0 where
  pub first : Known
  pub fresh : IsFresh (nat_lt 1 rounds) first
  pub known : Known
  pub number : ℕ
  pub all : AreAll rounds number sent
  pub sends : SendRounds order key first input number told told' there then sent known

-- the next one isn't begun: what is read can't be read again, or memory is refused
abbrev pub StopsReopening : ℕ → Halt → Type 0
StopsReopening n halt = (0 < n) × ((stop : Stop) × (halt ≡ By stop) × StopsReading stop)

-- fewer are, and of the next one what could be; so many cells are lost in all of them
pub record StopsRounds (order : Order) (key : Key) (rounds : ℕ) (input : Contents) (told told' : KnownCalls) (there then : Contents) (halt : Halt) (lost : ℕ) : Type 0 where
  pub first : Known
  pub fresh : IsFresh (nat_lt 1 rounds) first
  pub number : ℕ
  pub fewer : number < rounds
  pub between : KnownCalls
  pub mid : Contents
  pub sent : Sent
  pub known : Known
  pub sends : SendRounds order key first input number told between there mid sent known
  pub before : ℕ
  pub lost_before : sent.lost ≡ counted before
  pub next :
      ((then ≡ mid) × (told' ≡ between) × (lost ≡ before) × StopsReopening number halt)
      ⊎ ((after : Contents) × (more : ℕ) × StopsStream (in_round order number) key known input after mid then between told' halt more × (lost ≡ before + more))

-- So many calls failed: a lost cell is one.
abbrev pub CountsSent : Option ℕ → Option ℕ → Sent → Type 0
CountsSent old new sent = (n : ℕ) × Fails old new n × (sent.lost ≡ counted n)

-- Each lost cell is one that failed, and a call that stops it is one.
abbrev pub CountsHalt : Option ℕ → Option ℕ → Halt → ℕ → Type 0
CountsHalt old new halt lost = Fails old new (lost + halted_calls halt)
