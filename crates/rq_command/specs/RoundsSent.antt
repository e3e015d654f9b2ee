-- What sending one round more does.
use Rattle.std.specs.Prelude.{◌≡◌, ℕ, ◌+◌, ◌<◌, Option, map, nat_lt}
use Rattle.rq_cast.specs.declared.halt.Halt.{Halt}
use Rattle.rq_cast.specs.declared.stream_sending.Sent.{Sent}
use Rattle.rq_cast.specs.Rounds.{IsFresh, in_round, sum_of}
use Rattle.rq_cast.specs.SentParts.{SendsStream, StopsStream, halted_calls}
use Rattle.rq_command.specs.declared.rounds.Rounds.{Rounds}
use Rattle.rq_devices.specs.Failed.{Fails}
use Rattle.rq_command.specs.Outside.{KnownCalls}
use Rattle.rq_devices.specs.Placed.{Contents}
use Rattle.rq_command.specs.Rounds.{none_sent}

-- none of them is sent yet
pub record IsUnsent {W : Type 0} (r : Rounds W) : Type 0 where
  pub some : 0 < r.all
  pub number : r.number ≡ 0
  pub none : r.sent ≡ none_sent
  pub fresh : IsFresh (nat_lt 1 r.all) r.known

-- they are of the same stream
pub record SameStream {W : Type 0} (old new : Rounds W) : Type 0 where
  pub order : new.order ≡ old.order
  pub key : new.key ≡ old.key
  pub files : map (λ s. s.now) new.files.items ≡ map (λ s. s.now) old.files.items
  pub all : new.all ≡ old.all

-- one round more is sent of what is read, and so many calls failed
pub record SendsRound {W : Type 0} (contents : W → Contents) (input : Contents) (old new : Rounds W) (told told' : KnownCalls) (before after : Option ℕ) : Type 0 where
  pub same : SameStream old new
  pub number : new.number ≡ old.number + 1
  pub more : Sent
  pub left : Contents
  pub sends : SendsStream (in_round old.order old.number) old.key old.known input left (contents old.writer) (contents new.writer) told told' more new.known
  pub sum : new.sent ≡ sum_of old.sent more
  pub counts : Fails before after more.lost

-- what could be is sent of it
pub record StopsRound {W : Type 0} (contents : W → Contents) (input : Contents) (old : Rounds W) (new : W) (halt : Halt) (told told' : KnownCalls) (before after : Option ℕ) : Type 0 where
  pub left : Contents
  pub lost : ℕ
  pub stops : StopsStream (in_round old.order old.number) old.key old.known input left (contents old.writer) (contents new) told told' halt lost
  pub counts : Fails before after (lost + halted_calls halt)
