-- What is known of a run beside the bytes that it reads and writes.
use Rattle.std.specs.Prelude.{ℕ, Bool, List, Option}
use Rattle.rq_cast.specs.Calls.{Call}
use Rattle.rq_devices.specs.Folder.{Folder}
use Rattle.rq_devices.specs.Placed.{Files}

-- which calls that begin cells were told, where that is known
abbrev pub KnownCalls : Type 0
KnownCalls = Option (List Call)

-- Whether its cells would go to a terminal; which calls were told, how many failed, and what runs kept of their input, before it and behind it; and what
-- stands in files behind it.
pub record Outside : Type 0 where
  pub terminal : Option Bool
  pub told : KnownCalls
  pub told_behind : KnownCalls
  pub failed : Option ℕ
  pub failed_behind : Option ℕ
  pub earlier : Folder
  pub earlier_behind : Folder
  pub stands_behind : Files

abbrev pub outside : Option Bool → KnownCalls → KnownCalls → Option ℕ → Option ℕ → Folder → Folder → Files → Outside
outside terminal told told_behind failed failed_behind earlier earlier_behind stands_behind = record {
  terminal = terminal;
  told = told;
  told_behind = told_behind;
  failed = failed;
  failed_behind = failed_behind;
  earlier = earlier;
  earlier_behind = earlier_behind;
  stands_behind = stands_behind;
}
