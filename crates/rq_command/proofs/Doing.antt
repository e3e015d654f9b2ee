-- What is done by the words.
use Rattle.std.proofs.Common.{◌≡◌, Bool, ℕ, List, length, Option, Some, None, Result, Ok, Err, IfSome, IfErr, inr, sym, subst, ◌∙◌}
use Rattle.rq_cast.specs.declared.order.Order.{Order}
use Rattle.rq_bytes.specs.declared.error.Error.{Error}
use Rattle.rq_standard.specs.declared.row.TableRow.{TableRow}
use Rattle.rq_tables.specs.SystematicTable.{wanted_table}
use Rattle.rq_rows.specs.declared.further_rows.TheConstants.{FURTHER_ROWS}
use Rattle.rq_cast.specs.declared.survey.Standing.{Standing}
use Rattle.rq_cast.specs.Preparing.{RefusesParts}
use Rattle.rq_cast.specs.Surveyed.{IsSurvey}
use Rattle.rq_cells.specs.Cells.{Key}
use Rattle.rq_streams.specs.declared.run.Stop.{Stop}
use Rattle.rq_streams.specs.declared.run.Stop.TheVariants.{Refused}
use Rattle.rq_words.specs.declared.values.TheConstants.{WIDEST_WINDOW}
use Rattle.rq_words.specs.declared.jobs.Job.{Job}
use Rattle.rq_words.specs.declared.jobs.Job.TheVariants.{Send, Receive, Follow, Info, Protect, Check, Repair, Split, Join}
use Rattle.rq_command.specs.declared.ending.End.{End}
use Rattle.rq_command.specs.declared.ending.End.TheVariants.{Unasked, AtTerminal, EmptyKey, Sent, Changed, Received, Followed, Surveyed, Protected, Checked, Repaired, Stopped}
use Rattle.rq_words.specs.Asked.{AsksFor}
use Rattle.rq_devices.specs.Folder.{Folder}
use Rattle.rq_devices.specs.Keyed.{IsKeyOf}
use Rattle.rq_command.specs.Outside.{KnownCalls, Outside}
use Rattle.rq_devices.specs.Placed.{Contents}
use Rattle.rq_devices.specs.Spots.{Spots}
use Rattle.rq_command.specs.Program.{Does, EndsJob, MindsTerminal, is_at_terminal, Lists, RefusesLength, StopsUnsent, end_of}

module _ (words : List (List ℕ)) (outside : Outside) (stands : List (List ℕ) → Contents) (blank : Spots) where
  pub does : (ended : End) (old new : Spots) (held held' : Folder) (job : Job) → AsksFor words job → EndsJob job outside stands blank ended old new held held'
      → Does words outside stands blank ended old new held held'
  does (Unasked e) old new held held' (Send job) asks ends = absurd ends.1
  does (Unasked e) old new held held' (Receive job) asks ends = absurd ends.0
  does (Unasked e) old new held held' (Follow job) asks ends = absurd ends.0
  does (Unasked e) old new held held' (Info job) asks ends = absurd ends.0
  does (Unasked e) old new held held' (Protect job) asks ends = absurd ends.0
  does (Unasked e) old new held held' (Check job) asks ends = absurd ends.0
  does (Unasked e) old new held held' (Repair job) asks ends = absurd ends.0
  does (Unasked e) old new held held' (Split job) asks ends = absurd ends.0
  does (Unasked e) old new held held' (Join job) asks ends = absurd ends.0
  does AtTerminal old new held held' job asks ends = (job, asks, ends)
  does EmptyKey old new held held' job asks ends = (job, asks, ends)
  does (Sent sent) old new held held' job asks ends = (job, asks, ends)
  does (Changed part) old new held held' job asks ends = (job, asks, ends)
  does (Received r seen) old new held held' job asks ends = (job, asks, ends)
  does (Followed streams last seen) old new held held' job asks ends = (job, asks, ends)
  does (Surveyed standings) old new held held' job asks ends = (job, asks, ends)
  does (Protected made) old new held held' job asks ends = (job, asks, ends)
  does (Checked found) old new held held' job asks ends = (job, asks, ends)
  does (Repaired found) old new held held' job asks ends = (job, asks, ends)
  does (Stopped stop) old new held held' job asks ends = (job, asks, ends)

  -- the same, of how a run ends that something may stop
  pub done : (r : Result End Stop) (ended : End) (old new : Spots) (held held' : Folder) (job : Job) → ended ≡ end_of r → AsksFor words job
      → EndsJob job outside stands blank (end_of r) old new held held' → Does words outside stands blank ended old new held held'
  done r ended old new held held' job is asks ends =
      subst (λ (e : End). Does words outside stands blank e old new held held') (sym is) (does (end_of r) old new held held' job asks ends)

-- where cells would go to a terminal, by what the devices say of it
pub minds : (terminal : Option Bool) (shows : Bool) (ended : End) → IfSome terminal (λ is. shows ≡ is) → shows ≡ is_at_terminal ended → MindsTerminal terminal ended
minds None shows ended says is = tt
minds (Some t) shows ended says is = sym says ∙ is

-- ---- sending

-- an input of a length that is known is refused before it is read
known_parts : (order : Order) (input : Contents) (known : ℕ) (e : Error) → RefusesParts order known e → IfSome input (λ o. length o ≡ known)
    → IfSome input (λ o. RefusesLength order (length o) (Refused e))
known_parts order None known e refused long = tt
known_parts order (Some o) known e refused long = subst (λ n. RefusesParts order n e) (sym long) refused

pub refused_early : {X : Type 0} (order : Order) (file : Option Contents) (input read : Contents) (key : Key) (known : ℕ) (e : Error) (r : Result X Stop)
    → r ≡ Err (Refused e) → IsKeyOf file key → read ≡ input → RefusesParts order known e → IfSome read (λ o. length o ≡ known)
    → IfErr r (StopsUnsent order file input)
refused_early {X} order file input read key known e r is keyed there refused long =
    let all = subst (λ (s : Contents). IfSome s (λ o. length o ≡ known)) there long in
    subst (λ (x : Result X Stop). IfErr x (StopsUnsent order file input)) (sym is) (inr ((key, keyed), known_parts order input known e refused all))

-- what is so of what was sent is so of what was asked for, of the calls told before, and of what stands in its place
pub as_asked : (P : Order → Key → ℕ → Contents → KnownCalls → Contents → Contents → Type 0) {o o' : Order} {k k' : Key} {n n' : ℕ} {input input' : Contents}
    {told told' : KnownCalls} {there there' then then' : Contents} → o ≡ o' → k ≡ k' → n ≡ n' → input ≡ input' → told ≡ told' → there ≡ there' → then ≡ then'
    → P o k n input told there then → P o' k' n' input' told' there' then'
as_asked P {o} {o'} {k} {k'} {n} {n'} {input} {input'} {told} {told'} {there} {there'} {then} {then'} order key rounds read heard begun ended holds =
    subst (P o' k' n' input' told' there') ended
    (subst (λ t. P o' k' n' input' told' t then) begun
    (subst (λ t. P o' k' n' input' t there then) heard
    (subst (λ i. P o' k' n' i told there then) read
    (subst (λ m. P o' k' m input told there then) rounds
    (subst (λ l. P o' l n input told there then) key
    (subst (λ p. P p k n input told there then) order holds))))))

-- ---- listing

pub lists : (file : Option Contents) (input read : Contents) (key : Key) (table : List TableRow) (bytes : List ℕ) (standings : List Standing) → IsKeyOf file key
    → wanted_table FURTHER_ROWS ≡ Ok table → read ≡ input → IfSome read (λ b. bytes ≡ b) → IsSurvey table key WIDEST_WINDOW bytes standings
    → IfSome input (λ b. Lists file b standings)
lists file None read key table bytes standings keyed rows there all survey = tt
lists file (Some b) read key table bytes standings keyed rows there all survey = record {
  key = key;
  keyed = keyed;
  table = table;
  rows = rows;
  survey = subst (λ xs. IsSurvey table key WIDEST_WINDOW xs standings) (subst (λ (s : Contents). IfSome s (λ b. bytes ≡ b)) there all) survey;
}
