-- Words that ask for nothing.
use Rattle.std.proofs.Common.{◌≡◌, ◌⊎◌, ℕ, List, [], ◌∷◌, Option, Some, Result, Ok, Err, IfOk, IfErr, inl, inr, sym, ap, ap₂, subst, ◌∙◌}
use Rattle.clap.specs.Words.{FailsBy, HasKind, IsAmong, Kinds, Row, kind_of}
use Rattle.clap.specs.Kinds.{or_else}
use Rattle.clap.specs.declared.error.Error.{Error}
use Rattle.clap.specs.declared.error.kind.ErrorKind.{ErrorKind}
use Rattle.clap.specs.declared.error.kind.ErrorKind.TheVariants.{OutOfMemory}
use Rattle.clap.specs.declared.parser.matches.ArgMatches.{ArgMatches}
use Rattle.rq_options.specs.declared.matches.Verb.{Verb}
use Rattle.rq_options.specs.declared.matches.Verb.TheVariants as verb
use Rattle.rq_options.specs.Definition.{faults_of}
use Rattle.rq_options.specs.Options.{verb_in, verb_used}
use Rattle.rq_words.specs.declared.jobs.Job.{Job}
use Rattle.rq_words.specs.declared.jobs.Job.TheVariants.{Send, Receive, Follow, Info, Protect, Check, Repair, Split, Join}
use Rattle.rq_words.specs.Asked.{Asked, AsksFor, IsReceivedOf, IsRefused, Uses, both, kinds_of, misuses_of, refusals_of}

-- ---- one option and another

pub both_asked : {X Y : Type 0} (a : Asked X) (b : Asked Y) (x : X) (y : Y) → Ok x ≡ a → Ok y ≡ b → both a b ≡ Ok (x, y)
both_asked a b x y one other = sym (ap₂ both one other)

pub first_refused : {X Y : Type 0} (a : Asked X) (b : Asked Y) (kind : ErrorKind) → Err kind ≡ a → both a b ≡ Err kind
first_refused {X} a b kind one = sym (ap (λ (r : Asked X). both r b) one)

pub second_refused : {X Y : Type 0} (a : Asked X) (b : Asked Y) (x : X) (kind : ErrorKind) → Ok x ≡ a → Err kind ≡ b → both a b ≡ Err kind
second_refused a b x kind one other = sym (ap₂ both one other)

-- ---- the error of what is refused

pub fails_so : {X : Type 0} (a : Asked X) (kind : ErrorKind) (e : Error) → a ≡ Err kind → HasKind (kind ∷ []) e → HasKind (kinds_of a) e
fails_so {X} a kind e is has = subst (λ (r : Asked X). HasKind (kinds_of r) e) (sym is) has

pub passes : {X : Type 0} (a : Asked X) (x : X) → a ≡ Ok x → kinds_of a ≡ []
passes a x is = ap kinds_of is

-- ---- words that are taken

-- the parser finds a subcommand in them
pub uses : (words : List (List ℕ)) (m : ArgMatches) (v : Verb) (rows : List Row) → faults_of words ≡ [] → Some (v, rows) ≡ verb_in m → verb_in m ≡ verb_used words
    → Uses words v rows
uses words m v rows faultless is used = record { faultless = faultless; used = sym (is ∙ used) }

-- a stream is received, or all are
pub received : (words : List (List ℕ)) (rows : List Row) (r : Result Job Error) → Uses words verb.Receive rows → IfOk r (IsReceivedOf rows) → IfOk r (AsksFor words)
received words rows (Ok (Send job)) uses is = absurd is
received words rows (Ok (Receive job)) uses is = (rows, uses, is)
received words rows (Ok (Follow job)) uses is = (rows, uses, is)
received words rows (Ok (Info job)) uses is = absurd is
received words rows (Ok (Protect job)) uses is = absurd is
received words rows (Ok (Check job)) uses is = absurd is
received words rows (Ok (Repair job)) uses is = absurd is
received words rows (Ok (Split job)) uses is = absurd is
received words rows (Ok (Join job)) uses is = absurd is
received words rows (Err e) uses is = tt

-- ---- words that are refused

-- those that ask for a job aren't
unrefused : (words : List (List ℕ)) (job : Job) → AsksFor words job → refusals_of words ≡ []
unfolding refusals_of
unrefused words (Send job) (rows, uses, asks) =
    ap₂ (λ (f : Kinds) (u : Option (Verb × List Row)). or_else f (misuses_of u)) uses.faultless uses.used ∙ ap kinds_of asks.asked_for
unrefused words (Receive job) (rows, uses, asks) =
    ap₂ (λ (f : Kinds) (u : Option (Verb × List Row)). or_else f (misuses_of u)) uses.faultless uses.used ∙ ap kinds_of asks.asked_for
unrefused words (Follow job) (rows, uses, asks) =
    ap₂ (λ (f : Kinds) (u : Option (Verb × List Row)). or_else f (misuses_of u)) uses.faultless uses.used ∙ ap kinds_of asks.asked_for
unrefused words (Info job) (rows, uses, asks) =
    ap₂ (λ (f : Kinds) (u : Option (Verb × List Row)). or_else f (misuses_of u)) uses.faultless uses.used ∙ ap kinds_of asks.asked_for
unrefused words (Protect job) (rows, uses, asks) =
    ap₂ (λ (f : Kinds) (u : Option (Verb × List Row)). or_else f (misuses_of u)) uses.faultless uses.used ∙ ap kinds_of asks.asked_for
unrefused words (Check job) (rows, uses, asks) =
    ap₂ (λ (f : Kinds) (u : Option (Verb × List Row)). or_else f (misuses_of u)) uses.faultless uses.used ∙ ap kinds_of asks.asked_for
unrefused words (Repair job) (rows, uses, asks) =
    ap₂ (λ (f : Kinds) (u : Option (Verb × List Row)). or_else f (misuses_of u)) uses.faultless uses.used ∙ ap kinds_of asks.asked_for
unrefused words (Split job) (rows, uses, asks) =
    ap₂ (λ (f : Kinds) (u : Option (Verb × List Row)). or_else f (misuses_of u)) uses.faultless uses.used ∙ ap kinds_of asks.asked_for
unrefused words (Join job) (rows, uses, asks) =
    ap₂ (λ (f : Kinds) (u : Option (Verb × List Row)). or_else f (misuses_of u)) uses.faultless uses.used ∙ ap kinds_of asks.asked_for

among_none : (kind : ErrorKind) (kinds : Kinds) → IsAmong kind kinds → kinds ≡ [] → ⊥
among_none kind [] h is = h
among_none kind (k ∷ ks) h is = absurd (cc is)

refused_for : (words : List (List ℕ)) (kind : ErrorKind) → IsAmong kind (refusals_of words) → IsRefused words kind
refused_for words kind among =
    inr (record { among = among; none = λ job asks. among_none kind (refusals_of words) among (unrefused words job asks) })

first_among : (kind : ErrorKind) (first then : Kinds) → IsAmong kind first → IsAmong kind (or_else first then)
first_among kind [] then h = absurd h
first_among kind (k ∷ ks) then h = h

-- by the parser
pub refused_at_once : (words : List (List ℕ)) (kind : ErrorKind) → (kind ≡ OutOfMemory) ⊎ IsAmong kind (faults_of words) → IsRefused words kind
unfolding refusals_of
refused_at_once words kind h = elim h [
  | inl memory ↦ inl memory
  | inr among ↦ refused_for words kind (first_among kind (faults_of words) (misuses_of (verb_used words)) among)
]

-- behind it
pub refused_then : (words : List (List ℕ)) (kind : ErrorKind) (used : Option (Verb × List Row)) → faults_of words ≡ [] → used ≡ verb_used words
    → (kind ≡ OutOfMemory) ⊎ IsAmong kind (misuses_of used) → IsRefused words kind
unfolding refusals_of
refused_then words kind used faultless is h = elim h [
  | inl memory ↦ inl memory
  | inr among ↦ refused_for words kind (subst (IsAmong kind)
      (ap₂ (λ (f : Kinds) (u : Option (Verb × List Row)). or_else f (misuses_of u)) (sym faultless) is) among)
]

-- of the words behind a subcommand
pub fails_then : {X : Type 0} (words : List (List ℕ)) (r : Result X Error) (used : Option (Verb × List Row)) → faults_of words ≡ [] → used ≡ verb_used words
    → FailsBy (misuses_of used) r → IfErr r (λ e. IsRefused words (kind_of e))
fails_then words (Ok x) used faultless is fails = tt
fails_then words (Err e) used faultless is fails = refused_then words (kind_of e) used faultless is fails
