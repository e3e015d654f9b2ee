-- Rounds of a stream: which ids each sends, and what is known of its parts behind the first one.
use Rattle.std.specs.Prelude.{◌≡◌, ℕ, ◌+◌, ◌-◌, ◌*◌, ◌/◌, ◌%◌, ◌^◌, ◌==◌, Bool, List, [], ◌++◌, length, slice_get, Some, if◌then◌else◌, nat_lt}
use Rattle.std.specs.Int.{div_ceil}
use Rattle.rq_cast.specs.declared.order.Order.{Order}
use Rattle.rq_cast.specs.declared.known.Known.{Known}
use Rattle.rq_cast.specs.declared.known.Stage.{Stage}
use Rattle.rq_cast.specs.declared.known.Stage.TheVariants.{Alone, First, Later}
use Rattle.rq_cast.specs.declared.stream_sending.Sent.{Sent}
use Rattle.rq_cast.specs.Searching.{counted}

-- an order for a round
abbrev pub in_round : Order → ℕ → Order
in_round order round = record order { ids = record order.ids { round = round } }

-- ---- the ids of a round

-- how many ids there are from one on, a step apart
abbrev pub ids_from : ℕ → ℕ → ℕ
ids_from id step = div_ceil (2 ^ 24 - id) step

-- Where a round begins, of which each has so many ids and the first one begins there. As many follow it as fit behind each other. Behind these a
-- round begins at the least of the ids that are whole steps from the first one, and again so many follow as fit; and so on.
abbrev pub round_first : ℕ → ℕ → ℕ → ℕ → ℕ
round_first first step count round =
    let least = first % step in
    let fit = ids_from first step / count in
    if nat_lt round fit then first + step * (round * count) else least + step * ((round - fit) % (ids_from least step / count) * count)

-- ---- what is known of the parts

-- nothing yet, and names are kept where more rounds follow
pub record IsFresh (keeps : Bool) (k : Known) : Type 0 where
  pub stage : k.stage ≡ (if keeps then First else Alone)
  pub none : k.names.items ≡ []

-- the name of the part of an index is what it was in an earlier round, and the part is the last one where it was
abbrev pub IsAsKnown : Known → ℕ → Bool → List ℕ → Type 0
IsAsKnown k index is_last name = k.stage ≡ Later → (slice_get k.names.items index ≡ Some name) × (is_last ≡ (index + 1 == length k.names.items))

-- in the first round of several the names of parts are kept
abbrev pub kept_in : Stage → List (List ℕ) → List (List ℕ) → List (List ℕ)
kept_in Alone before names = before
kept_in First before names = before ++ names
kept_in Later before names = before

abbrev pub kept_names : Known → List (List ℕ) → List (List ℕ)
kept_names k names = kept_in k.stage k.names.items names

-- These are known behind parts with these names.
pub record KeepsNames (old : Known) (names : List (List ℕ)) (new : Known) : Type 0 where
  pub stage : new.stage ≡ old.stage
  pub kept : new.names.items ≡ kept_names old names

-- the stage behind a round
abbrev pub next_stage : Stage → Stage
next_stage Alone = Alone
next_stage First = Later
next_stage Later = Later

-- a round has sent all parts, which have these names
pub record KnowsAll (old : Known) (names : List (List ℕ)) (new : Known) : Type 0 where
  pub stage : new.stage ≡ next_stage old.stage
  pub kept : new.names.items ≡ kept_names old names

-- ---- sums

-- what is sent in both of two rounds, whose parts are the same
abbrev pub sum_of : Sent → Sent → Sent
sum_of one next = record { parts = next.parts; cells = counted (one.cells + next.cells); lost = counted (one.lost + next.lost) }
