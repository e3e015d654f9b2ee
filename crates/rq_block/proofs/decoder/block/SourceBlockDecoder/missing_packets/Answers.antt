use Rattle.std.proofs.Common.{◌≡◌, ◌-◌, max, Some, inl, inr, refl, sym, ap, ◌∙◌, arith}
use Rattle.std.proofs.lemmas.Bool.{cases_lt}
use Rattle.rq_block.specs.MissingPackets.{received_count, IsMissing, missing_after}
use Rattle.rq_block.specs.SourceBlockDecoder.{received_of}
use Rattle.rq_block.proofs.NeededIds.{needs_missing, received_count_is}
use Rattle.rq_block.proofs.decoder.block.SourceBlockDecoder.missing_packets.Goals as goal
use Rattle.rq_block.proofs.decoder.block.SourceBlockDecoder.missing_packets.Goals.{After-saturating_sub-missing}

module _ (c : After-saturating_sub-missing) where
  -- as many as are missing where nothing was found yet
  missing : c.saturating_sub-missing.result ≡ c.args.self.now.source_symbols - received_count (received_of c.args.self.now)
  missing =
      let d = c.args.self.now in
      omega (arith, c.saturating_sub-missing.ensures, c.len.ensures.len, received_count_is (received_of d) d.received c.len.ensures.ordered d.few (λ e. refl))

  untried : IsMissing (received_of c.args.self.now) c.saturating_sub-missing.result
  untried = inl missing

pub returns-in-Untried-clause-value : goal.returns-in-Untried-clause-value
returns-in-Untried-clause-value c =
    let h = received_of c.args.self.now in
    ap (λ n. Some n) (missing (goal.at.returns-in-Untried-clause-value c).After-saturating_sub-missing) ∙ ap (λ found. missing_after found h) (sym c.in-Untried.is)

pub returns-in-Undetermined-clause-value : goal.returns-in-Undetermined-clause-value
returns-in-Undetermined-clause-value c =
    let h = received_of c.args.self.now in
    ap (λ n. Some n) (c.max.ensures ∙ ap (λ n. max n 1) (missing (goal.at.returns-in-Undetermined-clause-value c).After-saturating_sub-missing)) ∙ ap (λ found. missing_after found h) (sym c.in-Undetermined.is)

pub returns-in-Contradictory-clause-value : goal.returns-in-Contradictory-clause-value
returns-in-Contradictory-clause-value c = ap (λ found. missing_after found (received_of c.args.self.now)) (sym c.in-Contradictory.is)

pub returns-in-Untried-clause-told : goal.returns-in-Untried-clause-told
returns-in-Untried-clause-told c = untried (goal.at.returns-in-Untried-clause-told c).After-saturating_sub-missing

pub returns-in-Untried-clause-needed : goal.returns-in-Untried-clause-needed
returns-in-Untried-clause-needed c =
    let d = c.args.self.now in
    needs_missing (received_of d) d.received c.len.ensures.ordered d.few (λ e. refl) d.fits c.saturating_sub-missing.result (untried (goal.at.returns-in-Untried-clause-needed c).After-saturating_sub-missing)

pub returns-in-Undetermined-clause-told : goal.returns-in-Undetermined-clause-told
returns-in-Undetermined-clause-told c =
    let d = c.args.self.now in
    let count = received_count_is (received_of d) d.received c.len.ensures.ordered d.few (λ e. refl) in
    elim (cases_lt c.len.result d.source_symbols) [
      | inl below ↦ inl (omega (arith, c.max.ensures, c.saturating_sub-missing.ensures, c.len.ensures.len, count, below))
      | inr enough ↦ inr (omega (arith, c.max.ensures, c.saturating_sub-missing.ensures, enough), omega (arith, c.len.ensures.len, count, enough), d.waits c.in-Undetermined.is)
    ]

pub returns-in-Undetermined-clause-needed : goal.returns-in-Undetermined-clause-needed
returns-in-Undetermined-clause-needed c =
    let d = c.args.self.now in
    needs_missing (received_of d) d.received c.len.ensures.ordered d.few (λ e. refl) d.fits c.max.result (returns-in-Undetermined-clause-told c)
