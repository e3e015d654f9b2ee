use Rattle.std.proofs.Common.{◌≡◌, ℕ, Ok, sym, ap, subst, ◌∙◌, rules}
use Rattle.std.proofs.lemmas.Grind.{merely}
use Rattle.rq_standard.specs.Configuration.{Configuration, IsAccepted, IsConfiguration}
use Rattle.rq_standard.specs.Headline.{HasNonsingularRows}
use Rattle.rq_standard.specs.TableRows.{greatest_size}
use Rattle.raptorq.specs.Refused.{new_encoder}
use Rattle.rq_base.specs.RefusedInput.{checked_configuration}
use Rattle.rq_base.proofs.Accepted.{both_ok, accepted_by}
use Rattle.rq_cast.specs.Parts.{source_digests}
use Rattle.rq_cast.proofs.digested.Digested.new.Goals as goal

-- the configuration of an encoder is accepted
accepted_in : (greatest n : ℕ) (k c : Configuration) → c ≡ k → new_encoder greatest k n ≡ Ok tt → IsAccepted greatest c
accepted_in greatest n k c same taken =
    subst (IsAccepted greatest) (sym same) (accepted_by greatest k (both_ok (checked_configuration greatest k) _ _ taken).1)

pub invariant_of-result : goal.invariant_of-result
invariant_of-result c =
    let object = c.args.object.now in
    let e = c.in_ok-encoder.ensures in
    record {
      digested = merely (record {
        table = c.args.table.now;
        checked = c.greatest-greatest.ensures.checked;
        accepted = accepted_in (greatest_size c.args.table.now) _ c.args.configuration _ e.configuration e.taken;
        object = object;
        encoder = e.encoder;
        each = c.in_ok-digests.ensures.digests ∙ ap (λ n. source_digests n object) (sym e.configuration);
      });
    }

pub returns-clause-encodes : goal.returns-clause-encodes
returns-clause-encodes c =
    let table = c.args.table.now in
    let e = c.in_ok-encoder.ensures in
    record {
      checked = c.greatest-greatest.ensures.checked;
      configuration = subst IsConfiguration (sym e.configuration) (search rules);
      accepted = accepted_in (greatest_size table) _ c.args.configuration _ e.configuration e.taken;
      nonsingular = subst (HasNonsingularRows table) (sym e.configuration) e.nonsingular;
      encoder = e.encoder;
    }
