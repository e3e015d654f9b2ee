use Rattle.raptorq_c.proofs.Names.{◌≡◌, sym, ap, ◌∙◌, subst, length, configuration_of_bytes, Configuration, block_by_plan, block_encoded_of, plan_of, planned_refusal, IsPlannedEncoder}
use Rattle.raptorq_c.proofs.PlannedBlocks.{planned_over}
use Rattle.raptorq_c.proofs.block_encoders.planned_encoder.Goals as goal

pub returns-clause-encoder : goal.returns-clause-encoder
returns-clause-encoder c =
    let header = c.args.block.configuration.now in
    let bytes = c.args.block.bytes.now in
    let number = c.args.block.number in
    let plan = plan_of c.args.plan.now in
    let b = block_encoded_of c.in_ok-encoder.encoder in
    let read = c.deserialize-config.ensures in
    let taken = sym (ap (λ (k : Configuration). planned_refusal k (length bytes) plan) read) ∙ sym c.in_ok-check_planned.ensures.refused in
    let is : b ≡ block_by_plan plan (configuration_of_bytes header) number bytes = c.in_ok-encoder.ensures ∙ ap (λ (k : Configuration). block_by_plan plan k number bytes) read in
    let made : IsPlannedEncoder header number bytes plan b = record { taken = taken; encoder = is; over = planned_over header bytes plan taken number b is } in
    subst (λ d. IsPlannedEncoder header number bytes plan (block_encoded_of d)) (sym c.in_ok-new.ensures.ok) made
