use Rattle.raptorq_c.proofs.Names.{◌≡◌, Ok, sym, ◌∙◌, subst, inr, length, err_from_is_err_and, on_ok_weaker, configuration_of_bytes, HasNonsingularRows, greatest_size, encoded_of, IsEncoderOf, new_encoder, RefusesEncoder, encoder_in, coder_at, IsEncoderIn}
use Rattle.raptorq_c.proofs.Held.{over, said_kept}
use Rattle.raptorq_c.proofs.encoders.open.Goals as goal

pub returns-in_err-made-clause-refused : goal.returns-in_err-made-clause-refused
returns-in_err-made-clause-refused c =
    let p = err_from_is_err_and c.from_residual-in_err-made.result c.from_residual-in_err-made.ensures.1 in
    rw (p.1, p.2) (inr (over (λ t k. RefusesEncoder t k (length c.args.object.now) c.in_err-made.field-0.0) _ _ (configuration_of_bytes c.args.configuration.now) c.in_ok-table.ensures.rows c.deserialize-config.ensures c.in_err-made.ensures.refused))

pub returns-clause-encoder : goal.returns-clause-encoder
returns-clause-encoder c =
    let header = c.args.configuration.now in
    let object = c.args.object.now in
    let e = encoded_of c.in_ok-made.made in
    let full = c.in_ok-table.ensures.rows in
    let read = c.deserialize-config.ensures in
    let ends = c.in_ok-made.ensures in
    let made : IsEncoderIn header object e = record {
      configuration = ends.configuration ∙ read;
      taken = over (λ t k. new_encoder (greatest_size t) k (length object) ≡ Ok tt) _ _ _ full read ends.taken;
      nonsingular = over HasNonsingularRows _ _ _ full read ends.nonsingular;
      encoder = over (λ t _. IsEncoderOf t object e) _ _ (configuration_of_bytes header) full read ends.encoder;
    } in
    on_ok_weaker c.keep.result (λ kept. said_kept encoder_in (coder_at c.keep.new.self) _ kept (IsEncoderIn header object) (subst (λ d. IsEncoderIn header object (encoded_of d)) (sym c.in_ok-new.ensures.ok) made)) c.keep.ensures.kept
