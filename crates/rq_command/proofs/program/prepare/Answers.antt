use Rattle.std.proofs.Common.{Err, map, option_map, ap, subst, ◌∙◌}
use Rattle.std.proofs.lemmas.Result.{err_from_is_err_and}
use Rattle.rq_devices.specs.Keyed.{IsKeyRead, key_file}
use Rattle.rq_command.proofs.Doing.{refused_early}
use Rattle.rq_command.proofs.program.prepare.Goals as goal

pub returns-in_err-check_length-clause-stops : goal.returns-in_err-check_length-clause-stops
returns-in_err-check_length-clause-stops g c =
    let stands = g.D.Devices.stands c.args.devices.now in
    let file = key_file stands (option_map (λ s. s.now) c.args.job.now.key) in
    let files = map (λ s. s.now) c.args.job.now.files.items in
    let p = err_from_is_err_and c.from_residual-in_err-check_length.result c.from_residual-in_err-check_length.ensures.1 in
    refused_early c.args.job.now.order file (stands files) (g.D.Reader.Read.remaining c.in_ok-reader.reader) c.in-Some.key c.in-Some-length.length
    c.in_err-check_length.field-0.0 c.from_residual-in_err-check_length.result (p.1 ∙ ap (λ s. Err s) p.2) (subst (IsKeyRead file) c.in-Some.is c.in_ok-key.ensures.key)
    (c.in_ok-reader.ensures.bytes ∙ ap (λ xs. g.D.Devices.stands c.key_of.new.devices (map (λ s. s.now) xs)) c.as_slice.ensures.value
    ∙ ap (λ there. there files) c.key_of.ensures.stays) c.in_err-check_length.ensures.refused c.in-Some-length.ensures

pub returns-clause-key : goal.returns-clause-key
returns-clause-key g c =
    subst (IsKeyRead (key_file (g.D.Devices.stands c.args.devices.now) (option_map (λ s. s.now) c.args.job.now.key))) c.in-Some.is c.in_ok-key.ensures.key

pub returns-clause-bytes : goal.returns-clause-bytes
returns-clause-bytes g c =
    c.in_ok-reader.ensures.bytes ∙ ap (λ xs. g.D.Devices.stands c.key_of.new.devices (map (λ s. s.now) xs)) c.as_slice.ensures.value
    ∙ ap (λ there. there (map (λ s. s.now) c.args.job.now.files.items)) c.key_of.ensures.stays
