use Rattle.std.proofs.Common.{◌≡◌, ◌++◌, length, take, arith, rules, length-append}
use Rattle.std.proofs.lemmas.List.{length-take}
use Rattle.std.proofs.lemmas.Result.{err_from_is_err_and}
use Rattle.std.proofs.KnownBytes.{Consumes-trans}
use Rattle.rq_cast.proofs.part_reading.read_part.Goals as goal

pub returns-in_err-extend_from_slice-clause-within : goal.returns-in_err-extend_from_slice-clause-within
returns-in_err-extend_from_slice-clause-within g c =
    let kept = c.reading.invariant in
    let had = c.reading.bytes.items in
    let came = take c.in-Ok.n c.read.new.buf in
    let room : length c.read.new.buf ≡ c.min-room.result = search rules in
    let size : length had ≡ c.len-in-reading.result = search rules in
    let p = err_from_is_err_and c.from_residual.result c.from_residual.ensures.1 in
    rw p.1 (record {
      piece = had ++ came;
      taken = Consumes-trans _ _ _ had came kept.bytes c.in-Ok.ensures.bytes.0;
      few = omega (arith, length-append had came, length-take c.in-Ok.n c.read.new.buf, c.in-Ok.ensures.bound, c.min-room.ensures, kept.few);
    })
