use Rattle.std.proofs.Common.{length, sym, subst, Result, Ok, Err}
use Rattle.std.specs.Prelude.{OnErr}
use Rattle.std.specs.Io.KnownBytes.{Appends}
use Rattle.std.proofs.KnownBytes.{Appends-kept}
use Rattle.std.proofs.Math.Seq.{take-length}
use Rattle.rq_streams.specs.Counted.{inner}
use Rattle.rq_cast.proofs.run.write_part.Goals as goal

on_err : {T E P : Type 0} (r : Result T E) → P → OnErr r P
on_err (Ok x) p = tt
on_err (Err e) p = p

pub returns-clause-beginning : goal.returns-clause-beginning
returns-clause-beginning g c =
    let there = g.W.Write.contents (inner c.args.writer.now) in
    let mid = g.W.Write.contents (inner c.write_bytes.new.writer) in
    let then = g.W.Write.contents (inner c.flush.new.writer) in
    let bytes = c.args.bytes.now in
    on_err c.flush.result (
      length bytes,
      subst (Appends there then) (sym (take-length bytes)) (Appends-kept there mid then bytes c.in_ok-write_bytes.ensures.bytes c.flush.ensures.bytes),
    )
