use Rattle.std.proofs.Common.{rules}
use Rattle.rq_streams.proofs.Bytes.{Appends-next}
use Rattle.rq_streams.proofs.run.write_bytes.Goals as goal

pub writing-preserved : goal.writing-preserved
writing-preserved g c = record {
  within = search rules;
  bytes = Appends-next _ _ _ _ _ _ c.writing.invariant.bytes c.in-Ok.ensures.bytes;
  count = search rules;
}
