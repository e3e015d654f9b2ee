use Rattle.std.proofs.Common.{refl, ap, ◌∙◌}
use Rattle.rq_cells.specs.Search.{Searching}
use Rattle.rq_cast.proofs.receiver.Receiver.begin.Goals as goal

pub returns-clause-begins : goal.returns-clause-begins
returns-clause-begins c = record {
  wanted_is = refl;
  width_is = refl;
  wish = ap (λ (k : Searching). k.wish) (c.replace-search.ensures.after ∙ c.new.ensures);
  stream = c.in_ok-new.field-0;
  is = refl;
  found = record { head = c.args.head; bytes = c.into_bytes.result; seen = c.with.result };
  head = refl;
  bytes = c.into_bytes.ensures ∙ ap (λ (k : Searching). k.bytes) c.replace-search.ensures.value;
  sees = c.with.ensures;
  read = c.in_ok-new.ensures.read;
}
