-- What the loops keep in `ones::push_columns`.
use Rattle.std.proofs.Common.{◌≡◌, ◌++◌, take}
use Rattle.rq_peeling.proofs.ones.push_columns.Given as goal

abbrev pub invariant-loop-column : goal.invariant-loop-column
invariant-loop-column l = l.columns.items ≡ l.fn.columns.items ++ take l.column-index l.more
