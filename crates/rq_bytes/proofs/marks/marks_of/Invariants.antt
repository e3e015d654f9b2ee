-- What the loop keeps in `marks::marks_of`.
use Rattle.std.proofs.Common.{take}
use Rattle.rq_bytes.specs.SymbolSlab.{MarksRead}
use Rattle.rq_bytes.proofs.marks.marks_of.Given as goal

abbrev pub invariant-loop-i : goal.invariant-loop-i
invariant-loop-i l = MarksRead l.count (take l.i-index l.order) l.marks.items
