use Rattle.std.proofs.Common.{◌≡◌, ◌-◌, ◌≤◌}
use Rattle.rq_standard.specs.Parameters.{first_from, is_fitting, most_sub_blocks}
use Rattle.rq_base.proofs.base.information.parameters.least_sub_blocks.Given as goal

abbrev pub invariant-loop-sub_blocks : goal.invariant-loop-sub_blocks
invariant-loop-sub_blocks l = record {
  within : l.sub_blocks ≤ l.end;
  same : first_from (is_fitting l.table l.packet_size l.memory l.source_symbols) l.sub_blocks (l.end - l.sub_blocks) ≡ first_from (is_fitting l.table l.packet_size l.memory l.source_symbols) 1 (most_sub_blocks l.packet_size);
}
