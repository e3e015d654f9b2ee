use Rattle.std.proofs.Common.{◌≡◌, ◌+◌, ◌-◌, ◌∙◌, true, false, refl, sym, arith}
use Rattle.std.proofs.lemmas.Bool.{le-leb, lt-leb}
use Rattle.rq_standard.specs.Parameters.{first_from, is_fitting, fitting_block}
use Rattle.rq_standard.proofs.LeastNumbers.{first_from-step, first_from-none}
use Rattle.rq_base.proofs.base.information.parameters.least_sub_blocks.Goals as goal

pub returns-then-source_symbols-from : goal.returns-then-source_symbols-from
returns-then-source_symbols-from c =
    let test = is_fitting c.args.table.now c.args.packet_size c.args.memory c.args.source_symbols in
    let n = c.loop-sub_blocks.sub_blocks in
    let passes : test n ≡ true = le-leb c.args.source_symbols (fitting_block c.args.table.now c.args.packet_size c.args.memory n) (rw (c.from.ensures, c.fitting_block.ensures) at c.if-source_symbols-from.true) in
    let here : first_from test n (c.most_sub_blocks-end.result + 1 - n) ≡ n = first_from-step test n (c.most_sub_blocks-end.result + 1) c.loop-sub_blocks-test.true ∙ rw passes refl in
    sym here ∙ c.loop-sub_blocks.invariant.same

pub loop-sub_blocks-preserved : goal.loop-sub_blocks-preserved
loop-sub_blocks-preserved c =
    let test = is_fitting c.args.table.now c.args.packet_size c.args.memory c.args.source_symbols in
    let n = c.loop-sub_blocks.sub_blocks in
    let end = c.most_sub_blocks-end.result + 1 in
    let fails : test n ≡ false = lt-leb c.args.source_symbols (fitting_block c.args.table.now c.args.packet_size c.args.memory n) (rw (c.from.ensures, c.fitting_block.ensures) at c.if-source_symbols-from.false) in
    let later : first_from test n (end - n) ≡ first_from test (n + 1) (end - (n + 1)) = first_from-step test n end c.loop-sub_blocks-test.true ∙ rw fails refl in
    record {
      within = omega arith;
      same = sym later ∙ c.loop-sub_blocks.invariant.same;
    }

pub returns : goal.returns
returns c =
    let test = is_fitting c.args.table.now c.args.packet_size c.args.memory c.args.source_symbols in
    let n = c.loop-sub_blocks.sub_blocks in
    let end = c.most_sub_blocks-end.result + 1 in
    let at_end : end ≡ n = omega (arith, c.loop-sub_blocks.invariant.within) in
    at_end ∙ sym (first_from-none test n (end - n) (omega arith)) ∙ c.loop-sub_blocks.invariant.same
