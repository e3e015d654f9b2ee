use Rattle.std.proofs.Common.{◌≡◌, ◌+◌, ◌-◌, ◌++◌, append_assoc, drop, take, take-add, sym, ap, ◌∙◌, arith}
use Rattle.rq_block.proofs.sub_blocks.extend_by_pieces.Goals as goal

pub loop-start-preserved : goal.loop-start-preserved
loop-start-preserved c =
    let old = c.args.bytes.now.items in
    let more = c.args.more.now in
    let start = c.loop-start.start in
    let count = c.min.result in
    let piece : start + count - start ≡ count = omega arith in
    record {
      within = omega (arith, c.min.ensures, c.loop-start.invariant.within);
      so_far =
          c.in_ok-extend_from_slice.ensures.items
          ∙ ap (λ xs. xs ++ take (start + count - start) (drop start more)) c.loop-start.invariant.so_far
          ∙ append_assoc old (take start more) (take (start + count - start) (drop start more))
          ∙ ap (λ n. old ++ (take start more ++ take n (drop start more))) piece
          ∙ ap (λ xs. old ++ xs) (sym (take-add start count more));
    }
