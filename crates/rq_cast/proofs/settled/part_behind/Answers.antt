use Rattle.std.proofs.Common.{◌≡◌, false, rules, arith, subst}
use Rattle.rq_cast.specs.Parts.{number_of}
use Rattle.rq_cast.proofs.SettledObjects.{inner_part}
use Rattle.rq_cast.proofs.settled.part_behind.Goals as goal

pub returns-then-not-is_last-clause-part : goal.returns-then-not-is_last-clause-part
returns-then-not-is_last-clause-part c =
    let h = c.args.head.now in
    let names = c.args.names.now in
    let inner : c.in-Some.is_last ≡ false = grind (arith, c.if-not-is_last.true) in
    let same : h.stream ≡ c.stream_behind.result = search rules in
    inner_part names h c.args.object.now c.requires.named c.stream_behind.result c.stream_behind.ensures same
    (subst (λ b. h.number ≡ number_of b names.count) inner c.in-Some.ensures.some)
