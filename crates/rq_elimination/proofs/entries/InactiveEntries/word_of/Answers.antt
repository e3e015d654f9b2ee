-- What the check leaves to show of `entries::InactiveEntries::word_of`.
use Rattle.std.proofs.Common.{◌+◌, ◌*◌, List, ℕ, get_or, sym, ap, ◌∙◌}
use Rattle.rq_parts.proofs.BitPairLaws.{packed_bit-at}
use Rattle.rq_bytes.proofs.PackedRows.{at-octets_of_bits}
use Rattle.rq_elimination.proofs.entries.InactiveEntries.word_of.Goals as goal

pub returns-in-Bits : goal.returns-in-Bits
returns-in-Bits c = λ k near inside.
    let bits = c.in-Bits.bits.now in
    let place = 64 * c.args.word + k in
    sym (packed_bit-at bits c.args.word k near)
    ∙ sym (at-octets_of_bits c.args.self.now.width bits place inside)
    ∙ ap (λ (r : List ℕ). get_or r place 0) c.in-Bits.ensures.octets
