-- What the check leaves to show of `entries::InactiveEntries::get`.
use Rattle.std.proofs.Common.{List, ℕ, get_or, sym, ap, ◌∙◌}
use Rattle.rq_bytes.proofs.PackedRows.{at-octets_of_bits}
use Rattle.rq_elimination.proofs.entries.InactiveEntries.get.Goals as goal

pub returns-in-Bits : goal.returns-in-Bits
returns-in-Bits c =
    c.get_bit.ensures
    ∙ sym (at-octets_of_bits c.args.self.now.width c.in-Bits.bits.now c.args.column c.requires.column)
    ∙ ap (λ (r : List ℕ). get_or r c.args.column 0) c.in-Bits.ensures.octets
