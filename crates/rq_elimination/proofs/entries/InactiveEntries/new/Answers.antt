-- What the check leaves to show of `entries::InactiveEntries::new`.
use Rattle.std.proofs.Common.{ℕ, List, [], replicate, refl, ap, sym, subst, ◌∙◌}
use Rattle.rq_parts.specs.DenseOctetMatrix.{OctetTable}
use Rattle.rq_parts.specs.PackedBits.{word_count}
use Rattle.rq_elimination.specs.InactiveEntries.{AreEntries}
use Rattle.rq_elimination.proofs.EntryRows.{octet_table_of, zero_rows, zeros_are}
use Rattle.rq_elimination.proofs.entries.InactiveEntries.new.Goals as goal

pub invariant_of-result : goal.invariant_of-result
invariant_of-result c =
    let own = c.in_ok-new.field-0 in
    subst (λ (bits : List (List ℕ)). AreEntries own.width bits own.rows) (sym c.in_ok-zeros.ensures)
    (rw c.in_ok-new.ensures (zeros_are c.args.width c.args.height c.requires.narrow (replicate c.args.height []) refl))

pub returns : goal.returns
returns c =
    let own = c.in_ok-new.field-0 in
    let size = word_count c.args.width in
    ap (λ (bits : List (List ℕ)). octet_table_of own.width bits own.rows) c.in_ok-zeros.ensures
    ∙ ap (λ (t : OctetTable). octet_table_of t.width (replicate c.args.height (replicate size 0)) t.rows) c.in_ok-new.ensures
    ∙ ap (λ (rows : List (List ℕ)). record { width = c.args.width; rows = rows }) (zero_rows c.args.width c.args.height size (replicate c.args.height []) refl)
