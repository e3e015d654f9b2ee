-- Where no test of the parameters refuses.
use Rattle.std.proofs.Common.{◌≡◌, ℕ, ◌≤◌, List, Ok, refl}
use Rattle.std.proofs.lemmas.Bool.{ne_eqb, le-ltb}
use Rattle.rq_standard.specs.declared.row.TableRow.{TableRow}
use Rattle.rq_standard.specs.Parameters.{fitting_block, most_sub_blocks, blocks_for, parameters_for}
use Rattle.rq_base.specs.Defaults.{wanted_parameters}
use Rattle.rq_base.specs.RefusedInput.{greatest_transfer_length}

pub not_refused : (rows : List TableRow) (length s memory : ℕ) → (s ≡ 0 → ⊥) → (length ≡ 0 → ⊥) → length ≤ greatest_transfer_length → (fitting_block rows s memory (most_sub_blocks s) ≡ 0 → ⊥) → blocks_for rows length s memory ≤ 255 →
    wanted_parameters rows length s memory ≡ Ok (parameters_for rows length s memory)
not_refused rows length s memory size some short fits few =
    rw (ne_eqb s 0 size, ne_eqb length 0 some, le-ltb greatest_transfer_length length short, ne_eqb (fitting_block rows s memory (most_sub_blocks s)) 0 fits, le-ltb 255 (blocks_for rows length s memory) few) refl
