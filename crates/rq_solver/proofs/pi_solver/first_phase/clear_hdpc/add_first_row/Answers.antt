-- What the check leaves to show of `pi_solver::first_phase::clear_hdpc::add_first_row`.
use Rattle.std.proofs.Common.{◌≡◌, ◌≢◌, ℕ, ◌<◌, ◌≤◌, ◌+◌, length, lit<, refl, sym, ◌∙◌, subst, arith, inl, inr}
use Rattle.std.proofs.lemmas.Bool.{cases_eq, cases_lt}
use Rattle.rq_algebra.specs.Steps.{AddsRow, ScalesRow}
use Rattle.rq_algebra.proofs.Sums.{inverse_nonzero}
use Rattle.rq_standard.specs.OctetField.{octets}
use Rattle.rq_parts.specs.DenseOctetMatrix.{HasOctets}
use Rattle.rq_elimination.specs.HdpcRows.{octet_in}
use Rattle.rq_elimination.proofs.ChangedEntries.{one-div}
use Rattle.rq_solver.proofs.OctetSums.{quotient_times, plus_quotient_times}
use Rattle.rq_elimination.proofs.HdpcFactors.{elements_beside, adds_beside, scales_beside}
use Rattle.rq_solver.proofs.OctetColumns.{from_elements, from_adds, from_scales}
use Rattle.rq_solver.proofs.HdpcClearing.{combines_none, combines_more, combines_sum, combines_scaling}
use Rattle.rq_solver.proofs.pi_solver.first_phase.clear_hdpc.add_first_row.Goals as goal

pub returns-then-byte-eq0-clause-added : goal.returns-then-byte-eq0-clause-added
returns-then-byte-eq0-clause-added c = combines_none

pub loop-row-init : goal.loop-row-init
loop-row-init c = record {
  within = omega arith;
  few = omega arith;
  table = refl;
  lead = sym c.get-lead.ensures;
  cleared = λ i some l. absurd (omega (arith, some, l));
  lanes = c.read_column.ensures.lanes ∙ c.requires.lanes;
  in_column = c.read_column.ensures.in_column;
  count = c.read_column.ensures.count;
  whole = c.read_column.ensures.whole;
  rest = c.nonzero_after_first-rest.ensures;
  combined = combines_none;
}

pub loop-row-preserved : goal.loop-row-preserved
loop-row-preserved c =
    let start = c.args.hdpc_rows.now in
    let was = c.loop-row.hdpc_rows in
    let from = c.loop-row.last + 1 in
    let row = c.in-Some.row in
    let column = c.args.column in
    let first = c.args.first_hdpc in
    let lead = c.get-lead.result in
    let v = c.loop-row.invariant in
    let count = length start.table.rows in
    let width = start.table.width in
    let same : was.table ≡ start.table = v.table in
    let next = c.in-Some.ensures.next in
    let behind : from ≤ row = next.0.0 in
    let in_was : row < length was.table.rows = rw c.height.ensures.height at next.0.1 in
    let in_rows : row < count = rw same at in_was in
    let read : c.in-Some.octet ≡ octet_in was row column = next.1 ∙ v.in_column row behind in_was in
    let in_width : column < width = c.requires.in_width in
    let elements : HasOctets start.table = rw same at c.height.ensures.octets in
    let now = c.add_first.new.self in
    let scalar = c.div-scalar.result in
    let added : AddsRow octets count width row 0 scalar (octet_in was) (octet_in now) = subst (λ (x : ℕ). AddsRow octets count width row 0 x (octet_in was) (octet_in now)) c.byte-factor.ensures (adds_beside start was same now row 0 c.byte-factor.result c.add_first.ensures.sum) in
    let small : lead < 256 = rw c.byte.ensures at c.byte.type_inv in
    let nonzero : lead ≢ 0 = (λ e. c.if-byte-eq0.false (c.byte.ensures ∙ e)) in
    let is_octet : octet_in was row column < 256 = elements_beside start was same elements row column in_rows in_width in
    let zero : octet_in now row column ≡ 0 = added.at_dest column in_width ∙ rw (v.lead, c.div-scalar.ensures, read) (plus_quotient_times (octet_in was row column) lead is_octet small nonzero) in
    let before : (i : ℕ) → 0 < i → i < row → octet_in was i column ≡ 0 = (λ (i : ℕ) (some : 0 < i) (l : i < row). elim (cases_lt i from) [
      | inl below ↦ v.cleared i some (omega arith)
      | inr from_on ↦ sym (v.in_column i from_on (omega (arith, l, in_was))) ∙ next.0.3 i from_on l
    ]) in
    record {
      within = in_rows;
      few = (let more = c.in_ok-add_multiple.ensures.counted in let so_far = v.few in omega (arith, more, so_far, behind));
      table = c.add_first.ensures.table ∙ same;
      lead = added.elsewhere 0 column (omega (arith, in_rows)) in_width (λ e. omega (arith, e, behind)) ∙ v.lead;
      cleared = λ i some l. elim (cases_eq i row) [ inl e ↦ rw e zero | inr d ↦ added.elsewhere i column (omega (arith, l, in_rows)) in_width d ∙ before i some (omega (arith, l, d)) ];
      lanes = v.lanes ∙ sym c.add_first.ensures.lanes;
      in_column = λ i after l. let in_old : i < length was.table.rows = rw c.add_first.ensures.table at l in
          v.in_column i (omega (arith, behind, after)) in_old ∙ sym (added.elsewhere i column (rw same at in_old) in_width (λ e. omega (arith, e, after)));
      count = v.count;
      whole = v.whole;
      rest = c.in-Some.ensures.rest;
      combined = combines_more v.combined
          (combines_sum (from_elements column _ count width (elements_beside start was same elements)) row (first + row) scalar in_rows refl 0 first
          (omega (arith, in_rows)) (omega arith) (from_adds column count width row scalar _ (octet_in now) 0 added) c.in_ok-add_multiple.ensures.added);
    }

pub multiply_row-requires-clause-nonzero : goal.multiply_row-requires-clause-nonzero
multiply_row-requires-clause-nonzero c =
    let lead = c.get-lead.result in
    let small : lead < 256 = rw c.byte.ensures at c.byte.type_inv in
    let nonzero : lead ≢ 0 = (λ e. c.if-byte-eq0.false (c.byte.ensures ∙ e)) in
    rw (c.div-scalar-then-byte-ne1.ensures, c.one.ensures, one-div lead small nonzero) (inverse_nonzero octets lead small nonzero)

pub returns-in_ok-multiply_row-clause-alone : goal.returns-in_ok-multiply_row-clause-alone
returns-in_ok-multiply_row-clause-alone c = λ some.
    let start = c.args.hdpc_rows.now in
    let was = c.loop-row.hdpc_rows in
    let column = c.args.column in
    let lead = c.get-lead.result in
    let v = c.loop-row.invariant in
    let same : was.table ≡ start.table = v.table in
    let now = c.multiply_first.new.self in
    let scaled = subst (λ (x : ℕ). ScalesRow octets (length start.table.rows) start.table.width 0 x (octet_in was) (octet_in now)) c.byte-factor-then-byte-ne1.ensures (scales_beside start was same now 0 c.byte-factor-then-byte-ne1.result c.multiply_first.ensures.multiple) in
    let small : lead < 256 = rw c.byte.ensures at c.byte.type_inv in
    let nonzero : lead ≢ 0 = (λ e. c.if-byte-eq0.false (c.byte.ensures ∙ e)) in
    record {
      one = scaled.at_dest column c.requires.in_width ∙ rw (v.lead, c.div-scalar-then-byte-ne1.ensures, c.one.ensures) (quotient_times 1 lead (lit< tt) small nonzero);
      zeros = λ i first l.
          let in_rows : i < length start.table.rows = rw (c.multiply_first.ensures.table ∙ same) at l in
          scaled.elsewhere i column in_rows c.requires.in_width (λ e. omega (arith, e, first)) ∙ (elim (cases_lt i (c.loop-row.last + 1)) [ inl below ↦ v.cleared i first (omega arith) | inr from_on ↦ let in_was : i < length was.table.rows = rw same in_rows in sym (v.in_column i from_on in_was) ∙ c.in_default.ensures.next i from_on (rw c.height.ensures.height in_was) ]);
    }

pub returns-in_ok-multiply_row-clause-added : goal.returns-in_ok-multiply_row-clause-added
returns-in_ok-multiply_row-clause-added c =
    let start = c.args.hdpc_rows.now in
    let was = c.loop-row.hdpc_rows in
    let now = c.multiply_first.new.self in
    let column = c.args.column in
    let first = c.args.first_hdpc in
    let scalar = c.div-scalar-then-byte-ne1.result in
    let count = length start.table.rows in
    let width = start.table.width in
    let v = c.loop-row.invariant in
    let scaled = subst (λ (x : ℕ). ScalesRow octets count width 0 x (octet_in was) (octet_in now)) c.byte-factor-then-byte-ne1.ensures
    (scales_beside start was v.table now 0 c.byte-factor-then-byte-ne1.result c.multiply_first.ensures.multiple) in
    combines_more v.combined
    (combines_scaling (from_elements column _ count width (elements_beside start was v.table (rw v.table at c.height.ensures.octets))) 0 first scalar
    (omega arith) (omega arith) (from_scales column count width 0 scalar (octet_in was) (octet_in now) scaled) c.in_ok-multiply_row.ensures.multiplied)

pub returns-else-byte-ne1-clause-alone : goal.returns-else-byte-ne1-clause-alone
returns-else-byte-ne1-clause-alone c = λ some.
    let v = c.loop-row.invariant in
    record {
      one = v.lead ∙ sym c.byte-2.ensures ∙ c.if-byte-ne1.false;
      zeros = λ i first l. elim (cases_lt i (c.loop-row.last + 1)) [ inl below ↦ v.cleared i first (omega arith) | inr from_on ↦ sym (v.in_column i from_on l) ∙ c.in_default.ensures.next i from_on (rw c.height.ensures.height l) ];
    }
