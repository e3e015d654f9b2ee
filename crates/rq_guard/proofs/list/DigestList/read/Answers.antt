use Rattle.std.proofs.Common.{List, ℕ, ◌≡◌, ◌/◌, Some, map, length, sym, ap, ◌∙◌}
use Rattle.std.specs.List.{range_with_len}
use Rattle.rq_standard.specs.TableRows.{greatest_size}
use Rattle.rq_guard.specs.Lists.{Listed, list_at}
use Rattle.rq_guard.proofs.ListBytes.{list_read, piece, rest_of}
use Rattle.rq_guard.proofs.UsableLists.{checked_list, usable_list}
use Rattle.rq_guard.proofs.list.DigestList.read.Goals as goal
use Rattle.rq_guard.proofs.list.DigestList.read.Goals.{In_ok-digests}

abbrev spelled : In_ok-digests → Listed
spelled c = record { head = c.in-Some.head; digests = c.in_ok-digests.digests.items }

read : (c : In_ok-digests) → Some (spelled c) ≡ list_at c.args.key.now (greatest_size c.args.table.now) c.args.bytes.now
read c =
    let bytes = c.args.bytes.now in
    list_read c.args.key.now (greatest_size c.args.table.now) bytes c.in-Some.head c.in-Some.ensures c.in_ok-digests.digests.items
    (sym c.is_listable.ensures.value ∙ c.if-not-is_listable.false)
    (c.in_ok-digests.ensures ∙ ap (λ (rest : List ℕ). map (piece rest) (range_with_len 0 (length rest / 16))) (rest_of bytes 52))

pub returns-clause-list : goal.returns-clause-list
returns-clause-list c = read (goal.at.returns-clause-list c).In_ok-digests

pub returns-clause-usable : goal.returns-clause-usable
returns-clause-usable c =
    let greatest = greatest_size c.args.table.now in
    let l = spelled (goal.at.returns-clause-usable c).In_ok-digests in
    usable_list greatest l (checked_list c.args.key.now greatest c.args.bytes.now l (read (goal.at.returns-clause-usable c).In_ok-digests))
    (c.is_listable.ensures.few c.if-not-is_listable.false)
