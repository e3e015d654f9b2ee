use Rattle.std.proofs.Common.{◌≡◌, sym, ap, ◌∙◌, take, drop, arith}
use Rattle.std.specs.Bool.{then_some}
use Rattle.std.specs.List.{starts_with}
use Rattle.std.specs.Prelude.{nat_eq}
use Rattle.std.specs.Io.{StartsWith}
use Rattle.rq_standard.specs.Configuration.{header_bytes}
use Rattle.rq_cells.specs.Cells.{mark, check_of, head_spelled}
use Rattle.rq_cells.proofs.Beginnings.{begins, refuted, differ, same_bytes_by}
use Rattle.rq_cells.proofs.HeadBytes.{none_in_short, none_without_mark, none_without_header, head_by_check}
use Rattle.rq_cells.proofs.head.Head.read.Goals as goal
use Rattle.rq_cells.proofs.head.Head.read.Goals.{then-bytes-lt-HEAD_LENGTH-via-then-bytes-lt-HEAD_LENGTH, then-bytes-lt-HEAD_LENGTH-via-else-bytes-lt-HEAD_LENGTH+then-not-starts_with}

pub returns-then-bytes-lt-HEAD_LENGTH : goal.returns-then-bytes-lt-HEAD_LENGTH
returns-then-bytes-lt-HEAD_LENGTH c =
    let key = c.args.key.now in
    let bytes = c.args.bytes.now in
    elim c.then-bytes-lt-HEAD_LENGTH.branch [
      | then-bytes-lt-HEAD_LENGTH-via-then-bytes-lt-HEAD_LENGTH w ↦ sym (none_in_short key bytes w.if-bytes-lt-HEAD_LENGTH.true)
      | then-bytes-lt-HEAD_LENGTH-via-else-bytes-lt-HEAD_LENGTH+then-not-starts_with w ↦
          sym (none_without_mark key bytes w.if-bytes-lt-HEAD_LENGTH.false (refuted bytes mark (sym w.starts_with.ensures.value ∙ w.if-not-starts_with.true)))
    ]

pub returns-then-ne : goal.returns-then-ne
returns-then-ne c =
    let bytes = c.args.bytes.now in
    let header : c.serialize.result ≡ header_bytes (head_spelled bytes).configuration =
    c.serialize.ensures.value ∙ ap (λ h. header_bytes h.configuration) c.spelled-head.ensures in
    sym (none_without_header c.args.key.now bytes c.if-bytes-lt-HEAD_LENGTH.false
    (λ is. differ c.serialize.result c.part.result (sym c.ne.ensures ∙ c.if-ne.true) (header ∙ is ∙ sym c.part.ensures)))

pub returns : goal.returns
returns c =
    let key = c.args.key.now in
    let bytes = c.args.bytes.now in
    let header : header_bytes (head_spelled bytes).configuration ≡ take 12 (drop 32 bytes) =
    sym (c.serialize.ensures.value ∙ ap (λ h. header_bytes h.configuration) c.spelled-head.ensures)
    ∙ same_bytes_by c.serialize.result c.part.result (sym c.ne.ensures ∙ c.if-ne.false) ∙ c.part.ensures in
    let marked : StartsWith bytes mark = begins bytes mark (sym c.starts_with.ensures.value ∙ c.if-not-starts_with.false) in
    let test : c.starts_with-2.result ≡ starts_with nat_eq (drop 44 bytes) (check_of key (take 44 bytes)) =
    c.starts_with-2.ensures.value
    ∙ (λ i. starts_with nat_eq (c.split_at.ensures.back i) ((c.check.ensures ∙ ap (check_of key) c.split_at.ensures.front) i)) in
    c.then_some.ensures
    ∙ (λ i. then_some (test i) (c.spelled-head.ensures i))
    ∙ head_by_check key bytes c.if-bytes-lt-HEAD_LENGTH.false (λ i within. let fits = c.type_inv.bytes i in omega (arith, fits)) marked header
