use Rattle.std.proofs.Common.{◌≡◌, ◌<◌, ℕ, List, length, take, get_or, inl, inr, sym, ap, subst, ◌∙◌}
use Rattle.std.proofs.KnownBytes.{Keeps-refl}
use Rattle.std.proofs.lemmas.List.{get_or_read}
use Rattle.std.proofs.lemmas.Result.{err_from_is_err_and}
use Rattle.rq_streams.specs.Counted.{inner}
use Rattle.rq_guard.specs.declared.list.DigestList.{DigestList}
use Rattle.rq_guard.specs.Lists.{listed_of}
use Rattle.rq_guard.specs.Mending.{mended_parts}
use Rattle.rq_guard.specs.Reading.{names_listed, MendsPart}
use Rattle.rq_guard.proofs.mending_part.repair_part.Goals as goal

pub returns-in_err-bytes-clause-stopped : goal.returns-in_err-bytes-clause-stopped
returns-in_err-bytes-clause-stopped g c =
    let p = err_from_is_err_and c.from_residual.result c.from_residual.ensures.1 in
    rw p.1 (inl (Keeps-refl (g.W.Write.contents (inner c.args.writer.now))))

pub returns-in_err-write_bytes-clause-stopped : goal.returns-in_err-write_bytes-clause-stopped
returns-in_err-write_bytes-clause-stopped g c =
    let p = err_from_is_err_and c.from_residual-in_err-write_bytes.result c.from_residual-in_err-write_bytes.ensures.1 in
    let begun = c.in_err-write_bytes.ensures.beginning in
    let by = c.args.by.now in
    let lists : List DigestList = c.args.lists.now in
    let next = c.mended_parts-next.result in
    let l : DigestList = c.index-lists-next.result in
    let below : next < length lists = subst (λ n. n < length lists) (sym c.mended_parts-next.ensures) c.requires.next in
    let listed : (d : DigestList) → l ≡ get_or lists (mended_parts c.args.mending.now) d =
    λ d. get_or_read lists next l below c.index-lists-next.is d ∙ ap (λ n. get_or lists n d) c.mended_parts-next.ensures in
    rw p.1 (inr (
      c.as_slice.result.now,
      begun.0,
      λ d. subst (λ (k : ℕ × DigestList × List ℕ). MendsPart by.table.now by.key.now (names_listed (take k.0 lists)) (listed_of k.1)
          (g.F.Read.remaining (inner c.args.file.now)) (g.F.Read.remaining (inner c.mend_part.new.file)) (g.G.Read.remaining (inner c.args.guard.now))
          (g.G.Read.remaining (inner c.mend_part.new.guard)) c.args.mending.now k.2 c.mend_part.new.mending)
          (λ i. (c.mended_parts-next.ensures i, listed d i, sym c.as_slice.ensures.value i)) c.in_ok-bytes.ensures.mends,
      begun.1,
    ))
