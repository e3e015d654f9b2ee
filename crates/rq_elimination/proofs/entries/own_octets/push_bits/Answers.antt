-- What the check leaves to show of `entries::own_octets::push_bits`.
use Rattle.std.proofs.Common.{◌≡◌, ap, ◌∙◌}
use Rattle.std.specs.Prelude.{◌++◌, ◌∷◌, [], replicate}
use Rattle.rq_bytes.specs.SymbolSlab.{Slab}
use Rattle.rq_elimination.proofs.OwnRows.{appended}
use Rattle.rq_elimination.proofs.entries.own_octets.push_bits.Goals as goal
use Rattle.rq_elimination.proofs.entries.own_octets.push_bits.Goals.{then-place-eq0+in_ok-reserve, else-place-eq0}

pub returns-clause-ok : goal.returns-clause-ok
returns-clause-ok c =
    let old = c.args.rows.now in
    let kept : ◌≡◌ {A = Slab} c.if-place-eq0.rows old =
    elim c.if-place-eq0.branch [
      | then-place-eq0+in_ok-reserve w ↦ w.rows-is ∙ w.reserve.ensures
      | else-place-eq0 w ↦ w.rows-is
    ]
    in
    let zeros = c.in_ok-push_zeros.ensures.ok ∙ ap (λ (s : Slab). record s { values = s.values ++ replicate s.symbol_size 0 ∷ [] }) kept in
    let ws = c.add_bit_multiples.new.octets in
    let long = c.add_bit_multiples.auto.octets ∙ c.get_mut.ensures.len in
    c.get_mut.ensures.whole_symbol ws long
    ∙ appended old c.push_zeros.new.self c.args.bits.now ws c.get_mut.result.now c.len-place.result c.requires.no_order c.len-place.ensures.count zeros c.get_mut.ensures.symbol c.add_bit_multiples.ensures
