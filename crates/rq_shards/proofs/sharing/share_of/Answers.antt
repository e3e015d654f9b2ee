use Rattle.std.proofs.Common.{rules, ◌≡◌, ◌%◌, ℕ, take, drop, sym, ap, ap₂, ◌∙◌}
use Rattle.rq_standard.specs.Packet.{SymbolId, id_of_bytes}
use Rattle.rq_shards.proofs.CellIds.{id_at}
use Rattle.rq_shards.proofs.sharing.share_of.Goals as goal

pub returns-clause-share : goal.returns-clause-share
returns-clause-share c = λ key cell is.
    let there : c.copy_from_slice.new.self ≡ take 4 (drop 52 c.args.cell.now) = search rules in
    let id : c.deserialize-id.result ≡ cell.packet.id = c.deserialize-id.ensures.value ∙ ap id_of_bytes there ∙ sym (id_at key c.args.cell.now cell is) in
    let esi : c.encoding_symbol_id.result ≡ cell.packet.id.esi = c.encoding_symbol_id.ensures.value ∙ ap (λ (i : SymbolId). i.esi) id in
    ap₂ (λ (e n : ℕ). e % n) esi c.from.ensures
