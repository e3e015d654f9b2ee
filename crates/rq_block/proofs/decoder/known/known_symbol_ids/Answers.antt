use Rattle.std.proofs.Common.{◌≡◌, ◌∷◌, ◌++◌, ◌^◌, length, map, subst, arith, ap, sym, ◌∙◌, append-nil}
use Rattle.std.specs.Map.Iter.{deref}
use Rattle.rq_standard.specs.Headline.{known_ids}
use Rattle.rq_standard.specs.IdLists.{IsListOf}
use Rattle.rq_block.specs.Known.{known_list}
use Rattle.rq_block.specs.Payloads.{has_payload}
use Rattle.rq_block.proofs.ReceivedEquations.{known_listed}
use Rattle.rq_block.proofs.Listing.{length-known_list, few_entries}
use Rattle.rq_block.proofs.ReceivedEntries.{next_has_payload, known_by_keys}
use Rattle.rq_block.proofs.decoder.known.known_symbol_ids.Goals as goal

module _ (c : goal.In-None) where
  all_ids : c.loop-esi.ids.items ≡ known_list c.args.row.now.numbers c.args.source_symbols c.args.received.now.entries
  all_ids =
      let whole = ap (λ r. map deref c.loop-esi.yielded ++ r) (sym c.in-None.ensures.steps.0) ∙ c.loop-esi.invariant.whole in
      c.loop-esi.invariant.ids ∙ known_by_keys c.args.row.now.numbers c.args.source_symbols c.args.received.now (map deref c.loop-esi.yielded) (sym (append-nil (map deref c.loop-esi.yielded)) ∙ whole)

pub internal_symbol_id-requires-clause-esi : goal.internal_symbol_id-requires-clause-esi
internal_symbol_id-requires-clause-esi c =
    let next : c.loop-esi.esi-iterator ≡ c.in-Some.esi.now ∷ c.next.new.self = c.in-Some.ensures.steps in
    c.requires.few c.in-Some.esi.now (next_has_payload c.args.received.now (map deref c.loop-esi.yielded) c.next.new.self c.in-Some.esi.now c.keys-esi-items.ensures.found (ap (λ r. map deref c.loop-esi.yielded ++ r) (sym next) ∙ c.loop-esi.invariant.whole))

pub returns-clause-ids : goal.returns-clause-ids
returns-clause-ids c = all_ids c

pub returns-clause-listed : goal.returns-clause-listed
returns-clause-listed c = subst (IsListOf (known_ids c.args.row.now.numbers c.args.source_symbols (has_payload c.args.received.now))) (sym (all_ids c)) (known_listed c.args.row.now.numbers c.args.source_symbols 0 c.args.received.now c.requires.fits c.len.ensures.ordered)

pub returns-clause-few : goal.returns-clause-few
returns-clause-few c = omega (arith, ap length (all_ids c), length-known_list c.args.row.now.numbers c.args.source_symbols c.args.received.now.entries, few_entries c.args.received.now (2 ^ 24) c.len.ensures.ordered c.requires.few, c.args.row.now.checked.few_columns)
