-- What the check leaves to show of `entries::own_octets::OwnOctets::new`.
use Rattle.rq_elimination.proofs.OwnRows.{none_placed, none_seen}
use Rattle.rq_elimination.proofs.entries.own_octets.OwnOctets.new.Goals as goal

pub invariant_of-result : goal.invariant_of-result
invariant_of-result c = none_placed c.args.width c.args.height _ _ c.from_bytes.ensures (c.in_ok-vec.ensures.items_if_clones_equal (λ y same. same)) c.requires.whole c.requires.narrow c.requires.few

pub returns : goal.returns
returns c = none_seen c.args.width c.args.height _ _ c.from_bytes.ensures (c.in_ok-vec.ensures.items_if_clones_equal (λ y same. same))
