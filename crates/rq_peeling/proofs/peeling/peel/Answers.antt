-- What the check leaves to show of `peeling::peel`.
use Rattle.std.proofs.Common.{◌≤◌}
use Rattle.rq_peeling.specs.Chosen.{IsPeeledSo}
use Rattle.rq_matrix.specs.Orders.{IsOrderOf}
use Rattle.rq_peeling.proofs.PeelingLaws.{peeled_all}
use Rattle.rq_peeling.proofs.peeling.peel.Goals as goal

pub returns-clause-peeled : goal.returns-clause-peeled
returns-clause-peeled c =
    let s = c.args.system.now in
    let columns = c.choose_rows.new.self.columns in
    let so : IsPeeledSo s.ones c.in_ok-rows.rows.items columns = rw c.in_ok-peeler.ensures.system at c.in_ok-rows.ensures.peeled in
    let order : IsOrderOf s.width columns.order columns.places = rw (c.choose_rows.ensures.system, c.in_ok-peeler.ensures.system) at c.into_columns-order.ensures.columns in
    let few : columns.pivots ≤ s.width = rw (c.choose_rows.ensures.system, c.in_ok-peeler.ensures.system) at c.into_columns-order.ensures.few in
    rw (c.into_columns-order.ensures.order, c.into_columns-order.ensures.places) (peeled_all s.ones c.in_ok-rows.rows.items columns s.width so few order)
