use Rattle.std.proofs.Common.{subst, arith}
use Rattle.rq_cells.specs.Scans.{Settles}
use Rattle.rq_cast.proofs.Receiving.{reads_all}
use Rattle.rq_cast.proofs.stream_receiver.StreamReceiver.take_cells.Goals as goal

pub returns-clause-reads : goal.returns-clause-reads
returns-clause-reads c = λ key width found all given has.
    let old = c.args.self.now in
    let settles : Settles old.scanner old.bytes.items c.in_ok-scan.scan =
    subst (λ xs. Settles old.scanner xs c.in_ok-scan.scan) c.as_slice.ensures.value c.in_ok-scan.ensures.scan in
    reads_all c.args.table.now key width found all given old _ has c.in_ok-scan.scan settles c.in_ok-scan.ensures.same c.remove_front.ensures
    c.in_ok-take_all.ensures.takes (record {
      cells = omega (arith, c.saturating_add-self.ensures, c.with-self.ensures.cells);
      damaged = c.with-self.ensures.damaged;
      others = c.with-self.ensures.others;
    })
