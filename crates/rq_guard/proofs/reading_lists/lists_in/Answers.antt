use Rattle.rq_cells.specs.Found.{cells_in}
use Rattle.rq_guard.specs.ListReading.{list_source}
use Rattle.rq_guard.proofs.reading_lists.lists_in.Goals as goal

pub returns-clause-lists : goal.returns-clause-lists
returns-clause-lists g c =
    let w = c.in_ok-received.ensures.receives in
    record {
      past = w.past;
      read = w.read;
      all = w.all;
      are = c.in_ok-lists.ensures.lists (cells_in (list_source c.args.by.now.key.now c.args.stream.now) w.past) w.has;
    }
