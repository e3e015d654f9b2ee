use Rattle.std.proofs.Common.{◌≡◌, refl, arith, rules}
use Rattle.rq_cells.specs.Found.{source_of}
use Rattle.rq_cast.proofs.Receiving.{read_none}
use Rattle.rq_cast.proofs.stream_receiver.StreamReceiver.empty.Goals as goal

pub returns-clause-read : goal.returns-clause-read
returns-clause-read c = λ table.
    let scanner : c.new.result ≡ source_of c.args.key.now c.args.found.head = search rules in
    read_none table c.args.key.now c.args.width c.args.found _ scanner refl (c.in_ok-new.ensures.taken table c.args.found.head.stream) refl
    (omega arith) (omega arith) (omega arith)
