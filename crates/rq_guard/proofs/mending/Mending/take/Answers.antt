use Rattle.rq_guard.proofs.mending.Mending.take.Goals as goal

pub returns-clause-takes : goal.returns-clause-takes
returns-clause-takes c = λ stream came given has. record {
  taken = c.take_ready.ensures.hands c.args.table.now stream 1 _ given (c.in_ok-take_all.ensures.takes stream 1 came given has.taken);
  none_left = c.take_ready.ensures.none;
}

pub returns-clause-sound : goal.returns-clause-sound
returns-clause-sound c = c.take_ready.ensures.sound c.args.table.now c.in_ok-take_all.ensures.sound
