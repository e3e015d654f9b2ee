use Rattle.std.proofs.Common.{arith}
use Rattle.rq_shards.proofs.dealing.Dealer.share.Goals as goal

pub returns : goal.returns
returns g c = λ key cell is.
    let share = c.share_of.ensures.share key cell is in grind (arith, share, c.from-2.ensures, c.len-count.ensures, c.args.self.now.shards.ok.0)
