use Rattle.std.proofs.Common.{refl, ap, ◌∙◌, Vec, Global}
use Rattle.std.specs.Prelude.{ℕ}
use Rattle.rq_cast.proofs.WindowSteps.{handed_out}
use Rattle.rq_cast.proofs.window.Window.take_ready.Goals as goal

pub returns-clause-hands : goal.returns-clause-hands
returns-clause-hands c = λ table stream width came given has.
    let items = λ (v : Vec ℕ Global). v.items in
    handed_out table stream width came given c.replace.result.items c.args.self.now _ refl refl refl refl refl refl
    (ap items c.replace.ensures.after ∙ c.new.ensures.items) (ap items c.replace.ensures.value) has
