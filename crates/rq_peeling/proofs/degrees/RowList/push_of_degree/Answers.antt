-- What the check leaves to show of `degrees::RowList::push_of_degree`.
use Rattle.std.proofs.Common.{◌≡◌, ◌+◌, ◌==◌, ap, arith}
use Rattle.std.proofs.lemmas.Bool.{eq-eqb}
use mir.Val.{bool_byte}
use Rattle.rq_peeling.specs.RowDegrees.{ListedRows}
use Rattle.rq_peeling.proofs.DegreeLists.{last_there}
use Rattle.rq_peeling.proofs.degrees.RowList.push_of_degree.Goals as goal

pub returns-clause-there : goal.returns-clause-there
returns-clause-there c is =
    let s = c.self.inside in
    let room = ap (λ (l : ListedRows). l.room) c.self.view_is in
    let one : s.count + bool_byte (c.args.degree == c.args.wanted) ≡ s.count + 1 = ap (λ b. s.count + bool_byte b) (eq-eqb c.args.degree c.args.wanted is) in
    rw one (last_there s.count c.args.row s.rows.items (omega (arith, room, c.requires)))
