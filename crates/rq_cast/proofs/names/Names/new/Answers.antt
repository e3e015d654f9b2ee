use Rattle.std.proofs.Common.{◌≡◌, length, refl}
use Rattle.std.proofs.lemmas.List.Elements.{All-nil}
use Rattle.rq_cast.proofs.names.Names.new.Goals as goal

pub returns : goal.returns
returns c = record {
  count = refl;
  long = All-nil (λ name. length name ≡ 16);
  stream = λ some. absurd (some refl);
  hashed = c.new.ensures;
}
