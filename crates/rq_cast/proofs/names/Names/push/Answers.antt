use Rattle.std.proofs.Common.{◌≡◌, length, arith, sym, subst}
use Rattle.std.specs.Prelude.{ℕ, List}
use Rattle.std.proofs.lemmas.List.{length_push}
use Rattle.std.proofs.lemmas.List.Elements.{All-push}
use Rattle.std.specs.List.{concat}
use Rattle.sha2.specs.Hashers.{Holds512}
use Rattle.rq_cast.proofs.PartNames.{concat_push}
use Rattle.rq_cast.proofs.names.Names.push.Goals as goal

pub returns-clause-names : goal.returns-clause-names
returns-clause-names c names are =
    let name = c.args.name.now in
    record {
      count = omega (arith, are.count, length_push names name);
      long = All-push (λ (n : List ℕ). length n ≡ 16) names name are.long (omega arith);
      stream = λ some. c.stream_behind-self.ensures names are;
      hashed = subst (Holds512 c.update.new.self) (sym (concat_push names name)) (c.update.ensures (concat names) are.hashed);
    }
