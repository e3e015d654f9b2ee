use Rattle.std.proofs.Common.{◌≡◌, ◌↔◌, ◌≤◌, ℕ, ◌∙◌, Option, Some, None, IsSome, IsOk, refl, ap}
use Rattle.std.specs.Option.{ok_or}
use Rattle.rq_bytes.specs.declared.error.Error.TheVariants.{TooManySymbols}
use Rattle.rq_standard.specs.TableRows.{extended_size}
use Rattle.rq_standard.proofs.RowLaws.{extended_size_found}
use Rattle.rq_tables.specs.SystematicTable.{size_or_refusal}
use Rattle.rq_tables.proofs.systematic_constants.extended_source_block_symbols.Goals as goal

refused_past : (size : Option ℕ) → ok_or size TooManySymbols ≡ size_or_refusal size
refused_past None = refl
refused_past (Some k) = refl

answers_found : (size : Option ℕ) (P : Type 0) → IsSome size ↔ P → IsOk (size_or_refusal size) ↔ P
answers_found None P h = (λ ok. absurd (cc), λ p. let none = h.1 p in absurd (cc))
answers_found (Some k) P h = (λ ok. h.0 refl, λ p. refl)

pub returns-clause-size : goal.returns-clause-size
unfolding extended_size
returns-clause-size c = c.ok_or.ensures.value ∙ refused_past c.first_size.result ∙ ap size_or_refusal c.first_size.ensures

pub returns-clause-limit : goal.returns-clause-limit
returns-clause-limit c = rw (returns-clause-size c) (answers_found (extended_size c.args.source_symbols) (c.args.source_symbols ≤ 56403) (extended_size_found c.args.source_symbols))
