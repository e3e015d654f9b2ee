use Rattle.std.proofs.Common.{◌≡◌, ℕ, List, [], ◌∷◌, get_or, ap, ◌∙◌, sym}
use Rattle.std.specs.Int.{w16, w64, to_be_bytes}
use Rattle.rq_standard.specs.Configuration.{Configuration, configuration_of_bytes, header_bytes}
use Rattle.rq_standard.proofs.HeaderBytes.{configuration_of_bytes-header_bytes}
use Rattle.rq_base.specs.ObjectTransmissionInformation.{information_view}
use Rattle.rq_base.proofs.base.information.ObjectTransmissionInformation.serialize.Goals as goal

-- the header of its numbers' bytes
abbrev twelve : Configuration → List ℕ → List ℕ → List ℕ → List ℕ
twelve k f t n = get_or f 3 0 ∷ get_or f 4 0 ∷ get_or f 5 0 ∷ get_or f 6 0 ∷ get_or f 7 0 ∷ 0 ∷ get_or t 0 0 ∷ get_or t 1 0 ∷ k.source_blocks ∷ get_or n 0 0 ∷ get_or n 1 0 ∷ k.alignment ∷ []

header_of : (k : Configuration) (f t n : List ℕ) → f ≡ to_be_bytes w64 k.transfer_length → t ≡ to_be_bytes w16 k.symbol_size → n ≡ to_be_bytes w16 k.sub_blocks → twelve k f t n ≡ header_bytes k
unfolding header_bytes
header_of k f t n a b d = λ i. twelve k (a i) (b i) (d i)

pub returns-clause-value : goal.returns-clause-value
returns-clause-value c =
    header_of (information_view c.self.inside) c.to_be_bytes-length.result c.to_be_bytes-size.result c.to_be_bytes-sub_blocks.result c.to_be_bytes-length.ensures c.to_be_bytes-size.ensures c.to_be_bytes-sub_blocks.ensures
    ∙ ap header_bytes c.self.view_is

pub returns-clause-read : goal.returns-clause-read
returns-clause-read c = ap configuration_of_bytes (returns-clause-value c) ∙ ap (λ k. configuration_of_bytes (header_bytes k)) (sym c.self.view_is) ∙ configuration_of_bytes-header_bytes (information_view c.self.inside) c.self.invariant ∙ c.self.view_is
