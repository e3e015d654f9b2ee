use Rattle.std.proofs.Common.{◌≡◌, ℕ, None, refl}
use Rattle.rq_block.specs.Payloads.{payload_of}
use Rattle.rq_block.proofs.Payloads.{payload_of-cloned}
use Rattle.rq_block.proofs.Keeping.{keeps_same}
use Rattle.rq_block.proofs.Waiting.{shown-none}
use Rattle.rq_block.proofs.decoder.block.SourceBlockDecoderClone.clone.Goals as goal
use Rattle.rq_block.proofs.decoder.block.SourceBlockDecoderClone.clone.Goals.{In_ok-clone}

module _ (c : In_ok-clone) where
  same : (e : ℕ) → payload_of c.in_ok-clone.field-0 e ≡ payload_of c.args.self.now.received e
  same = payload_of-cloned c.args.self.now.received c.in_ok-clone.field-0 c.in_ok-clone.ensures.cases

pub invariant_of-result : goal.invariant_of-result
invariant_of-result c =
    let d = c.args.self.now in
    let same = same (goal.at.invariant_of-result c).In_ok-clone in
    keeps_same d None (shown-none d.row.numbers d.source_symbols _) (payload_of c.in_ok-clone.field-0) same

pub returns : goal.returns
returns c =
    let d = c.args.self.now in
    let same = same (goal.at.returns c).In_ok-clone in
    record { cases = (λ i. record { configuration = d.config; number = d.number; row = d.row.numbers; source_symbols = d.source_symbols; received = λ e. same e i }, refl) }
