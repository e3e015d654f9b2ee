-- What a block's decoder keeps of itself while nothing new is received.
use Rattle.std.proofs.Common.{◌≡◌, ℕ, ◌^◌, ◌<◌, ◌≤◌, true, All, List, Option, Vec, Global, length, sym, subst}
use Rattle.std.specs.Prelude.{is_some}
use Rattle.std.specs.Option.{ForSome}
use Rattle.rq_standard.specs.Configuration.{IsAligned}
use Rattle.rq_standard.specs.ReceivedBlock.{CanAnswer, IsContradictory}
use Rattle.rq_block.specs.Known.{IsHomogeneousOf}
use Rattle.rq_block.specs.Payloads.{payload_of, has_payload, missing_count}
use Rattle.rq_block.specs.declared.decoder.block.SourceBlockDecoder.{SourceBlockDecoder}
use Rattle.rq_block.specs.declared.decoder.last_outcome.LastOutcome.TheVariants.{Undetermined, Contradictory}
use Rattle.rq_block.specs.SourceBlockDecoder.{received_of}

-- its facts, with another column and these payloads in place of its own
abbrev Keeps : SourceBlockDecoder → Option (Vec ℕ Global) → (ℕ → Option (List ℕ)) → Type 0
Keeps d column f = record {
  sized : (e : ℕ) → ForSome (f e) (λ payload. length payload ≡ d.config.symbol_size);
  bytes : (e : ℕ) → ForSome (f e) (All (λ octet. octet < 256));
  positive : 0 < d.config.symbol_size;
  aligned : IsAligned d.config;
  fits : d.source_symbols ≤ d.row.numbers.extended_symbols;
  few : (e : ℕ) → is_some (f e) ≡ true → e < 2 ^ 24;
  counted : d.missing_symbols ≡ missing_count d.source_symbols (λ e. is_some (f e));
  waits : d.last_outcome ≡ Undetermined → ¬ CanAnswer (record (received_of d) { received = f });
  shown : ForSome column (IsHomogeneousOf d.row.numbers d.source_symbols (λ e. is_some (f e)));
  contradicted : d.last_outcome ≡ Contradictory → IsContradictory (record (received_of d) { received = f });
}

pub keeps_same : (d : SourceBlockDecoder) (column : Option (Vec ℕ Global)) → ForSome column (IsHomogeneousOf d.row.numbers d.source_symbols (has_payload d.received))
    → (f : ℕ → Option (List ℕ)) → ((e : ℕ) → f e ≡ payload_of d.received e) → Keeps d column f
keeps_same d column shown f same = subst (Keeps d column) (λ i e. sym (same e) i) (record {
  sized = d.sized;
  bytes = d.bytes;
  positive = d.positive;
  aligned = d.aligned;
  fits = d.fits;
  few = d.few;
  counted = d.counted;
  waits = d.waits;
  shown = shown;
  contradicted = d.contradicted;
})
