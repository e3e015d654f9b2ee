-- What a decoder of a block answers.
use Rattle.std.proofs.Common.{◌≡◌, ℕ, ◌*◌, ◌<◌, List, length, Option, Some, None, refl, sym, ap, ◌∙◌, subst, arith, inl, inr}
use Rattle.std.proofs.lemmas.Option.{same_Some}
use Rattle.std.specs.Prelude.{IfSome, IsSomeAnd, unwrap_or}
use Rattle.std.specs.Option.{ForSome}
use Rattle.rq_bytes.specs.SymbolSlab.{Slab, symbol_in}
use Rattle.rq_standard.specs.Cutting.{symbol_of_block}
use Rattle.rq_standard.specs.TableRows.{IsChecked}
use Rattle.rq_standard.specs.Equations.{tuple_sum, internal_id}
use Rattle.rq_standard.specs.ReceivedBlock.{ReceivedBlock, has_received, SolvesReceived, HasReceivedSolution, ReceivedDetermine, IsBlockWith, IsBlockAnswer}
use Rattle.rq_standard.specs.Received.{HasSourceSymbols}
use Rattle.rq_standard.proofs.Columns.{sum_symbol, tuple_sum-same}
use Rattle.rq_block.specs.Known.{IsReceivedSolution, rebuilt_symbol}
use Rattle.rq_block.specs.Payloads.{missing_count}
use Rattle.rq_block.proofs.ReceivedEquations.{internal_below, came_sum}
use Rattle.rq_block.proofs.MissingCounts.{missing_count-zero, missing_count-none}

-- a source symbol that was received is the sum of any column that solves what was received
came_source : (h : ReceivedBlock) (column : ℕ → List ℕ) (e : ℕ) (x : List ℕ) → SolvesReceived h column → e < h.source_symbols → h.received e ≡ Some x → x ≡ tuple_sum h.row column e
came_source h column e x z below is = came_sum (h.received e) x (tuple_sum h.row column (internal_id h.row h.source_symbols e)) is (z.received e) ∙ ap (tuple_sum h.row column) (internal_below h.row h.source_symbols e below)

-- ---- from all source symbols

-- nothing is missing
pub received_source : (h : ReceivedBlock) (missing : ℕ) → missing ≡ missing_count h.source_symbols (has_received h) → missing ≡ 0 → HasSourceSymbols h.source_symbols (has_received h)
received_source h missing counted none = record { each = missing_count-zero h.source_symbols (has_received h) (sym counted ∙ none) }

pub answer-all : (h : ReceivedBlock) (block : List ℕ) → HasSourceSymbols h.source_symbols (has_received h) → IsBlockWith h block → (ReceivedDetermine h → HasReceivedSolution h) → IsBlockAnswer h (Some block)
answer-all h block all is solved = record { some = λ _. inl all; none = λ _. refl; block = is; solved = λ _. solved }

-- ---- from the intermediate symbols

rebuilt_length : (o : Option (List ℕ)) (sum : List ℕ) (size : ℕ) → ForSome o (λ payload. length payload ≡ size) → length sum ≡ size → length (unwrap_or o sum) ≡ size
rebuilt_length None sum size sized long = long
rebuilt_length (Some x) sum size sized long = sized x refl

pub length-rebuilt : (h : ReceivedBlock) (slab : Slab) (e : ℕ) → IsChecked h.row → ((k : ℕ) → ForSome (h.received k) (λ payload. length payload ≡ h.configuration.symbol_size)) → IsReceivedSolution h slab → length (rebuilt_symbol h slab e) ≡ h.configuration.symbol_size
length-rebuilt h slab e checked sized s = rebuilt_length (h.received e) (tuple_sum h.row (symbol_in slab) e) h.configuration.symbol_size (sized e) (sum_symbol h.row h.configuration.symbol_size e (symbol_in slab) checked s.symbols).size_is

-- a symbol that is a rebuilt one has its size
pub rebuilt_sized : (o : Option (List ℕ)) (x : List ℕ) (size : ℕ) → o ≡ Some x → length x ≡ size → IsSomeAnd o (λ bytes. length bytes ≡ size)
rebuilt_sized o x size is long = subst (λ r. IsSomeAnd r (λ bytes. length bytes ≡ size)) (sym is) long

each_by : (o : Option (List ℕ)) (sum y : List ℕ) → unwrap_or o sum ≡ y → IfSome o (λ payload. payload ≡ y)
each_by None sum y is = tt
each_by (Some x) sum y is = is

solved_by : (o : Option (List ℕ)) (sum other : List ℕ) → ((x : List ℕ) → o ≡ Some x → x ≡ other) → sum ≡ other → unwrap_or o sum ≡ other
solved_by None sum other came same = same
solved_by (Some x) sum other came same = came x refl

pub rebuilt_block : (h : ReceivedBlock) (slab : Slab) (block : List ℕ) → IsChecked h.row → IsReceivedSolution h slab → length block ≡ h.source_symbols * h.configuration.symbol_size
    → ((e : ℕ) → e < h.source_symbols → Some (rebuilt_symbol h slab e) ≡ Some (symbol_of_block h.configuration h.source_symbols block e)) → IsBlockWith h block
rebuilt_block h slab block checked s long same =
    let cut : (e : ℕ) → e < h.source_symbols → rebuilt_symbol h slab e ≡ symbol_of_block h.configuration h.source_symbols block e =
    λ e below. same_Some (rebuilt_symbol h slab e) (symbol_of_block h.configuration h.source_symbols block e) (same e below) in
    record {
      long = long;
      each = λ e below. each_by (h.received e) (tuple_sum h.row (symbol_in slab) e) (symbol_of_block h.configuration h.source_symbols block e) (cut e below);
      solved = λ d column z e below. sym (cut e below)
          ∙ solved_by (h.received e) (tuple_sum h.row (symbol_in slab) e) (tuple_sum h.row column e) (λ x is. came_source h column e x z below is) (tuple_sum-same h.row e (symbol_in slab) column checked (λ k lt. sym (s.only column z k lt)));
    }

-- something is missing, and what was received determines nothing
pub answer-none : (h : ReceivedBlock) (missing : ℕ) → missing ≡ missing_count h.source_symbols (has_received h) → 0 < missing → (ReceivedDetermine h → ⊥) → IsBlockAnswer h None
answer-none h missing counted some undetermined = record {
  some = λ s. absurd (cc s);
  none = λ can. absurd (elim can [
    | inl all ↦ omega (arith, counted, missing_count-none h.source_symbols (has_received h) all.each)
    | inr d ↦ undetermined d
  ]);
  block = tt;
  solved = λ s. absurd (cc s);
}
