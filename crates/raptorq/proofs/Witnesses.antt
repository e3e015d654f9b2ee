-- The bytes of an object that isn't answered: what each block makes of them.
use Rattle.std.proofs.Common.{◌≡◌, ℕ, suc, ◌+◌, ◌<◌, ◌≤◌, cond, eqb, Bool, true, false, List, [], ◌++◌, length, take, map, All, Option, Some, None, refl, sym, ap, ◌∙◌, subst, arith, inl, inr}
use Rattle.std.specs.Prelude.{IsSome, is_some, is_none, unwrap_or, MatchBool, ◌&&◌}
use Rattle.std.specs.List.{range_with_len}
use Rattle.std.proofs.lemmas.Bool.{cases_lt, eq-eqb, ne_eqb}
use Rattle.rq_algebra.specs.Systems.{at, IsColumn}
use Rattle.rq_standard.specs.OctetField.{octets}
use Rattle.rq_standard.specs.TableRows.{IsChecked, intermediate_symbols}
use Rattle.rq_standard.specs.Configuration.{Configuration, IsAligned}
use Rattle.rq_standard.specs.Cutting.{block_symbols}
use Rattle.rq_standard.specs.Headline.{SolvesZeros, known_ids}
use Rattle.rq_standard.specs.Differences.{AreUnansweredDetermined, IsDifference, first_octets_block, plain_sum}
use Rattle.rq_standard.specs.ReceivedBlock.{ReceivedBlock, has_received, ReceivedDetermine}
use Rattle.rq_standard.proofs.BlockCuts.{pieces, pieces_same}
use Rattle.rq_standard.proofs.DifferenceColumns.{zeros_solve, zeros_are_octets}
use Rattle.rq_standard.proofs.OtherObjects.{is_difference}
use Rattle.rq_standard.proofs.StandingSteps.{HasRow}
use Rattle.rq_block.specs.SourceBlockDecoder.{received_of}
use Rattle.raptorq.specs.Decoder.{received_at, answer_at}
use Rattle.raptorq.specs.Unanswered.{ShowsUnanswered}
use Rattle.rq_block.specs.Difference.{octets_of_column}
use Rattle.raptorq.specs.declared.decoder.block.ObjectBlock.{ObjectBlock}
use Rattle.rq_block.proofs.Numbered.{length-numbered, numbered_at, some_at}
use Rattle.raptorq.proofs.ObjectBlocks.{state, block_number, received_here}

-- a block's bytes, by what was received of it
abbrev difference_block : Configuration → List ObjectBlock → (ℕ → Option (List ℕ)) → ℕ → List ℕ
difference_block c items columns b = first_octets_block c (block_symbols c b) (plain_sum (received_at c items b).row (at (unwrap_or (columns b) [])))

-- whether no column was found of the first n blocks, or one of some block
abbrev pub TellsFound : Bool → ℕ → (ℕ → Option (List ℕ)) → Type 0
TellsFound none n columns = MatchBool none ((b : ℕ) → b < n → columns b ≡ None) ((b : ℕ) × (b < n) × IsSome (columns b))

-- the first n blocks: what was found of each of them, and whether nothing was
pub record DifferenceSoFar (c : Configuration) (items : List ObjectBlock) (n : ℕ) (none : Bool) (bytes : List ℕ) : Type 0 where
  pub columns : ℕ → Option (List ℕ)
  pub shows : (b : ℕ) → b < n → ShowsUnanswered (received_at c items b) (answer_at items b) (columns b)
  pub appended : bytes ≡ pieces (difference_block c items columns) n
  pub told : TellsFound none n columns

pub nothing_found : (c : Configuration) (items : List ObjectBlock) (bytes : List ℕ) → bytes ≡ [] → DifferenceSoFar c items 0 true bytes
nothing_found c items bytes is = record {
  columns = λ _. None;
  shows = λ b below. absurd (omega arith);
  appended = is;
  told = λ b below. absurd (omega arith);
}

-- one block more
module _ (c : Configuration) (items : List ObjectBlock) (n : ℕ) (none : Bool) (bytes : List ℕ) (column : Option (List ℕ)) (so : DifferenceSoFar c items n none bytes) (shows : ShowsUnanswered (received_at c items n) (answer_at items n) column) where
  abbrev with_one : ℕ → Option (List ℕ)
  with_one b = cond (eqb b n) column (so.columns b)

  here : with_one n ≡ column
  here = ap (λ t. cond t column (so.columns n)) (eq-eqb n n refl)

  before : (b : ℕ) → b < n → with_one b ≡ so.columns b
  before b below = ap (λ t. cond t column (so.columns b)) (ne_eqb b n (λ e. omega (arith, e)))

  told_more : (t : Bool) (o : Option (List ℕ)) → o ≡ column → TellsFound t n so.columns → TellsFound (t && is_none o) (n + 1) with_one
  told_more true None is all = λ b below. elim (cases_lt b n) [ inl lt ↦ before b lt ∙ all b lt | inr past ↦ let same : n ≡ b = omega arith in ap with_one (sym same) ∙ here ∙ sym is ]
  told_more true (Some xs) is all = (n, omega arith, subst IsSome (sym (here ∙ sym is)) refl)
  told_more false o is found = (found.0, omega (arith, found.1), subst IsSome (sym (before found.0 found.1)) found.2)

  pub one_found : (t : Bool) (block new : List ℕ) → t ≡ (none && is_none column) → (received_at c items n).configuration ≡ c → (received_at c items n).source_symbols ≡ block_symbols c n → block ≡ octets_of_column (received_at c items n) column → new ≡ bytes ++ block → DifferenceSoFar c items (n + 1) t new
  one_found t block new flag same cut is grown =
      let next : n + 1 ≡ suc n = omega arith in
      let h = received_at c items n in
      let own : block ≡ difference_block c items with_one n = is ∙ ap (λ k. first_octets_block k h.source_symbols (plain_sum h.row (at (unwrap_or column [])))) same ∙ ap (λ k. first_octets_block c k (plain_sum h.row (at (unwrap_or column [])))) cut ∙ ap (λ o. first_octets_block c (block_symbols c n) (plain_sum h.row (at (unwrap_or o [])))) (sym here) in
      record {
        columns = with_one;
        shows = λ b below. elim (cases_lt b n) [
          | inl lt ↦ subst (ShowsUnanswered (received_at c items b) (answer_at items b)) (sym (before b lt)) (so.shows b lt)
          | inr past ↦ let same : n ≡ b = omega arith in subst (λ m. ShowsUnanswered (received_at c items m) (answer_at items m) (with_one m)) same (subst (ShowsUnanswered (received_at c items n) (answer_at items n)) (sym here) shows)
        ];
        appended = grown ∙ ap (λ xs. xs ++ block) (so.appended ∙ pieces_same (difference_block c items so.columns) (difference_block c items with_one) n (λ b below. ap (λ o. first_octets_block c (block_symbols c b) (plain_sum (received_at c items b).row (at (unwrap_or o [])))) (sym (before b below)))) ∙ ap (λ xs. pieces (difference_block c items with_one) n ++ xs) own ∙ ap (pieces (difference_block c items with_one)) (sym next);
        told = subst (λ u. TellsFound u (n + 1) with_one) (sym flag) (told_more none column refl so.told);
      }

-- ---- all blocks

module _ (c : Configuration) (items : List ObjectBlock) where
  abbrev columns_of : (ℕ → Option (List ℕ)) → ℕ → ℕ → ℕ
  columns_of found b = at (unwrap_or (found b) [])

  -- no column was found
  pub all_determined : (bytes : List ℕ) → DifferenceSoFar c items c.source_blocks true bytes → AreUnansweredDetermined (state c items)
  all_determined bytes so b below = subst (ShowsUnanswered (received_at c items b) (answer_at items b)) (so.told b below) (so.shows b below)

  not_determined : (h : ReceivedBlock) (answer column : Option (List ℕ)) → ShowsUnanswered h answer column → IsSome column → (answer ≡ None → ReceivedDetermine h) → ⊥
  not_determined h answer None shows some all = absurd (cc some)
  not_determined h answer (Some xs) shows some all = shows.1.nonzero (all shows.0 (at xs) shows.1.elements shows.1.solves)

  -- some column was found
  pub some_undetermined : (bytes : List ℕ) → DifferenceSoFar c items c.source_blocks false bytes → AreUnansweredDetermined (state c items) → ⊥
  some_undetermined bytes so all =
      let b = so.told.0 in
      not_determined (received_at c items b) (answer_at items b) (so.columns b) (so.shows b so.told.1) so.told.2 (all b so.told.1)

  elements_of : (h : ReceivedBlock) (answer column : Option (List ℕ)) → ShowsUnanswered h answer column → IsColumn octets (intermediate_symbols h.row) (at (unwrap_or column []))
  elements_of h answer None shows = zeros_are_octets h.row
  elements_of h answer (Some xs) shows = shows.1.elements

  solves_of : (h : ReceivedBlock) (answer column : Option (List ℕ)) → ShowsUnanswered h answer column → SolvesZeros h.row (known_ids h.row h.source_symbols (has_received h)) (at (unwrap_or column []))
  solves_of h answer None shows = zeros_solve h.row (known_ids h.row h.source_symbols (has_received h))
  solves_of h answer (Some xs) shows = shows.1.solves

  zero_of : (h : ReceivedBlock) (answer column : Option (List ℕ)) → ShowsUnanswered h answer column → IsSome answer → (j : ℕ) → at (unwrap_or column []) j ≡ 0
  zero_of h answer None shows some j = refl
  zero_of h answer (Some xs) shows some j = absurd (cc (sym (ap is_some shows.0) ∙ some))

  nonzero_of : (h : ReceivedBlock) (answer column : Option (List ℕ)) → ShowsUnanswered h answer column → IsSome column → ((j : ℕ) → j < intermediate_symbols h.row → at (unwrap_or column []) j ≡ 0) → ⊥
  nonzero_of h answer None shows some = absurd (cc some)
  nonzero_of h answer (Some xs) shows some = shows.1.nonzero

  pub difference_found : (bytes : List ℕ) → 0 < c.symbol_size → 0 < c.source_blocks → IsAligned c → ((b : ℕ) → b < c.source_blocks → HasRow (received_at c items b).row (block_symbols c b)) → ((b : ℕ) → b < c.source_blocks → (received_at c items b).source_symbols ≡ block_symbols c b)
      → DifferenceSoFar c items c.source_blocks false bytes → IsDifference (state c items) (take c.transfer_length bytes)
  difference_found bytes pos some aligned rows cut so =
      let columns = columns_of so.columns in
      let b = so.told.0 in
      subst (IsDifference (state c items)) (sym (ap (take c.transfer_length) so.appended))
      (is_difference (state c items) pos some aligned columns b rows
      (record {
        elements = λ n l. elements_of (received_at c items n) (answer_at items n) (so.columns n) (so.shows n l);
        solves = λ n l. subst (λ k. SolvesZeros (received_at c items n).row (known_ids (received_at c items n).row k (has_received (received_at c items n))) (columns n)) (cut n l) (solves_of (received_at c items n) (answer_at items n) (so.columns n) (so.shows n l));
      })
      (λ n l h j _. zero_of (received_at c items n) (answer_at items n) (so.columns n) (so.shows n l) h j) so.told.1 (nonzero_of (received_at c items b) (answer_at items b) (so.columns b) (so.shows b so.told.1) so.told.2))

-- ---- what was received of the object's blocks

module _ (c : Configuration) (items : List ObjectBlock) (numbered : map block_number items ≡ range_with_len 0 c.source_blocks) (cut : All (λ b. (received_of b.decoder).source_symbols ≡ block_symbols c (received_of b.decoder).number) items) where
  -- what was received of a number is what its block has, which is cut so
  at_number : (b : ℕ) → b < c.source_blocks → (x : ObjectBlock) × (received_at c items b ≡ received_of x.decoder) × ((received_of x.decoder).source_symbols ≡ block_symbols c b)
  at_number b below =
      let inside : b < length items = omega (arith, length-numbered block_number c.source_blocks items numbered) in
      let found = some_at items b inside in
      let x = found.0 in (
        x,
        received_here c items b x inside found.1,
        ap (λ y. (received_of y.decoder).source_symbols) found.1 ∙ cut b x inside ∙ ap (λ y. block_symbols c (received_of y.decoder).number) (sym found.1) ∙ ap (block_symbols c) (numbered_at block_number c.source_blocks items numbered b x below found.1),
      )

  pub block_is_cut : (b : ℕ) → b < c.source_blocks → (received_at c items b).source_symbols ≡ block_symbols c b
  block_is_cut b below = let found = at_number b below in ap (λ h. h.source_symbols) found.1 ∙ found.2

  pub received_has_row : (b : ℕ) → b < c.source_blocks → HasRow (received_at c items b).row (block_symbols c b)
  received_has_row b below =
      let found = at_number b below in
      let x = found.0 in record {
        checked = subst (λ (h : ReceivedBlock). IsChecked h.row) (sym found.1) x.decoder.row.checked;
        fits = subst (λ n. n ≤ (received_at c items b).row.extended_symbols) (block_is_cut b below) (subst (λ (h : ReceivedBlock). h.source_symbols ≤ h.row.extended_symbols) (sym found.1) x.decoder.fits);
      }
