-- An object that is made ready to be sent.
use Rattle.std.proofs.Common.{◌≡◌, inl, inr, ℕ, ◌+◌, ◌-◌, ◌/◌, ◌%◌, ◌^◌, ◌<◌, min, refl, List, length, Bool, true, false, if◌then◌else◌, arith, Result, Ok, Err, IfOk, IfErr, sym, subst, ◌∙◌, ap}
use Rattle.std.specs.Prelude.{◌⊎◌, ◌≢◌, ◌==◌, nat_lt}
use Rattle.std.proofs.lemmas.Bool.{cases_lt, lt-ltb, eq-eqb, ne_eqb}
use Rattle.rq_bytes.specs.declared.error.Error.{Error}
use Rattle.rq_bytes.specs.declared.error.Error.TheVariants.{OutOfMemory, PacketSizeZero, TransferLengthZero, TransferTooLong, MemoryRequirementTooSmall, TooManyBlocks}
use Rattle.rq_standard.specs.declared.row.TableRow.{TableRow}
use Rattle.rq_standard.specs.Configuration.{Configuration, largest_block}
use Rattle.rq_standard.specs.Parameters.{fitting_block, most_sub_blocks, blocks_for, parameters_for}
use Rattle.rq_standard.specs.TableRows.{built_in_rows}
use Rattle.rq_tables.specs.SystematicTable.{wanted_table}
use Rattle.rq_rows.specs.declared.further_rows.TheConstants.{FURTHER_ROWS}
use Rattle.rq_base.specs.RefusedInput.{greatest_transfer_length}
use Rattle.rq_streams.specs.Sent.{default_parameters}
use Rattle.raptorq.specs.Refused.{RefusesEncoder}
use Rattle.rq_cast.specs.declared.order.Order.{Order}
use Rattle.rq_cast.specs.declared.sending.Sender.{Sender}
use Rattle.rq_cells.specs.Cells.{Key}
use Rattle.rq_cast.specs.declared.names.Names.{Names}
use Rattle.rq_cast.specs.Names.{AreNames}
use Rattle.rq_cast.specs.Parts.{greatest_count, object_of}
use Rattle.rq_cast.specs.Sent.{sending_of, IsSendingOf, IsSeriesOf}
use Rattle.rq_cast.specs.Preparing.{IsFitting, RefusesFitting, IsPrepared, RefusesObject, object_length, FitParts, RefusesParts}

-- a sender over a configuration that fits
module _ (order : Order) (key : Key) (is_last : Bool) (n : Names) (bytes object : List ℕ) (table : List TableRow) (c : Configuration)
    (fits : IsFitting (length object) order.symbol_size table c)
    (is_object : (before : List (List ℕ)) → AreNames before n → object ≡ object_of is_last before bytes) where
  pub prepared_by : (r : Result Sender Error)
      → IfOk r (λ s. (before : List (List ℕ)) → AreNames before n → IsSendingOf table is_last before object (sending_of s))
      → IfOk r (λ s. (sending_of s).encoded.configuration ≡ c)
      → IfOk r (λ s. (sending_of s).key ≡ key)
      → IfOk r (λ s. IsSeriesOf order.ids (largest_block c) order.repair (sending_of s).series)
      → IfOk r (λ s. (before : List (List ℕ)) → AreNames before n → IsPrepared order key is_last before bytes (sending_of s))
  prepared_by (Err e) sends is keyed series = tt
  prepared_by (Ok s) sends is keyed series = λ before are. record {
    table = table;
    fitting = subst (λ o. IsFitting (length o) order.symbol_size table (sending_of s).encoded.configuration) (is_object before are)
        (subst (IsFitting (length object) order.symbol_size table) (sym is) fits);
    sends = subst (λ o. IsSendingOf table is_last before o (sending_of s)) (is_object before are) (sends before are);
    keyed = keyed;
    series = subst (λ k. IsSeriesOf order.ids (largest_block k) order.repair (sending_of s).series) (sym is) series;
  }

  pub refused_by : (r : Result Sender Error) → IfErr r (RefusesEncoder table c (length object))
      → IfErr r (λ e. (before : List (List ℕ)) → AreNames before n → (e ≡ OutOfMemory) ⊎ RefusesObject order (object_of is_last before bytes) e)
  refused_by (Ok s) refuses = tt
  refused_by (Err e) refuses = λ before are. inr (subst (λ o. RefusesObject order o e) (is_object before are) (inr (table, c, fits, refuses)))

-- ---- lengths beyond 64 bits

-- the parameters, by whether there is an object, and whether it is too long
abbrev parameters_by : List TableRow → ℕ → ℕ → ℕ → Bool → Bool → Result Configuration Error
parameters_by rows n s memory none long =
    if s == 0 then Err PacketSizeZero
    else if none then Err TransferLengthZero
    else if long then Err TransferTooLong
    else if fitting_block rows s memory (most_sub_blocks s) == 0 then Err MemoryRequirementTooSmall
    else if nat_lt 255 (blocks_for rows n s memory) then Err TooManyBlocks
    else Ok (parameters_for rows n s memory)

too_long : (rows : List TableRow) (n s : ℕ) → greatest_transfer_length < n
    → default_parameters rows n s ≡ (if s == 0 then Err PacketSizeZero else Err TransferTooLong)
too_long rows n s long =
    let some : (n == 0) ≡ false = grind (arith, long) in
    let is : nat_lt greatest_transfer_length n ≡ true = lt-ltb greatest_transfer_length n long in
    λ i. parameters_by rows n s 10485760 (some i) (is i)

-- a length that is cut at the greatest number of 64 bits has the same parameters
pub same_parameters : (n cut size : ℕ) → cut ≡ min n (2 ^ 64 - 1) → (rows : List TableRow) → default_parameters rows cut size ≡ default_parameters rows n size
same_parameters n cut size is rows = elim (cases_lt n (2 ^ 64)) [
  | inl fits ↦ let whole : cut ≡ n = omega (arith, is) in ap (λ m. default_parameters rows m size) whole
  | inr past ↦ too_long rows cut size (omega (arith, is)) ∙ sym (too_long rows n size (omega arith))
]

module _ (n cut size : ℕ) (is : cut ≡ min n (2 ^ 64 - 1)) where
  abbrev FitsBy : (List TableRow → Result Configuration Error) → List TableRow → Configuration → Type 0
  FitsBy parameters table c =
      ((table ≡ built_in_rows) × (parameters table ≡ Ok c))
      ⊎ ((parameters built_in_rows ≡ Err TooManyBlocks) × (wanted_table FURTHER_ROWS ≡ Ok table) × (parameters table ≡ Ok c))

  abbrev RefusesBy : (List TableRow → Result Configuration Error) → Error → Type 0
  RefusesBy parameters e =
      (e ≡ OutOfMemory)
      ⊎ (((parameters built_in_rows ≡ Err e) × (e ≢ TooManyBlocks))
      ⊎ ((parameters built_in_rows ≡ Err TooManyBlocks)
      × ((wanted_table FURTHER_ROWS ≡ Err e) ⊎ ((table : List TableRow) × (wanted_table FURTHER_ROWS ≡ Ok table) × (parameters table ≡ Err e)))))

  pub fits_uncut : (table : List TableRow) (c : Configuration) → IsFitting cut size table c → IsFitting n size table c
  fits_uncut table c fits = subst (λ f. FitsBy f table c) (λ i rows. same_parameters n cut size is rows i) fits

  pub refuses_uncut : (e : Error) → RefusesFitting cut size e → RefusesFitting n size e
  refuses_uncut e refuses = subst (λ f. RefusesBy f e) (λ i rows. same_parameters n cut size is rows i) refuses

-- ---- lengths of parts

module _ (order : Order) (n : ℕ) where
  abbrev last : ℕ
  last = n / order.part

  length_of_last : object_length order.part n last ≡ n % order.part + 32
  length_of_last = ap (λ (b : Bool). if b then n % order.part + 32 else order.part) (eq-eqb last last refl)

  length_of_whole : (index : ℕ) → index < last → object_length order.part n index ≡ order.part
  length_of_whole index below = ap (λ (b : Bool). if b then n % order.part + 32 else order.part) (ne_eqb index last (λ same. omega (arith, below, same)))

  -- an object of so many bytes has a configuration
  abbrev pub Fits : ℕ → Type 0
  Fits m = (table : List TableRow) × (c : Configuration) × IsFitting m order.symbol_size table c

  pub fit_parts : last < greatest_count → (0 < last → Fits order.part) → Fits (n % order.part + 32) → FitParts order n
  fit_parts few first ending = record {
    numbered = omega (arith, few);
    each = λ index within. elim (cases_lt index last) [
      | inl below ↦ subst Fits (sym (length_of_whole index below)) (first (omega (arith, below)))
      | inr past ↦
          let here : last ≡ index = omega (arith, within, past) in
          subst (λ i. Fits (object_length order.part n i)) here (subst Fits (sym length_of_last) ending)
    ];
  }

  pub refuses_whole : (e : Error) → 0 < last → RefusesFitting order.part order.symbol_size e → RefusesParts order n e
  refuses_whole e some refuses = inl (0, omega arith, subst (λ m. RefusesFitting m order.symbol_size e) (sym (length_of_whole 0 some)) refuses)

  pub refuses_last : (e : Error) → RefusesFitting (n % order.part + 32) order.symbol_size e → RefusesParts order n e
  refuses_last e refuses = inl (last, omega arith, subst (λ m. RefusesFitting m order.symbol_size e) (sym length_of_last) refuses)
