-- What is made ready to guard a part.
use Rattle.std.proofs.Common.{◌≡◌, ℕ, ◌^◌, ◌<◌, Bool, true, false, List, length, map, take, Ok, inl, inr, sym, ap, subst, ◌∙◌, arith}
use Rattle.rq_bytes.specs.declared.error.Error.{Error}
use Rattle.rq_bytes.specs.declared.error.Error.TheVariants.{OutOfMemory, TransferTooLong}
use Rattle.rq_bytes.specs.Refusals.{IsRefusal}
use Rattle.rq_standard.specs.declared.row.TableRow.{TableRow}
use Rattle.rq_standard.specs.Configuration.{Configuration, largest_block}
use Rattle.rq_tables.specs.SystematicTable.{wanted_table}
use Rattle.rq_rows.specs.declared.further_rows.TheConstants.{FURTHER_ROWS}
use Rattle.rq_rows.specs.FullTable.{full_rows}
use Rattle.rq_rows.proofs.AllPass.{pass}
use Rattle.rq_base.proofs.Accepted.{same_ok}
use Rattle.raptorq.specs.Refused.{RefusesEncoder}
use Rattle.rq_cells.specs.declared.head.Head.{Head}
use Rattle.rq_cells.specs.Cells.{Key}
use Rattle.rq_cast.specs.declared.series.Repair.{Repair}
use Rattle.rq_cast.specs.Parts.{greatest_count, number_of, object_of, source_digests, part_head}
use Rattle.rq_cast.specs.Preparing.{IsFitting, RefusesFitting}
use Rattle.rq_cast.specs.Sent.{Sending, Encodes, IsSendingOf}
use Rattle.rq_guard.specs.declared.protecting.GuardOrder.{GuardOrder}
use Rattle.rq_guard.specs.declared.protecting.Half.{Half}
use Rattle.rq_guard.specs.declared.protecting.Half.TheVariants.{Source, Spare}
use Rattle.rq_guard.specs.Layout.{IsLayout}
use Rattle.rq_guard.specs.Lists.{Listed, listed_length, list_symbol_size, list_number, list_bytes}
use Rattle.rq_guard.specs.Protecting.{list_of_part, list_head, IsListSeries, IsListSending, RefusesList, IsRepairSeries, IsRepairSending, Guarding, IsGuarding, RefusesGuarding}

-- ---- a list

module _ (key : Key) (l : Listed) (bytes : List ℕ) (are : bytes ≡ list_bytes key l) where
  pub list_sending : (half : Half) (table : List TableRow) (c : Configuration) (s : Sending) → IsFitting (length bytes) list_symbol_size table c
      → Encodes table bytes s.encoded → s.encoded.configuration ≡ c → s.head ≡ list_head l.head c bytes → s.key ≡ key
      → IsListSeries half (largest_block s.encoded.configuration) s.series → IsListSending key l half s
  list_sending half table c s fits encodes is head keyed series = record {
    table = table;
    fitting = subst (λ k. IsFitting (length (list_bytes key l)) list_symbol_size table k) (sym is)
        (subst (λ b. IsFitting (length b) list_symbol_size table c) are fits);
    encodes = subst (λ b. Encodes table b s.encoded) are encodes;
    head = head ∙ (λ j. list_head l.head (sym is j) (are j));
    keyed = keyed;
    series = series;
  }

  pub list_unfit : (e : Error) → RefusesFitting (length bytes) list_symbol_size e → RefusesList key l e
  list_unfit e refuses = inl (subst (λ b. RefusesFitting (length b) list_symbol_size e) are refuses)

  pub list_unencoded : (table : List TableRow) (c : Configuration) (e : Error) → IsFitting (length bytes) list_symbol_size table c → RefusesEncoder table c (length bytes) e
      → RefusesList key l e
  list_unencoded table c e fits refuses = inr (
    table,
    c,
    subst (λ b. IsFitting (length b) list_symbol_size table c) are fits,
    subst (λ b. RefusesEncoder table c (length b) e) are refuses,
  )

-- ---- a part

module _ (repair : Repair) (key : Key) (is_last : Bool) (names : List (List ℕ)) (object : List ℕ) where
  pub repair_sending : (table : List TableRow) (c : Configuration) (s : Sending) → table ≡ full_rows → length names < greatest_count → IsLayout (length object) c
      → Encodes table object s.encoded → s.encoded.configuration ≡ c → s.head ≡ part_head is_last names c object → s.key ≡ key
      → IsRepairSeries repair (largest_block s.encoded.configuration) s.series → IsRepairSending repair key is_last names object s
  repair_sending table c s full few layout encodes is head keyed series = record {
    layout = subst (IsLayout (length object)) (sym is) layout;
    sends = subst (λ t. IsSendingOf t is_last names object s) full (record {
      few = few;
      checked = encodes.checked;
      configuration = encodes.configuration;
      accepted = encodes.accepted;
      nonsingular = encodes.nonsingular;
      encoder = encodes.encoder;
      head = head ∙ ap (λ k. part_head is_last names k object) (sym is);
    });
    keyed = keyed;
    series = series;
  }

-- ---- all

module _ (key : Key) (is_last : Bool) (names : List (List ℕ)) (bytes object : List ℕ) (is : object ≡ object_of is_last names bytes) where
  pub guarding_by : (order : GuardOrder) (g : Guarding) → IsRepairSending order.repair key is_last names object g.part
      → IsListSending key (list_of_part g.part.head object) Source g.list → IsListSending key (list_of_part g.part.head object) Spare g.spare
      → IsGuarding order key is_last names bytes g
  guarding_by order g part list spare = record {
    part = subst (λ o. IsRepairSending order.repair key is_last names o g.part) is part;
    list = subst (λ o. IsListSending key (list_of_part g.part.head o) Source g.list) is list;
    spare = subst (λ o. IsListSending key (list_of_part g.part.head o) Spare g.spare) is spare;
  }

  pub no_layout : (e : Error) → e ≡ TransferTooLong → 1006632960 < length object → RefusesGuarding key is_last names bytes e
  no_layout e too_long long = inr (inl (too_long, subst (λ o. 1006632960 < length o) is long))

  pub no_encoder : (table : List TableRow) (c : Configuration) (e : Error) → table ≡ full_rows → IsLayout (length object) c → RefusesEncoder table c (length object) e
      → RefusesGuarding key is_last names bytes e
  no_encoder table c e full layout refuses = inr (inr (
    c,
    subst (λ o. IsLayout (length o) c) is layout,
    inl (subst (λ o. RefusesEncoder full_rows c (length o) e) is (subst (λ t. RefusesEncoder t c (length object) e) full refuses)),
  ))

  pub no_list : (c : Configuration) (e : Error) → IsLayout (length object) c → RefusesList key (list_of_part (part_head is_last names c object) object) e
      → RefusesGuarding key is_last names bytes e
  no_list c e layout refuses = inr (inr (
    c,
    subst (λ o. IsLayout (length o) c) is layout,
    inr (subst (λ o. RefusesList key (list_of_part (part_head is_last names c o) o) e) is refuses),
  ))

-- the list that is made of a part
pub list_is : (l : Listed) (h h' : Head) (c : Configuration) (object : List ℕ) (digests : List (List ℕ)) → l.head ≡ h → l.digests ≡ map (take listed_length) digests
    → digests ≡ source_digests c object → h ≡ h' → h'.configuration ≡ c → l ≡ list_of_part h' object
list_is l h h' c object digests head listed are same configured =
    let digested : l.digests ≡ map (take listed_length) (source_digests h'.configuration object) =
    listed ∙ ap (map (take listed_length)) (are ∙ ap (λ k. source_digests k object) (sym configured)) in
    λ j. record { head = (head ∙ same) j; digests = digested j }

-- the number of a list has 32 bits
pub list_number_fits : (is_last : Bool) (index : ℕ) → index < greatest_count → list_number (number_of is_last index) < 2 ^ 32
list_number_fits true index few = omega (arith, few)
list_number_fits false index few = omega (arith, few)

-- want of memory alone is refused of the table
pub table_memory : (e : Error) → IsRefusal e (wanted_table FURTHER_ROWS) → e ≡ OutOfMemory
table_memory e refuses = subst (IsRefusal e) pass refuses

pub table_full : (table : List TableRow) → wanted_table FURTHER_ROWS ≡ Ok table → table ≡ full_rows
table_full table is = same_ok table full_rows (sym is ∙ pass)
