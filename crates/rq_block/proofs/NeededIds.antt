-- Too few ids give no answer, whichever they are.
use Rattle.std.proofs.Common.{◌≡◌, ◌⊎◌, inl, inr, ℕ, ◌+◌, ◌-◌, ◌^◌, ◌<◌, ◌≤◌, Bool, true, List, ◌++◌, length, map, eqb, Contains, sym, ap, ◌∙◌, subst, arith}
use Rattle.std.specs.BTreeMap.{IsOrdered}
use Rattle.std.specs.Ordering.{nat_cmp}
use Rattle.std.specs.Set.{is_member}
use Rattle.std.proofs.lemmas.Bool.Decides.{Decides-eqb}
use Rattle.std.proofs.lemmas.Grind.{get_or_default_zero}
use Rattle.std.proofs.lemmas.List.{get_or-map, length-append, length-map}
use Rattle.std.proofs.lemmas.List.Elements.{Contains-append_left, Contains-append_right, Contains-get_or}
use Rattle.std.proofs.lemmas.Map.Made.{is_member-Decides}
use Rattle.rq_algebra.specs.Systems.{at}
use Rattle.rq_standard.specs.declared.row.TableRow.{TableRow}
use Rattle.rq_standard.specs.Equations.{internal_id}
use Rattle.rq_standard.specs.Headline.{known_ids, DetermineBlock}
use Rattle.rq_standard.specs.IdLists.{IsListOf}
use Rattle.rq_standard.specs.Received.{HasSourceSymbols}
use Rattle.rq_standard.specs.ReceivedBlock.{ReceivedBlock, has_received}
use Rattle.rq_standard.proofs.KnownIds.{block_more, determined_list, determined_more, few_not_determining}
use Rattle.rq_block.specs.Known.{known_list}
use Rattle.rq_block.specs.Payloads.{Payloads, has_payload}
use Rattle.rq_block.specs.MissingPackets.{received_count, IsMissing, NeedsMore}
use Rattle.rq_block.proofs.IdCounts.{ids_counted, missing_count-further, missing_count-more}
use Rattle.rq_block.proofs.Listing.{length-known_list}
use Rattle.rq_block.proofs.MissingCounts.{missing_count-none, missing_count-same}
use Rattle.rq_block.proofs.ReceivedEquations.{known-more, known_listed}

abbrev is_listed : List ℕ → ℕ → Bool
is_listed = is_member eqb

to_listed : (ids : List ℕ) (x : ℕ) → Contains ids x → is_listed ids x ≡ true
to_listed ids x at_place = (is_member-Decides Decides-eqb ids x).1 at_place

-- a list has its own members
own_list : (ids : List ℕ) → IsListOf (is_listed ids) ids
own_list ids = record {
  listed = λ j below. to_listed ids (at ids j) (Contains-get_or ids j 0 below);
  place = λ x listed. let q = (is_member-Decides Decides-eqb ids x).0 listed in (q.0, q.1, sym (get_or_default_zero ids q.0 x q.1) ∙ q.2);
}

-- each id is one of a map's or a new one
module _ (row : TableRow) (k size : ℕ) (m : Payloads) (fits : k ≤ row.extended_symbols) (ordered : IsOrdered nat_cmp m) (new : List ℕ) (has : ℕ → Bool) (more : (e : ℕ) → has e ≡ true → (has_payload m e ≡ true) ⊎ Contains new e) where
  abbrev all_ids : List ℕ
  all_ids = known_list row k m.entries ++ map (internal_id row k) new

  was_known : (x : ℕ) → known_ids row k (has_payload m) x ≡ true → Contains all_ids x
  was_known x known =
      let ids = known_list row k m.entries in
      let q = (known_listed row k size m fits ordered).place x known in
      Contains-append_left ids (map (internal_id row k) new) x (subst (Contains ids) q.2 (Contains-get_or ids q.0 0 q.1))

  is_new : (e : ℕ) → Contains new e → Contains all_ids (internal_id row k e)
  is_new e q =
      let id : ℕ = internal_id row k e in
      Contains-append_right (known_list row k m.entries) (map (internal_id row k) new) id
      (q.0, omega (arith, q.1, length-map new (internal_id row k)), get_or-map (internal_id row k) new q.0 e id q.1 ∙ ap (internal_id row k) q.2)

  -- so the known ids are among these
  is_among : (x : ℕ) → known_ids row k has x ≡ true → Contains all_ids x
  is_among x known = elim (known-more row k (has_payload m) has (Contains new) fits more x known) [ inl was ↦ was_known x was | inr added ↦ subst (Contains all_ids) (sym added.2) (is_new added.0 added.1) ]

  -- fewer than K' determine nothing
  few_with_new : (row.extended_symbols - k) + length m.entries + length new < row.extended_symbols → DetermineBlock row k has → ⊥
  few_with_new few d =
      let long = length-append (known_list row k m.entries) (map (internal_id row k) new) in
      few_not_determining row all_ids (omega (arith, long, length-known_list row k m.entries, length-map new (internal_id row k)))
      (determined_list row (is_listed all_ids) all_ids (own_list all_ids) (determined_more row (known_ids row k has) (is_listed all_ids) (λ x known. to_listed all_ids x (is_among x known)) d))

  -- and fewer than K aren't all source symbols
  few_source : ((e : ℕ) → has_payload m e ≡ true → e < 2 ^ 24) → length m.entries + length new < k → HasSourceSymbols k has → ⊥
  few_source below few all =
      let n : ℕ = 2 ^ 24 + k in
      omega (arith, missing_count-none k has all.each, missing_count-more k new (has_payload m) has more, missing_count-further k n (has_payload m) (omega arith), ids_counted m n ordered (λ e came. omega (arith, below e came)))

-- ---- of a block

module _ (h : ReceivedBlock) (m : Payloads) (ordered : IsOrdered nat_cmp m) (below : (e : ℕ) → has_payload m e ≡ true → e < 2 ^ 24) (same : (e : ℕ) → has_received h e ≡ has_payload m e) where
  -- how many ids were received
  pub received_count_is : received_count h ≡ length m.entries
  received_count_is = omega (arith, missing_count-same (2 ^ 24) (has_received h) (has_payload m) (λ e _. same e), ids_counted m (2 ^ 24) ordered below)

  -- as many as are missing are needed
  pub needs_missing : h.source_symbols ≤ h.row.extended_symbols → (n : ℕ) → IsMissing h n → NeedsMore h n
  needs_missing fits n missing new later fewer with_new can =
      let row = h.row in
      let k = h.source_symbols in
      let has = has_received later in
      let more : (e : ℕ) → has e ≡ true → (has_payload m e ≡ true) ⊎ Contains new e = λ e received. elim (with_new.ids e received) [ inl was ↦ inl (sym (same e) ∙ was) | inr added ↦ inr added ] in
      let can_now : HasSourceSymbols k has ⊎ DetermineBlock row k has = elim can [
        | inl all ↦ inl (subst (λ i. HasSourceSymbols i has) with_new.source_symbols all)
        | inr d ↦ inr (subst (λ (r : TableRow). DetermineBlock r k has) with_new.row (subst (λ i. DetermineBlock later.row i has) with_new.source_symbols d))
      ] in
      elim missing [
        | inl is ↦ elim can_now [
          | inl all ↦ few_source row k h.configuration.symbol_size m fits ordered new has more below (omega (arith, is, received_count_is, fewer)) all
          | inr d ↦ few_with_new row k h.configuration.symbol_size m fits ordered new has more (omega (arith, is, received_count_is, fewer)) d
        ]
        | inr one ↦
            let within : (e : ℕ) → has e ≡ true → has_received h e ≡ true = λ e received. elim (with_new.ids e received) [ inl was ↦ was | inr added ↦ absurd (omega (arith, added.1, fewer, one.0)) ] in
            one.2 (elim can_now [ inl all ↦ inl (record { each = λ e lt. within e (all.each e lt) }) | inr d ↦ inr (block_more row k has (has_received h) within d) ])
      ]
