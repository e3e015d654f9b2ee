-- The list that is sent of a part is one that is read.
use Rattle.std.proofs.Common.{◌≡◌, ℕ, ◌≤◌, Bool, List, [], ◌∷◌, length, map, take, Some, sym, ap, subst, ◌∙◌, arith}
use Rattle.std.specs.List.{All, flat_map, range_with_len}
use Rattle.std.proofs.lemmas.List.{length-map, length-take-le}
use Rattle.std.proofs.lemmas.List.Concat.{flat_map-cons}
use Rattle.std.proofs.lemmas.List.Elements.{All-nil, All-append, All-map}
use Rattle.sha2.specs.Sha512.{sha512}
use Rattle.sha2.proofs.Facts512.{length-sha512}
use Rattle.rq_standard.specs.Configuration.{Configuration, IsAccepted, total_symbols}
use Rattle.rq_standard.specs.Headline.{block_source}
use Rattle.rq_standard.proofs.BlockCuts.{symbols_before-all}
use Rattle.rq_rows.specs.FullTable.{full_rows}
use Rattle.rq_cells.specs.Cells.{Key, digest_of}
use Rattle.rq_cast.specs.Parts.{object_of, source_digests}
use Rattle.rq_cast.proofs.Senders.{checked_by}
use Rattle.rq_cast.proofs.SentReceived.{fits, configured}
use Rattle.rq_cast.proofs.SymbolDigests.{length-digests_before}
use Rattle.rq_guard.specs.declared.protecting.GuardOrder.{GuardOrder}
use Rattle.rq_guard.specs.Layout.{IsLayout}
use Rattle.rq_guard.specs.Lists.{listed_length, list_at, list_bytes}
use Rattle.rq_guard.specs.Protecting.{list_of_part, Guarding, IsGuarding}
use Rattle.rq_guard.proofs.Layouts.{accepted_layout}
use Rattle.rq_guard.proofs.ListBytes.{read_again}

all_flat : (P : List ℕ → Type 0) (f : ℕ → List (List ℕ)) → ((b : ℕ) → All P (f b)) → (ns : List ℕ) → All P (flat_map f ns)
all_flat P f each [] = All-nil P
all_flat P f each (n ∷ ns) = subst (All P) (sym (flat_map-cons f n ns)) (All-append P (f n) (flat_map f ns) (each n) (all_flat P f each ns))

listed_long : (symbol : List ℕ) → length (take listed_length (digest_of symbol)) ≡ listed_length
listed_long symbol =
    let long = length-take-le 32 (sha512 symbol) (omega (arith, length-sha512 symbol)) in
    length-take-le 16 (digest_of symbol) (omega (arith, long))

all_long : (c : Configuration) (object : List ℕ) → All (λ d. length d ≡ listed_length) (map (take listed_length) (source_digests c object))
all_long c object =
    All-map (λ (d : List ℕ). length d ≡ listed_length) (take listed_length) (source_digests c object)
    (all_flat (λ d. length (take listed_length d) ≡ listed_length) (λ b. map digest_of (block_source c object b))
    (λ b. All-map (λ (d : List ℕ). length (take listed_length d) ≡ listed_length) digest_of (block_source c object b) (λ k d below. listed_long _))
    (range_with_len 0 c.source_blocks))

accepted_by_layout : (greatest n : ℕ) (c : Configuration) → 16384 ≤ greatest → IsLayout n c → IsAccepted greatest c
accepted_by_layout greatest n c enough is =
    let accepted : IsAccepted 16384 c = subst (IsAccepted 16384) (sym is.one_block) (accepted_layout n c.symbol_size is.size) in
    record {
      size_positive = accepted.size_positive;
      alignment_positive = accepted.alignment_positive;
      aligned = accepted.aligned;
      blocks_positive = accepted.blocks_positive;
      in_table = omega (arith, enough, accepted.in_table);
    }

pub sent_list_read : (order : GuardOrder) (key : Key) (is_last : Bool) (names : List (List ℕ)) (bytes : List ℕ) (g : Guarding)
    → IsGuarding order key is_last names bytes g → (greatest : ℕ) → 16384 ≤ greatest
    → let l = list_of_part g.part.head (object_of is_last names bytes) in list_at key greatest (list_bytes key l) ≡ Some l
sent_list_read order key is_last names bytes g is greatest enough =
    let object = object_of is_last names bytes in
    let c = g.part.encoded.configuration in
    let same : g.part.head.configuration ≡ c = configured full_rows is_last names object g.part is.part.sends in
    let one_block : c.source_blocks ≡ 1 = ap (λ (k : Configuration). k.source_blocks) is.part.layout.one_block in
    let many = length-digests_before c object c.source_blocks (omega arith) ∙ symbols_before-all c (omega (arith, one_block)) in
    read_again key greatest (list_of_part g.part.head object) (record {
      head = fits full_rows is_last names object g.part is.part.sends;
      accepted = checked_by greatest g.part.head.configuration (subst (IsAccepted greatest) (sym same) (accepted_by_layout greatest (length object) c enough is.part.layout));
      one_block = ap (λ (k : Configuration). k.source_blocks) same ∙ one_block;
      many = length-map (source_digests g.part.head.configuration object) (take listed_length)
          ∙ ap (λ k. length (source_digests k object)) same ∙ many ∙ ap total_symbols (sym same);
      digests = all_long g.part.head.configuration object;
    })
