-- A file as far as it is guarded, and where that stops.
use Rattle.std.proofs.Common.{◌≡◌, inl, inr, ℕ, ◌+◌, ◌*◌, ◌<◌, zero-mul, Bool, true, false, List, [], ◌++◌, length, map, Option, refl, sym, ap, subst, ◌∙◌, arith, append-nil, length-append}
use Rattle.std.specs.Prelude.{nat_lt, ◌==◌}
use Rattle.std.specs.List.{range_with_len, sum_by}
use Rattle.std.specs.Io.KnownBytes.{Consumes, Appends}
use Rattle.std.proofs.KnownBytes.{Consumes-nil, Consumes-trans, Appends-nil, Appends-trans, Appends-kept}
use Rattle.std.proofs.lemmas.List.{length_push}
use Rattle.rq_bytes.specs.declared.error.Error.{Error}
use Rattle.rq_bytes.specs.declared.error.Error.TheVariants.{TransferTooLong}
use Rattle.rq_streams.specs.declared.run.Stop.{Stop}
use Rattle.rq_streams.specs.declared.run.Stop.TheVariants.{Fault, Refused}
use Rattle.rq_cells.specs.Cells.{Key}
use Rattle.rq_cast.specs.Names.{AreNames}
use Rattle.rq_cast.specs.Parts.{greatest_count}
use Rattle.rq_cast.specs.PartReading.{ReadsPart, ReadsWithin}
use Rattle.rq_cast.specs.Reading.{IsStopOfReads}
use Rattle.rq_cast.specs.SentParts.{last_index}
use Rattle.rq_cast.proofs.PartsInOrder.{ReadsNext, reads_next, with_next, names_all, sum_next, part_same}
use Rattle.rq_cast.proofs.StreamSteps.{no_sending}
use Rattle.rq_guard.specs.declared.protecting.GuardOrder.{GuardOrder}
use Rattle.rq_guard.specs.declared.protecting.Guarded.{Guarded}
use Rattle.rq_guard.specs.declared.protecting.Protector.{Protector}
use Rattle.rq_guard.specs.Protecting.{Guarding, IsGuarding, RefusesGuarding, guard_cells, guarded_names, IsGuardedPart, GuardsParts, Protects, StopsUnguarded, StopsProtecting}
use Rattle.rq_guard.specs.ProtectingParts.{GuardsPart, StopsPart}
use Rattle.rq_guard.proofs.GuardedParts.{guards_longer, guards_next}

-- Of what was read the parts are guarded that these names are of.
pub record HasGuarded (order : GuardOrder) (key : Key) (before after there then : Option (List ℕ)) (input : List ℕ) (p : Protector) : Type 0 where
  pub ordered : p.order ≡ order
  pub keyed : p.key.now ≡ key
  pub taken : Consumes before after input
  pub of : ℕ → Guarding
  pub named : AreNames (guarded_names of p.names.count) p.names
  pub written : List ℕ
  pub appended : Appends there then written
  pub guards : GuardsParts order key input of p.names.count written
  pub cells : p.cells ≡ sum_by guard_cells (map of (range_with_len 0 p.names.count))

-- all that was read, in whole parts
pub record HasGuardedWhole (order : GuardOrder) (key : Key) (before after there then : Option (List ℕ)) (p : Protector) : Type 0 where
  pub input : List ℕ
  pub whole : length input ≡ p.names.count * order.part
  pub has : HasGuarded order key before after there then input p

-- what guards nothing
no_parts : ℕ → Guarding
no_parts i = record { list = no_sending; part = no_sending; spare = no_sending }

pub has_guarded_none : (order : GuardOrder) (key : Key) (before there : Option (List ℕ)) (p : Protector) → p.order ≡ order → p.key.now ≡ key
    → AreNames [] p.names → p.cells ≡ 0 → HasGuardedWhole order key before before there there p
has_guarded_none order key before there p ordered keyed named none_sent =
    let none : 0 ≡ p.names.count = sym named.count in
    record {
      input = [];
      whole = subst (λ n. 0 ≡ n * order.part) none (sym (zero-mul order.part));
      has = record {
        ordered = ordered;
        keyed = keyed;
        taken = Consumes-nil before;
        of = no_parts;
        named = subst (λ n. AreNames (guarded_names no_parts n) p.names) none named;
        written = [];
        appended = Appends-nil there;
        guards = subst (λ n. GuardsParts order key [] no_parts n []) none (record { prepared = λ i below. absurd (omega (arith, below)); sent = refl });
        cells = none_sent ∙ ap (λ n. sum_by guard_cells (map no_parts (range_with_len 0 n))) none;
      };
    }

-- ---- a part more

module _ (order : GuardOrder) (key : Key) (some : 0 < order.part) (before mid after there between : Option (List ℕ)) (old : Protector)
    (made : HasGuardedWhole order key before mid there between old) (bytes : List ℕ) (is_last : Bool) (short : is_last ≡ nat_lt (length bytes) order.part)
    (reads : ReadsPart mid after order.part bytes) where
  abbrev n : ℕ
  n = old.names.count

  abbrev of : ℕ → Guarding
  of = made.has.of

  abbrev input : List ℕ
  input = made.input ++ bytes

  reading : ReadsNext order.part before after made.input bytes n is_last
  reading = reads_next order.part some before mid after made.input bytes n is_last made.has.taken made.whole short reads

  ready : (g : Guarding) → IsGuarding old.order old.key.now is_last (guarded_names of n) bytes g → IsGuardedPart order key input of n g
  ready g prepared =
      part_same (IsGuarding order key) reading.last refl reading.are refl
      (subst (λ k. IsGuarding order k is_last (guarded_names of n) bytes g) made.has.keyed
      (subst (λ o. IsGuarding o old.key.now is_last (guarded_names of n) bytes g) made.has.ordered prepared))

  guards_so_far : GuardsParts order key input of n made.has.written
  guards_so_far = guards_longer order key some made.input bytes of n made.has.written (omega (arith, made.whole)) made.has.guards

  module _ (new : Protector) (then : Option (List ℕ)) (more : GuardsPart is_last (guarded_names of n) bytes old new between then)
      (same_order : new.order ≡ old.order) (same_key : new.key.now ≡ old.key.now) where
    abbrev all : ℕ → Guarding
    all = with_next of n more.guarding

    pub one_more : new.names.count ≡ n + 1
    one_more = more.named.count ∙ length_push (guarded_names of n) more.guarding.part.head.name ∙ ap (λ k. k + 1) (sym made.has.named.count)

    has_guarded_more : HasGuarded order key before after there then input new
    has_guarded_more =
        let named : AreNames (guarded_names all (n + 1)) new.names =
        subst (λ names. AreNames names new.names) (sym (names_all of n more.guarding (λ (g : Guarding). g.part))) more.named in
        let guards : GuardsParts order key input all (n + 1) (made.has.written ++ more.written) =
        guards_next order key input of n more.guarding made.has.written more.written guards_so_far (ready more.guarding more.prepared) more.sent in
        record {
          ordered = same_order ∙ made.has.ordered;
          keyed = same_key ∙ made.has.keyed;
          taken = reading.taken;
          of = all;
          named = subst (λ k. AreNames (guarded_names all k) new.names) (sym one_more) named;
          written = made.has.written ++ more.written;
          appended = Appends-trans there between then made.has.written more.written made.has.appended more.appended;
          guards = subst (λ k. GuardsParts order key input all k (made.has.written ++ more.written)) (sym one_more) guards;
          cells = more.cells ∙ ap (λ k. k + guard_cells more.guarding) made.has.cells ∙ sym (sum_next of n more.guarding guard_cells)
              ∙ ap (λ k. sum_by guard_cells (map all (range_with_len 0 k))) (sym one_more);
        }

    pub has_guarded_whole : is_last ≡ false → HasGuardedWhole order key before after there then new
    has_guarded_whole more_to_come =
        record { input = input; whole = subst (λ k. length input ≡ k * order.part) (sym one_more) (reading.whole more_to_come); has = has_guarded_more }

    pub protects : is_last ≡ true → (answer : Guarded) → answer.parts ≡ new.names.count → answer.cells ≡ new.cells
        → Protects order key before after there then answer
    protects ended answer parts cells =
        let has = has_guarded_more in
        record {
          input = input;
          taken = reading.taken;
          at_end = (reading.ends ended).0;
          of = has.of;
          written = has.written;
          appended = has.appended;
          parts = parts ∙ one_more ∙ ap (λ k. k + 1) (sym (reading.ends ended).1);
          guards = subst (λ k. GuardsParts order key input has.of k has.written) (sym parts) has.guards;
          cells = cells ∙ has.cells ∙ ap (λ k. sum_by guard_cells (map has.of (range_with_len 0 k))) (sym parts);
        }

  -- it stops as the part is made ready or written
  module _ (then : Option (List ℕ)) (stop : Stop) where
    unguarded : (e : Error) → stop ≡ Refused e → RefusesGuarding old.key.now is_last (guarded_names of n) bytes e → StopsUnguarded order key input of n after stop
    unguarded e is refuses =
        subst (StopsUnguarded order key input of n after) (sym is)
        (inr (inl (
          reading.read,
          subst (λ xs. RefusesGuarding key (n == last_index order.part input) (guarded_names of n) xs e) reading.are
              (subst (λ b. RefusesGuarding key b (guarded_names of n) bytes e) reading.last
              (subst (λ k. RefusesGuarding k is_last (guarded_names of n) bytes e) made.has.keyed refuses)),
        )))

    pub stops_at_part : StopsPart is_last (guarded_names of n) bytes old between then stop → StopsProtecting order key before after there then stop
    stops_at_part stops = elim stops [
      | inl (e, is, refuses, kept) ↦ record {
        input = input;
        taken = reading.taken;
        of = of;
        index = n;
        whole = omega (arith, reading.long);
        no_further = reading.no_further;
        front = made.has.written;
        guards = guards_so_far;
        next = [];
        stopped = inl (unguarded e is refuses, refl);
        appended = subst (Appends there then) (sym (append-nil made.has.written)) (Appends-kept there between then made.has.written made.has.appended kept);
      }
      | inr within ↦ record {
        input = input;
        taken = reading.taken;
        of = of;
        index = n;
        whole = omega (arith, reading.long);
        no_further = reading.no_further;
        front = made.has.written;
        guards = guards_so_far;
        next = within.written;
        stopped = inr (record { read = reading.read; guarding = within.guarding; prepared = ready within.guarding within.prepared; stopped = within.stopped });
        appended = Appends-trans there between then made.has.written within.written made.has.appended within.appended;
      }
    ]

-- ---- it stops before the next part is read

module _ (order : GuardOrder) (key : Key) (some : 0 < order.part) (before mid there then : Option (List ℕ)) (p : Protector)
    (made : HasGuardedWhole order key before mid there then p) where
  pub stops_reading : (after : Option (List ℕ)) (stop : Stop) → ReadsWithin mid after order.part → IsStopOfReads stop
      → StopsProtecting order key before after there then stop
  stops_reading after stop reads is =
      let n = p.names.count in
      let input = made.input ++ reads.piece in
      let next : (n + 1) * order.part ≡ n * order.part + order.part = omega arith in
      record {
        input = input;
        taken = Consumes-trans before mid after made.input reads.piece made.has.taken reads.taken;
        of = made.has.of;
        index = n;
        whole = omega (arith, length-append made.input reads.piece, made.whole);
        no_further = omega (arith, length-append made.input reads.piece, made.whole, reads.few, next);
        front = made.has.written;
        guards = guards_longer order key some made.input reads.piece made.has.of n made.has.written (omega (arith, made.whole)) made.has.guards;
        next = [];
        stopped = inl (unguarded input n stop is, refl);
        appended = subst (Appends there then) (sym (append-nil made.has.written)) made.has.appended;
      }
    where
      unguarded : (input : List ℕ) (n : ℕ) (stop : Stop) → IsStopOfReads stop → StopsUnguarded order key input made.has.of n after stop
      unguarded input n Fault is = tt
      unguarded input n (Refused e) (inl is) = absurd (cc is)
      unguarded input n (Refused e) (inr is) = inl (cc is)

  -- there is no number for it
  pub stops_unnumbered : p.names.count ≡ greatest_count → StopsProtecting order key before mid there then (Refused TransferTooLong)
  stops_unnumbered all =
      let n = p.names.count in
      let next : (n + 1) * order.part ≡ n * order.part + order.part = omega arith in
      record {
        input = made.input;
        taken = made.has.taken;
        of = made.has.of;
        index = n;
        whole = omega (arith, made.whole);
        no_further = omega (arith, made.whole, next);
        front = made.has.written;
        guards = made.has.guards;
        next = [];
        stopped = inl (inr (inr (refl, all, made.whole)), refl);
        appended = subst (Appends there then) (sym (append-nil made.has.written)) made.has.appended;
      }
