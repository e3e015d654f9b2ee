use Rattle.std.proofs.Common.{◌+◌, [], ◌∷◌, Err, map, drop, sym, ap, ◌∙◌}
use Rattle.std.proofs.lemmas.List.{map-append}
use Rattle.clap.specs.Words.{found_of, rows_of}
use Rattle.rq_words.proofs.Naming.{named_behind, named_first, passed_are, read_all, read_on, read_wrong}
use Rattle.rq_words.proofs.receiving.passed_of.Goals as goal

pub names-init : goal.names-init
names-init c =
    let texts = map (λ s. s.now) c.deref-text-items.result.now in
    record { behind = named_first texts ∙ ap (λ ns. named_behind (map (λ n. n.items) ns) texts) (sym c.new-passed.ensures.items) }

pub names-preserved : goal.names-preserved
names-preserved c =
    let items = c.deref-text-items.result.now in
    let at = c.names.text-index in
    let names = map (λ n. n.items) c.names.passed.items in
    let more = ap (map (λ n. n.items)) c.in_ok-push.ensures.items ∙ map-append (λ n. n.items) c.names.passed.items (c.in-Some-2.name ∷ []) in
    record {
      behind = read_on (λ s. s.now) items at _ names c.in-Some-2.name.items c.names-test.true c.names.invariant.behind
          (rw c.in-Some-2.is at c.in_ok-name.ensures)
          ∙ ap (λ ns. named_behind ns (drop (at + 1) (map (λ s. s.now) items))) (sym more);
    }

pub returns-in_default-2 : goal.returns-in_default-2
returns-in_default-2 c =
    let rows = rows_of (found_of c.args.matches.now) in
    let items = c.deref-text-items.result.now in
    let names = map (λ n. n.items) c.names.passed.items in
    let few = rw c.deref.ensures.value at c.in_default.ensures.lookup.3 in
    ap Err c.no_name-in_default-2.ensures
    ∙ passed_are (λ s. s.now) rows items c.in_ok-texts.texts.items _ c.deref-text-items.ensures.value c.in_ok-texts.ensures few
    (read_wrong (λ s. s.now) items c.names.text-index _ names c.names-test.true c.names.invariant.behind (rw c.in_default-2.is at c.in_ok-name.ensures))

pub returns : goal.returns
returns c =
    let rows = rows_of (found_of c.args.matches.now) in
    let items = c.deref-text-items.result.now in
    let names = map (λ n. n.items) c.names.passed.items in
    let few = rw c.deref.ensures.value at c.in_default.ensures.lookup.3 in
    passed_are (λ s. s.now) rows items c.in_ok-texts.texts.items _ c.deref-text-items.ensures.value c.in_ok-texts.ensures few
    (read_all (λ s. s.now) items c.names.text-index names c.names-test.false c.names.invariant.behind)
