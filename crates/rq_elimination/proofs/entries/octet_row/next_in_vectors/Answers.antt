-- What the check leaves to show of `entries::octet_row::next_in_vectors`.
use Rattle.std.proofs.Common.{◌+◌, arith, inl, inr}
use Rattle.std.proofs.lemmas.Bool.{cases_lt}
use Rattle.rq_elimination.proofs.NonzeroLanes.{all_zeros, first_one, ones_ahead, same_vector}
use Rattle.rq_parts.proofs.LowestOnes.{clears_lowest}
use Rattle.rq_elimination.proofs.entries.octet_row.next_in_vectors.Goals as goal

pub returns-then-start-end-clause-next : goal.returns-then-start-end-clause-next
returns-then-start-end-clause-next c = λ k l m.
    let v = c.loop-rest.invariant in
    elim (cases_lt k c.loop-rest.start) [
      | inl early ↦ v.zeros k (omega arith) early
      | inr late ↦ all_zeros c.args.octets.now c.loop-rest.start c.args.place c.loop-rest.rest v.ones c.loop-rest-test.true k (omega arith) late (omega (arith, m, c.if-start-end.true))
    ]

pub loop-rest-preserved : goal.loop-rest-preserved
loop-rest-preserved c =
    let v = c.loop-rest.invariant in
    let start = c.loop-rest.start in
    let whole = v.whole in
    let near = v.near in
    record {
      whole = omega (arith, whole);
      room = omega (arith, whole, c.requires.whole, c.requires.end, c.if-start-end.false);
      near = omega (arith, near);
      ones = ones_ahead c.args.octets.now (start + 32) c.nonzero_lanes.result c.nonzero_lanes.ensures.bits c.nonzero_lanes.ensures.few c.args.place near;
      zeros = λ k l m. elim (cases_lt k start) [
        | inl early ↦ v.zeros k l early
        | inr late ↦ all_zeros c.args.octets.now start c.args.place c.loop-rest.rest v.ones c.loop-rest-test.true k l late m
      ];
    }

pub returns-then-found-end-clause-next : goal.returns-then-found-end-clause-next
returns-then-found-end-clause-next c = λ k l m.
    let v = c.loop-rest.invariant in
    let first = first_one c.args.octets.now c.loop-rest.start c.args.place c.loop-rest.rest v.ones _ _ (clears_lowest c.loop-rest.rest c.loop-rest-test.false (omega arith)) in
    elim (cases_lt k c.loop-rest.start) [
      | inl early ↦ v.zeros k (omega arith) early
      | inr late ↦ first.zeros k (omega arith) late (omega (arith, m, c.if-found-end.true))
    ]

pub returns-clause-next : goal.returns-clause-next
returns-clause-next c =
    let v = c.loop-rest.invariant in
    let first = first_one c.args.octets.now c.loop-rest.start c.args.place c.loop-rest.rest v.ones _ _ (clears_lowest c.loop-rest.rest c.loop-rest-test.false (omega arith)) in (
      (
        omega (arith, first.after),
        omega arith,
        first.some,
        λ k l m. elim (cases_lt k c.loop-rest.start) [
          | inl early ↦ v.zeros k (omega arith) early
          | inr late ↦ first.zeros k (omega arith) late m
        ],
      ),
      c.new.ensures,
    )

pub returns-clause-rest : goal.returns-clause-rest
returns-clause-rest c =
    let v = c.loop-rest.invariant in
    let first = first_one c.args.octets.now c.loop-rest.start c.args.place c.loop-rest.rest v.ones _ _ (clears_lowest c.loop-rest.rest c.loop-rest-test.false (omega arith)) in
    let whole = v.whole in
    let inside = first.inside in
    rw (same_vector c.loop-rest.start _ whole inside) first.others
