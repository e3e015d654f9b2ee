-- What the check leaves to show of `matrix::DenseBinaryMatrix::query_non_zero_columns_into`.
use Rattle.std.proofs.Common.{◌≡◌, ◌≤◌, ℕ, ◌-◌, List, [], ◌∷◌, ◌++◌, map, get_or, length, sym, subst, ap, ◌∙◌, arith, append-nil}
use Rattle.std.proofs.lemmas.List.{length-append, length-map}
use Rattle.std.specs.List.Sorted.{IsStrictlyIncreasing}
use Rattle.rq_bytes.specs.BinaryOctetVec.{packed_bit}
use Rattle.rq_standard.specs.BitTableSteps.{ArePlacesOfOnes}
use Rattle.rq_matrix.proofs.Pairs.{places-ascend, are_places_of_ones, length-ones}
use Rattle.rq_matrix.proofs.matrix.DenseBinaryMatrixBinaryMatrix.query_non_zero_columns_into.Goals as goal

pub push_reserved-requires : goal.push_reserved-requires
push_reserved-requires c =
    let kept = c.loop-column.invariant in
    let row = get_or c.args.self.now.rows c.args.row [] in
    let pair : ℕ × ℕ = (c.in-Some.column, c.in-Some.field-0-1) in
    let width = c.args.self.now.width in
    let left : length (c.loop-column.yielded ++ pair ∷ c.next.new.self) ≤ width - c.args.start_col =
    subst (λ (l : List (ℕ × ℕ)). length l ≤ width - c.args.start_col) (kept.whole ∙ ap (λ l. c.loop-column.yielded ++ l) c.in-Some.ensures.steps) (length-ones row c.args.start_col (width - c.args.start_col))
    in
    omega (arith, c.loop-column.out.ok.0, left, length-append c.loop-column.yielded (pair ∷ c.next.new.self), ap length kept.columns, length-map c.loop-column.yielded (λ (p : ℕ × ℕ). p.0), kept.room)

-- once all pairs came, the list has their places
places : (out : List ℕ) (ones yielded left : List (ℕ × ℕ)) → ones ≡ yielded ++ left → left ≡ [] → out ≡ map (λ (pair : ℕ × ℕ). pair.0) yielded → map (λ (pair : ℕ × ℕ). pair.0) ones ≡ out
places out ones yielded left whole none columns = ap (map (λ (pair : ℕ × ℕ). pair.0)) (whole ∙ ap (λ l. yielded ++ l) none ∙ append-nil yielded) ∙ sym columns

pub returns-clause-ok : goal.returns-clause-ok
returns-clause-ok c =
    let row = get_or c.args.self.now.rows c.args.row [] in
    let width = c.args.self.now.width in
    let start = c.args.start_col in
    let kept = c.loop-column.invariant in
    let within : start ≤ width = omega (arith, c.requires.dense, c.args.self.now.within) in
    subst (ArePlacesOfOnes (packed_bit row) start width) (places c.loop-column.out.items _ c.loop-column.yielded c.loop-column.column-iterator kept.whole c.in-None.ensures.steps.0 kept.columns) (are_places_of_ones row start width within)

pub returns-clause-ascending : goal.returns-clause-ascending
returns-clause-ascending c =
    let kept = c.loop-column.invariant in
    subst IsStrictlyIncreasing (places c.loop-column.out.items _ c.loop-column.yielded c.loop-column.column-iterator kept.whole c.in-None.ensures.steps.0 kept.columns)
    (places-ascend (get_or c.args.self.now.rows c.args.row []) c.args.start_col c.args.self.now.width)
