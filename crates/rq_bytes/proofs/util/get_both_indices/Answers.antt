-- What the check leaves to show of `util::get_both_indices`.
use Rattle.std.proofs.Common.{◌≡◌, ℕ, ◌<◌, List, ◌++◌, length, get_or, set, refl, sym, ap, ◌∙◌, arith, length-set}
use Rattle.std.proofs.lemmas.List.{set_comm, set-append_left, set-append_right, get_or_append_left, get_or-append_right}
use Rattle.rq_bytes.proofs.util.get_both_indices.Goals as goal

-- a list in two parts
module _ {X : Type 0} (xs front back : List X) (n : ℕ) (is : xs ≡ front ++ back) (long : length front ≡ n) where
  get_or-front : (i : ℕ) (d : X) → i < n → get_or xs i d ≡ get_or front i d
  get_or-front i d lt = ap (λ ys. get_or ys i d) is ∙ get_or_append_left front back d i (omega arith)

  get_or-back : (d : X) → get_or xs n d ≡ get_or back 0 d
  get_or-back d = ap (λ ys. get_or ys n d) is ∙ get_or-append_right front back n n d long (omega arith) ∙ ap (λ k. get_or back k d) (omega arith)

  set-front : (i : ℕ) (x : X) → i < n → set xs i x ≡ set front i x ++ back
  set-front i x lt = ap (λ ys. set ys i x) is ∙ set-append_left front back i x (omega arith)

  -- both
  set_both : (i : ℕ) (x y : X) → i < n → set front i x ++ set back 0 y ≡ set (set xs i x) n y
  set_both i x y lt =
      sym (set-append_right (set front i x) back n n y (length-set front i x ∙ long) (omega arith) ∙ ap (λ k. set front i x ++ set back k y) (omega arith))
      ∙ ap (λ ys. set ys n y) (sym (set-front i x lt))

pub returns-then-i-j : goal.returns-then-i-j
returns-then-i-j g c =
    let xs = c.args.vector.now in
    let front = c.split_at_mut-front.result.0.now in
    let back = c.split_at_mut-front.result.1.now in
    let is = c.split_at_mut-front.ensures.value in
    let long = c.split_at_mut-front.ensures.front_len in (
      ((refl, refl), λ x y. set_both xs front back c.args.j is long c.args.i x y c.if-i-j.true),
      record {
        writes_back = tt;
        first = c.index-front-i.is ∙ sym (get_or-front xs front back c.args.j is long c.args.i c.index-front-i.result c.if-i-j.true);
        second = c.index-back-0.is ∙ sym (get_or-back xs front back c.args.j is long c.index-back-0.result);
      },
    )

pub returns-else-i-j : goal.returns-else-i-j
returns-else-i-j g c =
    let xs = c.args.vector.now in
    let i = c.args.i in
    let j = c.args.j in
    let front = c.split_at_mut-front-else-i-j.result.0.now in
    let back = c.split_at_mut-front-else-i-j.result.1.now in
    let is = c.split_at_mut-front-else-i-j.ensures.value in
    let long = c.split_at_mut-front-else-i-j.ensures.front_len in
    let lt : j < i = omega (arith, c.requires.two) in (
      ((refl, refl), λ x y. set_both xs front back i is long j y x lt ∙ set_comm xs j i y x (λ e. c.requires.two (sym e))),
      record {
        writes_back = tt;
        first = c.index-back-0-else-i-j.is ∙ sym (get_or-back xs front back i is long c.index-back-0-else-i-j.result);
        second = c.index-front-j.is ∙ sym (get_or-front xs front back i is long j c.index-front-j.result lt);
      },
    )
