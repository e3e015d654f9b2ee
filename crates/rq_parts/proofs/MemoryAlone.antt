-- What a call answered, past the `map_err` that tells want of memory by its type.
use Rattle.std.proofs.Common.{◌≡◌, true, Result, Ok, Err, OnOk, MatchResult}
use Rattle.std.specs.Result.{is_ok}

pub ok_past : {T E : Type 0} (D : Type 0) (refused : E → Type 0) (r : Result T E) {x : T} → true ≡ is_ok r → MatchResult r (λ y. ◌≡◌ {A = Result T D} (Ok x) (Ok y)) refused → r ≡ Ok x
ok_past D refused (Ok y) is same = cc
ok_past D refused (Err e) is same = absurd (cc)

pub on_ok_past : {T E P : Type 0} (r : Result T E) → true ≡ is_ok r → OnOk r P → P
on_ok_past (Ok x) is p = p
on_ok_past (Err e) is p = absurd (cc)
