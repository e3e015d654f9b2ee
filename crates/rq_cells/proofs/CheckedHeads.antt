-- The cells among heads.
use Rattle.std.proofs.Common.{◌≡◌, ℕ, ◌+◌, ◌<◌, List, [], ◌∷◌, ◌++◌, length, take, drop, map, get_or, sym, ap, ◌∙◌, drop-drop, Option}
use Rattle.std.specs.List.{All, cons_option}
use Rattle.std.specs.Prelude.{filter_map}
use Rattle.std.proofs.lemmas.List.{take_more, get_or-map}
use Rattle.std.proofs.lemmas.List.Elements.{All-get_or, filter_map-append}
use Rattle.sha2.specs.Sha512.{sha512}
use Rattle.rq_cells.specs.declared.long_heads.LongHead.{LongHead}
use Rattle.rq_cells.specs.Cells.{Key, digest_of}
use Rattle.rq_cells.specs.LongHeads.{IsHeaded, symbol_at}
use Rattle.rq_cells.proofs.CellBytes.{symbol_there}

-- one more
pub found_next : {X Y : Type 0} (f : X → Option Y) (xs : List X) (i : ℕ) (d : X) → i < length xs
    → filter_map f (take (i + 1) xs) ≡ filter_map f (take i xs) ++ cons_option (f (get_or xs i d)) []
found_next f xs i d below = ap (filter_map f) (take_more xs i d below) ∙ filter_map-append f (take i xs) (get_or xs i d ∷ [])

-- the digest of the symbol behind a head, by the hashes of all symbols
pub digest_there : (key : Key) (size : ℕ) (bytes : List ℕ) (heads : List LongHead) (hashes : List (List ℕ)) (i : ℕ) (d : LongHead) (e : List ℕ)
    → hashes ≡ map (λ h. sha512 (symbol_at size bytes h)) heads → i < length heads → All (IsHeaded key size bytes) heads
    → take 32 (get_or hashes i e) ≡ digest_of (symbol_there (get_or heads i d).head (drop (get_or heads i d).at bytes))
digest_there key size bytes heads hashes i d e made below headed =
    let h = get_or heads i d in
    let is = All-get_or (IsHeaded key size bytes) heads i d below headed in
    ap (take 32)
    (ap (λ xs. get_or xs i e) made ∙ get_or-map (λ k. sha512 (symbol_at size bytes k)) heads i d e below
    ∙ ap sha512 (λ j. take (sym is.size j) (sym (drop-drop 56 h.at bytes) j)))
