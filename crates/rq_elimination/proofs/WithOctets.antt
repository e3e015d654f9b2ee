-- Rows whose first octets are those that another one has in columns.
use Rattle.std.proofs.Common.{◌≡◌, ℕ, ◌+◌, ◌-◌, ◌<◌, ◌≤◌, List, [], ◌∷◌, ◌++◌, length, map, take, drop, set, sym, ap, ◌∙◌, arith}
use Rattle.std.proofs.Math.ListN.{get_or-append}
use Rattle.std.proofs.Math.Seq.{append_snoc, set-append_seam}
use Rattle.std.proofs.lemmas.List.{drop_more, ext_get_or, get_or-append_right, get_or-drop, get_or-map, length-append, length-drop, length-map, length-take-le, map-append, take_more}
use Rattle.rq_algebra.specs.Systems.{at}
use Rattle.rq_elimination.specs.InactiveEntries.{with_column_octets}

module _ (octets columns row : List ℕ) where
  pub length-octets : length columns ≤ length row → length (with_column_octets octets columns row) ≡ length row
  length-octets room = omega (arith, length-append (map (at octets) columns) (drop (length columns) row), length-map columns (at octets), length-drop (length columns) row)

  -- one octet more
  pub octets_next : (f : ℕ) → f < length columns → f < length row → set (map (at octets) (take f columns) ++ drop f row) f (at octets (at columns f)) ≡ map (at octets) (take (f + 1) columns) ++ drop (f + 1) row
  octets_next f l m =
      let first : List ℕ = map (at octets) (take f columns) in
      let next : ℕ = at octets (at columns f) in
      let long : length first ≡ f = length-map (take f columns) (at octets) ∙ length-take-le f columns (omega arith) in
      ap (λ (behind : List ℕ). set (first ++ behind) f next) (drop_more row f 0 m)
      ∙ ap (λ n. set (first ++ at row f ∷ drop (f + 1) row) n next) (sym long)
      ∙ set-append_seam first (at row f) (drop (f + 1) row) next
      ∙ sym (append_snoc first next (drop (f + 1) row))
      ∙ ap (λ (r : List ℕ). r ++ drop (f + 1) row) (sym (map-append (at octets) (take f columns) (at columns f ∷ [])) ∙ ap (map (at octets)) (sym (take_more columns f 0 l)))

  pub octets_of_none : length row ≡ 0 → length columns ≤ length row → with_column_octets octets columns row ≡ row
  octets_of_none none room =
      let long = length-octets room in
      ext_get_or 0 (with_column_octets octets columns row) row long (λ i l. absurd (omega (arith, l, long, none)))

  pub octet_first : (f : ℕ) → f < length columns → at (with_column_octets octets columns row) f ≡ at octets (at columns f)
  octet_first f l = get_or-append (map (at octets) columns) (drop (length columns) row) 0 f (omega (arith, length-map columns (at octets))) ∙ get_or-map (at octets) columns f 0 0 l

  pub octet_behind : (k : ℕ) → length columns ≤ k → at (with_column_octets octets columns row) k ≡ at row k
  octet_behind k l =
      let there : length columns + (k - length columns) ≡ k = omega arith in
      get_or-append_right (map (at octets) columns) (drop (length columns) row) (length columns) k 0 (length-map columns (at octets)) l ∙ get_or-drop (length columns) row (k - length columns) 0 ∙ ap (at row) there
