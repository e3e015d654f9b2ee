-- Parts of a stream: their names, and what ends the last one.
use Rattle.std.specs.Prelude.{◌≡◌, ℕ, ◌+◌, ◌^◌, List, [], ◌∷◌, ◌++◌, length, take, map, Bool, if◌then◌else◌}
use Rattle.std.specs.List.{concat, flat_map, range_with_len}
use Rattle.sha2.specs.Sha512.{sha512}
use Rattle.rq_standard.specs.Configuration.{Configuration}
use Rattle.rq_standard.specs.Headline.{block_source}
use Rattle.rq_cells.specs.declared.head.Head.{Head}
use Rattle.rq_cells.specs.Cells.{digest_of, part_name}

-- ---- names

-- the digests of an object's source symbols, block by block
abbrev pub source_digests : Configuration → List ℕ → List (List ℕ)
source_digests c object = flat_map (λ b. map digest_of (block_source c object b)) (range_with_len 0 c.source_blocks)

-- the name of the part of a number that is this object
abbrev pub name_of_part : ℕ → Configuration → List ℕ → List ℕ
name_of_part number c object = part_name number c (source_digests c object)

-- ---- a part of a stream

-- how many parts a stream has at most
abbrev pub greatest_count : ℕ
greatest_count = 2 ^ 30

-- the number of the part of an index: with a bit more where it is the last one
abbrev pub number_of : Bool → ℕ → ℕ
number_of is_last index = if is_last then index + 2 ^ 31 else index

-- what ends the last part, by the names of all parts before it
abbrev pub seal_of : List (List ℕ) → List ℕ
seal_of names = take 32 (sha512 (concat names))

-- the object of a part behind parts of these names: its bytes, and behind those of the last one the seal
abbrev pub object_of : Bool → List (List ℕ) → List ℕ → List ℕ
object_of is_last names bytes = if is_last then bytes ++ seal_of names else bytes

-- the stream, by the names of its parts: it begins that of the first
abbrev pub stream_of_names : List (List ℕ) → List ℕ
stream_of_names names = take 8 (concat names)

-- the head of the cells of the part behind parts of these names that is this object
abbrev pub part_head : Bool → List (List ℕ) → Configuration → List ℕ → Head
part_head is_last names c object =
    let number = number_of is_last (length names) in
    let name = name_of_part number c object in
    record { stream = stream_of_names (names ++ (name ∷ [])); number = number; name = name; configuration = c }

-- An object is the part of a stream behind parts of these names, as a head says, and has these bytes.
pub record IsPart (is_last : Bool) (names : List (List ℕ)) (h : Head) (object bytes : List ℕ) : Type 0 where
  pub number : h.number ≡ number_of is_last (length names)
  pub stream : h.stream ≡ stream_of_names (names ++ (h.name ∷ []))
  pub named : name_of_part h.number h.configuration object ≡ h.name
  pub ended : object ≡ object_of is_last names bytes
