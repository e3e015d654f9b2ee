-- What a check says of a file: which symbols of each part are damaged, and whether it ends too early or too late.
use Rattle.std.specs.Prelude.{◌≡◌, ℕ, ◌-◌, ◌<◌, List, [], ◌∷◌, ◌++◌, length, Option, Bool, true, false, not, ◌==◌, ◌&&◌, vec_len}
use Rattle.std.specs.List.{list_all}
use Rattle.std.specs.Io.KnownBytes.{Consumes, IsAtEnd}
use Rattle.rq_cast.specs.PartReading.{ReadsPart}
use Rattle.rq_guard.specs.declared.list.DigestList.{DigestList}
use Rattle.rq_guard.specs.declared.damage_check.PartDamage.{PartDamage}
use Rattle.rq_guard.specs.declared.damage_check.FileDamage.{FileDamage}
use Rattle.rq_guard.specs.Lists.{Listed, listed_of}
use Rattle.rq_guard.specs.Damage.{part_length, object_there, damaged_symbols}

-- Of a part as many bytes are read as it has, and fewer at the end alone. With what is read these of its symbols are damaged, and so many bytes are missing.
pub record IsPartDamage (names : List (List ℕ)) (l : Listed) (before after : Option (List ℕ)) (d : PartDamage) : Type 0 where
  pub bytes : List ℕ
  pub read : ReadsPart before after (part_length l.head) bytes
  pub symbols_are : d.symbols.items ≡ damaged_symbols l (object_there l.head names bytes)
  pub missing_is : d.missing ≡ part_length l.head - length bytes

-- so it is of parts one behind another
abbrev pub ArePartDamages : List (List ℕ) → List DigestList → Option (List ℕ) → Option (List ℕ) → List PartDamage → Type 0
ArePartDamages names [] before after ds = (ds ≡ []) × (after ≡ before)
ArePartDamages names (l ∷ lists) before after [] = ⊥
ArePartDamages names (l ∷ lists) before after (d ∷ ds) =
    (mid : Option (List ℕ)) × IsPartDamage names (listed_of l) before mid d × ArePartDamages (names ++ (l.head.name ∷ [])) lists mid after ds

-- Nothing more is there, or something is.
abbrev pub EndsThere : Option (List ℕ) → Option (List ℕ) → Bool → Type 0
EndsThere before after true = IsAtEnd after × Consumes before after []
EndsThere before after false = (more : List ℕ) × (0 < length more) × Consumes before after more

-- the parts of a file, and whether it is longer
pub record IsFileDamage (lists : List DigestList) (before after : Option (List ℕ)) (d : FileDamage) : Type 0 where
  pub mid : Option (List ℕ)
  pub parts_are : ArePartDamages [] lists before mid d.parts.items
  pub ends : EndsThere mid after (not d.longer)

-- each symbol has its digest, and no byte is missing
abbrev pub is_whole_part : PartDamage → Bool
is_whole_part d = (vec_len d.symbols == 0) && (d.missing == 0)

-- each part is so, and none stands behind them
abbrev pub is_whole_file : FileDamage → Bool
is_whole_file d = list_all is_whole_part d.parts.items && not d.longer
