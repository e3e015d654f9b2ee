-- What a clause reads of an input.
use Rattle.std.specs.Prelude.{ℕ, Bool, List, take, Option, if◌then◌else◌}
use Rattle.std.specs.Io.KnownBytes.{prepend_known}
use Rattle.rq_streams.specs.declared.counted.Counted.{Counted}
use Rattle.rq_streams.specs.Counted.{inner}
use Rattle.rq_cast.specs.declared.input.Input.{Input}

-- the reader that counts its failed calls
abbrev pub counted_of : {R : Type 0} → Input R → Counted R
counted_of i = i.reader

-- the reader that this counts for
abbrev pub source : {R : Type 0} → Input R → R
source i = inner i.reader

-- what the last read brought
abbrev pub last_piece : {R : Type 0} → Input R → List ℕ
last_piece i = take i.last i.chunk

-- whether that is read again
abbrev pub is_put_back : {R : Type 0} → Input R → Bool
is_put_back i = i.is_again

-- what isn't read yet: what its reader still has, and before that what the last read brought, where it is read again
abbrev pub unread : {R : Type 0} → (R → Option (List ℕ)) → Input R → Option (List ℕ)
unread remaining i = if i.is_again then prepend_known (last_piece i) (remaining (source i)) else remaining (source i)
