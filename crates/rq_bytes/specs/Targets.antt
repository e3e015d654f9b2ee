-- Where multiples are added, and the octets that multiply.
use Rattle.std.specs.Prelude.{ℕ, ◌*◌}
use Rattle.rq_algebra.specs.Operations.{meant_at}
use Rattle.rq_bytes.specs.SymbolSlab.{Slab}
use Rattle.rq_bytes.specs.declared.range_multiples.Target.{Target}
use Rattle.rq_bytes.specs.declared.symbol_slab.multiples.Multiple.{Multiple}

abbrev pub start_and_octet : Target → ℕ × ℕ
start_and_octet target = (target.start, target.factor.octet)

-- where the symbol begins in the buffer of a slab to which a multiple is added
abbrev pub start_and_octet_in : Slab → Multiple → ℕ × ℕ
start_and_octet_in slab multiple = (meant_at slab.order multiple.dest * slab.symbol_size, multiple.scalar)
