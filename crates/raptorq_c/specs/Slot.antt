-- What a pointer that C keeps points to: what is kept of a coder, or nothing: then it is null.
use base.Fml.{Fml, feq}
use base.Stored.{Coded}
use denote.RawPtr.{Ptr, null_ptr}
use Rattle.std.specs.Prelude.{Option, Some, None}
use Rattle.std.specs.Coded.{coded_option}
use Rattle.std.specs.contracts.impls.GlobalAllocator.TheImpl.{ghosts}
use Rattle.std_alloc.specs.Box.Ownership.{box_owns}
use Rattle.raptorq_c.specs.Kept.{heap}
use Rattle.raptorq_c.specs.declared.kept.Kept.{Kept}
use Rattle.raptorq_c.specs.contracts.kept.Kept.{the_row}

abbrev pub slot_at : Ptr → Option Kept → Fml
slot_at p None = feq Ptr p null_ptr
slot_at p (Some kept) = box_owns (ghosts.dealloc_token heap) the_row p kept

abbrev pub slot_coded : Coded (Option Kept)
slot_coded = coded_option (the_row).coded
