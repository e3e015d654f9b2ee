-- What a pointer that C keeps owns: a coder on the heap, or nothing.
use base.Fml.{Fml, ftrue}
use base.Stored.{Coded}
use denote.RawPtr.{Ptr}
use Rattle.std.specs.Prelude.{Option, Some, None}
use Rattle.std.specs.Coded.{coded_option}
use Rattle.std.specs.declared.alloc.Global.{Global}
use Rattle.std.specs.contracts.impls.GlobalAllocator.TheImpl.{ghosts}
use Rattle.std_alloc.specs.Box.Ownership.{box_owns}
use Rattle.raptorq_c.specs.declared.kept.Coder.{Coder}
use Rattle.raptorq_c.specs.contracts.kept.Coder.{the_row}

-- the one heap that there is
abbrev pub heap : Global
heap = record { memory = record { seal = tt } }

abbrev pub kept_at : Ptr → Option Coder → Fml
kept_at p None = ftrue
kept_at p (Some coder) = box_owns (ghosts.dealloc_token heap) the_row p coder

abbrev pub kept_coded : Coded (Option Coder)
kept_coded = coded_option (the_row).coded
