-- What a handle owns.
use Rattle.std.specs.Prelude.{Option, Some, None}
use base.Fml.{Fml, ftrue}
use denote.RawPtr.{Ptr}
use Rattle.std.specs.contracts.impls.GlobalAllocator.TheImpl.{ghosts}
use Rattle.std.specs.Box.Ownership.{box_owns}
use Rattle.desk.specs.Serving.{Coordinator}
use Rattle.desk_handle.specs.contracts.handle.Boxed.{the_row}

-- nothing, or the coordinator that lies where the handle points, with the right to free it
abbrev pub handle_owns : Ptr → Option Coordinator → Fml
handle_owns p None = ftrue
handle_owns p (Some d) = box_owns (ghosts.dealloc_token (record { memory = record { seal = tt } })) the_row p (record { desk = d })
