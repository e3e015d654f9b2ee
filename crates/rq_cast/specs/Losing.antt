-- Which calls lose a cell.
use Rattle.std.specs.Prelude.{ℕ, pos, ◌||◌, Bool, true, false, Result, Ok, Err, Some}
use Rattle.std.specs.Option.{option_eq}
use Rattle.std.specs.Ordering.{int_eq}
use Rattle.std.specs.IoError.{error_kind, raw_os_error}
use Rattle.std.specs.declared.io.Error.{Error}
use Rattle.std.specs.declared.io.ErrorKind.{ErrorKind}
use Rattle.std.specs.declared.io.ErrorKind.TheVariants.{ConnectionRefused, NetworkUnreachable, HostUnreachable, NetworkDown}

-- A datagram is lost by a call that fails so, and no more: nobody listens there, no way leads there, or the network is down.
abbrev pub is_of_network : ErrorKind → Bool
is_of_network ConnectionRefused = true
is_of_network NetworkUnreachable = true
is_of_network HostUnreachable = true
is_of_network NetworkDown = true
is_of_network _ = false

-- or it has no room now, which is number 105 of Linux, and no kind
abbrev pub is_without_room : Error → Bool
is_without_room e = option_eq int_eq (raw_os_error e) (Some (pos 105))

abbrev pub loses : Error → Bool
loses e = is_of_network (error_kind e) || is_without_room e

abbrev pub is_lost : Result ℕ Error → Bool
is_lost (Ok n) = false
is_lost (Err e) = loses e
