-- What is the driver's own: its two endpoints, and the register accesses that are reserved to it.
use Rattle.std.specs.Prelude.{Bool, false, ◌||◌, eqb}
use Rattle.event.specs.declared.Event.{Event}
use Rattle.event.specs.declared.Event.TheVariants as event
use Rattle.window.specs.Window.{numbered}
use Rattle.laws.specs.Place.{Place, sends, receives}
use Rattle.laws.specs.Settings.{is_setting}

-- endpoint 1 sends from TXFIFO1, endpoint 2 receives into RXFIFO1
pub data Piped : Place → Type 0 where
  endpoint1 : Piped (sends (numbered 1))
  endpoint2 : Piped (receives (numbered 1))

-- "Reserved to it: reads of 2A, 2D, 2E; writes of 00, 04, 05, 28, 29, 2B, 2C, 2F."
unfoldable pub reserved : Event → Bool
reserved (event.Read a) = eqb a 0x2A || eqb a 0x2D || eqb a 0x2E
reserved (event.Write a v) = is_setting a || eqb a 0x28 || eqb a 0x29 || eqb a 0x2B || eqb a 0x2C || eqb a 0x2F
reserved (event.In a e) = false
reserved (event.Out a e) = false
reserved (event.Setup a e) = false
reserved (event.Data pid sound) = false
reserved event.Ack = false
reserved event.Timeout = false
