-- EPC1 to EPC6: "7 STALL, 5 ISO, 4 EP_EN, 3..0 bus endpoint".
use Rattle.std.specs.Prelude.{ℕ, ◌+◌, ◌*◌, ◌%◌, Bool, false, ◌&&◌, not, eqb}
use Rattle.event.specs.declared.BusEndpoint.{BusEndpoint}
use Rattle.event.specs.Event.{bus_endpoint}
use Rattle.epc.specs.declared.Epc.{Epc}
use Rattle.epc.specs.Bits.{bit_of, has}

abbrev pub reset_epc : Epc
reset_epc = record { stall = false; iso = false; enabled = false; number = bus_endpoint 0 }

-- what a write stores
abbrev pub epc_of : ℕ → Epc
epc_of v = record { stall = has 128 v; iso = has 32 v; enabled = has 16 v; number = bus_endpoint (v % 16) }

-- what a read shows
abbrev pub epc_value : Epc → ℕ
epc_value p = 128 * bit_of p.stall + 32 * bit_of p.iso + 16 * bit_of p.enabled + p.number.0 % 16

-- "the endpoints with EP_EN and that number"; "H: with ISO set it matches no token"
unfoldable pub takes : Epc → BusEndpoint → Bool
takes p e = not p.iso && p.enabled && eqb p.number.0 e.0
