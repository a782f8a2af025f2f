-- Who takes a token.
-- 01: "A token matches if AD_EN is set and the address agrees; endpoint 0 also at address 0 with DEF, AD_EN or not (H)."
use Rattle.std.specs.Prelude.{ℕ, ◌+◌, ◌*◌, ◌%◌, Bool, ◌&&◌, ◌||◌, eqb, Option, None, Some}
use Rattle.std.specs.Int.Count.{count_trailing_zeros}
use Rattle.choice.specs.Choice.{pick}
use Rattle.window.specs.declared.FifoNumber.{FifoNumber}
use Rattle.window.specs.Window.{numbered}
use Rattle.event.specs.declared.BusEndpoint.{BusEndpoint}
use Rattle.epc.specs.Bits.{bit_of}
use Rattle.epc.specs.Epc.{takes}
use Rattle.state.specs.declared.Chip.{Chip}
use Rattle.state.specs.State.{sender_at, receiver_at}
use Rattle.state.specs.declared.Endpoint.{Endpoint}

-- "AD_EN is set and the address agrees"
unfoldable pub own : ℕ → Chip → Bool
own address c = c.aden && eqb c.address address

-- "endpoint 0 (bus endpoint 0 only)"; "endpoint 0 also at address 0 with DEF, AD_EN or not (H)"
unfoldable pub zero_takes : ℕ → BusEndpoint → Chip → Bool
zero_takes address e c = eqb e.0 0 && (own address c || eqb address 0 && c.control.def)

-- "the endpoints with EP_EN and that number": the one that sends from a FIFO, the one that receives into it
unfoldable pub sender_takes : ℕ → BusEndpoint → FifoNumber → Chip → Bool
sender_takes address e n c = own address c && takes (sender_at n c).epc e

unfoldable pub receiver_takes : ℕ → BusEndpoint → FifoNumber → Chip → Bool
receiver_takes address e n c = own address c && takes (receiver_at n c).epc e

-- "In its direction": endpoints 0, 1, 3, 5 for IN, and 0, 2, 4, 6 for OUT; endpoint k that matches is bit k of the mask
unfoldable pub in_mask : ℕ → BusEndpoint → Chip → ℕ
in_mask address e c =
    bit_of (zero_takes address e c)
    + 2 * bit_of (sender_takes address e (numbered 1) c)
    + 8 * bit_of (sender_takes address e (numbered 2) c)
    + 32 * bit_of (sender_takes address e (numbered 3) c)

unfoldable pub out_mask : ℕ → BusEndpoint → Chip → ℕ
out_mask address e c =
    bit_of (zero_takes address e c)
    + 4 * bit_of (receiver_takes address e (numbered 1) c)
    + 16 * bit_of (receiver_takes address e (numbered 2) c)
    + 64 * bit_of (receiver_takes address e (numbered 3) c)

-- "the lowest-numbered of all that match takes the token. No match: silence."
unfoldable pub winner : ℕ → Option Endpoint
winner mask = pick (eqb mask 0) None (Some (record { 0 = count_trailing_zeros 32 mask % 8 }))
