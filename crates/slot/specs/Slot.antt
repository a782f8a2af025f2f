-- Which endpoint's register an address from 28 to 3F names.
-- 01: "EPC1 to EPC6 at 28, 2C .. 3C"; "The next three addresses are TXD, TXS, TXC for 1, 3, 5 and RXD, RXS, RXC for 2, 4, 6."
use Rattle.std.specs.Prelude.{ℕ, zero, suc, ◌+◌, ◌*◌, ◌/◌, ◌%◌, ltb}
use Rattle.window.specs.declared.FifoNumber.{FifoNumber}
use Rattle.window.specs.Window.{index_of}
use Rattle.state.specs.declared.Endpoint.{Endpoint}
use Rattle.slot.specs.declared.Register.{Register}
use Rattle.slot.specs.declared.Register.TheVariants.{Epc, Data, Status, Command}
use Rattle.slot.specs.declared.Slot.{Slot}

-- an endpoint's registers in the order of their addresses: EPC; TXD or RXD; TXS or RXS; TXC or RXC
abbrev pub register_of : ℕ → Register
register_of zero = Epc
register_of (suc zero) = Data
register_of (suc (suc zero)) = Status
register_of (suc (suc (suc n))) = Command

-- eight addresses to a FIFO number (28 to 2F are FIFO 1's, and 28 is 5 times 8): four for the endpoint that sends, four for the one that receives
abbrev pub slot_of : ℕ → Slot
slot_of a = record { number = record { 0 = a / 8 % 4 }; sends = ltb (a % 8) 4; register = register_of (a % 4) }

-- "Endpoints 1, 3, 5 send from TXFIFO1 to 3"
abbrev pub sending : FifoNumber → Endpoint
sending n = record { 0 = 1 + 2 * index_of n }
