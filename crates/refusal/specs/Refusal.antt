-- Document 01's number for each refusal.
use Rattle.std.specs.Prelude.{ℕ}
use Rattle.refusal.specs.declared.Refusal.{Refusal}
use Rattle.refusal.specs.declared.Refusal.TheVariants as refusal

-- "1 trace ends inside a record"; "2 number not shortest, or over two bytes"; "3 kind outside 1..8"; "4 field out of range"; "5 state not well
-- formed"; "6 driver offered over 64 bytes"; "7 offered while a packet is held"; "8 program's input over 65,536 bytes"
abbrev pub number_of : Refusal → ℕ
number_of refusal.Cut = 1
number_of refusal.NotShortest = 2
number_of refusal.NoKind = 3
number_of refusal.OutOfRange = 4
number_of refusal.NotWellFormed = 5
number_of refusal.OfferTooLong = 6
number_of refusal.PacketHeld = 7
number_of refusal.InputTooLong = 8
