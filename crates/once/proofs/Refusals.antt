-- No two refusals have one of 01's numbers.
-- Assumes nothing.
use Prim.Native.Nat.{ℕ}
use mathlib.Core.Path.{◌≡◌, refl}
use lib.Dec.{eqb}
use Rattle.choice.specs.Choice.{pick}
use Rattle.refusal.specs.Refusal.{number_of}
use Rattle.refusal.specs.declared.Refusal.{Refusal}
use Rattle.refusal.specs.declared.Refusal.TheVariants.{Cut, NotShortest, NoKind, OutOfRange, NotWellFormed, OfferTooLong, PacketHeld, InputTooLong}

-- the refusal of a number
pub refusal_of : ℕ → Refusal
refusal_of k =
    pick (eqb k 1) Cut
    (pick (eqb k 2) NotShortest
    (pick (eqb k 3) NoKind
    (pick (eqb k 4) OutOfRange
    (pick (eqb k 5) NotWellFormed
    (pick (eqb k 6) OfferTooLong
    (pick (eqb k 7) PacketHeld
    InputTooLong))))))

pub refusal_of_number : (r : Refusal) → refusal_of (number_of r) ≡ r
unfolding refusal_of pick
refusal_of_number Cut = refl
refusal_of_number NotShortest = refl
refusal_of_number NoKind = refl
refusal_of_number OutOfRange = refl
refusal_of_number NotWellFormed = refl
refusal_of_number OfferTooLong = refl
refusal_of_number PacketHeld = refl
refusal_of_number InputTooLong = refl
