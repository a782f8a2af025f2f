-- A driver's call keeps a state well formed, and as Rattle's types have it; a start makes such a state.
-- Assumes nothing.
use Prim.Native.Nat.{ℕ, ◌<◌}
use mathlib.Core.Path.{◌≡◌}
use mathlib.Core.Bool.{true}
use mathlib.Core.List.{List}
use Rattle.event.specs.declared.BusEndpoint.{BusEndpoint}
use Rattle.event.specs.declared.Event.{Event}
use Rattle.state.specs.State.{Model, reset}
use Rattle.formed.specs.Formed.{well_formed}
use Rattle.laws.specs.Typed.{Bytes, Typed}
use Rattle.laws.proofs.Typed.Registers.{read_typed, write_typed, write_bytes_typed}
use Rattle.laws.proofs.Typed.Chip.{reset_chip_typed, reset_memory_typed}
use Rattle.laws.proofs.Formed.Registers.{reset_well, read_keeps, write_keeps}
use Rattle.driver.specs.declared.Driver.{Driver}
use Rattle.driver.specs.Registers.{written, seen}
use Rattle.driver.specs.Driver.{started, offered, send_served}
use Rattle.receiving.specs.Receive.{receive_served}
use Rattle.driving.specs.Touches.{Touches}
use Rattle.driving.proofs.Reached.{touches_by, start_touches, offer_touches, send_touches, receive_touches}

-- a state that is well formed, with arrays of their lengths and bytes below 256
pub record Sound (m : Model) : Type 0 where
  pub typed : Typed m
  pub formed : well_formed m.chip ≡ true

pub reset_sound : Sound reset
reset_sound = record { typed = record { chip = reset_chip_typed; memory = reset_memory_typed }; formed = reset_well }

pub read_sound : (a : ℕ) (m : Model) → Sound m → Sound (seen a m)
unfolding seen
read_sound a m s =
    let t : Typed m = s.typed in
    record {
      typed = record { chip = read_typed a m.chip m.memory t.memory.each t.chip; memory = t.memory };
      formed = read_keeps a m.chip m.memory t.chip s.formed;
    }

pub write_sound : (a v : ℕ) (m : Model) → v < 256 → Sound m → Sound (written a v m)
unfolding written
write_sound a v m b s =
    let t : Typed m = s.typed in
    record {
      typed = record { chip = write_typed a v m.chip b t.chip; memory = write_bytes_typed a v m.chip m.memory b t.memory };
      formed = write_keeps a v m.chip b t.chip s.formed;
    }

-- Whatever the driver's accesses reach from a sound state is sound.
pub touches_keep : {P : Event → Type 0} {m n : Model} → Touches P m n → Sound m → Sound n
touches_keep =
    touches_by (λ m n. Sound m → Sound n) (λ m s. s) (λ k l o x y s. y (x s)) (λ a m _ s. read_sound a m s) (λ a v m _ b s. write_sound a v m b s)

-- A start makes a sound state, also one that is refused.
pub start_sound : (a : ℕ) (e f : BusEndpoint) → Sound (started a e f).model
start_sound a e f = touches_keep (start_touches a e f) reset_sound

-- An offer keeps it so, and so do the services.
pub offer_keeps : (s : List ℕ) (m : Model) (d : Driver) → Bytes s → Sound m → Sound (offered s m d).model
offer_keeps s m d b h = touches_keep (offer_touches s m d b) h

pub send_keeps : (m : Model) (d : Driver) → Sound m → Sound (send_served m d).model
send_keeps m d h = touches_keep (send_touches m d) h

pub receive_keeps : (m : Model) (d : Driver) → Sound m → Sound (receive_served m d).model
receive_keeps m d h = touches_keep (receive_touches m d) h
