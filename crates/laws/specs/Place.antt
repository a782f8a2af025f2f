-- The seven endpoints as places of the chip, and what stands at a place: the endpoint's state, the bytes of its window, what is awaited of it.
use Rattle.std.specs.Prelude.{ℕ, ◌≡◌, Bool, true, false, List, eqb}
use Rattle.choice.specs.Choice.{pick}
use Rattle.window.specs.declared.FifoNumber.{FifoNumber}
use Rattle.window.specs.declared.Kind.TheVariants.{Control, Transmit, Receive}
use Rattle.window.specs.declared.Window.{Window}
use Rattle.window.specs.Window.{index_of, fifo0, start_of, size_of, window}
use Rattle.control.specs.declared.Control as control
use Rattle.sender.specs.declared.Sender.{Sender}
use Rattle.receiver.specs.declared.Receiver.{Receiver}
use Rattle.state.specs.declared.Endpoint.{Endpoint}
use Rattle.state.specs.declared.Wait.{Wait}
use Rattle.state.specs.declared.Wait.TheVariants.{Nothing, Handshake, Data, Setup}
use Rattle.state.specs.declared.Chip.{Chip}
use Rattle.state.specs.State.{Model, sender_at, receiver_at, fifo_of}

abbrev pub endpoint : ℕ → Endpoint
endpoint n = record { 0 = n }

-- endpoint 0; the one that sends from TXFIFO1 to 3; the one that receives into RXFIFO1 to 3
pub data Place : Type 0 where
  zero : Place
  sends : FifoNumber → Place
  receives : FifoNumber → Place

-- whether two are one and the same: a FIFO's window is its index
abbrev pub at : Place → Place → Bool
at zero zero = true
at zero (sends n) = false
at zero (receives n) = false
at (sends k) zero = false
at (sends k) (sends n) = eqb (index_of k) (index_of n)
at (sends k) (receives n) = false
at (receives k) zero = false
at (receives k) (sends n) = false
at (receives k) (receives n) = eqb (index_of k) (index_of n)

-- "Endpoints 1, 3, 5 send from TXFIFO1 to 3; endpoints 2, 4, 6 receive into RXFIFO1 to 3": endpoint 0 does both
unfoldable pub sending_place : Endpoint → Place
sending_place e = pick (eqb e.0 0) zero (sends (fifo_of e))

unfoldable pub receiving_place : Endpoint → Place
receiving_place e = pick (eqb e.0 0) zero (receives (fifo_of e))

-- its counters, last byte read, flags and command bits are one struct
abbrev pub State : Place → Type 0
State zero = control.Control
State (sends n) = Sender
State (receives n) = Receiver

abbrev pub state_at : (p : Place) → Chip → State p
state_at zero c = c.control
state_at (sends n) c = sender_at n c
state_at (receives n) c = receiver_at n c

-- the bytes of its window
abbrev pub window_of : Place → Window
window_of zero = record { kind = Control; number = fifo0 }
window_of (sends n) = record { kind = Transmit; number = n }
window_of (receives n) = record { kind = Receive; number = n }

abbrev pub bytes_at : Place → List ℕ → List ℕ
bytes_at p m = window (start_of (window_of p).kind (window_of p).number) (size_of (window_of p).kind) m

-- no endpoint, or one
pub data Owner : Type 0 where
  nobody : Owner
  one : Place → Owner

abbrev pub is_owner : Owner → Place → Bool
is_owner nobody p = false
is_owner (one q) p = at q p

-- of whom a handshake, data or SETUP data is awaited
abbrev pub awaited_of : Wait → Owner
awaited_of Nothing = nobody
awaited_of (Handshake e) = one (sending_place e)
awaited_of (Data e) = one (receiving_place e)
awaited_of Setup = one zero

unfoldable pub awaited : Place → Chip → Bool
awaited p c = is_owner (awaited_of c.pending.wait) p

-- the endpoint is as it was: its state, whether something is awaited of it, and what is held meanwhile
pub record Stays (p : Place) (c c' : Chip) : Type 0 where
  pub state : state_at p c' ≡ state_at p c
  pub awaits : awaited p c' ≡ awaited p c
  pub held : awaited p c ≡ true → c'.pending ≡ c.pending

-- and so is every byte of its window
pub record Same (p : Place) (m m' : Model) : Type 0 where
  pub endpoint : Stays p m.chip m'.chip
  pub bytes : bytes_at p m'.memory ≡ bytes_at p m.memory
