-- From one whole state to another by register accesses of some kind, and which accesses each half of the driver makes.
use Rattle.std.specs.Prelude.{ℕ, ◌<◌, ◌≡◌, true}
use Rattle.event.specs.declared.Event.{Event}
use Rattle.event.specs.declared.Event.TheVariants as event
use Rattle.state.specs.State.{Model}
use Rattle.laws.specs.Driver.{reserved}
use Rattle.driver.specs.declared.Driver.{Driver}
use Rattle.driver.specs.Registers.{written, seen}
use Rattle.driver.specs.Driver.{Call}

-- no access; a read and the rest; a byte written and the rest
pub data Touches (P : Event → Type 0) : Model → Model → Type 0 where
  none : {m : Model} → Touches P m m
  reads : {m n : Model} (a : ℕ) → P (event.Read a) → Touches P (seen a m) n → Touches P m n
  writes : {m n : Model} (a v : ℕ) → P (event.Write a v) → v < 256 → Touches P (written a v m) n → Touches P m n

-- an access that is reserved to the driver
abbrev pub Reserved : Event → Type 0
Reserved e = reserved e ≡ true

-- an offer and the send service read TXS1, and write TXD1 and TXC1
pub data Sending : Event → Type 0 where
  txs : Sending (event.Read 0x2A)
  txd : (v : ℕ) → Sending (event.Write 0x29 v)
  txc : (v : ℕ) → Sending (event.Write 0x2B v)

-- the receive service reads RXD1 and RXS1, and writes RXC1
pub data Receiving : Event → Type 0 where
  rxd : Receiving (event.Read 0x2D)
  rxs : Receiving (event.Read 0x2E)
  rxc : (v : ℕ) → Receiving (event.Write 0x2F v)

-- what a call leaves of the driver: what it holds and sends with, or the toggle that it expects
abbrev pub KeepsSending : Driver → Driver → Type 0
KeepsSending d d' = (d'.held ≡ d.held) × (d'.sends ≡ d.sends)

abbrev pub KeepsExpected : Driver → Driver → Type 0
KeepsExpected d d' = d'.expects ≡ d.expects

-- a call reaches its state by such accesses, and leaves so much of the driver
pub record Reaches (P : Event → Type 0) (K : Driver → Driver → Type 0) (m : Model) (d : Driver) (x : Call) : Type 0 where
  pub touches : Touches P m x.model
  pub keeps : K d x.driver
