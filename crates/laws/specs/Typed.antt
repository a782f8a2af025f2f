-- What Rattle's types say of a state and of an event, and the logic does not: lengths of arrays, and numbers that are bytes.
use Rattle.std.specs.Prelude.{ℕ, ◌<◌, ◌≡◌, List, get_or, length}
use Rattle.txfifo.specs.declared.TxFifo.{TxFifo}
use Rattle.rxfifo.specs.declared.RxFifo.{RxFifo}
use Rattle.fifo0.specs.declared.Fifo0.{Fifo0}
use Rattle.event.specs.declared.Event.{Event}
use Rattle.event.specs.Event.{values_of}
use Rattle.epc.specs.declared.Epc.{Epc}
use Rattle.sender.specs.declared.Sender.{Sender}
use Rattle.sender.specs.Sender.{reset_sender}
use Rattle.receiver.specs.declared.Receiver.{Receiver}
use Rattle.receiver.specs.Receiver.{reset_receiver}
use Rattle.state.specs.declared.Wait.{Wait}
use Rattle.state.specs.declared.Wait.TheVariants.{Nothing, Handshake, Data, Setup}
use Rattle.state.specs.declared.Pending.{Pending}
use Rattle.state.specs.declared.Masks.{Masks}
use Rattle.state.specs.declared.Events.{Events}
use Rattle.state.specs.declared.Chip.{Chip}
use Rattle.state.specs.State.{Model}

-- a u8
abbrev pub Byte : ℕ → Type 0
Byte n = n < 256

-- said of each element, and of what is read past the end
abbrev pub Each : {A : Type 0} → (A → Type 0) → A → List A → Type 0
Each P past l = (i : ℕ) → P (get_or l i past)

abbrev pub Bytes : List ℕ → Type 0
Bytes l = Each Byte 0 l

-- an array of that size
pub record Array {A : Type 0} (size : ℕ) (P : A → Type 0) (past : A) (l : List A) : Type 0 where
  pub sized : length l ≡ size
  pub each : Each P past l

-- the numbers of endpoint 0, of an endpoint that sends and of one that receives
pub record Typed0 (f : Fifo0) : Type 0 where
  pub read_byte : Byte f.read
  pub write_byte : Byte f.write
  pub last_byte : Byte f.last

pub record TypedTx (f : TxFifo) (p : Epc) (high : ℕ) : Type 0 where
  pub read_byte : Byte f.read
  pub write_byte : Byte f.write
  pub saved_byte : Byte f.saved
  pub number_byte : Byte p.number.0
  pub high_byte : Byte high

pub record TypedRx (f : RxFifo) (p : Epc) (middle : ℕ) : Type 0 where
  pub read_byte : Byte f.read
  pub write_byte : Byte f.write
  pub last_byte : Byte f.last
  pub number_byte : Byte p.number.0
  pub middle_byte : Byte middle

abbrev pub TypedSender : Sender → Type 0
TypedSender s = TypedTx s.fifo s.epc s.high

abbrev pub TypedReceiver : Receiver → Type 0
TypedReceiver r = TypedRx r.fifo r.epc r.middle

-- the place of the endpoint that awaits something, 0 where there is none
abbrev pub place_of : Wait → ℕ
place_of Nothing = 0
place_of (Handshake e) = e.0
place_of (Data e) = e.0
place_of Setup = 0

pub record TypedPending (p : Pending) : Type 0 where
  pub place_byte : Byte (place_of p.wait)
  pub held_byte_lem : Byte p.held

pub record TypedMasks (m : Masks) : Type 0 where
  pub main_byte : Byte m.main
  pub tx_byte : Byte m.tx
  pub rx_byte : Byte m.rx
  pub nak_byte : Byte m.nak

pub record TypedEvents (e : Events) : Type 0 where
  pub over_four : length e.over ≡ 4
  pub nakin_four : length e.nakin ≡ 4
  pub nakout_four : length e.nakout ≡ 4

pub record TypedChip (c : Chip) : Type 0 where
  pub control : Typed0 c.control.fifo
  pub senders : Array 3 TypedSender reset_sender c.senders
  pub receivers : Array 3 TypedReceiver reset_receiver c.receivers
  pub nfsr_byte : Byte c.nfsr
  pub address_byte : Byte c.address
  pub masks : TypedMasks c.masks
  pub events : TypedEvents c.events
  pub pending : TypedPending c.pending

-- the memory that is lent
abbrev pub TypedMemory : List ℕ → Type 0
TypedMemory m = Array 392 Byte 0 m

-- the whole state
pub record Typed (m : Model) : Type 0 where
  pub chip : TypedChip m.chip
  pub memory : TypedMemory m.memory

-- every field of an event; a payload's count stands beside it
abbrev pub TypedEvent : Event → Type 0
TypedEvent e = Bytes (values_of e 0)
