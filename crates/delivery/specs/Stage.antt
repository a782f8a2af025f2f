-- Where a packet of endpoint 1 is: armed in TXFIFO1, sent and awaiting its handshake, acknowledged or failed; or no packet is held.
use Rattle.std.specs.Prelude.{ℕ, ◌≤◌, ◌≡◌, Bool, true, false, not, List, [], ◌∷◌, ◌++◌}
use Rattle.window.specs.declared.Kind.TheVariants as kind
use Rattle.window.specs.Window.{tx_size, start_of, numbered}
use Rattle.ring.specs.Ring.{level, contents}
use Rattle.sender.specs.declared.Sender.{Sender}
use Rattle.state.specs.State.{Model, sender_at}
use Rattle.laws.specs.Place.{sends, awaited}
use Rattle.delivery.specs.Host.{Packet, is_acks}
use Rattle.delivery.specs.World.{Lists, World}

-- what there is of endpoint 1: its state, whether its handshake is awaited, whether a command byte is held, and the memory
pub record View : Type 0 where
  pub sender : Sender
  pub awaits : Bool
  pub holds : Bool
  pub memory : List ℕ

abbrev pub view_of : Model → View
view_of m =
    record {
      sender = sender_at (numbered 1) m.chip;
      awaits = awaited (sends (numbered 1)) m.chip;
      holds = m.chip.pending.holds;
      memory = m.memory;
    }

-- the bytes of TXFIFO1 between two counters
unfoldable pub between : List ℕ → ℕ → ℕ → List ℕ
between m x y = contents (start_of kind.Transmit (numbered 1)) tx_size m x y

-- nothing to send
pub record Empty (s : Sender) : Type 0 where
  pub off : s.enabled ≡ false
  pub empty : level s.fifo.read s.fifo.write ≡ 0

-- and what was sent can come back
pub record Spent (p : Packet) (v : View) : Type 0 where
  pub nothing : Empty v.sender
  pub fits : level v.sender.fifo.saved v.sender.fifo.write ≤ 64
  pub bytes : between v.memory v.sender.fifo.saved v.sender.fifo.write ≡ p

-- no packet
pub record Idle (v : View) : Type 0 where
  pub nothing : Empty v.sender
  pub done : v.sender.done ≡ false
  pub free : v.awaits ≡ false

-- the packet is to be sent, with this toggle
pub record Armed (p : Packet) (toggle : Bool) (v : View) : Type 0 where
  pub enabled : v.sender.enabled ≡ true
  pub last : v.sender.last ≡ true
  pub toggled : v.sender.toggle ≡ toggle
  pub done : v.sender.done ≡ false
  pub marked : v.sender.fifo.saved ≡ v.sender.fifo.read
  pub fits : level v.sender.fifo.read v.sender.fifo.write ≤ 64
  pub bytes : between v.memory v.sender.fifo.read v.sender.fifo.write ≡ p
  pub free : v.awaits ≡ false

-- its handshake is awaited, and no command byte is held
pub record Waiting (p : Packet) (v : View) : Type 0 where
  pub spent : Spent p v
  pub done : v.sender.done ≡ false
  pub waits : v.awaits ≡ true
  pub unheld : v.holds ≡ false

-- TX_DONE with ACK_STAT, and without
pub record Acked (v : View) : Type 0 where
  pub nothing : Empty v.sender
  pub done : v.sender.done ≡ true
  pub ack : v.sender.ack ≡ true
  pub free : v.awaits ≡ false

pub record Failed (p : Packet) (v : View) : Type 0 where
  pub spent : Spent p v
  pub done : v.sender.done ≡ true
  pub ack : v.sender.ack ≡ false
  pub free : v.awaits ≡ false

-- the host has not got the packet, and expects its toggle; or it has got it, and expects the other
pub record Before (toggle expects : Bool) (l : Lists) : Type 0 where
  pub expected : expects ≡ toggle
  pub got : l.got ≡ l.delivered

pub record After (p : Packet) (toggle expects : Bool) (l : Lists) : Type 0 where
  pub expected : expects ≡ not toggle
  pub got : l.got ≡ l.delivered ++ (p ∷ [])

pub data Told (p : Packet) (toggle expects : Bool) (l : Lists) : Type 0 where
  before : Before toggle expects l → Told p toggle expects l
  after : After p toggle expects l → Told p toggle expects l

-- the driver holds the packet: it is the last that was offered
pub record Holding (p : Packet) (w : World) : Type 0 where
  pub held : w.driver.held ≡ true
  pub offers : w.lists.offers ≡ w.lists.delivered ++ (p ∷ [])

pub record IdleAt (w : World) : Type 0 where
  pub chip : Idle (view_of w.model)
  pub held : w.driver.held ≡ false
  pub offers : w.lists.offers ≡ w.lists.delivered
  pub told : Before w.driver.sends w.host.expects w.lists

pub record ArmedAt (p : Packet) (w : World) : Type 0 where
  pub chip : Armed p w.driver.sends (view_of w.model)
  pub holding : Holding p w
  pub told : Told p w.driver.sends w.host.expects w.lists

-- a host that acknowledges has got it
pub record WaitingAt (p : Packet) (w : World) : Type 0 where
  pub chip : Waiting p (view_of w.model)
  pub holding : Holding p w
  pub told : Told p w.driver.sends w.host.expects w.lists
  pub seen : is_acks w.host.at ≡ true → After p w.driver.sends w.host.expects w.lists

pub record AckedAt (p : Packet) (w : World) : Type 0 where
  pub chip : Acked (view_of w.model)
  pub holding : Holding p w
  pub told : After p w.driver.sends w.host.expects w.lists

pub record FailedAt (p : Packet) (w : World) : Type 0 where
  pub chip : Failed p (view_of w.model)
  pub holding : Holding p w
  pub told : Told p w.driver.sends w.host.expects w.lists

pub data Stage (w : World) : Type 0 where
  idle : IdleAt w → Stage w
  armed : (p : Packet) → ArmedAt p w → Stage w
  waiting : (p : Packet) → WaitingAt p w → Stage w
  acked : (p : Packet) → AckedAt p w → Stage w
  failed : (p : Packet) → FailedAt p w → Stage w
