-- Demand 3's words over a world: who has what, and how a failed transaction is recovered from.
use Rattle.std.specs.Prelude.{◌≡◌, ◌⊎◌, Bool, true, not, ◌&&◌, List, [], ◌∷◌, ◌++◌}
use Rattle.choice.specs.Choice.{pick}
use Rattle.window.specs.declared.Kind.TheVariants as kind
use Rattle.window.specs.Window.{start_of, size_of, numbered}
use Rattle.ring.specs.Ring.{contents}
use Rattle.receiver.specs.declared.Receiver.{Receiver}
use Rattle.state.specs.State.{Model, receiver_at}
use Rattle.laws.specs.Typed.{Bytes}
use Rattle.driver.specs.declared.Driver.{Driver}
use Rattle.delivery.specs.Host.{Packet, Fate, sound, damaged, lost, Action, offer, send_service, receive_service, access, take, in_token, ack, out_token, out_data, other, timeout, late}
use Rattle.delivery.specs.World.{World, held, if_so, same, act, acts}

-- every byte is a byte, which Rattle's types give and lists of numbers do not
unfoldable pub FateBytes : Fate → Type 0
FateBytes sound = Unit
FateBytes (damaged pid bytes) = Bytes bytes
FateBytes lost = Unit

unfoldable pub ActionBytes : Action → Type 0
ActionBytes (offer p) = Bytes p
ActionBytes send_service = Unit
ActionBytes receive_service = Unit
ActionBytes (access t) = Unit
ActionBytes (take p) = Bytes p
ActionBytes (in_token reaches seen) = Unit
ActionBytes (ack reaches) = Unit
ActionBytes (out_token reaches) = Unit
ActionBytes (out_data fate seen) = FateBytes fate
ActionBytes (other t s) = Bytes s
ActionBytes timeout = Unit
ActionBytes late = Unit

unfoldable pub AllBytes : List Action → Type 0
AllBytes [] = Unit
AllBytes (x ∷ xs) = ActionBytes x × AllBytes xs

-- "Packets taken count the one waiting in RXFIFO1 unless it is a repeat or damaged.": RX_LAST, no RX_ERR, TOGGLE as expected
abbrev pub waits : Receiver → Bool → Bool
waits r x = r.last && not r.err && same r.toggle x

unfoldable pub waiting : Model → Driver → List Packet
waiting m d =
    let r : Receiver = receiver_at (numbered 1) m.chip in
    if_so (waits r d.expects)
    (contents (start_of kind.Receive (numbered 1)) (size_of kind.Receive) m.memory r.fifo.read r.fifo.write)

-- the packets that the driver has
unfoldable pub has : World → List Packet
has w = w.lists.taken ++ waiting w.model w.driver

-- the packet that the host holds
unfoldable pub host_held : World → List Packet
host_held w = if_so w.host.holds w.host.packet

-- "the receiver has exactly the packets the sender knows delivered, in order and once each, or those plus the one packet the sender still holds"
pub record Sent (w : World) : Type 0 where
  pub once : (w.lists.got ≡ w.lists.delivered) ⊎ (w.lists.got ≡ w.lists.delivered ++ held w)
  -- "What the driver knows delivered, followed by what it holds, is what was offered and not refused, in order."
  pub in_order : w.lists.delivered ++ held w ≡ w.lists.offers

pub record Received (w : World) : Type 0 where
  pub once : (has w ≡ w.lists.known) ⊎ (has w ≡ w.lists.known ++ host_held w)

-- "a service, then, if a packet is still held, one transaction of it in which nothing is lost or damaged and a service"
unfoldable pub recover_sending : World → World
recover_sending w =
    let s : World = act send_service w in pick s.driver.held (acts (in_token true true ∷ ack true ∷ send_service ∷ []) s) s

unfoldable pub recover_receiving : World → World
recover_receiving w =
    let s : World = act receive_service w in pick s.host.holds (acts (out_token true ∷ out_data sound true ∷ receive_service ∷ []) s) s

-- "make both lists equal, that packet at the end of each"
pub record SentAgain (w : World) : Type 0 where
  pub delivered : (recover_sending w).lists.delivered ≡ w.lists.delivered ++ held w
  pub got : (recover_sending w).lists.got ≡ w.lists.delivered ++ held w

pub record ReceivedAgain (w : World) : Type 0 where
  pub known : (recover_receiving w).lists.known ≡ w.lists.known ++ host_held w
  pub taken : (recover_receiving w).lists.taken ≡ w.lists.known ++ host_held w
  -- no packet waits in RXFIFO1 then
  pub all : has (recover_receiving w) ≡ w.lists.known ++ host_held w
