-- The host, the bus between it and the chip, and what may happen there. "USB 1.1's DATA0/DATA1 rule" is the host's.
use Rattle.std.specs.Prelude.{ℕ, Bool, true, false, not, ◌&&◌, List, eqb}
use Rattle.event.specs.declared.BusEndpoint.{BusEndpoint}
use Rattle.event.specs.declared.Event.{Event}
use Rattle.event.specs.declared.Event.TheVariants as event

abbrev pub Packet : Type 0
Packet = List ℕ

-- what the host's transaction is at: none is open; it has seen a packet and sends its ACK; it has not seen what it waited for, and the timeout
-- that closes the transaction is still to come; its OUT token is sent, and the data is next; a transaction with another endpoint or address that
-- the chip has a part in
pub data Open : Type 0 where
  over : Open
  acks : Open
  fails : Open
  datas : Open
  others : Open

unfoldable pub is_over : Open → Bool
is_over over = true
is_over acks = false
is_over fails = false
is_over datas = false
is_over others = false

unfoldable pub is_acks : Open → Bool
is_acks over = false
is_acks acks = true
is_acks fails = false
is_acks datas = false
is_acks others = false

unfoldable pub is_datas : Open → Bool
is_datas over = false
is_datas acks = false
is_datas fails = false
is_datas datas = true
is_datas others = false

unfoldable pub is_others : Open → Bool
is_others over = false
is_others acks = false
is_others fails = false
is_others datas = false
is_others others = true

-- the toggle that it expects of the next packet, the toggle of the packet that it sends, and that packet, which it "keeps .. until it sees the ACK"
pub record Host : Type 0 where
  pub expects : Bool
  pub sends : Bool
  pub holds : Bool
  pub packet : Packet
  pub at : Open

-- "Tokens, data and handshakes may be lost or damaged, never forged": damaged data has any bytes and either PID; a damaged token or handshake
-- counts as lost, since nobody takes it up
pub data Fate : Type 0 where
  sound : Fate
  damaged : Bool → Packet → Fate
  lost : Fate

pub data Action : Type 0 where
  -- the driver's calls
  offer : Packet → Action
  send_service : Action
  receive_service : Action
  -- a register access by somebody else
  access : Event → Action
  -- the host takes up a packet to send; it begins an IN: does its token reach the chip, and is the answer seen; does its ACK reach the chip
  take : Packet → Action
  in_token : Bool → Bool → Action
  ack : Bool → Action
  -- it begins an OUT: does its token reach the chip; its data with their fate, and is the answer seen
  out_token : Bool → Action
  out_data : Fate → Bool → Action
  -- a bus event of another transaction, with its payload; the timeout that closes a transaction; a timeout at any time, after which the host goes
  -- on where it is, so that its data or its ACK comes late
  other : Event → Packet → Action
  timeout : Action
  late : Action

-- a token of another transaction: not the IN of the one pipe, not the OUT of the other; any SETUP
unfoldable pub elsewhere : ℕ → BusEndpoint → ℕ → BusEndpoint → Bool
elsewhere a e address endpoint = not (eqb address a && eqb endpoint.0 e.0)

unfoldable pub other_token : ℕ → BusEndpoint → BusEndpoint → Event → Bool
other_token a e f (event.Read r) = false
other_token a e f (event.Write r v) = false
other_token a e f (event.In x y) = elsewhere a e x y
other_token a e f (event.Out x y) = elsewhere a f x y
other_token a e f (event.Setup x y) = true
other_token a e f (event.Data p s) = false
other_token a e f event.Ack = false
other_token a e f event.Timeout = false

-- what follows such a token, which may have been lost: data, or the host's ACK
unfoldable pub other_rest : Event → Bool
other_rest (event.Read r) = false
other_rest (event.Write r v) = false
other_rest (event.In a e) = false
other_rest (event.Out a e) = false
other_rest (event.Setup a e) = false
other_rest (event.Data p s) = true
other_rest event.Ack = true
other_rest event.Timeout = false
