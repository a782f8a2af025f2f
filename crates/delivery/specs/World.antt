-- The world: chip, driver and host, the lists that they could write down, and what each action makes of it.
use Rattle.std.specs.Prelude.{ℕ, ◌-◌, Bool, true, false, not, ◌&&◌, ◌||◌, List, [], ◌∷◌, ◌++◌, length, get_or, eqb, leb, Result, Ok, Err}
use Rattle.choice.specs.Choice.{pick}
use Rattle.refusal.specs.declared.Refusal.{Refusal}
use Rattle.event.specs.declared.BusEndpoint.{BusEndpoint}
use Rattle.event.specs.declared.Event.{Event}
use Rattle.event.specs.declared.Event.TheVariants as event
use Rattle.event.specs.Event.{in_range}
use Rattle.epc.specs.Bits.{bit_of}
use Rattle.state.specs.declared.Wait.{Wait}
use Rattle.state.specs.declared.Wait.TheVariants as wait
use Rattle.state.specs.State.{Model}
use Rattle.answer.specs.declared.Answer.{Answer}
use Rattle.answer.specs.declared.Answer.TheVariants as answer
use Rattle.packet.specs.Packet.{packet_bytes}
use Rattle.step.specs.Step.{step_of}
use Rattle.laws.specs.Next.{next}
use Rattle.laws.specs.Settings.{is_access}
use Rattle.laws.specs.Driver.{reserved}
use Rattle.driver.specs.declared.Driver.{Driver}
use Rattle.driver.specs.declared.Did.{Did}
use Rattle.driver.specs.declared.Did.TheVariants as did
use Rattle.driver.specs.Driver.{Call, fresh, set_up, offered, send_served}
use Rattle.receiving.specs.Receive.{receive_served}
use Rattle.delivery.specs.Host.{Packet, Open, over, acks, fails, datas, others, Host, Fate, sound, damaged, lost, Action, offer, send_service, receive_service, access, take, in_token, ack, out_token, out_data, other, timeout, late, other_token, other_rest, is_over, is_acks, is_datas, is_others}

-- the address and the two bus endpoints
pub record Pipes : Type 0 where
  pub a : ℕ
  pub e : BusEndpoint
  pub f : BusEndpoint

-- packets offered to the driver and not refused; those that it knows delivered, by its services' answers; those that the host has got; those that
-- the host knows delivered, by the handshakes that it saw; those that the driver has taken
pub record Lists : Type 0 where
  pub offers : List Packet
  pub delivered : List Packet
  pub got : List Packet
  pub known : List Packet
  pub taken : List Packet

pub record World : Type 0 where
  pub pipes : Pipes
  pub model : Model
  pub driver : Driver
  pub host : Host
  pub lists : Lists

abbrev pub world : Pipes → Model → Driver → Host → Lists → World
world p m d h l = record { pipes = p; model = m; driver = d; host = h; lists = l }

-- "a fresh start, set up as 01 says", and the host's "toggles 0 at the start"
unfoldable pub start_world : Pipes → World
start_world p =
    world p (set_up p.a p.e p.f) fresh
    (record { expects = false; sends = false; holds = false; packet = []; at = over })
    (record { offers = []; delivered = []; got = []; known = []; taken = [] })

-- the lists with packets more at the end of one
abbrev pub offers_more : List Packet → Lists → Lists
offers_more x l = record { offers = l.offers ++ x; delivered = l.delivered; got = l.got; known = l.known; taken = l.taken }

abbrev pub delivers_more : List Packet → Lists → Lists
delivers_more x l = record { offers = l.offers; delivered = l.delivered ++ x; got = l.got; known = l.known; taken = l.taken }

abbrev pub gets_more : List Packet → Lists → Lists
gets_more x l = record { offers = l.offers; delivered = l.delivered; got = l.got ++ x; known = l.known; taken = l.taken }

abbrev pub knows_more : List Packet → Lists → Lists
knows_more x l = record { offers = l.offers; delivered = l.delivered; got = l.got; known = l.known ++ x; taken = l.taken }

abbrev pub takes_more : List Packet → Lists → Lists
takes_more x l = record { offers = l.offers; delivered = l.delivered; got = l.got; known = l.known; taken = l.taken ++ x }

-- one packet where something is so, else none
abbrev pub if_so : Bool → Packet → List Packet
if_so so p = pick so (p ∷ []) []

-- the packet that the driver holds: the last that was offered and not refused
unfoldable pub held : World → List Packet
held w = if_so w.driver.held (get_or w.lists.offers (length w.lists.offers - 1) [])

-- ---- the driver's calls

unfoldable pub is_done : Result Did Refusal → Bool
is_done (Ok did.Done) = true
is_done (Ok did.Nothing) = false
is_done (Ok did.Delivered) = false
is_done (Ok did.Resent) = false
is_done (Ok did.Taken) = false
is_done (Ok did.Flushed) = false
is_done (Ok did.Repeat) = false
is_done (Err r) = false

unfoldable pub is_delivered : Result Did Refusal → Bool
is_delivered (Ok did.Done) = false
is_delivered (Ok did.Nothing) = false
is_delivered (Ok did.Delivered) = true
is_delivered (Ok did.Resent) = false
is_delivered (Ok did.Taken) = false
is_delivered (Ok did.Flushed) = false
is_delivered (Ok did.Repeat) = false
is_delivered (Err r) = false

unfoldable pub is_taken : Result Did Refusal → Bool
is_taken (Ok did.Done) = false
is_taken (Ok did.Nothing) = false
is_taken (Ok did.Delivered) = false
is_taken (Ok did.Resent) = false
is_taken (Ok did.Taken) = true
is_taken (Ok did.Flushed) = false
is_taken (Ok did.Repeat) = false
is_taken (Err r) = false

unfoldable pub called : Call → Lists → World → World
called x l w = world w.pipes x.model x.driver w.host l

unfoldable pub act_offer : Packet → World → World
act_offer p w = let x : Call = offered p w.model w.driver in called x (offers_more (if_so (is_done x.did) p) w.lists) w

unfoldable pub act_send : World → World
act_send w =
    let x : Call = send_served w.model w.driver in called x (delivers_more (pick (is_delivered x.did) (held w) []) w.lists) w

unfoldable pub act_receive : World → World
act_receive w = let x : Call = receive_served w.model w.driver in called x (takes_more (if_so (is_taken x.did) x.bytes) w.lists) w

-- ---- events at the chip

unfoldable pub answer_to : Event → Packet → Model → Answer
answer_to e s m = (step_of e s m.chip m.memory).answer

-- the chip after an event, and the host somewhere else
unfoldable pub happens : Event → Packet → Host → Lists → World → World
happens e s h l w = world w.pipes (next e s w.model) w.driver h l

-- the host alone
unfoldable pub hostly : Host → World → World
hostly h w = world w.pipes w.model w.driver h w.lists

unfoldable pub goes : Open → Host → Host
goes o h = record { expects = h.expects; sends = h.sends; holds = h.holds; packet = h.packet; at = o }

-- ---- IN: "a host that follows USB 1.1's DATA0/DATA1 rule"

abbrev pub same : Bool → Bool → Bool
same x y = eqb (bit_of x) (bit_of y)

-- a packet with the toggle that it expects is got, and the toggle flips; a repeat is acknowledged and dropped
unfoldable pub sees : Bool → Host → Host
sees pid h =
    record { expects = pick (same pid h.expects) (not h.expects) h.expects; sends = h.sends; holds = h.holds; packet = h.packet; at = acks }

-- what the host makes of an answer to its IN, if it saw it; a broken packet is damaged data
unfoldable pub host_in : Bool → Answer → Host → Host
host_in false x h = goes fails h
host_in true answer.Silence h = goes fails h
host_in true (answer.Value v) h = goes fails h
host_in true (answer.Data0 p) h = sees false h
host_in true (answer.Data1 p) h = sees true h
host_in true answer.Broken h = goes fails h
host_in true answer.Ack h = goes fails h
host_in true answer.Nak h = goes over h
host_in true answer.Stall h = goes over h

unfoldable pub got_in : Bool → Answer → List ℕ → Host → List Packet
got_in false x m h = []
got_in true answer.Silence m h = []
got_in true (answer.Value v) m h = []
got_in true (answer.Data0 p) m h = if_so (same false h.expects) (packet_bytes p m)
got_in true (answer.Data1 p) m h = if_so (same true h.expects) (packet_bytes p m)
got_in true answer.Broken m h = []
got_in true answer.Ack m h = []
got_in true answer.Nak m h = []
got_in true answer.Stall m h = []

-- its IN token, lost or not, and the answer, seen or not
unfoldable pub act_in : Bool → Bool → World → World
act_in false seen w = hostly (goes fails w.host) w
act_in true seen w =
    let t : Event = event.In w.pipes.a w.pipes.e in
    let x : Answer = answer_to t [] w.model in
    happens t [] (host_in seen x w.host) (gets_more (got_in seen x (next t [] w.model).memory w.host) w.lists) w

-- its ACK, lost or not
unfoldable pub act_ack : Bool → World → World
act_ack false w = hostly (goes fails w.host) w
act_ack true w = happens event.Ack [] (goes over w.host) w.lists w

-- ---- OUT: "keeps an OUT packet until it sees the ACK"

unfoldable pub is_ack : Answer → Bool
is_ack answer.Silence = false
is_ack (answer.Value v) = false
is_ack (answer.Data0 p) = false
is_ack (answer.Data1 p) = false
is_ack answer.Broken = false
is_ack answer.Ack = true
is_ack answer.Nak = false
is_ack answer.Stall = false

-- "OUT packets have 1 to 64 bytes"
unfoldable pub act_take : Packet → World → World
act_take p w =
    pick (not w.host.holds && leb 1 (length p) && leb (length p) 64)
    (hostly (record { expects = w.host.expects; sends = w.host.sends; holds = true; packet = p; at = w.host.at }) w)
    w

unfoldable pub act_out : Bool → World → World
act_out false w = hostly (goes datas w.host) w
act_out true w = happens (event.Out w.pipes.a w.pipes.f) [] (goes datas w.host) w.lists w

-- the toggle flips with the ACK that it sees
unfoldable pub host_out : Bool → Host → Host
host_out acked h =
    pick acked
    (record { expects = h.expects; sends = not h.sends; holds = false; packet = []; at = over })
    (goes over h)

unfoldable pub sent : Event → Packet → Bool → World → World
sent t s seen w =
    let acked : Bool = seen && is_ack (answer_to t s w.model) in
    happens t s (host_out acked w.host) (knows_more (if_so acked w.host.packet) w.lists) w

unfoldable pub act_data : Fate → Bool → World → World
act_data sound seen w = sent (event.Data (bit_of w.host.sends) 1) w.host.packet seen w
act_data (damaged pid bytes) seen w = pick (leb (length bytes) 64) (sent (event.Data (bit_of pid) 0) bytes seen w) w
act_data lost seen w = hostly (goes fails w.host) w

-- ---- other transactions, and timeouts

-- a transaction is open where the chip awaits something after its token; one that the chip has no part in, or has refused, is over for it
unfoldable pub after_token : Wait → Open
after_token wait.Nothing = over
after_token (wait.Handshake e) = others
after_token (wait.Data e) = others
after_token wait.Setup = others

-- a token where no transaction is open; data or the host's ACK after it, or where the token was lost
unfoldable pub act_other : Event → Packet → World → World
act_other t s w =
    pick (not (in_range t (length s))) w
    (pick (is_over w.host.at && other_token w.pipes.a w.pipes.e w.pipes.f t)
    (happens t s (goes (after_token (next t s w.model).chip.pending.wait) w.host) w.lists w)
    (pick ((is_others w.host.at || is_over w.host.at) && other_rest t)
    (happens t s (goes over w.host) w.lists w)
    w))

-- ---- actions

-- "each transaction, the timeout that closes a failed one included, is over before the next": an action out of its turn is none
unfoldable pub act : Action → World → World
act (offer p) w = act_offer p w
act send_service w = act_send w
act receive_service w = act_receive w
act (access t) w = pick (is_access t && not (reserved t) && in_range t 0) (happens t [] w.host w.lists w) w
act (take p) w = act_take p w
act (in_token reaches seen) w = pick (is_over w.host.at) (act_in reaches seen w) w
act (ack reaches) w = pick (is_acks w.host.at) (act_ack reaches w) w
act (out_token reaches) w = pick (is_over w.host.at && w.host.holds) (act_out reaches w) w
act (out_data fate seen) w = pick (is_datas w.host.at) (act_data fate seen w) w
act (other t s) w = act_other t s w
act timeout w = happens event.Timeout [] (goes over w.host) w.lists w
act late w = happens event.Timeout [] w.host w.lists w

unfoldable pub acts : List Action → World → World
acts [] w = w
acts (x ∷ xs) w = acts xs (act x w)
