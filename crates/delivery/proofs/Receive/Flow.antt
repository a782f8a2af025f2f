-- What stands of endpoint 2, the driver's toggle, the host and the two lists: what changes of the host and of endpoint 2 leave of it.
-- Assumes nothing.
use mathlib.Core.Path.{◌≡◌, refl}
use mathlib.Core.Logic.{inl, inr}
use mathlib.Core.Bool.{Bool, true, false}
use mathlib.Core.List.{List, [], ◌++◌, append-nil}
use Rattle.choice.specs.Choice.{pick}
use Rattle.receiver.specs.declared.Receiver.{Receiver}
use Rattle.answer.specs.declared.Answer.{Answer}
use Rattle.answer.specs.declared.Answer.TheVariants as answer
use Rattle.delivery.specs.Host.{Packet, Open, over, fails, Host}
use Rattle.delivery.specs.World.{World, if_so, goes, sees, host_in, host_out}
use Rattle.delivery.specs.Lists.{waits}
use Rattle.driving.proofs.Packet.{held}
use Rattle.delivery.proofs.Receive.Tally.{due, Tally, stored_unseen, stored_seen, taken_tally, none_tally}
use Rattle.delivery.proofs.Receive.Storing.{Ready, Shut, Shape, ready_waits, err_waits, Stores}
use Rattle.delivery.proofs.Receive.Alike.{rx}

-- endpoint 2 with its bytes, the toggle that the driver expects, the host, packets taken and packets known delivered
pub record Flows (r : Receiver) (c : Packet) (x : Bool) (h : Host) (t k : List Packet) : Type 0 where
  pub shape : Shape r
  pub tally : Tally (waits r x) c x h.sends h.holds h.packet t k

abbrev pub Flow : World → Type 0
Flow w = Flows (rx w.model) (held w.model) w.driver.expects w.host w.lists.taken w.lists.known

abbrev pub TallyOf : World → Type 0
TallyOf w =
    Tally (waits (rx w.model) w.driver.expects) (held w.model) w.driver.expects
    w.host.sends w.host.holds w.host.packet w.lists.taken w.lists.known

-- the same of what is equal
pub moved : {r r' : Receiver} {c c' : Packet} {x x' : Bool} {h : Host} {t k : List Packet} → r' ≡ r → c' ≡ c → x' ≡ x
    → Flows r c x h t k → Flows r' c' x' h t k
moved a b e f = rw (a, b, e) f

-- ---- the host moves on

-- it keeps its packet and its toggle
pub record Keeps (h h' : Host) : Type 0 where
  pub sends : h'.sends ≡ h.sends
  pub holds : h'.holds ≡ h.holds
  pub packet : h'.packet ≡ h.packet

pub host_flows : {r : Receiver} {c : Packet} {x : Bool} {h h' : Host} {t k : List Packet} → Keeps h h' → Flows r c x h t k → Flows r c x h' t k
host_flows {r} {c} {x} {h} {h'} {t} {k} p f =
    record {
      shape = f.shape;
      tally = rw (p.sends, p.holds, p.packet) f.tally;
    }

pub goes_keeps : (o : Open) (h : Host) → Keeps h (goes o h)
unfolding goes
goes_keeps o h = record { sends = refl; holds = refl; packet = refl }

sees_keeps : (pid : Bool) (h : Host) → Keeps h (sees pid h)
unfolding sees
sees_keeps pid h = record { sends = refl; holds = refl; packet = refl }

-- the answer to an IN
pub in_keeps : (seen : Bool) (a : Answer) (h : Host) → Keeps h (host_in seen a h)
unfolding host_in
in_keeps false a h = goes_keeps fails h
in_keeps true answer.Silence h = goes_keeps fails h
in_keeps true (answer.Value v) h = goes_keeps fails h
in_keeps true (answer.Data0 p) h = sees_keeps false h
in_keeps true (answer.Data1 p) h = sees_keeps true h
in_keeps true answer.Broken h = goes_keeps fails h
in_keeps true answer.Ack h = goes_keeps fails h
in_keeps true answer.Nak h = goes_keeps over h
in_keeps true answer.Stall h = goes_keeps over h

module _ {r : Receiver} {c : Packet} {x : Bool} {h : Host} {t k : List Packet} (f : Flows r c x h t k) where
  -- No ACK is seen.
  pub unacked : (acked : Bool) → acked ≡ false → Flows r c x (host_out acked h) t (k ++ if_so acked h.packet)
  unfolding host_out pick
  unacked acked e = rw (e, append-nil k) (host_flows (goes_keeps over h) f)

  -- ---- endpoint 2 changes

  -- The host's packet is stored with the host's toggle, its ACK seen or not.
  pub stored_flows : {r' : Receiver} {c' : Packet} → Ready r → h.holds ≡ true → Stores h.sends h.packet c' r' → (seen : Bool)
      → Flows r' c' x (host_out seen h) t (k ++ if_so seen h.packet)
  unfolding host_out goes pick
  stored_flows {r'} {c'} ready holds s true =
      let before : Tally false c x h.sends true h.packet t k = rw (ready_waits r x ready, holds) at f.tally in
      record {
        shape = inr s.shut;
        tally = rw (s.waiting x, s.whole) (stored_seen c h.packet t k x h.sends [] before);
      }
  stored_flows {r'} {c'} ready holds s false =
      let before : Tally false c x h.sends true h.packet t k = rw (ready_waits r x ready, holds) at f.tally in
      record {
        shape = inr s.shut;
        tally = rw (append-nil k, s.waiting x, s.whole, holds) (stored_unseen c h.packet t k x h.sends before);
      }

  -- Damage is stored: nothing waits.
  pub damaged_flows : {r' : Receiver} {c' : Packet} → Ready r → Shut r' → r'.err ≡ true → Flows r' c' x h t k
  damaged_flows {r'} {c'} ready shut err =
      let before : Tally false c x h.sends h.holds h.packet t k = rw (ready_waits r x ready) at f.tally in
      record {
        shape = inr shut;
        tally = rw (err_waits r' x err) (none_tally x h.sends h.holds c c' h.packet t k before);
      }

  -- The service takes the packet that waits, and none where none does; endpoint 2 is ready.
  served_tally : (w took : Bool) (c' bytes : Packet) (x' : Bool) → took ≡ w → (w ≡ true → bytes ≡ c) → x' ≡ due w x
      → Tally w c x h.sends h.holds h.packet t k → Tally false c' x' h.sends h.holds h.packet (t ++ if_so took bytes) k
  unfolding pick
  served_tally true took c' bytes x' e b q y =
      rw (e, b refl, q) (taken_tally x h.sends h.holds c c' h.packet t k y)
  served_tally false took c' bytes x' e b q y =
      rw (e, append-nil t, q) (none_tally x h.sends h.holds c c' h.packet t k y)

  pub served_flows : {r' : Receiver} {c' : Packet} (x' took : Bool) (bytes : Packet) → Ready r' → took ≡ waits r x
      → (waits r x ≡ true → bytes ≡ c) → x' ≡ due (waits r x) x → Flows r' c' x' h (t ++ if_so took bytes) k
  served_flows {r'} {c'} x' took bytes ready e b q =
      record {
        shape = inl ready;
        tally = rw (ready_waits r' x' ready) (served_tally (waits r x) took c' bytes x' e b q f.tally);
      }
