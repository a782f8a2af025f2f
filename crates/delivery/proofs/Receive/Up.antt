-- The host takes up a packet.
-- Assumes nothing.
use mathlib.Core.Path.{◌≡◌}
use mathlib.Core.Bool.{Bool, true, false}
use mathlib.Core.List.{List}
use Rattle.receiver.specs.declared.Receiver.{Receiver}
use Rattle.delivery.specs.Host.{Packet, Host}
use Rattle.delivery.specs.Lists.{waits}
use Rattle.delivery.proofs.Receive.Tally.{up_tally}
use Rattle.delivery.proofs.Receive.Flow.{Flows}

module _ {r : Receiver} {c : Packet} {x : Bool} {h : Host} {t k : List Packet} (f : Flows r c x h t k) where
  -- The host takes up a packet where it holds none.
  pub up_flows : (p : Packet) → h.holds ≡ false
      → Flows r c x (record { expects = h.expects; sends = h.sends; holds = true; packet = p; at = h.at }) t k
  up_flows p free = record { shape = f.shape; tally = up_tally (waits r x) c x h.sends h.packet p t k (rw free at f.tally) }
