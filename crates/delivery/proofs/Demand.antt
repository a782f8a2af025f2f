-- Demand 3, each theorem under its sentence: for every address and bus endpoints that the driver starts with, and after every list of actions.
-- What an action is, who may do what when, and what is lost or damaged, stands in world/specs; `AllBytes` says that bytes are bytes.
-- Assumes nothing.
use mathlib.Core.Path.{◌≡◌}
use mathlib.Core.Logic.{◌⊎◌}
use mathlib.Core.Bool.{true}
use mathlib.Core.List.{List, ◌++◌}
use Rattle.driver.specs.Driver.{startable}
use Rattle.delivery.specs.Host.{Action, over}
use Rattle.delivery.specs.World.{Pipes, World, start_world, acts, held}
use Rattle.delivery.specs.Lists.{AllBytes, has, host_held, SentAgain, ReceivedAgain}
use Rattle.delivery.proofs.Send.Always.{sent_always}
use Rattle.delivery.proofs.Send.Again.{sent_again}
use Rattle.delivery.proofs.Receive.Received.{received_always}
use Rattle.delivery.proofs.Receive.Again.{received_again}

-- "Take the driver on endpoints 1 and 2 from a fresh start, set up as 01 says, and a host .. after any run of transactions, offers and services"
module _ (p : Pipes) (xs : List Action) (starts : startable p.a p.e p.f ≡ true) (bytes : AllBytes xs) where
  abbrev pub w : World
  w = acts xs (start_world p)

  -- "the receiver has exactly the packets the sender knows delivered, in order and once each, or those plus the one packet the sender still
  -- holds": the host receives
  pub host_has : (w.lists.got ≡ w.lists.delivered) ⊎ (w.lists.got ≡ w.lists.delivered ++ held w)
  host_has = (sent_always p xs starts bytes).once

  -- the driver receives
  pub driver_has : (has w ≡ w.lists.known) ⊎ (has w ≡ w.lists.known ++ host_held w)
  driver_has = (received_always p xs starts bytes).once

  -- "What the driver knows delivered, followed by what it holds, is what was offered and not refused, in order."
  pub driver_knows : w.lists.delivered ++ held w ≡ w.lists.offers
  driver_knows = (sent_always p xs starts bytes).in_order

  -- "From either case, a service, then, if a packet is still held, one transaction of it in which nothing is lost or damaged and a service make
  -- both lists equal, that packet at the end of each.": where no transaction is open
  pub sending_recovers : w.host.at ≡ over → SentAgain w
  sending_recovers = sent_again p xs starts bytes

  pub receiving_recovers : w.host.at ≡ over → ReceivedAgain w
  receiving_recovers = received_again p xs starts bytes
