-- After any run the receiver has exactly the packets the host knows delivered, in order and once each, or those plus the one packet the host
-- still holds.
-- Assumes nothing.
use Prim.Native.Nat.{ℕ}
use mathlib.Core.Path.{◌≡◌, refl, sym, ap, ◌∙◌}
use mathlib.Core.Logic.{◌⊎◌, inl, inr}
use mathlib.Core.Bool.{Bool, true, false}
use mathlib.Core.List.{List, [], ◌∷◌, ◌++◌}
use Rattle.choice.specs.Choice.{pick}
use Rattle.window.specs.Window.{index_of}
use Rattle.event.specs.declared.BusEndpoint.{BusEndpoint}
use Rattle.receiver.specs.Receiver.{flushed}
use Rattle.settings.specs.Settings.{nfsr_write}
use Rattle.writes.specs.Write.{sender_write, receiver_write, write_of}
use Rattle.driver.specs.Registers.{written}
use Rattle.driver.specs.Driver.{startable, set_up}
use Rattle.driving.proofs.Packet.{held}
use Rattle.delivery.specs.Host.{Action}
use Rattle.delivery.specs.World.{Pipes, World, start_world, if_so, act, acts}
use Rattle.delivery.specs.Lists.{AllBytes, waiting, has, host_held, Received}
use Rattle.delivery.specs.Standing.{Standing}
use Rattle.delivery.proofs.Standing.Start.{start_stands}
use Rattle.delivery.proofs.Standing.Stands.{act_stands}
use Rattle.delivery.proofs.Receive.Tally.{Even}
use Rattle.delivery.proofs.Receive.Storing.{Ready, ready_waits}
use Rattle.delivery.proofs.Receive.Alike.{rx}
use Rattle.delivery.proofs.Receive.Flow.{TallyOf, Flow}
use Rattle.delivery.proofs.Receive.Acts.{act_flows}

-- ---- at the start

start_ready : (a : ℕ) (e f : BusEndpoint) → Ready (rx (set_up a e f))
unfolding set_up written write_of nfsr_write sender_write receiver_write flushed index_of pick
start_ready a e f = record { enabled = refl; last = refl; err = refl; empty = refl }

start_flow : (p : Pipes) → Flow (start_world p)
unfolding start_world
start_flow p =
    let r : Ready (rx (set_up p.a p.e p.f)) = start_ready p.a p.e p.f in
    record { shape = inl r; tally = rw (ready_waits (rx (set_up p.a p.e p.f)) false r) (inl even) }
  where
    even : Even false (held (set_up p.a p.e p.f)) false false [] []
    even = unfold pick in (record { lists = refl; toggle = refl })

-- ---- after any run

pub acts_flow : (xs : List Action) (w : World) → AllBytes xs → Standing w → Flow w → Flow (acts xs w)
unfolding acts AllBytes
acts_flow [] w b s f = f
acts_flow (x ∷ xs) w b s f = acts_flow xs (act x w) b.1 (act_stands x w b.0 s) (act_flows x w b.0 s f)

pub reached_flow : (p : Pipes) (xs : List Action) → startable p.a p.e p.f ≡ true → AllBytes xs → Flow (acts xs (start_world p))
reached_flow p xs h b = acts_flow xs (start_world p) b (start_stands p h) (start_flow p)

flow_received : (w : World) → Flow w → Received w
flow_received w f = record { once = go f.tally }
  where
    go : TallyOf w → (has w ≡ w.lists.known) ⊎ (has w ≡ w.lists.known ++ host_held w)
    go (inl e) = inl (unfold has waiting in e.lists)
    go (inr e) = inr (unfold has waiting host_held pick in (e.lists ∙ ap (λ (b : Bool). w.lists.known ++ if_so b w.host.packet) (sym e.holds)))

-- The receiver has exactly the packets the host knows delivered, in order and once each, or those plus the one packet the host still holds.
pub received_always : (p : Pipes) (xs : List Action) → startable p.a p.e p.f ≡ true → AllBytes xs → Received (acts xs (start_world p))
received_always p xs h b = flow_received (acts xs (start_world p)) (reached_flow p xs h b)
