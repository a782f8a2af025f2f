-- After any run of actions the host has exactly the packets that the driver knows delivered, in order and once each, or those plus the one that
-- it still holds; what the driver knows delivered, followed by what it holds, is what was offered and not refused, in order.
-- Assumes nothing.
use mathlib.Core.Path.{◌≡◌, refl, sym, ap, ◌∙◌}
use mathlib.Core.Logic.{inl, inr}
use mathlib.Core.Bool.{true}
use mathlib.Core.List.{List, [], ◌∷◌, ◌++◌, append-nil}
use Rattle.choice.specs.Choice.{pick}
use Rattle.window.specs.Window.{index_of}
use Rattle.settings.specs.Settings.{nfsr_write}
use Rattle.writes.specs.Write.{sender_write, sender_bytes, receiver_write, write_of, bytes_of}
use Rattle.laws.specs.Place.{awaited}
use Rattle.driver.specs.Registers.{written}
use Rattle.driver.specs.Driver.{startable, set_up}
use Rattle.delivery.specs.Standing.{Standing}
use Rattle.delivery.proofs.Standing.Start.{start_stands}
use Rattle.delivery.proofs.Standing.Stands.{act_stands}
use Rattle.delivery.specs.Host.{Packet, Action}
use Rattle.delivery.specs.World.{Pipes, World, start_world, act, acts}
use Rattle.delivery.specs.Lists.{AllBytes, Sent}
use Rattle.delivery.specs.Stage.{view_of, Idle, Told, before, after, Holding, Stage, idle, armed, waiting, acked, failed}
use Rattle.delivery.proofs.Send.Driver.{held_is, held_none}
use Rattle.delivery.proofs.Send.Acts.{stage_act}

-- ---- the start

set_up_idle : (p : Pipes) → Idle (view_of (set_up p.a p.e p.f))
unfolding set_up written write_of bytes_of sender_write sender_bytes receiver_write nfsr_write awaited index_of pick
set_up_idle p = record { nothing = record { off = refl; empty = refl }; done = refl; free = refl }

pub start_stage : (p : Pipes) → Stage (start_world p)
unfolding start_world
start_stage p = idle (record { chip = set_up_idle p; held = refl; offers = refl; told = record { expected = refl; got = refl } })

-- ---- any run

pub acts_stage : (xs : List Action) (w : World) → Standing w → AllBytes xs → Stage w → Stage (acts xs w)
unfolding acts AllBytes
acts_stage [] w s b x = x
acts_stage (y ∷ xs) w s b x = acts_stage xs (act y w) (act_stands y w b.0 s) b.1 (stage_act w s y x)

pub reached_stage : (p : Pipes) (xs : List Action) → startable p.a p.e p.f ≡ true → AllBytes xs → Stage (acts xs (start_world p))
reached_stage p xs h b = acts_stage xs (start_world p) (start_stands p h) b (start_stage p)

-- ---- who has what

told_sent : (p : Packet) (w : World) → Holding p w → Told p w.driver.sends w.host.expects w.lists → Sent w
told_sent p w h (before b) =
    record { once = inl b.got; in_order = ap (λ (l : List Packet). w.lists.delivered ++ l) (held_is p w h) ∙ sym h.offers }
told_sent p w h (after a) =
    let e : _ = ap (λ (l : List Packet). w.lists.delivered ++ l) (held_is p w h) in
    record { once = inr (a.got ∙ sym e); in_order = e ∙ sym h.offers }

pub stage_sent : (w : World) → Stage w → Sent w
stage_sent w (idle x) =
    record {
      once = inl x.told.got;
      in_order = ap (λ (l : List Packet). w.lists.delivered ++ l) (held_none w x.held) ∙ append-nil w.lists.delivered ∙ sym x.offers;
    }
stage_sent w (armed p x) = told_sent p w x.holding x.told
stage_sent w (waiting p x) = told_sent p w x.holding x.told
stage_sent w (acked p x) = told_sent p w x.holding (after x.told)
stage_sent w (failed p x) = told_sent p w x.holding x.told

-- After any run of transactions, offers and services.
pub sent_always : (p : Pipes) (xs : List Action) → startable p.a p.e p.f ≡ true → AllBytes xs → Sent (acts xs (start_world p))
sent_always p xs h b = stage_sent (acts xs (start_world p)) (reached_stage p xs h b)
