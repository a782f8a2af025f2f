-- "From either case, a service, then, if a packet is still held, one transaction of it in which nothing is lost or damaged and a service make
-- both lists equal, that packet at the end of each."
-- Assumes nothing.
use mathlib.Core.Path.{◌≡◌, refl, sym, subst, ◌∙◌}
use mathlib.Core.Bool.{true, false≢true}
use mathlib.Core.List.{List, [], ◌∷◌, ◌++◌}
use Rattle.choice.specs.Choice.{pick}
use Rattle.choice.proofs.ByTest.{by_test}
use Rattle.driver.specs.Driver.{startable}
use Rattle.delivery.specs.Standing.{Standing}
use Rattle.delivery.proofs.Standing.Turns.{over_none}
use Rattle.delivery.proofs.Standing.Stands.{act_stands, reached_stands}
use Rattle.delivery.specs.Host.{Packet, over, acks, is_over, is_acks, Action, send_service, in_token, ack}
use Rattle.delivery.specs.World.{Pipes, World, held, start_world, called, happens, act_send, act_in, act_ack, act, acts}
use Rattle.delivery.specs.Lists.{ActionBytes, AllBytes, recover_sending, SentAgain}
use Rattle.delivery.specs.Stage.{IdleAt, ArmedAt, AckedAt, Stage, idle, armed, waiting, acked, failed}
use Rattle.delivery.proofs.Send.Driver.{send_idle, send_armed, send_acked, send_failed}
use Rattle.delivery.proofs.Send.Turns.{none_awaited, in_armed, in_acks}
use Rattle.delivery.proofs.Send.Acts.{ack_waiting}
use Rattle.delivery.proofs.Send.Always.{stage_sent, reached_stage}

-- ---- one step at a time

module _ (w : World) where
  in_turn : is_over w.host.at ≡ true → act (in_token true true) w ≡ act_in true true w
  unfolding act pick
  in_turn now = rw now

  ack_turn : is_acks w.host.at ≡ true → act (ack true) w ≡ act_ack true w
  unfolding act pick
  ack_turn now = rw now

  -- what was offered stays
  send_offers : (act_send w).lists.offers ≡ w.lists.offers
  unfolding act_send called
  send_offers = refl

  in_offers : (act_in true true w).lists.offers ≡ w.lists.offers
  unfolding act_in happens
  in_offers = refl

  ack_offers : (act_ack true w).lists.offers ≡ w.lists.offers
  unfolding act_ack happens
  ack_offers = refl

  -- a service leaves the host
  send_over : is_over w.host.at ≡ true → is_over (act_send w).host.at ≡ true
  unfolding act_send called
  send_over now = now

module _ (w : World) (s : Standing w) where
  send_stands : Standing (act_send w)
  unfolding act ActionBytes
  send_stands = act_stands send_service w tt s

  in_stands : is_over w.host.at ≡ true → Standing (act_in true true w)
  unfolding ActionBytes
  in_stands now = rw (in_turn w now) at (act_stands (in_token true true) w tt s)

  ack_stands : is_acks w.host.at ≡ true → Standing (act_ack true w)
  unfolding ActionBytes
  ack_stands now = rw (ack_turn w now) at (act_stands (ack true) w tt s)

-- ---- recovery

-- nothing is held, and no more is offered
record Recovered (w w' : World) : Type 0 where
  idles : IdleAt w'
  offers : w'.lists.offers ≡ w.lists.offers

abbrev transaction : List Action
transaction = in_token true true ∷ ack true ∷ send_service ∷ []

acks_now : (w : World) → w.host.at ≡ acks → is_acks w.host.at ≡ true
unfolding is_acks
acks_now w e = rw e refl

-- one transaction of an armed packet in which nothing is lost or damaged, and a service
armed_recovers : (p : Packet) (w : World) → Standing w → is_over w.host.at ≡ true → ArmedAt p w → Recovered w (acts transaction w)
unfolding acts act
armed_recovers p w s now x =
    let u : World = act_in true true w in
    let su : Standing u = in_stands w s now in
    let au : is_acks u.host.at ≡ true = acks_now u (in_acks w s now p x) in
    let v : World = act_ack true u in
    let sv : Standing v = ack_stands u su au in
    let y : AckedAt p v = ack_waiting u su p au (in_armed w s now p x true) in
    subst (λ (z : World). Recovered w (act_send (act (ack true) z))) (sym (in_turn w now))
    (subst (λ (z : World). Recovered w (act_send z)) (sym (ack_turn u au)) (record {
      idles = send_acked v sv p y;
      offers = send_offers v ∙ ack_offers u ∙ in_offers w;
    }))

-- by what is held after a service
module _ (w : World) where
  abbrev Recovers : Type 0
  Recovers = Recovered w (recover_sending w)

  by_none : IdleAt (act_send w) → Recovers
  unfolding recover_sending act
  by_none x =
      by_test (Recovered w) (act_send w).driver.held (λ e. absurd {0} (false≢true (sym x.held ∙ e))) (λ _. record { idles = x; offers = send_offers w })

  by_held : (p : Packet) → Standing w → is_over w.host.at ≡ true → ArmedAt p (act_send w) → Recovers
  unfolding recover_sending act
  by_held p s now x =
      let r : _ = armed_recovers p (act_send w) (send_stands w s) (send_over w now) x in
      by_test (Recovered w) (act_send w).driver.held
      (λ _. record { idles = r.idles; offers = r.offers ∙ send_offers w })
      (λ e. absurd {0} (false≢true (sym e ∙ x.holding.held)))

recovers : (w : World) → Standing w → is_over w.host.at ≡ true → Stage w → Recovered w (recover_sending w)
recovers w s now (idle x) = by_none w (send_idle w s x)
recovers w s now (armed p x) = by_held w p s now (send_armed w s p x)
recovers w s now (waiting p x) =
    absurd {0} (false≢true (sym (none_awaited w.model.chip (over_none w.host.at w.model.chip now s.awaits)) ∙ x.chip.waits))
recovers w s now (acked p x) = by_none w (send_acked w s p x)
recovers w s now (failed p x) = by_held w p s now (send_failed w s p x)

-- both lists are what was offered
pub stage_again : (w : World) → Standing w → is_over w.host.at ≡ true → Stage w → SentAgain w
stage_again w s now x =
    let r : Recovered w (recover_sending w) = recovers w s now x in
    let e : (recover_sending w).lists.delivered ≡ w.lists.delivered ++ held w =
    sym r.idles.offers ∙ r.offers ∙ sym (stage_sent w x).in_order in
    record { delivered = e; got = r.idles.told.got ∙ e }

over_now : (w : World) → w.host.at ≡ over → is_over w.host.at ≡ true
unfolding is_over
over_now w e = rw e refl

-- From every world that is reached, where no transaction is open.
pub sent_again : (p : Pipes) (xs : List Action) → startable p.a p.e p.f ≡ true → AllBytes xs
    → (acts xs (start_world p)).host.at ≡ over → SentAgain (acts xs (start_world p))
sent_again p xs h b e =
    let w : World = acts xs (start_world p) in
    stage_again w (reached_stands p xs h b) (over_now w e) (reached_stage p xs h b)
