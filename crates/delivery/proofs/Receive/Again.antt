-- A service, then, if a packet is still held, one transaction of it in which nothing is lost or damaged and a service make both lists equal.
-- Assumes nothing.
use mathlib.Core.Path.{◌≡◌, refl, sym, ap, ◌∙◌}
use mathlib.Core.Bool.{Bool, true, false, ◌&&◌}
use mathlib.Core.List.{List, [], ◌∷◌, ◌++◌, append-nil}
use Rattle.choice.specs.Choice.{pick}
use Rattle.event.specs.declared.Event.TheVariants as event
use Rattle.epc.specs.Bits.{bit_of}
use Rattle.state.specs.declared.Wait.TheVariants.{Data}
use Rattle.driver.specs.Driver.{startable}
use Rattle.delivery.specs.Host.{over, sound, Action, receive_service, out_token, out_data, is_over, is_datas}
use Rattle.delivery.specs.World.{Pipes, World, start_world, if_so, called, act_receive, answer_to, happens, goes, is_ack, act_out, host_out, sent, act_data, act, acts}
use Rattle.delivery.specs.Lists.{ActionBytes, FateBytes, AllBytes, waiting, has, host_held, recover_receiving, ReceivedAgain}
use Rattle.laws.specs.Place.{endpoint}
use Rattle.delivery.specs.Standing.{Standing}
use Rattle.delivery.proofs.Standing.Reaches.{pipes_range, out_reaches_then}
use Rattle.delivery.proofs.Standing.Waits.{out_waits}
use Rattle.delivery.proofs.Standing.Stands.{act_stands, reached_stands}
use Rattle.delivery.proofs.Receive.Tally.{free_even}
use Rattle.delivery.proofs.Receive.Storing.{Ready, ready_waits}
use Rattle.delivery.proofs.Receive.Alike.{rx, out_alike}
use Rattle.delivery.proofs.Receive.Deliver.{good_acked}
use Rattle.delivery.proofs.Receive.Judged.{service_served}
use Rattle.delivery.proofs.Receive.Flow.{Flow}
use Rattle.delivery.proofs.Receive.Acts.{clear, sound_of, act_flows}
use Rattle.delivery.proofs.Receive.Received.{reached_flow}

module _ (w : World) (s : Standing w) (f : Flow w) where
  -- a service leaves endpoint 2 ready
  serviced : Ready (rx (act receive_service w).model)
  unfolding act act_receive called
  serviced = (service_served w.model w.driver (sound_of w s) s.as_set_up.operates f.shape).ready

  -- and where the host holds no packet the lists are equal then
  settled : w.host.holds ≡ false → (act receive_service w).lists.taken ≡ w.lists.known
  settled free =
      let v : World = act receive_service w in
      free_even (rw (ready_waits (rx v.model) v.driver.expects serviced) at (act_flows receive_service w (unfold ActionBytes in tt) s f).tally) still ∙ same_known
    where
      still : (act receive_service w).host.holds ≡ false
      still = unfold act act_receive called in free

      same_known : (act receive_service w).lists.known ≡ w.lists.known
      same_known = unfold act act_receive called in refl

  -- and nothing waits
  emptied : has (act receive_service w) ≡ (act receive_service w).lists.taken
  unfolding has waiting pick
  emptied =
      let v : World = act receive_service w in
      rw (ready_waits (rx v.model) v.driver.expects serviced) (append-nil v.lists.taken)

-- an OUT token that reaches endpoint 2
record Opened (w u : World) : Type 0 where
  state : rx u.model ≡ rx w.model
  awaits : u.model.chip.pending.wait ≡ Data (endpoint 2)
  sending : is_datas u.host.at ≡ true
  holds : u.host.holds ≡ w.host.holds
  packet : u.host.packet ≡ w.host.packet
  known : u.lists.known ≡ w.lists.known

token : (w : World) → Standing w → w.host.at ≡ over → w.host.holds ≡ true → Opened w (act (out_token true) w)
token w s at holds = rw told opened
  where
    turn : (is_over w.host.at && w.host.holds) ≡ true
    turn = unfold is_over in (rw (at, holds) refl)

    told : act (out_token true) w ≡ act_out true w
    told = unfold act pick in (ap (λ (b : Bool). pick b (act_out true w) w) turn)

    opened : Opened w (act_out true w)
    opened = unfold act_out happens goes is_datas in
        (record {
          state = (out_alike [] w.model s.as_set_up.operates w.pipes.a w.pipes.f).state;
          awaits =
              out_waits [] w.model s.as_set_up.operates w.pipes.a w.pipes.f
              (out_reaches_then w.pipes w.model.chip (pipes_range w.pipes s.startable_as) s.as_set_up);
          sending = refl;
          holds = refl;
          packet = refl;
          known = refl;
        })

-- its packet, not damaged, and the ACK seen
deliver : (u : World) → Standing u → Ready (rx u.model) → u.model.chip.pending.wait ≡ Data (endpoint 2) → is_datas u.host.at ≡ true
    → ((act (out_data sound true) u).lists.known ≡ u.lists.known ++ (u.host.packet ∷ [])) × ((act (out_data sound true) u).host.holds ≡ false)
deliver u s ready two turn = (ap (λ (x : World). x.lists.known) told ∙ known, ap (λ (x : World). x.host.holds) told ∙ free)
  where
    told : act (out_data sound true) u ≡ act_data sound true u
    told = unfold act pick in (ap (λ (b : Bool). pick b (act_data sound true u) u) turn)

    acked : is_ack (answer_to (event.Data (bit_of u.host.sends) 1) u.host.packet u.model) ≡ true
    acked =
        good_acked u.model s.as_set_up.operates s.typed two u.host.sends u.host.packet ready (clear u s) s.holding.fits

    known : (act_data sound true u).lists.known ≡ u.lists.known ++ (u.host.packet ∷ [])
    known = unfold act_data sent happens pick in (ap (λ (b : Bool). u.lists.known ++ if_so b u.host.packet) acked)

    free : (act_data sound true u).host.holds ≡ false
    free = unfold act_data sent happens host_out goes pick in (ap (λ (b : Bool). (host_out b u.host).holds) acked)

-- a service, a transaction of the packet that is held, and a service
module _ (w : World) (s : Standing w) (f : Flow w) (at : w.host.at ≡ over) (holds : w.host.holds ≡ true) where
  abbrev one : World
  one = act receive_service w

  abbrev two : World
  two = act (out_token true) one

  abbrev three : World
  three = act (out_data sound true) two

  stands_one : Standing one
  stands_one = act_stands receive_service w (unfold ActionBytes in tt) s

  flow_one : Flow one
  flow_one = act_flows receive_service w (unfold ActionBytes in tt) s f

  stands_two : Standing two
  stands_two = act_stands (out_token true) one (unfold ActionBytes in tt) stands_one

  stands_three : Standing three
  stands_three = act_stands (out_data sound true) two (unfold ActionBytes FateBytes in tt) stands_two

  flow_three : Flow three
  flow_three =
      act_flows (out_data sound true) two (unfold ActionBytes FateBytes in tt) stands_two
      (act_flows (out_token true) one (unfold ActionBytes in tt) stands_one flow_one)

  begun : Opened one two
  begun = token one stands_one (unfold act act_receive called in at) (unfold act act_receive called in holds)

  done : (three.lists.known ≡ w.lists.known ++ (w.host.packet ∷ [])) × (three.host.holds ≡ false)
  unfolding act act_receive called
  done =
      let o : Opened one two = begun in
      let d : _ = deliver two stands_two (rw o.state (serviced w s f)) o.awaits o.sending in
      (d.0 ∙ rw (o.known, o.packet) refl, d.1)

  -- both lists have the packet at their end
  both : ((act receive_service three).lists.known ≡ w.lists.known ++ (w.host.packet ∷ []))
      × ((act receive_service three).lists.taken ≡ w.lists.known ++ (w.host.packet ∷ []))
  both = (still ∙ done.0, settled three stands_three flow_three done.1 ∙ done.0)
    where
      still : (act receive_service three).lists.known ≡ three.lists.known
      still = unfold act act_receive called in refl

-- whether a packet is still held after the service
recovers : (w : World) (b : Bool) → w.host.holds ≡ b
    → recover_receiving w ≡ pick b (act receive_service (act (out_data sound true) (act (out_token true) (act receive_service w)))) (act receive_service w)
unfolding recover_receiving acts act act_receive called
recovers w b e =
    let one : World = act receive_service w in
    ap (λ (h : Bool). pick h (act receive_service (act (out_data sound true) (act (out_token true) one))) one) e

-- nothing waits then: what the driver has it has taken
again_taken : (w : World) → Standing w → Flow w → w.host.at ≡ over → has (recover_receiving w) ≡ (recover_receiving w).lists.taken
again_taken w s f at = go w.host.holds refl
  where
    go : (b : Bool) → w.host.holds ≡ b → has (recover_receiving w) ≡ (recover_receiving w).lists.taken
    go true e = unfold pick in
        (rw (recovers w true e)
        (emptied (act (out_data sound true) (act (out_token true) (act receive_service w))) (stands_three w s f at e) (flow_three w s f at e)))
    go false e = unfold pick in (rw (recovers w false e) (emptied w s f))

again : (w : World) → Standing w → Flow w → w.host.at ≡ over → ReceivedAgain w
again w s f at = go w.host.holds refl
  where
    -- the lists by what was held
    as_held : (b : Bool) → w.host.holds ≡ b → w.lists.known ++ if_so b w.host.packet ≡ w.lists.known ++ host_held w
    as_held b e = unfold host_held in (ap (λ (h : Bool). w.lists.known ++ if_so h w.host.packet) (sym e))

    same_known : (act receive_service w).lists.known ≡ w.lists.known
    same_known = unfold act act_receive called in refl

    go : (b : Bool) → w.host.holds ≡ b → ReceivedAgain w
    go true e = unfold pick in
        (record {
          known = ap (λ (x : World). x.lists.known) (recovers w true e) ∙ (both w s f at e).0 ∙ as_held true e;
          taken = ap (λ (x : World). x.lists.taken) (recovers w true e) ∙ (both w s f at e).1 ∙ as_held true e;
          all = again_taken w s f at ∙ ap (λ (x : World). x.lists.taken) (recovers w true e) ∙ (both w s f at e).1 ∙ as_held true e;
        })
    go false e = unfold pick in
        (record {
          known = ap (λ (x : World). x.lists.known) (recovers w false e) ∙ same_known ∙ sym (append-nil w.lists.known) ∙ as_held false e;
          taken = ap (λ (x : World). x.lists.taken) (recovers w false e) ∙ settled w s f e ∙ sym (append-nil w.lists.known) ∙ as_held false e;
          all = again_taken w s f at ∙ ap (λ (x : World). x.lists.taken) (recovers w false e) ∙ settled w s f e ∙ sym (append-nil w.lists.known) ∙ as_held false e;
        })

-- From either case a service, then, if a packet is still held, one transaction of it in which nothing is lost or damaged and a service make both
-- lists equal, that packet at the end of each.
pub received_again : (p : Pipes) (xs : List Action) → startable p.a p.e p.f ≡ true → AllBytes xs
    → (acts xs (start_world p)).host.at ≡ over → ReceivedAgain (acts xs (start_world p))
received_again p xs h b = again (acts xs (start_world p)) (reached_stands p xs h b) (reached_flow p xs h b)
