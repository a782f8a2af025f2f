-- Every action leaves a standing world standing, so every world that actions reach stands.
-- Assumes nothing.
use Prim.Native.Nat.{ℕ, ◌<◌}
use native.Mathlib.Omega.{arith}
use mathlib.Core.Path.{◌≡◌, refl}
use mathlib.Core.Bool.{Bool, true, false, not, ◌&&◌, ◌||◌, and-eq-true_iff}
use mathlib.Core.List.{List, [], ◌∷◌}
use mathlib.Core.Logic.{inl, inr}
use lib.ListN.{length}
use lib.Dec.{leb}
use borrow.Author.Tests.{leb-true, not-true, not-false}
use Rattle.choice.proofs.ByTest.{by_test}
use Rattle.event.specs.declared.Event.{Event}
use Rattle.event.specs.declared.Event.TheVariants as event
use Rattle.event.specs.Event.{in_range}
use Rattle.epc.specs.Bits.{bit_of}
use Rattle.state.specs.declared.Wait.{Wait}
use Rattle.state.specs.State.{Model}
use Rattle.laws.specs.Typed.{Bytes, TypedEvent}
use Rattle.laws.specs.Next.{next}
use Rattle.laws.proofs.Typed.Ranges.{in_range_typed}
use Rattle.laws.specs.Settings.{is_access, is_token}
use Rattle.laws.specs.Place.{Place, awaited}
use Rattle.laws.specs.Driver.{Piped, reserved}
use Rattle.laws.proofs.Frame.Awaits.{wait_over}
use Rattle.driver.specs.Driver.{Call, startable, offered, send_served}
use Rattle.receiving.specs.Receive.{receive_served}
use Rattle.driving.proofs.Reached.{offer_reaches, send_reaches, receive_reaches}
use Rattle.driving.proofs.Kept.{Sound, offer_keeps, send_keeps, receive_keeps}
use Rattle.delivery.specs.Host.{Packet, over, fails, datas, Host, Fate, sound, damaged, lost, Action, offer, send_service, receive_service, access, take, in_token, ack, out_token, out_data, other, timeout, late, other_token, other_rest, is_over, is_acks, is_datas, is_others}
use Rattle.delivery.specs.World.{Pipes, Lists, World, start_world, called, act_offer, act_send, act_receive, answer_to, happens, hostly, goes, act_in, act_ack, act_take, act_out, host_out, is_ack, sent, act_data, after_token, act_other, act, acts}
use Rattle.delivery.specs.Lists.{FateBytes, ActionBytes, AllBytes}
use Rattle.delivery.specs.Standing.{Awaits, Holding, Standing}
use Rattle.delivery.proofs.Standing.Reaches.{pipes_range, Ranges, in_reaches_then, out_reaches_then, other_not_for}
use Rattle.delivery.proofs.Standing.Calls.{Leaves, sending_leaves, receiving_leaves}
use Rattle.delivery.proofs.Standing.Waits.{in_waits, out_waits, other_free}
use Rattle.delivery.proofs.Standing.Keeps.{Chips, awaits_by, access_untouched, bus_chips, access_chips, chips_sound, call_chips}
use Rattle.delivery.proofs.Standing.Turns.{goes_holding, in_holding, out_holding, token_not_datas, over_none, none_awaits, acks_fail, datas_fail, in_awaits, token_awaits}
use Rattle.delivery.proofs.Standing.Events.{no_bytes, in_typed, out_typed, data_typed, ack_typed, timeout_typed, token_no_access, other_is_token, rest_ends}
use Rattle.delivery.proofs.Standing.Start.{start_stands}

-- ---- a world after an action

pub chips : (w : World) → Standing w → Chips w.pipes w.model
chips w s = record { typed = s.typed; as_set_up = s.as_set_up }

module _ (w : World) (s : Standing w) where
  abbrev k : Chips w.pipes w.model
  k = chips w s

  -- the host alone has changed
  host_stands : (h : Host) → Awaits h.at w.model.chip → Holding h → Standing (hostly h w)
  unfolding hostly
  host_stands h a g =
      record { startable_as = s.startable_as; typed = s.typed; as_set_up = s.as_set_up; awaits = a; holding = g }

  -- a driver's call
  call_stands : (x : Call) (l : Lists) → Sound x.model → Leaves w.model.chip x.model.chip → Standing (called x l w)
  unfolding called
  call_stands x l kept left =
      let n : Chips w.pipes x.model = call_chips w.pipes w.model k x.model kept left in
      record {
        startable_as = s.startable_as;
        typed = n.typed;
        as_set_up = n.as_set_up;
        awaits = awaits_by w.host.at w.model.chip x.model.chip left.untouched.wait s.awaits;
        holding = s.holding;
      }

  -- an event at the chip
  event_stands : (t : Event) (b : Packet) (h : Host) (l : Lists) → Chips w.pipes (next t b w.model) → Awaits h.at (next t b w.model).chip
      → Holding h → Standing (happens t b h l w)
  unfolding happens
  event_stands t b h l n a g =
      record { startable_as = s.startable_as; typed = n.typed; as_set_up = n.as_set_up; awaits = a; holding = g }

  bus_stands : (t : Event) (b : Packet) (h : Host) (l : Lists) → is_access t ≡ false → TypedEvent t → Bytes b
      → Awaits h.at (next t b w.model).chip → Holding h → Standing (happens t b h l w)
  bus_stands t b h l i ty bs a g = event_stands t b h l (bus_chips w.pipes w.model k t b i ty bs) a g

  -- data, a host ACK or a timeout is the end of the transaction
  end_stands : (t : Event) (b : Packet) (h : Host) (l : Lists) → is_access t ≡ false → is_token t ≡ false → TypedEvent t → Bytes b
      → h.at ≡ over → Holding h → Standing (happens t b h l w)
  end_stands t b h l i n ty bs o g =
      bus_stands t b h l i ty bs (rw o (unfold Awaits in wait_over t b w.model i n s.as_set_up.operates)) g

  abbrev r : Ranges w.pipes
  r = pipes_range w.pipes s.startable_as

  -- ---- actions

  offer_stands : (b : Packet) → Bytes b → Standing (act_offer b w)
  unfolding act_offer
  offer_stands b bs =
      call_stands (offered b w.model w.driver) _ (offer_keeps b w.model w.driver bs (chips_sound w.pipes w.model k))
      (sending_leaves (offer_reaches b w.model w.driver bs).touches)

  send_stands : Standing (act_send w)
  unfolding act_send
  send_stands =
      call_stands (send_served w.model w.driver) _ (send_keeps w.model w.driver (chips_sound w.pipes w.model k))
      (sending_leaves (send_reaches w.model w.driver).touches)

  receive_stands : Standing (act_receive w)
  unfolding act_receive
  receive_stands =
      call_stands (receive_served w.model w.driver) _ (receive_keeps w.model w.driver (chips_sound w.pipes w.model k))
      (receiving_leaves (receive_reaches w.model w.driver).touches)

  access_stands : (t : Event) → is_access t ≡ true → reserved t ≡ false → TypedEvent t → Standing (happens t [] w.host w.lists w)
  access_stands t i free ty =
      event_stands t [] w.host w.lists (access_chips w.pipes w.model k t [] i free ty no_bytes)
      (awaits_by w.host.at w.model.chip (next t [] w.model).chip (access_untouched w.pipes w.model k t [] i free).wait s.awaits)
      s.holding

  take_stands : (b : Packet) → Bytes b → Standing (act_take b w)
  unfolding act_take
  take_stands b bs =
      by_test Standing (not w.host.holds && leb 1 (length b) && leb (length b) 64)
      (λ t.
      let x : _ = (and-eq-true_iff (not w.host.holds && leb 1 (length b)) (leb (length b) 64)).0 t in
      let y : _ = (and-eq-true_iff (not w.host.holds) (leb 1 (length b))).0 x.0 in
      host_stands _ s.awaits
      (record { bytes = bs; fits = leb-true (length b) 64 x.1; some = λ _. leb-true 1 (length b) y.1; sending = λ _. refl }))
      (λ _. s)

  in_stands : (reaches seen : Bool) → is_over w.host.at ≡ true → Standing (act_in reaches seen w)
  unfolding act_in answer_to is_datas
  in_stands false seen o =
      host_stands (goes fails w.host) (unfold goes Awaits in inl (over_none w.host.at w.model.chip o s.awaits))
      (goes_holding fails w.host refl s.holding)
  in_stands true seen o =
      let p : Pipes = w.pipes in
      bus_stands (event.In p.a p.e) [] _ _ (unfold is_access in refl) (in_typed p.a p.e r.address r.sends_high) no_bytes
      (in_awaits seen _ w.host _
      (in_waits [] w.model s.as_set_up.operates p.a p.e (in_reaches_then p w.model.chip r s.as_set_up)))
      (in_holding seen _ w.host s.holding)

  ack_stands : (reaches : Bool) → is_acks w.host.at ≡ true → Standing (act_ack reaches w)
  unfolding act_ack is_datas
  ack_stands false o =
      host_stands (goes fails w.host) (unfold goes in acks_fail w.host.at w.model.chip o s.awaits)
      (goes_holding fails w.host refl s.holding)
  ack_stands true o =
      end_stands event.Ack [] (goes over w.host) w.lists (unfold is_access in refl) (unfold is_token in refl) ack_typed no_bytes
      (unfold goes in refl) (goes_holding over w.host refl s.holding)

  datas_holding : w.host.holds ≡ true → Holding (goes datas w.host)
  unfolding goes
  datas_holding h = record { bytes = s.holding.bytes; fits = s.holding.fits; some = s.holding.some; sending = λ _. h }

  out_stands : (reaches : Bool) → is_over w.host.at ≡ true → w.host.holds ≡ true → Standing (act_out reaches w)
  unfolding act_out
  out_stands false o h =
      host_stands (goes datas w.host) (unfold goes Awaits in inl (over_none w.host.at w.model.chip o s.awaits)) (datas_holding h)
  out_stands true o h =
      let p : Pipes = w.pipes in
      bus_stands (event.Out p.a p.f) [] (goes datas w.host) w.lists (unfold is_access in refl)
      (out_typed p.a p.f r.address r.receives_high) no_bytes
      (unfold goes Awaits in inr (out_waits [] w.model s.as_set_up.operates p.a p.f (out_reaches_then p w.model.chip r s.as_set_up)))
      (datas_holding h)

  out_over_lem : (acked : Bool) → (host_out acked w.host).at ≡ over
  unfolding host_out goes
  out_over_lem acked = by_test (λ (h : Host). h.at ≡ over) acked (λ _. refl) (λ _. refl)

  sent_stands : (pid : Bool) (good : ℕ) (b : Packet) (seen : Bool) → good < 256 → Bytes b → Standing (sent (event.Data (bit_of pid) good) b seen w)
  unfolding sent
  sent_stands pid good b seen g bs =
      let acked : Bool = seen && is_ack (answer_to (event.Data (bit_of pid) good) b w.model) in
      end_stands (event.Data (bit_of pid) good) b (host_out acked w.host) _ (unfold is_access in refl) (unfold is_token in refl)
      (data_typed pid good g) bs (out_over_lem acked) (out_holding acked w.host s.holding)

  data_stands : (fate : Fate) (seen : Bool) → FateBytes fate → is_datas w.host.at ≡ true → Standing (act_data fate seen w)
  unfolding act_data FateBytes
  data_stands sound seen f o = sent_stands w.host.sends 1 w.host.packet seen (omega arith) s.holding.bytes
  data_stands (damaged pid bytes) seen f o = by_test Standing _ (λ _. sent_stands pid 0 bytes seen (omega arith) f) (λ _. s)
  data_stands lost seen f o =
      host_stands (goes fails w.host) (unfold goes in datas_fail w.host.at w.model.chip o s.awaits)
      (goes_holding fails w.host (unfold is_datas in refl) s.holding)

  timeout_stands : Standing (happens event.Timeout [] (goes over w.host) w.lists w)
  timeout_stands =
      end_stands event.Timeout [] (goes over w.host) w.lists (unfold is_access in refl) (unfold is_token in refl) timeout_typed no_bytes
      (unfold goes in refl) (goes_holding over w.host (unfold is_datas in refl) s.holding)

  late_stands : Standing (happens event.Timeout [] w.host w.lists w)
  unfolding is_access is_token
  late_stands =
      bus_stands event.Timeout [] w.host w.lists refl timeout_typed no_bytes
      (none_awaits w.host.at (next event.Timeout [] w.model).chip (wait_over event.Timeout [] w.model refl refl s.as_set_up.operates))
      s.holding

  token_stands : (t : Event) (b : Packet) → TypedEvent t → Bytes b → other_token w.pipes.a w.pipes.e w.pipes.f t ≡ true
      → Standing (happens t b (goes (after_token (next t b w.model).chip.pending.wait) w.host) w.lists w)
  unfolding goes
  token_stands t b ty bs o =
      let p : Pipes = w.pipes in
      let m : Model = w.model in
      let token : is_token t ≡ true = other_is_token p.a p.e p.f t o in
      let i : is_access t ≡ false = token_no_access t token in
      let free : (q : Place) → Piped q → awaited q (next t b m).chip ≡ false =
      λ q d. other_free b m s.as_set_up.operates t q i (other_not_for p m.chip r s.as_set_up t o q d) in
      let v : Wait = (next t b m).chip.pending.wait in
      bus_stands t b (goes (after_token v) w.host) w.lists i ty bs (token_awaits (next t b m).chip free)
      (goes_holding (after_token v) w.host (token_not_datas v) s.holding)

  rest_stands : (t : Event) (b : Packet) → TypedEvent t → Bytes b → other_rest t ≡ true
      → Standing (happens t b (goes over w.host) w.lists w)
  rest_stands t b ty bs o =
      let x : _ = rest_ends t o in
      end_stands t b (goes over w.host) w.lists x.0 x.1 ty bs
      (unfold goes in refl) (goes_holding over w.host (unfold is_datas in refl) s.holding)

  other_stands : (t : Event) (b : Packet) → Bytes b → Standing (act_other t b w)
  unfolding act_other
  other_stands t b bs =
      by_test Standing (not (in_range t (length b))) (λ _. s) (λ n.
      let ty : TypedEvent t = in_range_typed t (length b) (not-false (in_range t (length b)) n) in
      by_test Standing (is_over w.host.at && other_token w.pipes.a w.pipes.e w.pipes.f t)
      (λ o. token_stands t b ty bs ((and-eq-true_iff (is_over w.host.at) (other_token w.pipes.a w.pipes.e w.pipes.f t)).0 o).1) (λ _.
      by_test Standing ((is_others w.host.at || is_over w.host.at) && other_rest t)
      (λ o. rest_stands t b ty bs ((and-eq-true_iff (is_others w.host.at || is_over w.host.at) (other_rest t)).0 o).1) (λ _. s)))

-- ---- every action

-- Every action leaves a standing world standing.
pub act_stands : (x : Action) (w : World) → ActionBytes x → Standing w → Standing (act x w)
unfolding act ActionBytes
act_stands (offer b) w bs s = offer_stands w s b bs
act_stands send_service w bs s = send_stands w s
act_stands receive_service w bs s = receive_stands w s
act_stands (access t) w bs s =
    by_test Standing (is_access t && not (reserved t) && in_range t 0)
    (λ o.
    let x : _ = (and-eq-true_iff (is_access t && not (reserved t)) (in_range t 0)).0 o in
    let y : _ = (and-eq-true_iff (is_access t) (not (reserved t))).0 x.0 in
    access_stands w s t y.0 (not-true (reserved t) y.1) (in_range_typed t 0 x.1))
    (λ _. s)
act_stands (take b) w bs s = take_stands w s b bs
act_stands (in_token reaches seen) w bs s = by_test Standing (is_over w.host.at) (λ o. in_stands w s reaches seen o) (λ _. s)
act_stands (ack reaches) w bs s = by_test Standing (is_acks w.host.at) (λ o. ack_stands w s reaches o) (λ _. s)
act_stands (out_token reaches) w bs s =
    by_test Standing (is_over w.host.at && w.host.holds)
    (λ o.
    let x : _ = (and-eq-true_iff (is_over w.host.at) w.host.holds).0 o in
    out_stands w s reaches x.0 x.1)
    (λ _. s)
act_stands (out_data fate seen) w bs s = by_test Standing (is_datas w.host.at) (λ o. data_stands w s fate seen bs o) (λ _. s)
act_stands (other t b) w bs s = other_stands w s t b bs
act_stands timeout w bs s = timeout_stands w s
act_stands late w bs s = late_stands w s

-- So do many.
pub acts_stand : (xs : List Action) (w : World) → AllBytes xs → Standing w → Standing (acts xs w)
unfolding acts AllBytes
acts_stand [] w bs s = s
acts_stand (x ∷ xs) w bs s = acts_stand xs (act x w) bs.1 (act_stands x w bs.0 s)

-- Every world that actions reach from a fresh start stands.
pub reached_stands : (p : Pipes) (xs : List Action) → startable p.a p.e p.f ≡ true → AllBytes xs → Standing (acts xs (start_world p))
reached_stands p xs h bs = acts_stand xs (start_world p) bs (start_stands p h)
