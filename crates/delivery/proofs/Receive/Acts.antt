-- Every action keeps what stands of endpoint 2, the driver's toggle, the host and the two lists.
-- Assumes nothing.
use Prim.Native.Nat.{ℕ, ◌≤◌}
use mathlib.Core.Path.{◌≡◌, refl, ap, ◌∙◌}
use mathlib.Core.Logic.{◌⊎◌, inl, inr}
use mathlib.Core.Bool.{Bool, true, false, not, ◌&&◌, ◌||◌, false≢true, and-eq-true_iff}
use mathlib.Core.List.{List, []}
use lib.ListN.{length}
use lib.Dec.{leb}
use borrow.Author.Tests.{leb-true, not-true}
use Rattle.choice.proofs.ByTest.{by_test}
use Rattle.event.specs.declared.BusEndpoint.{BusEndpoint}
use Rattle.event.specs.declared.Event.{Event}
use Rattle.event.specs.declared.Event.TheVariants as event
use Rattle.event.specs.Event.{in_range}
use Rattle.epc.specs.Bits.{bit_of}
use Rattle.epc.specs.declared.Epc.{Epc}
use Rattle.state.specs.declared.Wait.{Wait}
use Rattle.state.specs.declared.Wait.TheVariants.{Nothing, Handshake, Data, Setup}
use Rattle.state.specs.declared.Chip.{Chip}
use Rattle.state.specs.State.{Model}
use Rattle.settings.specs.Settings.{operational}
use Rattle.window.specs.Window.{numbered}
use Rattle.laws.specs.Place.{endpoint, receives, is_owner, awaited_of, awaited}
use Rattle.laws.specs.Typed.{Bytes}
use Rattle.laws.specs.Next.{next}
use Rattle.laws.specs.Owner.{data_owner}
use Rattle.laws.specs.Settings.{is_access}
use Rattle.laws.specs.Driver.{reserved}
use Rattle.driver.specs.Driver.{Call, offered, send_served}
use Rattle.receiving.specs.Receive.{receive_served}
use Rattle.driving.specs.Touches.{Sending, KeepsExpected, Reaches}
use Rattle.driving.proofs.Reached.{offer_reaches, send_reaches}
use Rattle.driving.proofs.Kept.{Sound}
use Rattle.driving.proofs.Packet.{held}
use Rattle.delivery.specs.Host.{Packet, Open, over, acks, fails, datas, others, Fate, sound, damaged, lost, Action, offer, send_service, receive_service, access, take, in_token, ack, out_token, out_data, other, timeout, late, is_over, is_datas, is_others, other_token, other_rest}
use Rattle.delivery.specs.World.{World, called, act_offer, act_send, act_receive, answer_to, happens, hostly, act_in, act_ack, is_ack, act_take, act_out, sent, act_data, after_token, act_other, act}
use Rattle.delivery.specs.Lists.{ActionBytes}
use Rattle.delivery.specs.Standing.{Awaits, Standing}
use Rattle.delivery.proofs.Standing.Reaches.{epc_unstalled, pipes_range}
use Rattle.delivery.proofs.Receive.Storing.{Shut, Shape}
use Rattle.delivery.proofs.Receive.Alike.{rx, Alike, in_alike, setup_alike, ack_alike, timeout_alike, data_alike, out_alike, access_alike, sending_alike}
use Rattle.delivery.proofs.Receive.Deliver.{none_answer, good_stored, good_acked, bad_shut, bad_silent, shut_silent, shut_alike}
use Rattle.delivery.proofs.Receive.Service.{Served}
use Rattle.delivery.proofs.Receive.Judged.{service_served}
use Rattle.delivery.proofs.Receive.Flow.{Flows, Flow, moved, host_flows, goes_keeps, in_keeps, unacked, stored_flows, damaged_flows, served_flows}
use Rattle.delivery.proofs.Receive.Up.{up_flows}

-- ---- what Standing says of endpoint 2

-- "EPC2 10+f": no STALL
pub clear : (w : World) → Standing w → (rx w.model).epc.stall ≡ false
clear w s =
    ap (λ (p : Epc). p.stall) s.as_set_up.receives_as
    ∙ epc_unstalled w.pipes.f.0 (pipes_range w.pipes s.startable_as).receives_high

pub sound_of : (w : World) → Standing w → Sound w.model
sound_of w s = record { typed = s.typed; formed = s.as_set_up.well }

datas_awaits : (o : Open) (c : Chip) → is_datas o ≡ true → Awaits o c → (c.pending.wait ≡ Nothing) ⊎ (c.pending.wait ≡ Data (endpoint 2))
unfolding is_datas Awaits
datas_awaits over c e a = absurd {0} (false≢true e)
datas_awaits acks c e a = absurd {0} (false≢true e)
datas_awaits fails c e a = absurd {0} (false≢true e)
datas_awaits datas c e a = a
datas_awaits others c e a = absurd {0} (false≢true e)

-- what is not awaited of endpoint 2 is not its data
data_free : (v : Wait) → is_owner (awaited_of v) (receives (numbered 1)) ≡ false → is_owner (data_owner v) (receives (numbered 1)) ≡ false
data_free Nothing e = refl
data_free (Handshake x) e = refl
data_free (Data x) e = e
data_free Setup e = e

-- data or an ACK of another transaction
rest_free : (o : Open) (c : Chip) → (is_others o || is_over o) ≡ true → Awaits o c → is_owner (data_owner c.pending.wait) (receives (numbered 1)) ≡ false
unfolding is_others is_over Awaits awaited
rest_free over c e a = rw a refl
rest_free acks c e a = absurd {0} (false≢true e)
rest_free fails c e a = absurd {0} (false≢true e)
rest_free datas c e a = absurd {0} (false≢true e)
rest_free others c e a = data_free c.pending.wait a.1

-- ---- bus events of other transactions

module _ (m : Model) (on : operational m.chip ≡ true) (s : List ℕ) where
  token_alike : (a : ℕ) (e f : BusEndpoint) (t : Event) → other_token a e f t ≡ true → Alike m (next t s m)
  unfolding other_token
  token_alike a e f (event.Read r) y = absurd {0} (false≢true y)
  token_alike a e f (event.Write r v) y = absurd {0} (false≢true y)
  token_alike a e f (event.In i j) y = in_alike s m on i j
  token_alike a e f (event.Out i j) y = out_alike s m on i j
  token_alike a e f (event.Setup i j) y = setup_alike s m on i j
  token_alike a e f (event.Data p q) y = absurd {0} (false≢true y)
  token_alike a e f event.Ack y = absurd {0} (false≢true y)
  token_alike a e f event.Timeout y = absurd {0} (false≢true y)

  rest_alike : (t : Event) → is_owner (data_owner m.chip.pending.wait) (receives (numbered 1)) ≡ false → other_rest t ≡ true → Alike m (next t s m)
  unfolding other_rest
  rest_alike (event.Read r) free y = absurd {0} (false≢true y)
  rest_alike (event.Write r v) free y = absurd {0} (false≢true y)
  rest_alike (event.In i j) free y = absurd {0} (false≢true y)
  rest_alike (event.Out i j) free y = absurd {0} (false≢true y)
  rest_alike (event.Setup i j) free y = absurd {0} (false≢true y)
  rest_alike (event.Data p q) free y = data_alike s m on p q free
  rest_alike event.Ack free y = ack_alike s m on
  rest_alike event.Timeout free y = absurd {0} (false≢true y)

seen_false : (seen : Bool) {a : Bool} → a ≡ false → (seen && a) ≡ false
seen_false true e = e
seen_false false e = refl

seen_true : (seen : Bool) {a : Bool} → a ≡ true → (seen && a) ≡ seen
seen_true true e = e
seen_true false e = refl

-- ---- one action

module _ (w : World) (s : Standing w) (f : Flow w) where
  on : operational w.model.chip ≡ true
  on = s.as_set_up.operates

  -- endpoint 2 is as it was
  still : {m : Model} → Alike w.model m → Flows (rx m) (held m) w.driver.expects w.host w.lists.taken w.lists.known
  still a = moved a.state a.bytes refl f

  -- so it is after a call that accesses endpoint 1's registers alone
  sent_flow : (x : Call) → Reaches Sending KeepsExpected w.model w.driver x
      → Flows (rx x.model) (held x.model) x.driver.expects w.host w.lists.taken w.lists.known
  sent_flow x r = let a : _ = sending_alike r.touches in moved a.state a.bytes r.keeps f

  offer_flow : (p : Packet) → Bytes p → Flow (act_offer p w)
  unfolding act_offer called
  offer_flow p b = sent_flow (offered p w.model w.driver) (offer_reaches p w.model w.driver b)

  send_flow : Flow (act_send w)
  unfolding act_send called
  send_flow = sent_flow (send_served w.model w.driver) (send_reaches w.model w.driver)

  receive_flow : Flow (act_receive w)
  unfolding act_receive called
  receive_flow =
      let v : Served w.model w.driver (receive_served w.model w.driver) =
      service_served w.model w.driver (sound_of w s) on f.shape in
      served_flows f _ _ _ v.ready v.took v.packet v.expects

  access_flow : (t : Event) → Flow (act (access t) w)
  unfolding act happens
  access_flow t =
      by_test Flow _ (λ e.
      let q : _ = (and-eq-true_iff (is_access t && not (reserved t)) (in_range t 0)).0 e in
      let p : _ = (and-eq-true_iff (is_access t) (not (reserved t))).0 q.0 in
      still (access_alike t [] w.model p.0 (not-true (reserved t) p.1))) (λ _. f)

  take_flow : (p : Packet) → Flow (act_take p w)
  unfolding act_take hostly
  take_flow p =
      by_test Flow (not w.host.holds && leb 1 (length p) && leb (length p) 64) (λ e.
      let q : _ = (and-eq-true_iff (not w.host.holds && leb 1 (length p)) (leb (length p) 64)).0 e in
      let r : _ = (and-eq-true_iff (not w.host.holds) (leb 1 (length p))).0 q.0 in
      up_flows f p (not-true w.host.holds r.0)) (λ _. f)

  in_flow : (reaches seen : Bool) → Flow (act_in reaches seen w)
  unfolding act_in hostly happens
  in_flow false seen = host_flows (goes_keeps fails w.host) f
  in_flow true seen =
      host_flows (in_keeps seen _ w.host) (still (in_alike [] w.model on w.pipes.a w.pipes.e))

  ack_flow : (reaches : Bool) → Flow (act_ack reaches w)
  unfolding act_ack hostly happens
  ack_flow false = host_flows (goes_keeps fails w.host) f
  ack_flow true = host_flows (goes_keeps over w.host) (still (ack_alike [] w.model on))

  out_flow : (reaches : Bool) → Flow (act_out reaches w)
  unfolding act_out hostly happens
  out_flow false = host_flows (goes_keeps datas w.host) f
  out_flow true = host_flows (goes_keeps datas w.host) (still (out_alike [] w.model on w.pipes.a w.pipes.f))

  timeout_flow : Flow (act timeout w)
  unfolding act happens
  timeout_flow = host_flows (goes_keeps over w.host) (still (timeout_alike [] w.model on))

  late_flow : Flow (act late w)
  unfolding act happens
  late_flow = still (timeout_alike [] w.model on)

  other_flow : (t : Event) (b : Packet) → Flow (act_other t b w)
  unfolding act_other happens
  other_flow t b =
      by_test Flow (not (in_range t (length b))) (λ _. f) (λ _.
      by_test Flow (is_over w.host.at && other_token w.pipes.a w.pipes.e w.pipes.f t) (λ e.
      let y : _ = (and-eq-true_iff (is_over w.host.at) (other_token w.pipes.a w.pipes.e w.pipes.f t)).0 e in
      host_flows (goes_keeps (after_token (next t b w.model).chip.pending.wait) w.host)
      (still (token_alike w.model on b w.pipes.a w.pipes.e w.pipes.f t y.1))) (λ _.
      by_test Flow ((is_others w.host.at || is_over w.host.at) && other_rest t) (λ e.
      let y : _ = (and-eq-true_iff (is_others w.host.at || is_over w.host.at) (other_rest t)).0 e in
      let free : _ = rest_free w.host.at w.model.chip y.0 s.awaits in
      host_flows (goes_keeps over w.host) (still (rest_alike w.model on b t free y.1))) (λ _. f)))

  -- ---- data of the pipe

  -- answered with no ACK, and endpoint 2 as it was
  unheard : (t : Event) (b : Packet) (seen : Bool) → is_ack (answer_to t b w.model) ≡ false → Alike w.model (next t b w.model) → Flow (sent t b seen w)
  unfolding sent happens
  unheard t b seen e a = unacked (still a) (seen && is_ack (answer_to t b w.model)) (seen_false seen e)

  -- its token did not reach the chip
  untold : (p q : ℕ) (b : Packet) (seen : Bool) → w.model.chip.pending.wait ≡ Nothing → Flow (sent (event.Data p q) b seen w)
  untold p q b seen none =
      unheard (event.Data p q) b seen (none_answer w.model on p q b none) (data_alike b w.model on p q (rw none refl))

  module _ (two : w.model.chip.pending.wait ≡ Data (endpoint 2)) (g : Bool) (b : Packet) (seen : Bool) where
    shut_flow : (q : ℕ) → Shut (rx w.model) → Flow (sent (event.Data (bit_of g) q) b seen w)
    shut_flow q h =
        unheard (event.Data (bit_of g) q) b seen
        (shut_silent w.model on s.typed two g b h q)
        (shut_alike w.model on s.typed two g b h q)

    bad_flow : Shape (rx w.model) → length b ≤ 64 → Flow (sent (event.Data (bit_of g) 0) b seen w)
    unfolding sent happens
    bad_flow (inr h) short = shut_flow 0 h
    bad_flow (inl h) short =
        let e : _ = bad_silent w.model on s.typed two g b h (clear w s) short in
        let r : _ = bad_shut w.model on s.typed two g b h (clear w s) short in
        unacked (damaged_flows f h r.0 r.1) (seen && is_ack (answer_to (event.Data (bit_of g) 0) b w.model)) (seen_false seen e)

  good_flow : w.model.chip.pending.wait ≡ Data (endpoint 2) → w.host.holds ≡ true → (seen : Bool) → Shape (rx w.model)
      → Flow (sent (event.Data (bit_of w.host.sends) 1) w.host.packet seen w)
  unfolding sent happens
  good_flow two holds seen (inr h) = shut_flow two w.host.sends w.host.packet seen 1 h
  good_flow two holds seen (inl h) =
      let g : Bool = w.host.sends in
      let b : Packet = w.host.packet in
      let e : _ = good_acked w.model on s.typed two g b h (clear w s) s.holding.fits in
      let r : _ = good_stored w.model on s.typed two g b h (clear w s) s.holding.fits (s.holding.some holds) in
      rw (seen_true seen e) (stored_flows f h holds r seen)

  data_flow : (x : Fate) (seen : Bool) → is_datas w.host.at ≡ true → Flow (act_data x seen w)
  unfolding act_data hostly
  data_flow sound seen e = go (datas_awaits w.host.at w.model.chip e s.awaits)
    where
      go : (w.model.chip.pending.wait ≡ Nothing) ⊎ (w.model.chip.pending.wait ≡ Data (endpoint 2))
          → Flow (sent (event.Data (bit_of w.host.sends) 1) w.host.packet seen w)
      go (inl none) = untold (bit_of w.host.sends) 1 w.host.packet seen none
      go (inr two) = good_flow two (s.holding.sending e) seen f.shape
  data_flow (damaged g b) seen e =
      by_test Flow (leb (length b) 64) (λ q. go (leb-true (length b) 64 q) (datas_awaits w.host.at w.model.chip e s.awaits)) (λ _. f)
    where
      go : length b ≤ 64 → (w.model.chip.pending.wait ≡ Nothing) ⊎ (w.model.chip.pending.wait ≡ Data (endpoint 2))
          → Flow (sent (event.Data (bit_of g) 0) b seen w)
      go short (inl none) = untold (bit_of g) 0 b seen none
      go short (inr two) = bad_flow two g b seen f.shape short
  data_flow lost seen e = host_flows (goes_keeps fails w.host) f

-- Every action keeps it.
pub act_flows : (x : Action) (w : World) → ActionBytes x → Standing w → Flow w → Flow (act x w)
unfolding act ActionBytes
act_flows (offer p) w b s f = offer_flow w s f p b
act_flows send_service w b s f = send_flow w s f
act_flows receive_service w b s f = receive_flow w s f
act_flows (access t) w b s f = access_flow w s f t
act_flows (take p) w b s f = take_flow w s f p
act_flows (in_token reaches seen) w b s f = by_test Flow _ (λ _. in_flow w s f reaches seen) (λ _. f)
act_flows (ack reaches) w b s f = by_test Flow _ (λ _. ack_flow w s f reaches) (λ _. f)
act_flows (out_token reaches) w b s f =
    by_test Flow (is_over w.host.at && w.host.holds) (λ _. out_flow w s f reaches) (λ _. f)
act_flows (out_data x seen) w b s f = by_test Flow (is_datas w.host.at) (λ e. data_flow w s f x seen e) (λ _. f)
act_flows (other t p) w b s f = other_flow w s f t p
act_flows timeout w b s f = timeout_flow w s f
act_flows late w b s f = late_flow w s f
