-- Every action takes the packet of endpoint 1 from one place to the next.
-- Assumes nothing.
use Prim.Native.Nat.{ℕ}
use mathlib.Core.Path.{◌≡◌, refl, sym, ◌∙◌}
use mathlib.Core.Bool.{Bool, true, false, not, ◌&&◌, ◌||◌, false≢true, and-eq-true_iff}
use mathlib.Core.List.{[]}
use lib.ListN.{length}
use Rattle.choice.specs.Choice.{pick}
use Rattle.choice.proofs.ByTest.{by_test}
use Rattle.event.specs.declared.Event.{Event}
use Rattle.event.specs.declared.Event.TheVariants as event
use Rattle.event.specs.Event.{in_range}
use Rattle.state.specs.declared.Wait.{Wait}
use Rattle.state.specs.declared.Wait.TheVariants as wait
use Rattle.laws.specs.Next.{next}
use Rattle.laws.specs.Place.{awaited}
use Rattle.laws.specs.Owner.{owner, is_for}
use Rattle.laws.specs.Settings.{is_access, is_token}
use Rattle.laws.specs.Driver.{endpoint1}
use Rattle.delivery.specs.Standing.{Standing}
use Rattle.delivery.proofs.Standing.Reaches.{pipes_range, out_not_sends, data_not_sends, other_not_for}
use Rattle.delivery.proofs.Standing.Events.{token_no_access, other_is_token, rest_ends}
use Rattle.delivery.proofs.Standing.Turns.{over_none}
use Rattle.delivery.specs.Host.{Packet, over, fails, datas, Host, Fate, sound, damaged, lost, Action, offer, send_service, receive_service, access, take, in_token, ack, out_token, out_data, other, timeout, late, is_over, is_acks, is_datas, is_others, other_token, other_rest}
use Rattle.delivery.specs.World.{World, answer_to, happens, goes, act_in, act_ack, is_ack, act_out, host_out, sent, act_data, after_token, act_other, act}
use Rattle.delivery.specs.Stage.{WaitingAt, AckedAt, FailedAt, Stage, idle, armed, waiting, acked, failed}
use Rattle.delivery.proofs.Send.Ends.{ack_acked, timeout_failed}
use Rattle.delivery.proofs.Send.Token.{one}
use Rattle.delivery.proofs.Send.Driver.{stage_offer, stage_send, stage_receive}
use Rattle.delivery.proofs.Send.Turns.{none_awaited, waits_one, in_off, in_armed}
use Rattle.delivery.proofs.Send.Events.{never, goes_on, stage_take, stage_happens, bus_same, goes_by, stage_access, datas_free, others_free}

module _ (w : World) (s : Standing w) where
  -- no transaction is open: nothing is awaited
  over_free : is_over w.host.at ≡ true → awaited one w.model.chip ≡ false
  over_free now = none_awaited w.model.chip (over_none w.host.at w.model.chip now s.awaits)

  -- ---- IN

  stage_in : (reaches seen : Bool) → is_over w.host.at ≡ true → Stage w → Stage (act_in reaches seen w)
  unfolding act_in is_acks
  stage_in false seen now x = goes_on fails w refl x
  stage_in true seen now (idle x) = in_off w s now seen x.chip.nothing.off (idle x)
  stage_in true seen now (armed p x) = waiting p (in_armed w s now p x seen)
  stage_in true seen now (waiting p x) = absurd {0} (false≢true (sym (over_free now) ∙ x.chip.waits))
  stage_in true seen now (acked p x) = in_off w s now seen x.chip.nothing.off (acked p x)
  stage_in true seen now (failed p x) = in_off w s now seen x.chip.spent.nothing.off (failed p x)

  -- ---- the host's ACK

  pub ack_waiting : (p : Packet) → is_acks w.host.at ≡ true → WaitingAt p w → AckedAt p (act_ack true w)
  unfolding act_ack happens goes
  ack_waiting p now x =
      record {
        chip =
            ack_acked p w.model s.as_set_up.operates s.typed.chip.senders.sized
            (waits_one w.model.chip w.host.at s.awaits x.chip.waits) x.chip;
        holding = record { held = x.holding.held; offers = x.holding.offers };
        told = x.seen now;
      }

  -- where nothing is awaited of endpoint 1 it comes too late, and changes nothing
  ack_late_lem : awaited one w.model.chip ≡ false → Stage w → Stage (act_ack true w)
  unfolding act_ack is_access owner is_acks
  ack_late_lem free x = goes_by event.Ack [] over w refl refl free refl x

  stage_ack : (reaches : Bool) → is_acks w.host.at ≡ true → Stage w → Stage (act_ack reaches w)
  stage_ack false now x = unfold act_ack is_acks in (goes_on fails w refl x)
  stage_ack true now (idle x) = ack_late_lem x.chip.free (idle x)
  stage_ack true now (armed p x) = ack_late_lem x.chip.free (armed p x)
  stage_ack true now (waiting p x) = acked p (ack_waiting p now x)
  stage_ack true now (acked p x) = ack_late_lem x.chip.free (acked p x)
  stage_ack true now (failed p x) = ack_late_lem x.chip.free (failed p x)

  -- ---- a timeout

  -- the host is to acknowledge then only if it was before
  module _ (h : Host) (e : h.expects ≡ w.host.expects) (f : is_acks h.at ≡ true → is_acks w.host.at ≡ true) where
    timeout_free : awaited one w.model.chip ≡ false → Stage w → Stage (happens event.Timeout [] h w.lists w)
    unfolding is_access owner
    timeout_free free x =
        stage_happens event.Timeout [] h w.lists w (bus_same event.Timeout [] w.model refl refl free) e f refl refl refl x

    timeout_waiting : (p : Packet) → WaitingAt p w → FailedAt p (happens event.Timeout [] h w.lists w)
    unfolding happens
    timeout_waiting p x =
        record {
          chip =
              timeout_failed p w.model s.as_set_up.operates s.typed.chip.senders.sized
              (waits_one w.model.chip w.host.at s.awaits x.chip.waits) x.chip;
          holding = record { held = x.holding.held; offers = x.holding.offers };
          told = rw e x.told;
        }

    stage_timeout : Stage w → Stage (happens event.Timeout [] h w.lists w)
    stage_timeout (idle x) = timeout_free x.chip.free (idle x)
    stage_timeout (armed p x) = timeout_free x.chip.free (armed p x)
    stage_timeout (waiting p x) = failed p (timeout_waiting p x)
    stage_timeout (acked p x) = timeout_free x.chip.free (acked p x)
    stage_timeout (failed p x) = timeout_free x.chip.free (failed p x)

  stage_over : Stage w → Stage (happens event.Timeout [] (goes over w.host) w.lists w)
  unfolding goes is_acks
  stage_over x = stage_timeout (goes over w.host) refl (λ h. absurd {0} (false≢true h)) x

  -- ---- OUT

  stage_out : (reaches : Bool) → is_over w.host.at ≡ true → Stage w → Stage (act_out reaches w)
  unfolding act_out is_acks is_access
  stage_out false now x = goes_on datas w refl x
  stage_out true now x =
      goes_by (event.Out w.pipes.a w.pipes.f) [] datas w refl (out_not_sends w.pipes.a w.pipes.f w.model.chip) (over_free now) refl x

  out_expects : (b : Bool) (h : Host) → ((host_out b h).expects ≡ h.expects) × (is_acks (host_out b h).at ≡ false)
  unfolding host_out goes is_acks pick
  out_expects true h = (refl, refl)
  out_expects false h = (refl, refl)

  stage_sent : (pid whole : ℕ) (b : Packet) (seen : Bool) → is_datas w.host.at ≡ true → Stage w → Stage (sent (event.Data pid whole) b seen w)
  unfolding sent is_access
  stage_sent pid whole b seen now x =
      let k : Bool = seen && is_ack (answer_to (event.Data pid whole) b w.model) in
      let free : awaited one w.model.chip ≡ false = datas_free w.model.chip w.host.at s.awaits now in
      stage_happens (event.Data pid whole) b (host_out k w.host) _ w
      (bus_same (event.Data pid whole) b w.model refl (data_not_sends pid whole w.model.chip) free)
      (out_expects k w.host).0
      (λ h. absurd {0} (false≢true (sym (out_expects k w.host).1 ∙ h)))
      refl refl refl x

  stage_data : (fate : Fate) (seen : Bool) → is_datas w.host.at ≡ true → Stage w → Stage (act_data fate seen w)
  unfolding act_data is_acks
  stage_data sound seen now x = stage_sent _ _ w.host.packet seen now x
  stage_data (damaged pid b) seen now x = by_test Stage _ (λ _. stage_sent _ _ b seen now x) (λ _. x)
  stage_data lost seen now x = goes_on fails w refl x

  -- ---- another transaction

  abbrev Bus : Event → Type 0
  Bus t = (is_access t ≡ false) × (is_for t w.model.chip one ≡ false)

  token_bus : (t : Event) → other_token w.pipes.a w.pipes.e w.pipes.f t ≡ true → Bus t
  token_bus t e = (
    token_no_access t (other_is_token w.pipes.a w.pipes.e w.pipes.f t e),
    other_not_for w.pipes w.model.chip (pipes_range w.pipes s.startable_as) s.as_set_up t e one endpoint1,
  )

  after_token_lem : (v : Wait) → is_acks (after_token v) ≡ false
  unfolding after_token is_acks
  after_token_lem wait.Nothing = refl
  after_token_lem (wait.Handshake e) = refl
  after_token_lem (wait.Data e) = refl
  after_token_lem wait.Setup = refl

  -- data, or a host's ACK
  ends_not_sends : (t : Event) → is_access t ≡ false → is_token t ≡ false → is_for t w.model.chip one ≡ false
  unfolding is_access is_token owner
  ends_not_sends (event.Read r) e f = never e
  ends_not_sends (event.Write r v) e f = never e
  ends_not_sends (event.In x y) e f = never f
  ends_not_sends (event.Out x y) e f = never f
  ends_not_sends (event.Setup x y) e f = never f
  ends_not_sends (event.Data p q) e f = data_not_sends p q w.model.chip
  ends_not_sends event.Ack e f = refl
  ends_not_sends event.Timeout e f = refl

  -- another transaction is open, or none
  rest_free : (a b : Bool) → (a ≡ true → awaited one w.model.chip ≡ false) → (b ≡ true → awaited one w.model.chip ≡ false)
      → (a || b) ≡ true → awaited one w.model.chip ≡ false
  rest_free true b f g e = f refl
  rest_free false true f g e = g refl
  rest_free false false f g e = never (sym e)

  stage_other : (t : Event) (b : Packet) → Stage w → Stage (act_other t b w)
  unfolding act_other is_acks
  stage_other t b x =
      by_test Stage (not (in_range t (length b))) (λ _. x) (λ _.
      by_test Stage (is_over w.host.at && other_token w.pipes.a w.pipes.e w.pipes.f t) (λ e.
      let q : _ = (and-eq-true_iff (is_over w.host.at) (other_token w.pipes.a w.pipes.e w.pipes.f t)).0 e in
      let r : _ = token_bus t q.1 in
      let v : Wait = (next t b w.model).chip.pending.wait in
      goes_by t b (after_token v) w r.0 r.1 (over_free q.0) (after_token_lem v) x) (λ _.
      by_test Stage ((is_others w.host.at || is_over w.host.at) && other_rest t) (λ e.
      let q : _ = (and-eq-true_iff (is_others w.host.at || is_over w.host.at) (other_rest t)).0 e in
      let f : _ =
      rest_free (is_others w.host.at) (is_over w.host.at) (others_free w.model.chip w.host.at s.awaits) over_free q.0 in
      let r : _ = rest_ends t q.1 in
      goes_by t b over w r.0 (ends_not_sends t r.0 r.1) f refl x) (λ _. x)))

  -- ---- every action

  pub stage_act : (x : Action) → Stage w → Stage (act x w)
  unfolding act
  stage_act (offer p) y = stage_offer p w s y
  stage_act send_service y = stage_send w s y
  stage_act receive_service y = stage_receive w y
  stage_act (access t) y = stage_access t w y
  stage_act (take p) y = stage_take p w y
  stage_act (in_token reaches seen) y = by_test Stage (is_over w.host.at) (λ now. stage_in reaches seen now y) (λ _. y)
  stage_act (ack reaches) y = by_test Stage (is_acks w.host.at) (λ now. stage_ack reaches now y) (λ _. y)
  stage_act (out_token reaches) y =
      by_test Stage (is_over w.host.at && w.host.holds) (λ e.
      stage_out reaches ((and-eq-true_iff (is_over w.host.at) w.host.holds).0 e).0 y) (λ _. y)
  stage_act (out_data fate seen) y = by_test Stage (is_datas w.host.at) (λ now. stage_data fate seen now y) (λ _. y)
  stage_act (other t b) y = stage_other t b y
  stage_act timeout y = stage_over y
  stage_act late y = stage_timeout w.host refl (λ h. h) y
