-- The driver's calls in the world: an offer arms the packet or is refused, the send service takes it on, the receive service leaves it.
-- Assumes nothing.
use Prim.Native.Nat.{suc, ◌-◌, ◌≤◌}
use native.Mathlib.Omega.{arith}
use mathlib.Core.Path.{◌≡◌, refl, sym, ap, ◌∙◌}
use mathlib.Core.Bool.{true, false, not, ◌&&◌, false≢true, and-false}
use mathlib.Core.List.{List, [], ◌∷◌, ◌++◌, append-nil}
use lib.ListN.{length, get_or}
use lib.Dec.{ltb}
use borrow.Author.Tests.{ltb-false}
use Rattle.std.specs.Prelude.{Ok, Err}
use Rattle.choice.specs.Choice.{pick}
use Rattle.choice.proofs.ByTest.{by_test}
use Rattle.refusal.specs.declared.Refusal.{Refusal}
use Rattle.state.specs.State.{Model}
use Rattle.formed.specs.Formed.{well_formed}
use Rattle.laws.proofs.Frame.Frame.{same}
use Rattle.driver.specs.declared.Did.TheVariants as did
use Rattle.driver.specs.Registers.{written, value, seen}
use Rattle.driver.specs.Driver.{Call, call, again, accepted, admission, offered_by, offered, answered, send_served}
use Rattle.driving.proofs.Reached.{receive_reaches}
use Rattle.delivery.specs.Host.{Packet}
use Rattle.delivery.specs.World.{World, if_so, offers_more, delivers_more, held, is_done, is_delivered, called, act_offer, act_send, act_receive}
use Rattle.delivery.specs.Standing.{Standing}
use Rattle.delivery.specs.Stage.{before, Holding, IdleAt, ArmedAt, WaitingAt, AckedAt, FailedAt, Stage, idle, armed, waiting, acked, failed}
use Rattle.delivery.proofs.Send.Chip.{first, Sized}
use Rattle.delivery.proofs.Send.Token.{one}
use Rattle.delivery.proofs.Send.Calls.{offered_arms, txs_done, txs_ack, idle_seen, acked_seen, armed_seen, waiting_seen, failed_again, receiving_same}
use Rattle.delivery.proofs.Send.Keeps.{Rest, before_rest, after_rest, told_rest, holding_rest, by_same, stage_keeps}

-- ---- the packet that is held

last_is : (l : List Packet) (p : Packet) → get_or (l ++ (p ∷ [])) (length (l ++ (p ∷ [])) - 1) [] ≡ p
last_is [] p = refl
last_is (x ∷ l) p = step (l ++ (p ∷ [])) (some l) (last_is l p)
  where
    some : (k : List Packet) → 1 ≤ length (k ++ (p ∷ []))
    some [] = omega arith
    some (y ∷ k) = omega arith

    step : (k : List Packet) → 1 ≤ length k → get_or k (length k - 1) [] ≡ p → get_or (x ∷ k) (length (x ∷ k) - 1) [] ≡ p
    step [] le e = absurd {0} (omega arith)
    step (y ∷ k) le e = let f : suc (suc (length k)) - 1 ≡ suc (suc (length k) - 1) = omega arith in rw f e

pub held_is : (p : Packet) (w : World) → Holding p w → held w ≡ p ∷ []
unfolding held pick
held_is p w h =
    let e : get_or w.lists.offers (length w.lists.offers - 1) [] ≡ p =
    ap (λ (l : List Packet). get_or l (length l - 1) []) h.offers ∙ last_is w.lists.delivered p in
    rw h.held (ap (λ (q : Packet). q ∷ []) e)

pub held_none : (w : World) → w.driver.held ≡ false → held w ≡ []
unfolding held pick
held_none w e = rw e refl

-- ---- an offer

abbrev Offers : Packet → World → Call → Type 0
Offers p w x = Stage (called x (offers_more (if_so (is_done x.did) p) w.lists) w)

refused_keeps : (p : Packet) (w : World) (why : Refusal) → Stage w → Offers p w (call w.model w.driver (Err why))
unfolding called is_done pick
refused_keeps p w why x =
    stage_keeps w _ (record {
      model = by_same _ _ (same one w.model);
      rest = record { held = refl; sends = refl; expects = refl; offers = append-nil w.lists.offers; delivered = refl; got = refl };
      acking = λ h. h;
    }) x

module _ (p : Packet) (w : World) (s : Standing w) (le : length p ≤ 64) (free : w.driver.held ≡ false) where
  accepted_arms : Stage w → Offers p w (accepted p w.model w.driver)
  unfolding called is_done accepted pick
  accepted_arms (idle x) =
      armed p (record {
        chip = offered_arms p w.model w.driver s.typed s.as_set_up.operates x.chip le;
        holding = record { held = refl; offers = ap (λ (l : List Packet). l ++ (p ∷ [])) x.offers };
        told = before (record { expected = x.told.expected; got = x.told.got });
      })
  accepted_arms (armed q x) = absurd {0} (false≢true (sym free ∙ x.holding.held))
  accepted_arms (waiting q x) = absurd {0} (false≢true (sym free ∙ x.holding.held))
  accepted_arms (acked q x) = absurd {0} (false≢true (sym free ∙ x.holding.held))
  accepted_arms (failed q x) = absurd {0} (false≢true (sym free ∙ x.holding.held))

pub stage_offer : (p : Packet) (w : World) → Standing w → Stage w → Stage (act_offer p w)
unfolding act_offer offered admission offered_by
stage_offer p w s x =
    by_test (λ a. Offers p w (offered_by a p w.model w.driver)) (not (well_formed w.model.chip)) (λ _. refused_keeps p w _ x) (λ _.
    by_test (λ a. Offers p w (offered_by a p w.model w.driver)) (ltb 64 (length p)) (λ _. refused_keeps p w _ x) (λ small.
    by_test (λ a. Offers p w (offered_by a p w.model w.driver)) w.driver.held (λ _. refused_keeps p w _ x) (λ free.
    accepted_arms p w s (ltb-false 64 (length p) small) free x)))

-- ---- the send service

abbrev Serves : (World → Type 0) → World → Call → Type 0
Serves P w x = P (called x (delivers_more (pick (is_delivered x.did) (held w) []) w.lists) w)

served_by : (P : World → Type 0) (w : World) → Standing w
    → Serves P w (answered (value 0x2A w.model) (seen 0x2A w.model) w.driver) → P (act_send w)
unfolding act_send send_served pick
served_by P w s x = rw s.as_set_up.well x

module _ (w : World) (n : Model) where
  -- the driver and the lists as they were, but for nothing more at the end of one
  nothing_rest : Rest w (called (call n w.driver (Ok did.Nothing)) (delivers_more [] w.lists) w)
  unfolding called
  nothing_rest = record { held = refl; sends = refl; expects = refl; offers = refl; delivered = append-nil w.lists.delivered; got = refl }

  resent_rest : Rest w (called (call n w.driver (Ok did.Resent)) (delivers_more [] w.lists) w)
  unfolding called
  resent_rest = record { held = refl; sends = refl; expects = refl; offers = refl; delivered = append-nil w.lists.delivered; got = refl }

module _ (w : World) (s : Standing w) where
  sized : Sized w.model.chip
  sized = s.typed.chip.senders.sized

  module _ (P : World → Type 0) where
    -- TX_DONE is not shown, or nothing is held
    nothing_served : (w.driver.held && (first w.model.chip).done) ≡ false
        → P (called (call (seen 0x2A w.model) w.driver (Ok did.Nothing)) (delivers_more [] w.lists) w) → P (act_send w)
    unfolding answered is_delivered pick
    nothing_served e x = served_by P w s (rw (txs_done w.model, e) x)

    resent_served : (w.driver.held && (first w.model.chip).done) ≡ true → (first w.model.chip).ack ≡ false
        → P (called (call (written 0x2B (again w.driver.sends) (seen 0x2A w.model)) w.driver (Ok did.Resent)) (delivers_more [] w.lists) w)
        → P (act_send w)
    unfolding answered is_delivered pick
    resent_served e f x = served_by P w s (rw (txs_done w.model, txs_ack w.model, e, f) x)

    delivered_served : (w.driver.held && (first w.model.chip).done) ≡ true → (first w.model.chip).ack ≡ true
        → P (called (call (seen 0x2A w.model) (record { held = false; sends = not w.driver.sends; expects = w.driver.expects }) (Ok did.Delivered)) (delivers_more (held w) w.lists) w)
        → P (act_send w)
    unfolding answered is_delivered pick
    delivered_served e f x = served_by P w s (rw (txs_done w.model, txs_ack w.model, e, f) x)

  no_done : (first w.model.chip).done ≡ false → (w.driver.held && (first w.model.chip).done) ≡ false
  no_done e = rw e (and-false w.driver.held)

  both : w.driver.held ≡ true → (first w.model.chip).done ≡ true → (w.driver.held && (first w.model.chip).done) ≡ true
  both h e = rw (h, e)

  -- Nothing is held: nothing.
  pub send_idle : IdleAt w → IdleAt (act_send w)
  unfolding called
  send_idle x =
      nothing_served IdleAt (no_done x.chip.done) (record {
        chip = idle_seen w.model sized x.chip;
        held = x.held;
        offers = x.offers ∙ sym (append-nil w.lists.delivered);
        told = before_rest w _ (nothing_rest w (seen 0x2A w.model)) x.told;
      })

  -- Not sent yet, or its handshake still awaited: nothing.
  pub send_armed : (p : Packet) → ArmedAt p w → ArmedAt p (act_send w)
  unfolding called
  send_armed p x =
      let r : _ = nothing_rest w (seen 0x2A w.model) in
      nothing_served (ArmedAt p) (no_done x.chip.done) (record {
        chip = armed_seen w.model sized p w.driver.sends x.chip;
        holding = holding_rest w _ r p x.holding;
        told = told_rest w _ r p x.told;
      })

  pub send_waiting : (p : Packet) → WaitingAt p w → WaitingAt p (act_send w)
  unfolding called
  send_waiting p x =
      let r : _ = nothing_rest w (seen 0x2A w.model) in
      nothing_served (WaitingAt p) (no_done x.chip.done) (record {
        chip = waiting_seen w.model sized p x.chip;
        holding = holding_rest w _ r p x.holding;
        told = told_rest w _ r p x.told;
        seen = λ h. after_rest w _ r p (x.seen h);
      })

  -- Acknowledged: it is known delivered, the toggle flips, and nothing is held.
  pub send_acked : (p : Packet) → AckedAt p w → IdleAt (act_send w)
  unfolding called
  send_acked p x =
      delivered_served IdleAt (both x.holding.held x.chip.done) x.chip.ack (record {
        chip = acked_seen w.model sized x.chip;
        held = refl;
        offers = x.holding.offers ∙ ap (λ (l : List Packet). w.lists.delivered ++ l) (sym (held_is p w x.holding));
        told = record {
          expected = x.told.expected;
          got = x.told.got ∙ ap (λ (l : List Packet). w.lists.delivered ++ l) (sym (held_is p w x.holding));
        };
      })

  -- Failed: it is armed again, with the same toggle.
  pub send_failed : (p : Packet) → FailedAt p w → ArmedAt p (act_send w)
  unfolding called
  send_failed p x =
      let r : _ = resent_rest w (written 0x2B (again w.driver.sends) (seen 0x2A w.model)) in
      resent_served (ArmedAt p) (both x.holding.held x.chip.done) x.chip.ack (record {
        chip = failed_again w.model sized p w.driver.sends s.as_set_up.operates x.chip;
        holding = holding_rest w _ r p x.holding;
        told = told_rest w _ r p x.told;
      })

  pub stage_send : Stage w → Stage (act_send w)
  stage_send (idle x) = idle (send_idle x)
  stage_send (armed p x) = armed p (send_armed p x)
  stage_send (waiting p x) = waiting p (send_waiting p x)
  stage_send (acked p x) = idle (send_acked p x)
  stage_send (failed p x) = armed p (send_failed p x)

-- ---- the receive service

pub stage_receive : (w : World) → Stage w → Stage (act_receive w)
unfolding act_receive called
stage_receive w x =
    let r : _ = receive_reaches w.model w.driver in
    stage_keeps w _ (record {
      model = by_same _ _ (receiving_same r.touches);
      rest = record { held = r.keeps.0; sends = r.keeps.1; expects = refl; offers = refl; delivered = refl; got = refl };
      acking = λ h. h;
    }) x
