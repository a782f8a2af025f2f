-- The host's turns in the world: the IN of the pipe and its ACK take the packet on, a timeout fails it, every other event leaves it.
-- Assumes nothing.
use Prim.Native.Nat.{ℕ}
use native.Mathlib.Omega.{arith}
use mathlib.Core.Path.{◌≡◌, refl, sym, ap, ◌∙◌}
use mathlib.Core.Logic.{inl, inr}
use mathlib.Core.Bool.{Bool, true, false, not, false≢true}
use mathlib.Core.List.{List, [], ◌∷◌, ◌++◌, append-nil}
use Rattle.choice.specs.Choice.{pick}
use Rattle.event.specs.declared.Event.{Event}
use Rattle.event.specs.declared.Event.TheVariants as event
use Rattle.state.specs.declared.Wait.TheVariants as wait
use Rattle.state.specs.declared.Chip.{Chip}
use Rattle.window.specs.Window.{numbered}
use Rattle.answer.specs.declared.Answer.TheVariants as answer
use Rattle.answer.specs.declared.Packet as packet
use Rattle.answer.specs.Answer.{packet_at}
use Rattle.packet.specs.Packet.{packet_bytes}
use Rattle.step.specs.Step.{step_bytes}
use Rattle.laws.specs.Place.{endpoint, receiving_place, awaited}
use Rattle.laws.specs.Next.{next}
use Rattle.delivery.specs.Standing.{Awaits, Standing}
use Rattle.delivery.proofs.Standing.Reaches.{pipes_range}
use Rattle.delivery.proofs.Standing.Turns.{over_none}
use Rattle.delivery.specs.Host.{Packet, Open, over, acks, fails, datas, others, Host, is_acks, is_over}
use Rattle.delivery.specs.World as world
use Rattle.delivery.specs.World.{Lists, World, if_so, gets_more, answer_to, happens, goes, sees, host_in, got_in, act_in}
use Rattle.delivery.specs.Stage.{After, Told, before, after, ArmedAt, WaitingAt, Stage}
use Rattle.delivery.proofs.Send.Fifo.{packet_sent}
use Rattle.delivery.proofs.Send.Chip.{first}
use Rattle.delivery.proofs.Send.Token.{one, Stands, in_nak, in_nak_view, data_of, in_data, in_waits}
use Rattle.delivery.proofs.Send.Keeps.{by_view, stage_keeps}

-- ---- what stands

pub stands : (w : World) → Standing w → Stands w.pipes w.model.chip
stands w s = record { ranges = pipes_range w.pipes s.startable_as; as_set_up = s.as_set_up; sized = s.typed.chip.senders.sized }

module _ (c : Chip) where
  pub none_awaited : c.pending.wait ≡ wait.Nothing → awaited one c ≡ false
  unfolding awaited
  none_awaited e = rw e refl

  pub data_awaited : c.pending.wait ≡ wait.Data (endpoint 2) → awaited one c ≡ false
  unfolding awaited receiving_place pick
  data_awaited e = rw e refl

  -- where its handshake is awaited, that is what is awaited
  pub waits_one : (o : Open) → Awaits o c → awaited one c ≡ true → c.pending.wait ≡ wait.Handshake (endpoint 1)
  unfolding Awaits
  waits_one over a t = absurd {0} (false≢true (sym (none_awaited a) ∙ t))
  waits_one acks (inl a) t = absurd {0} (false≢true (sym (none_awaited a) ∙ t))
  waits_one acks (inr a) t = a
  waits_one fails (inl a) t = absurd {0} (false≢true (sym (none_awaited a) ∙ t))
  waits_one fails (inr (inl a)) t = a
  waits_one fails (inr (inr a)) t = absurd {0} (false≢true (sym (data_awaited a) ∙ t))
  waits_one datas (inl a) t = absurd {0} (false≢true (sym (none_awaited a) ∙ t))
  waits_one datas (inr a) t = absurd {0} (false≢true (sym (data_awaited a) ∙ t))
  waits_one others a t = absurd {0} (false≢true (sym a.0 ∙ t))

-- ---- the IN of the pipe

nak_expects : (seen : Bool) (h : Host) → (host_in seen answer.Nak h).expects ≡ h.expects
unfolding host_in goes
nak_expects true h = refl
nak_expects false h = refl

nak_acks : (seen : Bool) (h : Host) → is_acks (host_in seen answer.Nak h).at ≡ false
unfolding host_in goes is_acks
nak_acks true h = refl
nak_acks false h = refl

nak_got : (seen : Bool) (m : List ℕ) (h : Host) → got_in seen answer.Nak m h ≡ []
unfolding got_in
nak_got true m h = refl
nak_got false m h = refl

-- Nothing to send: it stays where it was.
module _ (w : World) (s : Standing w) (now : is_over w.host.at ≡ true) (seen : Bool) where
  pub quiet_now : w.model.chip.pending.wait ≡ wait.Nothing
  quiet_now = over_none w.host.at w.model.chip now s.awaits

  pub in_off : (first w.model.chip).enabled ≡ false → Stage w → Stage (act_in true seen w)
  unfolding act_in answer_to happens
  in_off off x =
      let e : _ = in_nak w.pipes w.model (stands w s) quiet_now off in
      stage_keeps w _ (record {
        model = by_view _ _ (in_nak_view w.pipes w.model (stands w s) quiet_now off);
        rest = record {
          held = refl;
          sends = refl;
          expects = rw e (nak_expects seen w.host);
          offers = refl;
          delivered = refl;
          got = rw (e, nak_got seen (next (event.In w.pipes.a w.pipes.e) [] w.model).memory w.host) (append-nil w.lists.got);
        };
        acking = λ h. absurd {0} (false≢true (sym (rw e (nak_acks seen w.host)) ∙ h));
      }) x

-- "USB 1.1's DATA0/DATA1 rule"
flips : (t x : Bool) (p : Packet) → x ≡ t → (pick (world.same t x) (not x) x ≡ not t) × (if_so (world.same t x) p ≡ p ∷ [])
unfolding pick
flips true true p e = (refl, refl)
flips true false p e = absurd {0} (false≢true e)
flips false true p e = absurd {0} (false≢true (sym e))
flips false false p e = (refl, refl)

stays : (t x : Bool) (p : Packet) → x ≡ not t → (pick (world.same t x) (not x) x ≡ not t) × (if_so (world.same t x) p ≡ [])
unfolding pick
stays true true p e = absurd {0} (false≢true (sym e))
stays true false p e = (refl, refl)
stays false true p e = (refl, refl)
stays false false p e = absurd {0} (false≢true e)

-- A host that sees the packet has got it then, and once.
sees_after : (p : Packet) (t : Bool) (h : Host) (l : Lists) → Told p t h.expects l
    → After p t (sees t h).expects (gets_more (if_so (world.same t h.expects) p) l)
unfolding sees
sees_after p t h l (before b) =
    let f : _ = flips t h.expects p b.expected in
    record { expected = f.0; got = rw f.1 (ap (λ (x : List Packet). x ++ (p ∷ [])) b.got) }
sees_after p t h l (after a) =
    let f : _ = stays t h.expects p a.expected in
    record { expected = f.0; got = rw f.1 (append-nil l.got ∙ a.got) }

unseen_told : (p : Packet) (t x : Bool) (l : Lists) → Told p t x l → Told p t x (gets_more [] l)
unseen_told p t x l (before b) = before (record { expected = b.expected; got = append-nil l.got ∙ b.got })
unseen_told p t x l (after a) = after (record { expected = a.expected; got = append-nil l.got ∙ a.got })

module _ (p : Packet) (h : Host) (l : Lists) (m : List ℕ) (k : packet.Packet) (q : packet_bytes k m ≡ p) where
  -- it sees it
  data_after : (t : Bool) → Told p t h.expects l
      → After p t (host_in true (data_of t k) h).expects (gets_more (got_in true (data_of t k) m h) l)
  unfolding host_in got_in
  data_after true x = rw q (sees_after p true h l x)
  data_after false x = rw q (sees_after p false h l x)

  data_told : (seen t : Bool) → Told p t h.expects l
      → Told p t (host_in seen (data_of t k) h).expects (gets_more (got_in seen (data_of t k) m h) l)
  unfolding host_in got_in goes
  data_told true t x = after (data_after t x)
  data_told false true x = unseen_told p true h.expects l x
  data_told false false x = unseen_told p false h.expects l x

  data_seen : (seen t : Bool) → Told p t h.expects l → is_acks (host_in seen (data_of t k) h).at ≡ true
      → After p t (host_in seen (data_of t k) h).expects (gets_more (got_in seen (data_of t k) m h) l)
  unfolding host_in got_in goes is_acks
  data_seen true t x e = data_after t x
  data_seen false t x e = absurd {0} (false≢true e)

data_acks : (t : Bool) (k : packet.Packet) (h : Host) → (host_in true (data_of t k) h).at ≡ acks
unfolding host_in sees
data_acks true k h = refl
data_acks false k h = refl

-- Armed: it is sent, and its handshake awaited.
module _ (w : World) (s : Standing w) (now : is_over w.host.at ≡ true) (p : Packet) (x : ArmedAt p w) where
  abbrev token : Event
  token = event.In w.pipes.a w.pipes.e

  in_answer : answer_to token [] w.model ≡ data_of w.driver.sends (packet_at (numbered 1) (first w.model.chip))
  unfolding answer_to
  in_answer = in_data w.pipes w.model (stands w s) (quiet_now w s now true) p w.driver.sends x.chip

  in_bytes : packet_bytes (packet_at (numbered 1) (first w.model.chip)) (next token [] w.model).memory ≡ p
  unfolding step_bytes
  in_bytes = packet_sent p (first w.model.chip) w.model.memory (omega (arith, x.chip.fits)) x.chip.bytes

  pub in_armed : (seen : Bool) → WaitingAt p (act_in true seen w)
  unfolding act_in happens
  in_armed seen =
      rw in_answer (record {
        chip = in_waits w.pipes w.model (stands w s) (quiet_now w s now true) p w.driver.sends x.chip;
        holding = record { held = x.holding.held; offers = x.holding.offers };
        told = data_told p w.host w.lists _ _ in_bytes seen w.driver.sends x.told;
        seen = λ h. data_seen p w.host w.lists _ _ in_bytes seen w.driver.sends x.told h;
      })

  pub in_acks : (act_in true true w).host.at ≡ acks
  unfolding act_in happens
  in_acks = rw in_answer (data_acks w.driver.sends _ w.host)
