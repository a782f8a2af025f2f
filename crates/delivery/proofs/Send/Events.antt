-- Events in the world that are not endpoint 1's leave the packet where it was; the host's ACK and a timeout end its wait.
-- Assumes nothing.
use Prim.Native.Nat.{ℕ}
use mathlib.Core.Path.{◌≡◌, refl, sym, ◌∙◌}
use mathlib.Core.Logic.{inl, inr}
use mathlib.Core.Bool.{true, false, not, ◌&&◌, false≢true, and-eq-true_iff, and-false}
use mathlib.Core.List.{List, []}
use borrow.Author.Tests.{not-true}
use Rattle.choice.specs.Choice.{pick}
use Rattle.choice.proofs.ByTest.{by_test}
use Rattle.event.specs.declared.Event.{Event}
use Rattle.event.specs.declared.Event.TheVariants as event
use Rattle.event.specs.Event.{in_range}
use Rattle.state.specs.declared.Chip.{Chip}
use Rattle.state.specs.State.{Model}
use Rattle.settings.specs.Settings.{operational}
use Rattle.laws.specs.Place.{awaited, Same}
use Rattle.laws.specs.Owner.{is_for, cut, exempt}
use Rattle.laws.specs.Settings.{is_access}
use Rattle.laws.specs.Driver.{endpoint1, reserved}
use Rattle.laws.proofs.Frame.Frame.{same, frame}
use Rattle.laws.proofs.Frame.Pipes.{unreserved_keeps}
use Rattle.laws.specs.Next.{next}
use Rattle.delivery.specs.Standing.{Awaits}
use Rattle.delivery.specs.Host.{Packet, Open, over, acks, fails, datas, others, Host, is_acks, is_datas, is_others}
use Rattle.delivery.specs.World.{Lists, World, happens, hostly, goes, act_take}
use Rattle.delivery.specs.Stage.{Stage}
use Rattle.delivery.proofs.Send.Token.{one}
use Rattle.delivery.proofs.Send.Keeps.{by_same, stage_keeps}
use Rattle.delivery.proofs.Send.Turns.{none_awaited, data_awaited}

pub never : {A : Type 0} → true ≡ false → A
never e = absurd {0} (false≢true (sym e))

-- ---- the host alone

pub stage_hostly : (h : Host) (w : World) → h.expects ≡ w.host.expects → (is_acks h.at ≡ true → is_acks w.host.at ≡ true)
    → Stage w → Stage (hostly h w)
unfolding hostly
stage_hostly h w e f x =
    stage_keeps w _ (record {
      model = by_same _ _ (same one w.model);
      rest = record { held = refl; sends = refl; expects = e; offers = refl; delivered = refl; got = refl };
      acking = f;
    }) x

-- no more than where its transaction is changes, and it is not to acknowledge
pub goes_on : (o : Open) (w : World) → is_acks o ≡ false → Stage w → Stage (hostly (goes o w.host) w)
unfolding goes
goes_on o w f x = stage_hostly (goes o w.host) w refl (λ h. absurd {0} (false≢true (sym f ∙ h))) x

pub stage_take : (p : Packet) (w : World) → Stage w → Stage (act_take p w)
unfolding act_take
stage_take p w x = by_test Stage _ (λ _. stage_hostly _ w refl (λ h. h) x) (λ _. x)

-- ---- events that leave endpoint 1

pub stage_happens : (e : Event) (s : List ℕ) (h : Host) (l : Lists) (w : World) → Same one w.model (next e s w.model)
    → h.expects ≡ w.host.expects → (is_acks h.at ≡ true → is_acks w.host.at ≡ true)
    → l.offers ≡ w.lists.offers → l.delivered ≡ w.lists.delivered → l.got ≡ w.lists.got → Stage w → Stage (happens e s h l w)
unfolding happens
stage_happens e s h l w k a b f g i x =
    stage_keeps w _ (record {
      model = by_same _ _ k;
      rest = record { held = refl; sends = refl; expects = a; offers = f; delivered = g; got = i };
      acking = b;
    }) x

no_cut : (c : Chip) → awaited one c ≡ false → cut c one ≡ false
no_cut c free = rw free (and-false (operational c))

cut_free : (e : Event) (c : Chip) → is_access e ≡ false → awaited one c ≡ false → exempt e c one ≡ false
unfolding exempt is_access
cut_free (event.Read a) c t free = never t
cut_free (event.Write a v) c t free = never t
cut_free (event.In a e) c t free = no_cut c free
cut_free (event.Out a e) c t free = no_cut c free
cut_free (event.Setup a e) c t free = no_cut c free
cut_free (event.Data pid s) c t free = no_cut c free
cut_free event.Ack c t free = no_cut c free
cut_free event.Timeout c t free = no_cut c free

pub bus_same : (e : Event) (s : List ℕ) (m : Model) → is_access e ≡ false → is_for e m.chip one ≡ false → awaited one m.chip ≡ false
    → Same one m (next e s m)
bus_same e s m t other free = frame e s m one other (cut_free e m.chip t free)

-- an event where nothing is awaited of endpoint 1: the host goes on, the lists stay
pub goes_by : (e : Event) (s : List ℕ) (o : Open) (w : World) → is_access e ≡ false → is_for e w.model.chip one ≡ false
    → awaited one w.model.chip ≡ false → is_acks o ≡ false → Stage w → Stage (happens e s (goes o w.host) w.lists w)
unfolding goes
goes_by e s o w t other free f x =
    stage_happens e s (goes o w.host) w.lists w (bus_same e s w.model t other free) refl (λ h. absurd {0} (false≢true (sym f ∙ h))) refl refl refl x

pub stage_access : (t : Event) (w : World) → Stage w → Stage (pick (is_access t && not (reserved t) && in_range t 0) (happens t [] w.host w.lists w) w)
stage_access t w x =
    by_test Stage (is_access t && not (reserved t) && in_range t 0) (λ e.
    let a : _ = (and-eq-true_iff (is_access t && not (reserved t)) (in_range t 0)).0 e in
    let b : _ = (and-eq-true_iff (is_access t) (not (reserved t))).0 a.0 in
    stage_happens t [] w.host w.lists w (unreserved_keeps t [] w.model one endpoint1 b.0 (not-true (reserved t) b.1)) refl (λ h. h) refl refl refl x) (λ _. x)

-- ---- what is awaited, by what the host is at

module _ (c : Chip) where
  pub datas_free : (o : Open) → Awaits o c → is_datas o ≡ true → awaited one c ≡ false
  unfolding Awaits is_datas
  datas_free over a t = never (sym t)
  datas_free acks a t = never (sym t)
  datas_free fails a t = never (sym t)
  datas_free datas (inl a) t = none_awaited c a
  datas_free datas (inr a) t = data_awaited c a
  datas_free others a t = never (sym t)

  pub others_free : (o : Open) → Awaits o c → is_others o ≡ true → awaited one c ≡ false
  unfolding Awaits is_others
  others_free over a t = never (sym t)
  others_free acks a t = never (sym t)
  others_free fails a t = never (sym t)
  others_free datas a t = never (sym t)
  others_free others a t = a.0
