-- An action that leaves endpoint 1, the driver's sending half, the host's toggle and the lists as they were leaves the packet where it was.
-- Assumes nothing.
use mathlib.Core.Path.{◌≡◌, sym, ◌∙◌}
use mathlib.Core.Bool.{Bool, true}
use Rattle.state.specs.State.{Model}
use Rattle.laws.specs.Place.{Same}
use Rattle.delivery.specs.Host.{Packet, is_acks}
use Rattle.delivery.specs.World.{Lists, World}
use Rattle.delivery.specs.Stage.{view_of, Idle, Armed, Waiting, Acked, Failed, Before, After, Told, before, after, Holding, Stage, idle, armed, waiting, acked, failed}
use Rattle.delivery.proofs.Send.Ends.{idle_same, armed_same, waiting_same, acked_same, failed_same}
use Rattle.delivery.proofs.Send.Token.{one}

-- the driver's sending half, the host's toggle, and the three lists
pub record Rest (w w' : World) : Type 0 where
  pub held : w'.driver.held ≡ w.driver.held
  pub sends : w'.driver.sends ≡ w.driver.sends
  pub expects : w'.host.expects ≡ w.host.expects
  pub offers : w'.lists.offers ≡ w.lists.offers
  pub delivered : w'.lists.delivered ≡ w.lists.delivered
  pub got : w'.lists.got ≡ w.lists.got

module _ (l l' : Lists) (f : l'.got ≡ l.got) (g : l'.delivered ≡ l.delivered) where
  before_lists : (t x : Bool) → Before t x l → Before t x l'
  before_lists t x b = record { expected = b.expected; got = rw (f, g) b.got }

  after_lists : (p : Packet) (t x : Bool) → After p t x l → After p t x l'
  after_lists p t x a = record { expected = a.expected; got = rw (f, g) a.got }

module _ (w w' : World) (r : Rest w w') where
  pub before_rest : Before w.driver.sends w.host.expects w.lists → Before w'.driver.sends w'.host.expects w'.lists
  before_rest b = rw (r.sends, r.expects) (before_lists w.lists w'.lists r.got r.delivered _ _ b)

  module _ (p : Packet) where
    pub after_rest : After p w.driver.sends w.host.expects w.lists → After p w'.driver.sends w'.host.expects w'.lists
    after_rest a = rw (r.sends, r.expects) (after_lists w.lists w'.lists r.got r.delivered p _ _ a)

    pub told_rest : Told p w.driver.sends w.host.expects w.lists → Told p w'.driver.sends w'.host.expects w'.lists
    told_rest (before b) = before (before_rest b)
    told_rest (after a) = after (after_rest a)

    pub holding_rest : Holding p w → Holding p w'
    holding_rest h = record { held = r.held ∙ h.held; offers = rw (r.offers, r.delivered) h.offers }

-- what endpoint 1 was before it is after
pub record Carries (m m' : Model) : Type 0 where
  pub idles : Idle (view_of m) → Idle (view_of m')
  pub arms : (p : Packet) (t : Bool) → Armed p t (view_of m) → Armed p t (view_of m')
  pub waits : (p : Packet) → Waiting p (view_of m) → Waiting p (view_of m')
  pub acks : Acked (view_of m) → Acked (view_of m')
  pub fails : (p : Packet) → Failed p (view_of m) → Failed p (view_of m')

pub by_same : (m m' : Model) → Same one m m' → Carries m m'
by_same m m' k =
    record {
      idles = idle_same m m' k;
      arms = armed_same m m' k;
      waits = waiting_same m m' k;
      acks = acked_same m m' k;
      fails = failed_same m m' k;
    }

pub by_view : (m m' : Model) → view_of m' ≡ view_of m → Carries m m'
by_view m m' e =
    record { idles = λ x. rw e x; arms = λ p t x. rw e x; waits = λ p x. rw e x; acks = λ x. rw e x; fails = λ p x. rw e x }

pub record Keeps (w w' : World) : Type 0 where
  pub model : Carries w.model w'.model
  pub rest : Rest w w'
  pub acking : is_acks w'.host.at ≡ true → is_acks w.host.at ≡ true

module _ (w w' : World) (k : Keeps w w') where
  pub stage_keeps : Stage w → Stage w'
  stage_keeps (idle x) =
      idle (record {
        chip = k.model.idles x.chip;
        held = k.rest.held ∙ x.held;
        offers = k.rest.offers ∙ x.offers ∙ sym k.rest.delivered;
        told = before_rest w w' k.rest x.told;
      })
  stage_keeps (armed p x) =
      armed p (record {
        chip = rw k.rest.sends (k.model.arms p w.driver.sends x.chip);
        holding = holding_rest w w' k.rest p x.holding;
        told = told_rest w w' k.rest p x.told;
      })
  stage_keeps (waiting p x) =
      waiting p (record {
        chip = k.model.waits p x.chip;
        holding = holding_rest w w' k.rest p x.holding;
        told = told_rest w w' k.rest p x.told;
        seen = λ h. after_rest w w' k.rest p (x.seen (k.acking h));
      })
  stage_keeps (acked p x) =
      acked p (record {
        chip = k.model.acks x.chip;
        holding = holding_rest w w' k.rest p x.holding;
        told = after_rest w w' k.rest p x.told;
      })
  stage_keeps (failed p x) =
      failed p (record {
        chip = k.model.fails p x.chip;
        holding = holding_rest w w' k.rest p x.holding;
        told = told_rest w w' k.rest p x.told;
      })
