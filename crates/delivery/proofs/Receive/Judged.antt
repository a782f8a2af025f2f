-- The receive service takes the packet that waits, flushes what does not, and leaves endpoint 2 ready.
-- Assumes nothing.
use Prim.Native.Nat.{ℕ, ◌/◌, ◌%◌}
use mathlib.Core.Path.{◌≡◌, refl, sym, ap, ◌∙◌}
use mathlib.Core.Logic.{inl, inr}
use mathlib.Core.Bool.{Bool, true, false, not, ◌&&◌, ◌||◌, false≢true}
use lib.Dec.{eqb}
use Rattle.choice.specs.Choice.{pick}
use Rattle.choice.proofs.ByTest.{by_test}
use Rattle.epc.specs.Bits.{bit_of, has}
use Rattle.state.specs.State.{Model}
use Rattle.settings.specs.Settings.{operational}
use Rattle.driver.specs.declared.Driver.{Driver}
use Rattle.driver.specs.declared.Did.TheVariants as did
use Rattle.driver.specs.Registers.{value, seen}
use Rattle.receiving.specs.Receive.{judged, receive_served}
use Rattle.driving.proofs.Kept.{Sound}
use Rattle.delivery.specs.World.{same, is_taken}
use Rattle.delivery.specs.Lists.{waits}
use Rattle.delivery.proofs.Receive.Storing.{Ready, Shape, err_waits}
use Rattle.delivery.proofs.Receive.Alike.{rx}
use Rattle.delivery.proofs.Receive.Service.{Served, last_waits, flush_served, nothing_served, accept_served, shows_err, shows_last, shows_toggle}

module _ (m : Model) (d : Driver) (s : Sound m) (on : operational m.chip ≡ true) where
  judged_served : Shape (rx m) → Served m d (judged (value 0x2E m) (seen 0x2E m) d)
  unfolding judged is_taken
  judged_served shape =
      by_test (Served m d) (has 0x80 (value 0x2E m))
      (λ e. flush_served m d s on did.Flushed refl (err_waits (rx m) d.expects (sym (shows_err m) ∙ e)))
      (λ e. by_test (Served m d) (has 0x10 (value 0x2E m))
      (λ l. by_test (Served m d) _
      (λ t. accept_served m d s on (whole e l ∙ toggled t))
      (λ t. flush_served m d s on did.Repeat refl (whole e l ∙ toggled t)))
      (λ l. nothing_served m d s on (ready_of shape e l) (ap (λ (b : Bool). b && not (rx m).err && same (rx m).toggle d.expects) (sym (shows_last m) ∙ l))))
    where
      whole : has 0x80 (value 0x2E m) ≡ false → has 0x10 (value 0x2E m) ≡ true → waits (rx m) d.expects ≡ same (rx m).toggle d.expects
      whole e l = last_waits (rx m).last (rx m).err (same (rx m).toggle d.expects) (sym (shows_err m) ∙ e) (sym (shows_last m) ∙ l)

      toggled : {b : Bool} → eqb (value 0x2E m / 0x20 % 2) (bit_of d.expects) ≡ b → same (rx m).toggle d.expects ≡ b
      toggled t = ap (λ (v : ℕ). eqb v (bit_of d.expects)) (sym (shows_toggle m)) ∙ t

      ready_of : Shape (rx m) → has 0x80 (value 0x2E m) ≡ false → has 0x10 (value 0x2E m) ≡ false → Ready (rx m)
      ready_of (inl h) e l = h
      ready_of (inr h) e l =
          absurd {0} (false≢true (sym (ap (λ (b : Bool). b || (rx m).err) (sym (shows_last m) ∙ l) ∙ sym (shows_err m) ∙ e) ∙ h.flagged))

  -- The receive service takes the packet that waits, flushes what does not, and leaves endpoint 2 ready.
  pub service_served : Shape (rx m) → Served m d (receive_served m d)
  unfolding receive_served pick
  service_served shape = rw s.formed (judged_served shape)
