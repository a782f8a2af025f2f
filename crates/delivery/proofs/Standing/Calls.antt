-- What a driver's call leaves: NFSR, AD_EN, the address, what is awaited and every EPC.
-- Assumes nothing.
use Prim.Native.Nat.{ℕ, ◌<◌}
use mathlib.Core.Path.{◌≡◌, refl, ◌∙◌}
use mathlib.Core.Bool.{false}
use mathlib.Core.List.{[]}
use Rattle.choice.specs.Choice.{pick}
use Rattle.choice.proofs.ByTest.{by_test}
use Rattle.event.specs.declared.Event.TheVariants as event
use Rattle.state.specs.declared.Chip.{Chip}
use Rattle.state.specs.State.{Model, sender_at, receiver_at}
use Rattle.settings.specs.Settings.{operational}
use Rattle.window.specs.Window.{numbered}
use Rattle.reads.specs.Read.{sender_read, receiver_read, read_of}
use Rattle.writes.specs.Write.{sender_command, sender_write, receiver_write, write_of}
use Rattle.step.specs.Step.{read_step, write_step, step_of}
use Rattle.laws.specs.Settings.{Epcs, Untouched, sets, is_access}
use Rattle.laws.proofs.Frame.Epcs.{epcs_then, alike, sender_epcs, receiver_epcs, command_epc, flushed_epc}
use Rattle.laws.proofs.Frame.Settled.{access_keeps_settings}
use Rattle.laws.proofs.Frame.Matching.{settled_then}
use Rattle.driver.specs.Registers.{written, seen}
use Rattle.driving.specs.Touches.{Touches, Sending, txs, txd, txc, Receiving, rxd, rxs, rxc}
use Rattle.driving.proofs.Reached.{touches_by}

pub record Leaves (c c' : Chip) : Type 0 where
  pub untouched : Untouched c c'
  pub epcs : Epcs c c'

leaves_then : {a b c : Chip} → Leaves a b → Leaves b c → Leaves a c
leaves_then {a} {b} {c} x y =
    record {
      untouched = record {
        settled = settled_then a b c x.untouched.settled y.untouched.settled;
        wait = y.untouched.wait ∙ x.untouched.wait;
      };
      epcs = epcs_then a b c x.epcs y.epcs;
    }

leaves : (c : Chip) → Leaves c c
leaves c = record { untouched = record { settled = record { nfsr = refl; aden = refl; address = refl }; wait = refl }; epcs = alike c c refl refl }

-- ---- one access

module _ (m : Model) where
  abbrev c : Chip
  c = m.chip

  seen_untouched : (a : ℕ) → Untouched c (seen a m).chip
  unfolding seen step_of read_step is_access sets
  seen_untouched a = access_keeps_settings (event.Read a) [] m refl refl

  written_untouched : (a v : ℕ) → sets (event.Write a v) ≡ false → Untouched c (written a v m).chip
  unfolding written step_of write_step is_access
  written_untouched a v ok = access_keeps_settings (event.Write a v) [] m refl ok

  txc_epcs : (v : ℕ) → Epcs c (sender_command (numbered 1) v c)
  unfolding sender_command
  txc_epcs v =
      by_test (Epcs c) _ (λ _. alike c _ refl refl)
      (λ _. sender_epcs c (numbered 1) _ (command_epc (operational c) v (sender_at (numbered 1) c)))

-- ---- calls

abbrev Kept : Model → Model → Type 0
Kept m n = Leaves m.chip n.chip

-- TXS; TXD and TXC
sent_read : (a : ℕ) (m : Model) → Sending (event.Read a) → Kept m (seen a m)
sent_read a m txs = record { untouched = seen_untouched m 0x2A; epcs = unfold seen read_of sender_read pick in sender_epcs m.chip (numbered 1) _ refl }

sent_write : (a v : ℕ) (m : Model) → Sending (event.Write a v) → v < 256 → Kept m (written a v m)
unfolding sets
sent_write a v m (txd x) b =
    record {
      untouched = written_untouched m 0x29 v refl;
      epcs = unfold written write_of sender_write pick in sender_epcs m.chip (numbered 1) _ refl;
    }
sent_write a v m (txc x) b =
    record { untouched = written_untouched m 0x2B v refl; epcs = unfold written write_of sender_write pick in txc_epcs m v }

-- RXD and RXS; RXC
received_read : (a : ℕ) (m : Model) → Receiving (event.Read a) → Kept m (seen a m)
received_read a m rxd = record { untouched = seen_untouched m 0x2D; epcs = unfold seen read_of receiver_read pick in receiver_epcs m.chip (numbered 1) _ refl }
received_read a m rxs = record { untouched = seen_untouched m 0x2E; epcs = unfold seen read_of receiver_read pick in receiver_epcs m.chip (numbered 1) _ refl }

received_write : (a v : ℕ) (m : Model) → Receiving (event.Write a v) → v < 256 → Kept m (written a v m)
unfolding sets
received_write a v m (rxc x) b =
    record {
      untouched = written_untouched m 0x2F v refl;
      epcs = unfold written write_of receiver_write pick in receiver_epcs m.chip (numbered 1) _ (flushed_epc (receiver_at (numbered 1) m.chip) v);
    }

-- An offer and the send service.
pub sending_leaves : {m n : Model} → Touches Sending m n → Kept m n
sending_leaves = touches_by Kept (λ m. leaves m.chip) (λ _ _ _ x y. leaves_then x y) sent_read sent_write

-- The receive service.
pub receiving_leaves : {m n : Model} → Touches Receiving m n → Kept m n
receiving_leaves = touches_by Kept (λ m. leaves m.chip) (λ _ _ _ x y. leaves_then x y) received_read received_write
