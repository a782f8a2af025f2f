-- A fresh start, set up as 01 says, stands.
-- Assumes nothing.
use Prim.Native.Nat.{ℕ, ◌+◌, ◌/◌, ◌%◌}
use native.Mathlib.Omega.{arith}
use mathlib.Core.Path.{◌≡◌, refl, ◌∙◌}
use mathlib.Core.Bool.{true, false≢true}
use lib.Dec.{eqb}
use borrow.Author.Tests.{eq-eqb}
use Rattle.choice.specs.Choice.{pick}
use Rattle.window.specs.Window.{index_of, numbered}
use Rattle.event.specs.declared.BusEndpoint.{BusEndpoint}
use Rattle.epc.specs.Epc.{epc_of}
use Rattle.state.specs.declared.Wait.TheVariants.{Nothing}
use Rattle.state.specs.declared.Chip.{Chip}
use Rattle.state.specs.State.{sender_at, receiver_at}
use Rattle.settings.specs.Settings.{nfsr_write}
use Rattle.receiver.specs.Receiver.{flushed}
use Rattle.writes.specs.Write.{sender_write, receiver_write, write_of}
use Rattle.driver.specs.Registers.{written}
use Rattle.driver.specs.Driver.{startable, set_up, started}
use Rattle.driving.proofs.Kept.{Sound, start_sound}
use Rattle.delivery.specs.Host.{is_datas}
use Rattle.delivery.specs.World.{Pipes, start_world}
use Rattle.delivery.specs.Standing.{Awaits, Standing}
use Rattle.delivery.proofs.Standing.Reaches.{Ranges, pipes_range}

module _ (a : ℕ) (e f : BusEndpoint) where
  abbrev c : Chip
  c = (set_up a e f).chip

  nfsr_is : c.nfsr ≡ 2
  unfolding set_up written write_of nfsr_write sender_write receiver_write pick
  nfsr_is = refl

  far_is : (c.aden ≡ eqb ((0x80 + a) / 128 % 2) 1) × (c.address ≡ (0x80 + a) % 128)
  unfolding set_up written write_of nfsr_write sender_write receiver_write pick
  far_is = (refl, refl)

  sends_is : (sender_at (numbered 1) c).epc ≡ epc_of (0x10 + e.0)
  unfolding set_up written write_of nfsr_write sender_write receiver_write index_of pick
  sends_is = refl

  receives_is : (receiver_at (numbered 1) c).epc ≡ epc_of (0x10 + f.0)
  unfolding set_up written write_of nfsr_write sender_write receiver_write flushed index_of pick
  receives_is = refl

  none_awaited : c.pending.wait ≡ Nothing
  unfolding set_up written write_of nfsr_write sender_write receiver_write pick
  none_awaited = refl

  made_sound : startable a e f ≡ true → Sound (set_up a e f)
  unfolding started pick
  made_sound h = rw h at (start_sound a e f)

pub start_stands : (p : Pipes) → startable p.a p.e p.f ≡ true → Standing (start_world p)
unfolding start_world Awaits is_datas
start_stands p h =
    let r : Ranges p = pipes_range p h in
    let s : Sound (set_up p.a p.e p.f) = made_sound p.a p.e p.f h in
    record {
      startable_as = h;
      typed = s.typed;
      as_set_up = record {
        well = s.formed;
        operates = eq-eqb _ 2 (nfsr_is p.a p.e p.f);
        enabled = (far_is p.a p.e p.f).0 ∙ eq-eqb ((0x80 + p.a) / 128 % 2) 1 (omega (arith, r.address));
        address = (far_is p.a p.e p.f).1 ∙ omega (arith, r.address);
        sends_as = sends_is p.a p.e p.f;
        receives_as = receives_is p.a p.e p.f;
      };
      awaits = none_awaited p.a p.e p.f;
      holding = record {
        bytes = λ i. omega arith;
        fits = omega arith;
        some = λ e. absurd {0} (false≢true e);
        sending = λ e. absurd {0} (false≢true e);
      };
    }
