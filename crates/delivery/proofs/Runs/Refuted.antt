-- Where a reserved register is accessed, demand 3's sentences do not hold.
-- Assumes nothing.
use mathlib.Core.Path.{◌≡◌, refl}
use Rattle.delivery.specs.Host.{over}
use Rattle.delivery.specs.Lists.{Sent, Received, SentAgain, ReceivedAgain}
use Rattle.delivery.proofs.Runs.Sides.{same_packet, same_packets, not_sent, not_received, not_sent_again, not_received_again}
use Rattle.delivery.proofs.Runs.Reserved.{read_2_a, read_2_d, read_2_e, write_00, write_04, write_05, write_28, write_29, write_2_b, write_2_c, write_2_f, Reserved, reserved_runs}

-- so demand 3's sentences do not hold there
pub record Refuted : Type 0 where
  pub by_read_2_a : (read_2_a.host.at ≡ over → SentAgain read_2_a) → ⊥
  pub by_read_2_d : Received read_2_d → ⊥
  pub by_read_2_e : Received read_2_e → ⊥
  pub by_write_00 : Received write_00 → ⊥
  pub by_write_04 : (write_04.host.at ≡ over → SentAgain write_04) → ⊥
  pub by_write_05 : (write_05.host.at ≡ over → SentAgain write_05) → ⊥
  pub by_write_28 : (write_28.host.at ≡ over → SentAgain write_28) → ⊥
  pub by_write_29 : Sent write_29 → ⊥
  pub by_write_2_b : Sent write_2_b → ⊥
  pub by_write_2_c : (write_2_c.host.at ≡ over → ReceivedAgain write_2_c) → ⊥
  pub by_write_2_f : Received write_2_f → ⊥

pub refuted : Refuted
unfolding same_packet same_packets
refuted =
    let r : Reserved = reserved_runs in
    record {
      by_read_2_a = not_sent_again read_2_a _ _ _ r.over_read_2_a r.on_read_2_a r.then_read_2_a refl;
      by_read_2_d = not_received read_2_d _ _ _ r.on_read_2_d (refl, refl);
      by_read_2_e = not_received read_2_e _ _ _ r.on_read_2_e (refl, refl);
      by_write_00 = not_received write_00 _ _ _ r.on_write_00 (refl, refl);
      by_write_04 = not_sent_again write_04 _ _ _ r.over_write_04 r.on_write_04 r.then_write_04 refl;
      by_write_05 = not_sent_again write_05 _ _ _ r.over_write_05 r.on_write_05 r.then_write_05 refl;
      by_write_28 = not_sent_again write_28 _ _ _ r.over_write_28 r.on_write_28 r.then_write_28 refl;
      by_write_29 = not_sent write_29 _ _ _ r.on_write_29 (refl, refl);
      by_write_2_b = not_sent write_2_b _ _ _ r.on_write_2_b (refl, refl);
      by_write_2_c = not_received_again write_2_c _ _ _ r.over_write_2_c r.on_write_2_c r.then_write_2_c refl;
      by_write_2_f = not_received write_2_f _ _ _ r.on_write_2_f (refl, refl);
    }
