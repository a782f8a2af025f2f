-- Endpoint 1 alone: what an offer, an IN, the end of the wait and a resend make of its state and its window.
-- Assumes nothing.
use Prim.Native.Nat.{ℕ, ◌+◌, ◌*◌, ◌/◌, ◌%◌, ◌≤◌, min}
use native.Mathlib.Omega.{arith}
use mathlib.Core.Path.{◌≡◌, refl, sym, ap, ◌∙◌}
use mathlib.Core.Bool.{Bool, true, false}
use mathlib.Core.List.{List, ◌++◌}
use lib.ListN.{length}
use lib.Dec.{eqb}
use borrow.Author.Tests.{le-leb, eq-eqb, ne_eqb}
use Rattle.choice.specs.Choice.{pick}
use Rattle.window.specs.declared.Kind.TheVariants as kind
use Rattle.window.specs.Window.{tx_size, start_of, numbered}
use Rattle.ring.specs.Ring.{level}
use Rattle.txfifo.specs.declared.TxFifo.{TxFifo}
use Rattle.txfifo.specs.Transmit.{spend_tx, refill_tx, mark_tx}
use Rattle.contents.proofs.Ring.{level_self, Counters, contents_none, level_length}
use Rattle.contents.proofs.Transmit.{put_all_tx, put_all_tx_bytes, put_all_tx_appends}
use Rattle.epc.specs.Bits.{bit_of, has}
use Rattle.sender.specs.declared.Sender.{Sender}
use Rattle.sender.specs.declared.Sent.TheVariants.{Nak, Data0, Data1}
use Rattle.sender.specs.Sender.{status_of, with_fifo, with_bits, handshake, moved, marked, command, answer_in, sent}
use Rattle.answer.specs.Answer.{packet_of, packet_at}
use Rattle.packet.specs.Packet.{packet_bytes}
use Rattle.driver.specs.Driver.{armed, again}
use Rattle.delivery.specs.Host.{Packet}
use Rattle.delivery.specs.Stage.{View, between, Spent, Armed, Waiting, Acked, Failed}

-- the view after a change
abbrev pub view_as : Sender → Bool → Bool → List ℕ → View
view_as s b h m = record { sender = s; awaits = b; holds = h; memory = m }

-- ---- an offer

-- 03 or 07 to TXC1: LAST, TX_EN and the toggle
armed_is : (t : Bool) (s : Sender) → command true (armed t) s ≡ with_bits 0 t true true (with_fifo (mark_tx s.fifo) s)
unfolding command moved marked pick
armed_is true s = refl
armed_is false s = refl

between_length : (m : List ℕ) (x y : ℕ) → length (between m x y) ≡ level x y
unfolding between
between_length m x y = level_length (start_of kind.Transmit (numbered 1)) tx_size m x y

module _ (p : Packet) (s : Sender) (m : List ℕ) (c : Counters s.fifo.read s.fifo.write) (l : length m ≡ 392)
    (e : level s.fifo.read s.fifo.write ≡ 0) (le : length p ≤ 64) where
  put_holds : between (put_all_tx_bytes (numbered 1) p s.fifo m) (put_all_tx p s.fifo).read (put_all_tx p s.fifo).write ≡ p
  unfolding between
  put_holds =
      put_all_tx_appends (numbered 1) p s.fifo m c l (omega arith)
      ∙ ap (λ (x : List ℕ). x ++ p) (contents_none (start_of kind.Transmit (numbered 1)) tx_size m s.fifo.read s.fifo.write e)

  pub offer_arms : (t h : Bool) → s.done ≡ false
      → Armed p t (view_as (command true (armed t) (with_fifo (put_all_tx p s.fifo) s)) false h (put_all_tx_bytes (numbered 1) p s.fifo m))
  offer_arms t h done =
      let f : TxFifo = put_all_tx p s.fifo in
      let m' : List ℕ = put_all_tx_bytes (numbered 1) p s.fifo m in
      let k : level f.read f.write ≡ length p = sym (between_length m' f.read f.write) ∙ ap (λ (x : List ℕ). length x) put_holds in
      rw (armed_is t (with_fifo f s)) (record {
        enabled = refl;
        last = refl;
        toggled = refl;
        done = done;
        marked = refl;
        fits = omega arith;
        bytes = put_holds;
        free = refl;
      })

-- ---- IN

-- Not armed: NAK, and nothing changes.
pub nak_answer : (s : Sender) → s.enabled ≡ false → answer_in s ≡ Nak
unfolding answer_in pick
nak_answer s off = rw off

pub nak_stays : (s : Sender) → s.enabled ≡ false → sent s ≡ s
unfolding sent pick
nak_stays s off = rw off

module _ (s : Sender) (on : s.enabled ≡ true) (no-stall : s.epc.stall ≡ false) (last : s.last ≡ true) where
  pub data_answer : answer_in s ≡ pick s.toggle Data1 Data0
  unfolding answer_in pick
  data_answer = rw (on, no-stall, last)

  pub data_left : sent s ≡ with_bits s.high s.toggle false false (with_fifo (spend_tx s.fifo) s)
  unfolding sent pick
  data_left = rw (on, no-stall, last)

-- Armed: the packet is sent, and its handshake awaited.
pub sent_waits : (p : Packet) (t : Bool) (s : Sender) (b h : Bool) (m : List ℕ) → s.epc.stall ≡ false → Armed p t (view_as s b h m)
    → Waiting p (view_as (sent s) true false m)
sent_waits p t s b h m no-stall a =
    rw (data_left s a.enabled no-stall a.last) (record {
      spent = record {
        nothing = record { off = refl; empty = level_self s.fifo.write };
        fits = rw a.marked (omega (arith, a.fits));
        bytes = rw a.marked a.bytes;
      };
      done = a.done;
      waits = refl;
      unheld = refl;
    })

min_is : (k : ℕ) → k ≤ 64 → min k 64 ≡ k
min_is k le = omega arith

-- What is sent is the packet.
pub packet_sent : (p : Packet) (s : Sender) (m : List ℕ) → level s.fifo.read s.fifo.write ≤ 64
    → between m s.fifo.read s.fifo.write ≡ p → packet_bytes (packet_at (numbered 1) s) m ≡ p
unfolding packet_bytes packet_of between
packet_sent p s m fits e = rw (min_is (level s.fifo.read s.fifo.write) fits) e

-- ---- the end of the wait

pub acked_ends : (p : Packet) (s : Sender) (b h g : Bool) (m : List ℕ) → Waiting p (view_as s b h m) → Acked (view_as (handshake true s) false g m)
acked_ends p s b h g m w =
    record {
      nothing = record { off = w.spent.nothing.off; empty = w.spent.nothing.empty };
      done = refl;
      ack = refl;
      free = refl;
    }

pub failed_ends : (p : Packet) (s : Sender) (b h g : Bool) (m : List ℕ) → Waiting p (view_as s b h m)
    → Failed p (view_as (handshake false s) false g m)
failed_ends p s b h g m w =
    record {
      spent = record {
        nothing = record { off = w.spent.nothing.off; empty = w.spent.nothing.empty };
        fits = w.spent.fits;
        bytes = w.spent.bytes;
      };
      done = refl;
      ack = refl;
      free = refl;
    }

-- ---- a resend

-- 13 or 17 to TXC1: RFF, LAST, TX_EN and the toggle
again_is : (t : Bool) (s : Sender)
    → command true (again t) s
    ≡ with_bits 0 t true true (with_fifo (mark_tx (refill_tx s.fifo)) s)
unfolding command moved marked pick
again_is true s = refl
again_is false s = refl

pub resent_arms : (p : Packet) (t : Bool) (s : Sender) (b h : Bool) (m : List ℕ) → Spent p (view_as s b h m) → s.done ≡ false
    → Armed p t (view_as (command true (again t) s) false h m)
unfolding refill_tx pick
resent_arms p t s b h m x done =
    rw (again_is t s, le-leb _ 64 x.fits) (record {
      enabled = refl;
      last = refl;
      toggled = refl;
      done = done;
      marked = refl;
      fits = x.fits;
      bytes = x.bytes;
      free = refl;
    })

-- ---- TXS

min_small : (k : ℕ) → min k 31 ≤ 31
min_small k = omega arith

eq_bit : (k : ℕ) → k ≡ 1 → eqb k 1 ≡ true
eq_bit k e = eq-eqb k 1 e

no_bit : (k : ℕ) → k ≡ 0 → eqb k 1 ≡ false
no_bit k e = ne_eqb k 1 (omega arith)

done_bit : (u a d : Bool) (k : ℕ) → k ≤ 31 → has 0x20 (128 * bit_of u + 64 * bit_of a + 32 * bit_of d + k) ≡ d
done_bit u a true k le = eq_bit ((128 * bit_of u + 64 * bit_of a + 32 + k) / 32 % 2) (omega arith)
done_bit u a false k le = no_bit ((128 * bit_of u + 64 * bit_of a + 0 + k) / 32 % 2) (omega arith)

ack_bit : (u a d : Bool) (k : ℕ) → k ≤ 31 → has 0x40 (128 * bit_of u + 64 * bit_of a + 32 * bit_of d + k) ≡ a
ack_bit u true true k le = eq_bit ((128 * bit_of u + 64 + 32 + k) / 64 % 2) (omega arith)
ack_bit u true false k le = eq_bit ((128 * bit_of u + 64 + 0 + k) / 64 % 2) (omega arith)
ack_bit u false true k le = no_bit ((128 * bit_of u + 0 + 32 + k) / 64 % 2) (omega arith)
ack_bit u false false k le = no_bit ((128 * bit_of u + 0 + 0 + k) / 64 % 2) (omega arith)

-- TXS shows TX_DONE and ACK_STAT.
pub shows_done : (s : Sender) → has 0x20 (status_of s) ≡ s.done
shows_done s = done_bit s.urun s.ack s.done _ (min_small _)

pub shows_ack : (s : Sender) → has 0x40 (status_of s) ≡ s.ack
shows_ack s = ack_bit s.urun s.ack s.done _ (min_small _)
