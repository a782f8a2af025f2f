-- Endpoint 1 in the chip: the driver's accesses of its registers, as changes of its state and its window.
-- Assumes nothing.
use Prim.Native.Nat.{ℕ}
use mathlib.Core.Path.{◌≡◌, refl, sym, ap, ◌∙◌}
use mathlib.Core.Bool.{true, false, false≢true}
use mathlib.Core.List.{List, [], ◌∷◌}
use lib.ListN.{length, length-set}
use borrow.Author.Tests.{ne_eqb}
use Rattle.choice.specs.Choice.{pick}
use Rattle.window.specs.Window.{index_of, numbered}
use Rattle.txfifo.specs.Transmit.{put_tx, put_tx_bytes}
use Rattle.contents.proofs.Transmit.{put_all_tx, put_all_tx_bytes}
use Rattle.sender.specs.declared.Sender.{Sender}
use Rattle.sender.specs.Sender.{with_fifo, status_of, cleared, command}
use Rattle.state.specs.declared.Endpoint.{Endpoint}
use Rattle.state.specs.declared.Wait.{Wait}
use Rattle.state.specs.declared.Wait.TheVariants as wait
use Rattle.state.specs.declared.Chip.{Chip}
use Rattle.state.specs.State.{Model, sender_at}
use Rattle.state.specs.Set.{with_sender}
use Rattle.settings.specs.Settings.{operational, awaits_in, awaits}
use Rattle.slot.specs.Slot.{sending}
use Rattle.reads.specs.Read.{read_of, sender_read}
use Rattle.writes.specs.Write.{sender_command, sender_write, sender_bytes, write_of, bytes_of}
use Rattle.laws.specs.Place.{sends, sending_place, is_owner, awaited_of, awaited}
use Rattle.laws.proofs.Typed.At.{sender_same}
use Rattle.driver.specs.Registers.{whole, written, written_all, value, seen}

abbrev pub first : Chip → Sender
first c = sender_at (numbered 1) c

abbrev pub Sized : Chip → Type 0
Sized c = length c.senders ≡ 3

pub put_sized : (x : Sender) (c : Chip) → Sized c → Sized (with_sender (numbered 1) x c)
put_sized x c l = length-set c.senders _ x ∙ l

-- what is not awaited of the place is not awaited of the endpoint
awaited_one : (e : Endpoint) → e.0 ≡ 1 → is_owner (awaited_of (wait.Handshake e)) (sends (numbered 1)) ≡ true
unfolding sending_place index_of pick
awaited_one e k = rw k refl

not_awaits_in : (w : Wait) → is_owner (awaited_of w) (sends (numbered 1)) ≡ false → awaits_in (sending (numbered 1)) w ≡ false
unfolding index_of pick
not_awaits_in wait.Nothing h = refl
not_awaits_in (wait.Handshake e) h = ne_eqb e.0 1 (λ k. false≢true (sym h ∙ awaited_one e k))
not_awaits_in (wait.Data e) h = refl
not_awaits_in wait.Setup h = refl

pub not_awaits : (c : Chip) → awaited (sends (numbered 1)) c ≡ false → awaits (sending (numbered 1)) c ≡ false
unfolding awaited
not_awaits c h = not_awaits_in c.pending.wait h

-- ---- writes

pub txd_written : (b : ℕ) (m : Model)
    → written 0x29 b m
    ≡ whole (with_sender (numbered 1) (with_fifo (put_tx (first m.chip).fifo) (first m.chip)) m.chip) (put_tx_bytes (numbered 1) (first m.chip).fifo b m.memory)
unfolding written write_of sender_write bytes_of sender_bytes pick
txd_written b m = refl

pub txc_written : (v : ℕ) (m : Model) → awaited (sends (numbered 1)) m.chip ≡ false → operational m.chip ≡ true
    → written 0x2B v m ≡ whole (with_sender (numbered 1) (command true v (first m.chip)) m.chip) m.memory
unfolding written write_of sender_write sender_command bytes_of sender_bytes pick
txc_written v m free on = rw (not_awaits m.chip free, on)

-- ---- bytes put one after another

pub record Put (s : Sender) (m : List ℕ) (c : Chip) (x : Model) : Type 0 where
  pub sender : first x.chip ≡ s
  pub memory : x.memory ≡ m
  pub pending : x.chip.pending ≡ c.pending
  pub nfsr : x.chip.nfsr ≡ c.nfsr
  pub sized : Sized x.chip

pub all_put : (p : List ℕ) (m : Model) → Sized m.chip
    → Put (with_fifo (put_all_tx p (first m.chip).fifo) (first m.chip)) (put_all_tx_bytes (numbered 1) p (first m.chip).fifo m.memory) m.chip (written_all 0x29 p m)
unfolding written_all put_all_tx put_all_tx_bytes
all_put [] m l = record { sender = refl; memory = refl; pending = refl; nfsr = refl; sized = l }
all_put (b ∷ p) m l =
    let s : Sender = first m.chip in
    let t : Sender = with_fifo (put_tx s.fifo) s in
    let n : Model = whole (with_sender (numbered 1) t m.chip) (put_tx_bytes (numbered 1) s.fifo b m.memory) in
    let f : first n.chip ≡ t = sender_same (numbered 1) t m.chip l in
    let r : _ = all_put p n (put_sized t m.chip l) in
    rw (txd_written b m) (record {
      sender = r.sender ∙ ap (λ (x : Sender). with_fifo (put_all_tx p x.fifo) x) f;
      memory = r.memory ∙ ap (λ (x : Sender). put_all_tx_bytes (numbered 1) p x.fifo n.memory) f;
      pending = r.pending;
      nfsr = r.nfsr;
      sized = r.sized;
    })

-- ---- TXS

pub txs_value : (m : Model) → value 0x2A m ≡ status_of (first m.chip)
unfolding value read_of sender_read pick
txs_value m = refl

pub txs_seen : (m : Model) → seen 0x2A m ≡ whole (with_sender (numbered 1) (cleared (first m.chip)) m.chip) m.memory
unfolding seen read_of sender_read pick
txs_seen m = refl
