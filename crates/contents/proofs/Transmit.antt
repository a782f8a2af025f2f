-- The laws of TXFIFO1 to 3: a put appends, a spend leaves nothing, and a refill brings back what was spent.
-- The counters are under 256 and the memory has its 392 bytes.
-- Assumes nothing.
use Prim.Native.Nat.{ℕ, suc, ◌+◌, ◌%◌, ◌≤◌, ◌<◌}
use native.Mathlib.Omega.{arith}
use mathlib.Core.Path.{◌≡◌, refl}
use mathlib.Core.Bool.{true, false}
use mathlib.Core.List.{List, [], ◌∷◌, ◌++◌}
use lib.ListN.{length}
use borrow.Author.Tests.{lt-leb, le-leb}
use Rattle.choice.specs.Choice.{pick}
use Rattle.choice.proofs.ByTest.{by_test}
use Rattle.window.specs.declared.FifoNumber.{FifoNumber}
use Rattle.txfifo.specs.declared.TxFifo.{TxFifo}
use Rattle.window.specs.declared.Kind.TheVariants.{Transmit}
use Rattle.window.specs.Window.{tx_size, start_of}
use Rattle.ring.specs.Ring.{next, level, full, store, store_all, contents}
use Rattle.txfifo.specs.Transmit.{reset_tx, tx_contents, put_tx, put_tx_bytes, spend_tx, refill_tx}
use Rattle.contents.proofs.Ring.{sixty_four, Counters, level_adds, level_length, contents_spent, store_appends, store_all_appends}
use Rattle.contents.proofs.Windows.{Kept, unchanged_kept, store_kept, window_fits}

-- bytes put one after another
unfoldable pub put_all_tx : List ℕ → TxFifo → TxFifo
put_all_tx [] f = f
put_all_tx (b ∷ bs) f = put_all_tx bs (put_tx f)

unfoldable pub put_all_tx_bytes : FifoNumber → List ℕ → TxFifo → List ℕ → List ℕ
put_all_tx_bytes n [] f m = m
put_all_tx_bytes n (b ∷ bs) f m = put_all_tx_bytes n bs (put_tx f) (put_tx_bytes n f b m)

module _ (n : FifoNumber) (f : TxFifo) (m : List ℕ) where
  -- The level is the number of bytes held.
  pub tx_contents_length : length (tx_contents n f m) ≡ level f.read f.write
  tx_contents_length = level_length (start_of Transmit n) tx_size m f.read f.write

  -- A put appends its byte where there is room.
  pub put_tx_appends : (b : ℕ) → Counters f.read f.write → length m ≡ 392 → full tx_size f.read f.write ≡ false
      → tx_contents n (put_tx f) (put_tx_bytes n f b m) ≡ tx_contents n f m ++ (b ∷ [])
  unfolding put_tx pick
  put_tx_appends b c l room =
      rw room (store_appends sixty_four (start_of Transmit n) m f.read f.write b (window_fits Transmit n m l) c room)

  -- A put changes nothing where it is full.
  pub put_tx_ignored : (b : ℕ) → full tx_size f.read f.write ≡ true → (put_tx f ≡ f) × (put_tx_bytes n f b m ≡ m)
  unfolding put_tx pick
  put_tx_ignored b none = rw none (refl, refl)

  -- A put keeps the length of the memory, and every window apart from its own.
  pub put_tx_kept : (b : ℕ) → Kept (start_of Transmit n) tx_size m (put_tx_bytes n f b m)
  put_tx_kept b =
      by_test (Kept (start_of Transmit n) tx_size m) _
      (λ _. unchanged_kept (start_of Transmit n) tx_size m)
      (λ _. store_kept sixty_four (start_of Transmit n) f.write b m)

  -- Read moved to write leaves nothing to send.
  pub spend_tx_empties : Counters f.read f.write → tx_contents n (spend_tx f) m ≡ []
  spend_tx_empties c = contents_spent (start_of Transmit n) tx_size m f.write c.write_small

  -- A flush leaves nothing to send.
  pub reset_tx_empties : tx_contents n reset_tx m ≡ []
  reset_tx_empties = contents_spent (start_of Transmit n) tx_size m 0 (omega arith)

-- Bytes put one after another, as long as there is room, are one stretch stored.
put_all_tx_stores : (n : FifoNumber) (bs : List ℕ) (f : TxFifo) (m : List ℕ)
    → Counters f.read f.write → level f.read f.write + length bs ≤ 64
    → (put_all_tx bs f ≡ record { read = f.read; write = (f.write + length bs) % 256; saved = f.saved })
    × (put_all_tx_bytes n bs f m ≡ store_all (start_of Transmit n) tx_size f.write bs m)
unfolding put_all_tx put_all_tx_bytes put_tx store_all pick
put_all_tx_stores n [] f m c le = let e : (f.write + 0) % 256 ≡ f.write = omega arith in rw e (refl, refl)
put_all_tx_stores n (b ∷ bs) f m c le =
    let room : full tx_size f.read f.write ≡ false = lt-leb 64 (level f.read f.write) (omega arith) in
    let e : (f.write + suc (length bs)) % 256 ≡ (next f.write + length bs) % 256 = omega arith in
    let g : TxFifo = record { read = f.read; write = next f.write; saved = f.saved } in
    let le' : level f.read (next f.write) + length bs ≤ 64 = omega (arith, level_adds f.read f.write c 1 (omega arith)) in
    rw (room, e) (put_all_tx_stores n bs g (store (start_of Transmit n) tx_size f.write b m) (omega arith) le')

module _
    (n : FifoNumber) (bs : List ℕ) (f : TxFifo) (m : List ℕ)
    (c : Counters f.read f.write) (l : length m ≡ 392) (le : level f.read f.write + length bs ≤ 64) where
  stretch_appends : contents (start_of Transmit n) tx_size (store_all (start_of Transmit n) tx_size f.write bs m) f.read ((f.write + length bs) % 256)
      ≡ tx_contents n f m ++ bs
  stretch_appends = store_all_appends sixty_four (start_of Transmit n) bs m f.read f.write (window_fits Transmit n m l) c le

  -- Bytes put one after another are appended in their order, as long as there is room.
  pub put_all_tx_appends : tx_contents n (put_all_tx bs f) (put_all_tx_bytes n bs f m) ≡ tx_contents n f m ++ bs
  put_all_tx_appends = let e : _ = put_all_tx_stores n bs f m c le in rw (e.0, e.1) stretch_appends

  -- A refill after a spend of a marked FIFO brings back what was spent, and what was put since stands behind it.
  pub refill_tx_restores : f.saved ≡ f.read
      → tx_contents n (refill_tx (put_all_tx bs (spend_tx f))) (put_all_tx_bytes n bs (spend_tx f) m) ≡ tx_contents n f m ++ bs
  unfolding refill_tx pick
  refill_tx_restores marked =
      let e : _ = put_all_tx_stores n bs (spend_tx f) m (omega arith) (omega arith) in
      let small : level f.read ((f.write + length bs) % 256) ≤ 64 =
      omega (arith, level_adds f.read f.write c (length bs) (omega arith)) in
      rw (e.0, e.1, marked, le-leb _ _ small) stretch_appends

-- Where write is over 64 from saved, a refill does nothing.
pub refill_tx_ignored : (f : TxFifo) → 64 < level f.saved f.write → refill_tx f ≡ f
unfolding refill_tx pick
refill_tx_ignored f far = rw (lt-leb _ 64 far)
