-- The laws of FIFO0: a put appends, a take gives the head and leaves the tail, a packet that fits is all it holds.
-- The counters are under 256 and the memory has its 392 bytes.
-- Assumes nothing.
use Prim.Native.Nat.{ℕ, ◌≤◌, ◌<◌}
use native.Mathlib.Omega.{arith}
use mathlib.Core.Path.{◌≡◌, refl, sym, ◌∙◌}
use mathlib.Core.Logic.{◌≢◌}
use mathlib.Core.Bool.{Bool, true, false, ◌||◌, not, false≢true, and-eq-true_iff}
use mathlib.Core.List.{List, [], ◌∷◌, ◌++◌}
use lib.ListN.{length}
use lib.Dec.{leb, eqb}
use borrow.Author.Tests.{leb-true, eqb-true, ltb-true, eq-eqb, ne_eqb}
use Rattle.choice.specs.Choice.{pick}
use Rattle.choice.proofs.ByTest.{by_test}
use Rattle.fifo0.specs.declared.Fifo0.{Fifo0}
use Rattle.window.specs.declared.Kind.TheVariants.{Control}
use Rattle.window.specs.Window.{size0, fifo0}
use Rattle.ring.specs.declared.Taken.{Taken}
use Rattle.ring.specs.Ring.{level, full}
use Rattle.fifo0.specs.Control.{reset0, contents0, rcount, shut0, put0, put0_bytes, take0, fits0, fill0, fill0_bytes, spend0}
use Rattle.contents.proofs.Ring.{eight, Counters, level_adds, level_read, level_length, head_tail, contents_none, contents_spent, store_appends, store_all_appends}
use Rattle.contents.proofs.Windows.{Kept, unchanged_kept, store_kept, store_all_kept, window_fits}

-- what a take gives is the head of the list and the new last byte; what it leaves is the tail
pub record Takes0 (f : Fifo0) (m : List ℕ) (r : Taken Fifo0) : Type 0 where
  pub list : contents0 f m ≡ r.value ∷ contents0 r.next m
  pub taken : r.taken ≡ true
  pub last : r.next.last ≡ r.value

-- the mark of received bytes is set only while bytes are held
pub record Canonical0 (f : Fifo0) : Type 0 where
  pub stands : f.received ≡ true → level f.read f.write ≢ 0

pub second_false : (a b : Bool) → (a || b) ≡ false → b ≡ false
second_false true b e = cc
second_false false b e = e

module _ (f : Fifo0) where
  rcount_level : rcount f ≤ level f.read f.write
  unfolding rcount
  rcount_level = by_test (λ (k : ℕ). k ≤ level f.read f.write) _ (λ _. omega arith) (λ _. omega arith)

  fits0_room : (s : List ℕ) → fits0 f (length s) ≡ true → (level f.read f.write ≡ 0) × (length s ≤ 8)
  fits0_room s room =
      let e : _ = (and-eq-true_iff (eqb (level f.read f.write) 0) (leb (length s) 8)).0 room in
      (eqb-true _ 0 e.0, leb-true _ 8 e.1)

module _ (f : Fifo0) (m : List ℕ) where
  -- The level is the number of bytes held.
  pub contents0_length : length (contents0 f m) ≡ level f.read f.write
  contents0_length = level_length 0 size0 m f.read f.write

  -- A put appends its byte where it is not shut.
  pub put0_appends : (b : ℕ) → Counters f.read f.write → length m ≡ 392 → shut0 f ≡ false
      → contents0 (put0 f) (put0_bytes f b m) ≡ contents0 f m ++ (b ∷ [])
  unfolding put0 pick
  put0_appends b c l room =
      rw room (store_appends eight 0 m f.read f.write b (window_fits Control fifo0 m l) c
      (second_false (not (eqb (rcount f) 0)) (full size0 f.read f.write) room))

  -- A put changes nothing where it is shut.
  pub put0_ignored : (b : ℕ) → shut0 f ≡ true → (put0 f ≡ f) × (put0_bytes f b m ≡ m)
  unfolding put0 pick
  put0_ignored b shut = rw shut (refl, refl)

  -- A take with no received byte repeats the last one, takes none and changes nothing.
  pub take0_none : rcount f ≡ 0 → take0 f m ≡ record { next = f; value = f.last; taken = false }
  unfolding take0 pick
  take0_none none = rw (eq-eqb _ 0 none)

  -- A take with received bytes gives the first and leaves the others.
  pub take0_some : Counters f.read f.write → rcount f ≢ 0 → Takes0 f m (take0 f m)
  unfolding take0 pick
  take0_some c some =
      let held : level f.read f.write ≢ 0 = omega (arith, rcount_level f) in
      rw (ne_eqb _ 0 some) (record { list = head_tail 0 size0 m f.read f.write c held; taken = refl; last = refl })

  -- A packet that fits is all that is held then.
  pub fill0_holds : (s : List ℕ) → Counters f.read f.write → length m ≡ 392 → fits0 f (length s) ≡ true
      → contents0 (fill0 f s) (fill0_bytes f s m) ≡ s
  unfolding fill0 pick
  fill0_holds s c l room =
      let e : _ = fits0_room f s room in
      rw (
        room,
        store_all_appends eight 0 s m f.read f.write (window_fits Control fifo0 m l) c (omega arith),
        contents_none 0 size0 m f.read f.write e.0,
      )

  -- A packet that does not fit changes nothing.
  pub fill0_ignored : (s : List ℕ) → fits0 f (length s) ≡ false → (fill0 f s ≡ f) × (fill0_bytes f s m ≡ m)
  unfolding fill0 pick
  fill0_ignored s over = rw over (refl, refl)

  -- Read moved to write leaves nothing.
  pub spend0_empties : Counters f.read f.write → contents0 (spend0 f) m ≡ []
  spend0_empties c = contents_spent 0 size0 m f.write c.write_small

  -- A flush leaves nothing.
  pub reset0_empties : contents0 reset0 m ≡ []
  reset0_empties = contents_spent 0 size0 m 0 (omega arith)

  -- A put keeps the length of the memory, and every window apart from FIFO0's.
  pub put0_kept : (b : ℕ) → Kept 0 size0 m (put0_bytes f b m)
  put0_kept b = by_test (Kept 0 size0 m) _ (λ _. unchanged_kept 0 size0 m) (λ _. store_kept eight 0 f.write b m)

  -- So does a packet.
  pub fill0_kept : (s : List ℕ) → Kept 0 size0 m (fill0_bytes f s m)
  fill0_kept s = by_test (Kept 0 size0 m) _ (λ _. store_all_kept eight 0 f.write s m) (λ _. unchanged_kept 0 size0 m)

-- a FIFO without the mark is in order
unmarked : (f : Fifo0) → f.received ≡ false → Canonical0 f
unmarked f e = record { stands = λ t. absurd {0} (false≢true (sym e ∙ t)) }

-- A put keeps the mark in order.
pub put0_canonical : (f : Fifo0) → Canonical0 f → Canonical0 (put0 f)
unfolding put0
put0_canonical f h = by_test Canonical0 _ (λ _. h) (λ _. unmarked _ refl)

-- So does a take: with the last byte gone the mark is gone.
pub take0_canonical : (f : Fifo0) (m : List ℕ) → Counters f.read f.write → Canonical0 f → Canonical0 (take0 f m).next
unfolding take0
take0_canonical f m c h =
    by_test (λ (r : Taken Fifo0). Canonical0 r.next) _ (λ _. h) (λ _. record {
      stands = λ e.
          let more : 1 < level f.read f.write = omega (arith, ltb-true 1 (rcount f) e, rcount_level f) in
          omega (arith, level_read f.read f.write c (omega arith));
    })

-- So does a packet: an empty one sets no mark.
pub fill0_canonical : (f : Fifo0) (s : List ℕ) → Counters f.read f.write → Canonical0 f → Canonical0 (fill0 f s)
unfolding fill0
fill0_canonical f s c h =
    by_test Canonical0 _ (λ room. record {
      stands = λ e.
          let fit : _ = fits0_room f s room in
          omega (arith, ltb-true 0 (length s) e, level_adds f.read f.write c (length s) (omega arith));
    }) (λ _. h)

-- Read moved to write takes the mark away.
pub spend0_canonical : (f : Fifo0) → Canonical0 (spend0 f)
spend0_canonical f = unmarked (spend0 f) refl

-- So does a flush.
pub reset0_canonical : Canonical0 reset0
reset0_canonical = unmarked reset0 refl
