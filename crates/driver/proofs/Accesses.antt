-- What a read or a write of the code leaves is the state that the definitions name.
-- Assumes nothing.
use Prim.Native.Nat.{ℕ, ◌+◌, ◌<◌, ◌≤◌}
use mathlib.Core.Path.{◌≡◌, ap}
use mathlib.Core.List.{List}
use lib.ListN.{length, drop, get_or}
use lib.Seq.{drop-cons}
use Rattle.std.proofs.lemmas.List.{drop_all}
use native.Mathlib.Numerals.{add-one}
use Rattle.state.specs.declared.Chip.{Chip}
use Rattle.state.specs.State.{Model}
use Rattle.reads.specs.declared.ReadOut.{ReadOut}
use Rattle.reads.specs.Read.{read_of}
use Rattle.driver.specs.Registers.{whole, written, written_all, value, seen, Leaves}

-- a result and the lent memory are the whole state that they leave, and back
pub joined : {m : Model} {c : Chip} {bytes : List ℕ} → Leaves m c bytes → whole c bytes ≡ m
joined l = rw (l.chip, l.bytes)

pub parted : {m n : Model} → m ≡ n → Leaves n m.chip m.memory
parted e = record { chip = ap (λ (x : Model). x.chip) e; bytes = ap (λ (x : Model). x.memory) e }

-- one byte more written
pub wrote_one : (a : ℕ) (s : List ℕ) (i : ℕ) (m : Model) → i < length s
    → written_all a (drop i s) m ≡ written_all a (drop (i + 1) s) (written a (get_or s i 0) m)
unfolding written_all
wrote_one a s i m h = rw (drop-cons s i 0, add-one i)

-- no byte left to write
pub written_none : (a : ℕ) (s : List ℕ) (i : ℕ) (m : Model) → length s ≤ i → written_all a (drop i s) m ≡ m
unfolding written_all
written_none a s i m h = rw (drop_all i s h)

-- a read: what it shows, and what it leaves
module _ (a : ℕ) (m : Model) {r : ReadOut} (e : r ≡ read_of a m.chip m.memory) where
  pub read_value : r.value ≡ value a m
  unfolding value
  read_value = rw e

  pub read_left : whole r.chip m.memory ≡ seen a m
  unfolding seen
  read_left = rw e
