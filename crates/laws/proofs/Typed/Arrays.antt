-- An array stays one where an element is set; so does the lent memory where bytes are stored.
-- Assumes nothing.
use Prim.Native.Nat.{ℕ, zero, suc}
use mathlib.Core.Path.{◌∙◌}
use mathlib.Core.List.{List, [], ◌∷◌}
use lib.ListN.{set, length-set, replicate, length-replicate}
use Rattle.ring.specs.Ring.{next, place, store, store_all}
use Rattle.laws.specs.Typed.{Byte, Bytes, Each, Array, TypedMemory}

-- An element set, whatever is said of each.
pub each_set : {A : Type 0} (P : A → Type 0) (past : A) (l : List A) (k : ℕ) (x : A) → Each P past l → P x → Each P past (set l k x)
each_set P past [] k x h hx i = h i
each_set P past (y ∷ l) zero x h hx zero = hx
each_set P past (y ∷ l) zero x h hx (suc i) = h (suc i)
each_set P past (y ∷ l) (suc k) x h hx zero = h zero
each_set P past (y ∷ l) (suc k) x h hx (suc i) = each_set P past l k x (λ j. h (suc j)) hx i

pub array_set : {A : Type 0} {size : ℕ} (P : A → Type 0) (past : A) (l : List A) (k : ℕ) (x : A)
    → Array size P past l → P x → Array size P past (set l k x)
array_set P past l k x h hx = record { sized = length-set l k x ∙ h.sized; each = each_set P past l k x h.each hx }

each_replicate : {A : Type 0} (P : A → Type 0) (x : A) → P x → (size : ℕ) → Each P x (replicate size x)
each_replicate P x h zero i = h
each_replicate P x h (suc size) zero = h
each_replicate P x h (suc size) (suc i) = each_replicate P x h size i

-- One value repeated.
pub array_replicate : {A : Type 0} (P : A → Type 0) (x : A) → P x → (size : ℕ) → Array size P x (replicate size x)
array_replicate P x h size = record { sized = length-replicate size x; each = each_replicate P x h size }

-- A byte stored, a stretch of bytes stored.
pub store_typed : (start size counter b : ℕ) (m : List ℕ) → Byte b → TypedMemory m → TypedMemory (store start size counter b m)
store_typed start size counter b m hb h = array_set Byte 0 m (place start size counter) b h hb

pub store_all_typed : (start size counter : ℕ) (s m : List ℕ) → Bytes s → TypedMemory m → TypedMemory (store_all start size counter s m)
unfolding store_all
store_all_typed start size counter [] m hs h = h
store_all_typed start size counter (b ∷ s) m hs h =
    store_all_typed start size (next counter) s _ (λ i. hs (suc i)) (store_typed start size counter b m (hs zero) h)
