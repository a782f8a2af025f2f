-- Fields read one by one are those read so far, in front of the fields that are still to be read.
-- Assumes nothing.
use Prim.Native.Nat.{ℕ, ◌+◌, ◌<◌, ◌≤◌}
use mathlib.Core.Path.{◌≡◌, refl, ap}
use mathlib.Core.List.{List, [], ◌∷◌, ◌++◌}
use native.Mathlib.Numerals.{add-one}
use lib.ListN.{length, get_or, set, take, drop, length-set, drop_of_length-le}
use lib.Seq.{drop-cons, take_all}
use Rattle.std.proofs.lemmas.Grind.{take-set_at}
use Rattle.trace.specs.Number.{number_at}
use Rattle.trace.specs.Record.{Fields, fields, rejected, before, field, fields_at}

-- values in front of fields that were read or not
unfoldable pub prepend : List ℕ → Fields → Fields
prepend [] f = f
prepend (v ∷ vs) f = before v (prepend vs f)

-- one more of them
pub prepend_one : (vs : List ℕ) (v : ℕ) (f : Fields) → prepend (vs ++ v ∷ []) f ≡ prepend vs (before v f)
unfolding prepend
prepend_one [] v f = refl
prepend_one (w ∷ vs) v f = ap (before w) (prepend_one vs v f)

-- a refusal ends it, whatever was read
pub prepend_rejected : (vs : List ℕ) (k : ℕ) → prepend vs (rejected k) ≡ rejected k
unfolding prepend before
prepend_rejected [] k = refl
prepend_rejected (v ∷ vs) k = rw (prepend_rejected vs k)

-- and at the end there are those that were read
pub prepend_fields : (vs : List ℕ) (next : ℕ) → prepend vs (fields [] next) ≡ fields vs next
unfolding prepend before
prepend_fields [] next = refl
prepend_fields (v ∷ vs) next = rw (prepend_fields vs next)

-- a value put behind those read so far is one more of them
pub prepend_set : (vs : List ℕ) (i v : ℕ) (f : Fields) → i < length vs → prepend (take (i + 1) (set vs i v)) f ≡ prepend (take i vs) (before v f)
prepend_set vs i v f h = rw (take-set_at vs i (i + 1) v refl h, prepend_one)

-- and where each place has one, all were read
pub prepend_all : (vs : List ℕ) (i next : ℕ) → length vs ≤ i → prepend (take i vs) (fields [] next) ≡ fields vs next
prepend_all vs i next h = rw (take_all i vs h, prepend_fields)

-- from a place on with the limits from the i-th on: one field and the others, or no field
pub next_field : (s most : List ℕ) (place i : ℕ) → i < length most
    → fields_at s place (drop i most) ≡ field (get_or most i 0) (number_at s place) (λ n. fields_at s n (drop (i + 1) most))
unfolding fields_at
next_field s most place i h = rw (drop-cons most i 0 h, add-one)

pub no_field : (s most : List ℕ) (place i : ℕ) → length most ≤ i → fields_at s place (drop i most) ≡ fields [] place
unfolding fields_at
no_field s most place i h = rw (drop_of_length-le most h)

-- the laws by which the loop over the fields goes on and ends
pub ruleset one_by_one = (next_field, no_field, prepend_set, prepend_all, prepend_rejected, length-set)
