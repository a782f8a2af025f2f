-- How numbers stand in a trace.
-- 01: "Numbers come in groups of seven bits, low group first, top bit set on every byte but the last; one or two bytes,
-- shortest form only (a second byte of 0 is refused)."
use Rattle.std.specs.Prelude.{ℕ, ◌+◌, ◌-◌, ◌*◌, ◌/◌, ◌%◌, List, [], ◌∷◌, drop, ltb, leb, eqb}
use Rattle.choice.specs.Choice.{pick}

-- a number and the place after it, or the number of the refusal
pub data Taken : Type 0 where
  value : ℕ → ℕ → Taken
  refused : ℕ → Taken

-- the number that bytes begin with, the first of them at a place: "1, 2"; "a second byte with its top bit set is 2 at once, also where
-- the trace ends after it"
unfoldable pub number_from : ℕ → List ℕ → Taken
number_from at [] = refused 1
number_from at (b ∷ []) = pick (ltb b 128) (value b (at + 1)) (refused 1)
number_from at (b ∷ c ∷ rest) =
    pick (ltb b 128) (value b (at + 1))
    (pick (eqb c 0) (refused 2)
    (pick (leb 128 c) (refused 2)
    (value (b - 128 + 128 * c) (at + 2))))

abbrev pub number_at : List ℕ → ℕ → Taken
number_at trace at = number_from at (drop at trace)

-- how a number below 16384 is written
unfoldable pub bytes_of : ℕ → List ℕ
bytes_of v = pick (ltb v 128) (v ∷ []) ((128 + v % 128) ∷ (v / 128) ∷ [])
