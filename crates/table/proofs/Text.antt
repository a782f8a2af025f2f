-- Texts as the table writes them: ASCII, and bytes by two hex digits each.
-- Assumes nothing.
use Prim.Native.Nat.{ℕ, ◌+◌, ◌*◌, ◌-◌}
use Prim.Native.Char.{code}
use Prim.Native.String.{String, [] as empty, ◌∷◌ as ◌then◌}
use mathlib.Core.List.{List, [], ◌∷◌}
use lib.Dec.{ltb}
use Rattle.choice.specs.Choice.{pick}

abbrev pub ascii : String → List ℕ
ascii empty = []
ascii (c then s) = code c ∷ ascii s

-- 0 to 9, A to F
unfoldable pub figure : ℕ → ℕ
figure c = pick (ltb c 58) (c - 48) (c - 55)

unfoldable pub pairs : List ℕ → List ℕ
pairs [] = []
pairs (a ∷ []) = []
pairs (a ∷ b ∷ s) = (16 * figure a + figure b) ∷ pairs s

-- white space between bytes is left out in the text
abbrev pub hex : String → List ℕ
hex s = pairs (ascii s)
