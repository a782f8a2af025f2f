-- How an event in range and its payload are written: the record that the reader takes for them.
use Rattle.std.specs.Prelude.{ℕ, List, [], ◌∷◌, ◌++◌, length}
use Rattle.event.specs.declared.Event.{Event}
use Rattle.event.specs.Event.{kind_of, values_of}
use Rattle.trace.specs.Number.{bytes_of}

-- numbers, one after another
unfoldable pub numbers : List ℕ → List ℕ
numbers [] = []
numbers (v ∷ vs) = bytes_of v ++ numbers vs

-- "a kind, then its fields"
abbrev pub header : Event → ℕ → List ℕ
header e n = numbers (kind_of e ∷ values_of e n)

-- and the payload after them
abbrev pub encode : Event → List ℕ → List ℕ
encode e payload = header e (length payload) ++ payload
