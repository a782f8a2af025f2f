-- Register accesses on the whole state, as the driver makes them one after another.
use Rattle.std.specs.Prelude.{ℕ, ◌≡◌, List, [], ◌∷◌}
use Rattle.state.specs.declared.Chip.{Chip}
use Rattle.state.specs.State.{Model}
use Rattle.reads.specs.Read.{read_of}
use Rattle.writes.specs.Write.{write_of, bytes_of}

-- the whole state: the chip's and the lent memory's
abbrev pub whole : Chip → List ℕ → Model
whole c m = record { chip = c; memory = m }

-- a value written to a register
unfoldable pub written : ℕ → ℕ → Model → Model
written a v m = whole (write_of a v m.chip) (bytes_of a v m.chip m.memory)

-- bytes written to a register, one after another
unfoldable pub written_all : ℕ → List ℕ → Model → Model
written_all a [] m = m
written_all a (b ∷ bytes) m = written_all a bytes (written a b m)

-- what a read of a register shows, and what it leaves
unfoldable pub value : ℕ → Model → ℕ
value a m = (read_of a m.chip m.memory).value

unfoldable pub seen : ℕ → Model → Model
seen a m = whole (read_of a m.chip m.memory).chip m.memory

-- a result and the lent memory, which are a whole state
pub record Leaves (m : Model) (c : Chip) (memory : List ℕ) : Type 0 where
  pub chip : c ≡ m.chip
  pub bytes : memory ≡ m.memory
