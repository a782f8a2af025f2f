-- What stands at a place of a trace: a record, the end, or a refusal.
-- 01: "A record is a kind, then its fields."; "Within a record, numbers are taken one by one: 1, 2, then that number's 3 or 4".
use Rattle.std.specs.Prelude.{ℕ, ◌+◌, ◌-◌, List, [], ◌∷◌, length, take, drop, ltb, leb}
use Rattle.choice.specs.Choice.{pick}
use Rattle.event.specs.declared.Event.{Event}
use Rattle.trace.specs.Number.{Taken, value, refused, number_at}
use Rattle.event.specs.Event.{is_kind, ranges, event_of, count_of}

-- the fields and the place after them, or the number of the refusal
pub data Fields : Type 0 where
  fields : List ℕ → ℕ → Fields
  rejected : ℕ → Fields

unfoldable pub before : ℕ → Fields → Fields
before v (fields vs next) = fields (v ∷ vs) next
before v (rejected k) = rejected k

-- "numbers are taken one by one: 1, 2, then that number's 3 or 4": a field's number, at most so high ("field out of range" is 4), and only then
-- the others; the first refusal ends it
unfoldable pub field : ℕ → Taken → (ℕ → Fields) → Fields
field most (value v next) others = pick (leb v most) (before v (others next)) (rejected 4)
field most (refused k) others = rejected k

unfoldable pub fields_at : List ℕ → ℕ → List ℕ → Fields
fields_at trace at [] = fields [] at
fields_at trace at (most ∷ more) = field most (number_at trace at) (λ next. fields_at trace next more)

-- an event with the places of its payload and of the next record; the end; a refusal's number and place
pub data Reading : Type 0 where
  event : Event → ℕ → ℕ → Reading
  end : Reading
  refuse : ℕ → ℕ → Reading

-- the part of a trace from one place to another
abbrev pub stretch : List ℕ → ℕ → ℕ → List ℕ
stretch trace from to = take (to - from) (drop from trace)

-- after the fields "that many raw bytes" (none but for data); "trace ends inside a record" is 1
unfoldable pub body_at : List ℕ → ℕ → ℕ → Fields → Reading
body_at trace at kind (fields vs next) =
    pick (leb (count_of kind vs) (length trace - next)) (event (event_of kind vs) next (next + count_of kind vs)) (refuse 1 at)
body_at trace at kind (rejected k) = refuse k at

-- "kind outside 1..8" is 3
unfoldable pub record_at : List ℕ → ℕ → Taken → Reading
record_at trace at (value kind next) = pick (is_kind kind) (body_at trace at kind (fields_at trace next (ranges kind))) (refuse 3 at)
record_at trace at (refused k) = refuse k at

-- "The end at a record's start, or a place past it, is no refusal"; every refusal gives the "place of the record's start"
unfoldable pub read_at : List ℕ → ℕ → Reading
read_at trace at = pick (ltb at (length trace)) (record_at trace at (number_at trace at)) end
