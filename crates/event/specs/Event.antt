-- Document 01's table of kinds, events, fields and ranges, and which events are in range.
use Rattle.std.specs.Prelude.{ℕ, Bool, true, false, ◌&&◌, List, [], ◌∷◌, get_or, leb, eqb}
use Rattle.choice.specs.Choice.{pick}
use Rattle.event.specs.declared.BusEndpoint.{BusEndpoint}
use Rattle.event.specs.declared.Event.{Event}
use Rattle.event.specs.declared.Event.TheVariants.{Read, Write, In, Out, Setup, Data, Ack, Timeout}

-- "kind outside 1..8"
abbrev pub highest_kind : ℕ
highest_kind = 8

abbrev pub is_kind : ℕ → Bool
is_kind kind = leb 1 kind && leb kind highest_kind

-- the highest value of each field, kinds 0 to 8 (no record is of kind 0):
-- "1 read register 0..63"; "2 write register 0..63, value 0..255"; "3, 4, 5 IN, OUT, SETUP token address 0..127, endpoint 0..15";
-- "6 data PID 0..1, sound 0..1, count 0..64"; "7 host ACK none"; "8 timeout none"
unfoldable pub ranges : ℕ → List ℕ
ranges kind =
    get_or
    (
    [] ∷
    (63 ∷ []) ∷
    (63 ∷ 255 ∷ []) ∷
    (127 ∷ 15 ∷ []) ∷
    (127 ∷ 15 ∷ []) ∷
    (127 ∷ 15 ∷ []) ∷
    (1 ∷ 1 ∷ 64 ∷ []) ∷
    [] ∷
    [] ∷
    []
    )
    kind []

abbrev pub bus_endpoint : ℕ → BusEndpoint
bus_endpoint n = record { 0 = n }

-- the event of a kind and its fields; asked only for kinds 1 to 8 with all their fields
unfoldable pub event_of : ℕ → List ℕ → Event
event_of kind fields =
    let a : ℕ = get_or fields 0 0 in
    let b : ℕ = get_or fields 1 0 in
    pick (eqb kind 1) (Read a)
    (pick (eqb kind 2) (Write a b)
    (pick (eqb kind 3) (In a (bus_endpoint b))
    (pick (eqb kind 4) (Out a (bus_endpoint b))
    (pick (eqb kind 5) (Setup a (bus_endpoint b))
    (pick (eqb kind 6) (Data a b)
    (pick (eqb kind 7) Ack
    Timeout))))))

-- "count 0..64, then that many raw bytes": the bytes that follow a record's fields
unfoldable pub count_of : ℕ → List ℕ → ℕ
count_of kind fields = pick (eqb kind 6) (get_or fields 2 0) 0

-- and back: the kind of an event, and its fields where so many bytes stand beside it
unfoldable pub kind_of : Event → ℕ
kind_of (Read r) = 1
kind_of (Write r v) = 2
kind_of (In a e) = 3
kind_of (Out a e) = 4
kind_of (Setup a e) = 5
kind_of (Data p s) = 6
kind_of Ack = 7
kind_of Timeout = 8

unfoldable pub values_of : Event → ℕ → List ℕ
values_of (Read r) n = r ∷ []
values_of (Write r v) n = r ∷ v ∷ []
values_of (In a e) n = a ∷ e.0 ∷ []
values_of (Out a e) n = a ∷ e.0 ∷ []
values_of (Setup a e) n = a ∷ e.0 ∷ []
values_of (Data p s) n = p ∷ s ∷ n ∷ []
values_of Ack n = []
values_of Timeout n = []

-- each value within its range, one for one
unfoldable pub within : List ℕ → List ℕ → Bool
within [] [] = true
within [] (m ∷ ms) = false
within (v ∷ vs) [] = false
within (v ∷ vs) (m ∷ ms) = leb v m && within vs ms

-- whether an event meets no refusal 4 ("An event given without a trace meets 4 too"): its fields are in range and, as we read 01, the bytes
-- beside it are as many as it says, 0 to 64 for data and none for the others
unfoldable pub in_range : Event → ℕ → Bool
in_range e n = within (values_of e n) (ranges (kind_of e)) && eqb n (count_of (kind_of e) (values_of e n))
