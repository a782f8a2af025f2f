-- What command stands at a place of the input of `drive`.
use Rattle.std.specs.Prelude.{ℕ, ◌+◌, ◌-◌, ◌*◌, List, length, get_or, leb, ltb, eqb, Option, Some, None, Result, Ok, Err}
use Rattle.choice.specs.Choice.{pick}
use Rattle.event.specs.Event.{bus_endpoint}
use Rattle.trace.specs.declared.Span.{Span}
use Rattle.commands.specs.declared.Command.{Command}
use Rattle.commands.specs.declared.Command.TheVariants.{Start, Offer, Send, Receive, Event}
use Rattle.commands.specs.declared.Unreadable.{Unreadable}

-- a command without bytes of its own that ends at a place
abbrev pub bare : Command → ℕ → Command × Span
bare command next = (command, record { payload = next; next = next })

abbrev pub unreadable : Result (Command × Span) Unreadable
unreadable = Err (record {})

-- a start's three bytes: the address, the endpoint to send, the endpoint to receive
unfoldable pub start_at : List ℕ → ℕ → Result (Command × Span) Unreadable
start_at s at =
    pick (leb 3 (length s - at))
    (Ok (bare (Start (get_or s at 0) (bus_endpoint (get_or s (at + 1) 0)) (bus_endpoint (get_or s (at + 2) 0))) (at + 3)))
    unreadable

-- the number in two bytes, low byte first
abbrev pub count_at : List ℕ → ℕ → ℕ
count_at s at = get_or s at 0 + 256 * get_or s (at + 1) 0

-- a command with bytes: their number, and then they
unfoldable pub carrying_at : List ℕ → ℕ → Command → Result (Command × Span) Unreadable
carrying_at s at command =
    pick (leb 2 (length s - at))
    (pick (leb (count_at s at) (length s - (at + 2)))
    (Ok (command, record { payload = at + 2; next = at + 2 + count_at s at }))
    unreadable)
    unreadable

-- by a command's first byte, the place after it given
unfoldable pub command_at : List ℕ → ℕ → ℕ → Result (Command × Span) Unreadable
command_at s next first =
    pick (eqb first 1) (start_at s next)
    (pick (eqb first 2) (carrying_at s next Offer)
    (pick (eqb first 3) (Ok (bare Send next))
    (pick (eqb first 4) (Ok (bare Receive next))
    (pick (eqb first 5) (carrying_at s next Event)
    unreadable))))

abbrev pub found : Result (Command × Span) Unreadable → Result (Option (Command × Span)) Unreadable
found (Ok command) = Ok (Some command)
found (Err e) = Err e

-- the end is at or past the last byte
unfoldable pub read_at : List ℕ → ℕ → Result (Option (Command × Span)) Unreadable
read_at s at = pick (ltb at (length s)) (found (command_at s (at + 1) (get_or s at 0))) (Ok None)
