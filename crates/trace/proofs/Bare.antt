-- What a record is by its fields: one that has no payload ends where they end, and a refusal among them is the record's.
-- Assumes nothing.
use Prim.Native.Nat.{ℕ}
use mathlib.Core.Path.{◌≡◌, refl}
use mathlib.Core.List.{List, []}
use native.Mathlib.Nat.{add-zero}
use lib.Dec.{leb-zero}
use Rattle.choice.specs.Choice.{pick}
use Rattle.event.specs.Event.{event_of, count_of}
use Rattle.trace.specs.Record.{fields, rejected, event, refuse, fields_at, body_at}

pub whole_body : (trace : List ℕ) (at kind : ℕ) (vs : List ℕ) (next : ℕ) → count_of kind vs ≡ 0
    → event (event_of kind vs) next next ≡ body_at trace at kind (fields vs next)
unfolding body_at pick
whole_body trace at kind vs next h = simp (h, leb-zero, add-zero)

pub rejected_body : (trace : List ℕ) (at kind k : ℕ) → body_at trace at kind (rejected k) ≡ refuse k at
unfolding body_at
rejected_body trace at kind k = refl

-- and no fields end where they start
pub no_fields : (trace : List ℕ) (at : ℕ) → fields_at trace at [] ≡ fields [] at
unfolding fields_at
no_fields trace at = refl

pub ruleset bodies = (whole_body, rejected_body, no_fields)
