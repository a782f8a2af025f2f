-- Document 01's number and values for each case of the reader's answers.
use Rattle.std.specs.Prelude.{ℕ, List, [], ◌∷◌, Option, Some, None, Result, Ok, Err}
use Rattle.refusal.specs.declared.Refusal.{Refusal}
use Rattle.refusal.specs.Refusal.{number_of}
use Rattle.event.specs.declared.Event.{Event}
use Rattle.event.specs.declared.Token.{Token}
use Rattle.trace.specs.declared.Span.{Span}
use Rattle.trace.specs.declared.Refused.{Refused}
use Rattle.trace.specs.Number.{Taken, value, refused}
use Rattle.trace.specs.Record.{Fields, fields, rejected, Reading, event, end, refuse}

-- the answers of the reader
abbrev pub Found : Type 0
Found = Result (Option (Event × Span)) Refused

abbrev pub meaning : Found → Reading
meaning (Ok (Some (e, span))) = event e span.payload span.next
meaning (Ok None) = end
meaning (Err r) = refuse (number_of r.why) r.place

-- and of its parts, of a record that starts at a place
abbrev pub told : ℕ → Result (Event × Span) Refusal → Reading
told at (Ok (e, span)) = event e span.payload span.next
told at (Err r) = refuse (number_of r) at

abbrev pub taken_of : Result (ℕ × ℕ) Refusal → Taken
taken_of (Ok (v, next)) = value v next
taken_of (Err r) = refused (number_of r)

abbrev pub fields_of : Result (List ℕ × ℕ) Refusal → Fields
fields_of (Ok (vs, next)) = fields vs next
fields_of (Err r) = rejected (number_of r)

abbrev pub token_of : Result (Token × ℕ) Refusal → Fields
token_of (Ok (t, next)) = fields (t.address ∷ t.endpoint.0 ∷ []) next
token_of (Err r) = rejected (number_of r)
