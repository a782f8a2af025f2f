-- `read` meets its contract, from that of `record_of`.
-- Assumes nothing.
use Rattle.std.proofs.Common.{◌≡◌, ℕ, Result, Ok, Err, arith}
use borrow.Author.Tests.{lt-ltb, le-ltb}
use Rattle.choice.specs.Choice.{pick}
use Rattle.refusal.specs.declared.Refusal.{Refusal}
use Rattle.event.specs.declared.Event.{Event}
use Rattle.trace.specs.declared.Span.{Span}
use Rattle.trace.specs.Meaning.{Found, meaning, told}
use Rattle.trace.specs.Record.{Reading, read_at}
use Rattle.trace.proofs.read.Goals as goal

-- a refusal of the record is that of the reader, at the record's start
refuses :
    (r : Result (Event × Span) Refusal) (f : Found) (at : ℕ) {x : Reading}
    → (y : Refusal) × (r ≡ Err y) × (f ≡ Err (record { why = y; place = at })) → told at r ≡ x → meaning f ≡ x
refuses r f at (y, p, q) h = rw (q, ← h, p)

pub returns-then-s-at : goal.returns-then-s-at
unfolding read_at pick
returns-then-s-at c = rw (le-ltb _ _ c.if-s-at.true)

pub returns : goal.returns
unfolding read_at pick
returns c =
    let same : c.record_of.result ≡ Ok c.in_ok-record.record = grind arith in
    rw (lt-ltb _ _ c.if-s-at.false, ← c.record_of.ensures, same)

pub returns-in_err-record : goal.returns-in_err-record
unfolding read_at pick
returns-in_err-record c =
    rw (lt-ltb _ _ c.if-s-at.false) (refuses c.record_of.result c.from_residual.result c.args.at (grind arith) c.record_of.ensures)
