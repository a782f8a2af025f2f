-- Answers whose contract names them by 01's numbers: no two answers of the reader have one meaning, no two stops of a run one reason.
-- Assumes nothing.
use mathlib.Core.Path.{◌≡◌, refl, sym, ap, ◌∙◌}
use Rattle.std.specs.Prelude.{Option, Some, None, Result, Ok, Err}
use Rattle.trace.specs.Record.{Reading, event, end, refuse}
use Rattle.trace.specs.Meaning.{Found, meaning}
use Rattle.trace.specs.declared.Refused.{Refused}
use Rattle.running.specs.declared.Stop.{Stop}
use Rattle.running.specs.declared.Stop.TheVariants as stop
use Rattle.running.specs.Run.{Reason, ended, refused, full, reason_of}
use Rattle.once.proofs.Refusals.{refusal_of, refusal_of_number}

-- the answer of a meaning
answer_of : Reading → Found
answer_of (event e p n) = Ok (Some (e, record { payload = p; next = n }))
answer_of end = Ok None
answer_of (refuse k at) = Err (record { why = refusal_of k; place = at })

answer_of_meaning : (f : Found) → answer_of (meaning f) ≡ f
unfolding answer_of
answer_of_meaning (Ok (Some (e, span))) = refl
answer_of_meaning (Ok None) = refl
answer_of_meaning (Err r) = ap (λ x. Err (record { why = x; place = r.place })) (refusal_of_number r.why)

-- Two answers with one meaning are one answer.
pub meaning_injective : (f g : Found) → meaning f ≡ meaning g → f ≡ g
meaning_injective f g e = sym (answer_of_meaning f) ∙ ap answer_of e ∙ answer_of_meaning g

-- the stop of a reason
stop_of : Reason → Result Stop Refused
stop_of ended = Ok stop.End
stop_of (refused k at) = Err (record { why = refusal_of k; place = at })
stop_of full = Ok stop.Full

stop_of_reason : (x : Result Stop Refused) → stop_of (reason_of x) ≡ x
unfolding stop_of
stop_of_reason (Ok stop.End) = refl
stop_of_reason (Err r) = ap (λ x. Err (record { why = x; place = r.place })) (refusal_of_number r.why)
stop_of_reason (Ok stop.Full) = refl

-- Two stops with one reason are one stop.
pub reason_injective : (x y : Result Stop Refused) → reason_of x ≡ reason_of y → x ≡ y
reason_injective x y e = sym (stop_of_reason x) ∙ ap stop_of e ∙ stop_of_reason y
