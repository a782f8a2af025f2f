-- What the host holds and what the chip awaits after each turn of the host.
-- Assumes nothing.
use native.Mathlib.Omega.{arith}
use mathlib.Core.Path.{◌≡◌, refl, sym, ◌∙◌}
use mathlib.Core.Bool.{Bool, true, false, false≢true}
use mathlib.Core.Logic.{inl, inr}
use Rattle.choice.proofs.ByTest.{by_test}
use Rattle.state.specs.declared.Wait.{Wait}
use Rattle.state.specs.declared.Wait.TheVariants.{Nothing, Handshake, Data, Setup}
use Rattle.state.specs.declared.Chip.{Chip}
use Rattle.window.specs.Window.{numbered}
use Rattle.answer.specs.declared.Answer.{Answer}
use Rattle.answer.specs.declared.Answer.TheVariants as answer
use Rattle.laws.specs.Place.{endpoint, Place, sends, receives, awaited}
use Rattle.laws.specs.Driver.{Piped, endpoint1, endpoint2}
use Rattle.delivery.specs.Host.{Open, over, acks, fails, datas, others, Host, is_over, is_acks, is_datas}
use Rattle.delivery.specs.World.{goes, sees, host_in, host_out, after_token}
use Rattle.delivery.specs.Standing.{Awaits, Holding}
use Rattle.delivery.proofs.Standing.Waits.{Sent-waits}
use Rattle.delivery.proofs.Standing.Events.{no_bytes}

-- ---- the host

pub goes_holding : (o : Open) (h : Host) → is_datas o ≡ false → Holding h → Holding (goes o h)
unfolding goes
goes_holding o h n g =
    record { bytes = g.bytes; fits = g.fits; some = g.some; sending = λ e. absurd {0} (false≢true (sym n ∙ e)) }

sees_holding : (pid : Bool) (h : Host) → Holding h → Holding (sees pid h)
unfolding sees is_datas
sees_holding pid h g = record { bytes = g.bytes; fits = g.fits; some = g.some; sending = λ e. absurd {0} (false≢true e) }

pub in_holding : (seen : Bool) (x : Answer) (h : Host) → Holding h → Holding (host_in seen x h)
unfolding host_in is_datas
in_holding false x h g = goes_holding fails h refl g
in_holding true answer.Silence h g = goes_holding fails h refl g
in_holding true (answer.Value v) h g = goes_holding fails h refl g
in_holding true (answer.Data0 p) h g = sees_holding false h g
in_holding true (answer.Data1 p) h g = sees_holding true h g
in_holding true answer.Broken h g = goes_holding fails h refl g
in_holding true answer.Ack h g = goes_holding fails h refl g
in_holding true answer.Nak h g = goes_holding over h refl g
in_holding true answer.Stall h g = goes_holding over h refl g

pub out_holding : (acked : Bool) (h : Host) → Holding h → Holding (host_out acked h)
unfolding host_out is_datas
out_holding acked h g =
    by_test Holding acked
    (λ _. record {
      bytes = no_bytes;
      fits = omega arith;
      some = λ e. absurd {0} (false≢true e);
      sending = λ e. absurd {0} (false≢true e);
    })
    (λ _. goes_holding over h refl g)

pub token_not_datas : (v : Wait) → is_datas (after_token v) ≡ false
unfolding after_token is_datas
token_not_datas Nothing = refl
token_not_datas (Handshake e) = refl
token_not_datas (Data e) = refl
token_not_datas Setup = refl

-- ---- what is awaited

-- where the host is over, nothing is; so after its IN token was lost
pub over_none : (o : Open) (c : Chip) → is_over o ≡ true → Awaits o c → c.pending.wait ≡ Nothing
unfolding is_over Awaits
over_none over c t h = h
over_none acks c t h = absurd {0} (false≢true t)
over_none fails c t h = absurd {0} (false≢true t)
over_none datas c t h = absurd {0} (false≢true t)
over_none others c t h = absurd {0} (false≢true t)

-- after a timeout nothing is, wherever the host is
pub none_awaits : (o : Open) (c : Chip) → c.pending.wait ≡ Nothing → Awaits o c
unfolding Awaits awaited
none_awaits over c h = h
none_awaits acks c h = inl h
none_awaits fails c h = inl h
none_awaits datas c h = inl h
none_awaits others c h = (rw h refl, rw h refl)

pub acks_fail : (o : Open) (c : Chip) → is_acks o ≡ true → Awaits o c → Awaits fails c
unfolding is_acks Awaits
acks_fail over c t h = absurd {0} (false≢true t)
acks_fail acks c t (inl h) = inl h
acks_fail acks c t (inr h) = inr (inl h)
acks_fail fails c t h = absurd {0} (false≢true t)
acks_fail datas c t h = absurd {0} (false≢true t)
acks_fail others c t h = absurd {0} (false≢true t)

pub datas_fail : (o : Open) (c : Chip) → is_datas o ≡ true → Awaits o c → Awaits fails c
unfolding is_datas Awaits
datas_fail over c t h = absurd {0} (false≢true t)
datas_fail acks c t h = absurd {0} (false≢true t)
datas_fail fails c t h = absurd {0} (false≢true t)
datas_fail datas c t (inl h) = inl h
datas_fail datas c t (inr h) = inr (inr h)
datas_fail others c t h = absurd {0} (false≢true t)

-- after its IN token: by the answer, seen or not
unseen : (x : Answer) (c : Chip) → Sent-waits (endpoint 1) x c.pending.wait → Awaits fails c
unfolding Sent-waits Awaits
unseen answer.Silence c h = inl h
unseen (answer.Value v) c h = inl h
unseen (answer.Data0 p) c h = inr (inl h)
unseen (answer.Data1 p) c h = inr (inl h)
unseen answer.Broken c h = inl h
unseen answer.Ack c h = inl h
unseen answer.Nak c h = inl h
unseen answer.Stall c h = inl h

pub in_awaits : (seen : Bool) (x : Answer) (h : Host) (c : Chip) → Sent-waits (endpoint 1) x c.pending.wait → Awaits (host_in seen x h).at c
unfolding host_in goes sees
in_awaits false x h c k = unseen x c k
in_awaits true answer.Silence h c k = unseen answer.Silence c k
in_awaits true (answer.Value v) h c k = unseen (answer.Value v) c k
in_awaits true (answer.Data0 p) h c k = unfold Sent-waits Awaits in (inr k)
in_awaits true (answer.Data1 p) h c k = unfold Sent-waits Awaits in (inr k)
in_awaits true answer.Broken h c k = unseen answer.Broken c k
in_awaits true answer.Ack h c k = unseen answer.Ack c k
in_awaits true answer.Nak h c k = unfold Sent-waits Awaits in k
in_awaits true answer.Stall h c k = unfold Sent-waits Awaits in k

-- after a token of another transaction
pub token_awaits : (c : Chip) → ((q : Place) → Piped q → awaited q c ≡ false) → Awaits (after_token c.pending.wait) c
token_awaits c free = go c.pending.wait refl
  where
    both : Awaits others c
    both = unfold Awaits in (free (sends (numbered 1)) endpoint1, free (receives (numbered 1)) endpoint2)

    go : (v : Wait) → c.pending.wait ≡ v → Awaits (after_token v) c
    go Nothing e = unfold after_token Awaits in e
    go (Handshake x) e = unfold after_token in both
    go (Data x) e = unfold after_token in both
    go Setup e = unfold after_token in both
