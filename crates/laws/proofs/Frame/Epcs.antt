-- What leaves the EPCs: an endpoint in the place of another with the same EPC, a TXC or RXC byte, the answer to an IN, data.
-- Assumes nothing.
use Prim.Native.Nat.{ℕ, zero, suc}
use mathlib.Core.Path.{◌≡◌, refl, ◌∙◌}
use mathlib.Core.Bool.{Bool}
use mathlib.Core.List.{List, [], ◌∷◌}
use lib.ListN.{get_or, set}
use Rattle.choice.proofs.ByTest.{by_test}
use Rattle.window.specs.declared.FifoNumber.{FifoNumber}
use Rattle.window.specs.Window.{index_of}
use Rattle.epc.specs.declared.Epc.{Epc}
use Rattle.sender.specs.declared.Sender.{Sender}
use Rattle.sender.specs.Sender.{reset_sender, moved, marked, command, sent}
use Rattle.receiver.specs.declared.Receiver.{Receiver}
use Rattle.receiver.specs.Receiver.{reset_receiver, flushed, received}
use Rattle.state.specs.declared.Chip.{Chip}
use Rattle.state.specs.State.{sender_at, receiver_at}
use Rattle.state.specs.Set.{with_sender, with_receiver}
use Rattle.laws.specs.Settings.{Epcs}

pub epcs_then : (a b c : Chip) → Epcs a b → Epcs b c → Epcs a c
epcs_then a b c x y = record { senders = λ n. y.senders n ∙ x.senders n; receivers = λ n. y.receivers n ∙ x.receivers n }

-- nothing but endpoint 0, masks, events, what is awaited
pub alike : (c c' : Chip) → c'.senders ≡ c.senders → c'.receivers ≡ c.receivers → Epcs c c'
alike c c' e f = record { senders = λ n. rw e; receivers = λ n. rw f }

-- one endpoint in the place of another with the same EPC
epc_set : {A : Type 0} (epc : A → Epc) (past : A) (l : List A) (i j : ℕ) (x : A) → epc x ≡ epc (get_or l i past)
    → epc (get_or (set l i x) j past) ≡ epc (get_or l j past)
epc_set epc past [] i j x h = refl
epc_set epc past (y ∷ l) zero zero x h = h
epc_set epc past (y ∷ l) zero (suc j) x h = refl
epc_set epc past (y ∷ l) (suc i) zero x h = refl
epc_set epc past (y ∷ l) (suc i) (suc j) x h = epc_set epc past l i j x h

pub sender_epcs : (c : Chip) (k : FifoNumber) (x : Sender) → x.epc ≡ (sender_at k c).epc → Epcs c (with_sender k x c)
sender_epcs c k x h =
    record {
      senders = λ n. epc_set (λ (s : Sender). s.epc) reset_sender c.senders (index_of k) (index_of n) x h;
      receivers = λ n. refl;
    }

pub receiver_epcs : (c : Chip) (k : FifoNumber) (x : Receiver) → x.epc ≡ (receiver_at k c).epc → Epcs c (with_receiver k x c)
receiver_epcs c k x h =
    record {
      senders = λ n. refl;
      receivers = λ n. epc_set (λ (r : Receiver). r.epc) reset_receiver c.receivers (index_of k) (index_of n) x h;
    }

-- ---- one endpoint

module _ (s : Sender) where
  abbrev Sends : Sender → Type 0
  Sends x = x.epc ≡ s.epc

  moved_epc : (v : ℕ) → Sends (moved v s)
  unfolding moved
  moved_epc v = by_test Sends _ (λ _. refl) (λ _. by_test Sends _ (λ _. refl) (λ _. refl))

  -- the answer to an IN
  pub sent_epc : Sends (sent s)
  unfolding sent
  sent_epc = by_test Sends _ (λ _. by_test Sends _ (λ _. refl) (λ _. by_test Sends _ (λ _. refl) (λ _. refl))) (λ _. refl)

marked_epc : (v : ℕ) (s : Sender) → (marked v s).epc ≡ s.epc
unfolding marked
marked_epc v s = by_test (Sends s) _ (λ _. refl) (λ _. refl)

-- a TXC byte, and an RXC byte
pub command_epc : (on : Bool) (v : ℕ) (s : Sender) → (command on v s).epc ≡ s.epc
unfolding command
command_epc on v s = by_test (Sends s) _ (λ _. marked_epc v _ ∙ moved_epc s v) (λ _. moved_epc s v)

module _ (r : Receiver) where
  abbrev Receives : Receiver → Type 0
  Receives x = x.epc ≡ r.epc

  pub flushed_epc : (v : ℕ) → Receives (flushed v r)
  unfolding flushed
  flushed_epc v = by_test Receives _ (λ _. refl) (λ _. refl)

  -- data
  pub received_epc : (pid sound : Bool) (bytes : List ℕ) → Receives (received pid sound bytes r)
  unfolding received
  received_epc pid sound bytes =
      by_test Receives _ (λ _. refl) (λ _.
      by_test Receives _ (λ _. by_test Receives _ (λ _. refl) (λ _. refl)) (λ _.
      by_test Receives _ (λ _. refl) (λ _.
      by_test Receives _ (λ _. refl) (λ _.
      by_test Receives _ (λ _. refl) (λ _. refl)))))
