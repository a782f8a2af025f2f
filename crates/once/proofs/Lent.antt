-- One outcome for each input: the functions over the reader that keeps its lent trace. A contract over a struct that holds a reference has no `Post`, so
-- it is said of the `ensures` itself, in every model: what two outcomes are said to be makes them equal. Assumes nothing.
use mathlib.Core.Path.{◌≡◌, sym, ◌∙◌}
use seplogic.Ra.Ura.{Ura}
use base.Logic.{SProp, ent, sep, fst∗, snd∗}
use prog.Memory.{Memory}
use prog.Routine.{Routine}
use types.Logic.{Logic}
use contract.Monad.{Fun, fact, fact_i, fact_use}
use contract.Lifetimes.{Lfts}
use denote.Triple.Clauses.{Ended, Clauses, AtExit}
use denote.Triple.Entry.{Args, Res}
use Rattle.reader.specs.contracts.Reader.new as new
use Rattle.reader.specs.contracts.Reader.moved as moved
use Rattle.reader.specs.contracts.Reader.next as next
use Rattle.reader.specs.contracts.Reader.payload as payload
use Rattle.once.proofs.Meanings.{meaning_injective}

-- two facts make a third
both_say : {M : Type 1} (𝓤 : Ura M) (φ ψ χ : Type 0) → (φ → ψ → χ) → ent 𝓤 (sep 𝓤 (fact 𝓤 φ) (fact 𝓤 ψ)) (fact 𝓤 χ)
both_say 𝓤 φ ψ χ f = fact_use 𝓤 φ (fst∗ 𝓤 (fact 𝓤 φ) (fact 𝓤 ψ)) (λ x. fact_use 𝓤 ψ (snd∗ 𝓤 (fact 𝓤 φ) (fact 𝓤 ψ)) (λ y. fact_i 𝓤 χ _ (f x y)))

module _ {M : Type 1} {𝓤 : Ura M} (𝓛 : Logic 𝓤) (mem : Memory → SProp 𝓤) (run : Routine → Fun 𝓤) where
  -- what the view shows of two outcomes, r and r', is equal
  abbrev OnceSaid : (T : Ended) (c : Clauses 𝓤 T) {S : Type 0} → ((κs : Lfts T.signature.lifetimes) → Res T.signature κs → S) → Type 1
  OnceSaid T c view =
      (κs : Lfts T.signature.lifetimes) (a : Args T.signature κs) (g : (c κs a).ghost) (r r' : Res T.signature κs) (e e' : AtExit T κs)
      → ent 𝓤 (sep 𝓤 ((c κs a).ensures g r e) ((c κs a).ensures g r' e')) (fact 𝓤 (view κs r ≡ view κs r'))

  pub reader-Reader-new-once : OnceSaid new.ended (new.clauses 𝓛 mem run) (λ κs r. r)
  reader-Reader-new-once κs a g r r' e e' = both_say 𝓤 _ _ _ (λ p q. p ∙ sym q)

  pub reader-Reader-moved-once : OnceSaid moved.ended (moved.clauses 𝓛 mem run) (λ κs r. r)
  reader-Reader-moved-once κs a g r r' e e' = both_say 𝓤 _ _ _ (λ p q. p ∙ sym q)

  pub reader-Reader-next-once : OnceSaid next.ended (next.clauses 𝓛 mem run) (λ κs r. r)
  reader-Reader-next-once κs a g r r' e e' = both_say 𝓤 _ _ _ (λ p q. meaning_injective r r' (p ∙ sym q))

  pub reader-Reader-payload-once : OnceSaid payload.ended (payload.clauses 𝓛 mem run) (λ κs r. r.now)
  reader-Reader-payload-once κs a g r r' e e' = both_say 𝓤 _ _ _ (λ p q. p ∙ sym q)
