-- One outcome: two outcomes that a contract allows for one input are equal, in what the view shows of them: the result and the lent bytes.
-- Assumes nothing.
use mathlib.Core.Path.{◌≡◌, sym, ◌∙◌}

-- κ: the lifetimes; a: what is passed; r: what is returned; s: the parameters at exit
abbrev pub Once : {L : Type 0} {A R E : L → Type 0} {S : Type 0} → ((κ : L) → A κ → R κ → E κ → Type 0) → ((κ : L) → R κ → E κ → S) → Type 0
Once {L} {A} {R} {E} Post view = (κ : L) (a : A κ) (r r' : R κ) (s s' : E κ) → Post κ a r s → Post κ a r' s' → view κ r s ≡ view κ r' s'

-- A contract that gives what is seen as a function of what is passed has one outcome.
pub once :
    {L : Type 0} {A R E : L → Type 0} {S : Type 0} {Post : (κ : L) → A κ → R κ → E κ → Type 0} {view : (κ : L) → R κ → E κ → S} {f : (κ : L) → A κ → S}
    → ((κ : L) (a : A κ) (r : R κ) (s : E κ) → Post κ a r s → view κ r s ≡ f κ a)
    → Once Post view
once {L} {A} {R} {E} {S} {Post} {view} {f} gives κ a r r' s s' p q = gives κ a r s p ∙ sym (gives κ a r' s' q)

-- Two things that an outcome shows.
pub record Both (A B : Type 0) : Type 0 where
  pub one : A
  pub other : B

abbrev pub both : {A B : Type 0} → A → B → Both A B
both a b = record { one = a; other = b }

pub same : {A B : Type 0} {a a' : A} {b b' : B} → a ≡ a' → b ≡ b' → both a b ≡ both a' b'
same p q = cc

pub three : {A B C D : Type 0} (f : A → B → C → D) {a a' : A} {b b' : B} {c c' : C} → a ≡ a' → b ≡ b' → c ≡ c' → f a b c ≡ f a' b' c'
three f p q w = cc
