-- Who has what, and the two toggles: what a packet stored, an ACK seen, a packet taken and a packet taken up leave of it.
-- Assumes nothing.
use mathlib.Core.Path.{◌≡◌, refl, sym, ap, ◌∙◌}
use mathlib.Core.Logic.{◌⊎◌, inl, inr}
use mathlib.Core.Bool.{Bool, true, false, not, false≢true}
use mathlib.Core.List.{List, [], ◌∷◌, ◌++◌, append-nil}
use Rattle.choice.specs.Choice.{pick}
use Rattle.delivery.specs.Host.{Packet}
use Rattle.delivery.specs.World.{if_so, same}

-- the toggle of the next packet that is no repeat: the driver's, flipped where a packet waits
abbrev pub due : Bool → Bool → Bool
due w x = pick w (not x) x

-- w: a packet waits, and c is it; x: the toggle that the driver expects; g: the host's toggle; h: it holds q; t: packets taken; k: packets known
-- delivered. The two lists are equal, and the host's toggle is the one that is due;
pub record Even (w : Bool) (c : Packet) (x g : Bool) (t k : List Packet) : Type 0 where
  pub lists : t ++ if_so w c ≡ k
  pub toggle : g ≡ due w x

-- or the packet that the host holds is there and not known so, and the host's toggle is its own
pub record Ahead (w : Bool) (c : Packet) (x g h : Bool) (q : Packet) (t k : List Packet) : Type 0 where
  pub lists : t ++ if_so w c ≡ k ++ (q ∷ [])
  pub holds : h ≡ true
  pub toggle : g ≡ not (due w x)

abbrev pub Tally : Bool → Packet → Bool → Bool → Bool → Packet → List Packet → List Packet → Type 0
Tally w c x g h q t k = Even w c x g t k ⊎ Ahead w c x g h q t k

module _ (c q : Packet) (t k : List Packet) where
  -- nothing waited: the lists then
  bare : {l : List Packet} → t ++ if_so false c ≡ l → t ≡ l
  unfolding pick
  bare e = sym (append-nil t) ∙ e

  -- The host's packet is stored with the host's toggle, and its ACK is lost.
  pub stored_unseen : (x g : Bool) → Tally false c x g true q t k → Tally (same g x) q x g true q t k
  unfolding pick
  stored_unseen true true (inl e) = inr (record { lists = ap (λ (l : List Packet). l ++ (q ∷ [])) (bare e.lists); holds = refl; toggle = refl })
  stored_unseen false false (inl e) = inr (record { lists = ap (λ (l : List Packet). l ++ (q ∷ [])) (bare e.lists); holds = refl; toggle = refl })
  stored_unseen true false (inl e) = absurd {0} (false≢true e.toggle)
  stored_unseen false true (inl e) = absurd {0} (false≢true (sym e.toggle))
  stored_unseen true false (inr e) = inr (record { lists = e.lists; holds = refl; toggle = refl })
  stored_unseen false true (inr e) = inr (record { lists = e.lists; holds = refl; toggle = refl })
  stored_unseen true true (inr e) = absurd {0} (false≢true (sym e.toggle))
  stored_unseen false false (inr e) = absurd {0} (false≢true e.toggle)

  -- The same, and its ACK is seen.
  pub stored_seen : (x g : Bool) (p : Packet) → Tally false c x g true q t k → Tally (same g x) q x (not g) false p t (k ++ (q ∷ []))
  unfolding pick
  stored_seen true true p (inl e) = inl (record { lists = ap (λ (l : List Packet). l ++ (q ∷ [])) (bare e.lists); toggle = refl })
  stored_seen false false p (inl e) = inl (record { lists = ap (λ (l : List Packet). l ++ (q ∷ [])) (bare e.lists); toggle = refl })
  stored_seen true false p (inl e) = absurd {0} (false≢true e.toggle)
  stored_seen false true p (inl e) = absurd {0} (false≢true (sym e.toggle))
  stored_seen true false p (inr e) = inl (record { lists = e.lists; toggle = refl })
  stored_seen false true p (inr e) = inl (record { lists = e.lists; toggle = refl })
  stored_seen true true p (inr e) = absurd {0} (false≢true (sym e.toggle))
  stored_seen false false p (inr e) = absurd {0} (false≢true e.toggle)

module _ (x g h : Bool) (c d q : Packet) (t k : List Packet) where
  -- The driver takes the packet that waits, and flips its toggle.
  pub taken_tally : Tally true c x g h q t k → Tally false d (not x) g h q (t ++ (c ∷ [])) k
  unfolding pick
  taken_tally (inl e) = inl (record { lists = append-nil (t ++ (c ∷ [])) ∙ e.lists; toggle = e.toggle })
  taken_tally (inr e) = inr (record { lists = append-nil (t ++ (c ∷ [])) ∙ e.lists; holds = e.holds; toggle = e.toggle })

  -- Where none waits, what RXFIFO1 holds is nobody's.
  pub none_tally : Tally false c x g h q t k → Tally false d x g h q t k
  unfolding pick
  none_tally (inl e) = inl (record { lists = e.lists; toggle = e.toggle })
  none_tally (inr e) = inr (record { lists = e.lists; holds = e.holds; toggle = e.toggle })

-- The host takes up a packet, where it holds none.
pub up_tally : (w : Bool) (c : Packet) (x g : Bool) (q p : Packet) (t k : List Packet) → Tally w c x g false q t k → Tally w c x g true p t k
up_tally w c x g q p t k (inl e) = inl (record { lists = e.lists; toggle = e.toggle })
up_tally w c x g q p t k (inr e) = absurd {0} (false≢true e.holds)

-- Where none waits and the host holds none, the lists are equal.
pub free_even : {c : Packet} {x g h : Bool} {q : Packet} {t k : List Packet} → Tally false c x g h q t k → h ≡ false → t ≡ k
unfolding pick
free_even {t = t} (inl e) free = sym (append-nil t) ∙ e.lists
free_even (inr e) free = absurd {0} (false≢true (sym free ∙ e.holds))
