-- An array of defaults is its reset value: each element is the one that its type's default must be.
use Rattle.std.proofs.Common.{◌≡◌, ℕ, List, replicate, sym, ◌∙◌}
use Rattle.std.specs.Array.{AllOfLen}
use Rattle.std.proofs.lemmas.List.{ext_get_or, length-replicate, get_or-replicate}

pub replicated : {A : Type 0} (P : A → Type 0) (a : A) → ((x : A) → P x → x ≡ a) → (xs : List A) (n : ℕ) → AllOfLen P xs n → xs ≡ replicate n a
replicated P a one xs n h =
    ext_get_or a xs (replicate n a) (h.long ∙ sym (length-replicate n a)) (λ i lt.
    let within = rw h.long at lt in
    one _ (h.at i a within) ∙ sym (get_or-replicate n i a a within))
