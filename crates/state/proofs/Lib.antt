-- The lemmas that the proofs here cite.
mod Default
