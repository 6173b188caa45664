-- The test for a value in a name, against a start, the value and a rest.
use Rattle.std.proofs.Common.{◌≡◌, ℕ, true, List, [], ◌∷◌, ◌++◌, length, drop, Decides, ap, ◌∙◌, inl, inr}
use Rattle.std.proofs.lemmas.Bool.{or_cases, or_left, or_right}
use Rattle.expression.specs.Lawful.{begins-rest, begins-whole}
use Rattle.expression.specs.Names.{StandsIn, begins, holds}

begins-there : (v n : List ℕ) → begins v n ≡ true → StandsIn v n
begins-there v n h = ([], drop (length v) n, begins-rest v n h)

later : (v n : List ℕ) (b : ℕ) → StandsIn v n → StandsIn v (b ∷ n)
later v n b p = (b ∷ p.0, p.1, ap (λ (z : List ℕ). b ∷ z) p.2)

held : (v n : List ℕ) → holds v n ≡ true → StandsIn v n
held v [] h = begins-there v [] h
held v (b ∷ n) h = elim (or_cases (begins v (b ∷ n)) (holds v n) h) [ inl e ↦ begins-there v (b ∷ n) e | inr e ↦ later v n b (held v n e) ]

first : (v n : List ℕ) → begins v n ≡ true → holds v n ≡ true
first v [] h = h
first v (b ∷ n) h = or_left (begins v (b ∷ n)) (holds v n) h

found_in : (v start rest : List ℕ) → holds v (start ++ (v ++ rest)) ≡ true
found_in v [] rest = first v (v ++ rest) (begins-whole v rest)
found_in v (b ∷ start) rest = or_right (begins v (b ∷ (start ++ (v ++ rest)))) (holds v (start ++ (v ++ rest))) (found_in v start rest)

pub holds-decides : (v n : List ℕ) → Decides (holds v n) (StandsIn v n)
holds-decides v n = (held v n, λ p. ap (holds v) p.2 ∙ found_in v p.0 p.1)
