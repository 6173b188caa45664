use Rattle.std.proofs.Common.{◌≡◌, ℕ, ◌+◌, ◌≤◌, true, ◌&&◌, eqb, ltb, List, [], ◌∷◌, length, get_or, arith}
use Rattle.std.proofs.lemmas.Bool.{ltb-true, and_parts}
use Rattle.parsing.specs.Text.{begins_at}

pub begins-fits : (t w : List ℕ) (p : ℕ) → p ≤ length t → begins_at t p w ≡ true → p + length w ≤ length t
unfolding begins_at
begins-fits t [] p h e = omega arith
begins-fits t (b ∷ w) p h e =
    let a = and_parts (ltb p (length t) && eqb (get_or t p 0) b) (begins_at t (p + 1) w) e in
    let l = ltb-true p (length t) (and_parts (ltb p (length t)) (eqb (get_or t p 0) b) a.0).0 in
    omega (arith, begins-fits t w (p + 1) (omega arith) a.1)
