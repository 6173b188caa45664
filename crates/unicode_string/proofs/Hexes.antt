-- The rules of the two tables.
use Rattle.std.proofs.Common.{◌≡◌, ℕ, ◌<◌, Bool, true, false, T, eqb, ltb, List, ◌∷◌, ◌++◌, length, get_or, replicate, Some, None, inl, inr, sym, refl, ap, ◌∙◌, arith, eqb→eq}
use Rattle.std.proofs.lemmas.List.{get_or_past}
use Rattle.std.proofs.lemmas.Bool.{eq-eqb, ne_eqb, cases_eq, cases_lt}
use Rattle.std.proofs.lemmas.Bool.Decides.{nat_tests}
use Rattle.unicode_string.specs.Text.{hex_of, digit_of, is_word}
use Rattle.unicode_string.proofs.Rules.{at}

abbrev same : Bool → Bool → Bool
same true b = b
same false true = false
same false false = true

same-eq : (a b : Bool) → T (same a b) → a ≡ b
same-eq true true t = refl
same-eq true false t = absurd t
same-eq false true t = absurd t
same-eq false false t = refl

abbrev pub valued : ℕ → ℕ → Bool
valued k x = eqb x (hex_of k)

abbrev pub worded : ℕ → Bool → Bool
worded k x = same x (is_word k)

-- the two tables
abbrev hexes : List ℕ
hexes =
    replicate 48 255 ++ (0 ∷ 1 ∷ 2 ∷ 3 ∷ 4 ∷ 5 ∷ 6 ∷ 7 ∷ 8 ∷ 9 ∷ replicate 7 255) ++ (10 ∷ 11 ∷ 12 ∷ 13 ∷ 14 ∷ 15 ∷ replicate 26 255)
    ++ (10 ∷ 11 ∷ 12 ∷ 13 ∷ 14 ∷ 15 ∷ replicate 153 255)

abbrev letters : List Bool
letters =
    replicate 48 false ++ replicate 10 true ++ replicate 7 false ++ replicate 26 true ++ replicate 4 false ++ (true ∷ false ∷ replicate 26 true)
    ++ replicate 133 false

pub values : (k : ℕ) → k < 256 → get_or hexes k 0 ≡ hex_of k
unfolding hex_of
values k h = eqb→eq (get_or hexes k 0) (hex_of k) (at 0 valued hexes tt k h)

pub words : (k : ℕ) → k < 256 → get_or letters k false ≡ is_word k
unfolding is_word
words k h = same-eq (get_or letters k false) (is_word k) (at false worded letters tt k h)

pub hex-small : (b : ℕ) → (hex_of b ≡ 255 → ⊥) → hex_of b < 16
unfolding hex_of
hex-small b ne = grind (arith, nat_tests)

-- a value of the table, as a digit or none
pub no_digit : (b v : ℕ) → v ≡ hex_of b → v ≡ 255 → None ≡ digit_of b
no_digit b v is e = rw (eq-eqb (hex_of b) 255 (cc)) refl

pub some_digit : (b v : ℕ) → v ≡ hex_of b → (v ≡ 255 → ⊥) → Some v ≡ digit_of b
some_digit b v is ne = let n : (hex_of b ≡ 255 → ⊥) = λ e. ne (is ∙ e) in rw (ne_eqb (hex_of b) 255 n) (ap Some is)

pub digit-none : (t : List ℕ) (p : ℕ) → false ≡ ltb p (length t) → None ≡ digit_of (get_or t p 0)
unfolding hex_of
digit-none t p h = ap digit_of (sym (get_or_past t p 0 (grind (arith, nat_tests))))

pub no_digit-is : (b : ℕ) → digit_of b ≡ None → hex_of b ≡ 255
no_digit-is b e = elim (cases_eq (hex_of b) 255) [ inl y ↦ y | inr ne ↦ absurd (let x : Some (hex_of b) ≡ digit_of b = some_digit b (hex_of b) refl ne in let z : ◌≡◌ {A = ℕ} 0 1 = cc in omega arith) ]

-- a digit that stands at q
pub record DigitAt (t : List ℕ) (q v : ℕ) : Type 0 where
  pub within : q < length t
  pub is : v ≡ hex_of (get_or t q 0)
  pub some : hex_of (get_or t q 0) ≡ 255 → ⊥
  pub small : v < 16

pub digit-at : (t : List ℕ) (q v : ℕ) → digit_of (get_or t q 0) ≡ Some v → DigitAt t q v
unfolding hex_of
digit-at t q v e =
    let some : (hex_of (get_or t q 0) ≡ 255 → ⊥) = λ h. let x = no_digit (get_or t q 0) (hex_of (get_or t q 0)) refl h in let z : ◌≡◌ {A = ℕ} 0 1 = cc in omega arith in
    let is : v ≡ hex_of (get_or t q 0) = let x = some_digit (get_or t q 0) (hex_of (get_or t q 0)) refl some in cc in
    record {
      within = elim (cases_lt q (length t)) [ inl l ↦ l | inr g ↦ absurd (some (ap hex_of (get_or_past t q 0 g))) ];
      is = is;
      some = some;
      small = rw is (hex-small (get_or t q 0) some);
    }
