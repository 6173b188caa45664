-- How far blanks, white space and an argument go.
use Rattle.std.proofs.Common.{◌≡◌, ℕ, zero, suc, ◌+◌, ◌<◌, ◌≤◌, Bool, true, false, cond, eqb, ltb, ◌&&◌, List, [], ◌∷◌, length, get_or, drop, Some, None, unwrap_or, sym, refl, ap, ◌∙◌, inl, inr, arith, length-drop}
use Rattle.std.proofs.lemmas.Bool.{lt-ltb, le-ltb, eq-eqb, ne_eqb, cases_lt, cases_eq}
use Rattle.std.proofs.lemmas.Bool.Decides.{nat_tests}
use Rattle.std.proofs.lemmas.List.{get_or_past}
use Rattle.std.proofs.lemmas.List.Recursion.{is_position_or_len}
use Rattle.std.specs.List.{position_or_len}
use Rattle.parsing.specs.Text.{is_blank, blanks, skip, unclosed, closing, is_white1, is_white2, is_white3, white_of, white_at, whites_at, white_end}

-- both stay in the text
few-blanks : (l : List ℕ) → blanks l ≤ length l
unfolding blanks
few-blanks [] = omega arith
few-blanks (b ∷ l) = let h = few-blanks l in elim (is_blank b (get_or l 0 0)) as (λ v. cond v (suc (blanks l)) 0 ≤ suc (length l)) [ true ↦ omega arith | false ↦ omega arith ]

few-unclosed : (l : List ℕ) → unclosed l ≤ length l
unfolding unclosed
few-unclosed [] = omega arith
few-unclosed (b ∷ l) = let h = few-unclosed l in elim (eqb b 41) as (λ v. cond v 0 (suc (unclosed l)) ≤ suc (length l)) [ true ↦ omega arith | false ↦ omega arith ]

-- a blank, and the blanks that follow it
abbrev Begun : List ℕ → Bool
Begun s = ltb 0 (length s) && is_blank (get_or s 0 0) (get_or s 1 0)

blanks-by : (s : List ℕ) → blanks s ≡ cond (Begun s) (suc (blanks (drop 1 s))) 0
unfolding blanks
blanks-by [] = refl
blanks-by (b ∷ s) = rw (lt-ltb 0 (length (b ∷ s)) (omega arith)) refl

pub blank-more : (s : List ℕ) → true ≡ Begun s → (blanks s ≡ suc (blanks (drop 1 s))) × (blanks s ≤ length s)
blank-more s e = (blanks-by s ∙ ap (λ b. cond b (suc (blanks (drop 1 s))) 0) (sym e), few-blanks s)

pub blank-none : (s : List ℕ) → false ≡ Begun s → blanks s ≡ 0
blank-none s e = blanks-by s ∙ ap (λ b. cond b (suc (blanks (drop 1 s))) 0) (sym e)

unclosed_is : (s : List ℕ) → unclosed s ≡ position_or_len (λ b. eqb b 41) s
unfolding unclosed
unclosed_is s = is_position_or_len unclosed (λ b. eqb b 41) refl (λ b r. let e : suc (unclosed r) ≡ 1 + unclosed r = omega arith in ap (cond (eqb b 41) 0) e) s

-- the first `)` by its place, or else the end
pub unclosed-place : (s : List ℕ) → unwrap_or (cond (ltb (position_or_len (λ b. eqb b 41) s) (length s)) (Some (position_or_len (λ b. eqb b 41) s)) None) (length s) ≡ unclosed s
unclosed-place s =
    let u = unclosed_is s in
    let f = few-unclosed s in
    let n = position_or_len (λ b. eqb b 41) s in
    elim (cases_lt n (length s)) [ inl l ↦ rw (lt-ltb n (length s) l) (sym u) | inr g ↦ rw (le-ltb n (length s) g) (omega (arith, u, f)) ]

-- a character of white space has at most three bytes, of which none is 0
three : (x y z : Bool) → cond x 1 (cond y 2 (cond z 3 0)) ≤ 3
three true y z = omega arith
three false true z = omega arith
three false false true = omega arith
three false false false = omega arith

white-most : (a b c : ℕ) → white_of a b c ≤ 3
white-most a b c = three (is_white1 a) (is_white2 a b) (is_white3 a b c)

white-second : (a b c : ℕ) → white_of a b c ≡ 2 → 0 < b
white-second a b c e = grind (arith, nat_tests)

white-third : (a b c : ℕ) → white_of a b c ≡ 3 → 0 < c
white-third a b c e = grind (arith, nat_tests)

inside : (t : List ℕ) (q : ℕ) → 0 < get_or t q 0 → q < length t
inside t q h = elim (cases_lt q (length t)) [ inl l ↦ l | inr g ↦ absurd (omega (arith, get_or_past t q 0 g)) ]

pub white-fits : (t : List ℕ) (p : ℕ) → p < length t → p + white_at t p ≤ length t
white-fits t p h =
    let m = white-most (get_or t p 0) (get_or t (p + 1) 0) (get_or t (p + 2) 0) in
    elim (cases_eq (white_at t p) 2) [
      | inl e ↦ omega (arith, e, inside t (p + 1) (white-second (get_or t p 0) (get_or t (p + 1) 0) (get_or t (p + 2) 0) e))
      | inr ne ↦ elim (cases_eq (white_at t p) 3) [
        | inl e ↦ omega (arith, e, inside t (p + 2) (white-third (get_or t p 0) (get_or t (p + 1) 0) (get_or t (p + 2) 0) e))
        | inr nf ↦ omega (arith, m, ne, nf)
      ]
    ]

-- what is left from p ends where all ends
pub record ToGo (t : List ℕ) (from p : ℕ) : Type 0 where
  pub fuel : ℕ
  pub enough : length t ≤ p + fuel
  pub same : whites_at t fuel p ≡ white_end t from

pub white-start : (t : List ℕ) (p : ℕ) → ToGo t p p
white-start t p = record { fuel = length t; enough = omega arith; same = refl }

stops : (t : List ℕ) (f p : ℕ) → white_at t p ≡ 0 → whites_at t f p ≡ p
unfolding whites_at
stops t zero p e = refl
stops t (suc f) p e = ap (λ (b : Bool). cond b p (whites_at t f (p + white_at t p))) (eq-eqb (white_at t p) 0 e)

pub white-here : {t : List ℕ} {from p : ℕ} → ToGo t from p → white_at t p ≡ 0 → p ≡ white_end t from
white-here {t} {from} {p} g e = sym (stops t g.fuel p e) ∙ g.same

pub white-past : {t : List ℕ} {from p : ℕ} → ToGo t from p → length t ≤ p → p ≡ white_end t from
white-past {t} {from} {p} g h =
    let z : get_or t p 0 ≡ 0 = get_or_past t p 0 h in
    white-here g (rw z refl)

pub white-more : {t : List ℕ} {from p : ℕ} → ToGo t from p → p < length t → (white_at t p ≡ 0 → ⊥) → ToGo t from (p + white_at t p)
unfolding whites_at
white-more {t} {from} {p} g h ne = go g.fuel g.enough g.same
  where
    go : (f : ℕ) → length t ≤ p + f → whites_at t f p ≡ white_end t from → ToGo t from (p + white_at t p)
    go zero l s = absurd (omega arith)
    go (suc f) l s = record { fuel = f; enough = omega (arith, ne); same = sym (ap (λ (b : Bool). cond b p (whites_at t f (p + white_at t p))) (ne_eqb (white_at t p) 0 ne)) ∙ s }

module _ (t : List ℕ) (p : ℕ) where
  pub skip-from : p ≤ skip t p
  unfolding skip
  skip-from = omega arith

  pub skip-within : p ≤ length t → skip t p ≤ length t
  unfolding skip
  skip-within h = omega (arith, few-blanks (drop p t), length-drop p t)

  pub closing-from : p ≤ closing t p
  unfolding closing
  closing-from = omega arith

  pub closing-within : p ≤ length t → closing t p ≤ length t
  unfolding closing
  closing-within h = omega (arith, few-unclosed (drop p t), length-drop p t)
