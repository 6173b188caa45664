-- Blanks: those that the rules allow are passed over, and what is passed over are such blanks.
use Rattle.std.proofs.Common.{◌≡◌, ℕ, suc, ◌+◌, ◌<◌, ◌≤◌, Bool, true, false, cond, ◌&&◌, ◌||◌, eqb, List, [], ◌∷◌, length, get_or, drop, sym, refl, ap, ◌∙◌, subst, ⊎_elim, add-zero, arith}
use Rattle.std.proofs.lemmas.List.{drop_more, drop-drop, get_or-drop, get_or_past}
use Rattle.std.proofs.lemmas.Bool.{cases_lt, eqb-true, eq-eqb, or_cases, and_parts, and_from, or_left, or_right, both_ways}
use Rattle.parsing.specs.Text.{is_blank, blanks, skip}
use Rattle.parsing.specs.Grammar.{Blank, Blanks, NoBlank}

-- a byte that is not 0 stands in the text
pub inside : (t : List ℕ) (i b : ℕ) → get_or t i 0 ≡ b → 0 < b → i < length t
inside t i b e h = ⊎_elim (λ q. q) (λ q. absurd (omega (arith, get_or_past t i 0 q))) (cases_lt i (length t))

-- what is left at i, byte by byte
pub head_at : (t : List ℕ) (i b : ℕ) (s : List ℕ) → drop i t ≡ b ∷ s → get_or t i 0 ≡ b
head_at t i b s e = ap (λ k. get_or t k 0) (sym (add-zero i)) ∙ sym (get_or-drop i t 0 0) ∙ ap (λ r. get_or r 0 0) e

pub tail_at : (t : List ℕ) (i b : ℕ) (s : List ℕ) → drop i t ≡ b ∷ s → drop (i + 1) t ≡ s
tail_at t i b s e = sym (drop-drop 1 i t) ∙ ap (drop 1) e

pub none-at : (t : List ℕ) (i : ℕ) → drop i t ≡ [] → get_or t i 0 ≡ 0
none-at t i e = ap (λ k. get_or t k 0) (sym (add-zero i)) ∙ sym (get_or-drop i t 0 0) ∙ ap (λ r. get_or r 0 0) e

-- which blank it is
data Kind (b next : ℕ) : Type 0 where
  space : b ≡ 32 → Kind b next
  newline : b ≡ 10 → Kind b next
  return : b ≡ 13 → next ≡ 10 → Kind b next

kind : (b next : ℕ) → is_blank b next ≡ true → Kind b next
kind b next h =
    ⊎_elim
    (λ q. ⊎_elim (λ r. Kind.space (eqb-true b 32 r)) (λ r. Kind.newline (eqb-true b 10 r)) (or_cases (eqb b 32) (eqb b 10) q))
    (λ q. let a = and_parts (eqb b 13) (eqb next 10) q in Kind.return (eqb-true b 13 a.0) (eqb-true next 10 a.1))
    (or_cases (eqb b 32 || eqb b 10) (eqb b 13 && eqb next 10) h)

is-blank : (b next : ℕ) → Kind b next → is_blank b next ≡ true
is-blank b next (Kind.space e) = or_left (eqb b 32 || eqb b 10) (eqb b 13 && eqb next 10) (or_left (eqb b 32) (eqb b 10) (eq-eqb b 32 e))
is-blank b next (Kind.newline e) = or_left (eqb b 32 || eqb b 10) (eqb b 13 && eqb next 10) (or_right (eqb b 32) (eqb b 10) (eq-eqb b 10 e))
is-blank b next (Kind.return e f) = or_right (eqb b 32 || eqb b 10) (eqb b 13 && eqb next 10) (and_from (eqb b 13) (eqb next 10) (eq-eqb b 13 e) (eq-eqb next 10 f))

-- what is passed over are blanks
pub blanks-of : (t : List ℕ) (p : ℕ) (s : List ℕ) → drop p t ≡ s → Blanks t p (p + blanks s)
unfolding blanks
blanks-of t p [] e = rw (add-zero p) Blanks.none
blanks-of t p (b ∷ []) e = one (is_blank b 0) refl
  where
    one : (v : Bool) → is_blank b 0 ≡ v → Blanks t p (p + cond v (suc (blanks [])) 0)
    one true w = go (kind b 0 w)
      where
        go : Kind b 0 → Blanks t p (p + 1)
        go (Kind.space q) = Blanks.more (Blank.space (head_at t p b [] e ∙ q)) Blanks.none
        go (Kind.newline q) = Blanks.more (Blank.newline (head_at t p b [] e ∙ q)) Blanks.none
        go (Kind.return q r) = absurd (omega arith)
    one false w = rw (add-zero p) Blanks.none
blanks-of t p (b ∷ c ∷ s) e = one (is_blank b c) refl (blanks-of t (p + 1) (c ∷ s) (tail_at t p b (c ∷ s) e)) (blanks-of t (p + 1 + 1) s (tail_at t (p + 1) c s (tail_at t p b (c ∷ s) e)))
  where
    one : (v : Bool) → is_blank b c ≡ v → Blanks t (p + 1) (p + 1 + blanks (c ∷ s)) → Blanks t (p + 1 + 1) (p + 1 + 1 + blanks s) → Blanks t p (p + cond v (suc (blanks (c ∷ s))) 0)
    one true w x y = go (kind b c w)
      where
        far : p + 1 + blanks (c ∷ s) ≡ p + suc (blanks (c ∷ s))
        far = omega arith

        go : Kind b c → Blanks t p (p + suc (blanks (c ∷ s)))
        go (Kind.space q) = subst (Blanks t p) far (Blanks.more (Blank.space (head_at t p b (c ∷ s) e ∙ q)) x)
        go (Kind.newline q) = subst (Blanks t p) far (Blanks.more (Blank.newline (head_at t p b (c ∷ s) e ∙ q)) x)
        go (Kind.return q r) =
            let n : blanks (c ∷ s) ≡ suc (blanks s) = ap (λ v. cond v (suc (blanks s)) 0) (is-blank c (get_or s 0 0) (Kind.newline r)) in
            let on : p + 1 + 1 ≡ p + 2 = omega arith in
            let to : p + 1 + 1 + blanks s ≡ p + suc (blanks (c ∷ s)) = omega (arith, n) in
            subst (Blanks t p) to (Blanks.more (Blank.return (head_at t p b (c ∷ s) e ∙ q) (head_at t (p + 1) c s (tail_at t p b (c ∷ s) e) ∙ r)) (subst (λ k. Blanks t k (p + 1 + 1 + blanks s)) on y))
    one false w x y = rw (add-zero p) Blanks.none

pub skip-blanks : (t : List ℕ) (p : ℕ) → Blanks t p (skip t p)
unfolding skip
skip-blanks t p = blanks-of t p (drop p t) refl

blank-kind : (t : List ℕ) (i j : ℕ) → Blank t i j → Kind (get_or t i 0) (get_or t (i + 1) 0)
blank-kind t i j (Blank.space q) = Kind.space q
blank-kind t i j (Blank.newline q) = Kind.newline q
blank-kind t i j (Blank.return q r) = Kind.return q r

kind-byte : (b next : ℕ) → Kind b next → 0 < b
kind-byte b next (Kind.space q) = omega arith
kind-byte b next (Kind.newline q) = omega arith
kind-byte b next (Kind.return q r) = omega arith

-- and no blank follows
stops : (t : List ℕ) (p : ℕ) (s : List ℕ) → drop p t ≡ s → NoBlank t (p + blanks s)
unfolding blanks
stops t p [] e j x = omega (arith, none-at t p e, kind-byte (get_or t p 0) (get_or t (p + 1) 0) (blank-kind t p j (subst (λ k. Blank t k j) (add-zero p) x)))
stops t p (b ∷ s) e j x = one (is_blank b (get_or s 0 0)) refl (stops t (p + 1) s (tail_at t p b s e)) x
  where
    next : get_or t (p + 1) 0 ≡ get_or s 0 0
    next = ap (λ k. get_or t k 0) (sym (add-zero (p + 1))) ∙ sym (get_or-drop (p + 1) t 0 0) ∙ ap (λ r. get_or r 0 0) (tail_at t p b s e)

    here : get_or t p 0 ≡ b
    here = head_at t p b s e

    one : (v : Bool) → is_blank b (get_or s 0 0) ≡ v → NoBlank t (p + 1 + blanks s) → Blank t (p + cond v (suc (blanks s)) 0) j → ⊥
    one true w ih y = let q : p + suc (blanks s) ≡ p + 1 + blanks s = omega arith in ih j (subst (λ k. Blank t k j) q y)
    one false w ih y =
        let k : Kind b (get_or s 0 0) = subst (λ v. Kind v (get_or s 0 0)) here (subst (Kind (get_or t p 0)) next (blank-kind t p j (subst (λ k. Blank t k j) (add-zero p) y))) in
        both_ways (is_blank b (get_or s 0 0)) w (is-blank b (get_or s 0 0) k)

pub skip-stops : (t : List ℕ) (p : ℕ) → NoBlank t (skip t p)
unfolding skip
skip-stops t p = stops t p (drop p t) refl

-- blanks of the rules are passed over
run_of : (t : List ℕ) (p b : ℕ) → get_or t p 0 ≡ b → 0 < b → is_blank b (get_or t (p + 1) 0) ≡ true → skip t p ≡ skip t (p + 1)
unfolding skip blanks
run_of t p b e pos w =
    let d = drop_more t p 0 (inside t p b e pos) in
    let next : get_or (drop (p + 1) t) 0 0 ≡ get_or t (p + 1) 0 = get_or-drop (p + 1) t 0 0 ∙ ap (λ k. get_or t k 0) (add-zero (p + 1)) in
    let k : is_blank (get_or t p 0) (get_or (drop (p + 1) t) 0 0) ≡ true = ap (λ v. is_blank v (get_or (drop (p + 1) t) 0 0)) e ∙ ap (is_blank b) next ∙ w in
    let n : blanks (drop p t) ≡ suc (blanks (drop (p + 1) t)) = ap blanks d ∙ ap (λ v. cond v (suc (blanks (drop (p + 1) t))) 0) k in
    omega (arith, n)

blank_skip : (t : List ℕ) (i k : ℕ) → Blank t i k → skip t i ≡ skip t k
blank_skip t i k (Blank.space e) = run_of t i 32 e (omega arith) (is-blank 32 (get_or t (i + 1) 0) (Kind.space refl))
blank_skip t i k (Blank.newline e) = run_of t i 10 e (omega arith) (is-blank 10 (get_or t (i + 1) 0) (Kind.newline refl))
blank_skip t i k (Blank.return e f) =
    let on : i + 1 + 1 ≡ i + 2 = omega arith in
    run_of t i 13 e (omega arith) (is-blank 13 (get_or t (i + 1) 0) (Kind.return refl f))
    ∙ run_of t (i + 1) 10 f (omega arith) (is-blank 10 (get_or t (i + 1 + 1) 0) (Kind.newline refl)) ∙ ap (skip t) on

skip-over : (t : List ℕ) {i k : ℕ} → Blanks t i k → skip t i ≡ skip t k
skip-over t Blanks.none = refl
skip-over t (Blanks.more {i} {k} b r) = blank_skip t i k b ∙ skip-over t r

-- where no blank stands, none is passed over
same_end : (t : List ℕ) {i k : ℕ} → NoBlank t i → Blanks t i k → i ≡ k
same_end t free Blanks.none = refl
same_end t free (Blanks.more {i} {k} b r) = absurd (free k b)

pub blanks-end : (t : List ℕ) {i k : ℕ} → Blanks t i k → NoBlank t k → skip t i ≡ k
blanks-end t {i} {k} b free = skip-over t b ∙ sym (same_end t free (skip-blanks t k))

-- blanks stay in the text
blank-on : (t : List ℕ) (i k : ℕ) → Blank t i k → (i < k) × (k ≤ length t)
blank-on t i k (Blank.space e) = (omega arith, omega (arith, inside t i 32 e (omega arith)))
blank-on t i k (Blank.newline e) = (omega arith, omega (arith, inside t i 10 e (omega arith)))
blank-on t i k (Blank.return e f) = (omega arith, omega (arith, inside t (i + 1) 10 f (omega arith)))

pub blanks-on : (t : List ℕ) {i k : ℕ} → Blanks t i k → i ≤ length t → (i ≤ k) × (k ≤ length t)
blanks-on t Blanks.none h = (omega arith, h)
blanks-on t (Blanks.more {i} {k} {j} b r) h =
    let a = blank-on t i k b in let c = blanks-on t r a.1 in (omega (arith, a.0, c.0), c.1)
