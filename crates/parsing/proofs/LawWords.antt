-- Words at a place of a text, as words at the start of what is left there.
use Rattle.std.proofs.Common.{◌≡◌, ℕ, ◌+◌, ◌<◌, ◌≤◌, Bool, true, false, cond, not, ◌&&◌, eqb, List, [], ◌∷◌, ◌++◌, length, get_or, take, drop, Some, None, Option, sym, refl, ap, ◌∙◌, subst, ⊎_elim, arith}
use Rattle.std.proofs.lemmas.List.{drop_more, drop_all, drop-drop, get_or-drop, take-append-drop}
use Rattle.std.proofs.lemmas.Bool.{cases_lt, lt-ltb, le-ltb, eqb-true, and_parts, not-true, both_ways}
use Rattle.unicode_string.specs.Text.{is_word}
use Rattle.parsing.specs.Text.{begins_at}
use Rattle.parsing.specs.Words.{Entry, entry_at, first_at}
use Rattle.parsing.specs.Grammar.{Stands}

-- the word w stands at the start of s
abbrev pub prefix_of : List ℕ → List ℕ → Bool
prefix_of [] s = true
prefix_of (b ∷ w) [] = false
prefix_of (b ∷ w) (c ∷ s) = eqb c b && prefix_of w s

pub begins-prefix : (t : List ℕ) (p : ℕ) (w : List ℕ) → begins_at t p w ≡ prefix_of w (drop p t)
unfolding begins_at
begins-prefix t p [] = refl
begins-prefix t p (b ∷ w) = ⊎_elim (inside (begins-prefix t (p + 1) w)) outside (cases_lt p (length t))
  where
    inside : begins_at t (p + 1) w ≡ prefix_of w (drop (p + 1) t) → p < length t → begins_at t p (b ∷ w) ≡ prefix_of (b ∷ w) (drop p t)
    inside ih h = rw (lt-ltb p (length t) h, drop_more t p 0 h) (ap (λ v. eqb (get_or t p 0) b && v) ih)

    outside : length t ≤ p → begins_at t p (b ∷ w) ≡ prefix_of (b ∷ w) (drop p t)
    outside h = rw (le-ltb p (length t) h, drop_all p t h)

-- an entry, and the first of several, at the start of s
abbrev pub entry_on : {X : Type 0} → List ℕ → Entry X → Bool
entry_on s e = cond e.whole (prefix_of e.word s && not (is_word (get_or s (length e.word) 0))) (prefix_of e.word s)

abbrev pub first_on : {X : Type 0} → List (Entry X) → List ℕ → Option (Entry X)
first_on [] s = None
first_on (e ∷ es) s = cond (entry_on s e) (Some e) (first_on es s)

entry-on : {X : Type 0} (t : List ℕ) (p : ℕ) (e : Entry X) → entry_at t p e ≡ entry_on (drop p t) e
entry-on t p e = rw (begins-prefix t p e.word, get_or-drop p t (length e.word) 0)

pub first_on_lem : {X : Type 0} (es : List (Entry X)) (t : List ℕ) (p : ℕ) → first_at es t p ≡ first_on es (drop p t)
first_on_lem [] t p = refl
first_on_lem (e ∷ es) t p = rw (entry-on t p e, first_on_lem es t p)

-- a word that stands at i is what is left there begins with
pub stands-rest : (t w : List ℕ) (i j : ℕ) → Stands t w i j → drop i t ≡ w ++ drop j t
stands-rest t w i j s =
    sym (take-append-drop (length w) (drop i t)) ∙ rw s.same (ap (λ r. w ++ r) (drop-drop (length w) i t ∙ ap (λ k. drop k t) (sym s.end)))

pub prefix-take : (w s : List ℕ) → prefix_of w s ≡ true → take (length w) s ≡ w
prefix-take [] s h = refl
prefix-take (b ∷ w) [] h = absurd (let z : ◌≡◌ {A = ℕ} 0 1 = cc in omega arith)
prefix-take (b ∷ w) (c ∷ s) h =
    let a = and_parts (eqb c b) (prefix_of w s) h in
    rw (eqb-true c b a.0) (ap (λ r. b ∷ r) (prefix-take w s a.1))

pub prefix-stands : (t w : List ℕ) (i : ℕ) → prefix_of w (drop i t) ≡ true → Stands t w i (i + length w)
prefix-stands t w i h = record { same = prefix-take w (drop i t) h; end = refl }

-- an entry that is the first at the start of s stands there
pub record Found {X : Type 0} (s : List ℕ) (e : Entry X) : Type 0 where
  pub stands : prefix_of e.word s ≡ true
  pub apart : e.whole ≡ true → is_word (get_or s (length e.word) 0) ≡ false

entry_found : {X : Type 0} (s : List ℕ) (e : Entry X) → entry_on s e ≡ true → Found s e
entry_found s e = go e.whole refl
  where
    go : (b : Bool) → e.whole ≡ b → cond b (prefix_of e.word s && not (is_word (get_or s (length e.word) 0))) (prefix_of e.word s) ≡ true → Found s e
    go true w h = let a = and_parts (prefix_of e.word s) (not (is_word (get_or s (length e.word) 0))) h in record { stands = a.0; apart = λ _. not-true (is_word (get_or s (length e.word) 0)) a.1 }
    go false w h = record { stands = h; apart = λ y. absurd (both_ways e.whole w y) }

abbrev pub Each : {X : Type 0} → (X → Type 0) → List X → Type 0
Each P [] = Unit {0}
Each P (x ∷ xs) = P x × Each P xs

pub first-sound : {X : Type 0} (P : Entry X → Type 0) (es : List (Entry X)) (s : List ℕ) (e : Entry X) → Each (λ x. Found s x → P x) es → first_on es s ≡ Some e → P e
first-sound P [] s e all h = absurd (let z : ◌≡◌ {A = ℕ} 0 1 = cc in omega arith)
first-sound P (x ∷ es) s e all h = go (entry_on s x) refl (first-sound P es s e all.1) h
  where
    go : (b : Bool) → entry_on s x ≡ b → (first_on es s ≡ Some e → P e) → cond b (Some x) (first_on es s) ≡ Some e → P e
    go true w ih q = let same : x ≡ e = cc in subst P same (all.0 (entry_found s x w))
    go false w ih q = ih q
