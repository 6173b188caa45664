-- The lines of some bytes are what they are cut into at each line feed, but for an empty piece at the end.
use Rattle.std.proofs.Common.{◌≡◌, ℕ, ◌+◌, ◌-◌, ◌<◌, Bool, true, false, cond, ◌&&◌, eqb, List, [], ◌∷◌, ◌++◌, length, get_or, take, drop, sym, refl, ap, ◌∙◌, arith}
use Rattle.std.proofs.lemmas.List.{drop_more, drop_all, take_all, take_more}
use Rattle.std.proofs.lemmas.Bool.{eqb-true, both_ways}
use Rattle.std.specs.List.{slice_split, onto_first}
use Rattle.std.specs.Cmp.Lexicographic.{pointwise}
use Rattle.lines.specs.Lines.{lines_of, before}

abbrev pub is_feed : ℕ → Bool
is_feed b = eqb b 10

and-true : (x : Bool) → (x && true) ≡ x
and-true true = refl
and-true false = refl

before-is : (b : ℕ) (ls : List (List ℕ)) → before b ls ≡ onto_first b ls
before-is b [] = refl
before-is b (l ∷ ls) = refl

-- by the last byte
lines-push : (s : List ℕ) (b : ℕ) (t : Bool) → is_feed b ≡ t → lines_of (s ++ b ∷ []) ≡ slice_split is_feed (cond t s (s ++ b ∷ []))
unfolding lines_of
lines-push [] b true e = rw e refl
lines-push [] b false e = rw e refl
lines-push (c ∷ s) b true e = rw (lines-push s b true e, before-is c (slice_split is_feed s)) refl
lines-push (c ∷ s) b false e = rw (lines-push s b false e, before-is c (slice_split is_feed (s ++ b ∷ []))) refl

pub lines-none : (s : List ℕ) → true ≡ eqb (length s) 0 → lines_of s ≡ []
unfolding lines_of
lines-none [] h = refl
lines-none (b ∷ s) h = let z = eqb-true (length (b ∷ s)) 0 (sym h) in absurd (omega arith)

pub some-length : (s : List ℕ) → false ≡ eqb (length s) 0 → 0 < length s
some-length [] h = absurd (both_ways false refl h)
some-length (b ∷ s) h = omega arith

-- the suffix is the last byte
suffix-is : (s : List ℕ) → 0 < length s → pointwise eqb (drop (length s - 1) s) (10 ∷ []) ≡ is_feed (get_or s (length s - 1) 0)
suffix-is s h =
    let i = length s - 1 in
    let d : drop i s ≡ get_or s i 0 ∷ [] = drop_more s i 0 (omega arith) ∙ ap (λ (t : List ℕ). get_or s i 0 ∷ t) (drop_all (i + 1) s (omega arith)) in
    ap (λ (t : List ℕ). pointwise eqb t (10 ∷ [])) d ∙ and-true (is_feed (get_or s i 0))

pub lines-cut : (s : List ℕ) (t : Bool) → 0 < length s → pointwise eqb (drop (length s - 1) s) (10 ∷ []) ≡ t → lines_of s ≡ slice_split is_feed (cond t (take (length s - 1) s) s)
lines-cut s t h e =
    let i = length s - 1 in
    let all : s ≡ take i s ++ get_or s i 0 ∷ [] = sym (take_all (i + 1) s (omega arith)) ∙ take_more s i 0 (omega arith) in
    ap lines_of all ∙ lines-push (take i s) (get_or s i 0) t (sym (suffix-is s h) ∙ e) ∙ ap (λ (u : List ℕ). slice_split is_feed (cond t (take i s) u)) (sym all)
