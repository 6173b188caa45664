-- Which word of a table a text begins with.
use Rattle.std.proofs.Common.{◌≡◌, ℕ, ◌+◌, ◌-◌, ◌<◌, ◌≤◌, Bool, true, false, cond, not, ltb, List, [], ◌∷◌, ◌++◌, map, length, get_or, take, drop, Some, None, Option, sym, refl, ap, ◌∙◌, inl, inr, add-zero, arith}
use Rattle.std.specs.List.{list_all}
use Rattle.std.specs.Option.{option_map}
use Rattle.std.proofs.lemmas.List.{get_or-drop, take_rest, drop_all, length-drop}
use Rattle.std.proofs.lemmas.Bool.{and_parts, ltb-true, lt-ltb, le-ltb, cases_lt}
use Rattle.unicode_string.specs.Text.{is_word}
use Rattle.errors.specs.declared.reports.ReportKind.{ReportKind}
use Rattle.parsing.specs.declared.nodes.Operator.{Operator}
use Rattle.parsing.specs.declared.words.Lead.{Lead}
use Rattle.parsing.specs.declared.words.Opening.{Opening}
use Rattle.parsing.specs.declared.words.Sign.{Sign}
use Rattle.parsing.specs.declared.words.Word.{Word}
use Rattle.parsing.specs.declared.words.Word.TheVariants.{Letters, Keyword}
use Rattle.parsing.specs.Text.{is_at, begins_at}
use Rattle.parsing.specs.Words.{Entry, paired, entry_at, first_at, or_else, Joins, opening, opening_at, sign, or_sign_at, and_sign_at, mark_at, set_entries, sign_entries, or_entries, and_entries, bytes_of, begun_by, read_of}
use Rattle.parsing.proofs.Fits.{begins-fits}
use Rattle.parsing.proofs.LawWords.{first_on_lem}

-- it fits
pub begun-fits : (t : List ℕ) (w : Word) → begun_by t w ≡ true → length (bytes_of w) ≤ length t
begun-fits t (Letters w) h = omega (arith, begins-fits t w.now 0 (omega arith) h)
begun-fits t (Keyword w) h = omega (arith, begins-fits t w.now 0 (omega arith) (and_parts (begins_at t 0 w.now) (not (is_word (get_or t (0 + length w.now) 0))) h).0)

-- no word is empty
pub first-some : {X : Type 0} (es : List (Entry X)) (t : List ℕ) (r : ℕ × X) → list_all (λ e. ltb 0 (length e.word)) es ≡ true → Some r ≡ read_of (first_at es t 0) → 0 < r.0
first-some [] t r h e = absurd (let z : ◌≡◌ {A = ℕ} 0 1 = cc in omega arith)
first-some (x ∷ xs) t r h e = let a = and_parts (ltb 0 (length x.word)) (list_all (λ e. ltb 0 (length e.word)) xs) h in go (entry_at t 0 x) (first-some xs t r a.1) e
  where
    go : (b : Bool) → (Some r ≡ read_of (first_at xs t 0) → 0 < r.0) → Some r ≡ read_of (cond b (Some x) (first_at xs t 0)) → 0 < r.0
    go true ih q = let l : r.0 ≡ length x.word = cc in rw l (ltb-true 0 (length x.word) (and_parts (ltb 0 (length x.word)) (list_all (λ e. ltb 0 (length e.word)) xs) h).0)
    go false ih q = ih q

-- the entries of two tables
first-append : {X : Type 0} (es fs : List (Entry X)) (t : List ℕ) (p : ℕ) → first_at (es ++ fs) t p ≡ or_else (first_at es t p) (first_at fs t p)
first-append [] fs t p = refl
first-append (e ∷ es) fs t p = let ih = first-append es fs t p in elim (entry_at t p e) as (λ b. cond b (Some e) (first_at (es ++ fs) t p) ≡ or_else (cond b (Some e) (first_at es t p)) (first_at fs t p)) [ true ↦ refl | false ↦ ih ]

opening-else : (a b : Option (Entry Lead)) → opening (or_else a b) ≡ or_else (opening a) (opening b)
opening-else None b = refl
opening-else (Some x) b = refl

abbrev pub opened : ℕ × Lead → Opening
opened r = record { lead = r.1; length = r.0 }

opening-read : (o : Option (Entry Lead)) → opening o ≡ option_map opened (read_of o)
opening-read None = refl
opening-read (Some e) = refl

pub opening-is : (t : List ℕ) (r : Option (ℕ × Lead)) → r ≡ read_of (first_at (set_entries ++ sign_entries) t 0) → option_map opened r ≡ opening_at t 0
unfolding opening_at
opening-is t r e =
    ap (option_map opened) e ∙ sym (opening-read (first_at (set_entries ++ sign_entries) t 0)) ∙ ap opening (first-append set_entries sign_entries t 0)
    ∙ opening-else (first_at set_entries t 0) (first_at sign_entries t 0)

-- the signs of a table, as pairs
abbrev pub signed : ℕ × (Operator × Option ReportKind) → Sign
signed r = record { operator = r.1.0; fault = r.1.1; length = r.0 }

signs-read : (es : List (Entry Joins)) (t : List ℕ) → option_map signed (read_of (first_at (map paired es) t 0)) ≡ sign (first_at es t 0)
signs-read [] t = refl
signs-read (e ∷ es) t = let ih = signs-read es t in
    elim (entry_at t 0 e) as (λ b. option_map signed (read_of (cond b (Some (paired e)) (first_at (map paired es) t 0))) ≡ sign (cond b (Some e) (first_at es t 0))) [ true ↦ refl | false ↦ ih ]

pub sign-is : (es : List (Entry Joins)) (t : List ℕ) (r : Option (ℕ × (Operator × Option ReportKind))) → r ≡ read_of (first_at (map paired es) t 0) → option_map signed r ≡ sign (first_at es t 0)
sign-is es t r e = ap (option_map signed) e ∙ signs-read es t

-- what the rest of a text from p on begins with stands at p
module _ (t : List ℕ) (p : ℕ) where
  first-rest : {X : Type 0} (es : List (Entry X)) → first_at es (take (length t - p) (drop p t)) 0 ≡ first_at es t p
  first-rest es = ap (λ s. first_at es s 0) (take_rest t p) ∙ first_on_lem es (drop p t) 0 ∙ sym (first_on_lem es t p)

  pub opening-rest : opening_at (take (length t - p) (drop p t)) 0 ≡ opening_at t p
  unfolding opening_at
  opening-rest = (λ i. or_else (opening (first-rest set_entries i)) (opening (first-rest sign_entries i)))

  pub or_sign-rest : or_sign_at (take (length t - p) (drop p t)) 0 ≡ or_sign_at t p
  unfolding or_sign_at
  or_sign-rest = ap sign (first-rest or_entries)

  pub and_sign-rest : and_sign_at (take (length t - p) (drop p t)) 0 ≡ and_sign_at t p
  unfolding and_sign_at
  and_sign-rest = ap sign (first-rest and_entries)

  at-rest : (b : ℕ) → is_at (take (length t - p) (drop p t)) 0 b ≡ is_at t p b
  at-rest b = ap (λ s. is_at s 0 b) (take_rest t p) ∙ elim (cases_lt p (length t)) [
    | inl l ↦ rw (lt-ltb 0 (length (drop p t)) (omega (arith, length-drop p t)), get_or-drop p t 0 0, add-zero p, lt-ltb p (length t) l) refl
    | inr g ↦ rw (le-ltb p (length t) g, drop_all p t g) refl
  ]

  pub mark-rest : mark_at (take (length t - p) (drop p t)) 0 ≡ mark_at t p
  unfolding mark_at
  mark-rest = rw (at-rest 47, at-rest 35, at-rest 61, at-rest 126) refl
