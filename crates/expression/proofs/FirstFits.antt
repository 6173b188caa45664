-- The first row that fits decides, where the tests decide which rows fit.
use Rattle.std.proofs.Common.{◌≡◌, ℕ, Bool, true, false, cond, List, [], ◌∷◌, ◌++◌, Some, None, Decides, Option, refl, ap, ◌∙◌, inl, inr}
use Rattle.std.specs.List.{AllByRecursion, find}
use Rattle.std.proofs.lemmas.Bool.{cases_Bool, cond-true, cond-false}
use Rattle.expression.specs.Rosters.{FirstDecides, first_fit}

-- the number of a row, or 0 where there is none
abbrev pub or_zero : {R : Type 0} → (R → ℕ) → Option R → ℕ
or_zero number None = 0
or_zero number (Some row) = number row

-- the first row that a search finds gives the number
pub first_fit-find : {R : Type 0} (fits : R → Bool) (number : R → ℕ) (rows : List R) → first_fit fits number rows ≡ or_zero number (find fits rows)
first_fit-find fits number [] = refl
first_fit-find {R} fits number (row ∷ rows) = by (fits row) _ (find fits rows) (first_fit-find fits number rows)
  where
    by : (b : Bool) (m : ℕ) (found : Option R) → m ≡ or_zero number found → cond b (number row) m ≡ or_zero number (cond b (Some row) found)
    by true m found e = refl
    by false m found e = e

module _ {R : Type 0} (fits : R → Bool) (number : R → ℕ) where
  first-at : (before : List R) (row : R) (after : List R) → AllByRecursion (λ x. fits x ≡ false) before → fits row ≡ true → first_fit fits number (before ++ row ∷ after) ≡ number row
  first-at [] row after h e = cond-true (fits row) (number row) (first_fit fits number after) e
  first-at (x ∷ before) row after h e =
      cond-false (fits x) (number x) (first_fit fits number (before ++ row ∷ after)) h.0 ∙ first-at before row after h.1 e

  none-fits : (rows : List R) → AllByRecursion (λ x. fits x ≡ false) rows → first_fit fits number rows ≡ 0
  none-fits [] h = refl
  none-fits (x ∷ rows) h = cond-false (fits x) (number x) (first_fit fits number rows) h.0 ∙ none-fits rows h.1

  module _ (Fits : R → Type 0) (each : (x : R) → Decides (fits x) (Fits x)) where
    unfit : (x : R) → (Fits x → ⊥) → fits x ≡ false
    unfit x h = elim (cases_Bool (fits x)) [ inl e ↦ absurd (h ((each x).0 e)) | inr e ↦ e ]

    unfits : (rows : List R) → AllByRecursion (λ x. Fits x → ⊥) rows → AllByRecursion (λ x. fits x ≡ false) rows
    unfits [] h = tt
    unfits (x ∷ rows) h = (unfit x h.0, unfits rows h.1)

    pub first-decides : (rows : List R) (n : ℕ) → n ≡ first_fit fits number rows → FirstDecides Fits number rows n
    first-decides rows n e = record {
      first = λ before row after is h f. e ∙ ap (first_fit fits number) is ∙ first-at before row after (unfits before h) ((each row).1 f);
      none = λ h. e ∙ none-fits rows (unfits rows h);
    }
