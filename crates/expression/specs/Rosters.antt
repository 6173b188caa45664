-- What the two rosters mean: rows in their order, with names as places in one text.
use Rattle.std.specs.Prelude.{◌≡◌, ℕ, Bool, false, cond, ◌&&◌, List, [], ◌∷◌, ◌++◌, Some, None, Option}
use Rattle.std.specs.List.{AllByRecursion}
use Rattle.glob.specs.Parts.{part_of, stands}
use Rattle.expression.specs.Names.{begins}
use Rattle.expression.specs.Queries.{Test}
use Rattle.expression.specs.declared.roster.TestRow.{TestRow}
use Rattle.expression.specs.declared.roster.PrefixRow.{PrefixRow}

-- a row fits a test whose binary id and name are what stands at the row's places; no row with a place outside the text fits
abbrev pub RowFits : List ℕ → Test → TestRow → Type 0
RowFits text q row = (part_of text row.binary_id ≡ Some q.binary.id) × (part_of text row.test_name ≡ Some q.name)

-- a row fits a test whose name is what stands at the row's place, and a rest
abbrev pub PrefixFits : List ℕ → Test → PrefixRow → Type 0
PrefixFits text q row = (prefix : List ℕ) × (rest : List ℕ) × (part_of text row.prefix ≡ Some prefix) × (q.name ≡ prefix ++ rest)

-- the first row that fits decides, and where none fits the number is 0
pub record FirstDecides {R : Type 0} (Fits : R → Type 0) (number : R → ℕ) (rows : List R) (n : ℕ) : Type 0 where
  pub first : (before : List R) (row : R) (after : List R) → rows ≡ before ++ row ∷ after → AllByRecursion (λ x. Fits x → ⊥) before → Fits row → n ≡ number row
  pub none : AllByRecursion (λ x. Fits x → ⊥) rows → n ≡ 0

-- whether a row for a single test fits
abbrev pub row_fits : List ℕ → Test → TestRow → Bool
row_fits text q row = stands text row.binary_id q.binary.id && stands text row.test_name q.name

-- whether a name begins with a part of a text, if there is such a part
abbrev pub leads : List ℕ → Option (List ℕ) → Bool
leads name None = false
leads name (Some prefix) = begins prefix name

-- whether a row for a prefix fits
abbrev pub prefix_fits : List ℕ → Test → PrefixRow → Bool
prefix_fits text q row = leads q.name (part_of text row.prefix)

-- the number of the first row that passes, or 0
abbrev pub first_fit : {R : Type 0} → (R → Bool) → (R → ℕ) → List R → ℕ
first_fit fits number [] = 0
first_fit fits number (row ∷ rows) = cond (fits row) (number row) (first_fit fits number rows)
