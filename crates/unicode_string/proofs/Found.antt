-- What the reading of a name finds, against the rules.
use Rattle.std.proofs.Common.{◌≡◌, ℕ, ◌≤◌, List, [], length, Some, IsUtf8}
use Rattle.std.specs.Str.{IsCharBoundary}
use Rattle.unicode_string.specs.declared.Name.{Name}
use Rattle.unicode_string.specs.Names.{Named, name_at, spelt}
use Rattle.unicode_string.specs.Grammar.{Spells}

-- a name was found without reports, that ends at j and has the bytes b
pub record Finds (t : List ℕ) (w : Named) (j : ℕ) (b : List ℕ) : Type 0 where
  pub name : Name
  pub found : w.name ≡ Some name
  pub quiet : w.out.reports ≡ []
  pub end : w.out.at ≡ j
  pub bytes : spelt t w.out name ≡ b

abbrev pub Sound-names : Type 0
Sound-names = (t : List ℕ) (p u : ℕ) (n : Name) → p ≤ length t → (name_at t p u).name ≡ Some n → Spells t p (name_at t p u).out.at (spelt t (name_at t p u).out n) × ((name_at t p u).out.reports ≡ [])

abbrev pub Whole-names : Type 0
Whole-names = (t : List ℕ) (p u j : ℕ) (b : List ℕ) → p ≤ length t → Spells t p j b → Finds t (name_at t p u) j b

abbrev pub One-name : Type 0
One-name = (t : List ℕ) (p i j : ℕ) (a b : List ℕ) → p ≤ length t → Spells t p i a → Spells t p j b → (i ≡ j) × (a ≡ b)

abbrev pub Text-names : Type 0
Text-names = (t : List ℕ) (p j : ℕ) (b : List ℕ) → IsUtf8 t → IsCharBoundary t p → Spells t p j b → IsUtf8 b × IsCharBoundary t j
