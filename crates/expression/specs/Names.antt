-- Which names a name matcher takes.
use Rattle.std.specs.Prelude.{◌≡◌, ℕ, Bool, true, ◌||◌, List, [], ◌∷◌, ◌++◌, length, take}
use Rattle.std.specs.Str.{bytes_eq}
use Rattle.expression.specs.declared.name_matcher.MatchKind.{MatchKind}
use Rattle.expression.specs.declared.name_matcher.MatchKind.TheVariants.{Equal, Contains, Glob}

-- the value stands in the name: the name is a start, the value, and a rest
abbrev pub StandsIn : List ℕ → List ℕ → Type 0
StandsIn value name = (start : List ℕ) × (rest : List ℕ) × (name ≡ start ++ (value ++ rest))

-- the name is taken: it is the value, the value stands in it, or the glob matcher says so
abbrev pub Taken : (List ℕ → List ℕ → Bool) → MatchKind → List ℕ → List ℕ → Type 0
Taken glob Equal value name = value ≡ name
Taken glob Contains value name = StandsIn value name
Taken glob Glob value name = glob value name ≡ true

-- the name begins with the value
abbrev pub begins : List ℕ → List ℕ → Bool
begins value name = bytes_eq value (take (length value) name)

-- the name, or what is left of it behind some bytes, begins with the value
abbrev pub holds : List ℕ → List ℕ → Bool
holds value [] = begins value []
holds value (b ∷ name) = begins value (b ∷ name) || holds value name

-- whether the name is taken
abbrev pub is_taken : (List ℕ → List ℕ → Bool) → MatchKind → List ℕ → List ℕ → Bool
is_taken glob Equal value name = bytes_eq value name
is_taken glob Contains value name = holds value name
is_taken glob Glob value name = glob value name
