-- Which packages and groups, by number: those whose name passes, and those that some of them depend on or are depended on by.
use Rattle.std.specs.Prelude.{ℕ, Bool, ◌&&◌, List, [], ◌∷◌, length, Some, None, codes, Option, slice_index_or}
use Rattle.expression.specs.NumberSets.{width, member, some_below, set_of}
use Rattle.compile.specs.declared.matching.Direction.{Direction}
use Rattle.compile.specs.declared.matching.Direction.TheVariants.{Dependencies, Dependents}
use Rattle.compile.specs.declared.matching.BinaryField.{BinaryField}
use Rattle.compile.specs.declared.matching.BinaryField.TheVariants.{Id, Name}
use Rattle.compile.specs.Tables.{BinaryNames}

-- the name with that number passes
abbrev pub passes : (List ℕ → Bool) → List (List ℕ) → ℕ → Bool
passes f names n = f (slice_index_or names n [])

-- the numbers of the names that pass
abbrev pub numbers_of : (List ℕ → Bool) → List (List ℕ) → List ℕ
numbers_of f names = set_of width (passes f names) (length names)

-- the names of the groups: group 0 is @global, and the table's names follow from 1
abbrev pub group_names : List (List ℕ) → List (List ℕ)
group_names names = codes "@global" ∷ names

-- the numbers of the groups whose name passes; none where groups are unavailable
abbrev pub groups_of : (List ℕ → Bool) → Option (List (List ℕ)) → List ℕ
groups_of f None = numbers_of f []
groups_of f (Some names) = numbers_of f (group_names names)

-- a leads to b: a depends on b, or b on a
abbrev pub along : Direction → (ℕ → ℕ → Bool) → ℕ → ℕ → Bool
along Dependencies d a b = d a b
along Dependents d a b = d b a

-- a is in the set and leads to b
abbrev pub leads_from : Direction → (ℕ → ℕ → Bool) → List ℕ → ℕ → ℕ → Bool
leads_from way d set b a = member set a && along way d a b

-- some number of the set below n leads to b
abbrev pub is_led : Direction → (ℕ → ℕ → Bool) → List ℕ → ℕ → ℕ → Bool
is_led way d set n b = some_below (leads_from way d set b) n

-- the numbers below n that some number of the set leads to
abbrev pub reached : Direction → (ℕ → ℕ → Bool) → List ℕ → ℕ → List ℕ
reached way d set n = set_of width (is_led way d set n) n

-- a binary's id, or its name
abbrev pub field_of : BinaryField → BinaryNames → List ℕ
field_of Id b = b.id
field_of Name b = b.name
