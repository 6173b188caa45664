-- What a reading is lowered against, as values with no reference in them.
use Rattle.std.specs.Prelude.{ℕ, Bool, List}
use Rattle.expression.specs.declared.name_matcher.MatchKind.{MatchKind}
use Rattle.expression.specs.Names.{is_taken}
use Rattle.compile.specs.declared.ground.Ground.{Ground}
use Rattle.compile.specs.Tables.{TableNames, names_in, rows_of}

-- the names in the tables, and what the matcher and the oracle mean
pub record World : Type 0 where
  pub tables : TableNames
  pub matches : List ℕ → List ℕ → Bool
  pub depends : ℕ → ℕ → Bool

-- the matcher of that kind with that value takes the name
abbrev pub fits : World → MatchKind → List ℕ → List ℕ → Bool
fits w kind value name = is_taken w.matches kind value name

-- what is lent stands for these
abbrev pub world : {M O : Type 0} → (M → List ℕ → List ℕ → Bool) → (O → ℕ → ℕ → Bool) → Ground M O → World
world m d g = record { tables = names_in (rows_of g.tables); matches = m g.matcher.now; depends = d g.oracle.now }
