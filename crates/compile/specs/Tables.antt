-- The caller's tables: which are good, and the names in them.
use Rattle.std.specs.Prelude.{ℕ, Bool, true, ◌&&◌, List, [], map, length, is_some, Some, None, Option, nat_le}
use Rattle.std.specs.List.{list_all}
use Rattle.std.specs.Option.{option_map}
use Rattle.glob.specs.declared.place.Place.{Place}
use Rattle.glob.specs.Parts.{part_of}
use Rattle.compile.specs.declared.tables.BinaryRow.{BinaryRow}
use Rattle.compile.specs.declared.tables.Tables.{Tables}

-- the caller's tables by value: one names text, and rows with places in it; no groups where they are unavailable
pub record TableRows : Type 0 where
  pub names : List ℕ
  pub packages : List Place
  pub binaries : List BinaryRow
  pub groups : Option (List Place)

-- the tables that are lent
abbrev pub rows_of : Tables → TableRows
rows_of t = record {
  names = t.names.now;
  packages = t.packages.now;
  binaries = t.binaries.now;
  groups = option_map (λ x. x.now) t.groups;
}

-- a binary's id and name
pub record BinaryNames : Type 0 where
  pub id : List ℕ
  pub name : List ℕ

-- the names in the tables; no groups where they are unavailable
pub record TableNames : Type 0 where
  pub packages : List (List ℕ)
  pub binaries : List BinaryNames
  pub groups : Option (List (List ℕ))

-- the place lies in the text
abbrev pub lies_in : List ℕ → Place → Bool
lies_in text at = is_some (part_of text at)

-- a binary's id and name lie in the text
abbrev pub binary_lies_in : List ℕ → BinaryRow → Bool
binary_lies_in text row = lies_in text row.id && lies_in text row.name

-- groups are unavailable, or at most 63 and each lies in the text
abbrev pub groups_good : List ℕ → Option (List Place) → Bool
groups_good text None = true
groups_good text (Some rows) = nat_le (length rows) 63 && list_all (lies_in text) rows

-- at most 64 packages, 256 binaries and 63 groups, and each name lies in the names text
abbrev pub good : TableRows → Bool
good t =
    nat_le (length t.packages) 64 && (nat_le (length t.binaries) 256
    && (list_all (lies_in t.names) t.packages && (list_all (binary_lies_in t.names) t.binaries
    && groups_good t.names t.groups)))

-- what is there, or no byte
abbrev pub or_empty : Option (List ℕ) → List ℕ
or_empty None = []
or_empty (Some name) = name

-- the name at a place; no byte where the place does not lie in the text
abbrev pub name_at : List ℕ → Place → List ℕ
name_at text at = or_empty (part_of text at)

-- the names of a binary
abbrev pub binary_at : List ℕ → BinaryRow → BinaryNames
binary_at text row = record { id = name_at text row.id; name = name_at text row.name }

-- the names that the rows stand for
abbrev pub names_in : TableRows → TableNames
names_in t = record {
  packages = map (name_at t.names) t.packages;
  binaries = map (binary_at t.names) t.binaries;
  groups = option_map (map (name_at t.names)) t.groups;
}
