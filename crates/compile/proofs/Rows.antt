-- Rows of tables, one after the other.
use Rattle.std.proofs.Common.{◌≡◌, ℕ, ◌+◌, ◌<◌, ◌≤◌, Bool, false, ◌||◌, List, map, length, get_or, drop, sym, ap, ◌∙◌}
use Rattle.std.proofs.lemmas.List.{at_drop_more, at_drop_all}
use Rattle.std.specs.List.{list_any}
use Rattle.glob.specs.declared.place.Place.{Place}
use Rattle.unicode_string.specs.declared.Name.TheVariants.{InText}
use Rattle.expression.specs.declared.name_matcher.MatchKind.TheVariants.{Equal}
use Rattle.parsing.specs.declared.nodes.ParsedLeaf.TheVariants.{Matched}
use Rattle.parsing.specs.declared.nodes.ParsedNode.{ParsedNode}
use Rattle.parsing.specs.declared.nodes.ParsedNode.TheVariants.{Set}
use Rattle.parsing.specs.declared.nodes.Predicate.TheVariants.{Package}
use Rattle.compile.specs.declared.tables.BinaryRow.{BinaryRow}

-- rows for reads past the end, which are never made
abbrev pub nowhere : Place
nowhere = record { start = 0; length = 0 }

abbrev pub no_binary : BinaryRow
no_binary = record { id = nowhere; name = nowhere }

abbrev pub no_node : ParsedNode
no_node = Set (Matched Package (record { kind = Equal; name = InText nowhere }) nowhere)

-- one row on, by whether that row is looked for
pub any_more : {X Y : Type 0} (f : Y → Bool) (h : X → Y) (xs : List X) (i : ℕ) (d : X) (b : Bool) → i < length xs → b ≡ f (h (get_or xs i d)) → list_any f (map h (drop i xs)) ≡ list_any f (map h xs) → (b || list_any f (map h (drop (i + 1) xs))) ≡ list_any f (map h xs)
any_more f h xs i d b l e inv = ap (λ (z : Bool). z || list_any f (map h (drop (i + 1) xs))) e ∙ sym (at_drop_more (λ zs. list_any f (map h zs)) xs i d l) ∙ inv

pub any-all : {X Y : Type 0} (f : Y → Bool) (h : X → Y) (xs : List X) (i : ℕ) → length xs ≤ i → list_any f (map h (drop i xs)) ≡ list_any f (map h xs) → false ≡ list_any f (map h xs)
any-all f h xs i l inv = sym (at_drop_all (λ zs. list_any f (map h zs)) xs i l) ∙ inv
