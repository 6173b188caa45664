-- What a reading means: its value by the grammar's tree, the tables and the relations, in every logic.
use Rattle.std.specs.Prelude.{◌≡◌, ℕ, ◌≤◌, Bool, true, false, ◌&&◌, List, [], length, Some, None, vec_items, Option, nat_lt}
use Rattle.expression.specs.declared.name_matcher.MatchKind.{MatchKind}
use Rattle.expression.specs.declared.number_set.NumberSet.{NumberSet}
use Rattle.expression.specs.declared.queries.BuildPlatform.{BuildPlatform}
use Rattle.expression.specs.declared.queries.BuildPlatform.TheVariants.{Host, Target}
use Rattle.expression.specs.Kleene.{kleene}
use Rattle.expression.specs.Logic.{Ops, truth}
use Rattle.expression.specs.Names.{is_taken}
use Rattle.expression.specs.NumberSets.{size, member, some_below}
use Rattle.expression.specs.Queries.{Binary as BinaryAsked, Test as TestAsked}
use Rattle.expression.specs.Tree.{value}
use Rattle.parsing.specs.declared.nodes.Operator.{Operator}
use Rattle.parsing.specs.declared.nodes.Operator.TheVariants.{Union, Intersection, Difference}
use Rattle.parsing.specs.declared.nodes.Predicate.{Predicate}
use Rattle.parsing.specs.declared.nodes.Predicate.TheVariants.{Package, Deps, Rdeps, Kind, BinaryId, Binary, Test, Group}
use Rattle.parsing.specs.Tree.{Leaf, Tree}
use Rattle.compile.specs.declared.filter.Filter.{Filter}
use Rattle.compile.specs.declared.filter.FilterLeaf.{FilterLeaf}
use Rattle.compile.specs.declared.filter.FilterLeaf.TheVariants as lowered
use Rattle.compile.specs.declared.filter.OwnName.{OwnName}
use Rattle.compile.specs.declared.matching.Direction.{Direction}
use Rattle.compile.specs.declared.matching.Direction.TheVariants.{Dependencies, Dependents}
use Rattle.compile.specs.Filters.{Whole, lowered_from, Stores}
use Rattle.compile.specs.Numbers.{passes, group_names, along}
use Rattle.compile.specs.Tables.{TableNames, name_at}
use Rattle.compile.specs.World.{World, fits}

-- two operands and the sign between them: minus is and-not
abbrev pub joined_in : {L : Type 0} → Ops L → Operator → L → L → L
joined_in o Union a b = o.either a b
joined_in o Intersection a b = o.both a b
joined_in o Difference a b = o.both a (o.negated b)

-- the value of a reading in a logic, where f gives the values of the sets
abbrev pub meaning : {L : Type 0} → Ops L → (Leaf (List ℕ) → L) → Tree (List ℕ) → L
meaning o f Tree.bad = o.bottom
meaning o f (Tree.set l) = f l
meaning o f (Tree.negated x) = o.negated (meaning o f x)
meaning o f (Tree.group x) = meaning o f x
meaning o f (Tree.joined s x y) = joined_in o s (meaning o f x) (meaning o f y)

-- number n has a name among these, and it passes
abbrev pub has_name : (List ℕ → Bool) → List (List ℕ) → ℕ → Bool
has_name f names n = nat_lt n (length names) && passes f names n

-- package n is in the table, and a package there whose name passes leads to it
abbrev pub is_near : World → Direction → (List ℕ → Bool) → ℕ → Bool
is_near w way f n =
    nat_lt n (length w.tables.packages) && some_below (λ a. passes f w.tables.packages a && along way w.depends a n) (length w.tables.packages)

-- the group has a name that passes; an unknown one lies in no set
abbrev pub in_group : (List ℕ → Bool) → Option (List (List ℕ)) → Option ℕ → Bool
in_group f None g = false
in_group f (Some names) None = false
in_group f (Some names) (Some g) = has_name f (group_names names) g

-- the same platform
abbrev pub same_platform : BuildPlatform → BuildPlatform → Bool
same_platform Host Host = true
same_platform Host Target = false
same_platform Target Host = false
same_platform Target Target = true

-- whether a test, in that group, lies in a set that takes a name
abbrev pub in_set : World → TestAsked → Option ℕ → Predicate → MatchKind → List ℕ → Bool
in_set w q g Package k v = has_name (fits w k v) w.tables.packages q.binary.in_package
in_set w q g Deps k v = is_near w Dependencies (fits w k v) q.binary.in_package
in_set w q g Rdeps k v = is_near w Dependents (fits w k v) q.binary.in_package
in_set w q g Kind k v = fits w k v q.binary.kind
in_set w q g BinaryId k v = fits w k v q.binary.id
in_set w q g Binary k v = fits w k v q.binary.name
in_set w q g Test k v = fits w k v q.name
in_set w q g Group k v = in_group (fits w k v) w.tables.groups g

-- the truth of a set for a test, where d is the default's
abbrev pub judged : World → TestAsked → Option ℕ → Bool → Leaf (List ℕ) → Bool
judged w q g d (Leaf.matched p k v at) = in_set w q g p k v
judged w q g d (Leaf.platform h at) = same_platform h q.binary.platform
judged w q g d (Leaf.default at) = d
judged w q g d Leaf.all = true
judged w q g d Leaf.none = false

-- a test of the binary, of which nothing else is known
abbrev pub some_test : BinaryAsked → TestAsked
some_test b = record { binary = b; name = [] }

-- what is known of a set for a binary: `test` and `group` are unknown
abbrev pub known_set : World → BinaryAsked → Predicate → MatchKind → List ℕ → Option Bool
known_set w b Package k v = Some (in_set w (some_test b) None Package k v)
known_set w b Deps k v = Some (in_set w (some_test b) None Deps k v)
known_set w b Rdeps k v = Some (in_set w (some_test b) None Rdeps k v)
known_set w b Kind k v = Some (in_set w (some_test b) None Kind k v)
known_set w b BinaryId k v = Some (in_set w (some_test b) None BinaryId k v)
known_set w b Binary k v = Some (in_set w (some_test b) None Binary k v)
known_set w b Test k v = None
known_set w b Group k v = None

-- the value of a set for a binary, where d is the default's
abbrev pub screened : World → BinaryAsked → Option Bool → Leaf (List ℕ) → Option Bool
screened w b d (Leaf.matched p k v at) = known_set w b p k v
screened w b d (Leaf.platform h at) = Some (same_platform h b.platform)
screened w b d (Leaf.default at) = d
screened w b d Leaf.all = Some true
screened w b d Leaf.none = Some false

-- a name that the filter keeps takes the name
abbrev pub takes : (List ℕ → List ℕ → Bool) → List ℕ → OwnName → List ℕ → Bool
takes m names o name = is_taken m o.kind (name_at names o.place) name

-- the number is in the set; an unknown one is in none
abbrev pub holds_group : NumberSet → Option ℕ → Bool
holds_group s None = false
holds_group s (Some g) = member s.words g

-- the same by a filter's leaf and the filter's names
abbrev pub judged_leaf : (List ℕ → List ℕ → Bool) → TestAsked → Option ℕ → Bool → List ℕ → FilterLeaf → Bool
judged_leaf m q g d names (lowered.Packages s) = member s.words q.binary.in_package
judged_leaf m q g d names (lowered.Groups s) = holds_group s g
judged_leaf m q g d names (lowered.Kind o) = takes m names o q.binary.kind
judged_leaf m q g d names (lowered.BinaryId o) = takes m names o q.binary.id
judged_leaf m q g d names (lowered.Binary o) = takes m names o q.binary.name
judged_leaf m q g d names (lowered.Test o) = takes m names o q.name
judged_leaf m q g d names (lowered.Platform h) = same_platform h q.binary.platform
judged_leaf m q g d names lowered.Default = d
judged_leaf m q g d names lowered.All = true
judged_leaf m q g d names lowered.None = false

abbrev pub screened_leaf : (List ℕ → List ℕ → Bool) → BinaryAsked → Option Bool → List ℕ → FilterLeaf → Option Bool
screened_leaf m b d names (lowered.Packages s) = Some (member s.words b.in_package)
screened_leaf m b d names (lowered.Groups s) = None
screened_leaf m b d names (lowered.Kind o) = Some (takes m names o b.kind)
screened_leaf m b d names (lowered.BinaryId o) = Some (takes m names o b.id)
screened_leaf m b d names (lowered.Binary o) = Some (takes m names o b.name)
screened_leaf m b d names (lowered.Test o) = None
screened_leaf m b d names (lowered.Platform h) = Some (same_platform h b.platform)
screened_leaf m b d names lowered.Default = d
screened_leaf m b d names lowered.All = Some true
screened_leaf m b d names lowered.None = Some false

-- sets have a number for each group
abbrev pub GroupsWithin : Option (List (List ℕ)) → Type 0
GroupsWithin None = Unit {0}
GroupsWithin (Some names) = length (group_names names) ≤ size

-- sets have a number for each package and each group
pub record Within (names : TableNames) : Type 0 where
  pub packages : length names.packages ≤ size
  pub groups : GroupsWithin names.groups

-- a filter that stores a reading has its value, for a test and for a binary
pub record Faithful : Type 0 where
  pub judges : (w : World) (t : Tree (List ℕ)) (f : Filter) (q : TestAsked) (g : Option ℕ) (d : Bool) → Within w.tables → Whole t → Stores w t f → value truth (judged_leaf w.matches q g d (vec_items f.names.items)) (lowered_from w 0 t) ≡ meaning truth (judged w q g d) t
  pub screens : (w : World) (t : Tree (List ℕ)) (f : Filter) (b : BinaryAsked) (d : Option Bool) → Within w.tables → Whole t → Stores w t f → value kleene (screened_leaf w.matches b d (vec_items f.names.items)) (lowered_from w 0 t) ≡ meaning kleene (screened w b d) t
