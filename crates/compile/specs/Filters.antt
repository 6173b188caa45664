-- The filter that a reading is lowered to, by the grammar's tree.
use Rattle.std.specs.Prelude.{◌≡◌, ℕ, ◌+◌, List, [], ◌++◌, length, vec_items}
use Rattle.errors.specs.declared.reports.Report.{Report}
use Rattle.expression.specs.Tree.{Tree as Nodes, leaf, complement, intersection, union, postfix}
use Rattle.parsing.specs.declared.nodes.Operator.{Operator}
use Rattle.parsing.specs.declared.nodes.Operator.TheVariants.{Union, Intersection, Difference}
use Rattle.parsing.specs.Tree.{Tree}
use Rattle.compile.specs.declared.filter.Filter.{Filter}
use Rattle.compile.specs.declared.filter.FilterLeaf.{FilterLeaf}
use Rattle.compile.specs.declared.filter.FilterLeaf.TheVariants as lowered
use Rattle.compile.specs.Bans.{leftmost_group}
use Rattle.compile.specs.Lowered.{leaf_for, name_for, note_for}
use Rattle.compile.specs.World.{World}

-- no operand is missing or faulty
abbrev pub Whole : {N : Type 0} → Tree N → Type 0
Whole Tree.bad = ⊥
Whole (Tree.set l) = Unit {0}
Whole (Tree.negated x) = Whole x
Whole (Tree.group x) = Whole x
Whole (Tree.joined o x y) = Whole x × Whole y

-- the names that the filter keeps, in the order of the text
abbrev pub kept : Tree (List ℕ) → List ℕ
kept Tree.bad = []
kept (Tree.set l) = name_for l
kept (Tree.negated x) = kept x
kept (Tree.group x) = kept x
kept (Tree.joined o x y) = kept x ++ kept y

-- the reports on the sets that find nothing, in the order of the text
abbrev pub reported : World → Tree (List ℕ) → List Report
reported w Tree.bad = []
reported w (Tree.set l) = note_for w l
reported w (Tree.negated x) = reported w x
reported w (Tree.group x) = reported w x
reported w (Tree.joined o x y) = reported w x ++ reported w y

-- two operands and the sign between them: minus is and-not
abbrev pub joined_by : Operator → Nodes FilterLeaf → Nodes FilterLeaf → Nodes FilterLeaf
joined_by Union a b = union a b
joined_by Intersection a b = intersection a b
joined_by Difference a b = intersection a (complement b)

-- the filter, where u bytes of names are kept before its own; brackets vanish
abbrev pub lowered_from : World → ℕ → Tree (List ℕ) → Nodes FilterLeaf
lowered_from w u Tree.bad = leaf lowered.None
lowered_from w u (Tree.set l) = leaf (leaf_for w u l)
lowered_from w u (Tree.negated x) = complement (lowered_from w u x)
lowered_from w u (Tree.group x) = lowered_from w u x
lowered_from w u (Tree.joined o x y) = joined_by o (lowered_from w u x) (lowered_from w (u + length (kept x)) y)

-- the filter stores the reading: its nodes write the lowered tree down, and it keeps the names and the place of the leftmost group
pub record Stores (w : World) (t : Tree (List ℕ)) (f : Filter) : Type 0 where
  pub nodes : vec_items f.nodes.items ≡ postfix (lowered_from w 0 t)
  pub names : vec_items f.names.items ≡ kept t
  pub group : f.group ≡ leftmost_group t
