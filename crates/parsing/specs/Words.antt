-- The set names, signs and marks of the language, and which of them stands at a place.
use Rattle.std.specs.Prelude.{ℕ, Bool, true, false, cond, List, [], ◌∷◌, length, Some, None, codes, Option}
use Rattle.errors.specs.declared.reports.ReportKind.{ReportKind}
use Rattle.errors.specs.declared.reports.ReportKind.TheVariants.{InvalidOrOperator, InvalidAndOperator, ExprFoundBinaryOp, ExprFoundUnaryOp}
use Rattle.parsing.specs.declared.nodes.Predicate.{Predicate}
use Rattle.parsing.specs.declared.nodes.Predicate.TheVariants.{Package, Deps, Rdeps, Kind, BinaryId, Binary, Test, Group}
use Rattle.expression.specs.declared.name_matcher.MatchKind.{MatchKind}
use Rattle.expression.specs.declared.name_matcher.MatchKind.TheVariants.{Equal, Contains, Glob}
use Rattle.parsing.specs.declared.nodes.Operator.{Operator}
use Rattle.parsing.specs.declared.nodes.Operator.TheVariants.{Union, Intersection, Difference}
use Rattle.parsing.specs.declared.words.Nullary.{Nullary}
use Rattle.parsing.specs.declared.words.Nullary.TheVariants as nullary
use Rattle.parsing.specs.declared.words.SetName.TheVariants as sets
use Rattle.parsing.specs.declared.words.Lead.{Lead}
use Rattle.parsing.specs.declared.words.Lead.TheVariants as lead
use Rattle.parsing.specs.declared.words.Opening.{Opening}
use Rattle.parsing.specs.declared.words.Sign.{Sign}
use Rattle.parsing.specs.declared.words.Mark.{Mark}
use Rattle.parsing.specs.declared.words.Mark.TheVariants as mark
use Rattle.parsing.specs.declared.words.Word.{Word}
use Rattle.parsing.specs.declared.words.Word.TheVariants as words
use Rattle.parsing.specs.Text.{begins_at, keyword_at, is_at}

-- the names of the sets that take a name
abbrev pub name_of : Predicate → List ℕ
name_of Package = codes "package"
name_of Deps = codes "deps"
name_of Rdeps = codes "rdeps"
name_of Kind = codes "kind"
name_of BinaryId = codes "binary_id"
name_of Binary = codes "binary"
name_of Test = codes "test"
name_of Group = codes "group"

-- and of those that take nothing
abbrev pub nullary_name : Nullary → List ℕ
nullary_name nullary.Default = codes "default"
nullary_name nullary.All = codes "all"
nullary_name nullary.None = codes "none"

-- how a name without a mark is matched
abbrev pub usual : Predicate → MatchKind
usual Package = Glob
usual Deps = Glob
usual Rdeps = Glob
usual Kind = Equal
usual BinaryId = Glob
usual Binary = Glob
usual Test = Contains
usual Group = Glob

-- a word that may stand somewhere: alone, or with no word byte after it; and what it says
pub record Entry (X : Type 0) : Type 0 where
  pub word : List ℕ
  pub whole : Bool
  pub says : X

abbrev pub letters : {X : Type 0} → List ℕ → X → Entry X
letters w x = record { word = w; whole = false; says = x }

abbrev pub keyword : {X : Type 0} → List ℕ → X → Entry X
keyword w x = record { word = w; whole = true; says = x }

-- the bytes of a word of the program, and whether a text begins with it
abbrev pub bytes_of : Word → List ℕ
bytes_of (words.Letters w) = w.now
bytes_of (words.Keyword w) = w.now

abbrev pub begun_by : List ℕ → Word → Bool
begun_by t (words.Letters w) = begins_at t 0 w.now
begun_by t (words.Keyword w) = keyword_at t 0 w.now

abbrev pub entry_at : {X : Type 0} → List ℕ → ℕ → Entry X → Bool
entry_at t p e = cond e.whole (keyword_at t p e.word) (begins_at t p e.word)

-- the first of the entries that stands at p
abbrev pub first_at : {X : Type 0} → List (Entry X) → List ℕ → ℕ → Option (Entry X)
first_at [] t p = None
first_at (e ∷ es) t p = cond (entry_at t p e) (Some e) (first_at es t p)

-- how long its word is, and what it says
abbrev pub read_of : {X : Type 0} → Option (Entry X) → Option (ℕ × X)
read_of None = None
read_of (Some e) = Some (length e.word, e.says)

abbrev pub set_entry : Predicate → Entry Lead
set_entry p = letters (name_of p) (lead.Set (sets.Matched p))

abbrev pub nullary_entry : Nullary → Entry Lead
nullary_entry n = letters (nullary_name n) (lead.Set (sets.Nullary n))

abbrev pub set_entries : List (Entry Lead)
set_entries =
    set_entry Package ∷ set_entry Deps ∷ set_entry Rdeps ∷ set_entry Kind ∷ set_entry BinaryId ∷ set_entry Binary ∷ set_entry Test ∷ set_entry Group
    ∷ letters (codes "platform") (lead.Set sets.Platform) ∷ nullary_entry nullary.Default ∷ nullary_entry nullary.All ∷ nullary_entry nullary.None ∷ []

abbrev pub sign_entries : List (Entry Lead)
sign_entries =
    keyword (codes "not") lead.Not ∷ letters (codes "!") lead.Not ∷ letters (codes "(") lead.Group
    ∷ keyword (codes "and") (lead.Misplaced ExprFoundBinaryOp) ∷ keyword (codes "or") (lead.Misplaced ExprFoundBinaryOp)
    ∷ keyword (codes "AND") (lead.Misplaced ExprFoundBinaryOp) ∷ keyword (codes "OR") (lead.Misplaced ExprFoundBinaryOp)
    ∷ letters (codes "&&") (lead.Misplaced ExprFoundBinaryOp) ∷ letters (codes "||") (lead.Misplaced ExprFoundBinaryOp)
    ∷ keyword (codes "NOT") (lead.Misplaced ExprFoundUnaryOp) ∷ []

-- a sign of two operands, and how it is reported if it is one of another language
pub record Joins : Type 0 where
  pub operator : Operator
  pub fault : Option ReportKind

abbrev pub joins : Operator → Joins
joins o = record { operator = o; fault = None }

abbrev pub foreign : Operator → ReportKind → Joins
foreign o k = record { operator = o; fault = Some k }

-- the same as a pair
abbrev pub paired : Entry Joins → Entry (Operator × Option ReportKind)
paired e = record { word = e.word; whole = e.whole; says = (e.says.operator, e.says.fault) }

abbrev pub or_entries : List (Entry Joins)
or_entries =
    letters (codes "||") (foreign Union InvalidOrOperator) ∷ keyword (codes "OR") (foreign Union InvalidOrOperator)
    ∷ keyword (codes "or") (joins Union) ∷ letters (codes "|") (joins Union) ∷ letters (codes "+") (joins Union) ∷ []

abbrev pub and_entries : List (Entry Joins)
and_entries =
    letters (codes "&&") (foreign Intersection InvalidAndOperator) ∷ keyword (codes "AND") (foreign Intersection InvalidAndOperator)
    ∷ keyword (codes "and") (joins Intersection) ∷ letters (codes "&") (joins Intersection) ∷ letters (codes "-") (joins Difference) ∷ []

abbrev pub opening : Option (Entry Lead) → Option Opening
opening None = None
opening (Some e) = Some (record { lead = e.says; length = length e.word })

abbrev pub or_else : {X : Type 0} → Option X → Option X → Option X
or_else None y = y
or_else (Some x) y = Some x

-- what an operand at p begins with
unfoldable pub opening_at : List ℕ → ℕ → Option Opening
opening_at t p = or_else (opening (first_at set_entries t p)) (opening (first_at sign_entries t p))

abbrev pub sign : Option (Entry Joins) → Option Sign
sign None = None
sign (Some e) = Some (record { operator = e.says.operator; fault = e.says.fault; length = length e.word })

-- the sign at p that joins operands of an or-expression, and of an and-expression
unfoldable pub or_sign_at : List ℕ → ℕ → Option Sign
or_sign_at t p = sign (first_at or_entries t p)

unfoldable pub and_sign_at : List ℕ → ℕ → Option Sign
and_sign_at t p = sign (first_at and_entries t p)

-- the mark at p
unfoldable pub mark_at : List ℕ → ℕ → Mark
mark_at t p =
    cond (is_at t p 47) mark.Regex (cond (is_at t p 35) (mark.Marked Glob) (cond (is_at t p 61) (mark.Marked Equal)
    (cond (is_at t p 126) (mark.Marked Contains) mark.Unmarked)))
