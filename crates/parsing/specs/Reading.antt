-- What reading a text gives: from a place, the place after, the reports made, the bytes decoded, and the tree or the fault that stops it.
use Rattle.std.specs.Prelude.{ℕ, zero, suc, ◌+◌, ◌-◌, Bool, cond, ◌&&◌, List, [], ◌∷◌, ◌++◌, length, take, drop, is_some, Some, None, Ok, Err, codes, Option, Result, ◌==◌, nat_lt}
use Rattle.errors.specs.declared.reports.ReportKind.{ReportKind}
use Rattle.errors.specs.declared.reports.ReportKind.TheVariants.{InvalidGlob, UnexpectedArgument, UnexpectedComma, ExpectedOpenParenthesis, ExpectedCloseParenthesis, ExpectedExpr, ExpectedEndOfExpression, InvalidPlatformArgument}
use Rattle.errors.specs.declared.reports.Report.{Report}
use Rattle.errors.specs.declared.faults.ReadingFault.{ReadingFault}
use Rattle.errors.specs.declared.faults.ReadingFault.TheVariants.{Regex, Deep, Crowded}
use Rattle.glob.specs.declared.place.Place.{Place}
use Rattle.glob.specs.Reading.{items_of}
use Rattle.unicode_string.specs.declared.Name.{Name}
use Rattle.unicode_string.specs.Names.{Named, in_text, spelt}
use Rattle.unicode_string.specs.Names as names
use Rattle.parsing.specs.declared.nodes.Predicate.{Predicate}
use Rattle.expression.specs.declared.name_matcher.MatchKind.{MatchKind}
use Rattle.expression.specs.declared.name_matcher.MatchKind.TheVariants.{Equal, Contains, Glob}
use Rattle.expression.specs.declared.queries.BuildPlatform.{BuildPlatform}
use Rattle.expression.specs.declared.queries.BuildPlatform.TheVariants.{Host, Target}
use Rattle.parsing.specs.declared.nodes.Operator.{Operator}
use Rattle.parsing.specs.declared.words.Nullary.{Nullary}
use Rattle.parsing.specs.declared.words.Nullary.TheVariants as nullary
use Rattle.parsing.specs.declared.words.SetName.{SetName}
use Rattle.parsing.specs.declared.words.SetName.TheVariants as sets
use Rattle.parsing.specs.declared.words.Lead.TheVariants as lead
use Rattle.parsing.specs.declared.words.Opening.{Opening}
use Rattle.parsing.specs.declared.words.Sign.{Sign}
use Rattle.parsing.specs.declared.words.Mark.{Mark}
use Rattle.parsing.specs.declared.words.Mark.TheVariants as mark
use Rattle.parsing.specs.Text.{is_at, skip, closing, begins_at, white_end}
use Rattle.parsing.specs.Words.{usual, opening_at, or_sign_at, and_sign_at, mark_at}
use Rattle.parsing.specs.Grammar.{between}
use Rattle.parsing.specs.Tree.{Leaf, Tree}

-- where a reading stands: the place, how many parts were counted and reports made, and how much of the decoding space is used
pub record At : Type 0 where
  pub pos : ℕ
  pub parts : ℕ
  pub count : ℕ
  pub used : ℕ

-- what a reading comes to: the place after, the parts counted, the reports made, the bytes decoded, and what was read or why it stopped
pub record Out (X : Type 0) : Type 0 where
  pub pos : ℕ
  pub parts : ℕ
  pub reports : List Report
  pub bytes : List ℕ
  pub value : Result X ReadingFault

-- where it stands afterwards
abbrev pub after : {X : Type 0} → At → Out X → At
after a o = record { pos = o.pos; parts = o.parts; count = a.count + length o.reports; used = a.used + length o.bytes }

abbrev pub follow : {X Y : Type 0} → At → Out X → (X → At → Out Y) → Result X ReadingFault → Out Y
follow a o k (Ok x) =
    record { pos = (k x (after a o)).pos; parts = (k x (after a o)).parts; reports = o.reports ++ (k x (after a o)).reports; bytes = o.bytes ++ (k x (after a o)).bytes; value = (k x (after a o)).value }
follow a o k (Err e) = record { pos = o.pos; parts = o.parts; reports = o.reports; bytes = o.bytes; value = Err e }

-- one reading and then, unless it stopped, another from where it ended
infixr 20 ◌⨾◌
unfoldable pub ◌⨾◌ : {X Y : Type 0} → (At → Out X) → (X → At → Out Y) → At → Out Y
(f ⨾ k) a = follow a (f a) k (f a).value

-- nothing more
abbrev pub done : {X : Type 0} → X → At → Out X
done x a = record { pos = a.pos; parts = a.parts; reports = []; bytes = []; value = Ok x }

-- on to the place q
abbrev pub moved : ℕ → At → Out (Unit {0})
moved q a = record { pos = q; parts = a.parts; reports = []; bytes = []; value = Ok tt }

-- a report, and on to the place q
abbrev pub told : {X : Type 0} → X → Report → ℕ → At → Out X
told x r q a = record { pos = q; parts = a.parts; reports = r ∷ []; bytes = []; value = Ok x }

abbrev pub note : {X : Type 0} → X → Report → At → Out X
note x r a = told x r a.pos a

abbrev pub halt : {X : Type 0} → ReadingFault → At → Out X
halt e a = record { pos = a.pos; parts = a.parts; reports = []; bytes = []; value = Err e }

abbrev pub report_of : ReportKind → ℕ → ℕ → Report
report_of k p n = record { kind = k; start = p; length = n }

-- one part more, which begins at p; at most 128 are counted
abbrev pub part : ℕ → At → Out (Unit {0})
part p a = cond (nat_lt a.parts 128) (record { pos = a.pos; parts = a.parts + 1; reports = []; bytes = []; value = Ok tt }) (halt (Crowded p a.count) a)

-- blanks and the byte b, or a report at the place before the blanks
abbrev pub expect : List ℕ → ℕ → ReportKind → At → Out (Unit {0})
expect t b k a = cond (is_at t (skip t a.pos) b) (moved (skip t a.pos + 1) a) (note tt (report_of k a.pos 0) a)

-- a name as it was read: its part of the text or of the decoding space, and its bytes
pub record Called : Type 0 where
  pub name : Name
  pub bytes : List ℕ

abbrev pub called_as : List ℕ → names.Out → Option Name → Option Called
called_as t o None = None
called_as t o (Some n) = Some (record { name = n; bytes = spelt t o n })

-- a name without a byte is reported and goes on as such; a faulty one does not
abbrev pub called : List ℕ → ℕ → Named → Option Called
called t p n = cond (n.out.at == p) (Some (record { name = in_text p 0; bytes = [] })) (called_as t n.out n.name)

unfoldable pub text_at : List ℕ → At → Out (Option Called)
text_at t a =
    record {
      pos = (names.name_at t a.pos a.used).out.at;
      parts = a.parts;
      reports = (names.name_at t a.pos a.used).out.reports;
      bytes = (names.name_at t a.pos a.used).out.bytes;
      value = Ok (called t a.pos (names.name_at t a.pos a.used));
    }

-- a name that is a glob is checked; p is where it began
abbrev pub checked : ℕ → MatchKind → Option Called → At → Out (Option Called)
checked p k None a = done None a
checked p Equal (Some n) a = done (Some n) a
checked p Contains (Some n) a = done (Some n) a
checked p Glob (Some n) a = cond (is_some (items_of n.bytes)) (done (Some n) a) (note None (report_of InvalidGlob p (a.pos - p)) a)

-- a name, and how it is matched
pub record Matched : Type 0 where
  pub kind : MatchKind
  pub called : Called

abbrev pub matched_by : MatchKind → Option Called → At → Out (Option Matched)
matched_by k None a = done None a
matched_by k (Some n) a = done (Some (record { kind = k; called = n })) a

unfoldable pub matcher_at : List ℕ → MatchKind → At → Out (Option Matched)
matcher_at t k a = (text_at t ⨾ (λ n. checked a.pos k n ⨾ matched_by k)) a

-- what follows a mark, or stands there without one, after the blanks
abbrev pub argument_for : List ℕ → MatchKind → Mark → At → Out (Option Matched)
argument_for t k mark.Regex a = halt (Regex a.pos a.count) a
argument_for t k (mark.Marked m) a = (moved (a.pos + 1) ⨾ (λ _. matcher_at t m)) a
argument_for t k mark.Unmarked a = matcher_at t k a

unfoldable pub argument_at : List ℕ → MatchKind → At → Out (Option Matched)
argument_at t k a = (moved (skip t a.pos) ⨾ (λ _ b. argument_for t k (mark_at t b.pos) b)) a

-- a comma is reported, and all up to `)` is passed over
unfoldable pub comma_at : List ℕ → At → Out (Unit {0})
comma_at t a = cond (is_at t a.pos 44) (told tt (report_of UnexpectedComma a.pos 0) (closing t a.pos) a) (done tt a)

abbrev pub open_at : List ℕ → At → Out (Unit {0})
open_at t = expect t 40 ExpectedOpenParenthesis

abbrev pub close_at : List ℕ → At → Out (Unit {0})
close_at t = expect t 41 ExpectedCloseParenthesis

abbrev pub closed_at : List ℕ → At → Out (Unit {0})
closed_at t = comma_at t ⨾ (λ _. close_at t)

abbrev pub matched_leaf : Predicate → Place → Option Matched → Tree Called
matched_leaf p at None = Tree.bad
matched_leaf p at (Some m) = Tree.set (Leaf.matched p m.kind m.called at)

-- a set that takes a name
unfoldable pub unary_at : List ℕ → Predicate → At → Out (Tree Called)
unary_at t p = open_at t ⨾ (λ _ a. (argument_at t (usual p) ⨾ (λ m b. (closed_at t ⨾ (λ _. done (matched_leaf p (between a.pos b.pos) m))) b)) a)

-- the platform that a name says, with white space around it
abbrev pub says_word : List ℕ → List ℕ → ℕ → Bool
says_word b w p = begins_at b p w && white_end b (p + length w) == length b

unfoldable pub platform_of : List ℕ → Option BuildPlatform
platform_of b = cond (says_word b (codes "host") (white_end b 0)) (Some Host) (cond (says_word b (codes "target") (white_end b 0)) (Some Target) None)

abbrev pub platform_by : Place → Option BuildPlatform → At → Out (Tree Called)
platform_by at None a = note Tree.bad (report_of InvalidPlatformArgument at.start at.length) a
platform_by at (Some h) a = done (Tree.set (Leaf.platform h at)) a

abbrev pub platform_leaf : Place → Option Called → At → Out (Tree Called)
platform_leaf at None a = done Tree.bad a
platform_leaf at (Some n) a = platform_by at (platform_of n.bytes) a

unfoldable pub platform_at : List ℕ → At → Out (Tree Called)
platform_at t =
    open_at t ⨾ (λ _ a.
    (moved (skip t a.pos) ⨾ (λ _. text_at t ⨾ (λ n b. (closed_at t ⨾ (λ _. platform_leaf (between a.pos b.pos) n)) b))) a)

abbrev pub nullary_leaf : Nullary → Place → Tree Called
nullary_leaf nullary.Default at = Tree.set (Leaf.default at)
nullary_leaf nullary.All at = Tree.set Leaf.all
nullary_leaf nullary.None at = Tree.set Leaf.none

-- only white space
abbrev pub all_white : List ℕ → Bool
all_white s = white_end s 0 == length s

-- all from p up to q is passed over, and reported unless it is white space
abbrev pub nothing_to : List ℕ → ℕ → ℕ → At → Out (Unit {0})
nothing_to t p q a = cond (all_white (take (q - p) (drop p t))) (moved q a) (told tt (report_of UnexpectedArgument p (q - p)) q a)

-- and so is all up to `)`
unfoldable pub nothing_at : List ℕ → At → Out (Unit {0})
nothing_at t a = nothing_to t a.pos (closing t a.pos) a

-- a set that takes nothing, whose name begins at p
unfoldable pub nullary_at : List ℕ → Nullary → ℕ → At → Out (Tree Called)
nullary_at t n p = open_at t ⨾ (λ _. nothing_at t ⨾ (λ _. close_at t ⨾ (λ _ a. done (nullary_leaf n (between p a.pos)) a)))

-- a set after its name, which begins at p
abbrev pub set_at : List ℕ → ℕ → SetName → At → Out (Tree Called)
set_at t p (sets.Matched q) = unary_at t q
set_at t p sets.Platform = platform_at t
set_at t p (sets.Nullary n) = nullary_at t n p

abbrev pub fault_of : Option ReportKind → ℕ → ℕ → At → Out (Unit {0})
fault_of None p n a = done tt a
fault_of (Some k) p n a = note tt (report_of k p n) a

-- a sign that joins is a part; one of another language is reported
abbrev pub sign_for : ℕ → Option Sign → At → Out (Option Operator)
sign_for p None a = done None a
sign_for p (Some s) a = (moved (p + s.length) ⨾ (λ _. part p ⨾ (λ _. fault_of s.fault p s.length ⨾ (λ _. done (Some s.operator))))) a

unfoldable pub or_sign : List ℕ → At → Out (Option Operator)
or_sign t a = sign_for (skip t a.pos) (or_sign_at t (skip t a.pos)) a

unfoldable pub and_sign : List ℕ → At → Out (Option Operator)
and_sign t a = sign_for (skip t a.pos) (and_sign_at t (skip t a.pos)) a

abbrev pub onward : Tree Called → (Operator → At → Out (Tree Called)) → Option Operator → At → Out (Tree Called)
onward x k None = done x
onward x k (Some o) = k o

-- further operands, each after a sign, joined from the left; fuel bounds the signs
unfoldable pub joined_at : (At → Out (Option Operator)) → (At → Out (Tree Called)) → ℕ → Tree Called → At → Out (Tree Called)
joined_at sign one zero x = done x
joined_at sign one (suc f) x = sign ⨾ onward x (λ o. one ⨾ (λ y. joined_at sign one f (Tree.joined o x y)))

unfoldable pub chain_at : List ℕ → (At → Out (Option Operator)) → (At → Out (Tree Called)) → At → Out (Tree Called)
chain_at t sign one = one ⨾ joined_at sign one (length t)

abbrev pub and_with : List ℕ → (At → Out (Tree Called)) → At → Out (Tree Called)
and_with t basic = chain_at t (and_sign t) basic

abbrev pub or_with : List ℕ → (At → Out (Tree Called)) → At → Out (Tree Called)
or_with t basic = chain_at t (or_sign t) (and_with t basic)

-- what follows a not sign, and an opening bracket
pub record Under : Type 0 where
  pub not : At → Out (Tree Called)
  pub group : At → Out (Tree Called)

abbrev pub deeper : ℕ → At → Out (Tree Called)
deeper p a = halt (Deep p a.count) a

-- what is left of so many nests when one more is opened at p, which is a part
abbrev pub left : ℕ → ℕ → At → Out ℕ
left p zero a = halt (Deep p a.count) a
left p (suc n) a = done n a

abbrev pub opened : ℕ → ℕ → At → Out ℕ
opened p n = part p ⨾ (λ _. left p n)

-- an operand by what it begins with, from p on
abbrev pub operand_for : List ℕ → (ℕ → Under) → ℕ → Opening → At → Out (Tree Called)
operand_for t under p o = elim o.lead as (λ _. At → Out (Tree Called)) [
  | lead.Set s ↦ moved (p + o.length) ⨾ (λ _. part p ⨾ (λ _. set_at t p s))
  | lead.Not ↦ moved (p + o.length) ⨾ (λ _. part p ⨾ (λ _. (under p).not))
  | lead.Group ↦ moved (p + o.length) ⨾ (λ _. part p ⨾ (λ _. (under p).group))
  | lead.Misplaced k ↦ told Tree.bad (report_of k p o.length) (p + o.length)
]

abbrev pub operand_by : List ℕ → (ℕ → Under) → Option Opening → At → Out (Tree Called)
operand_by t under None a = note Tree.bad (report_of ExpectedExpr a.pos (length t - a.pos)) a
operand_by t under (Some o) a = operand_for t under (skip t a.pos) o a

abbrev pub operand_at : List ℕ → (ℕ → Under) → At → Out (Tree Called)
operand_at t under a = operand_by t under (opening_at t (skip t a.pos)) a

-- with no nest left
abbrev pub deepest : ℕ → Under
deepest p = record { not = deeper p; group = deeper p }

-- with a nest opened, in which basic reads an operand
abbrev pub within : List ℕ → (At → Out (Tree Called)) → ℕ → Under
within t basic p = record {
  not = basic ⨾ (λ x. done (Tree.negated x));
  group = or_with t basic ⨾ (λ x. close_at t ⨾ (λ _. done (Tree.group x)));
}

-- a basic, with so many nests left
unfoldable pub basic_at : List ℕ → ℕ → At → Out (Tree Called)
basic_at t zero = operand_at t deepest
basic_at t (suc n) = operand_at t (within t (basic_at t n))

-- what follows a sign that opens a nest, with so many nests left
abbrev pub under_at : List ℕ → ℕ → ℕ → Under
under_at t zero = deepest
under_at t (suc n) = within t (basic_at t n)

abbrev pub and_at : List ℕ → ℕ → At → Out (Tree Called)
and_at t n = and_with t (basic_at t n)

abbrev pub or_at : List ℕ → ℕ → At → Out (Tree Called)
or_at t n = or_with t (basic_at t n)

-- blanks and the end, or a report of all that is left
abbrev pub end_at : List ℕ → At → Out (Unit {0})
end_at t a = cond (skip t a.pos == length t) (moved (length t) a) (note tt (report_of ExpectedEndOfExpression a.pos (length t - a.pos)) a)

unfoldable pub filter_at : List ℕ → At → Out (Tree Called)
filter_at t = or_at t 32 ⨾ (λ x. end_at t ⨾ (λ _. done x))

-- the reading of a whole text
abbrev pub reading_of : List ℕ → Out (Tree Called)
reading_of t = filter_at t (record { pos = 0; parts = 0; count = 0; used = 0 })
