-- The names that a filter keeps have no more bytes than its text.
use Rattle.std.proofs.Common.{ℕ, ◌+◌, ◌-◌, ◌<◌, ◌≤◌, List, length, drop, ap, arith, length-append}
use Rattle.std.proofs.lemmas.List.{length-take}
use Rattle.std.proofs.lemmas.Str.{length-encode, len_utf8_bounds, len_utf8_ascii}
use Rattle.unicode_string.specs.Grammar.{Letter, Escaped, Fragment, Fragments, Spells}
use Rattle.expression.specs.declared.name_matcher.MatchKind.{MatchKind}
use Rattle.parsing.specs.declared.nodes.Operator.{Operator}
use Rattle.parsing.specs.declared.nodes.Predicate.{Predicate}
use Rattle.parsing.specs.declared.nodes.Predicate.TheVariants.{Package, Deps, Rdeps, Kind, BinaryId, Binary, Test, Group}
use Rattle.parsing.specs.Grammar.{Blank, Blanks, Stands, NotSign, AndSign, OrSign, Argument, Open, Nothing, Set, Basic, AndExpr, OrExpr, Filter}
use Rattle.parsing.specs.Tree.{Leaf, Tree}
use Rattle.compile.specs.Filters.{kept}
use Rattle.compile.specs.Lowered.{matched_name, name_for}

letter-low : {b c : ℕ} → Letter b c → c < 128
letter-low Letter.newline = omega arith
letter-low Letter.return = omega arith
letter-low Letter.tab = omega arith
letter-low Letter.back = omega arith
letter-low Letter.feed = omega arith
letter-low Letter.backslash = omega arith
letter-low Letter.slash = omega arith
letter-low Letter.close = omega arith
letter-low Letter.comma = omega arith

fragment-short : (t : List ℕ) (i j : ℕ) (b : List ℕ) → Fragment t i j b → length b + i ≤ j
fragment-short t i j b (Fragment.literal r) = omega (arith, r.order, length-take (j - i) (drop i t))
fragment-short t i j b (Fragment.escaped {c} h e (Escaped.letter q w l)) = omega (arith, length-encode c, len_utf8_ascii c (letter-low l))
fragment-short t i j b (Fragment.escaped {c} h e (Escaped.unicode u)) = omega (arith, u.some, u.end, length-encode c, (len_utf8_bounds c).1)

fragments-short : (t : List ℕ) {i j : ℕ} {b : List ℕ} → Fragments t i j b → length b + i ≤ j
fragments-short t Fragments.none = omega arith
fragments-short t (Fragments.more {i} {k} {j} {b} {c} f r) = omega (arith, fragment-short t i k b f, fragments-short t r, length-append b c)

spells-short : (t : List ℕ) (i j : ℕ) (b : List ℕ) → Spells t i j b → length b + i ≤ j
spells-short t i j b s = omega (arith, fragment-short t i s.middle s.head s.first, fragments-short t s.rest, ap length s.bytes, length-append s.head s.tail)

blank-on : (t : List ℕ) (i : ℕ) {j : ℕ} → Blank t i j → i ≤ j
blank-on t i (Blank.space e) = omega arith
blank-on t i (Blank.newline e) = omega arith
blank-on t i (Blank.return e f) = omega arith

blanks-on : (t : List ℕ) {i j : ℕ} → Blanks t i j → i ≤ j
blanks-on t Blanks.none = omega arith
blanks-on t (Blanks.more {i} {k} {j} b bs) = omega (arith, blank-on t i b, blanks-on t bs)

stands_on : (t w : List ℕ) (i j : ℕ) → Stands t w i j → i ≤ j
stands_on t w i j s = omega (arith, s.end)

open-on : (t : List ℕ) (i j : ℕ) → Open t i j → i ≤ j
open-on t i j o = omega (arith, blanks-on t o.blanks, stands_on t _ o.start j o.bracket)

not_on : (t : List ℕ) (i j : ℕ) → NotSign t i j → i ≤ j
not_on t i j (NotSign.word k) = stands_on t _ i j k.stands
not_on t i j (NotSign.mark s) = stands_on t _ i j s

and-on : (t : List ℕ) (i j : ℕ) {o : Operator} → AndSign t i j o → i ≤ j
and-on t i j (AndSign.word k) = stands_on t _ i j k.stands
and-on t i j (AndSign.mark s) = stands_on t _ i j s
and-on t i j (AndSign.minus s) = stands_on t _ i j s

or-on : (t : List ℕ) (i j : ℕ) → OrSign t i j → i ≤ j
or-on t i j (OrSign.word k) = stands_on t _ i j k.stands
or-on t i j (OrSign.bar s) = stands_on t _ i j s
or-on t i j (OrSign.plus s) = stands_on t _ i j s

argument-short : (t : List ℕ) (p : Predicate) (i j : ℕ) (b : List ℕ) {m : MatchKind} → Argument t p i j b m → length b + i ≤ j
argument-short t p i j b (Argument.equal {k} {l} bl s n) = omega (arith, blanks-on t bl, stands_on t _ k l s, spells-short t l j b n)
argument-short t p i j b (Argument.contains {k} {l} bl s n) = omega (arith, blanks-on t bl, stands_on t _ k l s, spells-short t l j b n)
argument-short t p i j b (Argument.glob {k} {l} bl s n) = omega (arith, blanks-on t bl, stands_on t _ k l s, spells-short t l j b n)
argument-short t p i j b (Argument.unmarked {k} bl u n) = omega (arith, blanks-on t bl, spells-short t k j b n)

nothing-on : (t w : List ℕ) (i j : ℕ) → Nothing t w i j → i ≤ j
nothing-on t w i j n = omega (arith, stands_on t w i n.named n.name, open-on t n.named n.from n.opened, n.order, stands_on t _ n.to j n.close)

name-short : (p : Predicate) (v : List ℕ) → length (matched_name p v) ≤ length v
name-short Package v = omega arith
name-short Deps v = omega arith
name-short Rdeps v = omega arith
name-short Kind v = omega arith
name-short BinaryId v = omega arith
name-short Binary v = omega arith
name-short Test v = omega arith
name-short Group v = omega arith

set-short : (t : List ℕ) (i j : ℕ) {l : Leaf (List ℕ)} → Set t i j l → length (name_for l) + i ≤ j
set-short t i j (Set.matched {p} {m} {b} {k} {l} {n} s o a c) = omega (arith, stands_on t _ i k s, open-on t k l o, argument-short t p l n b a, stands_on t _ n j c, name-short p b)
set-short t i j (Set.platform {h} {b} {k} {l} {m} {n} s o bl nb sp pn c) = omega (arith, stands_on t _ i k s, open-on t k l o, blanks-on t bl, spells-short t m n b sp, stands_on t _ n j c)
set-short t i j (Set.default n) = omega (arith, nothing-on t _ i j n)
set-short t i j (Set.all n) = omega (arith, nothing-on t _ i j n)
set-short t i j (Set.none n) = omega (arith, nothing-on t _ i j n)

mutual
  basic-short : (t : List ℕ) {i j : ℕ} {x : Tree (List ℕ)} → Basic t i j x → length (kept x) + i ≤ j
  basic-short t (Basic.set {i} {k} {j} {l} bl s) = omega (arith, blanks-on t bl, set-short t k j s)
  basic-short t (Basic.not {i} {k} {l} {j} bl s b) = omega (arith, blanks-on t bl, not_on t k l s, basic-short t b)
  basic-short t (Basic.group {i} {k} {l} {m} {j} o e bl c) = omega (arith, open-on t i k o, or_short t e, blanks-on t bl, stands_on t _ m j c)

  and-short : (t : List ℕ) {i j : ℕ} {x : Tree (List ℕ)} → AndExpr t i j x → length (kept x) + i ≤ j
  and-short t (AndExpr.basic b) = basic-short t b
  and-short t (AndExpr.and {i} {k} {l} {m} {j} {o} {x} {y} e bl s b) = omega (arith, and-short t e, blanks-on t bl, and-on t l m s, basic-short t b, length-append (kept x) (kept y))

  or_short : (t : List ℕ) {i j : ℕ} {x : Tree (List ℕ)} → OrExpr t i j x → length (kept x) + i ≤ j
  or_short t (OrExpr.and_expr e) = and-short t e
  or_short t (OrExpr.or {i} {k} {l} {m} {j} {x} {y} e bl s b) = omega (arith, or_short t e, blanks-on t bl, or-on t l m s, and-short t b, length-append (kept x) (kept y))

pub kept-short : (t : List ℕ) (x : Tree (List ℕ)) → Filter t x → length (kept x) ≤ length t
kept-short t x f = omega (arith, or_short t f.expr, blanks-on t f.rest)
