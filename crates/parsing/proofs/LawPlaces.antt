-- Where the rules lead: every rule takes bytes, stays in the text, and begins with a byte that tells it apart.
use Rattle.std.proofs.Common.{◌≡◌, ℕ, ◌<◌, ◌≤◌, List, [], ◌∷◌, ◌++◌, length, get_or, drop, sym, ap, ◌∙◌, add-zero, arith}
use Rattle.std.proofs.lemmas.List.{get_or-drop}
use Rattle.parsing.specs.declared.nodes.Predicate.{Predicate}
use Rattle.parsing.specs.declared.nodes.Predicate.TheVariants.{Package, Deps, Rdeps, Kind, BinaryId, Binary, Test, Group}
use Rattle.expression.specs.declared.name_matcher.MatchKind.{MatchKind}
use Rattle.parsing.specs.declared.nodes.Operator.{Operator}
use Rattle.parsing.specs.Grammar.{Blank, Blanks, NoBlank, Stands, NotSign, AndSign, OrSign, Open, Nothing, Argument, Set, Basic, AndExpr, OrExpr}
use Rattle.parsing.specs.Tree.{Leaf, Tree}
use Rattle.parsing.specs.Words.{name_of}
use Rattle.parsing.proofs.LawArguments.{no-blank}
use Rattle.parsing.proofs.LawBlanks.{blanks-on, head_at}
use Rattle.parsing.proofs.LawNames.{spells-on}
use Rattle.parsing.proofs.LawSound.{stands_on}
use Rattle.parsing.proofs.LawWords.{stands-rest}

-- from i on to j, within the text
pub record On (t : List ℕ) (i j : ℕ) : Type 0 where
  pub less : i < j
  pub within : j ≤ length t

stands-to : (t : List ℕ) (b : ℕ) (w : List ℕ) (i j : ℕ) → Stands t (b ∷ w) i j → On t i j
stands-to t b w i j s = record { less = omega (arith, s.end); within = stands_on t (b ∷ w) i j (omega arith) s }

pub name-to : (t : List ℕ) (p : Predicate) (i j : ℕ) → Stands t (name_of p) i j → On t i j
name-to t Package i j s = stands-to t 112 _ i j s
name-to t Deps i j s = stands-to t 100 _ i j s
name-to t Rdeps i j s = stands-to t 114 _ i j s
name-to t Kind i j s = stands-to t 107 _ i j s
name-to t BinaryId i j s = stands-to t 98 _ i j s
name-to t Binary i j s = stands-to t 98 _ i j s
name-to t Test i j s = stands-to t 116 _ i j s
name-to t Group i j s = stands-to t 103 _ i j s

pub open-to : (t : List ℕ) (i j : ℕ) → Open t i j → i ≤ length t → On t i j
open-to t i j o h =
    let b = blanks-on t o.blanks h in
    let s = stands-to t 40 [] o.start j o.bracket in
    record { less = omega (arith, b.0, s.less); within = s.within }

argument-to : (t : List ℕ) (p : Predicate) (i j : ℕ) (b : List ℕ) (m : MatchKind) → Argument t p i j b m → i ≤ length t → On t i j
argument-to t p i j b m (Argument.equal {k} {l} bl st s) h = let x = blanks-on t bl h in let y = stands-to t 61 [] k l st in let z = spells-on t l j b s in record { less = omega (arith, x.0, y.less, z.0); within = z.1 }
argument-to t p i j b m (Argument.contains {k} {l} bl st s) h = let x = blanks-on t bl h in let y = stands-to t 126 [] k l st in let z = spells-on t l j b s in record { less = omega (arith, x.0, y.less, z.0); within = z.1 }
argument-to t p i j b m (Argument.glob {k} {l} bl st s) h = let x = blanks-on t bl h in let y = stands-to t 35 [] k l st in let z = spells-on t l j b s in record { less = omega (arith, x.0, y.less, z.0); within = z.1 }
argument-to t p i j b m (Argument.unmarked {k} bl u s) h = let x = blanks-on t bl h in let z = spells-on t k j b s in record { less = omega (arith, x.0, z.0); within = z.1 }

nothing-to : (t : List ℕ) (b : ℕ) (w : List ℕ) (i j : ℕ) → Nothing t (b ∷ w) i j → On t i j
nothing-to t b w i j r =
    let x = stands-to t b w i r.named r.name in let y = open-to t r.named r.from r.opened x.within in let z = stands-to t 41 [] r.to j r.close in
    record { less = omega (arith, x.less, y.less, r.order, z.less); within = z.within }

pub set_to : (t : List ℕ) (i j : ℕ) (l : Leaf (List ℕ)) → Set t i j l → On t i j
set_to t i j x (Set.matched {p} {m} {b} {k} {l} {n} st o arg cl) =
    let a = name-to t p i k st in let c = open-to t k l o a.within in let d = argument-to t p l n b m arg c.within in let e = stands-to t 41 [] n j cl in
    record { less = omega (arith, a.less, c.less, d.less, e.less); within = e.within }
set_to t i j x (Set.platform {h} {b} {k} {l} {m} {n} st o bl free s name cl) =
    let a = stands-to t 112 _ i k st in let c = open-to t k l o a.within in let d = blanks-on t bl c.within in let f = spells-on t m n b s in let e = stands-to t 41 [] n j cl in
    record { less = omega (arith, a.less, c.less, d.0, f.0, e.less); within = e.within }
set_to t i j x (Set.default r) = nothing-to t 100 _ i j r
set_to t i j x (Set.all r) = nothing-to t 97 _ i j r
set_to t i j x (Set.none r) = nothing-to t 110 _ i j r

pub not-to : (t : List ℕ) (i j : ℕ) → NotSign t i j → On t i j
not-to t i j (NotSign.word k) = stands-to t 110 _ i j k.stands
not-to t i j (NotSign.mark k) = stands-to t 33 [] i j k

pub and-sign-to : (t : List ℕ) (i j : ℕ) (o : Operator) → AndSign t i j o → On t i j
and-sign-to t i j o (AndSign.word k) = stands-to t 97 _ i j k.stands
and-sign-to t i j o (AndSign.mark k) = stands-to t 38 [] i j k
and-sign-to t i j o (AndSign.minus k) = stands-to t 45 [] i j k

pub or-sign-to : (t : List ℕ) (i j : ℕ) → OrSign t i j → On t i j
or-sign-to t i j (OrSign.word k) = stands-to t 111 _ i j k.stands
or-sign-to t i j (OrSign.bar k) = stands-to t 124 [] i j k
or-sign-to t i j (OrSign.plus k) = stands-to t 43 [] i j k

mutual
  pub basic-to : (t : List ℕ) {i j : ℕ} {x : Tree (List ℕ)} → Basic t i j x → i ≤ length t → On t i j
  basic-to t (Basic.set {i} {k} {j} {l} bl s) h = let a = blanks-on t bl h in let b = set_to t k j l s in record { less = omega (arith, a.0, b.less); within = b.within }
  basic-to t (Basic.not {i} {k} {l} {j} bl s b) h =
      let a = blanks-on t bl h in let c = not-to t k l s in let d = basic-to t b c.within in record { less = omega (arith, a.0, c.less, d.less); within = d.within }
  basic-to t (Basic.group {i} {k} {l} {m} {j} o e bl cl) h =
      let a = open-to t i k o h in let b = or-to t e a.within in let c = blanks-on t bl b.within in let d = stands-to t 41 [] m j cl in
      record { less = omega (arith, a.less, b.less, c.0, d.less); within = d.within }

  pub and-to : (t : List ℕ) {i j : ℕ} {x : Tree (List ℕ)} → AndExpr t i j x → i ≤ length t → On t i j
  and-to t (AndExpr.basic b) h = basic-to t b h
  and-to t (AndExpr.and {i} {k} {l} {m} {j} {o} e bl s b) h =
      let a = and-to t e h in let c = blanks-on t bl a.within in let d = and-sign-to t l m o s in let f = basic-to t b d.within in
      record { less = omega (arith, a.less, c.0, d.less, f.less); within = f.within }

  pub or-to : (t : List ℕ) {i j : ℕ} {x : Tree (List ℕ)} → OrExpr t i j x → i ≤ length t → On t i j
  or-to t (OrExpr.and_expr e) h = and-to t e h
  or-to t (OrExpr.or {i} {k} {l} {m} {j} e bl s f) h =
      let a = or-to t e h in let c = blanks-on t bl a.within in let d = or-sign-to t l m s in let g = and-to t f d.within in
      record { less = omega (arith, a.less, c.0, d.less, g.less); within = g.within }

-- the first byte of a word
pub first_byte : (t : List ℕ) (b : ℕ) (w : List ℕ) (i j : ℕ) → Stands t (b ∷ w) i j → get_or t i 0 ≡ b
first_byte t b w i j s = head_at t i b (w ++ drop j t) (stands-rest t (b ∷ w) i j s)

-- no blank stands where a word begins
pub free : (t : List ℕ) (b : ℕ) (w : List ℕ) (i j : ℕ) → 33 ≤ b → Stands t (b ∷ w) i j → NoBlank t i
free t b w i j h s = no-blank t i b (first_byte t b w i j s) (λ e. omega arith) (λ e. omega arith) (λ e. omega arith)

-- a byte that begins neither a blank nor an operand
pub record Apart (t : List ℕ) (i : ℕ) : Type 0 where
  pub bar : get_or t i 0 ≡ 124 → ⊥
  pub both : get_or t i 0 ≡ 38 → ⊥

apart : (t : List ℕ) (i b : ℕ) → get_or t i 0 ≡ b → (b ≡ 124 → ⊥) → (b ≡ 38 → ⊥) → Apart t i
apart t i b e x y = record { bar = λ q. x (sym e ∙ q); both = λ q. y (sym e ∙ q) }

word-apart : (t : List ℕ) (b : ℕ) (w : List ℕ) (i j : ℕ) → (b ≡ 124 → ⊥) → (b ≡ 38 → ⊥) → Stands t (b ∷ w) i j → Apart t i
word-apart t b w i j x y s = apart t i b (first_byte t b w i j s) x y

name-apart : (t : List ℕ) (p : Predicate) (i j : ℕ) → Stands t (name_of p) i j → Apart t i
name-apart t Package i j s = word-apart t 112 _ i j (λ e. omega arith) (λ e. omega arith) s
name-apart t Deps i j s = word-apart t 100 _ i j (λ e. omega arith) (λ e. omega arith) s
name-apart t Rdeps i j s = word-apart t 114 _ i j (λ e. omega arith) (λ e. omega arith) s
name-apart t Kind i j s = word-apart t 107 _ i j (λ e. omega arith) (λ e. omega arith) s
name-apart t BinaryId i j s = word-apart t 98 _ i j (λ e. omega arith) (λ e. omega arith) s
name-apart t Binary i j s = word-apart t 98 _ i j (λ e. omega arith) (λ e. omega arith) s
name-apart t Test i j s = word-apart t 116 _ i j (λ e. omega arith) (λ e. omega arith) s
name-apart t Group i j s = word-apart t 103 _ i j (λ e. omega arith) (λ e. omega arith) s

set_apart : (t : List ℕ) (i j : ℕ) (l : Leaf (List ℕ)) → Set t i j l → Apart t i
set_apart t i j x (Set.matched {p} {m} {b} {k} st o arg cl) = name-apart t p i k st
set_apart t i j x (Set.platform {h} {b} {k} st o bl f s name cl) = word-apart t 112 _ i k (λ e. omega arith) (λ e. omega arith) st
set_apart t i j x (Set.default r) = word-apart t 100 _ i r.named (λ e. omega arith) (λ e. omega arith) r.name
set_apart t i j x (Set.all r) = word-apart t 97 _ i r.named (λ e. omega arith) (λ e. omega arith) r.name
set_apart t i j x (Set.none r) = word-apart t 110 _ i r.named (λ e. omega arith) (λ e. omega arith) r.name

not-apart : (t : List ℕ) (i j : ℕ) → NotSign t i j → Apart t i
not-apart t i j (NotSign.word k) = word-apart t 110 _ i j (λ e. omega arith) (λ e. omega arith) k.stands
not-apart t i j (NotSign.mark k) = word-apart t 33 [] i j (λ e. omega arith) (λ e. omega arith) k

blanks-apart : (t : List ℕ) {i k : ℕ} → Blanks t i k → Apart t k → Apart t i
blanks-apart t Blanks.none a = a
blanks-apart t (Blanks.more {i} {k} b r) a = byte k b
  where
    byte : (k : ℕ) → Blank t i k → Apart t i
    byte k (Blank.space e) = apart t i 32 e (λ e. omega arith) (λ e. omega arith)
    byte k (Blank.newline e) = apart t i 10 e (λ e. omega arith) (λ e. omega arith)
    byte k (Blank.return e f) = apart t i 13 e (λ e. omega arith) (λ e. omega arith)

pub basic-apart : (t : List ℕ) {i j : ℕ} {x : Tree (List ℕ)} → Basic t i j x → Apart t i
basic-apart t (Basic.set {i} {k} {j} {l} bl s) = blanks-apart t bl (set_apart t k j l s)
basic-apart t (Basic.not {i} {k} {l} bl s b) = blanks-apart t bl (not-apart t k l s)
basic-apart t (Basic.group {i} {k} o e bl cl) = blanks-apart t o.blanks (word-apart t 40 [] o.start k (λ e. omega arith) (λ e. omega arith) o.bracket)

pub and-apart : (t : List ℕ) {i j : ℕ} {x : Tree (List ℕ)} → AndExpr t i j x → Apart t i
and-apart t (AndExpr.basic b) = basic-apart t b
and-apart t (AndExpr.and e bl s b) = and-apart t e

-- an opening bracket follows a name, so the name goes no further
blanks-byte : (t : List ℕ) {i k : ℕ} → Blanks t i k → get_or t k 0 ≡ 40 → get_or t i 0 ≡ 95 → ⊥
blanks-byte t Blanks.none e q = omega arith
blanks-byte t (Blanks.more {i} {k} b r) e q = byte k b
  where
    byte : (k : ℕ) → Blank t i k → ⊥
    byte k (Blank.space f) = omega arith
    byte k (Blank.newline f) = omega arith
    byte k (Blank.return f g) = omega arith

pub open-byte : (t : List ℕ) (i j : ℕ) → Open t i j → get_or (drop i t) 0 0 ≡ 95 → ⊥
open-byte t i j o e = blanks-byte t o.blanks (first_byte t 40 [] o.start j o.bracket) (ap (λ k. get_or t k 0) (sym (add-zero i)) ∙ sym (get_or-drop i t 0 0) ∙ e)
