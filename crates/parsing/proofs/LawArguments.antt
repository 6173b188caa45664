-- The argument of a set: blanks, a mark or none, and a name.
use Rattle.std.proofs.Common.{◌≡◌, ℕ, ◌+◌, ◌<◌, ◌≤◌, Bool, true, false, cond, eqb, ltb, List, [], ◌∷◌, length, get_or, drop, Some, codes, Option, sym, refl, ap, ◌∙◌, subst, add-zero, arith}
use Rattle.std.proofs.lemmas.List.{drop_more}
use Rattle.std.proofs.lemmas.Bool.{ne_eqb, eq-eqb, ltb-true, lt-ltb, and_parts, and_from, both_ways}
use Rattle.unicode_string.specs.Grammar.{Spells}
use Rattle.parsing.specs.declared.nodes.Predicate.{Predicate}
use Rattle.expression.specs.declared.name_matcher.MatchKind.{MatchKind}
use Rattle.expression.specs.declared.name_matcher.MatchKind.TheVariants.{Equal, Contains, Glob}
use Rattle.parsing.specs.declared.words.Mark.{Mark}
use Rattle.parsing.specs.declared.words.Mark.TheVariants as mark
use Rattle.parsing.specs.Grammar.{Blank, Blanks, NoBlank, Stands, Argument}
use Rattle.parsing.specs.Reading.{At, Out, after, Called, Matched, matcher_at, argument_for, argument_at, moved, ◌⨾◌}
use Rattle.parsing.specs.Text.{is_at, skip}
use Rattle.parsing.specs.Words.{usual, mark_at}
use Rattle.parsing.proofs.LawBlanks.{inside, skip-blanks, skip-stops, blanks-end, blanks-on, head_at}
use Rattle.parsing.proofs.LawNames.{FineBy, matcher-sound, matcher-whole, spells-on}
use Rattle.parsing.proofs.LawRuns.{Reads, reads_then, Clean, clean-then}
use Rattle.parsing.proofs.LawWords.{prefix-stands, stands-rest}

-- one byte that stands at a place
pub at-stands : (t : List ℕ) (p b : ℕ) → is_at t p b ≡ true → Stands t (b ∷ []) p (p + 1)
at-stands t p b h =
    let a = and_parts (ltb p (length t)) (eqb (get_or t p 0) b) h in
    prefix-stands t (b ∷ []) p (rw (drop_more t p 0 (ltb-true p (length t) a.0), a.1))

pub byte_at : (t : List ℕ) (p b : ℕ) → get_or t p 0 ≡ b → 0 < b → is_at t p b ≡ true
byte_at t p b e h = and_from (ltb p (length t)) (eqb (get_or t p 0) b) (lt-ltb p (length t) (inside t p b e h)) (eq-eqb (get_or t p 0) b e)

pub not_at : (t : List ℕ) (p b : ℕ) → 0 < b → is_at t p b ≡ false → get_or t p 0 ≡ b → ⊥
not_at t p b h f e = both_ways (is_at t p b) f (byte_at t p b e h)

pub record Byte (t : List ℕ) (b i j : ℕ) : Type 0 where
  pub byte : get_or t i 0 ≡ b
  pub end : j ≡ i + 1
  pub within : j ≤ length t

pub stands-byte : (t : List ℕ) (b i j : ℕ) → 0 < b → Stands t (b ∷ []) i j → Byte t b i j
stands-byte t b i j h s =
    let e = head_at t i b (drop j t) (stands-rest t (b ∷ []) i j s) in
    record { byte = e; end = s.end; within = omega (arith, s.end, inside t i b e h) }

-- a byte that is no blank
pub no-blank : (t : List ℕ) (i b : ℕ) → get_or t i 0 ≡ b → (b ≡ 32 → ⊥) → (b ≡ 10 → ⊥) → (b ≡ 13 → ⊥) → NoBlank t i
no-blank t i b e x y z j (Blank.space q) = x (sym e ∙ q)
no-blank t i b e x y z j (Blank.newline q) = y (sym e ∙ q)
no-blank t i b e x y z j (Blank.return q r) = z (sym e ∙ q)

-- the mark, by the byte
abbrev pub mark_of : ℕ → Mark
mark_of c = cond (eqb c 47) mark.Regex (cond (eqb c 35) (mark.Marked Glob) (cond (eqb c 61) (mark.Marked Equal) (cond (eqb c 126) (mark.Marked Contains) mark.Unmarked)))

pub mark-of : (t : List ℕ) (p c : ℕ) → p < length t → get_or t p 0 ≡ c → mark_at t p ≡ mark_of c
unfolding mark_at
mark-of t p c h e = rw (lt-ltb p (length t) h, e)

pub unmarked-of : (c : ℕ) → (c ≡ 61 → ⊥) → (c ≡ 126 → ⊥) → (c ≡ 35 → ⊥) → (c ≡ 47 → ⊥) → mark_of c ≡ mark.Unmarked
unmarked-of c x y z w = rw (ne_eqb c 47 w, ne_eqb c 35 z, ne_eqb c 61 x, ne_eqb c 126 y)

-- what a mark says
abbrev Says : List ℕ → ℕ → Mark → Type 0
Says t p mark.Regex = Unit {0}
Says t p (mark.Marked Equal) = Stands t (codes "=") p (p + 1)
Says t p (mark.Marked Contains) = Stands t (codes "~") p (p + 1)
Says t p (mark.Marked Glob) = Stands t (codes "#") p (p + 1)
Says t p mark.Unmarked = (get_or t p 0 ≡ 61 → ⊥) × (get_or t p 0 ≡ 126 → ⊥) × (get_or t p 0 ≡ 35 → ⊥) × (get_or t p 0 ≡ 47 → ⊥)

mark-says : (t : List ℕ) (p : ℕ) → Says t p (mark_at t p)
unfolding mark_at
mark-says t p = slash (is_at t p 47) refl
  where
    wave : (x : Bool) → is_at t p 126 ≡ x → is_at t p 47 ≡ false → is_at t p 35 ≡ false → is_at t p 61 ≡ false → Says t p (cond x (mark.Marked Contains) mark.Unmarked)
    wave true e a b c = at-stands t p 126 e
    wave false e a b c = (not_at t p 61 (omega arith) c, not_at t p 126 (omega arith) e, not_at t p 35 (omega arith) b, not_at t p 47 (omega arith) a)

    equal : (x : Bool) → is_at t p 61 ≡ x → is_at t p 47 ≡ false → is_at t p 35 ≡ false → Says t p (cond x (mark.Marked Equal) (cond (is_at t p 126) (mark.Marked Contains) mark.Unmarked))
    equal true e a b = at-stands t p 61 e
    equal false e a b = wave (is_at t p 126) refl a b e

    hash : (x : Bool) → is_at t p 35 ≡ x → is_at t p 47 ≡ false → Says t p (cond x (mark.Marked Glob) (cond (is_at t p 61) (mark.Marked Equal) (cond (is_at t p 126) (mark.Marked Contains) mark.Unmarked)))
    hash true e a = at-stands t p 35 e
    hash false e a = equal (is_at t p 61) refl a e

    slash : (x : Bool) → is_at t p 47 ≡ x → Says t p (cond x mark.Regex (cond (is_at t p 35) (mark.Marked Glob) (cond (is_at t p 61) (mark.Marked Equal) (cond (is_at t p 126) (mark.Marked Contains) mark.Unmarked))))
    slash true e = tt
    slash false e = hash (is_at t p 35) refl e

-- an argument that was read without a report
pub record Argued (t : List ℕ) (p : Predicate) (a : At) (v : Option Matched) : Type 0 where
  pub matched : Matched
  pub is : v ≡ Some matched
  pub rule : Argument t p a.pos (argument_at t (usual p) a).pos matched.called.bytes matched.kind
  pub fine : FineBy matched.kind matched.called.bytes
  pub parts : (argument_at t (usual p) a).parts ≡ a.parts

-- the same after the blanks, up to j
record Past (t : List ℕ) (p : Predicate) (i : ℕ) (o : Out (Option Matched)) (v : Option Matched) : Type 0 where
  matched : Matched
  is : v ≡ Some matched
  rule : Argument t p i o.pos matched.called.bytes matched.kind
  fine : FineBy matched.kind matched.called.bytes

-- the same with what was read named
marked-past : (t : List ℕ) (p : Predicate) (i : ℕ) (m : MatchKind) (b : At) (v : Option Matched) →
    ((j : ℕ) (s : List ℕ) → Spells t (b.pos + 1) j s → Argument t p i j s m) → b.pos + 1 ≤ length t →
    Clean ((moved (b.pos + 1) ⨾ (λ _. matcher_at t m)) b) v → Past t p i ((moved (b.pos + 1) ⨾ (λ _. matcher_at t m)) b) v × (((moved (b.pos + 1) ⨾ (λ _. matcher_at t m)) b).parts ≡ b.parts)
marked-past t p i m b v rule h c =
    let s = clean-then (moved (b.pos + 1)) (λ _. matcher_at t m) b v c in
    let a = after b (moved (b.pos + 1) b) in
    let x = matcher-sound t m a v h s.second in (
      record {
        matched = record { kind = m; called = x.called };
        is = x.is;
        rule = rule ((moved (b.pos + 1) ⨾ (λ _. matcher_at t m)) b).pos x.called.bytes (subst (λ j. Spells t (b.pos + 1) j x.called.bytes) (sym s.pos) x.spells);
        fine = x.fine;
      },
      s.parts ∙ x.parts,
    )

past : (t : List ℕ) (p : Predicate) (i : ℕ) (b : At) (v : Option Matched) (m : Mark) → Says t b.pos m → Blanks t i b.pos → NoBlank t b.pos → b.pos ≤ length t →
    Clean (argument_for t (usual p) m b) v → Past t p i (argument_for t (usual p) m b) v × ((argument_for t (usual p) m b).parts ≡ b.parts)
past t p i b v mark.Regex s k free h c = let e = c.value in absurd (let z : ◌≡◌ {A = ℕ} 0 1 = cc in omega arith)
past t p i b v (mark.Marked Equal) s k free h c =
    marked-past t p i Equal b v (λ j w x. Argument.equal k s x) (stands-byte t 61 b.pos (b.pos + 1) (omega arith) s).within c
past t p i b v (mark.Marked Contains) s k free h c =
    marked-past t p i Contains b v (λ j w x. Argument.contains k s x) (stands-byte t 126 b.pos (b.pos + 1) (omega arith) s).within c
past t p i b v (mark.Marked Glob) s k free h c =
    marked-past t p i Glob b v (λ j w x. Argument.glob k s x) (stands-byte t 35 b.pos (b.pos + 1) (omega arith) s).within c
past t p i b v mark.Unmarked s k free h c =
    let x = matcher-sound t (usual p) b v h c in (
      record {
        matched = record { kind = usual p; called = x.called };
        is = x.is;
        rule = Argument.unmarked k (record { blank = free; equal = s.0; contains = s.1; glob = s.2; slash = s.3 }) x.spells;
        fine = x.fine;
      },
      x.parts,
    )

pub argument-sound : (t : List ℕ) (p : Predicate) (a : At) (v : Option Matched) → a.pos ≤ length t → Clean (argument_at t (usual p) a) v → Argued t p a v
unfolding argument_at
argument-sound t p a v h c =
    let q = skip t a.pos in
    let s = clean-then (moved q) (λ _ b. argument_for t (usual p) (mark_at t b.pos) b) a v c in
    let b = after a (moved q a) in
    let k = skip-blanks t a.pos in
    let y = past t p a.pos b v (mark_at t q) (mark-says t q) k (skip-stops t a.pos) (blanks-on t k h).1 s.second in
    record {
      matched = y.0.matched;
      is = y.0.is;
      rule = subst (λ j. Argument t p a.pos j y.0.matched.called.bytes y.0.matched.kind) (sym s.pos) y.0.rule;
      fine = y.0.fine;
      parts = s.parts ∙ y.1;
    }

-- an argument of the rules is read
pub record Arguing (t : List ℕ) (p : Predicate) (a : At) (j : ℕ) (b : List ℕ) (m : MatchKind) : Type 0 where
  pub called : Called
  pub reads : Reads a (argument_at t (usual p) a) j 0 (Some (record { kind = m; called = called }))
  pub bytes : called.bytes ≡ b

moved-reads : (q : ℕ) (b : At) → Reads b (moved q b) q 0 tt
moved-reads q b = record { value = refl; quiet = refl; pos = refl; parts = sym (add-zero b.parts) }

-- the same after the blanks, at the mark w
record ArguingAt (t : List ℕ) (p : Predicate) (w : Mark) (c : At) (j : ℕ) (b : List ℕ) (m : MatchKind) : Type 0 where
  called : Called
  reads : Reads c (argument_for t (usual p) w c) j 0 (Some (record { kind = m; called = called }))
  bytes : called.bytes ≡ b

argue : (t : List ℕ) (p : Predicate) (a : At) (k j : ℕ) (b : List ℕ) (m : MatchKind) (w : Mark) →
    Blanks t a.pos k → NoBlank t k → mark_at t k ≡ w → ((c : At) → c.pos ≡ k → ArguingAt t p w c j b m) → Arguing t p a j b m
unfolding argument_at
argue t p a k j b m w bl free e rd =
    let q = blanks-end t bl free in
    let c = after a (moved (skip t a.pos) a) in
    let y = rd c q in
    let r = y.reads in
    let x : Option Matched = Some (record { kind = m; called = y.called }) in
    let is : argument_for t (usual p) w c ≡ argument_for t (usual p) (mark_at t (skip t a.pos)) c = ap (λ (y : Mark). argument_for t (usual p) y c) (sym (ap (mark_at t) q ∙ e)) in
    let f : Reads c (argument_for t (usual p) (mark_at t c.pos) c) j 0 x = subst (λ (o : Out (Option Matched)). Reads c o j 0 x) is r in
    record {
      called = y.called;
      reads = reads_then (moved (skip t a.pos)) (λ _ b. argument_for t (usual p) (mark_at t b.pos) b) a (skip t a.pos) j 0 0 tt x (moved-reads (skip t a.pos) a) f;
      bytes = y.bytes;
    }

marked-at : (t : List ℕ) (p : Predicate) (m : MatchKind) (k j : ℕ) (b : List ℕ) → k + 1 ≤ length t → Spells t (k + 1) j b → FineBy m b →
    (c : At) → c.pos ≡ k → ArguingAt t p (mark.Marked m) c j b m
marked-at t p m k j b h s f c e =
    let d = after c (moved (c.pos + 1) c) in
    let q : k + 1 ≡ c.pos + 1 = ap (λ i. i + 1) (sym e) in
    let x = matcher-whole t m d j b (subst (λ i. i ≤ length t) q h) (subst (λ i. Spells t i j b) q s) f in
    record {
      called = x.called;
      reads = reads_then (moved (c.pos + 1)) (λ _. matcher_at t m) c (c.pos + 1) j 0 0 tt (Some (record { kind = m; called = x.called })) (moved-reads (c.pos + 1) c) x.reads;
      bytes = x.bytes;
    }

by-mark : (t : List ℕ) (p : Predicate) (m : MatchKind) (c : ℕ) (a : At) (k l j : ℕ) (b : List ℕ) → 0 < c → (c ≡ 32 → ⊥) → (c ≡ 10 → ⊥) → (c ≡ 13 → ⊥) → mark_of c ≡ mark.Marked m →
    Blanks t a.pos k → Stands t (c ∷ []) k l → Spells t l j b → FineBy m b → Arguing t p a j b m
by-mark t p m c a k l j b pos x y z is bl st s f =
    let w = stands-byte t c k l pos st in
    argue t p a k j b m (mark.Marked m) bl (no-blank t k c w.byte x y z) (mark-of t k c (inside t k c w.byte pos) w.byte ∙ is)
    (marked-at t p m k j b (omega (arith, w.end, w.within)) (subst (λ i. Spells t i j b) w.end s) f)

pub argument-whole : (t : List ℕ) (p : Predicate) (a : At) (j : ℕ) (b : List ℕ) (m : MatchKind) → Argument t p a.pos j b m → FineBy m b → Arguing t p a j b m
argument-whole t p a j b m (Argument.equal {k} {l} bl st s) f = by-mark t p Equal 61 a k l j b (omega arith) (λ e. omega arith) (λ e. omega arith) (λ e. omega arith) refl bl st s f
argument-whole t p a j b m (Argument.contains {k} {l} bl st s) f = by-mark t p Contains 126 a k l j b (omega arith) (λ e. omega arith) (λ e. omega arith) (λ e. omega arith) refl bl st s f
argument-whole t p a j b m (Argument.glob {k} {l} bl st s) f = by-mark t p Glob 35 a k l j b (omega arith) (λ e. omega arith) (λ e. omega arith) (λ e. omega arith) refl bl st s f
argument-whole t p a j b m (Argument.unmarked {k} bl u s) f =
    let on = spells-on t k j b s in
    let h : k < length t = omega (arith, on.0, on.1) in
    argue t p a k j b (usual p) mark.Unmarked bl u.blank (mark-of t k (get_or t k 0) h refl ∙ unmarked-of (get_or t k 0) u.equal u.contains u.glob u.slash)
    (λ c e.
    let x = matcher-whole t (usual p) c j b (subst (λ i. i ≤ length t) (sym e) (omega arith)) (subst (λ i. Spells t i j b) (sym e) s) f in
    record { called = x.called; reads = x.reads; bytes = x.bytes })
