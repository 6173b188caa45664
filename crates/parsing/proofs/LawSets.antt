-- Sets: those that are read without a report are the sets of the rules, and those of the rules are read.
use Rattle.std.proofs.Common.{◌≡◌, ℕ, zero, suc, ◌+◌, ◌-◌, ◌<◌, ◌≤◌, Bool, true, false, cond, eqb, List, [], ◌∷◌, length, get_or, take, drop, Some, None, codes, Option, sym, refl, ap, ◌∙◌, subst, ⊎_elim, add-zero, arith}
use Rattle.std.proofs.lemmas.List.{length-drop, length-take-le, get_or-drop, get_or-take, get_or_past}
use Rattle.std.proofs.lemmas.Str.{NoCharPasses-byte}
use Rattle.std.specs.Char.{is_not_whitespace}
use Rattle.std.proofs.lemmas.Bool.{ne_eqb, eq-eqb, eqb-true, cases_Bool, cases_lt, both_ways}
use Rattle.errors.specs.declared.reports.ReportKind.{ReportKind}
use Rattle.errors.specs.declared.reports.ReportKind.TheVariants.{UnexpectedArgument, UnexpectedComma, ExpectedOpenParenthesis, ExpectedCloseParenthesis}
use Rattle.glob.specs.declared.place.Place.{Place}
use Rattle.unicode_string.specs.Grammar.{Spells}
use Rattle.parsing.specs.declared.nodes.Predicate.{Predicate}
use Rattle.expression.specs.declared.name_matcher.MatchKind.{MatchKind}
use Rattle.expression.specs.declared.name_matcher.MatchKind.TheVariants.{Equal, Contains, Glob}
use Rattle.expression.specs.declared.queries.BuildPlatform.{BuildPlatform}
use Rattle.parsing.specs.declared.words.Nullary.{Nullary}
use Rattle.parsing.specs.declared.words.Nullary.TheVariants as nullary
use Rattle.parsing.specs.Grammar.{Blanks, NoBlank, Stands, Open, White, Nothing, Argument, Set, between, PlatformName}
use Rattle.parsing.specs.Reading.{At, Out, after, Called, done, moved, told, note, report_of, expect, text_at, argument_at, comma_at, open_at, close_at, closed_at, matched_leaf, unary_at, platform_of, platform_by, platform_leaf, platform_at, nullary_leaf, all_white, nothing_at, nullary_at, ◌⨾◌}
use Rattle.parsing.specs.Text.{is_at, skip, unclosed, closing, white_end}
use Rattle.parsing.specs.Tree.{Leaf, Tree, FineLeaf, renamed_leaf}
use Rattle.parsing.specs.Words.{usual, name_of, nullary_name}
use Rattle.parsing.proofs.LawArguments.{at-stands, byte_at, stands-byte, no-blank, argument-sound, argument-whole}
use Rattle.parsing.proofs.LawBlanks.{inside, skip-blanks, skip-stops, blanks-end, blanks-on}
use Rattle.parsing.proofs.LawNames.{FineBy, text-sound, text-whole, spells-on, spells-stops}
use Rattle.parsing.proofs.LawRuns.{Reads, reads_then, Clean, clean-then}
use Rattle.parsing.proofs.LawWhite.{white-sound, white-whole, platform-sound, platform-whole}

abbrev pub bytes_leaf : Leaf Called → Leaf (List ℕ)
bytes_leaf l = renamed_leaf (λ n. n.bytes) l

-- a byte that is expected after blanks
pub record Expected (t : List ℕ) (b : ℕ) (k : ReportKind) (a : At) : Type 0 where
  pub stands : Stands t (b ∷ []) (skip t a.pos) (skip t a.pos + 1)
  pub pos : (expect t b k a).pos ≡ skip t a.pos + 1
  pub parts : (expect t b k a).parts ≡ a.parts

pub expect-sound : (t : List ℕ) (b : ℕ) (k : ReportKind) (a : At) (u : Unit {0}) → Clean (expect t b k a) u → Expected t b k a
expect-sound t b k a u c = go (is_at t (skip t a.pos) b) refl c
  where
    q : ℕ
    q = skip t a.pos

    go : (x : Bool) → is_at t q b ≡ x → Clean (cond x (moved (q + 1) a) (note tt (report_of k a.pos 0) a)) u → Expected t b k a
    go true e c = record {
      stands = at-stands t q b e;
      pos = ap (λ (x : Bool). (cond x (moved (q + 1) a) (note tt (report_of k a.pos 0) a)).pos) e;
      parts = ap (λ (x : Bool). (cond x (moved (q + 1) a) (note tt (report_of k a.pos 0) a)).parts) e;
    }
    go false e c = let r = c.quiet in absurd (let z : ◌≡◌ {A = ℕ} 0 1 = cc in omega arith)

pub expect-whole : (t : List ℕ) (b : ℕ) (k : ReportKind) (a : At) (i j : ℕ) → 0 < b → (b ≡ 32 → ⊥) → (b ≡ 10 → ⊥) → (b ≡ 13 → ⊥) →
    Blanks t a.pos i → Stands t (b ∷ []) i j → Reads a (expect t b k a) j 0 tt
expect-whole t b k a i j h x y z bl st =
    let w = stands-byte t b i j h st in
    let q : skip t a.pos ≡ i = blanks-end t bl (no-blank t i b w.byte x y z) in
    let e : is_at t (skip t a.pos) b ≡ true = ap (λ p. is_at t p b) q ∙ byte_at t i b w.byte h in
    let same : expect t b k a ≡ moved (skip t a.pos + 1) a = ap (λ (v : Bool). cond v (moved (skip t a.pos + 1) a) (note tt (report_of k a.pos 0) a)) e in
    subst (λ (o : Out (Unit {0})). Reads a o j 0 tt) (sym same)
    (record { value = refl; quiet = refl; pos = ap (λ p. p + 1) q ∙ sym w.end; parts = sym (add-zero a.parts) })

-- no comma
record NoComma (t : List ℕ) (a : At) : Type 0 where
  pos : (comma_at t a).pos ≡ a.pos
  parts : (comma_at t a).parts ≡ a.parts

comma-sound : (t : List ℕ) (a : At) (u : Unit {0}) → Clean (comma_at t a) u → NoComma t a
unfolding comma_at
comma-sound t a u c = go (is_at t a.pos 44) refl c
  where
    r : Out (Unit {0})
    r = told tt (report_of UnexpectedComma a.pos 0) (closing t a.pos) a

    go : (x : Bool) → is_at t a.pos 44 ≡ x → Clean (cond x r (done tt a)) u → NoComma t a
    go true e c = let q = c.quiet in absurd (let z : ◌≡◌ {A = ℕ} 0 1 = cc in omega arith)
    go false e c = record { pos = ap (λ (x : Bool). (cond x r (done tt a)).pos) e; parts = ap (λ (x : Bool). (cond x r (done tt a)).parts) e }

-- what closes a set at a place with no blank
pub record Closed (t : List ℕ) (a : At) : Type 0 where
  pub stands : Stands t (codes ")") a.pos (closed_at t a).pos
  pub within : (closed_at t a).pos ≤ length t
  pub parts : (closed_at t a).parts ≡ a.parts

pub closed-sound : (t : List ℕ) (a : At) (u : Unit {0}) → NoBlank t a.pos → Clean (closed_at t a) u → Closed t a
closed-sound t a u free c =
    let s = clean-then (comma_at t) (λ _. close_at t) a u c in
    let n = comma-sound t a s.x s.first in
    let b = after a (comma_at t a) in
    let e = expect-sound t 41 ExpectedCloseParenthesis b u s.second in
    let q : skip t b.pos ≡ a.pos = ap (skip t) n.pos ∙ blanks-end t Blanks.none free in
    let to : (closed_at t a).pos ≡ skip t b.pos + 1 = s.pos ∙ e.pos in
    let st : Stands t (41 ∷ []) a.pos (closed_at t a).pos =
    subst (Stands t (41 ∷ []) a.pos) (sym to) (subst (λ i. Stands t (41 ∷ []) i (skip t b.pos + 1)) q e.stands) in
    record { stands = st; within = (stands-byte t 41 a.pos (closed_at t a).pos (omega arith) st).within; parts = s.parts ∙ e.parts ∙ n.parts }

pub closed-whole : (t : List ℕ) (a : At) (j : ℕ) → Stands t (codes ")") a.pos j → Reads a (closed_at t a) j 0 tt
unfolding comma_at
closed-whole t a j st =
    let w = stands-byte t 41 a.pos j (omega arith) st in
    let e : is_at t a.pos 44 ≡ false = ⊎_elim (λ y. absurd (omega (arith, w.byte, (stands-byte t 44 a.pos (a.pos + 1) (omega arith) (at-stands t a.pos 44 y)).byte))) (λ n. n) (cases_Bool (is_at t a.pos 44)) in
    let same : comma_at t a ≡ done tt a = ap (λ (x : Bool). cond x (told tt (report_of UnexpectedComma a.pos 0) (closing t a.pos) a) (done tt a)) e in
    let f : Reads a (comma_at t a) a.pos 0 tt = subst (λ (o : Out (Unit {0})). Reads a o a.pos 0 tt) (sym same) (record { value = refl; quiet = refl; pos = refl; parts = sym (add-zero a.parts) }) in
    let b = after a (comma_at t a) in
    reads_then (comma_at t) (λ _. close_at t) a a.pos j 0 0 tt tt f
    (expect-whole t 41 ExpectedCloseParenthesis b a.pos j (omega arith) (λ q. omega arith) (λ q. omega arith) (λ q. omega arith) (subst (λ i. Blanks t i a.pos) (sym f.pos) Blanks.none) st)

-- a set that was read without a report, from its name at i
pub record SetRead (t : List ℕ) (i : ℕ) (a : At) (o : Out (Tree Called)) (x : Tree Called) : Type 0 where
  pub leaf : Leaf Called
  pub is : x ≡ Tree.set leaf
  pub rule : Set t i o.pos (bytes_leaf leaf)
  pub fine : FineLeaf (bytes_leaf leaf)
  pub within : o.pos ≤ length t
  pub parts : o.parts ≡ a.parts

fine-leaf : (p : Predicate) (k : MatchKind) (b : List ℕ) (at : Place) → FineBy k b → FineLeaf (Leaf.matched p k b at)
fine-leaf p Equal b at f = tt
fine-leaf p Contains b at f = tt
fine-leaf p Glob b at f = f

by-leaf : (p : Predicate) (k : MatchKind) (b : List ℕ) (at : Place) → FineLeaf (Leaf.matched p k b at) → FineBy k b
by-leaf p Equal b at f = tt
by-leaf p Contains b at f = tt
by-leaf p Glob b at f = f

-- an argument ends where no blank stands
argument-end : (t : List ℕ) (p : Predicate) (i j : ℕ) (b : List ℕ) (m : MatchKind) → Argument t p i j b m → NoBlank t j × (j ≤ length t)
argument-end t p i j b m (Argument.equal {k} {l} bl st s) = (spells-stops t l j b s, (spells-on t l j b s).1)
argument-end t p i j b m (Argument.contains {k} {l} bl st s) = (spells-stops t l j b s, (spells-on t l j b s).1)
argument-end t p i j b m (Argument.glob {k} {l} bl st s) = (spells-stops t l j b s, (spells-on t l j b s).1)
argument-end t p i j b m (Argument.unmarked {k} bl u s) = (spells-stops t k j b s, (spells-on t k j b s).1)

-- the opening bracket
record Opened (t : List ℕ) (a : At) : Type 0 where
  rule : Open t a.pos (open_at t a).pos
  within : (open_at t a).pos ≤ length t
  parts : (open_at t a).parts ≡ a.parts

open-sound : (t : List ℕ) (a : At) (u : Unit {0}) → Clean (open_at t a) u → Opened t a
open-sound t a u c =
    let e = expect-sound t 40 ExpectedOpenParenthesis a u c in
    let st = subst (Stands t (40 ∷ []) (skip t a.pos)) (sym e.pos) e.stands in
    record {
      rule = record { start = skip t a.pos; blanks = skip-blanks t a.pos; bracket = st };
      within = (stands-byte t 40 (skip t a.pos) (open_at t a).pos (omega arith) st).within;
      parts = e.parts;
    }

open-whole : (t : List ℕ) (a : At) (j : ℕ) → Open t a.pos j → Reads a (open_at t a) j 0 tt
open-whole t a j o = expect-whole t 40 ExpectedOpenParenthesis a o.start j (omega arith) (λ q. omega arith) (λ q. omega arith) (λ q. omega arith) o.blanks o.bracket

-- sets that take a name
pub unary-sound : (t : List ℕ) (p : Predicate) (i : ℕ) (a : At) (x : Tree Called) → Stands t (name_of p) i a.pos → Clean (unary_at t p a) x → SetRead t i a (unary_at t p a) x
unfolding unary_at
unary-sound t p i a x st c =
    let s1 = clean-then (open_at t) (λ _ a. (argument_at t (usual p) ⨾ (λ m b. (closed_at t ⨾ (λ _. done (matched_leaf p (between a.pos b.pos) m))) b)) a) a x c in
    let o = open-sound t a s1.x s1.first in
    let a1 = after a (open_at t a) in
    let s2 = clean-then (argument_at t (usual p)) (λ m b. (closed_at t ⨾ (λ _. done (matched_leaf p (between a1.pos b.pos) m))) b) a1 x s1.second in
    let y = argument-sound t p a1 s2.x o.within s2.first in
    let a2 = after a1 (argument_at t (usual p) a1) in
    let s3 = clean-then (closed_at t) (λ _. done (matched_leaf p (between a1.pos a2.pos) s2.x)) a2 x s2.second in
    let m = y.matched in
    let z = closed-sound t a2 s3.x (argument-end t p a1.pos a2.pos m.called.bytes m.kind y.rule).0 s3.first in
    let to : (unary_at t p a).pos ≡ (closed_at t a2).pos = s1.pos ∙ s2.pos ∙ s3.pos in
    record {
      leaf = Leaf.matched p m.kind m.called (between a1.pos a2.pos);
      is = (let e = s3.second.value in let f = y.is in let g : x ≡ matched_leaf p (between a1.pos a2.pos) s2.x = cc in g ∙ ap (matched_leaf p (between a1.pos a2.pos)) f);
      rule = subst (λ j. Set t i j (Leaf.matched p m.kind m.called.bytes (between a1.pos a2.pos))) (sym to) (Set.matched st o.rule y.rule z.stands);
      fine = fine-leaf p m.kind m.called.bytes (between a1.pos a2.pos) y.fine;
      within = subst (λ j. j ≤ length t) (sym to) z.within;
      parts = s1.parts ∙ s2.parts ∙ s3.parts ∙ z.parts ∙ y.parts ∙ o.parts;
    }

-- a set of the rules that is read
pub record SetReads (a : At) (o : Out (Tree Called)) (j : ℕ) (l : Leaf (List ℕ)) : Type 0 where
  pub leaf : Leaf Called
  pub reads : Reads a o j 0 (Tree.set leaf)
  pub same : bytes_leaf leaf ≡ l

done_at : {X : Type 0} (x : X) (b : At) (j : ℕ) → b.pos ≡ j → Reads b (done x b) j 0 x
done_at x b j e = record { value = refl; quiet = refl; pos = e; parts = sym (add-zero b.parts) }

pub unary-whole : (t : List ℕ) (p : Predicate) (a : At) (l n j : ℕ) (m : MatchKind) (b : List ℕ) → Open t a.pos l → Argument t p l n b m → Stands t (codes ")") n j →
    FineLeaf (Leaf.matched p m b (between l n)) → SetReads a (unary_at t p a) j (Leaf.matched p m b (between l n))
unfolding unary_at
unary-whole t p a l n j m b o arg st f =
    let r1 = open-whole t a l o in
    let a1 = after a (open_at t a) in
    let y = argument-whole t p a1 n b m (subst (λ i. Argument t p i n b m) (sym r1.pos) arg) (by-leaf p m b (between l n) f) in
    let a2 = after a1 (argument_at t (usual p) a1) in
    let leaf : Leaf Called = Leaf.matched p m y.called (between a1.pos a2.pos) in
    let r3 = closed-whole t a2 j (subst (λ i. Stands t (codes ")") i j) (sym y.reads.pos) st) in
    let r4 = reads_then (closed_at t) (λ _. done (Tree.set leaf)) a2 j j 0 0 tt (Tree.set leaf) r3 (done_at (Tree.set leaf) (after a2 (closed_at t a2)) j r3.pos) in
    let r5 = reads_then (argument_at t (usual p)) (λ m b. (closed_at t ⨾ (λ _. done (matched_leaf p (between a1.pos b.pos) m))) b) a1 n j 0 0 (Some (record { kind = m; called = y.called })) (Tree.set leaf) y.reads r4 in
    record {
      leaf = leaf;
      reads = reads_then (open_at t) (λ _ a. (argument_at t (usual p) ⨾ (λ m b. (closed_at t ⨾ (λ _. done (matched_leaf p (between a.pos b.pos) m))) b)) a) a l j 0 0 tt (Tree.set leaf) r1 r5;
      same = ap (λ c. Leaf.matched p m c (between a1.pos a2.pos)) y.bytes ∙ ap (λ i. Leaf.matched p m b (between i a2.pos)) r1.pos ∙ ap (λ i. Leaf.matched p m b (between l i)) y.reads.pos;
    }

-- the platform
platform-says : (at : Place) (n : Called) (b : At) (x : Tree Called) → Clean (platform_leaf at (Some n) b) x →
    (h : BuildPlatform) × PlatformName h n.bytes × (x ≡ Tree.set (Leaf.platform h at)) × ((platform_leaf at (Some n) b).pos ≡ b.pos) × ((platform_leaf at (Some n) b).parts ≡ b.parts)
platform-says at n b x c = go (platform_of n.bytes) refl c
  where
    go : (o : Option BuildPlatform) → platform_of n.bytes ≡ o → Clean (platform_by at o b) x →
        (h : BuildPlatform) × PlatformName h n.bytes × (x ≡ Tree.set (Leaf.platform h at)) × ((platform_by at (platform_of n.bytes) b).pos ≡ b.pos) × ((platform_by at (platform_of n.bytes) b).parts ≡ b.parts)
    go None e c = let q = c.quiet in absurd (let z : ◌≡◌ {A = ℕ} 0 1 = cc in omega arith)
    go (Some h) e c =
        let q = c.value in (
          h,
          platform-sound n.bytes h e,
          (let r : x ≡ Tree.set (Leaf.platform h at) = cc in r),
          ap (λ (o : Option BuildPlatform). (platform_by at o b).pos) e,
          ap (λ (o : Option BuildPlatform). (platform_by at o b).parts) e,
        )

pub platform-set-sound : (t : List ℕ) (i : ℕ) (a : At) (x : Tree Called) → Stands t (codes "platform") i a.pos → Clean (platform_at t a) x → SetRead t i a (platform_at t a) x
unfolding platform_at text_at
platform-set-sound t i a x st c =
    let s1 = clean-then (open_at t) (λ _ a. (moved (skip t a.pos) ⨾ (λ _. text_at t ⨾ (λ n b. (closed_at t ⨾ (λ _. platform_leaf (between a.pos b.pos) n)) b))) a) a x c in
    let o = open-sound t a s1.x s1.first in
    let a1 = after a (open_at t a) in
    let q = skip t a1.pos in
    let s2 = clean-then (moved q) (λ _. text_at t ⨾ (λ n b. (closed_at t ⨾ (λ _. platform_leaf (between a1.pos b.pos) n)) b)) a1 x s1.second in
    let a2 = after a1 (moved q a1) in
    let s3 = clean-then (text_at t) (λ n b. (closed_at t ⨾ (λ _. platform_leaf (between a1.pos b.pos) n)) b) a2 x s2.second in
    let bl = skip-blanks t a1.pos in
    let y = text-sound t a2 s3.x (blanks-on t bl o.within).1 s3.first in
    let a3 = after a2 (text_at t a2) in
    let at = between a1.pos a3.pos in
    let s4 = clean-then (closed_at t) (λ _. platform_leaf at s3.x) a3 x s3.second in
    let z = closed-sound t a3 s4.x (spells-stops t q a3.pos y.name.bytes y.spells) s4.first in
    let a4 = after a3 (closed_at t a3) in
    let w = platform-says at y.name a4 x (subst (λ (n : Option Called). Clean (platform_leaf at n a4) x) y.is s4.second) in
    let to : (platform_at t a).pos ≡ (closed_at t a3).pos = s1.pos ∙ s2.pos ∙ s3.pos ∙ s4.pos ∙ ap (λ (n : Option Called). (platform_leaf at n a4).pos) y.is ∙ w.3 in
    record {
      leaf = Leaf.platform w.0 at;
      is = w.2;
      rule = subst (λ j. Set t i j (Leaf.platform w.0 at)) (sym to) (Set.platform st o.rule bl (skip-stops t a1.pos) y.spells w.1 z.stands);
      fine = tt;
      within = subst (λ j. j ≤ length t) (sym to) z.within;
      parts = s1.parts ∙ s2.parts ∙ s3.parts ∙ s4.parts ∙ ap (λ (n : Option Called). (platform_leaf at n a4).parts) y.is ∙ w.4 ∙ z.parts ∙ o.parts;
    }

pub platform-set-whole : (t : List ℕ) (a : At) (l m n j : ℕ) (h : BuildPlatform) (b : List ℕ) → Open t a.pos l → Blanks t l m → NoBlank t m → Spells t m n b → PlatformName h b → Stands t (codes ")") n j →
    SetReads a (platform_at t a) j (Leaf.platform h (between l n))
unfolding platform_at
platform-set-whole t a l m n j h b o bl free s name st =
    let r1 = open-whole t a l o in
    let a1 = after a (open_at t a) in
    let q : skip t a1.pos ≡ m = blanks-end t (subst (λ i. Blanks t i m) (sym r1.pos) bl) free in
    let a2 = after a1 (moved (skip t a1.pos) a1) in
    let on = spells-on t m n b s in
    let y = text-whole t a2 n b (subst (λ i. i ≤ length t) (sym q) (omega (arith, on.0, on.1))) (subst (λ i. Spells t i n b) (sym q) s) in
    let a3 = after a2 (text_at t a2) in
    let at = between a1.pos a3.pos in
    let r4 = closed-whole t a3 j (subst (λ i. Stands t (codes ")") i j) (sym y.reads.pos) st) in
    let a4 = after a3 (closed_at t a3) in
    let leaf : Leaf Called = Leaf.platform h at in
    let e : platform_of y.name.bytes ≡ Some h = ap platform_of y.bytes ∙ platform-whole b h name in
    let r5 : Reads a4 (platform_leaf at (Some y.name) a4) j 0 (Tree.set leaf) =
    subst (λ (p : Option BuildPlatform). Reads a4 (platform_by at p a4) j 0 (Tree.set leaf)) (sym e) (done_at (Tree.set leaf) a4 j r4.pos) in
    let r6 = reads_then (closed_at t) (λ _. platform_leaf at (Some y.name)) a3 j j 0 0 tt (Tree.set leaf) r4 r5 in
    let r7 = reads_then (text_at t) (λ n b. (closed_at t ⨾ (λ _. platform_leaf (between a1.pos b.pos) n)) b) a2 n j 0 0 (Some y.name) (Tree.set leaf) y.reads r6 in
    let r8 = reads_then (moved (skip t a1.pos)) (λ _. text_at t ⨾ (λ n b. (closed_at t ⨾ (λ _. platform_leaf (between a1.pos b.pos) n)) b)) a1 (skip t a1.pos) j 0 0 tt (Tree.set leaf)
    (record { value = refl; quiet = refl; pos = refl; parts = sym (add-zero a1.parts) }) r7 in
    record {
      leaf = leaf;
      reads = reads_then (open_at t) (λ _ a. (moved (skip t a.pos) ⨾ (λ _. text_at t ⨾ (λ n b. (closed_at t ⨾ (λ _. platform_leaf (between a.pos b.pos) n)) b))) a) a l j 0 0 tt (Tree.set leaf) r1 r8;
      same = ap (λ i. Leaf.platform h (between i a3.pos)) r1.pos ∙ ap (λ i. Leaf.platform h (between l i)) y.reads.pos;
    }

-- the first `)`
unclosed-on : (s : List ℕ) → unclosed s ≤ length s
unfolding unclosed
unclosed-on [] = omega arith
unclosed-on (b ∷ s) = go (eqb b 41) (unclosed-on s)
  where
    go : (x : Bool) → unclosed s ≤ length s → cond x 0 (suc (unclosed s)) ≤ suc (length s)
    go true h = omega arith
    go false h = omega arith

unclosed_at : (s : List ℕ) → unclosed s < length s → get_or s (unclosed s) 0 ≡ 41
unfolding unclosed
unclosed_at [] h = absurd (omega arith)
unclosed_at (b ∷ s) h = go (eqb b 41) refl (unclosed_at s) h
  where
    go : (x : Bool) → eqb b 41 ≡ x → (unclosed s < length s → get_or s (unclosed s) 0 ≡ 41) → cond x 0 (suc (unclosed s)) < suc (length s) → get_or (b ∷ s) (cond x 0 (suc (unclosed s))) 0 ≡ 41
    go true e ih k = eqb-true b 41 e
    go false e ih k = ih (omega arith)

unclosed-is : (s : List ℕ) (n : ℕ) → ((i : ℕ) → i < n → get_or s i 0 ≡ 41 → ⊥) → get_or s n 0 ≡ 41 → unclosed s ≡ n
unfolding unclosed
unclosed-is [] n h e = absurd (omega (arith, get_or_past {X = ℕ} [] n 0 (omega arith)))
unclosed-is (b ∷ s) zero h e = ap (λ x. cond x 0 (suc (unclosed s))) (eq-eqb b 41 e)
unclosed-is (b ∷ s) (suc n) h e = ap (λ x. cond x 0 (suc (unclosed s))) (ne_eqb b 41 (h 0 (omega arith))) ∙ ap suc (unclosed-is s n (λ i k. h (suc i) (omega arith)) e)

-- the place of the first `)`, or the end: no blank stands there
closing-on : (t : List ℕ) (p : ℕ) → p ≤ length t → (p ≤ closing t p) × (closing t p ≤ length t)
unfolding closing
closing-on t p h = (omega arith, omega (arith, unclosed-on (drop p t), length-drop p t))

closing-free : (t : List ℕ) (p : ℕ) → p ≤ length t → NoBlank t (closing t p)
unfolding closing
closing-free t p h = ⊎_elim
    (λ q. no-blank t (p + unclosed (drop p t)) 41 (sym (get_or-drop p t (unclosed (drop p t)) 0) ∙ unclosed_at (drop p t) (omega (arith, length-drop p t))) (λ e. omega arith) (λ e. omega arith) (λ e. omega arith))
    (λ q. no-blank t (p + unclosed (drop p t)) 0 (get_or_past t (p + unclosed (drop p t)) 0 q) (λ e. omega arith) (λ e. omega arith) (λ e. omega arith))
    (cases_lt (p + unclosed (drop p t)) (length t))

-- nothing but white space
record Empty (t : List ℕ) (a : At) : Type 0 where
  white : White (take (closing t a.pos - a.pos) (drop a.pos t))
  pos : (nothing_at t a).pos ≡ closing t a.pos
  parts : (nothing_at t a).parts ≡ a.parts

nothing-sound : (t : List ℕ) (a : At) (u : Unit {0}) → a.pos ≤ length t → Clean (nothing_at t a) u → Empty t a
unfolding nothing_at
nothing-sound t a u h c = go (all_white s) refl c
  where
    n : ℕ
    n = closing t a.pos - a.pos

    s : List ℕ
    s = take n (drop a.pos t)

    yes' : Out (Unit {0})
    yes' = moved (closing t a.pos) a

    no' : Out (Unit {0})
    no' = told tt (report_of UnexpectedArgument a.pos n) (closing t a.pos) a

    go : (x : Bool) → all_white s ≡ x → Clean (cond x yes' no') u → Empty t a
    go true e c = record {
      white = white-sound s (eqb-true (white_end s 0) (length s) e);
      pos = ap (λ (x : Bool). (cond x yes' no').pos) e;
      parts = ap (λ (x : Bool). (cond x yes' no').parts) e;
    }
    go false e c = let q = c.quiet in absurd (let z : ◌≡◌ {A = ℕ} 0 1 = cc in omega arith)

nullary-rule : (t : List ℕ) (n : Nullary) (i j : ℕ) → Nothing t (nullary_name n) i j → (leaf : Leaf Called) × (nullary_leaf n (between i j) ≡ Tree.set leaf) × Set t i j (bytes_leaf leaf) × FineLeaf (bytes_leaf leaf)
nullary-rule t nullary.Default i j r = (Leaf.default (between i j), refl, Set.default r, tt)
nullary-rule t nullary.All i j r = (Leaf.all, refl, Set.all r, tt)
nullary-rule t nullary.None i j r = (Leaf.none, refl, Set.none r, tt)

pub nullary-sound : (t : List ℕ) (n : Nullary) (i : ℕ) (a : At) (x : Tree Called) → Stands t (nullary_name n) i a.pos → Clean (nullary_at t n i a) x → SetRead t i a (nullary_at t n i a) x
unfolding nullary_at
nullary-sound t n i a x st c =
    let s1 = clean-then (open_at t) (λ _. nothing_at t ⨾ (λ _. close_at t ⨾ (λ _ a. done (nullary_leaf n (between i a.pos)) a))) a x c in
    let o = open-sound t a s1.x s1.first in
    let a1 = after a (open_at t a) in
    let s2 = clean-then (nothing_at t) (λ _. close_at t ⨾ (λ _ a. done (nullary_leaf n (between i a.pos)) a)) a1 x s1.second in
    let y = nothing-sound t a1 s2.x o.within s2.first in
    let a2 = after a1 (nothing_at t a1) in
    let s3 = clean-then (close_at t) (λ _ a. done (nullary_leaf n (between i a.pos)) a) a2 x s2.second in
    let e = expect-sound t 41 ExpectedCloseParenthesis a2 s3.x s3.first in
    let q : skip t a2.pos ≡ closing t a1.pos = ap (skip t) y.pos ∙ blanks-end t Blanks.none (closing-free t a1.pos o.within) in
    let st3 : Stands t (41 ∷ []) (closing t a1.pos) (close_at t a2).pos =
    subst (Stands t (41 ∷ []) (closing t a1.pos)) (sym e.pos) (subst (λ k. Stands t (41 ∷ []) k (skip t a2.pos + 1)) q e.stands) in
    let to : (nullary_at t n i a).pos ≡ (close_at t a2).pos = s1.pos ∙ s2.pos ∙ s3.pos in
    let rule : Nothing t (nullary_name n) i (close_at t a2).pos = record {
      named = a.pos;
      from = a1.pos;
      to = closing t a1.pos;
      name = st;
      opened = o.rule;
      order = (closing-on t a1.pos o.within).0;
      white = y.white;
      close = st3;
    } in
    let r = nullary-rule t n i (close_at t a2).pos rule in
    record {
      leaf = r.0;
      is = (let v = s3.second.value in let w : x ≡ nullary_leaf n (between i (close_at t a2).pos) = cc in w ∙ r.1);
      rule = subst (λ j. Set t i j (bytes_leaf r.0)) (sym to) r.2;
      fine = r.3;
      within = subst (λ j. j ≤ length t) (sym to) (stands-byte t 41 (closing t a1.pos) (close_at t a2).pos (omega arith) st3).within;
      parts = s1.parts ∙ s2.parts ∙ s3.parts ∙ e.parts ∙ y.parts ∙ o.parts;
    }

-- white space has no `)`
pub closing-is : (t : List ℕ) (i j : ℕ) → i ≤ j → White (take (j - i) (drop i t)) → get_or t j 0 ≡ 41 → closing t i ≡ j
unfolding closing
closing-is t i j h w e =
    let n = j - i in
    let within : j < length t = inside t j 41 e (omega arith) in
    let size : length (take n (drop i t)) ≡ n = length-take-le n (drop i t) (omega (arith, length-drop i t)) in
    let each : (k : ℕ) → k < n → get_or (drop i t) k 0 ≡ 41 → ⊥ = λ k lt f.
    let same : get_or (take n (drop i t)) k 0 ≡ 41 = get_or-take n (drop i t) k 0 lt ∙ f in
    let d = NoCharPasses-byte is_not_whitespace (take n (drop i t)) k w (omega arith) (omega arith) in
    both_ways (is_not_whitespace 41) (sym (ap is_not_whitespace same) ∙ d) refl in
    let u = unclosed-is (drop i t) n each (get_or-drop i t n 0 ∙ ap (λ k. get_or t k 0) (let z : i + n ≡ j = omega arith in z) ∙ e) in
    omega (arith, u)

nothing-whole : (t : List ℕ) (a : At) (j : ℕ) → a.pos ≤ j → White (take (j - a.pos) (drop a.pos t)) → get_or t j 0 ≡ 41 → Reads a (nothing_at t a) j 0 tt
unfolding nothing_at
nothing-whole t a j h w e =
    let c = closing-is t a.pos j h w e in
    let s = take (j - a.pos) (drop a.pos t) in
    let x : all_white s ≡ true = eq-eqb (white_end s 0) (length s) (white-whole s w) in
    rw c (rw x (record { value = refl; quiet = refl; pos = refl; parts = sym (add-zero a.parts) }))

pub nullary-whole : (t : List ℕ) (n : Nullary) (i : ℕ) (a : At) (j : ℕ) (r : Nothing t (nullary_name n) i j) → r.named ≡ a.pos →
    (leaf : Leaf Called) → nullary_leaf n (between i j) ≡ Tree.set leaf → Reads a (nullary_at t n i a) j 0 (Tree.set leaf)
unfolding nullary_at
nullary-whole t n i a j r at leaf is =
    let r1 = open-whole t a r.from (subst (λ k. Open t k r.from) at r.opened) in
    let a1 = after a (open_at t a) in
    let w = stands-byte t 41 r.to j (omega arith) r.close in
    let r2 = nothing-whole t a1 r.to (subst (λ k. k ≤ r.to) (sym r1.pos) r.order) (subst (λ k. White (take (r.to - k) (drop k t))) (sym r1.pos) r.white) w.byte in
    let a2 = after a1 (nothing_at t a1) in
    let r3 = expect-whole t 41 ExpectedCloseParenthesis a2 r.to j (omega arith) (λ q. omega arith) (λ q. omega arith) (λ q. omega arith) (subst (λ k. Blanks t k r.to) (sym r2.pos) Blanks.none) r.close in
    let a3 = after a2 (close_at t a2) in
    let leaf_at : nullary_leaf n (between i a3.pos) ≡ Tree.set leaf = ap (λ k. nullary_leaf n (between i k)) r3.pos ∙ is in
    let r4 : Reads a3 (done (nullary_leaf n (between i a3.pos)) a3) j 0 (Tree.set leaf) = subst (λ (x : Tree Called). Reads a3 (done (nullary_leaf n (between i a3.pos)) a3) j 0 x) leaf_at (done_at (nullary_leaf n (between i a3.pos)) a3 j r3.pos) in
    let r5 = reads_then (close_at t) (λ _ a. done (nullary_leaf n (between i a.pos)) a) a2 j j 0 0 tt (Tree.set leaf) r3 r4 in
    let r6 = reads_then (nothing_at t) (λ _. close_at t ⨾ (λ _ a. done (nullary_leaf n (between i a.pos)) a)) a1 r.to j 0 0 tt (Tree.set leaf) r2 r5 in
    reads_then (open_at t) (λ _. nothing_at t ⨾ (λ _. close_at t ⨾ (λ _ a. done (nullary_leaf n (between i a.pos)) a))) a r.from j 0 0 tt (Tree.set leaf) r1 r6
