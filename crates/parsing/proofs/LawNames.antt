-- Names in the reading of a filter are the names of the rules.
use Rattle.std.proofs.Common.{◌≡◌, ℕ, ◌-◌, ◌<◌, ◌≤◌, Bool, true, false, cond, List, [], length, get_or, is_some, Some, None, Ok, Option, sym, refl, ap, ◌∙◌, subst, ⊎_elim, add-zero, arith}
use Rattle.std.proofs.lemmas.Bool.{ne_eqb}
use Rattle.errors.specs.declared.reports.ReportKind.TheVariants.{InvalidGlob}
use Rattle.glob.specs.Glob.{WellFormed}
use Rattle.glob.specs.Reading.{items_of}
use Rattle.glob.proofs.Spelling.{well-formed-is}
use Rattle.unicode_string.specs.declared.Name.{Name}
use Rattle.unicode_string.specs.Grammar.{Fragment, Fragments, Escaped, Spells}
use Rattle.unicode_string.specs.Names.{Named, spelt, name_at, in_text}
use Rattle.unicode_string.proofs.Meanings.{told}
use Rattle.unicode_string.proofs.Sound.{sound-names}
use Rattle.unicode_string.proofs.Whole.{whole-names}
use Rattle.expression.specs.declared.name_matcher.MatchKind.{MatchKind}
use Rattle.expression.specs.declared.name_matcher.MatchKind.TheVariants.{Equal, Contains, Glob}
use Rattle.parsing.specs.Grammar.{Blank, NoBlank}
use Rattle.parsing.specs.Reading.{At, Out, after, Called, called_as, called, text_at, checked, Matched, matched_by, matcher_at, done, note, report_of, ◌⨾◌}
use Rattle.parsing.proofs.LawBlanks.{inside}
use Rattle.parsing.proofs.LawRuns.{Reads, reads_then, Clean, clean-then}

frag-on : (t : List ℕ) (i j : ℕ) (b : List ℕ) → Fragment t i j b → (i < j) × (j ≤ length t)
frag-on t i j b (Fragment.literal r) = (r.order, r.within)
frag-on t i j b (Fragment.escaped h e (Escaped.letter q w l)) = (omega arith, w)
frag-on t i j b (Fragment.escaped h e (Escaped.unicode u)) = (omega (arith, u.some, u.end), u.within)

frags-on : (t : List ℕ) {i j : ℕ} {b : List ℕ} → Fragments t i j b → i ≤ length t → (i ≤ j) × (j ≤ length t)
frags-on t Fragments.none h = (omega arith, h)
frags-on t (Fragments.more {i} {k} {j} {b} f r) h =
    let a = frag-on t i k b f in let c = frags-on t r a.1 in (omega (arith, a.0, c.0), c.1)

-- a name has bytes, and stays in the text
pub spells-on : (t : List ℕ) (i j : ℕ) (b : List ℕ) → Spells t i j b → (i < j) × (j ≤ length t)
spells-on t i j b s =
    let a = frag-on t i s.middle s.head s.first in let c = frags-on t s.rest a.1 in (omega (arith, a.0, c.0), c.1)

-- and no blank follows it
pub spells-stops : (t : List ℕ) (i j : ℕ) (b : List ℕ) → Spells t i j b → NoBlank t j
spells-stops t i j b s k x = byte k x
  where
    clash : (c : ℕ) → get_or t j 0 ≡ c → 0 < c → (c ≡ 44 → ⊥) → (c ≡ 41 → ⊥) → ⊥
    clash c e h n m = ⊎_elim (λ q. n (sym e ∙ q)) (λ q. m (sym e ∙ q)) (s.end (inside t j c e h))

    byte : (k : ℕ) → Blank t j k → ⊥
    byte k (Blank.space e) = clash 32 e (omega arith) (λ q. omega arith) (λ q. omega arith)
    byte k (Blank.newline e) = clash 10 e (omega arith) (λ q. omega arith) (λ q. omega arith)
    byte k (Blank.return e f) = clash 13 e (omega arith) (λ q. omega arith) (λ q. omega arith)

-- a name that was read without a report
pub record Text (t : List ℕ) (a : At) (v : Option Called) : Type 0 where
  pub name : Called
  pub is : v ≡ Some name
  pub spells : Spells t a.pos (text_at t a).pos name.bytes

some-called : (t : List ℕ) (p : ℕ) (w : Named) (n : Name) → w.name ≡ Some n → (w.out.at ≡ p → ⊥) → called t p w ≡ Some (record { name = n; bytes = spelt t w.out n })
some-called t p w n e ne = ap (λ b. cond b (Some (record { name = in_text p 0; bytes = [] })) (called_as t w.out w.name)) (ne_eqb w.out.at p ne) ∙ ap (called_as t w.out) e

pub text-sound : (t : List ℕ) (a : At) (v : Option Called) → a.pos ≤ length t → Clean (text_at t a) v → Text t a v
unfolding text_at
text-sound t a v h c = go (name_at t a.pos a.used).name refl
  where
    go : (o : Option Name) → (name_at t a.pos a.used).name ≡ o → Text t a v
    go None e = absurd (omega (arith, told t a.pos a.used e, ap length c.quiet))
    go (Some n) e =
        let w = name_at t a.pos a.used in
        let s = sound-names t a.pos a.used n h e in
        let on = spells-on t a.pos w.out.at (spelt t w.out n) s.0 in
        let q = some-called t a.pos w n e (λ z. omega (arith, on.0)) in
        let same : called t a.pos w ≡ v = let k = c.value in cc in
        record { name = record { name = n; bytes = spelt t w.out n }; is = sym same ∙ q; spells = s.0 }

-- a name of the rules is read
pub record Told (t : List ℕ) (a : At) (j : ℕ) (b : List ℕ) : Type 0 where
  pub name : Called
  pub reads : Reads a (text_at t a) j 0 (Some name)
  pub bytes : name.bytes ≡ b

pub text-whole : (t : List ℕ) (a : At) (j : ℕ) (b : List ℕ) → a.pos ≤ length t → Spells t a.pos j b → Told t a j b
unfolding text_at
text-whole t a j b h s =
    let w = name_at t a.pos a.used in
    let f = whole-names t a.pos a.used j b h s in
    let on = spells-on t a.pos j b s in
    let q = some-called t a.pos w f.name f.found (λ z. omega (arith, on.0, f.end)) in
    record {
      name = record { name = f.name; bytes = spelt t w.out f.name };
      reads = record { value = ap (λ v. Ok v) q; quiet = f.quiet; pos = f.end; parts = sym (add-zero a.parts) };
      bytes = f.bytes;
    }

-- a name that is a glob is a well-formed one
abbrev pub FineBy : MatchKind → List ℕ → Type 0
FineBy Equal b = Unit {0}
FineBy Contains b = Unit {0}
FineBy Glob b = WellFormed b

pub record Matcher (t : List ℕ) (k : MatchKind) (a : At) (v : Option Matched) : Type 0 where
  pub called : Called
  pub is : v ≡ Some (record { kind = k; called = called })
  pub spells : Spells t a.pos (matcher_at t k a).pos called.bytes
  pub fine : FineBy k called.bytes
  pub parts : (matcher_at t k a).parts ≡ a.parts

pub record Matching (t : List ℕ) (k : MatchKind) (a : At) (j : ℕ) (b : List ℕ) : Type 0 where
  pub called : Called
  pub reads : Reads a (matcher_at t k a) j 0 (Some (record { kind = k; called = called }))
  pub bytes : called.bytes ≡ b

record Checked (p : ℕ) (k : MatchKind) (n : Called) (b : At) (v : Option Called) : Type 0 where
  is : v ≡ Some n
  fine : FineBy k n.bytes
  pos : (checked p k (Some n) b).pos ≡ b.pos
  parts : (checked p k (Some n) b).parts ≡ b.parts

same_some : (n : Called) (b : At) (v : Option Called) → Clean (done (Some n) b) v → v ≡ Some n
same_some n b v c = let e = c.value in cc

check_sound : (p : ℕ) (k : MatchKind) (n : Called) (b : At) (v : Option Called) → Clean (checked p k (Some n) b) v → Checked p k n b v
check_sound p Equal n b v c = record { is = same_some n b v c; fine = tt; pos = refl; parts = refl }
check_sound p Contains n b v c = record { is = same_some n b v c; fine = tt; pos = refl; parts = refl }
check_sound p Glob n b v c = go (is_some (items_of n.bytes)) refl c
  where
    go : (y : Bool) → is_some (items_of n.bytes) ≡ y → Clean (cond y (done (Some n) b) (note None (report_of InvalidGlob p (b.pos - p)) b)) v → Checked p Glob n b v
    go true e c = record {
      is = same_some n b v c;
      fine = (well-formed-is n.bytes).0 e;
      pos = ap (λ (y : Bool). (cond y (done (Some n) b) (note None (report_of InvalidGlob p (b.pos - p)) b)).pos) e;
      parts = ap (λ (y : Bool). (cond y (done (Some n) b) (note None (report_of InvalidGlob p (b.pos - p)) b)).parts) e;
    }
    go false e c = let q = c.quiet in absurd (let z : ◌≡◌ {A = ℕ} 0 1 = cc in omega arith)

done-reads : {X : Type 0} (x : X) (b : At) → Reads b (done x b) b.pos 0 x
done-reads x b = record { value = refl; quiet = refl; pos = refl; parts = sym (add-zero b.parts) }

check-whole : (p : ℕ) (k : MatchKind) (n : Called) (b : At) → FineBy k n.bytes → Reads b (checked p k (Some n) b) b.pos 0 (Some n)
check-whole p Equal n b f = record { value = refl; quiet = refl; pos = refl; parts = sym (add-zero b.parts) }
check-whole p Contains n b f = record { value = refl; quiet = refl; pos = refl; parts = sym (add-zero b.parts) }
check-whole p Glob n b f =
    let e = (well-formed-is n.bytes).1 f in
    let same : checked p Glob (Some n) b ≡ done (Some n) b = ap (λ (y : Bool). cond y (done (Some n) b) (note None (report_of InvalidGlob p (b.pos - p)) b)) e in
    record {
      value = ap (λ (o : Out (Option Called)). o.value) same;
      quiet = ap (λ (o : Out (Option Called)). o.reports) same;
      pos = ap (λ (o : Out (Option Called)). o.pos) same;
      parts = ap (λ (o : Out (Option Called)). o.parts) same ∙ sym (add-zero b.parts);
    }

pub matcher-sound : (t : List ℕ) (k : MatchKind) (a : At) (v : Option Matched) → a.pos ≤ length t → Clean (matcher_at t k a) v → Matcher t k a v
unfolding matcher_at text_at
matcher-sound t k a v h c =
    let b = after a (text_at t a) in
    let s = clean-then (text_at t) (λ n. checked a.pos k n ⨾ matched_by k) a v c in
    let x = text-sound t a s.x h s.first in
    let second : Clean ((checked a.pos k (Some x.name) ⨾ matched_by k) b) v = subst (λ (n : Option Called). Clean ((checked a.pos k n ⨾ matched_by k) b) v) x.is s.second in
    let pos : ((text_at t ⨾ (λ n. checked a.pos k n ⨾ matched_by k)) a).pos ≡ ((checked a.pos k (Some x.name) ⨾ matched_by k) b).pos =
    s.pos ∙ ap (λ (n : Option Called). ((checked a.pos k n ⨾ matched_by k) b).pos) x.is in
    let parts : ((text_at t ⨾ (λ n. checked a.pos k n ⨾ matched_by k)) a).parts ≡ ((checked a.pos k (Some x.name) ⨾ matched_by k) b).parts =
    s.parts ∙ ap (λ (n : Option Called). ((checked a.pos k n ⨾ matched_by k) b).parts) x.is in
    let r = clean-then (checked a.pos k (Some x.name)) (matched_by k) b v second in
    let d = check_sound a.pos k x.name b r.x r.first in
    let e = after b (checked a.pos k (Some x.name) b) in
    let third : Clean (matched_by k (Some x.name) e) v = subst (λ (n : Option Called). Clean (matched_by k n e) v) d.is r.second in
    let to : (matcher_at t k a).pos ≡ (text_at t a).pos = pos ∙ r.pos ∙ ap (λ (n : Option Called). (matched_by k n e).pos) d.is ∙ d.pos in
    record {
      called = x.name;
      is = (let q = third.value in cc);
      spells = subst (λ j. Spells t a.pos j x.name.bytes) (sym to) x.spells;
      fine = d.fine;
      parts = parts ∙ r.parts ∙ ap (λ (n : Option Called). (matched_by k n e).parts) d.is ∙ d.parts;
    }

pub matcher-whole : (t : List ℕ) (k : MatchKind) (a : At) (j : ℕ) (b : List ℕ) → a.pos ≤ length t → Spells t a.pos j b → FineBy k b → Matching t k a j b
unfolding matcher_at
matcher-whole t k a j b h s f =
    let x = text-whole t a j b h s in
    let n = x.name in
    let at = after a (text_at t a) in
    let fine : FineBy k n.bytes = subst (FineBy k) (sym x.bytes) f in
    let c = check-whole a.pos k n at fine in
    let m = reads_then (checked a.pos k (Some n)) (matched_by k) at at.pos (checked a.pos k (Some n) at).pos 0 0 (Some n) (Some (record { kind = k; called = n })) c
    (record { value = refl; quiet = refl; pos = refl; parts = sym (add-zero (after at (checked a.pos k (Some n) at)).parts) }) in
    let w = reads_then (text_at t) (λ y. checked a.pos k y ⨾ matched_by k) a j (checked a.pos k (Some n) at).pos 0 0 (Some n) (Some (record { kind = k; called = n })) x.reads m in
    record {
      called = n;
      reads = record { value = w.value; quiet = w.quiet; pos = w.pos ∙ c.pos ∙ x.reads.pos; parts = w.parts };
      bytes = x.bytes;
    }
