-- The names of a tree that was read stand where its nodes say: in the text, or in a decoding space that holds the decoded bytes.
use Rattle.std.proofs.Common.{◌≡◌, ℕ, zero, suc, ◌+◌, ◌-◌, ◌≤◌, Bool, true, false, cond, not, eqb, ltb, ◌⊎◌, List, [], ◌∷◌, ◌++◌, map, length, get_or, take, drop, is_some, Some, None, Ok, Err, Option, Result, sym, refl, ap, ◌∙◌, subst, inl, inr, append_assoc, arith, length-append, take_at, drop_at}
use lib.Seq.{sets, sets-eq}
use Rattle.std.proofs.lemmas.Bool.{cases_Bool, cases_eq, cases_lt, le-leb, le-ltb, and_parts, ltb-true}
use Rattle.std.specs.Option.{option_map}
use Rattle.errors.specs.declared.reports.Report.{Report}
use Rattle.errors.specs.declared.reports.ReportKind.{ReportKind}
use Rattle.errors.specs.declared.reports.ReportKind.TheVariants.{UnexpectedComma, UnexpectedArgument, ExpectedOpenParenthesis, ExpectedCloseParenthesis, InvalidGlob, InvalidPlatformArgument, ExpectedExpr, ExpectedEndOfExpression}
use Rattle.errors.specs.declared.faults.ReadingFault.{ReadingFault}
use Rattle.errors.specs.declared.faults.ReadingFault.TheVariants.{Regex, Deep, Crowded}
use Rattle.glob.specs.declared.place.Place.{Place}
use Rattle.glob.specs.Parts.{part_of}
use Rattle.glob.specs.Reading.{items_of}
use Rattle.unicode_string.specs.declared.Name.{Name}
use Rattle.unicode_string.specs.Text.{run_end}
use Rattle.unicode_string.specs.Names.{Named, name_at, frags_at, decoded, whole, in_text, in_space, spelt, bytes_in}
use Rattle.unicode_string.specs.Names as names
use Rattle.unicode_string.proofs.Frags.{run-within, run-from}
use Rattle.unicode_string.proofs.Naming.{name-escape, name-plain, whole-none, whole-some, found_none, found_some}
use Rattle.unicode_string.specs.Text.{is_word}
use Rattle.parsing.specs.declared.nodes.Predicate.{Predicate}
use Rattle.expression.specs.declared.name_matcher.MatchKind.{MatchKind}
use Rattle.expression.specs.declared.name_matcher.MatchKind.TheVariants.{Equal, Contains, Glob}
use Rattle.expression.specs.declared.queries.BuildPlatform.{BuildPlatform}
use Rattle.parsing.specs.declared.nodes.Operator.{Operator}
use Rattle.parsing.specs.declared.words.Nullary.{Nullary}
use Rattle.parsing.specs.declared.words.Nullary.TheVariants as nullary
use Rattle.parsing.specs.declared.words.SetName.{SetName}
use Rattle.parsing.specs.declared.words.SetName.TheVariants as set_name
use Rattle.parsing.specs.declared.words.Lead.{Lead}
use Rattle.parsing.specs.declared.words.Lead.TheVariants as lead
use Rattle.parsing.specs.declared.words.Opening.{Opening}
use Rattle.parsing.specs.declared.words.Sign.{Sign}
use Rattle.parsing.specs.declared.words.Mark.{Mark}
use Rattle.parsing.specs.declared.words.Mark.TheVariants as mark
use Rattle.parsing.specs.Tree.{Tree, Leaf, Word, postfix, renamed, renamed_leaf}
use Rattle.parsing.specs.Nodes.{leaf_of, node_of, nodes_of, leaf_in, word_in}
use Rattle.parsing.specs.Text.{is_at, skip, closing, begins_at, keyword_at}
use Rattle.parsing.specs.Words.{Entry, entry_at, first_at, Joins, sign, opening, or_else, set_entries, sign_entries, or_entries, and_entries, opening_at, or_sign_at, and_sign_at, mark_at, usual}
use Rattle.parsing.specs.Grammar.{between}
use Rattle.parsing.specs.Reading.{At, Out, after, ◌⨾◌, done, note, told, moved, halt, report_of, part, expect, open_at, close_at, comma_at, closed_at, nothing_at, all_white, Called, called_as, text_at, Matched, checked, matched_by, matcher_at, argument_for, argument_at, matched_leaf, unary_at, platform_of, platform_by, platform_leaf, platform_at, nullary_leaf, nullary_at, set_at, fault_of, sign_for, or_sign, and_sign, onward, joined_at, chain_at, and_with, or_with, Under, deepest, within, operand_for, operand_by, operand_at, basic_at, or_at, end_at, filter_at, reading_of}
use Rattle.parsing.proofs.Fits.{begins-fits}
use Rattle.parsing.proofs.Naming.{name-far, empty-spelt, name-empty, name-full}
use Rattle.parsing.proofs.Scans.{skip-from, skip-within, closing-from, closing-within}
use Rattle.parsing.proofs.Runs.{goes, stops}

abbrev pub Sat : {X : Type 0} → (X → Type 0) → Result X ReadingFault → Type 0
Sat P (Ok x) = P x
Sat P (Err e) = Unit {0}

-- the bytes b stand in S from u on
pub record Holds (S : List ℕ) (u : ℕ) (b : List ℕ) : Type 0 where
  pub before : List ℕ
  pub behind : List ℕ
  pub is : S ≡ before ++ (b ++ behind)
  pub at : length before ≡ u

holds-left : {S : List ℕ} {u : ℕ} (a b : List ℕ) → Holds S u (a ++ b) → Holds S u a
holds-left a b h = record { before = h.before; behind = b ++ h.behind; is = h.is ∙ ap (λ (l : List ℕ). h.before ++ l) (append_assoc a b h.behind); at = h.at }

holds-right : {S : List ℕ} {u : ℕ} (a b : List ℕ) → Holds S u (a ++ b) → Holds S (u + length a) b
holds-right a b h = record {
  before = h.before ++ a;
  behind = h.behind;
  is = h.is ∙ ap (λ (l : List ℕ). h.before ++ l) (append_assoc a b h.behind) ∙ sym (append_assoc h.before a (b ++ h.behind));
  at = length-append h.before a ∙ ap (λ (n : ℕ). n + length a) h.at;
}

holds-part : {S : List ℕ} {u : ℕ} (b : List ℕ) → Holds S u b → part_of S (record { start = u; length = length b }) ≡ Some b
holds-part {S} {u} b h =
    let n : length S ≡ u + (length b + length h.behind) = ap length h.is ∙ length-append h.before (b ++ h.behind) ∙ ap (λ (k : ℕ). k + length (b ++ h.behind)) h.at ∙ ap (λ (k : ℕ). u + k) (length-append b h.behind) in
    ap (λ (x : Bool). cond x (Some (take (length b) (drop u S))) None) (le-leb (u + length b) (length S) (omega (arith, n)))
    ∙ ap (λ (l : List ℕ). Some l) (ap (λ (l : List ℕ). take (length b) (drop u l)) h.is ∙ ap (take (length b)) (drop_at h.before (b ++ h.behind) u h.at) ∙ take_at b h.behind (length b) refl)

module _ (t S : List ℕ) where
  -- a reading stays in the text, decodes no more than it reads, and what it gives satisfies P in a space that holds what it decoded
  pub record Good {X : Type 0} (P : X → Type 0) (a : At) (o : Out X) : Type 0 where
    pub stays : o.pos ≤ length t
    pub size : a.pos + length o.bytes ≤ o.pos
    pub sat : Holds S a.used o.bytes → Sat P o.value

  abbrev pub Keeps : {X : Type 0} → (X → Type 0) → (At → Out X) → Type 0
  Keeps P rd = (a : At) → a.pos ≤ length t → Good P a (rd a)

  good-by : {X : Type 0} {P : X → Type 0} {a : At} {o p : Out X} → o ≡ p → Good P a o → Good P a p
  good-by {X} {P} {a} e g = subst (Good P a) e g

  keeps_then : {X Y : Type 0} {P : X → Type 0} {Q : Y → Type 0} (f : At → Out X) (k : X → At → Out Y) (a : At) → a.pos ≤ length t → Good P a (f a) → ((x : X) → Keeps (λ y. P x → Q y) (k x)) → Good Q a ((f ⨾ k) a)
  keeps_then {X} {Y} {P} {Q} f k a h g n = go (f a).value refl
    where
      go : (v : Result X ReadingFault) → (f a).value ≡ v → Good Q a ((f ⨾ k) a)
      go (Err e) q = good-by (sym (stops f k a e q)) (record { stays = g.stays; size = g.size; sat = λ _. tt })
      go (Ok x) q =
          let b = after a (f a) in
          let w = n x b g.stays in
          good-by (sym (goes f k a x q)) (record {
            stays = w.stays;
            size = omega (arith, g.size, w.size, length-append (f a).bytes (k x b).bytes);
            sat = λ h.
                let p : P x = subst (Sat P) q (g.sat (holds-left (f a).bytes (k x b).bytes h)) in
                both p (k x b).value (w.sat (holds-right (f a).bytes (k x b).bytes h));
          })
        where
          both : {x : X} → P x → (v : Result Y ReadingFault) → Sat (λ y. P x → Q y) v → Sat Q v
          both p (Ok y) s = s p
          both p (Err e) s = tt

  -- readings without decoded bytes
  keeps-plain : {X : Type 0} {P : X → Type 0} (a : At) (o : Out X) → o.bytes ≡ [] → a.pos ≤ o.pos → o.pos ≤ length t → Sat P o.value → Good P a o
  keeps-plain a o e l h s = record { stays = h; size = omega (arith, ap length e); sat = λ _. s }

  keeps-done : {X : Type 0} {P : X → Type 0} (x : X) → P x → Keeps P (done x)
  keeps-done x p a h = keeps-plain a (done x a) refl (omega arith) h p

  keeps-note : {X : Type 0} {P : X → Type 0} (x : X) (r : Report) → P x → Keeps P (note x r)
  keeps-note x r p a h = keeps-plain a (note x r a) refl (omega arith) h p

  keeps-halt : {X : Type 0} {P : X → Type 0} (e : ReadingFault) → Keeps P (halt {X = X} e)
  keeps-halt {X} e a h = keeps-plain a (halt {X = X} e a) refl (omega arith) h tt

  good-moved : (q : ℕ) (a : At) → a.pos ≤ q → q ≤ length t → Good (λ _. Unit {0}) a (moved q a)
  good-moved q a l h = keeps-plain a (moved q a) refl l h tt

  good-cond : {X : Type 0} {P : X → Type 0} {a : At} (b : Bool) (o p : Out X) → (b ≡ true → Good P a o) → (b ≡ false → Good P a p) → Good P a (cond b o p)
  good-cond true o p f g = f refl
  good-cond false o p f g = g refl

  -- weaker
  good-as : {X : Type 0} {P Q : X → Type 0} {a : At} {o : Out X} → ((x : X) → P x → Q x) → Good P a o → Good Q a o
  good-as {X} {P} {Q} {a} {o} f g = record { stays = g.stays; size = g.size; sat = λ h. go o.value (g.sat h) }
    where
      go : (v : Result X ReadingFault) → Sat P v → Sat Q v
      go (Ok x) p = f x p
      go (Err e) p = tt

  keeps-part : (p : ℕ) → Keeps (λ _. Unit {0}) (part p)
  keeps-part p a h =
      good-cond (ltb a.parts 128) (record { pos = a.pos; parts = a.parts + 1; reports = []; bytes = []; value = Ok tt }) (halt (Crowded p a.count) a)
      (λ _. keeps-plain a (record { pos = a.pos; parts = a.parts + 1; reports = []; bytes = []; value = Ok tt }) refl (omega arith) h tt) (λ _. keeps-halt (Crowded p a.count) a h)

  at-inside : (p b : ℕ) → is_at t p b ≡ true → p + 1 ≤ length t
  at-inside p b e = omega (arith, ltb-true p (length t) (and_parts (ltb p (length t)) (eqb (get_or t p 0) b) e).0)

  keeps-expect : (b : ℕ) (k : ReportKind) → Keeps (λ _. Unit {0}) (expect t b k)
  keeps-expect b k a h =
      let q = skip t a.pos in
      good-cond (is_at t q b) (moved (q + 1) a) (note tt (report_of k a.pos 0) a) (λ e. good-moved (q + 1) a (omega (arith, skip-from t a.pos)) (at-inside q b e)) (λ _. keeps-note tt (report_of k a.pos 0) tt a h)

  keeps-comma : Keeps (λ _. Unit {0}) (comma_at t)
  unfolding comma_at
  keeps-comma a h =
      let q = closing t a.pos in
      good-cond (is_at t a.pos 44) (told tt (report_of UnexpectedComma a.pos 0) q a) (done tt a)
      (λ _. keeps-plain a (told tt (report_of UnexpectedComma a.pos 0) q a) refl (closing-from t a.pos) (closing-within t a.pos h) tt) (λ _. keeps-done tt tt a h)

  keeps-nothing : Keeps (λ _. Unit {0}) (nothing_at t)
  unfolding nothing_at
  keeps-nothing a h =
      let p = a.pos in
      let q = closing t p in
      let r = report_of UnexpectedArgument p (q - p) in
      good-cond (all_white (take (q - p) (drop p t))) (moved q a) (told tt r q a) (λ _. good-moved q a (closing-from t p) (closing-within t p h)) (λ _. keeps-plain a (told tt r q a) refl (closing-from t p) (closing-within t p h) tt)

  keeps-closed : Keeps (λ _. Unit {0}) (closed_at t)
  keeps-closed a h = keeps_then (comma_at t) (λ _. close_at t) a h (keeps-comma a h) (λ _ b l. good-as (λ x p _. p) (keeps-expect 41 ExpectedCloseParenthesis b l))

  -- a name stands in its place
  abbrev pub Stood : Called → Type 0
  Stood n = bytes_in t S n.name ≡ Some n.bytes

  abbrev pub StoodIf : Option Called → Type 0
  StoodIf None = Unit {0}
  StoodIf (Some n) = Stood n

  part_in : (p q : ℕ) → p ≤ q → q ≤ length t → part_of t (record { start = p; length = q - p }) ≡ Some (take (q - p) (drop p t))
  part_in p q l h = ap (λ (b : Bool). cond b (Some (take (q - p) (drop p t))) None) (le-leb (p + (q - p)) (length t) (omega arith))

  stood-named : (p u : ℕ) → p ≤ length t → Holds S u (name_at t p u).out.bytes → StoodIf (called_as t (name_at t p u).out (name_at t p u).name)
  stood-named p u h w = elim (cases_eq (get_or t (run_end t p) 0) 92) [
    | inl e ↦ subst (λ (n : Named). Holds S u n.out.bytes → StoodIf (called_as t n.out n.name)) (name-escape t p u e) (by-escape (frags_at t (length t) p)) w
    | inr ne ↦ subst (λ (n : Named). StoodIf (called_as t n.out n.name)) (name-plain t p u ne) (by-plain (cases_eq (run_end t p) p))
  ]
    where
      by-escape : (o : names.Out) → Holds S u o.bytes → StoodIf (called_as t o (decoded u o).name)
      by-escape o v = elim (cases_eq (length o.reports) 0) [
        | inl z ↦ subst (λ (n : Option Name). StoodIf (called_as t o n)) (found_some u o z refl) (holds-part o.bytes v)
        | inr z ↦ subst (λ (n : Option Name). StoodIf (called_as t o n)) (found_none u o z) tt
      ]

      by-plain : (run_end t p ≡ p) ⊎ (run_end t p ≡ p → ⊥) → StoodIf (called_as t (whole p (run_end t p)).out (whole p (run_end t p)).name)
      by-plain (inl e) = subst (λ (n : Named). StoodIf (called_as t n.out n.name)) (whole-none p (run_end t p) e) tt
      by-plain (inr e) = subst (λ (n : Named). StoodIf (called_as t n.out n.name)) (whole-some p (run_end t p) e) (part_in p (run_end t p) (run-from t p) (run-within t p h))

  keeps-text : Keeps StoodIf (text_at t)
  unfolding text_at
  keeps-text a h =
      let p = a.pos in
      let u = a.used in
      let n = name_at t p u in
      let f = name-far t p u h in
      record {
        stays = f.within;
        size = f.bytes;
        sat = λ w. elim (cases_eq n.out.at p) [
          | inl e ↦ subst StoodIf (name-empty t p u e) (empty-spelt t S p h)
          | inr e ↦ subst StoodIf (name-full t p u e) (stood-named p u h w)
        ];
      }

  abbrev pub MatchedIf : Option Matched → Type 0
  MatchedIf None = Unit {0}
  MatchedIf (Some m) = Stood m.called

  keeps-checked : (p : ℕ) (k : MatchKind) (n : Option Called) → Keeps (λ m. StoodIf n → StoodIf m) (checked p k n)
  keeps-checked p k None = keeps-done None (λ q. q)
  keeps-checked p Equal (Some n) = keeps-done (Some n) (λ q. q)
  keeps-checked p Contains (Some n) = keeps-done (Some n) (λ q. q)
  keeps-checked p Glob (Some n) = λ a h. good-cond (is_some (items_of n.bytes)) (done (Some n) a) (note None (report_of InvalidGlob p (a.pos - p)) a) (λ _. keeps-done (Some n) (λ q. q) a h) (λ _. keeps-note None (report_of InvalidGlob p (a.pos - p)) (λ _. tt) a h)

  keeps-matched : (k : MatchKind) (n : Option Called) → Keeps (λ m. StoodIf n → MatchedIf m) (matched_by k n)
  keeps-matched k None = keeps-done None (λ _. tt)
  keeps-matched k (Some n) = keeps-done (Some (record { kind = k; called = n })) (λ q. q)

  keeps-matcher : (k : MatchKind) → Keeps MatchedIf (matcher_at t k)
  unfolding matcher_at
  keeps-matcher k a h =
      keeps_then {P = StoodIf} (text_at t) (λ n. checked a.pos k n ⨾ matched_by k) a h (keeps-text a h)
      (λ n b l. keeps_then {P = λ m. StoodIf n → StoodIf m} (checked a.pos k n) (matched_by k) b l (keeps-checked a.pos k n b l) (λ m c w. good-as (λ y f g s. f (g s)) (keeps-matched k m c w)))

  mark-inside : (p : ℕ) (m : MatchKind) → mark_at t p ≡ mark.Marked m → p + 1 ≤ length t
  unfolding mark_at
  mark-inside p m e = elim (cases_lt p (length t)) [
    | inl l ↦ omega arith
    | inr g ↦
        let u : mark_at t p ≡ mark.Unmarked = rw (le-ltb p (length t) g) refl in
        absurd (let z : ◌≡◌ {A = ℕ} 0 1 = cc in omega arith)
  ]

  keeps-argument : (k : MatchKind) → Keeps MatchedIf (argument_at t k)
  unfolding argument_at
  keeps-argument k a h =
      keeps_then {P = λ _. Unit {0}} (moved (skip t a.pos)) (λ _ b. argument_for t k (mark_at t b.pos) b) a h (good-moved (skip t a.pos) a (skip-from t a.pos) (skip-within t a.pos h))
      (λ _ b l. good-as (λ y p _. p) (by (mark_at t b.pos) b refl l))
    where
      by : (m : Mark) (b : At) → mark_at t b.pos ≡ m → b.pos ≤ length t → Good MatchedIf b (argument_for t k m b)
      by mark.Regex b e l = keeps-halt (Regex b.pos b.count) b l
      by (mark.Marked n) b e l =
          keeps_then {P = λ _. Unit {0}} (moved (b.pos + 1)) (λ _. matcher_at t n) b l (good-moved (b.pos + 1) b (omega arith) (mark-inside b.pos n e)) (λ _ d w. good-as (λ y p _. p) (keeps-matcher n d w))
      by mark.Unmarked b e l = keeps-matcher k b l

  -- every name of a tree stands in its place
  abbrev pub EveryLeaf : Leaf Called → Type 0
  EveryLeaf (Leaf.matched p k n at) = Stood n
  EveryLeaf (Leaf.platform h at) = Unit {0}
  EveryLeaf (Leaf.default at) = Unit {0}
  EveryLeaf Leaf.all = Unit {0}
  EveryLeaf Leaf.none = Unit {0}

  abbrev pub Every : Tree Called → Type 0
  Every Tree.bad = Unit {0}
  Every (Tree.set l) = EveryLeaf l
  Every (Tree.negated x) = Every x
  Every (Tree.group x) = Every x
  Every (Tree.joined o x y) = Every x × Every y

  every-matched : (p : Predicate) (at : Place) (m : Option Matched) → MatchedIf m → Every (matched_leaf p at m)
  every-matched p at None q = tt
  every-matched p at (Some m) q = q

  every-nullary : (n : Nullary) (at : Place) → Every (nullary_leaf n at)
  every-nullary nullary.Default at = tt
  every-nullary nullary.All at = tt
  every-nullary nullary.None at = tt

  keeps-unary : (p : Predicate) → Keeps Every (unary_at t p)
  unfolding unary_at
  keeps-unary p a h =
      keeps_then {P = λ _. Unit {0}} (open_at t) _ a h (keeps-expect 40 ExpectedOpenParenthesis a h)
      (λ _ b l. good-as (λ y q _. q)
      (keeps_then {P = MatchedIf} (argument_at t (usual p)) (λ m c. (closed_at t ⨾ (λ _. done (matched_leaf p (between b.pos c.pos) m))) c) b l (keeps-argument (usual p) b l)
      (λ m c w. keeps_then {P = λ _. Unit {0}} (closed_at t) (λ _. done (matched_leaf p (between b.pos c.pos) m)) c w (keeps-closed c w)
      (λ _ d v. keeps-done (matched_leaf p (between b.pos c.pos) m) (λ _ q. every-matched p (between b.pos c.pos) m q) d v))))

  keeps-platform-leaf : (at : Place) (n : Option Called) → Keeps Every (platform_leaf at n)
  keeps-platform-leaf at None = keeps-done Tree.bad tt
  keeps-platform-leaf at (Some n) = by (platform_of n.bytes)
    where
      by : (h : Option BuildPlatform) → Keeps Every (platform_by at h)
      by None = keeps-note Tree.bad (report_of InvalidPlatformArgument at.start at.length) tt
      by (Some h) = keeps-done (Tree.set (Leaf.platform h at)) tt

  keeps-platform : Keeps Every (platform_at t)
  unfolding platform_at
  keeps-platform a h =
      keeps_then {P = λ _. Unit {0}} (open_at t) _ a h (keeps-expect 40 ExpectedOpenParenthesis a h)
      (λ _ b l. good-as (λ y q _. q)
      (keeps_then {P = λ _. Unit {0}} (moved (skip t b.pos)) _ b l (good-moved (skip t b.pos) b (skip-from t b.pos) (skip-within t b.pos l))
      (λ _ c w. good-as (λ y q _. q)
      (keeps_then {P = StoodIf} (text_at t) (λ n d. (closed_at t ⨾ (λ _. platform_leaf (between b.pos d.pos) n)) d) c w (keeps-text c w)
      (λ n d v. good-as (λ y q _. q) (keeps_then {P = λ _. Unit {0}} (closed_at t) (λ _. platform_leaf (between b.pos d.pos) n) d v (keeps-closed d v)
      (λ _ e u. good-as (λ y q _. q) (keeps-platform-leaf (between b.pos d.pos) n e u))))))))

  keeps-nullary : (n : Nullary) (p : ℕ) → Keeps Every (nullary_at t n p)
  unfolding nullary_at
  keeps-nullary n p a h =
      keeps_then {P = λ _. Unit {0}} (open_at t) _ a h (keeps-expect 40 ExpectedOpenParenthesis a h)
      (λ _ b l. good-as (λ y q _. q) (keeps_then {P = λ _. Unit {0}} (nothing_at t) _ b l (keeps-nothing b l)
      (λ _ c w. good-as (λ y q _. q) (keeps_then {P = λ _. Unit {0}} (close_at t) _ c w (keeps-expect 41 ExpectedCloseParenthesis c w)
      (λ _ d v. keeps-done (nullary_leaf n (between p d.pos)) (λ _. every-nullary n (between p d.pos)) d v)))))

  keeps-set : (p : ℕ) (s : SetName) → Keeps Every (set_at t p s)
  keeps-set p (set_name.Matched q) = keeps-unary q
  keeps-set p set_name.Platform = keeps-platform
  keeps-set p (set_name.Nullary n) = keeps-nullary n p

  -- a word that stands somewhere ends in the text
  entry-begins : {X : Type 0} (p : ℕ) (e : Entry X) → entry_at t p e ≡ true → begins_at t p e.word ≡ true
  entry-begins p e h = by e.whole h
    where
      by : (b : Bool) → cond b (keyword_at t p e.word) (begins_at t p e.word) ≡ true → begins_at t p e.word ≡ true
      by true q = (and_parts (begins_at t p e.word) (not (is_word (get_or t (p + length e.word) 0))) q).0
      by false q = q

  abbrev Ends : {X : Type 0} → ℕ → Option (Entry X) → Type 0
  Ends p None = Unit {0}
  Ends p (Some e) = p + length e.word ≤ length t

  first_ends : {X : Type 0} (p : ℕ) → p ≤ length t → (es : List (Entry X)) → Ends p (first_at es t p)
  first_ends p h [] = tt
  first_ends {X} p h (e ∷ es) = elim (cases_Bool (entry_at t p e)) [
    | inl y ↦ subst (Ends p) (sym (ap (λ (b : Bool). cond b (Some e) (first_at es t p)) y)) (begins-fits t e.word p h (entry-begins p e y))
    | inr n ↦ subst (Ends p) (sym (ap (λ (b : Bool). cond b (Some e) (first_at es t p)) n)) (first_ends p h es)
  ]

  abbrev SignEnds : ℕ → Option Sign → Type 0
  SignEnds p None = Unit {0}
  SignEnds p (Some s) = p + s.length ≤ length t

  sign-ends : (p : ℕ) (o : Option (Entry Joins)) → Ends p o → SignEnds p (sign o)
  sign-ends p None h = tt
  sign-ends p (Some e) h = h

  abbrev OpeningEnds : ℕ → Option Opening → Type 0
  OpeningEnds p None = Unit {0}
  OpeningEnds p (Some o) = p + o.length ≤ length t

  opening-ends : (p : ℕ) (o q : Option (Entry Lead)) → Ends p o → Ends p q → OpeningEnds p (or_else (opening o) (opening q))
  opening-ends p None None h g = tt
  opening-ends p None (Some e) h g = g
  opening-ends p (Some e) q h g = h

  keeps-fault : (k : Option ReportKind) (p n : ℕ) → Keeps (λ _. Unit {0}) (fault_of k p n)
  keeps-fault None p n = keeps-done tt tt
  keeps-fault (Some k) p n = keeps-note tt (report_of k p n) tt

  keeps-sign : (p : ℕ) (o : Option Sign) → SignEnds p o → (a : At) → a.pos ≤ length t → a.pos ≤ p → Good (λ _. Unit {0}) a (sign_for p o a)
  keeps-sign p None e a h l = keeps-done None tt a h
  keeps-sign p (Some s) e a h l =
      keeps_then {P = λ _. Unit {0}} (moved (p + s.length)) _ a h (good-moved (p + s.length) a (omega arith) e)
      (λ _ b w. good-as (λ y q _. q) (keeps_then {P = λ _. Unit {0}} (part p) _ b w (keeps-part p b w)
      (λ _ c v. good-as (λ y q _. q) (keeps_then {P = λ _. Unit {0}} (fault_of s.fault p s.length) _ c v (keeps-fault s.fault p s.length c v)
      (λ _. keeps-done (Some s.operator) (λ _. tt))))))

  keeps-or : Keeps (λ _. Unit {0}) (or_sign t)
  unfolding or_sign or_sign_at
  keeps-or a h = let p = skip t a.pos in keeps-sign p (or_sign_at t p) (sign-ends p (first_at or_entries t p) (first_ends p (skip-within t a.pos h) or_entries)) a h (skip-from t a.pos)

  keeps-and : Keeps (λ _. Unit {0}) (and_sign t)
  unfolding and_sign and_sign_at
  keeps-and a h = let p = skip t a.pos in keeps-sign p (and_sign_at t p) (sign-ends p (first_at and_entries t p) (first_ends p (skip-within t a.pos h) and_entries)) a h (skip-from t a.pos)

  module _ (sg : At → Out (Option Operator)) (one : At → Out (Tree Called)) (ks : Keeps (λ _. Unit {0}) sg) (ko : Keeps Every one) where
    keeps-joined : (f : ℕ) (x : Tree Called) → Keeps (λ y. Every x → Every y) (joined_at sg one f x)
    unfolding joined_at
    keeps-joined zero x a h = keeps-done x (λ q. q) a h
    keeps-joined (suc f) x a h = keeps_then {P = λ _. Unit {0}} sg (onward x (λ o. one ⨾ (λ y. joined_at sg one f (Tree.joined o x y)))) a h (ks a h) (by (λ y. keeps-joined f y))
      where
        by : ((y : Tree Called) → Keeps (λ z. Every y → Every z) (joined_at sg one f y)) → (o : Option Operator) → Keeps (λ y. Unit {0} → Every x → Every y) (onward x (λ o. one ⨾ (λ y. joined_at sg one f (Tree.joined o x y))) o)
        by ih None b w = keeps-done x (λ _ q. q) b w
        by ih (Some o) b w = keeps_then {P = Every} one (λ y. joined_at sg one f (Tree.joined o x y)) b w (ko b w) (λ y c v. good-as (λ z g q _ r. g (r, q)) (ih (Tree.joined o x y) c v))

    keeps-chain : Keeps Every (chain_at t sg one)
    unfolding chain_at
    keeps-chain a h = keeps_then {P = Every} one (joined_at sg one (length t)) a h (ko a h) (keeps-joined (length t))

  keeps-operand : (u : ℕ → Under) → ((p : ℕ) → Keeps Every (u p).not) → ((p : ℕ) → Keeps Every (u p).group) → Keeps Every (operand_at t u)
  unfolding opening_at
  keeps-operand u kn kg a h =
      let p = skip t a.pos in
      by (opening_at t p) (opening-ends p (first_at set_entries t p) (first_at sign_entries t p) (first_ends p (skip-within t a.pos h) set_entries) (first_ends p (skip-within t a.pos h) sign_entries))
    where
      counted : (p q : ℕ) (rd : At → Out (Tree Called)) → Keeps Every rd → a.pos ≤ q → q ≤ length t → Good Every a ((moved q ⨾ (λ _. part p ⨾ (λ _. rd))) a)
      counted p q rd k l w =
          keeps_then {P = λ _. Unit {0}} (moved q) (λ _. part p ⨾ (λ _. rd)) a h (good-moved q a l w)
          (λ _ b v. good-as (λ y g _. g) (keeps_then {P = λ _. Unit {0}} (part p) (λ _. rd) b v (keeps-part p b v) (λ _ c z. good-as (λ y g _. g) (k c z))))

      lead-by : (l : Lead) (n : ℕ) → skip t a.pos + n ≤ length t → Good Every a (operand_for t u (skip t a.pos) (record { lead = l; length = n }) a)
      lead-by (lead.Set s) n e = counted (skip t a.pos) (skip t a.pos + n) (set_at t (skip t a.pos) s) (keeps-set (skip t a.pos) s) (omega (arith, skip-from t a.pos)) e
      lead-by lead.Not n e = counted (skip t a.pos) (skip t a.pos + n) (u (skip t a.pos)).not (kn (skip t a.pos)) (omega (arith, skip-from t a.pos)) e
      lead-by lead.Group n e = counted (skip t a.pos) (skip t a.pos + n) (u (skip t a.pos)).group (kg (skip t a.pos)) (omega (arith, skip-from t a.pos)) e
      lead-by (lead.Misplaced k) n e =
          keeps-plain a (told Tree.bad (report_of k (skip t a.pos) n) (skip t a.pos + n) a) refl (omega (arith, skip-from t a.pos)) e tt

      by : (o : Option Opening) → OpeningEnds (skip t a.pos) o → Good Every a (operand_by t u o a)
      by None e = keeps-note Tree.bad (report_of ExpectedExpr a.pos (length t - a.pos)) tt a h
      by (Some o) e = lead-by o.lead o.length e

  keeps-or-with : (basic : At → Out (Tree Called)) → Keeps Every basic → Keeps Every (or_with t basic)
  keeps-or-with basic k = keeps-chain (or_sign t) (and_with t basic) keeps-or (keeps-chain (and_sign t) basic keeps-and k)

  keeps-basic : (n : ℕ) → Keeps Every (basic_at t n)
  unfolding basic_at
  keeps-basic zero = keeps-operand deepest (λ p a h. keeps-halt (Deep p a.count) a h) (λ p a h. keeps-halt (Deep p a.count) a h)
  keeps-basic (suc n) = keeps-operand (within t (basic_at t n))
      (λ _ a h. keeps_then {P = Every} (basic_at t n) (λ x. done (Tree.negated x)) a h (keeps-basic n a h) (λ x. keeps-done (Tree.negated x) (λ q. q)))
      (λ _ a h. keeps_then {P = Every} (or_with t (basic_at t n)) (λ x. close_at t ⨾ (λ _. done (Tree.group x))) a h (keeps-or-with (basic_at t n) (keeps-basic n) a h)
      (λ x b w. keeps_then {P = λ _. Unit {0}} (close_at t) (λ _. done (Tree.group x)) b w (keeps-expect 41 ExpectedCloseParenthesis b w) (λ _. keeps-done (Tree.group x) (λ _ q. q))))

  keeps-end : Keeps (λ _. Unit {0}) (end_at t)
  keeps-end a h =
      let r = report_of ExpectedEndOfExpression a.pos (length t - a.pos) in
      good-cond (eqb (skip t a.pos) (length t)) (moved (length t) a) (note tt r a) (λ _. good-moved (length t) a h (omega arith)) (λ _. keeps-note tt r tt a h)

  pub keeps-filter : Keeps Every (filter_at t)
  unfolding filter_at
  keeps-filter a h =
      keeps_then {P = Every} (or_at t 32) (λ x. end_at t ⨾ (λ _. done x)) a h (keeps-or-with (basic_at t 32) (keeps-basic 32) a h)
      (λ x b w. keeps_then {P = λ _. Unit {0}} (end_at t) (λ _. done x) b w (keeps-end b w) (λ _. keeps-done x (λ _ q. q)))

-- what the nodes of such a tree mean
module _ (t S : List ℕ) where
  leaf-means : (l : Leaf Called) → EveryLeaf t S l → leaf_in t S (leaf_of l) ≡ Some (renamed_leaf (λ c. c.bytes) l)
  leaf-means (Leaf.matched p k n at) h = ap (option_map (λ b. Leaf.matched p k b at)) h
  leaf-means (Leaf.platform h at) e = refl
  leaf-means (Leaf.default at) e = refl
  leaf-means Leaf.all e = refl
  leaf-means Leaf.none e = refl

  abbrev told_of : List (Word Called) → List (Option (Word (List ℕ)))
  told_of l = map (word_in t S) (map node_of l)

  told-append : (a b : List (Word Called)) → told_of (a ++ b) ≡ told_of a ++ told_of b
  told-append [] b = refl
  told-append (x ∷ a) b = ap (λ (l : List (Option (Word (List ℕ)))). word_in t S (node_of x) ∷ l) (told-append a b)

  some-append : (a b : List (Word (List ℕ))) → map (λ w. Some w) (a ++ b) ≡ map (λ w. Some w) a ++ map (λ w. Some w) b
  some-append [] b = refl
  some-append (x ∷ a) b = ap (λ (l : List (Option (Word (List ℕ)))). Some x ∷ l) (some-append a b)

  abbrev meant : Tree Called → List (Option (Word (List ℕ)))
  meant x = map (λ w. Some w) (postfix (renamed (λ c. c.bytes) x))

  join : {a b c d : List (Option (Word (List ℕ)))} → a ≡ b → c ≡ d → a ++ c ≡ b ++ d
  join {a} {b} {c} {d} p q = ap (λ (l : List (Option (Word (List ℕ)))). l ++ c) p ∙ ap (λ (l : List (Option (Word (List ℕ)))). b ++ l) q

  pub nodes-mean : (x : Tree Called) → Every t S x → map (word_in t S) (nodes_of x) ≡ meant x
  nodes-mean Tree.bad h = refl
  nodes-mean (Tree.set l) h = ap (λ (o : Option (Leaf (List ℕ))). option_map (λ y. Word.leaf y) o ∷ []) (leaf-means l h)
  nodes-mean (Tree.negated x) h = told-append (postfix x) (Word.negation ∷ []) ∙ join (nodes-mean x h) refl ∙ sym (some-append (postfix (renamed (λ c. c.bytes) x)) (Word.negation ∷ []))
  nodes-mean (Tree.group x) h = told-append (postfix x) (Word.brackets ∷ []) ∙ join (nodes-mean x h) refl ∙ sym (some-append (postfix (renamed (λ c. c.bytes) x)) (Word.brackets ∷ []))
  nodes-mean (Tree.joined o x y) h =
      let p = postfix (renamed (λ c. c.bytes) x) in
      let q = postfix (renamed (λ c. c.bytes) y) in
      told-append (postfix x) (postfix y ++ (Word.operator o ∷ []))
      ∙ join (nodes-mean x h.0) (told-append (postfix y) (Word.operator o ∷ []) ∙ join (nodes-mean y h.1) refl ∙ sym (some-append q (Word.operator o ∷ [])))
      ∙ sym (some-append p (q ++ (Word.operator o ∷ [])))

-- the names of a whole reading stand in the text and in a space of zeros that got its decoded bytes
holds-new : (s b : List ℕ) → length b ≤ length s → Holds (sets s 0 b) 0 b
holds-new s b h = record { before = take 0 s; behind = drop (0 + length b) s; is = sets-eq b s 0 (omega arith) ∙ append_assoc (take 0 s) b (drop (0 + length b) s); at = refl }

sat-ok : {X : Type 0} (P : X → Type 0) (x : X) (v : Result X ReadingFault) → Sat P v → v ≡ Ok x → P x
sat-ok {X} P x v h e = subst (Sat P) e h

pub names_stand : (t s : List ℕ) (x : Tree Called) → length t ≤ length s → (reading_of t).value ≡ Ok x → Every t (sets s 0 (reading_of t).bytes) x
names_stand t s x h e =
    let S = sets s 0 (reading_of t).bytes in
    let g = keeps-filter t S (record { pos = 0; parts = 0; count = 0; used = 0 }) (omega arith) in
    sat-ok (Every t S) x (reading_of t).value (g.sat (holds-new s (reading_of t).bytes (omega (arith, g.stays, g.size)))) e
