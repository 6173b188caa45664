-- What the reading call answers and leaves is what the grammar says.
use Rattle.std.proofs.Common.{◌≡◌, ℕ, ◌≤◌, Bool, true, false, cond, List, [], ◌∷◌, map, length, is_ok, Ok, Err, Result, sym, refl, ap, ◌∙◌, subst, inl, inr, arith}
use lib.Seq.{sets}
use Rattle.std.proofs.lemmas.Bool.{le-ltb, cases_lt, lt-ltb}
use Rattle.errors.specs.declared.reports.Report.{Report}
use Rattle.errors.specs.declared.faults.TextFault.TheVariants.{Long}
use Rattle.errors.specs.declared.faults.ReadingFault.{ReadingFault}
use Rattle.errors.specs.declared.faults.ReadingFault.TheVariants.{Text}
use Rattle.parsing.specs.declared.nodes.ParsedNode.{ParsedNode}
use Rattle.parsing.specs.Law.{Law, Says}
use Rattle.parsing.specs.Nodes.{nodes_of, word_in}
use Rattle.parsing.specs.Outcome.{answer_by, answer_for, answer_of, is_long, nodes_left, space_of, tree_of, zeros}
use Rattle.parsing.specs.Reading.{Called, reading_of}
use Rattle.parsing.specs.Tree.{Tree}
use Rattle.parsing.proofs.LawRuns.{Clean}
use Rattle.parsing.proofs.LawSound.{bytes_tree, reading-sound}
use Rattle.parsing.proofs.LawUnique.{one-tree}
use Rattle.parsing.proofs.LawWhole.{reading-whole}
use Rattle.parsing.proofs.Spelling.{names_stand, nodes-mean}

-- a text that is accepted was read without a report and without a stop
record Given (t : List ℕ) : Type 0 where
  tree : Tree Called
  short : length t ≤ 1024
  clean : Clean (reading_of t) tree

given : (t : List ℕ) → answer_of t ≡ Ok tt → Given t
given t e = go (is_long t) refl e
  where
    by : length t ≤ 1024 → (l : List Report) (v : Result (Tree Called) ReadingFault) → (reading_of t).reports ≡ l → (reading_of t).value ≡ v → answer_by l v ≡ Ok tt → Given t
    by h [] (Ok x) a b e = record { tree = x; short = h; clean = record { value = b; quiet = a } }
    by h (r ∷ l) (Ok x) a b e = absurd (let z : ◌≡◌ {A = ℕ} 0 1 = cc in omega arith)
    by h l (Err q) a b e = absurd (let z : ◌≡◌ {A = ℕ} 0 1 = cc in omega arith)

    go : (b : Bool) → is_long t ≡ b → cond b (Err (Text Long)) (answer_for (reading_of t)) ≡ Ok tt → Given t
    go true q e = absurd (let z : ◌≡◌ {A = ℕ} 0 1 = cc in omega arith)
    go false q e = elim (cases_lt 1024 (length t)) [
      | inl h ↦ absurd (let y : true ≡ false = sym (lt-ltb 1024 (length t) h) ∙ q in let z : ◌≡◌ {A = ℕ} 0 1 = cc in omega arith)
      | inr h ↦ by h (reading_of t).reports (reading_of t).value refl refl e
    ]

-- and the other way
taken : (t : List ℕ) → Given t → answer_for (reading_of t) ≡ Ok tt
taken t g = ap (λ (l : List Report). answer_by l (reading_of t).value) g.clean.quiet ∙ ap (answer_by []) g.clean.value

not-long : (t : List ℕ) → length t ≤ 1024 → is_long t ≡ false
not-long t h = le-ltb 1024 (length t) h

accepted : (t : List ℕ) → Given t → answer_of t ≡ Ok tt
accepted t g = ap (λ (b : Bool). cond b (Err (Text Long)) (answer_for (reading_of t))) (not-long t g.short) ∙ taken t g

space-left : (t s : List ℕ) → Given t → space_of t s ≡ sets zeros 0 (reading_of t).bytes
space-left t s g =
    ap (λ (b : Bool). cond b s (cond (is_ok (answer_for (reading_of t))) (sets zeros 0 (reading_of t).bytes) zeros)) (not-long t g.short)
    ∙ ap (λ (r : Result (Unit {0}) ReadingFault). cond (is_ok r) (sets zeros 0 (reading_of t).bytes) zeros) (taken t g)

nodes-left : (t : List ℕ) → (g : Given t) → nodes_left t ≡ nodes_of g.tree
nodes-left t g =
    ap (λ (r : Result (Unit {0}) ReadingFault). cond (is_ok r) (nodes_of (tree_of (reading_of t).value)) []) (accepted t g)
    ∙ ap (λ (v : Result (Tree Called) ReadingFault). nodes_of (tree_of v)) g.clean.value

said : (t s : List ℕ) → (g : Given t) → Says t (space_of t s) (nodes_left t) (bytes_tree g.tree)
said t s g =
    ap (λ (u : List ℕ). map (word_in t u) (nodes_left t)) (space-left t s g)
    ∙ ap (map (word_in t (sets zeros 0 (reading_of t).bytes))) (nodes-left t g)
    ∙ nodes-mean t (sets zeros 0 (reading_of t).bytes) g.tree (names_stand t zeros g.tree g.short g.clean.value)

law : (t s : List ℕ) → Law t (space_of t s) (nodes_left t) (answer_of t)
law t s = record {
  sound = λ e. let g = given t e in (g.short, record { tree = bytes_tree g.tree; fine = reading-sound t g.tree g.clean; says = said t s g });
  whole = λ x f h.
      let r = reading-whole t x f in
      let g : Given t = record { tree = r.tree; short = h; clean = record { value = r.value; quiet = r.quiet } } in
      (accepted t g, subst (Says t (space_of t s) (nodes_left t)) r.same (said t s g));
  one = one-tree t;
}

pub law-of : (t s u : List ℕ) (nodes : List ParsedNode) (r : Result (Unit {0}) ReadingFault) → r ≡ answer_of t → u ≡ space_of t s → nodes ≡ nodes_left t → Law t u nodes r
law-of t s u nodes r a b c =
    subst (λ v. Law t u nodes v) (sym a) (subst (λ v. Law t v nodes (answer_of t)) (sym b) (subst (λ v. Law t (space_of t s) v (answer_of t)) (sym c) (law t s)))
