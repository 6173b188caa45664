-- What is read without a report and without a stop, the grammar derives, within the limits.
use Rattle.std.proofs.Common.{◌≡◌, ℕ, zero, suc, ◌+◌, ◌-◌, ◌<◌, ◌≤◌, Bool, true, false, cond, eqb, ltb, List, [], ◌∷◌, length, drop, Some, None, Ok, codes, Option, sym, refl, ap, ◌∙◌, subst, arith}
use Rattle.std.proofs.lemmas.List.{length-drop, length-take}
use Rattle.std.proofs.lemmas.Bool.{eqb-true, ltb-true}
use Rattle.errors.specs.declared.reports.ReportKind.{ReportKind}
use Rattle.errors.specs.declared.reports.ReportKind.TheVariants.{ExpectedEndOfExpression, ExpectedCloseParenthesis}
use Rattle.errors.specs.declared.faults.ReadingFault.TheVariants.{Crowded}
use Rattle.parsing.specs.declared.nodes.Operator.{Operator}
use Rattle.parsing.specs.declared.nodes.Operator.TheVariants.{Union}
use Rattle.parsing.specs.declared.words.SetName.{SetName}
use Rattle.parsing.specs.declared.words.SetName.TheVariants as sets
use Rattle.parsing.specs.declared.words.Lead.{Lead}
use Rattle.parsing.specs.declared.words.Lead.TheVariants as lead
use Rattle.parsing.specs.declared.words.Opening.{Opening}
use Rattle.parsing.specs.declared.words.Sign.{Sign}
use Rattle.parsing.specs.Grammar.{Blanks, Stands, Keyword, NotSign, AndSign, OrSign, Basic, AndExpr, OrExpr, Fine}
use Rattle.parsing.specs.Reading.{At, Out, after, Called, done, moved, note, halt, report_of, part, close_at, set_at, fault_of, sign_for, or_sign, and_sign, onward, joined_at, chain_at, Under, operand_for, operand_by, operand_at, deepest, within, basic_at, and_at, or_at, end_at, filter_at, reading_of, ◌⨾◌}
use Rattle.parsing.specs.Text.{skip}
use Rattle.parsing.specs.Tree.{Tree, nests, parts, GlobsFine, renamed}
use Rattle.parsing.specs.Words.{opening_at, or_sign_at, and_sign_at, name_of, nullary_name}
use Rattle.parsing.proofs.LawBlanks.{skip-blanks}
use Rattle.parsing.proofs.LawOpenings.{Opens, opening-sound, OrFound, or_sound, AndFound, and_sound}
use Rattle.parsing.proofs.LawRuns.{Clean, clean-then}
use Rattle.parsing.proofs.LawSets.{SetRead, unary-sound, platform-set-sound, nullary-sound, expect-sound}

abbrev pub bytes_tree : Tree Called → Tree (List ℕ)
bytes_tree x = renamed (λ n. n.bytes) x

pub stands_on : (t w : List ℕ) (i j : ℕ) → 0 < length w → Stands t w i j → j ≤ length t
stands_on t w i j h s = let e = ap length s.same in omega (arith, e, length-take (length w) (drop i t), length-drop i t, s.end)

-- one part more
record Parted (p : ℕ) (a : At) : Type 0 where
  room : a.parts < 128
  pos : (part p a).pos ≡ a.pos
  parts : (part p a).parts ≡ a.parts + 1

part_sound : (p : ℕ) (a : At) (u : Unit {0}) → Clean (part p a) u → Parted p a
part_sound p a u c = go (ltb a.parts 128) refl c
  where
    one : Out (Unit {0})
    one = record { pos = a.pos; parts = a.parts + 1; reports = []; bytes = []; value = Ok tt }

    go : (x : Bool) → ltb a.parts 128 ≡ x → Clean (cond x one (halt (Crowded p a.count) a)) u → Parted p a
    go true e c = record {
      room = ltb-true a.parts 128 e;
      pos = ap (λ (x : Bool). (cond x one (halt (Crowded p a.count) a)).pos) e;
      parts = ap (λ (x : Bool). (cond x one (halt (Crowded p a.count) a)).parts) e;
    }
    go false e c = let v = c.value in absurd (let z : ◌≡◌ {A = ℕ} 0 1 = cc in omega arith)

-- a sign that was read
record SignSome (t : List ℕ) (S : ℕ → ℕ → Operator → Type 0) (a : At) (o : Out (Option Operator)) (x : Operator) : Type 0 where
  rule : S (skip t a.pos) o.pos x
  within : o.pos ≤ length t
  parts : o.parts ≡ a.parts + 1
  room : a.parts < 128

abbrev SignGot : (t : List ℕ) (S : ℕ → ℕ → Operator → Type 0) (a : At) (o : Out (Option Operator)) → Option Operator → Type 0
SignGot t S a o None = (o.pos ≡ a.pos) × (o.parts ≡ a.parts)
SignGot t S a o (Some x) = SignSome t S a o x

-- what is known of a sign found at p: unless it is of another language, the rules have it
abbrev FoundBy : (t : List ℕ) (S : ℕ → ℕ → Operator → Type 0) (p q : ℕ) (x : Operator) → Option ReportKind → Type 0
FoundBy t S p q x None = S p q x × (q ≤ length t)
FoundBy t S p q x (Some k) = Unit {0}

fault-sound : (f : Option ReportKind) (p n : ℕ) (b : At) (u : Unit {0}) → Clean (fault_of f p n b) u → (f ≡ None) × ((fault_of f p n b).pos ≡ b.pos) × ((fault_of f p n b).parts ≡ b.parts)
fault-sound None p n b u c = (refl, refl, refl)
fault-sound (Some k) p n b u c = let q = c.quiet in absurd (let z : ◌≡◌ {A = ℕ} 0 1 = cc in omega arith)

sign-got : (t : List ℕ) (S : ℕ → ℕ → Operator → Type 0) (a : At) (os : Option Sign) →
    ((s : Sign) → os ≡ Some s → FoundBy t S (skip t a.pos) (skip t a.pos + s.length) s.operator s.fault) →
    (v : Option Operator) → Clean (sign_for (skip t a.pos) os a) v → SignGot t S a (sign_for (skip t a.pos) os a) v
sign-got t S a None found v c = subst (SignGot t S a (done None a)) (let e = c.value in let r : None ≡ v = cc in r) (refl, refl)
sign-got t S a (Some s) found v c =
    let p = skip t a.pos in
    let K3 = λ (_ : Unit {0}). done (Some s.operator) in
    let s1 = clean-then (moved (p + s.length)) (λ _. part p ⨾ (λ _. fault_of s.fault p s.length ⨾ (λ _. done (Some s.operator)))) a v c in
    let a1 = after a (moved (p + s.length) a) in
    let s2 = clean-then (part p) (λ _. fault_of s.fault p s.length ⨾ (λ _. done (Some s.operator))) a1 v s1.second in
    let h = part_sound p a1 s2.x s2.first in
    let a2 = after a1 (part p a1) in
    let s3 = clean-then (fault_of s.fault p s.length) (λ _. done (Some s.operator)) a2 v s2.second in
    let f = fault-sound s.fault p s.length a2 s3.x s3.first in
    let pos : (sign_for p (Some s) a).pos ≡ p + s.length = s1.pos ∙ s2.pos ∙ s3.pos ∙ f.1 ∙ h.pos in
    let w = subst (FoundBy t S p (p + s.length) s.operator) f.0 (found s refl) in
    let is : Some s.operator ≡ v = let e = s3.second.value in cc in
    subst (SignGot t S a (sign_for p (Some s) a)) is
    (record {
      rule = subst (λ q. S p q s.operator) (sym pos) w.0;
      within = subst (λ q. q ≤ length t) (sym pos) w.1;
      parts = s1.parts ∙ s2.parts ∙ s3.parts ∙ f.2 ∙ h.parts;
      room = h.room;
    })

keyword-on : (t w : List ℕ) (i j : ℕ) → 0 < length w → Keyword t w i j → j ≤ length t
keyword-on t w i j h k = stands_on t w i j h k.stands

or-on : (t : List ℕ) (i j : ℕ) → OrSign t i j → j ≤ length t
or-on t i j (OrSign.word k) = keyword-on t (codes "or") i j (omega arith) k
or-on t i j (OrSign.bar k) = stands_on t (codes "|") i j (omega arith) k
or-on t i j (OrSign.plus k) = stands_on t (codes "+") i j (omega arith) k

and-on : (t : List ℕ) (i j : ℕ) (o : Operator) → AndSign t i j o → j ≤ length t
and-on t i j o (AndSign.word k) = keyword-on t (codes "and") i j (omega arith) k
and-on t i j o (AndSign.mark k) = stands_on t (codes "&") i j (omega arith) k
and-on t i j o (AndSign.minus k) = stands_on t (codes "-") i j (omega arith) k

-- an or-sign joins by union
abbrev OrRule : List ℕ → ℕ → ℕ → Operator → Type 0
OrRule t i j o = (o ≡ Union) × OrSign t i j

or-by : (t : List ℕ) (p q : ℕ) (x : Operator) (f : Option ReportKind) → OrFound t p q x f → FoundBy t (OrRule t) p q x f
or-by t p q x None h = (h, or-on t p q h.1)
or-by t p q x (Some k) h = tt

and-by : (t : List ℕ) (p q : ℕ) (x : Operator) (f : Option ReportKind) → AndFound t p q x f → FoundBy t (AndSign t) p q x f
and-by t p q x None h = (h, and-on t p q x h)
and-by t p q x (Some k) h = tt

or-sign-got : (t : List ℕ) (a : At) (v : Option Operator) → Clean (or_sign t a) v → SignGot t (OrRule t) a (or_sign t a) v
unfolding or_sign
or-sign-got t a = let p = skip t a.pos in sign-got t (OrRule t) a (or_sign_at t p) (λ s e. or-by t p (p + s.length) s.operator s.fault (or_sound t p s e))

and-sign-got : (t : List ℕ) (a : At) (v : Option Operator) → Clean (and_sign t a) v → SignGot t (AndSign t) a (and_sign t a) v
unfolding and_sign
and-sign-got t a = let p = skip t a.pos in sign-got t (AndSign t) a (and_sign_at t p) (λ s e. and-by t p (p + s.length) s.operator s.fault (and_sound t p s e))

-- what a clean reading from i, with m parts before it, has derived
pub record Got (t : List ℕ) (n : ℕ) (R : ℕ → ℕ → Tree (List ℕ) → Type 0) (i m pos count : ℕ) (x : Tree (List ℕ)) : Type 0 where
  pub rule : R i pos x
  pub nested : nests x ≤ n
  pub counted : count ≡ m + parts x
  pub few : count ≤ 128
  pub fine : GlobsFine x
  pub within : pos ≤ length t

abbrev pub Derives : (t : List ℕ) (n : ℕ) → (At → Out (Tree Called)) → (ℕ → ℕ → Tree (List ℕ) → Type 0) → Type 0
Derives t n rd R = (a : At) (x : Tree Called) → a.pos ≤ length t → a.parts ≤ 128 → Clean (rd a) x → Got t n R a.pos a.parts (rd a).pos (rd a).parts (bytes_tree x)

-- the same at another end
got-at : {t : List ℕ} {n : ℕ} {R : ℕ → ℕ → Tree (List ℕ) → Type 0} {i m p q c d : ℕ} {x y : Tree (List ℕ)} → p ≡ q → c ≡ d → x ≡ y → Got t n R i m q d y → Got t n R i m p c x
got-at {t} {n} {R} {i} {m} {p} {q} {c} {d} {x} {y} e f s g =
    subst (λ k. Got t n R i m k c x) (sym e) (subst (λ k. Got t n R i m q k x) (sym f) (subst (Got t n R i m q d) (sym s) g))

module _ (t : List ℕ) (n : ℕ) (S : ℕ → ℕ → Operator → Type 0) (One Many : ℕ → ℕ → Tree (List ℕ) → Type 0)
    (first : (i j : ℕ) (x : Tree (List ℕ)) → One i j x → Many i j x)
    (more : (i k l m j : ℕ) (o : Operator) (x y : Tree (List ℕ)) → Many i k x → Blanks t k l → S l m o → One m j y → Many i j (Tree.joined o x y))
    (sign : At → Out (Option Operator)) (signs : (a : At) (v : Option Operator) → Clean (sign a) v → SignGot t S a (sign a) v)
    (one : At → Out (Tree Called)) (derives : Derives t n one One) where
  -- from a, where x was read since i upon m parts
  abbrev Loops : ℕ → Type 0
  Loops f = (i m : ℕ) (a : At) (x y : Tree Called) → Got t n Many i m a.pos a.parts (bytes_tree x) → Clean (joined_at sign one f x a) y →
      Got t n Many i m (joined_at sign one f x a).pos (joined_at sign one f x a).parts (bytes_tree y)

  loop : (f : ℕ) → Loops f
  unfolding joined_at
  loop zero i m a x y g c = got-at refl refl (ap bytes_tree (let e = c.value in let r : y ≡ x = cc in r)) g
  loop (suc f) i m a x y g c =
      let K = λ (o : Operator). one ⨾ (λ z. joined_at sign one f (Tree.joined o x z)) in
      let s = clean-then sign (onward x (λ o. one ⨾ (λ z. joined_at sign one f (Tree.joined o x z)))) a y c in
      go (loop f) s.x (signs a s.x s.first) s.second s.pos s.parts
    where
      a1 : At
      a1 = after a (sign a)

      rest : Option Operator → Out (Tree Called)
      rest v = onward x (λ o. one ⨾ (λ z. joined_at sign one f (Tree.joined o x z))) v a1

      whole : Out (Tree Called)
      whole = (sign ⨾ onward x (λ o. one ⨾ (λ z. joined_at sign one f (Tree.joined o x z)))) a

      go : Loops f → (v : Option Operator) → SignGot t S a (sign a) v → Clean (rest v) y → whole.pos ≡ (rest v).pos → whole.parts ≡ (rest v).parts → Got t n Many i m whole.pos whole.parts (bytes_tree y)
      go ih None w c2 p q = got-at (p ∙ w.0) (q ∙ w.1) (ap bytes_tree (let e = c2.value in let r : y ≡ x = cc in r)) g
      go ih (Some o) w c2 p q =
          let s2 = clean-then one (λ z. joined_at sign one f (Tree.joined o x z)) a1 y c2 in
          let d = derives a1 s2.x w.within (omega (arith, w.parts, w.room)) s2.first in
          let z = s2.x in
          let a2 = after a1 (one a1) in
          let k : Got t n Many i m a2.pos a2.parts (bytes_tree (Tree.joined o x z)) = record {
            rule = more i a.pos (skip t a.pos) (sign a).pos (one a1).pos o (bytes_tree x) (bytes_tree z) g.rule (skip-blanks t a.pos) w.rule d.rule;
            nested = omega (arith, g.nested, d.nested);
            counted = omega (arith, d.counted, w.parts, g.counted);
            few = d.few;
            fine = (g.fine, d.fine);
            within = d.within;
          } in
          got-at (p ∙ s2.pos) (q ∙ s2.parts) refl (ih i m a2 (Tree.joined o x z) y k s2.second)

  chain-derives : Derives t n (chain_at t sign one) Many
  unfolding chain_at
  chain-derives a y h few c =
      let s = clean-then one (joined_at sign one (length t)) a y c in
      let d = derives a s.x h few s.first in
      let g : Got t n Many a.pos a.parts (one a).pos (one a).parts (bytes_tree s.x) = record {
        rule = first a.pos (one a).pos (bytes_tree s.x) d.rule;
        nested = d.nested;
        counted = d.counted;
        few = d.few;
        fine = d.fine;
        within = d.within;
      } in
      got-at s.pos s.parts refl (loop (length t) a.pos a.parts (after a (one a)) s.x y g s.second)

module _ (t : List ℕ) where
  and-derives : (n : ℕ) → Derives t n (basic_at t n) (Basic t) → Derives t n (and_at t n) (AndExpr t)
  and-derives n d = chain-derives t n (AndSign t) (Basic t) (AndExpr t) (λ i j x b. AndExpr.basic b) (λ i k l m j o x y a b s c. AndExpr.and a b s c) (and_sign t) (and-sign-got t) (basic_at t n) d

  or-more : (i k l m j : ℕ) (o : Operator) (x y : Tree (List ℕ)) → OrExpr t i k x → Blanks t k l → OrRule t l m o → AndExpr t m j y → OrExpr t i j (Tree.joined o x y)
  or-more i k l m j o x y a b s c = subst (λ (p : Operator). OrExpr t i j (Tree.joined p x y)) (sym s.0) (OrExpr.or a b s.1 c)

  or-derives : (n : ℕ) → Derives t n (basic_at t n) (Basic t) → Derives t n (or_at t n) (OrExpr t)
  or-derives n d = chain-derives t n (OrRule t) (AndExpr t) (OrExpr t) (λ i j x a. OrExpr.and_expr a) or-more (or_sign t) (or-sign-got t) (and_at t n) (and-derives n d)

  -- what a part at q, after blanks, leads to
  abbrev Led : (n q : ℕ) (rd : At → Out (Tree Called)) → (ℕ → Type 0) → Type 0
  Led n q rd Stands = (a : At) (x : Tree Called) → Blanks t a.pos q → (len : ℕ) → Stands (q + len) → (b : At) → b.pos ≡ q + len → b.parts ≡ a.parts + 1 → a.parts < 128 → Clean (rd b) x →
      Got t n (Basic t) a.pos a.parts (rd b).pos (rd b).parts (bytes_tree x)

  set-read : (q : ℕ) (s : SetName) (b : At) (x : Tree Called) (e : ℕ) → b.pos ≡ e → Opens t q e (lead.Set s) → Clean (set_at t q s b) x → SetRead t q b (set_at t q s b) x
  set-read q (sets.Matched p) b x e at st c = unary-sound t p q b x (subst (Stands t (name_of p) q) (sym at) st) c
  set-read q sets.Platform b x e at st c = platform-set-sound t q b x (subst (Stands t (codes "platform") q) (sym at) st) c
  set-read q (sets.Nullary m) b x e at st c = nullary-sound t m q b x (subst (Stands t (nullary_name m) q) (sym at) st) c

  set-led : (n q : ℕ) (s : SetName) → Led n q (set_at t q s) (λ e. Opens t q e (lead.Set s))
  set-led n q s a x bl len st b at ps room c =
      let r = set-read q s b x (q + len) at st c in
      got-at refl refl (ap bytes_tree r.is) (record {
        rule = Basic.set bl r.rule;
        nested = omega arith;
        counted = r.parts ∙ ps;
        few = omega (arith, r.parts, ps, room);
        fine = r.fine;
        within = r.within;
      })

  -- an operand, by what follows a not sign and an opening bracket
  module _ (n : ℕ) (under : ℕ → Under) (negates : (q : ℕ) → Led n q (under q).not (NotSign t q)) (groups : (q : ℕ) → Led n q (under q).group (Stands t (codes "(") q)) where
    led : (q len : ℕ) (rd : At → Out (Tree Called)) (P : ℕ → Type 0) → Led n q rd P → (a : At) (x : Tree Called) → Blanks t a.pos q → P (q + len) → Clean ((moved (q + len) ⨾ (λ _. part q ⨾ (λ _. rd))) a) x →
        Got t n (Basic t) a.pos a.parts ((moved (q + len) ⨾ (λ _. part q ⨾ (λ _. rd))) a).pos ((moved (q + len) ⨾ (λ _. part q ⨾ (λ _. rd))) a).parts (bytes_tree x)
    led q len rd P l a x bl st c =
        let s1 = clean-then (moved (q + len)) (λ _. part q ⨾ (λ _. rd)) a x c in
        let a1 = after a (moved (q + len) a) in
        let s2 = clean-then (part q) (λ _. rd) a1 x s1.second in
        let h = part_sound q a1 s2.x s2.first in
        let a2 = after a1 (part q a1) in
        got-at (s1.pos ∙ s2.pos) (s1.parts ∙ s2.parts) refl (l a x bl len st a2 h.pos h.parts h.room s2.second)

    operand-for : (a : At) (x : Tree Called) (q : ℕ) → Blanks t a.pos q → (l : Lead) (len : ℕ) → Opens t q (q + len) l → Clean (operand_for t under q (record { lead = l; length = len }) a) x →
        Got t n (Basic t) a.pos a.parts (operand_for t under q (record { lead = l; length = len }) a).pos (operand_for t under q (record { lead = l; length = len }) a).parts (bytes_tree x)
    operand-for a x q bl (lead.Set s) len st c = led q len (set_at t q s) (λ e. Opens t q e (lead.Set s)) (set-led n q s) a x bl st c
    operand-for a x q bl lead.Not len st c = led q len (under q).not (NotSign t q) (negates q) a x bl st c
    operand-for a x q bl lead.Group len st c = led q len (under q).group (Stands t (codes "(") q) (groups q) a x bl st c
    operand-for a x q bl (lead.Misplaced k) len st c = let r = c.quiet in absurd (let z : ◌≡◌ {A = ℕ} 0 1 = cc in omega arith)

    operand-derives : Derives t n (operand_at t under) (Basic t)
    operand-derives a x h few c = go (opening_at t q) refl c
      where
        q : ℕ
        q = skip t a.pos

        go : (o : Option Opening) → opening_at t q ≡ o → Clean (operand_by t under o a) x → Got t n (Basic t) a.pos a.parts (operand_by t under (opening_at t q) a).pos (operand_by t under (opening_at t q) a).parts (bytes_tree x)
        go None e c = let r = c.quiet in absurd (let z : ◌≡◌ {A = ℕ} 0 1 = cc in omega arith)
        go (Some o) e c =
            got-at (ap (λ (v : Option Opening). (operand_by t under v a).pos) e) (ap (λ (v : Option Opening). (operand_by t under v a).parts) e) refl
            (operand-for a x q (skip-blanks t a.pos) o.lead o.length (opening-sound t q o e) c)

  not_on : (i j : ℕ) → NotSign t i j → j ≤ length t
  not_on i j (NotSign.word k) = keyword-on t (codes "not") i j (omega arith) k
  not_on i j (NotSign.mark k) = stands_on t (codes "!") i j (omega arith) k

  not-led : (n : ℕ) → Derives t n (basic_at t n) (Basic t) → (q : ℕ) → Led (suc n) q (basic_at t n ⨾ (λ x. done (Tree.negated x))) (NotSign t q)
  not-led n d q a x bl len st b at ps room c =
      let s = clean-then (basic_at t n) (λ y. done (Tree.negated y)) b x c in
      let g = d b s.x (subst (λ k. k ≤ length t) (sym at) (not_on q (q + len) st)) (omega (arith, ps, room)) s.first in
      let is : x ≡ Tree.negated s.x = let e = s.second.value in cc in
      got-at s.pos s.parts (ap bytes_tree is) (record {
        rule = Basic.not bl st (subst (λ k. Basic t k (basic_at t n b).pos (bytes_tree s.x)) at g.rule);
        nested = omega (arith, g.nested);
        counted = omega (arith, g.counted, ps);
        few = g.few;
        fine = g.fine;
        within = g.within;
      })

  group-led : (n : ℕ) → Derives t n (basic_at t n) (Basic t) → (q : ℕ) → Led (suc n) q (or_at t n ⨾ (λ x. close_at t ⨾ (λ _. done (Tree.group x)))) (Stands t (codes "(") q)
  group-led n d q a x bl len st b at ps room c =
      let s = clean-then (or_at t n) (λ y. close_at t ⨾ (λ _. done (Tree.group y))) b x c in
      let g = or-derives n d b s.x (subst (λ k. k ≤ length t) (sym at) (stands_on t (codes "(") q (q + len) (omega arith) st)) (omega (arith, ps, room)) s.first in
      let b1 = after b (or_at t n b) in
      let s2 = clean-then (close_at t) (λ _. done (Tree.group s.x)) b1 x s.second in
      let e = expect-sound t 41 ExpectedCloseParenthesis b1 s2.x s2.first in
      let is : x ≡ Tree.group s.x = let v = s2.second.value in cc in
      let st2 = subst (Stands t (41 ∷ []) (skip t b1.pos)) (sym e.pos) e.stands in
      got-at (s.pos ∙ s2.pos) (s.parts ∙ s2.parts ∙ e.parts) (ap bytes_tree is) (record {
        rule = Basic.group (record { start = q; blanks = bl; bracket = st }) (subst (λ k. OrExpr t k (or_at t n b).pos (bytes_tree s.x)) at g.rule) (skip-blanks t b1.pos) st2;
        nested = omega (arith, g.nested);
        counted = omega (arith, g.counted, ps);
        few = g.few;
        fine = g.fine;
        within = stands_on t (41 ∷ []) (skip t b1.pos) (close_at t b1).pos (omega arith) st2;
      })

  pub basic-derives : (n : ℕ) → Derives t n (basic_at t n) (Basic t)
  unfolding basic_at
  basic-derives zero = operand-derives zero deepest (λ q a x bl len st b at ps room c. let v = c.value in absurd (let z : ◌≡◌ {A = ℕ} 0 1 = cc in omega arith)) (λ q a x bl len st b at ps room c. let v = c.value in absurd (let z : ◌≡◌ {A = ℕ} 0 1 = cc in omega arith))
  basic-derives (suc n) = operand-derives (suc n) (within t (basic_at t n)) (not-led n (basic-derives n)) (group-led n (basic-derives n))

  -- blanks and the end
  end-sound : (a : At) (u : Unit {0}) → Clean (end_at t a) u → Blanks t a.pos (length t)
  end-sound a u c = go (eqb (skip t a.pos) (length t)) refl c
    where
      go : (x : Bool) → eqb (skip t a.pos) (length t) ≡ x → Clean (cond x (moved (length t) a) (note tt (report_of ExpectedEndOfExpression a.pos (length t - a.pos)) a)) u → Blanks t a.pos (length t)
      go true e c = subst (Blanks t a.pos) (eqb-true (skip t a.pos) (length t) e) (skip-blanks t a.pos)
      go false e c = let q = c.quiet in absurd (let z : ◌≡◌ {A = ℕ} 0 1 = cc in omega arith)

  pub reading-sound : (x : Tree Called) → Clean (reading_of t) x → Fine t (bytes_tree x)
  unfolding filter_at
  reading-sound x c =
      let a : At = record { pos = 0; parts = 0; count = 0; used = 0 } in
      let s = clean-then (or_at t 32) (λ y. end_at t ⨾ (λ _. done y)) a x c in
      let g = or-derives 32 (basic-derives 32) a s.x (omega arith) (omega arith) s.first in
      let b = after a (or_at t 32 a) in
      let s2 = clean-then (end_at t) (λ _. done s.x) b x s.second in
      let is : s.x ≡ x = let v = s2.second.value in cc in
      subst (λ (y : Tree Called). Fine t (bytes_tree y)) is (record {
        filter = record { end = (or_at t 32 a).pos; expr = g.rule; rest = end-sound b s2.x s2.first };
        nested = g.nested;
        parted = omega (arith, g.counted, g.few);
        globs = g.fine;
      })
