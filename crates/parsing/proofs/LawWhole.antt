-- What the grammar derives within the limits is read without a report and without a stop, with that tree.
use Rattle.std.proofs.Common.{◌≡◌, ℕ, zero, suc, ◌+◌, ◌<◌, ◌≤◌, List, [], ◌++◌, length, get_or, drop, Some, None, Ok, codes, Option, sym, refl, ap, ◌∙◌, subst, add-zero, zero-add, arith}
use Rattle.std.proofs.lemmas.List.{drop_all, get_or-drop, get_or_past}
use Rattle.std.proofs.lemmas.Bool.{eq-eqb, lt-ltb}
use Rattle.errors.specs.declared.reports.ReportKind.TheVariants.{ExpectedCloseParenthesis}
use Rattle.unicode_string.specs.Text.{is_word}
use Rattle.parsing.specs.declared.nodes.Predicate.{Predicate}
use Rattle.parsing.specs.declared.nodes.Predicate.TheVariants.{Package, Deps, Rdeps, Kind, BinaryId, Binary, Test, Group}
use Rattle.parsing.specs.declared.nodes.Operator.{Operator}
use Rattle.parsing.specs.declared.nodes.Operator.TheVariants.{Union, Intersection, Difference}
use Rattle.parsing.specs.declared.words.SetName.{SetName}
use Rattle.parsing.specs.declared.words.SetName.TheVariants as sets
use Rattle.parsing.specs.declared.words.Nullary.{Nullary}
use Rattle.parsing.specs.declared.words.Nullary.TheVariants as nullary
use Rattle.parsing.specs.declared.words.Lead.{Lead}
use Rattle.parsing.specs.declared.words.Lead.TheVariants as lead
use Rattle.parsing.specs.declared.words.Opening.{Opening}
use Rattle.parsing.specs.declared.words.Sign.{Sign}
use Rattle.parsing.specs.Grammar.{Blanks, NoBlank, Stands, NotSign, AndSign, OrSign, Open, Nothing, Set, Basic, AndExpr, OrExpr, Fine, between}
use Rattle.parsing.specs.Reading.{At, Out, after, Called, done, moved, part, close_at, set_at, fault_of, sign_for, or_sign, and_sign, onward, joined_at, chain_at, Under, operand_for, operand_by, operand_at, deepest, within, basic_at, and_at, or_at, end_at, filter_at, reading_of, nullary_leaf, ◌⨾◌}
use Rattle.parsing.specs.Text.{skip}
use Rattle.parsing.specs.Tree.{Leaf, Tree, nests, parts, GlobsFine, FineLeaf}
use Rattle.parsing.specs.Words.{opening_at, or_sign_at, and_sign_at, name_of, nullary_name}
use Rattle.parsing.proofs.LawArguments.{no-blank}
use Rattle.parsing.proofs.LawBlanks.{blanks-end, blanks-on}
use Rattle.parsing.proofs.LawOpenings.{opening_on, opening_on_lem, opens, set-opening, platform-opening, nullary-opening, not-opening, bang-opening, group-opening, or_sign_on, and_sign_on, or-sign-on, and-sign-on, signs, or_word, or-bar, or-plus, and_word, and-mark, and-minus, or-no-and, close-no-sign, end-no-sign}
use Rattle.parsing.proofs.LawPlaces.{not-to, and-sign-to, or-sign-to, basic-to, and-to, or-to, free, Apart, basic-apart, and-apart, open-byte, open-to}
use Rattle.parsing.proofs.LawRuns.{Reads, reads_then}
use Rattle.parsing.proofs.LawSets.{SetReads, unary-whole, platform-set-whole, nullary-whole, expect-whole, bytes_leaf}
use Rattle.parsing.proofs.LawSound.{bytes_tree}
use Rattle.parsing.proofs.LawWords.{stands-rest}

-- the same with another count of parts
reads_as : {X : Type 0} {a : At} {o : Out X} {j n m : ℕ} {x : X} → n ≡ m → Reads a o j n x → Reads a o j m x
reads_as {X} {a} {o} {j} {n} {m} {x} e r = subst (λ k. Reads a o j k x) e r

part-whole : (p : ℕ) (a : At) → a.parts < 128 → Reads a (part p a) a.pos 1 tt
part-whole p a h = rw (lt-ltb a.parts 128 h) (record { value = refl; quiet = refl; pos = refl; parts = refl })

moved-whole : (q : ℕ) (a : At) → Reads a (moved q a) q 0 tt
moved-whole q a = record { value = refl; quiet = refl; pos = refl; parts = sym (add-zero a.parts) }

-- a word and what follows it, as bytes
word_byte : (t w : List ℕ) (i j : ℕ) → Stands t w i j → get_or t j 0 ≡ get_or (drop j t) 0 0
word_byte t w i j s = ap (λ k. get_or t k 0) (sym (add-zero j)) ∙ sym (get_or-drop j t 0 0)

-- a sign that is found is read
sign-some : (t : List ℕ) (a : At) (l m : ℕ) (o : Operator) (w : List ℕ) → a.parts < 128 → skip t a.pos ≡ l → l + length w ≡ m → Reads a (sign_for (skip t a.pos) (signs o w) a) m 1 (Some o)
sign-some t a l m o w h e f =
    let p = skip t a.pos in
    let n = length w in
    let a1 = after a (moved (p + n) a) in
    let a2 = after a1 (part p a1) in
    let r1 = moved-whole (p + n) a in
    let r2 = part-whole p a1 h in
    let a3 = after a2 (fault_of None p n a2) in
    let to : p + n ≡ m = ap (λ k. k + n) e ∙ f in
    let r4 : Reads a3 (done (Some o) a3) m 0 (Some o) = record { value = refl; quiet = refl; pos = r2.pos ∙ to; parts = sym (add-zero a3.parts) } in
    let r3 : Reads a2 (fault_of None p n a2) m 0 tt = record { value = refl; quiet = refl; pos = r2.pos ∙ to; parts = sym (add-zero a2.parts) } in
    reads_then (moved (p + n)) (λ _. part p ⨾ (λ _. fault_of None p n ⨾ (λ _. done (Some o)))) a (p + n) m 0 1 tt (Some o) r1
    (reads_then (part p) (λ _. fault_of None p n ⨾ (λ _. done (Some o))) a1 a1.pos m 1 0 tt (Some o) r2
    (reads_then (fault_of None p n) (λ _. done (Some o)) a2 m m 0 0 tt (Some o) r3 r4))

or_some : (t : List ℕ) (a : At) (l m : ℕ) (w : List ℕ) → a.parts < 128 → Blanks t a.pos l → NoBlank t l → Stands t w l m → or_sign_on (w ++ drop m t) ≡ signs Union w → Reads a (or_sign t a) m 1 (Some Union)
unfolding or_sign
or_some t a l m w h bl free st e =
    let q = blanks-end t bl free in
    let s : or_sign_at t (skip t a.pos) ≡ signs Union w = ap (or_sign_at t) q ∙ or-sign-on t l ∙ ap or_sign_on (stands-rest t w l m st) ∙ e in
    subst (λ (v : Option Sign). Reads a (sign_for (skip t a.pos) v a) m 1 (Some Union)) (sym s) (sign-some t a l m Union w h q (sym st.end))

and-some : (t : List ℕ) (a : At) (l m : ℕ) (o : Operator) (w : List ℕ) → a.parts < 128 → Blanks t a.pos l → NoBlank t l → Stands t w l m → and_sign_on (w ++ drop m t) ≡ signs o w → Reads a (and_sign t a) m 1 (Some o)
unfolding and_sign
and-some t a l m o w h bl free st e =
    let q = blanks-end t bl free in
    let s : and_sign_at t (skip t a.pos) ≡ signs o w = ap (and_sign_at t) q ∙ and-sign-on t l ∙ ap and_sign_on (stands-rest t w l m st) ∙ e in
    subst (λ (v : Option Sign). Reads a (sign_for (skip t a.pos) v a) m 1 (Some o)) (sym s) (sign-some t a l m o w h q (sym st.end))

or-none : (t : List ℕ) (a : At) → or_sign_at t (skip t a.pos) ≡ None → Reads a (or_sign t a) a.pos 0 None
unfolding or_sign
or-none t a e = subst (λ (v : Option Sign). Reads a (sign_for (skip t a.pos) v a) a.pos 0 None) (sym e) (record { value = refl; quiet = refl; pos = refl; parts = sym (add-zero a.parts) })

and_none : (t : List ℕ) (a : At) → and_sign_at t (skip t a.pos) ≡ None → Reads a (and_sign t a) a.pos 0 None
unfolding and_sign
and_none t a e = subst (λ (v : Option Sign). Reads a (sign_for (skip t a.pos) v a) a.pos 0 None) (sym e) (record { value = refl; quiet = refl; pos = refl; parts = sym (add-zero a.parts) })

-- a chain of operands that has come to k, with c parts, and has read y
module _ (t : List ℕ) (sign : At → Out (Option Operator)) (one : At → Out (Tree Called)) where
  record Come (a : At) (k c : ℕ) (y : Tree Called) : Type 0 where
    fuel : ℕ
    enough : length t ≤ k + fuel
    at : At
    pos : at.pos ≡ k
    parts : at.parts ≡ a.parts + c
    on : (j m : ℕ) (z : Tree Called) → Reads at (joined_at sign one fuel y at) j m z → Reads a (chain_at t sign one a) j (c + m) z

  come-first : (a : At) (k c : ℕ) (y : Tree Called) → Reads a (one a) k c y → Come a k c y
  unfolding chain_at
  come-first a k c y r = record {
    fuel = length t;
    enough = omega arith;
    at = after a (one a);
    pos = r.pos;
    parts = r.parts;
    on = λ j m z q. reads_then one (joined_at sign one (length t)) a k j c m y z r q;
  }

  come-more : (a : At) (k c l j d : ℕ) (o : Operator) (y z : Tree Called) (w : Come a k c y) → k < j → j ≤ length t →
      Reads w.at (sign w.at) l 1 (Some o) → Reads (after w.at (sign w.at)) (one (after w.at (sign w.at))) j d z → Come a j (c + (1 + d)) (Tree.joined o y z)
  unfolding joined_at
  come-more a k c l j d o y z w lt le s r = go w.fuel refl
    where
      b1 : At
      b1 = after w.at (sign w.at)

      b2 : At
      b2 = after b1 (one b1)

      go : (f : ℕ) → w.fuel ≡ f → Come a j (c + (1 + d)) (Tree.joined o y z)
      go zero e = absurd (omega (arith, w.enough, e))
      go (suc g) e = record {
        fuel = g;
        enough = omega (arith, w.enough, e);
        at = b2;
        pos = r.pos;
        parts = omega (arith, r.parts, s.parts, w.parts);
        on = λ i m x q.
            let q1 = reads_then one (λ v. joined_at sign one g (Tree.joined o y v)) b1 j i d m z x r q in
            let q2 = reads_then sign (onward y (λ p. one ⨾ (λ v. joined_at sign one g (Tree.joined p y v)))) w.at l i 1 (d + m) (Some o) x s q1 in
            let q3 : Reads w.at (joined_at sign one w.fuel y w.at) i (1 + (d + m)) x = subst (λ f. Reads w.at (joined_at sign one f y w.at) i (1 + (d + m)) x) (sym e) q2 in
            reads_as (let n : c + (1 + (d + m)) ≡ c + (1 + d) + m = omega arith in n) (w.on i (1 + (d + m)) x q3);
      }

  come-last : (a : At) (k c : ℕ) (y : Tree Called) (w : Come a k c y) → Reads w.at (sign w.at) w.at.pos 0 None → Reads a (chain_at t sign one a) k c y
  unfolding joined_at
  come-last a k c y w s = reads_as (add-zero c) (w.on k 0 y (go w.fuel))
    where
      b : At
      b = after w.at (sign w.at)

      go : (f : ℕ) → Reads w.at (joined_at sign one f y w.at) k 0 y
      go zero = record { value = refl; quiet = refl; pos = w.pos; parts = sym (add-zero w.at.parts) }
      go (suc g) = reads_then sign (onward y (λ p. one ⨾ (λ v. joined_at sign one g (Tree.joined p y v)))) w.at w.at.pos k 0 0 None y s
          (record { value = refl; quiet = refl; pos = s.pos ∙ w.pos; parts = sym (add-zero b.parts) })

-- an operand that is read, with its tree
record OneRead (rd : At → Out (Tree Called)) (a : At) (j : ℕ) (x : Tree (List ℕ)) : Type 0 where
  tree : Tree Called
  reads : Reads a (rd a) j (parts x) tree
  same : bytes_tree tree ≡ x

-- what an operand begins with is found
opened : (t : List ℕ) (under : ℕ → Under) (a : At) (k l j n : ℕ) (w : List ℕ) (ld : Lead) (y : Tree Called) → Blanks t a.pos k → NoBlank t k → Stands t w k l → opening_on (w ++ drop l t) ≡ opens ld w →
    Reads a (operand_for t under k (record { lead = ld; length = length w }) a) j n y → Reads a (operand_at t under a) j n y
opened t under a k l j n w ld y bl fr st e r =
    let q = blanks-end t bl fr in
    let s : opening_at t (skip t a.pos) ≡ opens ld w = ap (opening_at t) q ∙ opening_on_lem t k ∙ ap opening_on (stands-rest t w k l st) ∙ e in
    subst (λ (v : Option Opening). Reads a (operand_by t under v a) j n y) (sym s) (subst (λ p. Reads a (operand_for t under p (record { lead = ld; length = length w }) a) j n y) (sym q) r)

-- where reading stands after a word and its part
abbrev behind : At → ℕ → ℕ → At
behind a p q = after (after a (moved q a)) (part p (after a (moved q a)))

behind-pos : (a : At) (p q : ℕ) → a.parts < 128 → ((behind a p q).pos ≡ q) × ((behind a p q).parts ≡ a.parts + 1)
behind-pos a p q h = let r = part-whole p (after a (moved q a)) h in (r.pos, r.parts)

-- a part, and what follows it
parted : (a : At) (p q j n : ℕ) (rd : At → Out (Tree Called)) (y : Tree Called) → a.parts < 128 → Reads (behind a p q) (rd (behind a p q)) j n y → Reads a ((moved q ⨾ (λ _. part p ⨾ (λ _. rd))) a) j (1 + n) y
parted a p q j n rd y h r =
    let a1 = after a (moved q a) in
    reads_as (zero-add (1 + n)) (reads_then (moved q) (λ _. part p ⨾ (λ _. rd)) a q j 0 (1 + n) tt y (moved-whole q a) (reads_then (part p) (λ _. rd) a1 q j 1 n tt y (part-whole p a1 h) r))

pub name_free : (t : List ℕ) (p : Predicate) (i j : ℕ) → Stands t (name_of p) i j → NoBlank t i
name_free t Package i j s = free t 112 _ i j (omega arith) s
name_free t Deps i j s = free t 100 _ i j (omega arith) s
name_free t Rdeps i j s = free t 114 _ i j (omega arith) s
name_free t Kind i j s = free t 107 _ i j (omega arith) s
name_free t BinaryId i j s = free t 98 _ i j (omega arith) s
name_free t Binary i j s = free t 98 _ i j (omega arith) s
name_free t Test i j s = free t 116 _ i j (omega arith) s
name_free t Group i j s = free t 103 _ i j (omega arith) s

pub nullary-free : (t : List ℕ) (n : Nullary) (i j : ℕ) → Stands t (nullary_name n) i j → NoBlank t i
nullary-free t nullary.Default i j s = free t 100 _ i j (omega arith) s
nullary-free t nullary.All i j s = free t 97 _ i j (omega arith) s
nullary-free t nullary.None i j s = free t 110 _ i j (omega arith) s

-- a set of the rules is read
set-one : (t : List ℕ) (under : ℕ → Under) (a : At) (k l j : ℕ) (s : SetName) (w : List ℕ) (x : Leaf (List ℕ)) → Blanks t a.pos k → NoBlank t k → a.parts < 128 → Stands t w k l → opening_on (w ++ drop l t) ≡ opens (lead.Set s) w →
    ((b : At) → b.pos ≡ l → SetReads b (set_at t k s b) j x) → OneRead (operand_at t under) a j (Tree.set x)
set-one t under a k l j s w x bl fr room st e rd =
    let q = k + length w in
    let b = behind a k q in
    let r = rd b ((behind-pos a k q room).0 ∙ sym st.end) in
    record {
      tree = Tree.set r.leaf;
      reads = opened t under a k l j 1 w (lead.Set s) (Tree.set r.leaf) bl fr st e (parted a k q j 0 (set_at t k s) (Tree.set r.leaf) room r.reads);
      same = ap Tree.set r.same;
    }

nullary-one : (t : List ℕ) (under : ℕ → Under) (a : At) (k j : ℕ) (n : Nullary) (leaf : Leaf Called) → Blanks t a.pos k → a.parts < 128 → Nothing t (nullary_name n) k j → nullary_leaf n (between k j) ≡ Tree.set leaf →
    OneRead (operand_at t under) a j (Tree.set (bytes_leaf leaf))
nullary-one t under a k j n leaf bl room r is =
    set-one t under a k r.named j (sets.Nullary n) (nullary_name n) (bytes_leaf leaf) bl (nullary-free t n k r.named r.name) room r.name (nullary-opening n (drop r.named t))
    (λ b e. record { leaf = leaf; reads = nullary-whole t n k b j r (sym e) leaf is; same = refl })

set-whole : (t : List ℕ) (under : ℕ → Under) (a : At) (k j : ℕ) (x : Leaf (List ℕ)) → Blanks t a.pos k → a.parts < 128 → Set t k j x → FineLeaf x → OneRead (operand_at t under) a j (Tree.set x)
set-whole t under a k j x bl room (Set.matched {p} {m} {b} {k = l} {l = f} {n} st o arg cl) fine =
    set-one t under a k l j (sets.Matched p) (name_of p) (Leaf.matched p m b (between f n)) bl (name_free t p k l st) room st (set-opening p (drop l t) (open-byte t l f o))
    (λ c e. unary-whole t p c f n j m b (subst (λ i. Open t i f) (sym e) o) arg cl fine)
set-whole t under a k j x bl room (Set.platform {h} {b} {k = l} {l = f} {m} {n} st o bl2 fr s name cl) fine =
    set-one t under a k l j sets.Platform (codes "platform") (Leaf.platform h (between f n)) bl (free t 112 _ k l (omega arith) st) room st (platform-opening (drop l t))
    (λ c e. platform-set-whole t c f m n j h b (subst (λ i. Open t i f) (sym e) o) bl2 fr s name cl)
set-whole t under a k j x bl room (Set.default r) fine = nullary-one t under a k j nullary.Default (Leaf.default (between k j)) bl room r refl
set-whole t under a k j x bl room (Set.all r) fine = nullary-one t under a k j nullary.All Leaf.all bl room r refl
set-whole t under a k j x bl room (Set.none r) fine = nullary-one t under a k j nullary.None Leaf.none bl room r refl

-- a chain of the rules that has been read so far, with its tree
record ManyRead (t : List ℕ) (sign : At → Out (Option Operator)) (one : At → Out (Tree Called)) (a : At) (j : ℕ) (x : Tree (List ℕ)) : Type 0 where
  tree : Tree Called
  come : Come t sign one a j (parts x) tree
  same : bytes_tree tree ≡ x

many-first : (t : List ℕ) (sign : At → Out (Option Operator)) (one : At → Out (Tree Called)) (a : At) (j : ℕ) (x : Tree (List ℕ)) → OneRead one a j x → ManyRead t sign one a j x
many-first t sign one a j x r = record { tree = r.tree; come = come-first t sign one a j (parts x) r.tree r.reads; same = r.same }

many_more : (t : List ℕ) (sign : At → Out (Option Operator)) (one : At → Out (Tree Called)) (a : At) (k l j : ℕ) (o : Operator) (x y : Tree (List ℕ)) (w : ManyRead t sign one a k x) → k < j → j ≤ length t →
    Reads w.come.at (sign w.come.at) l 1 (Some o) → OneRead one (after w.come.at (sign w.come.at)) j y → ManyRead t sign one a j (Tree.joined o x y)
many_more t sign one a k l j o x y w lt le s r = record {
  tree = Tree.joined o w.tree r.tree;
  come = subst (λ c. Come t sign one a j c (Tree.joined o w.tree r.tree)) (let n : parts x + (1 + parts y) ≡ parts x + (parts y + 1) = omega arith in n)
      (come-more t sign one a k (parts x) l j (parts y) o w.tree r.tree w.come lt le s r.reads);
  same = ap (λ v. Tree.joined o v (bytes_tree r.tree)) w.same ∙ ap (Tree.joined o x) r.same;
}

many-last : (t : List ℕ) (sign : At → Out (Option Operator)) (one : At → Out (Tree Called)) (a : At) (j : ℕ) (x : Tree (List ℕ)) (w : ManyRead t sign one a j x) → Reads w.come.at (sign w.come.at) w.come.at.pos 0 None →
    OneRead (chain_at t sign one) a j x
many-last t sign one a j x w s = record { tree = w.tree; reads = come-last t sign one a j (parts x) w.tree w.come s; same = w.same }

-- what follows a place is no sign: a closing bracket after blanks, or the end
pub record NoSign (t : List ℕ) (j : ℕ) : Type 0 where
  pub and : and_sign_at t (skip t j) ≡ None
  pub or : or_sign_at t (skip t j) ≡ None

pub close-none : (t : List ℕ) (j k l : ℕ) → Blanks t j k → Stands t (codes ")") k l → NoSign t j
close-none t j k l bl st =
    let q = blanks-end t bl (free t 41 [] k l (omega arith) st) in
    let d = stands-rest t (codes ")") k l st in
    record {
      and = ap (and_sign_at t) q ∙ and-sign-on t k ∙ ap and_sign_on d ∙ (close-no-sign (drop l t)).0;
      or = ap (or_sign_at t) q ∙ or-sign-on t k ∙ ap or_sign_on d ∙ (close-no-sign (drop l t)).1;
    }

end-free : (t : List ℕ) → NoBlank t (length t)
end-free t = no-blank t (length t) 0 (get_or_past t (length t) 0 (omega arith)) (λ e. omega arith) (λ e. omega arith) (λ e. omega arith)

pub end_none : (t : List ℕ) (j : ℕ) → Blanks t j (length t) → NoSign t j
end_none t j bl =
    let q = blanks-end t bl (end-free t) in
    let d = drop_all (length t) t (omega arith) in
    record {
      and = ap (and_sign_at t) q ∙ and-sign-on t (length t) ∙ ap and_sign_on d ∙ end-no-sign.0;
      or = ap (or_sign_at t) q ∙ or-sign-on t (length t) ∙ ap or_sign_on d ∙ end-no-sign.1;
    }

-- an or-sign is no and-sign
pub or-not-and : (t : List ℕ) (j l m : ℕ) → Blanks t j l → OrSign t l m → and_sign_at t (skip t j) ≡ None
or-not-and t j l m bl (OrSign.word k) = ap (and_sign_at t) (blanks-end t bl (free t 111 _ l m (omega arith) k.stands)) ∙ and-sign-on t l ∙ ap and_sign_on (stands-rest t (codes "or") l m k.stands) ∙ (or-no-and (drop m t)).0
or-not-and t j l m bl (OrSign.bar k) = ap (and_sign_at t) (blanks-end t bl (free t 124 [] l m (omega arith) k)) ∙ and-sign-on t l ∙ ap and_sign_on (stands-rest t (codes "|") l m k) ∙ (or-no-and (drop m t)).1
or-not-and t j l m bl (OrSign.plus k) = ap (and_sign_at t) (blanks-end t bl (free t 43 [] l m (omega arith) k)) ∙ and-sign-on t l ∙ ap and_sign_on (stands-rest t (codes "+") l m k) ∙ (or-no-and (drop m t)).2

-- the byte after a word, in what is left
pub next : (t : List ℕ) (m : ℕ) → get_or (drop m t) 0 0 ≡ get_or t m 0
next t m = get_or-drop m t 0 0 ∙ ap (λ k. get_or t k 0) (add-zero m)

or-read : (t : List ℕ) (a : At) (l m : ℕ) → a.parts < 128 → Blanks t a.pos l → OrSign t l m → Apart t m → Reads a (or_sign t a) m 1 (Some Union)
or-read t a l m h bl (OrSign.word k) ap' = or_some t a l m (codes "or") h bl (free t 111 _ l m (omega arith) k.stands) k.stands (or_word (drop m t) (ap is_word (next t m) ∙ k.apart))
or-read t a l m h bl (OrSign.bar k) ap' = or_some t a l m (codes "|") h bl (free t 124 [] l m (omega arith) k) k (or-bar (drop m t) (λ e. ap'.bar (sym (next t m) ∙ e)))
or-read t a l m h bl (OrSign.plus k) ap' = or_some t a l m (codes "+") h bl (free t 43 [] l m (omega arith) k) k (or-plus (drop m t))

and-read : (t : List ℕ) (a : At) (l m : ℕ) (o : Operator) → a.parts < 128 → Blanks t a.pos l → AndSign t l m o → Apart t m → Reads a (and_sign t a) m 1 (Some o)
and-read t a l m o h bl (AndSign.word k) ap' = and-some t a l m Intersection (codes "and") h bl (free t 97 _ l m (omega arith) k.stands) k.stands (and_word (drop m t) (ap is_word (next t m) ∙ k.apart))
and-read t a l m o h bl (AndSign.mark k) ap' = and-some t a l m Intersection (codes "&") h bl (free t 38 [] l m (omega arith) k) k (and-mark (drop m t) (λ e. ap'.both (sym (next t m) ∙ e)))
and-read t a l m o h bl (AndSign.minus k) ap' = and-some t a l m Difference (codes "-") h bl (free t 45 [] l m (omega arith) k) k (and-minus (drop m t))

-- what follows a not sign
not-one : (t : List ℕ) (n : ℕ) (a : At) (k l j : ℕ) (w : List ℕ) (x : Tree (List ℕ)) → Blanks t a.pos k → NoBlank t k → a.parts < 128 → Stands t w k l → opening_on (w ++ drop l t) ≡ opens lead.Not w →
    ((b : At) → b.pos ≡ l → b.parts ≡ a.parts + 1 → OneRead (basic_at t n) b j x) → OneRead (basic_at t (suc n)) a j (Tree.negated x)
unfolding basic_at
not-one t n a k l j w x bl fr room st e rd =
    let q = k + length w in
    let b = behind a k q in
    let h = behind-pos a k q room in
    let r = rd b (h.0 ∙ sym st.end) h.1 in
    let y = Tree.negated r.tree in
    let c = after b (basic_at t n b) in
    let r2 = reads_then (basic_at t n) (λ v. done (Tree.negated v)) b j j (parts x) 0 r.tree y r.reads (record { value = refl; quiet = refl; pos = r.reads.pos; parts = sym (add-zero c.parts) }) in
    record {
      tree = y;
      reads = reads_as (let m : 1 + (parts x + 0) ≡ parts x + 1 = omega arith in m)
          (opened t (within t (basic_at t n)) a k l j (1 + (parts x + 0)) w lead.Not y bl fr st e (parted a k q j (parts x + 0) (basic_at t n ⨾ (λ v. done (Tree.negated v))) y room r2));
      same = ap Tree.negated r.same;
    }

group-one : (t : List ℕ) (n : ℕ) (a : At) (k l e m j : ℕ) (x : Tree (List ℕ)) → Blanks t a.pos k → a.parts < 128 → Stands t (codes "(") k l → Blanks t e m → Stands t (codes ")") m j →
    ((b : At) → b.pos ≡ l → b.parts ≡ a.parts + 1 → OneRead (or_at t n) b e x) → OneRead (basic_at t (suc n)) a j (Tree.group x)
unfolding basic_at
group-one t n a k l e m j x bl room st bl2 cl rd =
    let q = k + 1 in
    let b = behind a k q in
    let h = behind-pos a k q room in
    let r = rd b (h.0 ∙ sym st.end) h.1 in
    let y = Tree.group r.tree in
    let c = after b (or_at t n b) in
    let r2 = expect-whole t 41 ExpectedCloseParenthesis c m j (omega arith) (λ z. omega arith) (λ z. omega arith) (λ z. omega arith) (subst (λ i. Blanks t i m) (sym r.reads.pos) bl2) cl in
    let d = after c (close_at t c) in
    let r3 = reads_then (close_at t) (λ _. done y) c j j 0 0 tt y r2 (record { value = refl; quiet = refl; pos = r2.pos; parts = sym (add-zero d.parts) }) in
    let r4 = reads_then (or_at t n) (λ v. close_at t ⨾ (λ _. done (Tree.group v))) b e j (parts x) 0 r.tree y r.reads r3 in
    record {
      tree = y;
      reads = reads_as (let i : 1 + (parts x + 0) ≡ parts x + 1 = omega arith in i)
          (opened t (within t (basic_at t n)) a k l j (1 + (parts x + 0)) (codes "(") lead.Group y bl (free t 40 [] k l (omega arith) st) st (group-opening (drop l t)) (parted a k q j (parts x + 0) (or_at t n ⨾ (λ v. close_at t ⨾ (λ _. done (Tree.group v)))) y room r4));
      same = ap Tree.group r.same;
    }

operand-basic : (t : List ℕ) (a : At) (j : ℕ) (x : Tree (List ℕ)) → ((under : ℕ → Under) → OneRead (operand_at t under) a j x) → (n : ℕ) → OneRead (basic_at t n) a j x
unfolding basic_at
operand-basic t a j x r zero = let o = r deepest in record { tree = o.tree; reads = o.reads; same = o.same }
operand-basic t a j x r (suc n) = let o = r (within t (basic_at t n)) in record { tree = o.tree; reads = o.reads; same = o.same }

-- an operand after a not sign or in a group has a nest less
not-whole : (t : List ℕ) (a : At) (k l j : ℕ) (x : Tree (List ℕ)) → Blanks t a.pos k → a.parts < 128 → NotSign t k l → (n : ℕ) →
    ((b : At) → b.pos ≡ l → b.parts ≡ a.parts + 1 → OneRead (basic_at t n) b j x) → OneRead (basic_at t (suc n)) a j (Tree.negated x)
not-whole t a k l j x bl room (NotSign.word w) n rd = not-one t n a k l j (codes "not") x bl (free t 110 _ k l (omega arith) w.stands) room w.stands (not-opening (drop l t) (ap is_word (next t l) ∙ w.apart)) rd
not-whole t a k l j x bl room (NotSign.mark w) n rd = not-one t n a k l j (codes "!") x bl (free t 33 [] k l (omega arith) w) room w (bang-opening (drop l t)) rd

mutual
  basic-whole : (t : List ℕ) {i j : ℕ} {x : Tree (List ℕ)} → Basic t i j x → (n : ℕ) (a : At) → a.pos ≡ i → i ≤ length t → nests x ≤ n → a.parts + parts x ≤ 128 → GlobsFine x → OneRead (basic_at t n) a j x
  basic-whole t (Basic.set {i} {k} {j} {l} bl s) n a e h deep few fine =
      operand-basic t a j (Tree.set l) (λ under. set-whole t under a k j l (subst (λ p. Blanks t p k) (sym e) bl) (omega arith) s fine) n
  basic-whole t (Basic.not {i} {k} {l} {j} {x} bl s b) zero a e h deep few fine = absurd (omega arith)
  basic-whole t (Basic.not {i} {k} {l} {j} {x} bl s b) (suc n) a e h deep few fine =
      not-whole t a k l j x (subst (λ p. Blanks t p k) (sym e) bl) (omega arith) s n (λ c q p. basic-whole t b n c q (not-to t k l s).within (omega arith) (omega arith) fine)
  basic-whole t (Basic.group {i} {k} {l} {m} {j} {x} o r bl cl) zero a e h deep few fine = absurd (omega arith)
  basic-whole t (Basic.group {i} {k} {l} {m} {j} {x} o r bl cl) (suc n) a e h deep few fine =
      let w = open-to t i k o h in
      group-one t n a o.start k l m j x (subst (λ p. Blanks t p o.start) (sym e) o.blanks) (omega arith) o.bracket bl cl
      (λ c q p. let g = or-whole t r n c q w.within (omega arith) (omega arith) fine (close-none t l m j bl cl).and in
      many-last t (or_sign t) (and_at t n) c l x g (or-none t g.come.at (ap (λ v. or_sign_at t (skip t v)) g.come.pos ∙ (close-none t l m j bl cl).or)))

  and-whole : (t : List ℕ) {i j : ℕ} {x : Tree (List ℕ)} → AndExpr t i j x → (n : ℕ) (a : At) → a.pos ≡ i → i ≤ length t → nests x ≤ n → a.parts + parts x ≤ 128 → GlobsFine x → ManyRead t (and_sign t) (basic_at t n) a j x
  and-whole t (AndExpr.basic {i} {j} {x} b) n a e h deep few fine = many-first t (and_sign t) (basic_at t n) a j x (basic-whole t b n a e h deep few fine)
  and-whole t (AndExpr.and {i} {k} {l} {m} {j} {o} {x} {y} r bl s b) n a e h deep few fine =
      let w = and-whole t r n a e h (omega arith) (omega arith) fine.0 in
      let on1 = and-to t r h in let on2 = blanks-on t bl on1.within in let on3 = and-sign-to t l m o s in let on4 = basic-to t b on3.within in
      let sg = and-read t w.come.at l m o (omega (arith, w.come.parts)) (subst (λ p. Blanks t p l) (sym w.come.pos) bl) s (basic-apart t b) in
      many_more t (and_sign t) (basic_at t n) a k m j o x y w (omega (arith, on2.0, on3.less, on4.less)) on4.within sg
      (basic-whole t b n (after w.come.at (and_sign t w.come.at)) sg.pos on3.within (omega arith) (omega (arith, sg.parts, w.come.parts)) fine.1)

  or-whole : (t : List ℕ) {i j : ℕ} {x : Tree (List ℕ)} → OrExpr t i j x → (n : ℕ) (a : At) → a.pos ≡ i → i ≤ length t → nests x ≤ n → a.parts + parts x ≤ 128 → GlobsFine x → and_sign_at t (skip t j) ≡ None → ManyRead t (or_sign t) (and_at t n) a j x
  or-whole t (OrExpr.and_expr {i} {j} {x} r) n a e h deep few fine end =
      let w = and-whole t r n a e h deep few fine in
      many-first t (or_sign t) (and_at t n) a j x (many-last t (and_sign t) (basic_at t n) a j x w (and_none t w.come.at (ap (λ v. and_sign_at t (skip t v)) w.come.pos ∙ end)))
  or-whole t (OrExpr.or {i} {k} {l} {m} {j} {x} {y} r bl s f) n a e h deep few fine end =
      let w = or-whole t r n a e h (omega arith) (omega arith) fine.0 (or-not-and t k l m bl s) in
      let on1 = or-to t r h in let on2 = blanks-on t bl on1.within in let on3 = or-sign-to t l m s in let on4 = and-to t f on3.within in
      let sg = or-read t w.come.at l m (omega (arith, w.come.parts)) (subst (λ p. Blanks t p l) (sym w.come.pos) bl) s (and-apart t f) in
      let c = after w.come.at (or_sign t w.come.at) in
      let v = and-whole t f n c sg.pos on3.within (omega arith) (omega (arith, sg.parts, w.come.parts)) fine.1 in
      many_more t (or_sign t) (and_at t n) a k m j Union x y w (omega (arith, on2.0, on3.less, on4.less)) on4.within sg
      (many-last t (and_sign t) (basic_at t n) c j y v (and_none t v.come.at (ap (λ z. and_sign_at t (skip t z)) v.come.pos ∙ end)))

end_whole : (t : List ℕ) (a : At) → Blanks t a.pos (length t) → Reads a (end_at t a) (length t) 0 tt
end_whole t a bl =
    let q = blanks-end t bl (end-free t) in
    rw (eq-eqb (skip t a.pos) (length t) q) (record { value = refl; quiet = refl; pos = refl; parts = sym (add-zero a.parts) })

-- a text of the grammar is read
pub record Read (t : List ℕ) (x : Tree (List ℕ)) : Type 0 where
  pub tree : Tree Called
  pub value : (reading_of t).value ≡ Ok tree
  pub quiet : (reading_of t).reports ≡ []
  pub same : bytes_tree tree ≡ x

pub reading-whole : (t : List ℕ) (x : Tree (List ℕ)) → Fine t x → Read t x
unfolding filter_at
reading-whole t x f =
    let a : At = record { pos = 0; parts = 0; count = 0; used = 0 } in
    let end = f.filter.end in
    let none = end_none t end f.filter.rest in
    let w = or-whole t f.filter.expr 32 a refl (omega arith) f.nested (omega (arith, f.parted)) f.globs none.and in
    let r = many-last t (or_sign t) (and_at t 32) a end x w (or-none t w.come.at (ap (λ v. or_sign_at t (skip t v)) w.come.pos ∙ none.or)) in
    let b = after a (or_at t 32 a) in
    let r2 = end_whole t b (subst (λ i. Blanks t i (length t)) (sym r.reads.pos) f.filter.rest) in
    let c = after b (end_at t b) in
    let r3 = reads_then (end_at t) (λ _. done r.tree) b (length t) (length t) 0 0 tt r.tree r2 (record { value = refl; quiet = refl; pos = r2.pos; parts = sym (add-zero c.parts) }) in
    let all = reads_then (or_at t 32) (λ y. end_at t ⨾ (λ _. done y)) a end (length t) (parts x) 0 r.tree r.tree r.reads r3 in
    record { tree = r.tree; value = all.value; quiet = all.quiet; same = r.same }
