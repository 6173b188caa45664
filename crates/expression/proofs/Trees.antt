-- What the nodes of a tree do to a stack, which nodes write a tree down, and what the laws give of a tree's value.
use Rattle.std.proofs.Common.{◌≡◌, ℕ, suc, ◌+◌, ◌*◌, ◌<◌, ◌≤◌, Bool, true, false, cond, ltb, List, [], ◌∷◌, ◌++◌, length, IfSome, Some, None, Option, sym, refl, ap, ◌∙◌, subst, inl, inr, append_assoc, append-nil, arith, length-append}
use Rattle.std.proofs.lemmas.Bool.{cond-true, cond-false, lt-ltb, le-ltb, cases_lt}
use Rattle.expression.specs.Logic.{Ops, Laws, truth}
use Rattle.expression.specs.declared.nodes.Node.{Node}
use Rattle.expression.specs.declared.nodes.Node.TheVariants.{Leaf, Not, And, Or}
use Rattle.expression.specs.Tree.{Tree, leaf, complement, intersection, union, postfix, value, places, EachLeaf}
use Rattle.expression.specs.Stack.{go_on, runs}
use Rattle.expression.specs.Evaluation.{Evaluation}

pub none-some : {A : Type 0} {v : A} → None ≡ Some v → ⊥
none-some e = let z : ◌≡◌ {A = ℕ} 0 1 = cc in omega arith

module _ {T L : Type 0} (o : Ops L) (f : T → L) (room : ℕ) where
  two-ops : (t u : Tree T) (n : Node T) (rest : List (Node T)) → (postfix t ++ (postfix u ++ n ∷ [])) ++ rest ≡ postfix t ++ (postfix u ++ n ∷ rest)
  two-ops t u n rest =
      append_assoc (postfix t) (postfix u ++ n ∷ []) rest ∙ ap (λ (z : List (Node T)). postfix t ++ z) (append_assoc (postfix u) (n ∷ []) rest)

  -- with room enough, the nodes of a tree leave its value on the stack
  runs-tree : (t : Tree T) (rest : List (Node T)) (s : List L) → length s + places t ≤ room → runs o f room (postfix t ++ rest) s ≡ runs o f room rest (value o f t ∷ s)
  runs-tree (leaf x) rest s w = ap (go_on (runs o f room rest)) (cond-true (ltb (length s) room) _ _ (lt-ltb (length s) room (omega arith)))
  runs-tree (complement t) rest s w =
      ap (λ (z : List (Node T)). runs o f room z s) (append_assoc (postfix t) (Not ∷ []) rest) ∙ runs-tree t (Not ∷ rest) s w
  runs-tree (intersection t u) rest s w =
      ap (λ (z : List (Node T)). runs o f room z s) (two-ops t u And rest)
      ∙ runs-tree t (postfix u ++ And ∷ rest) s (omega arith) ∙ runs-tree u (And ∷ rest) (value o f t ∷ s) (omega arith)
  runs-tree (union t u) rest s w =
      ap (λ (z : List (Node T)). runs o f room z s) (two-ops t u Or rest)
      ∙ runs-tree t (postfix u ++ Or ∷ rest) s (omega arith) ∙ runs-tree u (Or ∷ rest) (value o f t ∷ s) (omega arith)

  -- with less room, they come to nothing
  runs-short : (t : Tree T) (rest : List (Node T)) (s : List L) → room < length s + places t → runs o f room (postfix t ++ rest) s ≡ None
  runs-short (leaf x) rest s w = ap (go_on (runs o f room rest)) (cond-false (ltb (length s) room) _ _ (le-ltb (length s) room (omega arith)))
  runs-short (complement t) rest s w =
      ap (λ (z : List (Node T)). runs o f room z s) (append_assoc (postfix t) (Not ∷ []) rest) ∙ runs-short t (Not ∷ rest) s w
  runs-short (intersection t u) rest s w =
      ap (λ (z : List (Node T)). runs o f room z s) (two-ops t u And rest)
      ∙ elim (cases_lt room (length s + places t)) [
        | inl l ↦ runs-short t (postfix u ++ And ∷ rest) s l
        | inr l ↦ runs-tree t (postfix u ++ And ∷ rest) s l ∙ runs-short u (And ∷ rest) (value o f t ∷ s) (omega arith)
      ]
  runs-short (union t u) rest s w =
      ap (λ (z : List (Node T)). runs o f room z s) (two-ops t u Or rest)
      ∙ elim (cases_lt room (length s + places t)) [
        | inl l ↦ runs-short t (postfix u ++ Or ∷ rest) s l
        | inr l ↦ runs-tree t (postfix u ++ Or ∷ rest) s l ∙ runs-short u (Or ∷ rest) (value o f t ∷ s) (omega arith)
      ]

  -- the nodes of the trees on a stack, its top first
  laid : List (Tree T) → List (Node T)
  laid [] = []
  laid (t ∷ ts) = laid ts ++ postfix t

  moved : {xs ys : List (Node T)} → xs ≡ ys → (t : Tree T) × (postfix t ≡ xs) → (t : Tree T) × (postfix t ≡ ys)
  moved e p = (p.0, p.1 ∙ e)

  had-room : (b : Bool) (k : List L → Option L) (s : List L) (v : L) → go_on k (cond b (Some s) None) ≡ Some v → k s ≡ Some v
  had-room true k s v e = e
  had-room false k s v e = absurd (none-some e)

  -- nodes that come to a value write a tree down
  tree_of : (xs : List (Node T)) (ts : List (Tree T)) (s : List L) (v : L) → length s ≡ length ts → runs o f room xs s ≡ Some v → (t : Tree T) × (postfix t ≡ laid ts ++ xs)
  unfolding laid
  tree_of [] ts [] v l e = absurd (none-some e)
  tree_of [] [] (x ∷ s) v l e = absurd (omega arith)
  tree_of [] (t ∷ []) (x ∷ []) v l e = (t, sym (append-nil (postfix t)))
  tree_of [] (t ∷ (u ∷ ts)) (x ∷ []) v l e = absurd (omega arith)
  tree_of [] (t ∷ ts) (x ∷ (y ∷ s)) v l e = absurd (none-some e)
  tree_of (Leaf x ∷ xs) ts s v l e =
      moved (append_assoc (laid ts) (Leaf x ∷ []) xs) (tree_of xs (leaf x ∷ ts) (f x ∷ s) v (ap suc l) (had-room (ltb (length s) room) (runs o f room xs) (f x ∷ s) v e))
  tree_of (Not ∷ xs) ts [] v l e = absurd (none-some e)
  tree_of (Not ∷ xs) [] (x ∷ s) v l e = absurd (omega arith)
  tree_of (Not ∷ xs) (t ∷ ts) (x ∷ s) v l e = moved (simp append_assoc) (tree_of xs (complement t ∷ ts) (o.negated x ∷ s) v l e)
  tree_of (And ∷ xs) ts [] v l e = absurd (none-some e)
  tree_of (And ∷ xs) ts (y ∷ []) v l e = absurd (none-some e)
  tree_of (And ∷ xs) [] (y ∷ (x ∷ s)) v l e = absurd (omega arith)
  tree_of (And ∷ xs) (u ∷ []) (y ∷ (x ∷ s)) v l e = absurd (omega arith)
  tree_of (And ∷ xs) (u ∷ (t ∷ ts)) (y ∷ (x ∷ s)) v l e =
      moved (simp append_assoc) (tree_of xs (intersection t u ∷ ts) (o.both x y ∷ s) v (omega arith) e)
  tree_of (Or ∷ xs) ts [] v l e = absurd (none-some e)
  tree_of (Or ∷ xs) ts (y ∷ []) v l e = absurd (none-some e)
  tree_of (Or ∷ xs) [] (y ∷ (x ∷ s)) v l e = absurd (omega arith)
  tree_of (Or ∷ xs) (u ∷ []) (y ∷ (x ∷ s)) v l e = absurd (omega arith)
  tree_of (Or ∷ xs) (u ∷ (t ∷ ts)) (y ∷ (x ∷ s)) v l e =
      moved (simp append_assoc) (tree_of xs (union t u ∷ ts) (o.either x y ∷ s) v (omega arith) e)

  -- what the nodes of a tree come to on an empty stack
  whole : (t : Tree T) (xs : List (Node T)) → postfix t ≡ xs → places t ≤ room → runs o f room xs [] ≡ Some (value o f t)
  whole t xs e w = ap (λ (z : List (Node T)). runs o f room z []) (sym e ∙ sym (append-nil (postfix t))) ∙ runs-tree t [] [] (omega arith)

  short : (t : Tree T) (xs : List (Node T)) → postfix t ≡ xs → room < places t → runs o f room xs [] ≡ None
  short t xs e w = ap (λ (z : List (Node T)). runs o f room z []) (sym e ∙ sym (append-nil (postfix t))) ∙ runs-short t [] [] (omega arith)

  -- a value is that of a tree that the nodes write down, and there was room for it
  sure : (xs : List (Node T)) (r : Option L) → r ≡ runs o f room xs [] → IfSome r (λ v. (t : Tree T) × (postfix t ≡ xs) × (places t ≤ room))
  unfolding laid
  sure xs None e = tt
  sure xs (Some v) e =
      let p = tree_of xs [] [] v refl (sym e) in
      elim (cases_lt room (places p.0)) [
        | inl l ↦ absurd (none-some (sym (short p.0 xs p.1 l) ∙ sym e))
        | inr l ↦ (p.0, p.1, l)
      ]

  -- what holds of the tree's value holds of the result
  carried : (P : L → Type 0) (t : Tree T) (xs : List (Node T)) (r : Option L) → r ≡ runs o f room xs [] → postfix t ≡ xs → P (value o f t) → IfSome r P
  carried P t xs r e h p =
      elim (cases_lt room (places t)) [
        | inl l ↦ subst (λ (z : Option L). IfSome z P) (sym (e ∙ short t xs h l)) tt
        | inr l ↦ subst (λ (z : Option L). IfSome z P) (sym (e ∙ whole t xs h l)) p
      ]

-- nodes write down one tree at most: a tree is its own value in the logic of trees
trees : {T : Type 0} → Tree T → Ops (Tree T)
trees t = record { top = t; bottom = t; both = intersection; either = union; negated = complement }

itself : {T : Type 0} (d t : Tree T) → value (trees d) leaf t ≡ t
unfolding trees
itself d (leaf x) = refl
itself d (complement t) = ap complement (itself d t)
itself {T} d (intersection t u) = ap (λ (z : Tree T). intersection z (value (trees d) leaf u)) (itself d t) ∙ ap (intersection t) (itself d u)
itself {T} d (union t u) = ap (λ (z : Tree T). union z (value (trees d) leaf u)) (itself d t) ∙ ap (union t) (itself d u)

one-tree : {T : Type 0} (xs : List (Node T)) (t u : Tree T) → postfix t ≡ xs → postfix u ≡ xs → t ≡ u
one-tree xs t u e h =
    let room = places t + places u in
    let left = whole (trees t) leaf room t xs e (omega arith) in
    let right = whole (trees t) leaf room u xs h (omega arith) in
    let same : value (trees t) leaf t ≡ value (trees t) leaf u = cc in
    sym (itself t t) ∙ same ∙ itself t u

-- a tree of n nodes needs at most half of n + 1 places
halves : {T : Type 0} (t : Tree T) → (1 ≤ places t) × (2 * places t ≤ length (postfix t) + 1)
halves (leaf x) = (omega arith, omega arith)
halves (complement t) = ((halves t).0, omega (arith, (halves t).1, length-append (postfix t) (Not ∷ [])))
halves (intersection t u) =
    let a = halves t in let b = halves u in
    let l = length-append (postfix t) (postfix u ++ And ∷ []) in let m = length-append (postfix u) (And ∷ []) in
    (omega (arith, a.0), omega (arith, a.0, a.1, b.1, l, m))
halves (union t u) =
    let a = halves t in let b = halves u in
    let l = length-append (postfix t) (postfix u ++ Or ∷ []) in let m = length-append (postfix u) (Or ∷ []) in
    (omega (arith, a.0), omega (arith, a.0, a.1, b.1, l, m))

-- 96 places serve 191 nodes
places-96 : {T : Type 0} (t : Tree T) (xs : List (Node T)) (room : ℕ) → postfix t ≡ xs → length xs ≤ 191 → 96 ≤ room → places t ≤ room
places-96 t xs room e l w = omega (arith, (halves t).1, ap length e)

-- whatever the logic: where each leaf's value fits its truth value, so does the tree's
fitting : {T L : Type 0} {o : Ops L} {fits : L → Bool → Type 0} → Laws o fits → (f : T → L) (b : T → Bool) (t : Tree T) → EachLeaf (λ x. fits (f x) (b x)) t → fits (value o f t) (value truth b t)
fitting laws f b (leaf x) h = h
fitting laws f b (complement t) h = laws.negated_fits _ _ (fitting laws f b t h)
fitting laws f b (intersection t u) h = laws.both_fits _ _ _ _ (fitting laws f b t h.0) (fitting laws f b u h.1)
fitting laws f b (union t u) h = laws.either_fits _ _ _ _ (fitting laws f b t h.0) (fitting laws f b u h.1)

-- what the nodes come to is what an evaluation answers
pub evaluated : {T L : Type 0} {o : Ops L} {fits : L → Bool → Type 0} (f : T → L) (nodes : List (Node T)) (room : ℕ) (r : Option L) → Laws o fits → r ≡ runs o f room nodes [] → Evaluation o fits f nodes room r
evaluated {T} {L} {o} {fits} f nodes room r laws e = record {
  value_of = λ t h w. e ∙ whole o f room t nodes h w;
  only = sure o f room nodes r e;
  unique = one-tree nodes;
  enough = λ t h l w. e ∙ whole o f room t nodes h (places-96 t nodes room h l w);
  fitting = λ b t h each. carried o f room (λ v. fits v (value truth b t)) t nodes r e h (fitting laws f b t each);
}
