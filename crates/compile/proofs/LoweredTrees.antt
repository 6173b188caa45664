-- A tree's nodes, lowered one after the other, write the lowered tree down.
use Rattle.std.proofs.Common.{◌≡◌, ℕ, ◌+◌, ◌*◌, ◌≤◌, List, [], ◌∷◌, ◌++◌, length, sym, refl, ap, ◌∙◌, append_assoc, append-nil, add-zero, add_assoc, zero-add, arith}
use Rattle.errors.specs.declared.reports.Report.{Report}
use Rattle.expression.specs.declared.nodes.Node.{Node}
use Rattle.expression.specs.declared.nodes.Node.TheVariants as node
use Rattle.expression.specs.Tree.{Tree as Nodes, postfix as written}
use Rattle.parsing.specs.declared.nodes.Operator.{Operator}
use Rattle.parsing.specs.declared.nodes.Operator.TheVariants.{Union, Intersection, Difference}
use Rattle.parsing.specs.Tree.{Tree, Word, postfix, parts}
use Rattle.compile.specs.declared.filter.FilterLeaf.{FilterLeaf}
use Rattle.compile.specs.World.{World}
use Rattle.compile.specs.Lowered.{emits, copies, notes, size, signs, emitted, copied, noted, sizes}
use Rattle.compile.specs.Filters.{Whole, kept, reported, lowered_from, joined_by}
use Rattle.compile.proofs.LoweredRows.{emitted-append, copied-append, noted-append}

abbrev Words : Type 0
Words = List (Word (List ℕ))

copied-one : (a : Words) (x : Word (List ℕ)) → copies x ≡ [] → copied (a ++ x ∷ []) ≡ copied a
copied-one a x e = copied-append a (x ∷ []) ∙ ap (λ (z : List ℕ). copied a ++ (z ++ [])) e ∙ append-nil (copied a)

copied-two : (a b : Words) (x : Word (List ℕ)) → copies x ≡ [] → copied (a ++ (b ++ x ∷ [])) ≡ copied a ++ copied b
copied-two a b x e = copied-append a (b ++ x ∷ []) ∙ ap (λ (z : List ℕ). copied a ++ z) (copied-one b x e)

noted_one : (w : World) (a : Words) (x : Word (List ℕ)) → notes w x ≡ [] → noted w (a ++ x ∷ []) ≡ noted w a
noted_one w a x e = noted-append w a (x ∷ []) ∙ ap (λ (z : List Report). noted w a ++ (z ++ [])) e ∙ append-nil (noted w a)

noted-two : (w : World) (a b : Words) (x : Word (List ℕ)) → notes w x ≡ [] → noted w (a ++ (b ++ x ∷ [])) ≡ noted w a ++ noted w b
noted-two w a b x e = noted-append w a (b ++ x ∷ []) ∙ ap (λ (z : List Report). noted w a ++ z) (noted_one w b x e)

pub copied-tree : (t : Tree (List ℕ)) → copied (postfix t) ≡ kept t
copied-tree Tree.bad = refl
copied-tree (Tree.set l) = append-nil _
copied-tree (Tree.negated x) = copied-one (postfix x) Word.negation refl ∙ copied-tree x
copied-tree (Tree.group x) = copied-one (postfix x) Word.brackets refl ∙ copied-tree x
copied-tree (Tree.joined o x y) = copied-two (postfix x) (postfix y) (Word.operator o) refl ∙ ap (λ (z : List ℕ). z ++ copied (postfix y)) (copied-tree x) ∙ ap (λ (z : List ℕ). kept x ++ z) (copied-tree y)

pub noted-tree : (w : World) (t : Tree (List ℕ)) → noted w (postfix t) ≡ reported w t
noted-tree w Tree.bad = refl
noted-tree w (Tree.set l) = append-nil _
noted-tree w (Tree.negated x) = noted_one w (postfix x) Word.negation refl ∙ noted-tree w x
noted-tree w (Tree.group x) = noted_one w (postfix x) Word.brackets refl ∙ noted-tree w x
noted-tree w (Tree.joined o x y) = noted-two w (postfix x) (postfix y) (Word.operator o) refl ∙ ap (λ (z : List Report). z ++ noted w (postfix y)) (noted-tree w x) ∙ ap (λ (z : List Report). reported w x ++ z) (noted-tree w y)

emitted-one : (w : World) (u : ℕ) (a : Words) (x : Word (List ℕ)) (xs : List (Node FilterLeaf)) → ((v : ℕ) → emits w v x ≡ xs) → emitted w u (a ++ x ∷ []) ≡ emitted w u a ++ xs
emitted-one w u a x xs e = emitted-append w u a (x ∷ []) ∙ ap (λ (z : List (Node FilterLeaf)). emitted w u a ++ z) (append-nil (emits w (u + length (copied a)) x) ∙ e _)

emitted-two : (w : World) (u : ℕ) (t : Tree (List ℕ)) (b : Words) (x : Word (List ℕ)) (xs : List (Node FilterLeaf)) → ((v : ℕ) → emits w v x ≡ xs) → emitted w u (postfix t ++ (b ++ x ∷ [])) ≡ emitted w u (postfix t) ++ (emitted w (u + length (kept t)) b ++ xs)
emitted-two w u t b x xs e =
    emitted-append w u (postfix t) (b ++ x ∷ [])
    ∙ ap (λ (z : List ℕ). emitted w u (postfix t) ++ emitted w (u + length z) (b ++ x ∷ [])) (copied-tree t)
    ∙ ap (λ (z : List (Node FilterLeaf)). emitted w u (postfix t) ++ z) (emitted-one w (u + length (kept t)) b x xs e)

-- what is written down for two operands and a sign
written-sign : (o : Operator) (a b : Nodes FilterLeaf) → written a ++ (written b ++ signs o) ≡ written (joined_by o a b)
written-sign Union a b = refl
written-sign Intersection a b = refl
written-sign Difference a b = ap (λ (z : List (Node FilterLeaf)). written a ++ z) (sym (append_assoc (written b) (node.Not ∷ []) (node.And ∷ [])))

pub emitted-tree : (w : World) (u : ℕ) (t : Tree (List ℕ)) → Whole t → emitted w u (postfix t) ≡ written (lowered_from w u t)
emitted-tree w u Tree.bad h = absurd h
emitted-tree w u (Tree.set l) h = refl
emitted-tree w u (Tree.negated x) h = emitted-one w u (postfix x) Word.negation (node.Not ∷ []) (λ v. refl) ∙ ap (λ (z : List (Node FilterLeaf)). z ++ node.Not ∷ []) (emitted-tree w u x h)
emitted-tree w u (Tree.group x) h = emitted-one w u (postfix x) Word.brackets [] (λ v. refl) ∙ append-nil (emitted w u (postfix x)) ∙ emitted-tree w u x h
emitted-tree w u (Tree.joined o x y) h =
    emitted-two w u x (postfix y) (Word.operator o) (signs o) (λ v. refl)
    ∙ ap (λ (z : List (Node FilterLeaf)). z ++ (emitted w (u + length (kept x)) (postfix y) ++ signs o)) (emitted-tree w u x h.0)
    ∙ ap (λ (z : List (Node FilterLeaf)). written (lowered_from w u x) ++ (z ++ signs o)) (emitted-tree w (u + length (kept x)) y h.1)
    ∙ written-sign o (lowered_from w u x) (lowered_from w (u + length (kept x)) y)

sizes-append : (xs ys : Words) → sizes (xs ++ ys) ≡ sizes xs + sizes ys
sizes-append [] ys = sym (zero-add (sizes ys))
sizes-append (x ∷ xs) ys = ap (λ (n : ℕ). size x + n) (sizes-append xs ys) ∙ sym (add_assoc (size x) (sizes xs) (sizes ys))

sizes-one : (a : Words) (x : Word (List ℕ)) → sizes (a ++ x ∷ []) ≡ sizes a + size x
sizes-one a x = sizes-append a (x ∷ []) ∙ ap (λ (n : ℕ). sizes a + n) (add-zero (size x))

sizes-two : (a b : Words) (x : Word (List ℕ)) → sizes (a ++ (b ++ x ∷ [])) ≡ sizes a + (sizes b + size x)
sizes-two a b x = sizes-append a (b ++ x ∷ []) ∙ ap (λ (n : ℕ). sizes a + n) (sizes-one b x)

sign-size : (o : Operator) → size (Word.operator o) ≤ 2
sign-size Union = omega arith
sign-size Intersection = omega arith
sign-size Difference = omega arith

-- three nodes for two parts at most
pub sizes-tree : (t : Tree (List ℕ)) → Whole t → 2 * sizes (postfix t) + 1 ≤ 3 * parts t
sizes-tree Tree.bad h = absurd h
sizes-tree (Tree.set l) h = omega arith
sizes-tree (Tree.negated x) h = omega (arith, sizes-tree x h, sizes-one (postfix x) Word.negation)
sizes-tree (Tree.group x) h = omega (arith, sizes-tree x h, sizes-one (postfix x) Word.brackets)
sizes-tree (Tree.joined o x y) h = omega (arith, sizes-tree x h.0, sizes-tree y h.1, sizes-two (postfix x) (postfix y) (Word.operator o), sign-size o)
