-- Bans and the leftmost group, by the nodes that the code holds and by the tree.
use Rattle.std.proofs.Common.{◌≡◌, ℕ, List, [], ◌∷◌, ◌++◌, map, Some, None, Option, sym, refl, ap, ◌∙◌, append_assoc, append-nil}
use Rattle.std.specs.Option.{option_or}
use Rattle.std.specs.List.{flat_map}
use Rattle.errors.specs.declared.reports.Report.{Report}
use Rattle.unicode_string.specs.declared.Name.{Name}
use Rattle.parsing.specs.declared.nodes.ParsedNode.{ParsedNode}
use Rattle.parsing.specs.Tree.{Leaf, Tree, Word, postfix, renamed_leaf}
use Rattle.compile.specs.declared.kinds.FiltersetKind.{FiltersetKind}
use Rattle.compile.specs.Words.{renamed_word, word_as}
use Rattle.compile.specs.Bans.{ban_leaf, ban_word, ban_node, banned, group_leaf, group_word, group_at, leftmost, leftmost_group}

joined-append : {X : Type 0} (f : X → List Report) (xs ys : List X) → flat_map f (xs ++ ys) ≡ flat_map f xs ++ flat_map f ys
joined-append f [] ys = refl
joined-append f (x ∷ xs) ys = ap (λ (z : List Report). f x ++ z) (joined-append f xs ys) ∙ sym (append_assoc (f x) (flat_map f xs) (flat_map f ys))

one : {N : Type 0} (k : FiltersetKind) (a : List (Word N)) (x : Word N) → ban_word k x ≡ [] → flat_map (ban_word k) (a ++ x ∷ []) ≡ flat_map (ban_word k) a
one k a x e = joined-append (ban_word k) a (x ∷ []) ∙ ap (λ (z : List Report). flat_map (ban_word k) a ++ (z ++ [])) e ∙ append-nil (flat_map (ban_word k) a)

bans-tree : {N : Type 0} (k : FiltersetKind) (t : Tree N) → flat_map (ban_word k) (postfix t) ≡ banned k t
bans-tree k Tree.bad = refl
bans-tree k (Tree.set l) = append-nil _
bans-tree k (Tree.negated x) = one k (postfix x) Word.negation refl ∙ bans-tree k x
bans-tree k (Tree.group x) = one k (postfix x) Word.brackets refl ∙ bans-tree k x
bans-tree k (Tree.joined o x y) =
    joined-append (ban_word k) (postfix x) (postfix y ++ Word.operator o ∷ [])
    ∙ ap (λ (z : List Report). z ++ flat_map (ban_word k) (postfix y ++ Word.operator o ∷ [])) (bans-tree k x)
    ∙ ap (λ (z : List Report). banned k x ++ z) (one k (postfix y) (Word.operator o) refl ∙ bans-tree k y)

leaf-bans : {N M : Type 0} (k : FiltersetKind) (f : N → M) (l : Leaf N) → ban_leaf k l ≡ ban_leaf k (renamed_leaf f l)
leaf-bans k f (Leaf.matched p m n at) = refl
leaf-bans k f (Leaf.platform h at) = refl
leaf-bans k f (Leaf.default at) = refl
leaf-bans k f Leaf.all = refl
leaf-bans k f Leaf.none = refl

word-bans : {N M : Type 0} (k : FiltersetKind) (f : N → M) (x : Word N) → ban_word k x ≡ ban_word k (renamed_word f x)
word-bans k f (Word.leaf l) = leaf-bans k f l
word-bans k f Word.negation = refl
word-bans k f Word.brackets = refl
word-bans k f (Word.operator o) = refl

row-bans : {M : Type 0} (k : FiltersetKind) (f : Name → M) (xs : List ParsedNode) → flat_map (ban_node k) xs ≡ flat_map (ban_word k) (map (λ x. renamed_word f (word_as x)) xs)
row-bans k f [] = refl
row-bans k f (x ∷ xs) = ap (λ (z : List Report). z ++ flat_map (ban_node k) xs) (word-bans k f (word_as x)) ∙ ap (λ (z : List Report). ban_word k (renamed_word f (word_as x)) ++ z) (row-bans k f xs)

-- the bans of the nodes are those of every tree that they write down
pub bans-of : {M : Type 0} (k : FiltersetKind) (f : Name → M) (xs : List ParsedNode) (t : Tree M) → postfix t ≡ map (λ x. renamed_word f (word_as x)) xs → flat_map (ban_node k) xs ≡ banned k t
bans-of k f xs t e = row-bans k f xs ∙ ap (flat_map (ban_word k)) (sym e) ∙ bans-tree k t

or_assoc : (a b c : Option ℕ) → option_or (option_or a b) c ≡ option_or a (option_or b c)
or_assoc None b c = refl
or_assoc (Some x) b c = refl

or-none : (a : Option ℕ) → option_or a None ≡ a
or-none None = refl
or-none (Some x) = refl

leftmost-append : {X : Type 0} (f : X → Option ℕ) (xs ys : List X) → leftmost f (xs ++ ys) ≡ option_or (leftmost f xs) (leftmost f ys)
leftmost-append f [] ys = refl
leftmost-append f (x ∷ xs) ys = ap (option_or (f x)) (leftmost-append f xs ys) ∙ sym (or_assoc (f x) (leftmost f xs) (leftmost f ys))

group-one : {N : Type 0} (a : List (Word N)) (x : Word N) → group_word x ≡ None → leftmost group_word (a ++ x ∷ []) ≡ leftmost group_word a
group-one a x e = leftmost-append group_word a (x ∷ []) ∙ ap (λ (z : Option ℕ). option_or (leftmost group_word a) (option_or z None)) e ∙ or-none (leftmost group_word a)

group-tree : {N : Type 0} (t : Tree N) → leftmost group_word (postfix t) ≡ leftmost_group t
group-tree Tree.bad = refl
group-tree (Tree.set l) = or-none _
group-tree (Tree.negated x) = group-one (postfix x) Word.negation refl ∙ group-tree x
group-tree (Tree.group x) = group-one (postfix x) Word.brackets refl ∙ group-tree x
group-tree (Tree.joined o x y) =
    leftmost-append group_word (postfix x) (postfix y ++ Word.operator o ∷ [])
    ∙ ap (λ (z : Option ℕ). option_or z (leftmost group_word (postfix y ++ Word.operator o ∷ []))) (group-tree x)
    ∙ ap (option_or (leftmost_group x)) (group-one (postfix y) (Word.operator o) refl ∙ group-tree y)

leaf-group : {N M : Type 0} (f : N → M) (l : Leaf N) → group_leaf l ≡ group_leaf (renamed_leaf f l)
leaf-group f (Leaf.matched p m n at) = refl
leaf-group f (Leaf.platform h at) = refl
leaf-group f (Leaf.default at) = refl
leaf-group f Leaf.all = refl
leaf-group f Leaf.none = refl

word-group : {N M : Type 0} (f : N → M) (x : Word N) → group_word x ≡ group_word (renamed_word f x)
word-group f (Word.leaf l) = leaf-group f l
word-group f Word.negation = refl
word-group f Word.brackets = refl
word-group f (Word.operator o) = refl

row-group : {M : Type 0} (f : Name → M) (xs : List ParsedNode) → leftmost group_at xs ≡ leftmost group_word (map (λ x. renamed_word f (word_as x)) xs)
row-group f [] = refl
row-group f (x ∷ xs) = ap (λ (z : Option ℕ). option_or z (leftmost group_at xs)) (word-group f (word_as x)) ∙ ap (option_or (group_word (renamed_word f (word_as x)))) (row-group f xs)

-- and so is the leftmost group
pub group_of : {M : Type 0} (f : Name → M) (xs : List ParsedNode) (t : Tree M) → postfix t ≡ map (λ x. renamed_word f (word_as x)) xs → leftmost group_at xs ≡ leftmost_group t
group_of f xs t e = row-group f xs ∙ ap (leftmost group_word) (sym e) ∙ group-tree t
