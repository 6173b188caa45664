-- Bans and leftmost groups, node by node and by the tree.
use Rattle.std.proofs.Common.{◌≡◌, ℕ, ◌+◌, ◌<◌, ◌≤◌, List, length, get_or, drop, None, Option, sym, ap, ◌∙◌, arith}
use Rattle.std.specs.Option.{option_or}
use Rattle.std.proofs.lemmas.List.{at_drop_more, at_drop_all}
use Rattle.parsing.specs.Tree.{Leaf, Word}
use Rattle.compile.specs.declared.kinds.FiltersetKind.{FiltersetKind}
use Rattle.compile.specs.Bans.{ban_leaf, ban_word, leftmost}
use Rattle.compile.proofs.Logs.{note-few}

few-leaf : {N : Type 0} (k : FiltersetKind) (l : Leaf N) → length (ban_leaf k l) ≤ 1
few-leaf k (Leaf.matched p m n at) = note-few _ _ _
few-leaf k (Leaf.platform h at) = omega arith
few-leaf k (Leaf.default at) = note-few _ _ _
few-leaf k Leaf.all = omega arith
few-leaf k Leaf.none = omega arith

-- a node is banned once at most
pub few-bans : {N : Type 0} (k : FiltersetKind) (x : Word N) → length (ban_word k x) ≤ 1
few-bans k (Word.leaf l) = few-leaf k l
few-bans k Word.negation = omega arith
few-bans k Word.brackets = omega arith
few-bans k (Word.operator o) = omega arith

-- one node on, by what it is
pub leftmost-more : {X : Type 0} (f : X → Option ℕ) (xs : List X) (i : ℕ) (d : X) (r : Option ℕ) → i < length xs → r ≡ f (get_or xs i d) → leftmost f (drop i xs) ≡ leftmost f xs → option_or r (leftmost f (drop (i + 1) xs)) ≡ leftmost f xs
leftmost-more f xs i d r l e inv = ap (λ (z : Option ℕ). option_or z (leftmost f (drop (i + 1) xs))) e ∙ sym (at_drop_more (leftmost f) xs i d l) ∙ inv

pub leftmost-all : {X : Type 0} (f : X → Option ℕ) (xs : List X) (i : ℕ) → length xs ≤ i → leftmost f (drop i xs) ≡ leftmost f xs → None ≡ leftmost f xs
leftmost-all f xs i l inv = sym (at_drop_all (leftmost f) xs i l) ∙ inv
