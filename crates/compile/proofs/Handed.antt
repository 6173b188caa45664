-- What reading and the check of the tables hand on to lowering.
use Rattle.std.proofs.Common.{◌≡◌, ℕ, ◌^◌, ◌<◌, ◌≤◌, List, [], ◌∷◌, ◌++◌, map, length, Some, None, Option, sym, refl, ap, ◌∙◌, subst, arith, length-append}
use Rattle.std.specs.Option.{option_map}
use Rattle.std.proofs.lemmas.List.{length-map}
use Rattle.unicode_string.specs.Names.{bytes_in}
use Rattle.parsing.specs.declared.nodes.ParsedLeaf.{ParsedLeaf}
use Rattle.parsing.specs.declared.nodes.ParsedLeaf.TheVariants as parsed
use Rattle.parsing.specs.declared.nodes.ParsedNode.{ParsedNode}
use Rattle.parsing.specs.declared.nodes.ParsedNode.TheVariants as node
use Rattle.parsing.specs.Grammar.{Basic, AndExpr, OrExpr, Fine}
use Rattle.parsing.specs.Nodes.{leaf_in, word_in}
use Rattle.parsing.specs.Tree.{Leaf, Tree, Word, postfix, parts, renamed_leaf}
use Rattle.compile.specs.Filters.{Whole}
use Rattle.compile.specs.Lowered.{sizes, copied}
use Rattle.compile.specs.Tables.{or_empty}
use Rattle.compile.specs.Words.{named_in, leaf_as, word_as, renamed_word}
use Rattle.compile.proofs.LoweredTrees.{sizes-tree, copied-tree}
use Rattle.compile.proofs.Short.{kept-short}

-- no operand of a tree that the grammar derives is missing
mutual
  pub whole-basic : (t : List ℕ) {i j : ℕ} {x : Tree (List ℕ)} → Basic t i j x → Whole x
  whole-basic t (Basic.set bl s) = tt
  whole-basic t (Basic.not bl s b) = whole-basic t b
  whole-basic t (Basic.group o e bl cl) = whole-or t e

  pub whole-and : (t : List ℕ) {i j : ℕ} {x : Tree (List ℕ)} → AndExpr t i j x → Whole x
  whole-and t (AndExpr.basic b) = whole-basic t b
  whole-and t (AndExpr.and e bl s b) = (whole-and t e, whole-basic t b)

  pub whole-or : (t : List ℕ) {i j : ℕ} {x : Tree (List ℕ)} → OrExpr t i j x → Whole x
  whole-or t (OrExpr.and_expr e) = whole-and t e
  whole-or t (OrExpr.or e bl s b) = (whole-or t e, whole-and t b)

-- at most 128 parts give at most 191 nodes
pub room_for : (t : Tree (List ℕ)) (ws : List (Word (List ℕ))) → Whole t → postfix t ≡ ws → parts t ≤ 128 → sizes ws ≤ 191
room_for t ws h e p = omega (arith, ap sizes e, sizes-tree t h)

length-postfix : {N : Type 0} (t : Tree N) → length (postfix t) ≡ parts t
length-postfix Tree.bad = refl
length-postfix (Tree.set l) = refl
length-postfix (Tree.negated x) = omega (arith, length-postfix x, length-append (postfix x) (Word.negation ∷ []))
length-postfix (Tree.group x) = omega (arith, length-postfix x, length-append (postfix x) (Word.brackets ∷ []))
length-postfix (Tree.joined o x y) = omega (arith, length-postfix x, length-postfix y, length-append (postfix x) (postfix y ++ Word.operator o ∷ []), length-append (postfix y) (Word.operator o ∷ []))

-- and there is one parsed node for each part
pub few-nodes : {X N : Type 0} (f : X → Word N) (xs : List X) (t : Tree N) → postfix t ≡ map f xs → parts t ≤ 128 → length xs < 2 ^ 32
few-nodes f xs t e p = omega (arith, ap length e, length-postfix t, length-map xs f)

abbrev There : {X : Type 0} → Option X → Type 0
There None = ⊥
There (Some x) = Unit {0}

same_some : {X : Type 0} {x y : X} → Some x ≡ Some y → x ≡ y
same_some {X} {x} {y} e = ap (λ (o : Option X). elim o [ Some z ↦ z | None ↦ x ]) e

-- a name that lies in the text or the decoding space is found there
name-there : (f : List ℕ → Leaf (List ℕ)) (b : Option (List ℕ)) (l : Leaf (List ℕ)) → option_map f b ≡ Some l → f (or_empty b) ≡ l
name-there f None l e = absurd (let P : Option (Leaf (List ℕ)) → Type 0 = There in subst P (sym e) tt)
name-there f (Some b) l e = same_some e

leaf-there : (t s : List ℕ) (x : ParsedLeaf) (l : Leaf (List ℕ)) → leaf_in t s x ≡ Some l → renamed_leaf (named_in t s) (leaf_as x) ≡ l
leaf-there t s (parsed.Matched p m at) l e = name-there (λ b. Leaf.matched p m.kind b at) (bytes_in t s m.name) l e
leaf-there t s (parsed.Platform h at) l e = same_some e
leaf-there t s (parsed.Default at) l e = same_some e
leaf-there t s parsed.All l e = same_some e
leaf-there t s parsed.None l e = same_some e

set_there : (o : Option (Leaf (List ℕ))) (x : Leaf (List ℕ)) (w : Word (List ℕ)) → ((l : Leaf (List ℕ)) → o ≡ Some l → x ≡ l) → option_map (λ l. Word.leaf l) o ≡ Some w → Word.leaf x ≡ w
set_there None x w h e = absurd (let P : Option (Word (List ℕ)) → Type 0 = There in subst P (sym e) tt)
set_there (Some l) x w h e = ap (λ (z : Leaf (List ℕ)). Word.leaf z) (h l refl) ∙ same_some e

word-there : (t s : List ℕ) (x : ParsedNode) (w : Word (List ℕ)) → word_in t s x ≡ Some w → renamed_word (named_in t s) (word_as x) ≡ w
word-there t s (node.Set l) w e = set_there (leaf_in t s l) (renamed_leaf (named_in t s) (leaf_as l)) w (leaf-there t s l) e
word-there t s node.Not w e = same_some e
word-there t s node.Parens w e = same_some e
word-there t s (node.Joined o) w e = same_some e

head-same : {X : Type 0} (d x y : X) (xs ys : List X) → x ∷ xs ≡ y ∷ ys → x ≡ y
head-same {X} d x y xs ys e = ap (λ (l : List X). elim l [ [] ↦ d | z ∷ zs ↦ z ]) e

tail-same : {X : Type 0} (x y : X) (xs ys : List X) → x ∷ xs ≡ y ∷ ys → xs ≡ ys
tail-same {X} x y xs ys e = ap (λ (l : List X). elim l [ [] ↦ xs | z ∷ zs ↦ zs ]) e

-- nodes that mean these words write them down
pub words-there : (t s : List ℕ) (xs : List ParsedNode) (ws : List (Word (List ℕ))) → map (word_in t s) xs ≡ map (λ w. Some w) ws → ws ≡ map (λ x. renamed_word (named_in t s) (word_as x)) xs
words-there t s [] [] e = refl
words-there t s [] (w ∷ ws) e = absurd (omega (arith, ap length e))
words-there t s (x ∷ xs) [] e = absurd (omega (arith, ap length e))
words-there t s (x ∷ xs) (w ∷ ws) e =
    let h = sym (word-there t s x w (head-same None _ _ _ _ e)) in
    ap (λ (z : Word (List ℕ)). z ∷ ws) h ∙ ap (λ (zs : List (Word (List ℕ))). renamed_word (named_in t s) (word_as x) ∷ zs) (words-there t s xs ws (tail-same _ _ _ _ e))

-- what lowering asks of nodes that were read
pub record Ready (t s : List ℕ) (xs : List ParsedNode) (x : Tree (List ℕ)) : Type 0 where
  pub whole : Whole x
  pub words : postfix x ≡ map (λ n. renamed_word (named_in t s) (word_as n)) xs
  pub nodes : sizes (map (λ n. renamed_word (named_in t s) (word_as n)) xs) ≤ 191
  pub names : length (copied (map (λ n. renamed_word (named_in t s) (word_as n)) xs)) ≤ 1024
  pub few : length xs < 2 ^ 32

-- nodes that mean the words of a fine tree of a short text are ready
pub ready : (t s : List ℕ) (xs : List ParsedNode) (x : Tree (List ℕ)) → Fine t x → length t ≤ 1024 → map (word_in t s) xs ≡ map (λ w. Some w) (postfix x) → Ready t s xs x
ready t s xs x f h e =
    let whole = whole-or t f.filter.expr in
    let words = words-there t s xs (postfix x) e in
    record {
      whole = whole;
      words = words;
      nodes = room_for x _ whole words f.parted;
      names = omega (arith, ap (λ (z : List (Word (List ℕ))). length (copied z)) words, ap length (copied-tree x), kept-short t x f.filter);
      few = few-nodes (λ n. renamed_word (named_in t s) (word_as n)) xs x words f.parted;
    }
