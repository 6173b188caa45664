-- Nodes lowered one after the other.
use Rattle.std.proofs.Common.{◌≡◌, ℕ, ◌+◌, ◌<◌, ◌≤◌, List, [], ◌∷◌, ◌++◌, map, length, get_or, drop, sym, refl, ap, ◌∙◌, append_assoc, append-nil, add-zero, arith, length-append}
use Rattle.std.proofs.lemmas.List.{at_drop_more}
use Rattle.errors.specs.declared.reports.Report.{Report}
use Rattle.glob.specs.declared.place.Place.{Place}
use Rattle.expression.specs.declared.name_matcher.MatchKind.{MatchKind}
use Rattle.expression.specs.declared.nodes.Node.{Node}
use Rattle.parsing.specs.declared.nodes.Predicate.{Predicate}
use Rattle.parsing.specs.declared.nodes.Predicate.TheVariants.{Package, Deps, Rdeps, Kind, BinaryId, Binary, Test, Group}
use Rattle.parsing.specs.Tree.{Leaf, Word}
use Rattle.compile.specs.declared.filter.FilterLeaf.{FilterLeaf}
use Rattle.errors.specs.Reports.{Log}
use Rattle.compile.specs.Reports.{logged}
use Rattle.compile.specs.World.{World}
use Rattle.compile.specs.Lowered.{emits, copies, notes, size, emitted, copied, noted, sizes, State, Lowers, matched_note, note_for}
use Rattle.compile.proofs.Logs.{logged-append, note-few}

pub copied-append : (xs ys : List (Word (List ℕ))) → copied (xs ++ ys) ≡ copied xs ++ copied ys
copied-append [] ys = refl
copied-append (x ∷ xs) ys = ap (λ (z : List ℕ). copies x ++ z) (copied-append xs ys) ∙ sym (append_assoc (copies x) (copied xs) (copied ys))

pub noted-append : (w : World) (xs ys : List (Word (List ℕ))) → noted w (xs ++ ys) ≡ noted w xs ++ noted w ys
noted-append w [] ys = refl
noted-append w (x ∷ xs) ys = ap (λ (z : List Report). notes w x ++ z) (noted-append w xs ys) ∙ sym (append_assoc (notes w x) (noted w xs) (noted w ys))

pub emitted-append : (w : World) (u : ℕ) (xs ys : List (Word (List ℕ))) → emitted w u (xs ++ ys) ≡ emitted w u xs ++ emitted w (u + length (copied xs)) ys
emitted-append w u [] ys = ap (λ (n : ℕ). emitted w n ys) (sym (add-zero u))
emitted-append w u (x ∷ xs) ys =
    let v = u + length (copies x) in
    let e : v + length (copied xs) ≡ u + length (copies x ++ copied xs) = omega (arith, length-append (copies x) (copied xs)) in
    ap (λ (z : List (Node FilterLeaf)). emits w u x ++ z) (emitted-append w v xs ys ∙ ap (λ (n : ℕ). emitted w v xs ++ emitted w n ys) e)
    ∙ sym (append_assoc (emits w u x) (emitted w v xs) (emitted w (u + length (copies x ++ copied xs)) ys))

-- a row after a row
pub lowers_then : (w : World) (xs ys : List (Word (List ℕ))) (s m e : State) → Lowers w xs s m → Lowers w ys m e → Lowers w (xs ++ ys) s e
lowers_then w xs ys s m e a b =
    let u = length s.names in
    let long : length m.names ≡ u + length (copied xs) = ap length a.names ∙ length-append s.names (copied xs) in
    record {
      nodes = b.nodes ∙ ap (λ (z : List (Node FilterLeaf)). z ++ emitted w (length m.names) ys) a.nodes ∙ ap (λ (n : ℕ). (s.nodes ++ emitted w u xs) ++ emitted w n ys) long ∙ append_assoc s.nodes (emitted w u xs) (emitted w (u + length (copied xs)) ys) ∙ ap (λ (z : List (Node FilterLeaf)). s.nodes ++ z) (sym (emitted-append w u xs ys));
      names = b.names ∙ ap (λ (z : List ℕ). z ++ copied ys) a.names ∙ append_assoc s.names (copied xs) (copied ys) ∙ ap (λ (z : List ℕ). s.names ++ z) (sym (copied-append xs ys));
      log = b.log ∙ ap (λ (z : Log). logged z (noted w ys)) a.log ∙ sym (logged-append s.log (noted w xs) (noted w ys)) ∙ ap (logged s.log) (sym (noted-append w xs ys));
    }

-- one node
pub lowers-one : (w : World) (x : Word (List ℕ)) (s e : State) → e.nodes ≡ s.nodes ++ emits w (length s.names) x → e.names ≡ s.names ++ copies x → e.log ≡ logged s.log (notes w x) → Lowers w (x ∷ []) s e
lowers-one w x s e a b c = record {
  nodes = a ∙ ap (λ (z : List (Node FilterLeaf)). s.nodes ++ z) (sym (append-nil (emits w (length s.names) x)));
  names = b ∙ ap (λ (z : List ℕ). s.names ++ z) (sym (append-nil (copies x)));
  log = c ∙ ap (logged s.log) (sym (append-nil (notes w x)));
}

-- the room that what is left asks for
pub room-sizes : {X : Type 0} (f : X → Word (List ℕ)) (xs : List X) (i : ℕ) (d : X) → i < length xs → sizes (map f (drop i xs)) ≡ size (f (get_or xs i d)) + sizes (map f (drop (i + 1) xs))
room-sizes f xs i d l = at_drop_more (λ z. sizes (map f z)) xs i d l

pub room-copied : {X : Type 0} (f : X → Word (List ℕ)) (xs : List X) (i : ℕ) (d : X) → i < length xs → length (copied (map f (drop i xs))) ≡ length (copies (f (get_or xs i d))) + length (copied (map f (drop (i + 1) xs)))
room-copied f xs i d l = at_drop_more (λ z. length (copied (map f z))) xs i d l ∙ length-append (copies (f (get_or xs i d))) (copied (map f (drop (i + 1) xs)))

matched-few : (w : World) (p : Predicate) (k : MatchKind) (v : List ℕ) (at : Place) → length (matched_note w p k v at) ≤ 1
matched-few w Package k v at = note-few _ _ _
matched-few w Deps k v at = note-few _ _ _
matched-few w Rdeps k v at = note-few _ _ _
matched-few w Kind k v at = omega arith
matched-few w BinaryId k v at = note-few _ _ _
matched-few w Binary k v at = note-few _ _ _
matched-few w Test k v at = omega arith
matched-few w Group k v at = note-few _ _ _

leaf-few : (w : World) (l : Leaf (List ℕ)) → length (note_for w l) ≤ 1
leaf-few w (Leaf.matched p k v at) = matched-few w p k v at
leaf-few w (Leaf.platform h at) = omega arith
leaf-few w (Leaf.default at) = omega arith
leaf-few w Leaf.all = omega arith
leaf-few w Leaf.none = omega arith

-- a node makes one report at most
pub few-notes : (w : World) (x : Word (List ℕ)) → length (notes w x) ≤ 1
few-notes w (Word.leaf l) = leaf-few w l
few-notes w Word.negation = omega arith
few-notes w Word.brackets = omega arith
few-notes w (Word.operator o) = omega arith

pub few-noted : (w : World) (xs : List (Word (List ℕ))) → length (noted w xs) ≤ length xs
few-noted w [] = omega arith
few-noted w (x ∷ xs) = omega (arith, few-notes w x, few-noted w xs, length-append (notes w x) (noted w xs))
