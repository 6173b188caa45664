-- What impls give for the laws of their traits: the truth values and the three-valued logic keep the laws of a logic, and the tests on rows
-- decide which rows fit.
use Rattle.std.specs.Prelude.{◌≡◌, ℕ, Bool, true, false, not, ◌&&◌, ◌||◌, List, [], ◌++◌, length, take, drop, Some, None, Option, Decides, is_some, unwrap_or, refl}
use Rattle.std.proofs.Common.{sym, ap, ◌∙◌}
use Rattle.std.proofs.lemmas.Slice.Eq.{bytes_eq-Decides}
use Rattle.std.proofs.lemmas.List.{take-append-drop, take_at}
use Rattle.std.proofs.lemmas.Bool.{false≢true}
use Rattle.std.proofs.lemmas.Bool.Decides.{Decides-and}
use Rattle.expression.specs.Logic.{Laws, truth, Same}
use Rattle.expression.specs.Kleene.{kleene, kleene_and, kleene_or, kleene_not, Allows}
use Rattle.glob.specs.Parts.{part_of, same_as}
use Rattle.expression.specs.Names.{begins}
use Rattle.expression.specs.Queries.{Test}
use Rattle.expression.specs.Rosters.{RowFits, PrefixFits, row_fits, leads, prefix_fits}
use Rattle.expression.specs.declared.roster.TestRow.{TestRow}
use Rattle.expression.specs.declared.roster.PrefixRow.{PrefixRow}

both_same : (a b p q : Bool) → Same a p → Same b q → Same (a && b) (p && q)
both_same a b p q e f = ap (λ (x : Bool). x && b) e ∙ ap (λ (y : Bool). p && y) f

either_same : (a b p q : Bool) → Same a p → Same b q → Same (a || b) (p || q)
either_same a b p q e f = ap (λ (x : Bool). x || b) e ∙ ap (λ (y : Bool). p || y) f

pub truth_lawful : Laws truth Same
truth_lawful = record {
  top_fits = refl;
  top_alone = λ p e. sym e;
  bottom_fits = refl;
  bottom_alone = λ p e. sym e;
  both_fits = both_same;
  either_fits = either_same;
  negated_fits = λ a p e. ap not e;
}

false_right : (p : Bool) → false ≡ (p && false)
false_right true = refl
false_right false = refl

true_right : (p : Bool) → true ≡ (p || true)
true_right true = refl
true_right false = refl

both_allows : (a b : Option Bool) (p q : Bool) → Allows a p → Allows b q → Allows (kleene_and a b) (p && q)
both_allows (Some true) (Some true) p q e f = both_same true true p q e f
both_allows (Some true) (Some false) p q e f = both_same true false p q e f
both_allows (Some true) None p q e f = tt
both_allows (Some false) (Some true) p q e f = both_same false true p q e f
both_allows (Some false) (Some false) p q e f = both_same false false p q e f
both_allows (Some false) None p q e f = ap (λ (x : Bool). x && q) e
both_allows None (Some true) p q e f = tt
both_allows None (Some false) p q e f = false_right p ∙ ap (λ (y : Bool). p && y) f
both_allows None None p q e f = tt

either_allows : (a b : Option Bool) (p q : Bool) → Allows a p → Allows b q → Allows (kleene_or a b) (p || q)
either_allows (Some true) (Some true) p q e f = either_same true true p q e f
either_allows (Some true) (Some false) p q e f = either_same true false p q e f
either_allows (Some true) None p q e f = ap (λ (x : Bool). x || q) e
either_allows (Some false) (Some true) p q e f = either_same false true p q e f
either_allows (Some false) (Some false) p q e f = either_same false false p q e f
either_allows (Some false) None p q e f = tt
either_allows None (Some true) p q e f = true_right p ∙ ap (λ (y : Bool). p || y) f
either_allows None (Some false) p q e f = tt
either_allows None None p q e f = tt

not_allows : (a : Option Bool) (p : Bool) → Allows a p → Allows (kleene_not a) (not p)
not_allows (Some true) p e = ap not e
not_allows (Some false) p e = ap not e
not_allows None p e = tt

pub kleene_lawful : Laws kleene Allows
kleene_lawful = record {
  top_fits = refl;
  top_alone = λ p e. sym e;
  bottom_fits = refl;
  bottom_alone = λ p e. sym e;
  both_fits = both_allows;
  either_fits = either_allows;
  negated_fits = not_allows;
}

pub begins-rest : (v n : List ℕ) → begins v n ≡ true → n ≡ v ++ drop (length v) n
begins-rest v n h = sym (take-append-drop (length v) n) ∙ ap (λ (z : List ℕ). z ++ drop (length v) n) (sym ((bytes_eq-Decides v (take (length v) n)).0 h))

pub begins-whole : (v rest : List ℕ) → begins v (v ++ rest) ≡ true
begins-whole v rest = (bytes_eq-Decides v (take (length v) (v ++ rest))).1 (sym (take_at v rest (length v) refl))

none-some : {A : Type 0} {v : A} → None ≡ Some v → ⊥
none-some e = false≢true (ap is_some e)

some-some : {v w : List ℕ} → Some v ≡ Some w → v ≡ w
some-some e = ap (λ (o : Option (List ℕ)). unwrap_or o []) e

same-part : (w : List ℕ) (o : Option (List ℕ)) → Decides (same_as w o) (o ≡ Some w)
same-part w None = (λ e. absurd (false≢true e), λ e. absurd (none-some e))
same-part w (Some part) = (λ e. ap Some ((bytes_eq-Decides part w).0 e), λ e. (bytes_eq-Decides part w).1 (some-some e))

pub row_decides : (text : List ℕ) (q : Test) (row : TestRow) → Decides (row_fits text q row) (RowFits text q row)
row_decides text q row = Decides-and _ _ (same-part q.binary.id (part_of text row.binary_id)) (same-part q.name (part_of text row.test_name))

leads-part : (name : List ℕ) (o : Option (List ℕ)) → Decides (leads name o) ((prefix : List ℕ) × (rest : List ℕ) × (o ≡ Some prefix) × (name ≡ prefix ++ rest))
leads-part name None = (λ e. absurd (false≢true e), λ p. absurd (none-some p.2))
leads-part name (Some part) = (
  λ e. (part, drop (length part) name, refl, begins-rest part name e),
  λ p. ap (begins part) p.3 ∙ ap (λ (z : List ℕ). begins part (z ++ p.1)) (sym (some-some p.2)) ∙ begins-whole part p.1,
)

pub prefix_decides : (text : List ℕ) (q : Test) (row : PrefixRow) → Decides (prefix_fits text q row) (PrefixFits text q row)
prefix_decides text q row = leads-part q.name (part_of text row.prefix)
