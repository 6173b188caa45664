use Rattle.std.proofs.Common.{◌≡◌, ℕ, Bool, eqb, ◌&&◌, true, false, List, [], ◌∷◌, take, drop, sym, refl, ap, ◌∙◌}
use Rattle.std.specs.Cmp.Lexicographic.{pointwise}
use Rattle.glob.specs.Reading.{head_is}
use Rattle.glob.proofs.Splits.{span-none, span-some, span-left, list-closed, list-open, list-empty}
use Rattle.glob.proofs.listed.Goals as goal

and-true : (x : Bool) → (x && true) ≡ x
and-true true = refl
and-true false = refl

prefix-is : (s : List ℕ) (c : ℕ) → pointwise eqb (take 1 s) (c ∷ []) ≡ head_is c s
prefix-is [] c = refl
prefix-is (b ∷ s) c = and-true (eqb b c)

pub returns-in_err-end : goal.returns-in_err-end
returns-in_err-end c = rw c.from_residual.ensures (list-empty c.args.negated c.args.members.now (span-none _ c.in_err-end.ensures))

pub loop-after-init : goal.loop-after-init
loop-after-init c = let e = c.in_ok-end.ensures in (span-some _ _ _ e, sym (span-left _ _ _ e))

pub loop-after-preserved : goal.loop-after-preserved
loop-after-preserved c = (c.loop-after.invariant.0, sym (span-left _ _ _ c.in-Some.ensures) ∙ c.loop-after.invariant.1)

pub returns-in_err-rest : goal.returns-in_err-rest
returns-in_err-rest c =
    let end = c.loop-after.end.now in
    let e = sym (ap (λ (k : ℕ). drop k end) (span-none end c.in_default.ensures)) ∙ c.loop-after.invariant.1 in
    rw c.from_residual-in_err-rest.ensures (list-open c.args.negated c.args.members.now end e (sym (prefix-is end 93) ∙ c.in_err-rest.ensures.cases))

pub returns : goal.returns
returns c =
    let end = c.loop-after.end.now in
    let e = sym (ap (λ (k : ℕ). drop k end) (span-none end c.in_default.ensures)) ∙ c.loop-after.invariant.1 in
    let g = c.in_ok-rest.ensures.cases in
    rw g.1 (list-closed c.args.negated c.args.members.now end e c.loop-after.invariant.0 (sym (prefix-is end 93) ∙ g.0))
