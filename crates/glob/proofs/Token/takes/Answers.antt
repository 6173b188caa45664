use Rattle.std.proofs.Common.{◌≡◌, ℕ, Bool, true, false, cond, not, ◌||◌, List, [], ◌∷◌, rules, refl, ap, ◌∙◌}
use Rattle.std.proofs.lemmas.Iterator.Consumers.{YieldsList-from_first}
use Rattle.std.proofs.lemmas.Iterator.Search.{any_from_yields_List}
use Rattle.std.specs.Bool.{beq}
use Rattle.std.specs.List.{list_any}
use borrow.Author.Tests.{tests}
use Rattle.glob.specs.Glob.{Range, within}
use Rattle.glob.specs.Reading.{ranges_of}
use Rattle.glob.specs.Tokens.{range_for, range_has}
use Rattle.glob.proofs.Token.takes.Goals as goal

any-within : (b : ℕ) (rs : List Range) → list_any (range_has b) rs ≡ within b rs
any-within b [] = refl
any-within b (r ∷ rs) = ap (λ (x : Bool). range_has b r || x) (any-within b rs)

other-than : (x y : Bool) → not (beq x y) ≡ cond y (not x) x
other-than true true = refl
other-than true false = refl
other-than false true = refl
other-than false false = refl

pub returns-in-Listed : goal.returns-in-Listed
returns-in-Listed c =
    let b = c.args.b in
    let rs = ranges_of c.in-Listed.members.0.now in
    let road = YieldsList-from_first range_for (λ s. ranges_of s.0.now) {s = c.in-Listed.members} rs refl in
    let e : c.any.result ≡ list_any (range_has b) rs = any_from_yields_List (range_has b) c.any.new.self _ c.any.result c.any.ensures.ran road (λ x r q k. search (rules, tests)) in
    rw c.in-Listed.is (other-than c.any.result c.in-Listed.negated ∙ ap (λ (x : Bool). cond c.in-Listed.negated (not x) x) (e ∙ any-within b rs))
