use Rattle.std.proofs.Common.{◌≡◌, ℕ, ◌+◌, ◌-◌, eqb, length, take, drop, unwrap_or, ap, ◌∙◌, rules, tests}
use Rattle.std.proofs.lemmas.Iterator.{YieldsList-from_slice}
use Rattle.std.proofs.lemmas.Iterator.Search.{position_from_yields_List}
use Rattle.std.proofs.lemmas.List.{take_rest}
use Rattle.parsing.specs.Text.{closing}
use Rattle.parsing.proofs.Scans.{unclosed-place}
use Rattle.parsing.proofs.text.closing_bracket.Goals as goal

pub returns-clause-value : goal.returns-clause-value
unfolding closing
returns-clause-value c =
    let s = drop c.args.from c.args.text.now in
    let e = position_from_yields_List (λ b. eqb b 41) _ _ c.position.result c.position.ensures.ran (YieldsList-from_slice s (c.iter.ensures.rest ∙ take_rest c.args.text.now c.args.from)) (λ x b q k. search (rules, tests)) in
    let n : length (take (length c.args.text.now - c.args.from) s) ≡ length s = ap length (take_rest c.args.text.now c.args.from) in
    ap (λ (k : ℕ). c.args.from + k) (c.unwrap_or.ensures ∙ (λ i. unwrap_or (e i) (n i)) ∙ unclosed-place s)
