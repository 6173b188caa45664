use Rattle.std.proofs.Common.{◌≡◌, Bool, true, false, cond, Some, None, codes, sym, ap, ◌∙◌}
use Rattle.expression.specs.declared.queries.BuildPlatform.TheVariants.{Host, Target}
use Rattle.parsing.specs.Text.{white_end}
use Rattle.parsing.specs.Reading.{says_word, platform_of}
use Rattle.parsing.proofs.text.platform_of.Goals as goal

pub returns-then-says : goal.returns-then-says
unfolding platform_of
returns-then-says c =
    let b = c.args.name.now in
    let h : says_word b (codes "host") (white_end b 0) ≡ true = sym (c.if-says.ensures ∙ ap (says_word b (codes "host")) c.white_end-start.ensures.value) in
    sym (ap (λ (x : Bool). cond x (Some Host) (cond (says_word b (codes "target") (white_end b 0)) (Some Target) None)) h)

pub returns-then-says-2 : goal.returns-then-says-2
unfolding platform_of
returns-then-says-2 c =
    let b = c.args.name.now in
    let h : says_word b (codes "host") (white_end b 0) ≡ false = sym (c.if-says.ensures ∙ ap (says_word b (codes "host")) c.white_end-start.ensures.value) in
    let g : says_word b (codes "target") (white_end b 0) ≡ true = sym (c.if-says-2.ensures ∙ ap (says_word b (codes "target")) c.white_end-start.ensures.value) in
    sym (ap (λ (x : Bool). cond x (Some Host) (cond (says_word b (codes "target") (white_end b 0)) (Some Target) None)) h ∙ ap (λ (x : Bool). cond x (Some Target) None) g)

pub returns : goal.returns
unfolding platform_of
returns c =
    let b = c.args.name.now in
    let h : says_word b (codes "host") (white_end b 0) ≡ false = sym (c.if-says.ensures ∙ ap (says_word b (codes "host")) c.white_end-start.ensures.value) in
    let g : says_word b (codes "target") (white_end b 0) ≡ false = sym (c.if-says-2.ensures ∙ ap (says_word b (codes "target")) c.white_end-start.ensures.value) in
    sym (ap (λ (x : Bool). cond x (Some Host) (cond (says_word b (codes "target") (white_end b 0)) (Some Target) None)) h ∙ ap (λ (x : Bool). cond x (Some Target) None) g)
