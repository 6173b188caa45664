use Rattle.std.proofs.Common.{ℕ, ◌+◌, sym, ◌∙◌, subst, rules}
use Rattle.parsing.proofs.Scans.{ToGo, white-start, white-here, white-past, white-more}
use Rattle.parsing.proofs.text.white_end.Goals as goal

pub loop-at-init : goal.loop-at-init
loop-at-init c = search (rules, white-start)

pub returns-then-length-eq0 : goal.returns-then-length-eq0
returns-then-length-eq0 c = record { value = white-here c.loop-at.invariant.1 (sym c.white_at-length.ensures.value ∙ c.if-length-eq0.true); within = c.loop-at.invariant.0 }

pub loop-at-preserved : goal.loop-at-preserved
loop-at-preserved c =
    let v = c.white_at-length.ensures.value in
    (c.white_at-length.ensures.fits, subst (λ (n : ℕ). ToGo c.args.text.now c.args.from (c.loop-at.at + n)) (sym v) (white-more c.loop-at.invariant.1 c.loop-at-test.true (λ e. c.if-length-eq0.false (v ∙ e))))

pub returns : goal.returns
returns c = search (rules, white-past)
