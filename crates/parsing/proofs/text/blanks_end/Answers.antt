use Rattle.std.proofs.Common.{arith}
use Rattle.std.proofs.lemmas.List.{take_rest, length-drop}
use Rattle.parsing.specs.Text.{skip}
use Rattle.parsing.proofs.Scans.{blank-more, blank-none, skip-from}
use Rattle.parsing.proofs.text.blanks_end.Goals as goal

pub loop-rest-init : goal.loop-rest-init
unfolding skip
loop-rest-init c = rw (take_rest c.args.text.now c.args.from) (omega (arith, length-drop c.args.from c.args.text.now))

pub loop-rest-preserved : goal.loop-rest-preserved
loop-rest-preserved c =
    let r = c.loop-rest.rest.now in
    rw (take_rest r 1) (omega (arith, blank-more r c.loop-rest-test.ensures, length-drop 1 r, c.loop-rest.invariant))

pub overflow_sub-result : goal.overflow_sub-result
overflow_sub-result c = omega (arith, blank-none c.loop-rest.rest.now c.loop-rest-test.ensures, c.loop-rest.invariant)

pub returns : goal.returns
returns c =
    let e = blank-none c.loop-rest.rest.now c.loop-rest-test.ensures in
    let from = skip-from c.args.text.now c.args.from in
    record { value = omega (arith, c.loop-rest.invariant); onward = omega (arith, c.loop-rest.invariant); within = omega arith }
