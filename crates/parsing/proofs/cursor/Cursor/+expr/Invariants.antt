use Rattle.std.proofs.Common.{◌+◌, ◌-◌, ◌*◌, length}
use Rattle.parsing.specs.Reading.{basic_at, and_at, or_sign, and_sign}
use Rattle.parsing.specs.View.{Moved}
use Rattle.parsing.proofs.Chains.{ToGo}
use Rattle.parsing.proofs.cursor.Cursor.+expr.Given as goal

abbrev pub decreases-parse_and_or_difference_expr : goal.decreases-parse_and_or_difference_expr
decreases-parse_and_or_difference_expr l = 5 * l.free + 3

abbrev pub decreases-parse_basic_expr : goal.decreases-parse_basic_expr
decreases-parse_basic_expr l = 5 * l.free + 2

abbrev pub decreases-parse_expr : goal.decreases-parse_expr
decreases-parse_expr l = 5 * l.free + 4

abbrev pub decreases-parse_expr_not : goal.decreases-parse_expr_not
decreases-parse_expr_not l = 5 * l.free + 1

abbrev pub decreases-parse_parentheses_expr : goal.decreases-parse_parentheses_expr
decreases-parse_parentheses_expr l = 5 * l.free + 1

abbrev pub invariant-parse_and_or_difference_expr-loop-operator : goal.invariant-parse_and_or_difference_expr-loop-operator
invariant-parse_and_or_difference_expr-loop-operator l =
    Moved 0 0 0 l.initial.self l.self × ToGo l.initial.self.text.now (and_sign l.initial.self.text.now) (basic_at l.initial.self.text.now l.free) l.initial.self l.self

abbrev pub decreases-parse_and_or_difference_expr-loop-operator : goal.decreases-parse_and_or_difference_expr-loop-operator
decreases-parse_and_or_difference_expr-loop-operator l = length l.self.text.now - l.self.pos

abbrev pub invariant-parse_expr-loop-operator : goal.invariant-parse_expr-loop-operator
invariant-parse_expr-loop-operator l =
    Moved 0 0 0 l.initial.self l.self × ToGo l.initial.self.text.now (or_sign l.initial.self.text.now) (and_at l.initial.self.text.now l.free) l.initial.self l.self

abbrev pub decreases-parse_expr-loop-operator : goal.decreases-parse_expr-loop-operator
decreases-parse_expr-loop-operator l = length l.self.text.now - l.self.pos
