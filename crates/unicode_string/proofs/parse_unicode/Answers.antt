use Rattle.std.proofs.Common.{sym, ◌∙◌, arith}
use Rattle.unicode_string.proofs.Escapes.{at-is, not_at, unopened, opened, no_digit, no-close, no-scalar, closes}
use Rattle.unicode_string.proofs.parse_unicode.Goals as goal
use Rattle.unicode_string.proofs.parse_unicode.Goals.{then-d-eq-MOST_DIGITS-via-then-d-eq-MOST_DIGITS, then-d-eq-MOST_DIGITS-via-else-d-eq-MOST_DIGITS+then-not-is_at-2}

pub returns-then-not-is_at : goal.returns-then-not-is_at
returns-then-not-is_at c = unopened _ _ (not_at c.args.text.now c.args.at 123 (sym c.if-not-is_at.ensures) (omega arith))

pub returns-then-d-eq-MOST_DIGITS : goal.returns-then-d-eq-MOST_DIGITS
returns-then-d-eq-MOST_DIGITS c =
    let o = opened _ _ (at-is c.args.text.now c.args.at 123 (sym c.if-not-is_at.ensures)) c.parse_hex-d.ensures in
    elim c.then-d-eq-MOST_DIGITS.branch [
      | then-d-eq-MOST_DIGITS-via-then-d-eq-MOST_DIGITS w ↦ no_digit _ c.parse_hex-d.result w.if-d-eq-MOST_DIGITS.true ∙ o
      | then-d-eq-MOST_DIGITS-via-else-d-eq-MOST_DIGITS+then-not-is_at-2 w ↦ no-close _ c.parse_hex-d.result (not_at c.args.text.now c.parse_hex-d.result.next 125 (sym w.if-not-is_at-2.ensures) (omega arith)) ∙ o
    ]

pub returns-in_err-from_u32 : goal.returns-in_err-from_u32
returns-in_err-from_u32 c =
    let o = opened _ _ (at-is c.args.text.now c.args.at 123 (sym c.if-not-is_at.ensures)) c.parse_hex-d.ensures in
    c.from_residual.ensures ∙ no-scalar _ c.parse_hex-d.result c.in_err-from_u32.ensures.value ∙ o

pub returns : goal.returns
returns c =
    let o = opened _ _ (at-is c.args.text.now c.args.at 123 (sym c.if-not-is_at.ensures)) c.parse_hex-d.ensures in
    closes _ c.parse_hex-d.result c.if-d-eq-MOST_DIGITS.false (at-is c.args.text.now c.parse_hex-d.result.next 125 (sym c.if-not-is_at-2.ensures)) c.in_ok-from_u32.ensures.value.0 ∙ o
