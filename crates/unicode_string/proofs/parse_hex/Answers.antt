use Rattle.std.proofs.Common.{◌≡◌, ◌^◌, ◌≤◌, subst, ◌<◌, length, sym, ap, ◌+◌, ◌*◌, ◌-◌, ℕ, ◌∙◌, arith, rules}
use Rattle.unicode_string.specs.Text.{digits_at}
use Rattle.unicode_string.proofs.Hexes.{no_digit-is, digit-at}
use Rattle.unicode_string.proofs.Numbers.{digits-stop, digits-none, digits-on, room, fits}
use Rattle.unicode_string.proofs.parse_hex.Goals as goal

pub returns-in_default : goal.returns-in_default
returns-in_default c = digits-stop _ _ _ _ (no_digit-is _ (sym c.digit.ensures ∙ c.in_default.is)) ∙ c.loop-read.invariant.rest

pub overflow_add-digits : goal.overflow_add-digits
overflow_add-digits c =
    let w : c.loop-read.digits.next < length c.args.text.now = (digit-at c.args.text.now c.loop-read.digits.next c.in-Some.value (sym c.digit.ensures ∙ c.in-Some.is)).within in
    search rules

pub overflow_mul-digits : goal.overflow_mul-digits
overflow_mul-digits c = let h : c.loop-read.digits.code < 1048576 = fits _ _ (omega (arith, c.loop-read.invariant.left)) c.loop-read.invariant.room in search rules

pub overflow_add-digits-in-loop-read : goal.overflow_add-digits-in-loop-read
overflow_add-digits-in-loop-read c =
    let h : c.loop-read.digits.code < 1048576 = fits _ _ (omega (arith, c.loop-read.invariant.left)) c.loop-read.invariant.room in
    let w : c.in-Some.value < 16 = (digit-at c.args.text.now c.loop-read.digits.next c.in-Some.value (sym c.digit.ensures ∙ c.in-Some.is)).small in
    search rules

pub loop-read-preserved : goal.loop-read-preserved
loop-read-preserved c =
    let i = c.loop-read.invariant in
    let t = c.args.text.now in
    let b = c.loop-read.digits in
    let d = digit-at t b.next c.in-Some.value (sym c.digit.ensures ∙ c.in-Some.is) in
    let e : b.left - 1 ≡ 5 - c.loop-read.read = omega (arith, i.left) in
    record {
      left = omega (arith, i.left, c.loop-read-test.true);
      room = subst (λ (l : ℕ). (b.code * 16 + c.in-Some.value + 1) * 16 ^ l ≤ 16777216) e (room b.left b.code c.in-Some.value (omega (arith, i.left)) d.small i.room);
      rest = ap (λ (l : ℕ). digits_at t l (b.next + 1) (b.code * 16 + c.in-Some.value)) (sym e) ∙ ap (λ (v : ℕ). digits_at t (b.left - 1) (b.next + 1) (b.code * 16 + v)) d.is ∙ digits-on t b.left b.next b.code (omega (arith, i.left)) d.some ∙ i.rest;
    }

pub returns : goal.returns
returns c = digits-none _ _ _ _ (omega (arith, c.loop-read.invariant.left)) ∙ c.loop-read.invariant.rest
