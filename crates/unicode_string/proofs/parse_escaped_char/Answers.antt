use Rattle.std.proofs.Common.{sym, ◌∙◌, ap}
use Rattle.unicode_string.specs.Text.{letter_of}
use Rattle.unicode_string.proofs.Escapes.{byte-is, nothing, unicoded, lettered}
use Rattle.unicode_string.proofs.parse_escaped_char.Goals as goal

pub returns-in_err-byte : goal.returns-in_err-byte
returns-in_err-byte c = c.from_residual.ensures ∙ nothing c.args.text.now c.args.at c.in_err-byte.ensures.lookup.0

pub returns-then-byte-eq117 : goal.returns-then-byte-eq117
returns-then-byte-eq117 c =
    let b = byte-is c.args.text.now c.args.at c.in_ok-byte.ensures.lookup.0 c.in_ok-byte.ensures.lookup.1 in
    c.parse_unicode.ensures ∙ unicoded _ _ (sym b ∙ c.if-byte-eq117.true)

pub returns-in_err-code : goal.returns-in_err-code
returns-in_err-code c =
    let b = byte-is c.args.text.now c.args.at c.in_ok-byte.ensures.lookup.0 c.in_ok-byte.ensures.lookup.1 in
    c.from_residual-in_err-code.ensures ∙ lettered c.args.text.now c.args.at (λ e. c.if-byte-eq117.false (b ∙ e)) (sym c.in_err-code.was ∙ c.letter.ensures ∙ ap letter_of b)

pub returns : goal.returns
returns c =
    let b = byte-is c.args.text.now c.args.at c.in_ok-byte.ensures.lookup.0 c.in_ok-byte.ensures.lookup.1 in
    lettered c.args.text.now c.args.at (λ e. c.if-byte-eq117.false (b ∙ e)) (sym c.in_ok-code.was ∙ c.letter.ensures ∙ ap letter_of b)
