use Rattle.std.proofs.Common.{◌≡◌, length, Some, sym, ap, ◌∙◌, subst, arith}
use Rattle.unicode_string.specs.declared.StringFragment.{StringFragment}
use Rattle.unicode_string.specs.Names.{bytes_of, Scalar}
use Rattle.unicode_string.specs.View.{Filling}
use Rattle.unicode_string.proofs.Runs.{text-kept, pos-is, used-is}
use Rattle.unicode_string.proofs.Frags.{frag-moves, more_within}
use Rattle.unicode_string.proofs.source.Source.piece.Goals as goal

pub put_all-requires : goal.put_all-requires
put_all-requires c =
    let s = c.args.self.now in
    let r = c.in-Some-Literal.ensures in
    let v = ap (λ (f : StringFragment). bytes_of (Some f)) (sym c.in-Some-Literal.field-0-is) ∙ r.value in
    let m = frag-moves s.text.now s.pos (more_within s.text.now s.pos c.requires) in
    omega (arith, used-is r.ran, ap length v, m.within, m.size, c.args.self.now.room)

pub put_char-requires : goal.put_char-requires
put_char-requires c =
    let s = c.args.self.now in
    let r = c.in-Some-EscapedChar.ensures in
    let v = ap (λ (f : StringFragment). bytes_of (Some f)) (sym c.in-Some-EscapedChar.field-0-is) ∙ r.value in
    let m = frag-moves s.text.now s.pos (more_within s.text.now s.pos c.requires) in
    record { good = subst (λ (f : StringFragment). Scalar (Some f)) c.in-Some-EscapedChar.field-0-is r.good; room = omega (arith, used-is r.ran, ap length v, m.within, m.size, c.args.self.now.room) }

pub invariant_of-self : goal.invariant_of-self
invariant_of-self c =
    let s = c.args.self.now in
    let r = c.in-Some-Literal.ensures in
    let v = ap (λ (f : StringFragment). bytes_of (Some f)) (sym c.in-Some-Literal.field-0-is) ∙ r.value in
    let m = frag-moves s.text.now s.pos (more_within s.text.now s.pos c.requires) in
    let e = c.parse_fragment.new.self in
    let n : length e.text.now ≡ length s.text.now = ap length (text-kept r.ran) in
    record { within = e.within; room = omega (arith, used-is r.ran, pos-is r.ran, n, ap length v, m.within, m.size, s.room, ap (λ (f : Filling). f.used) c.put_all.ensures); few = e.few }

pub invariant_of-self-in-Some-EscapedChar : goal.invariant_of-self-in-Some-EscapedChar
invariant_of-self-in-Some-EscapedChar c =
    let s = c.args.self.now in
    let r = c.in-Some-EscapedChar.ensures in
    let v = ap (λ (f : StringFragment). bytes_of (Some f)) (sym c.in-Some-EscapedChar.field-0-is) ∙ r.value in
    let m = frag-moves s.text.now s.pos (more_within s.text.now s.pos c.requires) in
    let e = c.parse_fragment.new.self in
    let n : length e.text.now ≡ length s.text.now = ap length (text-kept r.ran) in
    record { within = e.within; room = omega (arith, used-is r.ran, pos-is r.ran, n, ap length v, m.within, m.size, s.room, ap (λ (f : Filling). f.used) c.put_char.ensures); few = e.few }
