use Rattle.std.proofs.Common.{ℕ, ◌+◌, ◌-◌, take, drop, sym, ap, ◌∙◌, subst, arith}
use Rattle.errors.specs.declared.reports.ReportKind.TheVariants.{InvalidEscapeCharacter}
use Rattle.unicode_string.specs.Names.{Out, note, moved, frag_at}
use Rattle.unicode_string.specs.View.{view, Ran}
use Rattle.unicode_string.proofs.Runs.{ran-moved}
use Rattle.unicode_string.proofs.Frags.{frag-plain, frag-escape, escape-sized}
use Rattle.unicode_string.proofs.source.Source.parse_fragment.Goals as goal

pub returns-then-plain : goal.returns-then-plain
returns-then-plain c =
    let t = c.args.self.now.text.now in
    let p = c.args.self.now.pos in
    let e = frag-plain t p (sym c.if-plain.ensures) in
    let q = c.literal_end-self.ensures.value in
    record {
      ran = ran-moved (view c.args.self.now) (frag_at t p) (q ∙ ap (λ (o : Out). o.at) e) (ap (λ (o : Out). o.reports) e);
      value = ap (λ (n : ℕ). take (n - p) (drop p t)) q ∙ ap (λ (o : Out). o.bytes) e;
      good = tt;
    }

pub invariant_of-self-in-Some : goal.invariant_of-self-in-Some
invariant_of-self-in-Some c =
    let v = escape-sized c.args.self.now.text.now (c.args.self.now.pos + 1) c.in-Some.e (sym c.parse_escaped_char.ensures ∙ c.in-Some.is) in
    record { within = v.within; room = omega (arith, c.args.self.now.room, v.on, v.within); few = omega (arith, c.args.self.now.few, v.on, v.within) }

pub returns-in-Some : goal.returns-in-Some
returns-in-Some c =
    let t = c.args.self.now.text.now in
    let p = c.args.self.now.pos in
    let is = sym c.in-Some.is ∙ c.parse_escaped_char.ensures in
    let e = frag-escape t p (sym c.if-plain.ensures) is in
    record {
      ran = ran-moved (view c.args.self.now) (frag_at t p) (ap (λ (o : Out). o.at) e) (ap (λ (o : Out). o.reports) e);
      value = ap (λ (o : Out). o.bytes) e;
      good = (escape-sized t (p + 1) c.in-Some.e (sym is)).good;
    }

pub returns-in-None : goal.returns-in-None
returns-in-None c =
    let t = c.args.self.now.text.now in
    let p = c.args.self.now.pos in
    let s = view c.args.self.now in
    let e = frag-escape t p (sym c.if-plain.ensures) (sym c.in-None.is ∙ c.parse_escaped_char.ensures) in
    record {
      ran = subst (λ (o : Out). Ran s (moved o) (view c.report.new.self)) e (subst (λ (n : ℕ). Ran s (note (record { kind = InvalidEscapeCharacter; start = p; length = n }) (p + 1)) (view c.report.new.self)) c.min-length.ensures (record { state = c.report.ensures.state }));
      value = ap (λ (o : Out). o.bytes) e;
      good = tt;
    }
