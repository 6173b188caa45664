use Rattle.std.proofs.Common.{◌≡◌, ℕ, length, get_or, sym, ap, ◌∙◌, subst, add-zero, arith}
use Rattle.unicode_string.specs.Names.{Named, whole, frags_at}
use Rattle.unicode_string.specs.View.{view, Ran}
use Rattle.unicode_string.proofs.Runs.{move_to, count-is, used-is}
use Rattle.unicode_string.proofs.Escapes.{at-is, not_at}
use Rattle.unicode_string.proofs.Naming.{name-escape, name-plain, whole-none, whole-some, found_none, found_some}
use Rattle.unicode_string.proofs.source.Source.parse_name.Goals as goal

pub returns-then-self-before : goal.returns-then-self-before
returns-then-self-before c =
    let s = view c.args.self.now in
    let t = s.text in
    let o = frags_at t (length t) s.pos in
    let e = name-escape t s.pos s.used (ap (λ (q : ℕ). get_or t q 0) (sym c.literal_end-end.ensures.value) ∙ at-is t c.literal_end-end.result 92 (sym c.if-is_at.ensures)) in
    record {
      ran = subst (λ (n : Named). Ran s n.out (view c.decode.new.self)) e c.decode.ensures;
      found = found_none s.used o (λ z. omega (arith, z, count-is c.decode.ensures, c.if-self-before.true)) ∙ ap (λ (n : Named). n.name) e;
    }

pub returns-then-is_at : goal.returns-then-is_at
returns-then-is_at c =
    let s = view c.args.self.now in
    let t = s.text in
    let o = frags_at t (length t) s.pos in
    let e = name-escape t s.pos s.used (ap (λ (q : ℕ). get_or t q 0) (sym c.literal_end-end.ensures.value) ∙ at-is t c.literal_end-end.result 92 (sym c.if-is_at.ensures)) in
    record {
      ran = subst (λ (n : Named). Ran s n.out (view c.decode.new.self)) e c.decode.ensures;
      found = found_some s.used o (omega (arith, count-is c.decode.ensures, c.if-self-before.false)) (omega (arith, used-is c.decode.ensures)) ∙ ap (λ (n : Named). n.name) e;
    }

pub returns-then-end-start : goal.returns-then-end-start
returns-then-end-start c =
    let s = view c.args.self.now in
    let q = c.literal_end-end.result in
    let v = c.literal_end-end.ensures.value in
    let plain = not_at s.text q 92 (sym c.if-is_at.ensures) (omega arith) in
    let is = whole-none s.pos q c.if-end-start.true ∙ ap (whole s.pos) v ∙ name-plain s.text s.pos s.used (subst (λ (n : ℕ). get_or s.text n 0 ≡ 92 → ⊥) v plain) in
    record {
      ran = subst (λ (n : Named). Ran s n.out (view c.report.new.self)) is (record { state = c.report.ensures.state });
      found = ap (λ (n : Named). n.name) is;
    }

pub returns : goal.returns
returns c =
    let s = view c.args.self.now in
    let q = c.literal_end-end.result in
    let v = c.literal_end-end.ensures.value in
    let plain = not_at s.text q 92 (sym c.if-is_at.ensures) (omega arith) in
    let is = whole-some s.pos q c.if-end-start.false ∙ ap (whole s.pos) v ∙ name-plain s.text s.pos s.used (subst (λ (n : ℕ). get_or s.text n 0 ≡ 92 → ⊥) v plain) in
    record { ran = subst (λ (n : Named). Ran s n.out (move_to s q)) is (record { state = simp add-zero }); found = ap (λ (n : Named). n.name) is }
