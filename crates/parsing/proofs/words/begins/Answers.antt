use Rattle.std.proofs.Common.{◌≡◌, ℕ, ◌+◌, ◌<◌, ◌≤◌, Bool, false, ◌&&◌, eqb, ltb, List, length, get_or, drop, sym, refl, ap, ◌∙◌, arith}
use Rattle.std.proofs.lemmas.List.{at_drop_more, at_drop_all}
use Rattle.std.proofs.lemmas.Bool.{lt-ltb, le-ltb, eq-eqb, ne_eqb}
use Rattle.parsing.specs.Text.{begins_at}
use Rattle.parsing.proofs.Fits.{begins-fits}
use Rattle.parsing.proofs.words.begins.Goals as goal

step : (t w : List ℕ) (p i : ℕ) → i < length w → begins_at t p (drop i w) ≡ (ltb p (length t) && eqb (get_or t p 0) (get_or w i 0) && begins_at t (p + 1) (drop (i + 1) w))
unfolding begins_at
step t w p i h = at_drop_more (begins_at t p) w i 0 h

off : (t w : List ℕ) (p i : ℕ) → i < length w → length t ≤ p → begins_at t p (drop i w) ≡ false
off t w p i h e = step t w p i h ∙ ap (λ (b : Bool). b && eqb (get_or t p 0) (get_or w i 0) && begins_at t (p + 1) (drop (i + 1) w)) (le-ltb p (length t) e)

differs : (t w : List ℕ) (p i : ℕ) → i < length w → p < length t → (get_or t p 0 ≡ get_or w i 0 → ⊥) → begins_at t p (drop i w) ≡ false
differs t w p i h e n = step t w p i h ∙ rw (lt-ltb p (length t) e, ne_eqb (get_or t p 0) (get_or w i 0) n) refl

more : (t w : List ℕ) (p i : ℕ) → i < length w → p < length t → get_or t p 0 ≡ get_or w i 0 → begins_at t p (drop i w) ≡ begins_at t (p + 1) (drop (i + 1) w)
more t w p i h e n = step t w p i h ∙ rw (lt-ltb p (length t) e, eq-eqb (get_or t p 0) (get_or w i 0) n) refl

pub returns-then-at-i : goal.returns-then-at-i
returns-then-at-i c =
    record { value = sym (off _ _ _ _ c.loop-i-test.true c.if-at-i.true) ∙ c.loop-i.invariant.1; fits = λ e. absurd (let z : ◌≡◌ {A = ℕ} 0 1 = cc in omega arith) }

pub returns-then-text-at : goal.returns-then-text-at
returns-then-text-at c =
    record { value = sym (differs _ _ _ _ c.loop-i-test.true c.if-at-i.false c.if-text-at.true) ∙ c.loop-i.invariant.1; fits = λ e. absurd (let z : ◌≡◌ {A = ℕ} 0 1 = cc in omega arith) }

pub loop-i-preserved : goal.loop-i-preserved
loop-i-preserved c =
    let e : c.args.at + (c.loop-i.i + 1) ≡ c.args.at + c.loop-i.i + 1 = omega arith in
    (omega arith, ap (λ (p : ℕ). begins_at c.args.text.now p (drop (c.loop-i.i + 1) c.args.word.now)) e ∙ sym (more _ _ _ _ c.loop-i-test.true c.if-at-i.false c.if-text-at.false) ∙ c.loop-i.invariant.1)

pub returns : goal.returns
unfolding begins_at
returns c =
    let v = sym (at_drop_all (begins_at c.args.text.now (c.args.at + c.loop-i.i)) c.args.word.now c.loop-i.i c.loop-i-test.false) ∙ c.loop-i.invariant.1 in
    record { value = v; fits = λ e. begins-fits c.args.text.now c.args.word.now c.args.at c.requires (sym v) }
