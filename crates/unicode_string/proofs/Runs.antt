-- How readings follow one another.
use Rattle.std.proofs.Common.{◌≡◌, ℕ, suc, ◌+◌, List, [], ◌∷◌, ◌++◌, length, set, Some, None, Option, sym, refl, ap, ◌∙◌, subst, append-nil, add-zero, add_assoc, arith, length-append}
use lib.Seq.{sets}
use Rattle.errors.specs.declared.reports.Report.{Report}
use Rattle.unicode_string.specs.Names.{Out, done, write, moved, follow, ◌⨾◌}
use Rattle.errors.specs.Reports.{first_start}
use Rattle.unicode_string.specs.View.{St, grow, Ran, Filling, filled}

pub sets-append : {X : Type 0} (l : List X) (i : ℕ) (a b : List X) → sets l i (a ++ b) ≡ sets (sets l i a) (i + length a) b
sets-append l i [] b = rw add-zero refl
sets-append l i (x ∷ a) b =
    let e : suc i + length a ≡ i + length (x ∷ a) = omega arith in
    sets-append (set l i x) (suc i) a b ∙ ap (λ (n : ℕ). sets (sets (set l i x) (suc i) a) n b) e

pub first-append : (f : Option ℕ) (a b : List Report) → first_start f (a ++ b) ≡ first_start (first_start f a) b
first-append f [] b = refl
first-append None (r ∷ a) [] = refl
first-append None (r ∷ a) (x ∷ b) = refl
first-append (Some p) (r ∷ a) [] = refl
first-append (Some p) (r ∷ a) (x ∷ b) = refl

pub grow-grow : (s : St) (a b : Out) → grow s (follow a b) ≡ grow (grow s a) b
grow-grow s a b = simp (sets-append, length-append, add_assoc, first-append)

pub ran-done : (s : St) → Ran s (done s.pos) s
ran-done s = record { state = simp add-zero }

pub ran_then : {s m e : St} {a : Out} (k : ℕ → Out) → Ran s a m → Ran m (k m.pos) e → Ran s (a ⨾ k) e
ran_then {s} {m} {e} {a} k h g = record { state = g.state ∙ ap (λ (x : St). grow x (k x.pos)) h.state ∙ sym (grow-grow s a (k a.at)) }

-- a move, and then its bytes
pub ran-bytes : {s m e : St} {b : List ℕ} (o : Out) → Ran s (moved o) m → b ≡ o.bytes → Ran m (write b m.pos) e → Ran s o e
ran-bytes {s} {m} {e} {b} o h is g =
    let w : Ran m (write o.bytes m.pos) e = subst (λ (x : List ℕ). Ran m (write x m.pos) e) is g in
    subst (λ (r : List Report). Ran s (record { at = o.at; reports = r; bytes = o.bytes }) e) (append-nil o.reports) (ran_then (write o.bytes) h w)

pub ran-no-bytes : {s m : St} (o : Out) → Ran s (moved o) m → [] ≡ o.bytes → Ran s o m
ran-no-bytes {s} {m} o h e = subst (λ (b : List ℕ). Ran s (record { at = o.at; reports = o.reports; bytes = b }) m) e h

-- bytes after bytes
pub ran-more : {s m e : St} {a b c : List ℕ} → Ran s (write a s.pos) m → Ran m (write b m.pos) e → c ≡ a ++ b → Ran s (write c s.pos) e
ran-more {s} {m} {e} {a} {b} {c} h g is = subst (λ (x : List ℕ). Ran s (write x s.pos) e) (sym is) (ran_then (write b) h g)

pub text-kept : {s e : St} {o : Out} → Ran s o e → e.text ≡ s.text
text-kept h = ap (λ (x : St). x.text) h.state

pub pos-is : {s e : St} {o : Out} → Ran s o e → e.pos ≡ o.at
pos-is h = ap (λ (x : St). x.pos) h.state

pub used-is : {s e : St} {o : Out} → Ran s o e → e.used ≡ s.used + length o.bytes
used-is h = ap (λ (x : St). x.used) h.state

pub first-is : {s e : St} {o : Out} → Ran s o e → e.first ≡ first_start s.first o.reports
first-is h = ap (λ (x : St). x.first) h.state

pub count-is : {s e : St} {o : Out} → Ran s o e → e.count ≡ s.count + length o.reports
count-is h = ap (λ (x : St). x.count) h.state

abbrev pub move_to : St → ℕ → St
move_to s q = record { text = s.text; pos = q; count = s.count; first = s.first; table = s.table; used = s.used; space = s.space; lent = s.lent; held = s.held }

-- only the place changes
pub ran-moved : (s : St) {q : ℕ} (o : Out) → q ≡ o.at → [] ≡ o.reports → Ran s (moved o) (move_to s q)
ran-moved s {q} o is quiet = subst (λ (r : List Report). Ran s (record { at = o.at; reports = r; bytes = [] }) (move_to s q)) quiet (record { state = ap (move_to s) is ∙ simp add-zero })

-- bytes behind bytes
pub filled-more : (f : Filling) (a b c : List ℕ) → c ≡ a ++ b → filled (filled f a) b ≡ filled f c
filled-more f a b c is = rw is (simp (sets-append, length-append, add_assoc))

-- bytes in the decoding space
pub ran-filled : (s : St) {f : Filling} (b : List ℕ) → f ≡ filled (record { space = s.space; used = s.used; held = s.held }) b →
    Ran s (write b s.pos) (record { text = s.text; pos = s.pos; count = s.count; first = s.first; table = s.table; used = f.used; space = f.space; lent = s.lent; held = f.held })
ran-filled s b e = record { state = rw e (simp add-zero) }
