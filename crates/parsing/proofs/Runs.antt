-- How readings follow one another.
use Rattle.std.proofs.Common.{◌≡◌, ℕ, List, ◌++◌, Ok, Err, Result, sym, refl, ap, ◌∙◌, subst, add-zero, add_assoc, arith, length-append}
use Rattle.errors.specs.declared.reports.Report.{Report}
use Rattle.errors.specs.declared.faults.ReadingFault.{ReadingFault}
use Rattle.unicode_string.proofs.Runs.{sets-append, first-append}
use Rattle.parsing.specs.Reading.{At, Out, after, follow, ◌⨾◌, done, moved, note, told, halt}
use Rattle.parsing.specs.View.{St, grow, map_ok, Ran}

-- the two outputs in a row
abbrev both : {X Y : Type 0} → Out X → Out Y → Out Y
both a b = record { pos = b.pos; parts = b.parts; reports = a.reports ++ b.reports; bytes = a.bytes ++ b.bytes; value = b.value }

grow-both : {X Y : Type 0} (s : St) (a : Out X) (b : Out Y) → grow s (both a b) ≡ grow (grow s a) b
grow-both s a b = simp (sets-append, length-append, add_assoc, first-append)

-- a reading that goes on
pub goes : {X Y : Type 0} (f : At → Out X) (k : X → At → Out Y) (a : At) (x : X) → (f a).value ≡ Ok x → (f ⨾ k) a ≡ both (f a) (k x (after a (f a)))
unfolding ◌⨾◌
goes f k a x e = ap (follow a (f a) k) e

pub stops : {X Y : Type 0} (f : At → Out X) (k : X → At → Out Y) (a : At) (e : ReadingFault) → (f a).value ≡ Err e →
    (f ⨾ k) a ≡ record { pos = (f a).pos; parts = (f a).parts; reports = (f a).reports; bytes = (f a).bytes; value = Err e }
unfolding ◌⨾◌
stops f k a e h = ap (follow a (f a) k) h

-- what the code answers for a value
pub ok_from : {X Y : Type 0} (f : X → Y) {y : Y} (v : Result X ReadingFault) → Ok y ≡ map_ok f v → (x : X) × (v ≡ Ok x) × (y ≡ f x)
ok_from f (Ok x) e = (x, refl, cc)
ok_from f (Err e) h = absurd (let z : ◌≡◌ {A = ℕ} 0 1 = cc in omega arith)

pub err-from : {X Y : Type 0} (f : X → Y) {e : ReadingFault} (v : Result X ReadingFault) → Err e ≡ map_ok f v → v ≡ Err e
err-from f (Ok x) h = absurd (let z : ◌≡◌ {A = ℕ} 0 1 = cc in omega arith)
err-from f (Err d) h = cc

module _ {X Y : Type 0} {g : X → Y} (f : At → Out X) where
  -- one reading, and then another
  pub ran_then : {Z W : Type 0} {h : Z → W} {s m e : St} {y : Y} {r : Result W ReadingFault} (k : X → At → Out Z) (x : X) →
      Ran g s (f s.at) m (Ok y) → (f s.at).value ≡ Ok x → Ran h m (k x m.at) e r → Ran h s ((f ⨾ k) s.at) e r
  ran_then {Z} {W} {h} {s} {m} {e} {y} {r} k x a v b =
      subst (λ (o : Out Z). Ran h s o e r) (sym (goes f k s.at x v))
      (record {
        state = b.state ∙ ap (λ (z : St). grow z (k x z.at)) a.state ∙ sym (grow-both s (f s.at) (k x (after s.at (f s.at))));
        result = b.result ∙ ap (λ (z : St). map_ok h (k x z.at).value) a.state;
      })

  -- a reading that stops is the end
  pub ran-stop : {Z W : Type 0} {h : Z → W} {s e : St} {x : ReadingFault} (k : X → At → Out Z) → Ran g s (f s.at) e (Err x) → Ran h s ((f ⨾ k) s.at) e (Err x)
  ran-stop {Z} {W} {h} {s} {e} {x} k a =
      subst (λ (o : Out Z). Ran h s o e (Err x)) (sym (stops f k s.at x (err-from g (f s.at).value a.result))) (record { state = a.state; result = refl })

-- the answer is that of what follows
pub then-value : {X Y Z : Type 0} {g : X → Y} {s m : St} {r : Result Y ReadingFault} (f : At → Out X) (k : X → At → Out Z) (x : X) → Ran g s (f s.at) m r → (f s.at).value ≡ Ok x → ((f ⨾ k) s.at).value ≡ (k x m.at).value
then-value {X} {Y} {Z} {g} {s} {m} f k x a v = ap (λ (o : Out Z). o.value) (goes f k s.at x v) ∙ ap (λ (z : St). (k x z.at).value) (sym a.state)

pub ran-done : {X : Type 0} (s : St) (x : X) → Ran (λ y. y) s (done x s.at) s (Ok x)
ran-done s x = record { state = simp add-zero; result = refl }

pub text-kept : {X Y : Type 0} {g : X → Y} {s e : St} {o : Out X} {r : Result Y ReadingFault} → Ran g s o e r → e.text ≡ s.text
text-kept h = ap (λ (x : St). x.text) h.state

pub at-is : {X Y : Type 0} {g : X → Y} {s e : St} {o : Out X} {r : Result Y ReadingFault} → Ran g s o e r → e.at ≡ after s.at o
at-is h = ap (λ (x : St). x.at) h.state

-- the reading o leads from s to e, with the value v
pub record Got {X : Type 0} (s : St) (o : Out X) (e : St) (v : Result X ReadingFault) : Type 0 where
  pub state : e ≡ grow s o
  pub value : o.value ≡ v

pub got-then : {X Z : Type 0} {s m e : St} {x : X} {v : Result Z ReadingFault} (f : At → Out X) (k : X → At → Out Z) → Got s (f s.at) m (Ok x) → Got m (k x m.at) e v → Got s ((f ⨾ k) s.at) e v
got-then {X} {Z} {s} {m} {e} {x} {v} f k a b =
    subst (λ (o : Out Z). Got s o e v) (sym (goes f k s.at x a.value))
    (record {
      state = b.state ∙ ap (λ (z : St). grow z (k x z.at)) a.state ∙ sym (grow-both s (f s.at) (k x (after s.at (f s.at))));
      value = ap (λ (z : St). (k x z.at).value) (sym a.state) ∙ b.value;
    })

pub got-stop : {X Z : Type 0} {s e : St} {x : ReadingFault} (f : At → Out X) (k : X → At → Out Z) → Got s (f s.at) e (Err x) → Got s ((f ⨾ k) s.at) e (Err x)
got-stop {X} {Z} {s} {e} {x} f k a = subst (λ (o : Out Z). Got s o e (Err x)) (sym (stops f k s.at x a.value)) (record { state = a.state; value = refl })

pub got-done : {X : Type 0} (s : St) (x : X) → Got s (done x s.at) s (Ok x)
got-done s x = record { state = simp add-zero; value = refl }

abbrev pub move_to : St → ℕ → St
move_to s q = record { text = s.text; at = record { pos = q; parts = s.at.parts; count = s.at.count; used = s.at.used }; first = s.first; table = s.table; space = s.space; lent = s.lent; held = s.held; kept = s.kept }

pub got-moved : (s : St) (q : ℕ) → Got s (moved q s.at) (move_to s q) (Ok tt)
got-moved s q = record { state = simp add-zero; value = refl }

pub got-halt : {X : Type 0} (s : St) (x : ReadingFault) → Got {X = X} s (halt x s.at) s (Err x)
got-halt s x = record { state = simp add-zero; value = refl }

same-value : {X : Type 0} (v : Result X ReadingFault) → map_ok (λ x. x) v ≡ v
same-value (Ok x) = refl
same-value (Err e) = refl

-- what the code answers is what was read
pub got_same : {X : Type 0} {s e : St} {o : Out X} {r : Result X ReadingFault} → Ran (λ x. x) s o e r → Got s o e r
got_same {X} {s} {e} {o} {r} h = record { state = h.state; value = sym (same-value o.value) ∙ sym h.result }

pub ran-same : {X : Type 0} {s e : St} {o : Out X} {r : Result X ReadingFault} → Got s o e r → Ran (λ x. x) s o e r
ran-same {X} {s} {e} {o} {r} h = record { state = h.state; result = sym h.value ∙ sym (same-value o.value) }

pub got-ok : {X Y : Type 0} (g : X → Y) {s e : St} {o : Out X} {y : Y} → Ran g s o e (Ok y) → (x : X) × Got s o e (Ok x) × (y ≡ g x)
got-ok g {s} {e} {o} {y} h = let w = ok_from g o.value h.result in (w.0, record { state = h.state; value = w.1 }, w.2)

pub got-err : {X Y : Type 0} (g : X → Y) {s e : St} {o : Out X} {x : ReadingFault} → Ran g s o e (Err x) → Got s o e (Err x)
got-err g {s} {e} {o} h = record { state = h.state; value = err-from g o.value h.result }

pub ran-by : {X Y : Type 0} (g : X → Y) {s e : St} {o : Out X} {v : Result X ReadingFault} {r : Result Y ReadingFault} → Got s o e v → r ≡ map_ok g v → Ran g s o e r
ran-by g h e = record { state = h.state; result = e ∙ ap (map_ok g) (sym h.value) }

-- a move and a report are a report further on
pub got-told : {s m e : St} {q : ℕ} (r : Report) → Got s (moved q s.at) m (Ok tt) → Got m (note {X = Unit {0}} tt r m.at) e (Ok tt) → Got s (told {X = Unit {0}} tt r q s.at) e (Ok tt)
got-told {s} {m} {e} {q} r a b = record { state = b.state ∙ ap (λ (z : St). grow z (note {X = Unit {0}} tt r z.at)) a.state ∙ simp add-zero; value = refl }

-- by an equal reading
pub got-by : {X : Type 0} {s e : St} {o p : Out X} {v : Result X ReadingFault} → o ≡ p → Got s o e v → Got s p e v
got-by {X} {s} {e} {o} {p} {v} q h = subst (λ (x : Out X). Got s x e v) q h

-- over an equal text
pub re : {X Y : Type 0} {g : X → Y} {s e : St} {a : At} {r : Result Y ReadingFault} {t u : List ℕ} (rd : List ℕ → At → Out X) → t ≡ u → Ran g s (rd t a) e r → Ran g s (rd u a) e r
re {X} {Y} {g} {s} {e} {a} {r} rd q h = subst (λ (x : List ℕ). Ran g s (rd x a) e r) q h

pub re-at : {X Y : Type 0} {g : X → Y} {e : St} {r : Result Y ReadingFault} {t u : List ℕ} (s : St) (rd : List ℕ → At → Out X) → t ≡ u → Ran g s (rd t s.at) e r → Ran g s (rd u s.at) e r
re-at {X} {Y} {g} {e} {r} s rd q h = subst (λ (x : List ℕ). Ran g s (rd x s.at) e r) q h
