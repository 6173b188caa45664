-- Readings without a report and without a stop, one after another.
use Rattle.std.proofs.Common.{◌≡◌, ℕ, ◌+◌, List, [], ◌∷◌, ◌++◌, Ok, Err, Result, sym, refl, ap, ◌∙◌, add_assoc, arith}
use Rattle.errors.specs.declared.reports.Report.{Report}
use Rattle.errors.specs.declared.faults.ReadingFault.{ReadingFault}
use Rattle.parsing.specs.Reading.{At, Out, after, follow, ◌⨾◌}

-- from a, the reading o comes to j with n parts more, and has read x
pub record Reads {X : Type 0} (a : At) (o : Out X) (j n : ℕ) (x : X) : Type 0 where
  pub value : o.value ≡ Ok x
  pub quiet : o.reports ≡ []
  pub pos : o.pos ≡ j
  pub parts : o.parts ≡ a.parts + n

pub both-empty : (a b : List Report) → a ++ b ≡ [] → (a ≡ []) × (b ≡ [])
both-empty [] b e = (refl, e)
both-empty (x ∷ a) b e = absurd (let z : ◌≡◌ {A = ℕ} 0 1 = cc in omega arith)

-- both parts, one after the other
pub reads_then : {X Y : Type 0} (f : At → Out X) (k : X → At → Out Y) (a : At) (i j n m : ℕ) (x : X) (y : Y) →
    Reads a (f a) i n x → Reads (after a (f a)) (k x (after a (f a))) j m y → Reads a ((f ⨾ k) a) j (n + m) y
unfolding ◌⨾◌
reads_then {X} {Y} f k a i j n m x y p q =
    let whole : follow a (f a) k (f a).value ≡ follow a (f a) k (Ok x) = ap (follow a (f a) k) p.value in
    record {
      value = ap (λ (o : Out Y). o.value) whole ∙ q.value;
      quiet = ap (λ (o : Out Y). o.reports) whole ∙ ap (λ r. r ++ (k x (after a (f a))).reports) p.quiet ∙ q.quiet;
      pos = ap (λ (o : Out Y). o.pos) whole ∙ q.pos;
      parts = ap (λ (o : Out Y). o.parts) whole ∙ q.parts ∙ ap (λ c. c + m) p.parts ∙ add_assoc a.parts n m;
    }

-- no report and no stop
pub record Clean {X : Type 0} (o : Out X) (x : X) : Type 0 where
  pub value : o.value ≡ Ok x
  pub quiet : o.reports ≡ []

-- what comes of two readings in a row, if both are clean
pub record Split {X Y : Type 0} (f : At → Out X) (k : X → At → Out Y) (a : At) (y : Y) : Type 0 where
  pub x : X
  pub first : Clean (f a) x
  pub second : Clean (k x (after a (f a))) y
  pub pos : ((f ⨾ k) a).pos ≡ (k x (after a (f a))).pos
  pub parts : ((f ⨾ k) a).parts ≡ (k x (after a (f a))).parts

pub clean-then : {X Y : Type 0} (f : At → Out X) (k : X → At → Out Y) (a : At) (y : Y) → Clean ((f ⨾ k) a) y → Split f k a y
unfolding ◌⨾◌
clean-then {X} {Y} f k a y c = go (f a).value refl
  where
    go : (v : Result X ReadingFault) → (f a).value ≡ v → Split f k a y
    go (Ok x) e =
        let whole : follow a (f a) k (f a).value ≡ follow a (f a) k (Ok x) = ap (follow a (f a) k) e in
        let b = both-empty (f a).reports (k x (after a (f a))).reports (sym (ap (λ (o : Out Y). o.reports) whole) ∙ c.quiet) in
        record {
          x = x;
          first = record { value = e; quiet = b.0 };
          second = record { value = sym (ap (λ (o : Out Y). o.value) whole) ∙ c.value; quiet = b.1 };
          pos = ap (λ (o : Out Y). o.pos) whole;
          parts = ap (λ (o : Out Y). o.parts) whole;
        }
    go (Err q) e =
        let whole : follow a (f a) k (f a).value ≡ follow a (f a) k (Err q) = ap (follow a (f a) k) e in
        let o : ◌≡◌ {A = Result Y ReadingFault} (Err q) (Ok y) = sym (ap (λ (o : Out Y). o.value) whole) ∙ c.value in
        absurd (let z : ◌≡◌ {A = ℕ} 0 1 = cc in omega arith)
