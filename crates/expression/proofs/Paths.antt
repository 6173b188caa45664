-- Closing through one package after another gives all that is reached.
use Rattle.std.proofs.Common.{◌≡◌, ℕ, ◌+◌, ◌<◌, true, false, ◌&&◌, ◌||◌, eqb, ltb, ◌⊎◌, List, [], ◌∷◌, sym, refl, ◌∙◌, subst, inl, inr, arith}
use Rattle.std.proofs.lemmas.Bool.{and_parts, or_cases, both_ways, eqb-true, ltb-true}
use Rattle.expression.specs.declared.oracle.Edge.{Edge}
use Rattle.expression.specs.Dependencies.{Kept, Known, Reaches}
use Rattle.expression.specs.Dependencies.Kept.{first, later}
use Rattle.expression.specs.Dependencies.Known.{source, target}
use Rattle.expression.specs.Dependencies.Reaches.{itself, along}
use Rattle.expression.specs.NumberSets.{size}
use Rattle.expression.specs.declared.number_set.NumberSet.{NumberSet}
use Rattle.expression.specs.Oracles.{link, Closure}
use Rattle.expression.specs.Closing.{edge_links, directly, Joined, Direct}

-- closed under chains over the packages below k
pub record Through (es : List Edge) (k : ℕ) (rows : List NumberSet) : Type 0 where
  pub sound : (a b : ℕ) → link rows a b ≡ true → Reaches es a b
  pub direct : (a b : ℕ) → directly es a b ≡ true → link rows a b ≡ true
  pub closed : (m a b : ℕ) → m < k → link rows a m ≡ true → link rows m b ≡ true → link rows a b ≡ true

trans : {es : List Edge} {a b c : ℕ} → Reaches es a b → Reaches es b c → Reaches es a c
trans (itself k) s = s
trans (along k r) s = along k (trans r s)

known-later : {e : Edge} {es : List Edge} {a : ℕ} → Known es a → Known (e ∷ es) a
known-later (source k) = source (later k)
known-later (target k) = target (later k)

reaches-later : {e : Edge} {es : List Edge} {a b : ℕ} → Reaches es a b → Reaches (e ∷ es) a b
reaches-later (itself k) = itself (known-later k)
reaches-later (along k r) = along (later k) (reaches-later r)

moved : (es : List Edge) (x y a b : ℕ) → (eqb x a && eqb y b) ≡ true → Reaches es x y → Reaches es a b
moved es x y a b e r =
    let w = and_parts (eqb x a) (eqb y b) e in
    subst (λ (j : ℕ). Reaches es a j) (eqb-true y b w.1) (subst (λ (i : ℕ). Reaches es i y) (eqb-true x a w.0) r)

edge-sound : (e : Edge) (es : List Edge) (a b : ℕ) → edge_links e a b ≡ true → Reaches (e ∷ es) a b
edge-sound e es a b q =
    let ft = ltb e.from size && ltb e.to size in
    let x = eqb e.from a && eqb e.from b in let y = eqb e.from a && eqb e.to b in let z = eqb e.to a && eqb e.to b in
    let w = and_parts ft (x || y || z) q in
    let b = and_parts (ltb e.from size) (ltb e.to size) w.0 in
    let k : Kept (e ∷ es) e.from e.to = first (ltb-true e.from size b.0) (ltb-true e.to size b.1) in
    elim (or_cases (x || y) z w.1) [
      | inl h ↦ elim (or_cases x y h) [
        | inl i ↦ moved (e ∷ es) e.from e.from _ _ i (itself (source k))
        | inr i ↦ moved (e ∷ es) e.from e.to _ _ i (along k (itself (target k)))
      ]
      | inr h ↦ moved (e ∷ es) e.to e.to _ _ h (itself (target k))
    ]

pub directly-sound : (es : List Edge) (a b : ℕ) → directly es a b ≡ true → Reaches es a b
directly-sound [] a b q = absurd (both_ways false refl q)
directly-sound (e ∷ es) a b q = elim (or_cases (edge_links e a b) (directly es a b) q) [ inl h ↦ edge-sound e es a b h | inr h ↦ reaches-later (directly-sound es a b h) ]

record Marks (es : List Edge) (a b : ℕ) : Type 0 where
  pair : directly es a b ≡ true
  start : directly es a a ≡ true
  stop : directly es b b ≡ true
  below : b < size

kept-marks : {es : List Edge} {a b : ℕ} → Kept es a b → Marks es a b
kept-marks (first {e} {es} h k) = record { pair = grind arith; start = grind arith; stop = grind arith; below = k }
kept-marks (later {e} {es} {a} {b} k) =
    let m = kept-marks k in
    record { pair = grind arith; start = grind arith; stop = grind arith; below = m.below }

known-marks : {es : List Edge} {a : ℕ} → Known es a → directly es a a ≡ true
known-marks (source k) = (kept-marks k).start
known-marks (target k) = (kept-marks k).stop

module _ (es : List Edge) where
  pub through-none : (rows : List NumberSet) → Direct es rows → Through es 0 rows
  through-none rows d = record {
    sound = λ a b q. directly-sound es a b (sym (d a b) ∙ q);
    direct = λ a b q. d a b ∙ q;
    closed = λ m a b h. absurd (omega arith);
  }

  pub through-all : (rows : List NumberSet) → Through es size rows → Closure es (record { rows = rows })
  through-all rows t a b = (t.sound a b, whole)
    where
      whole : {a b : ℕ} → Reaches es a b → link rows a b ≡ true
      whole (itself {a} k) = t.direct a a (known-marks k)
      whole (along {a} {b} {c} k r) = t.closed b a c (kept-marks k).below (t.direct a b (kept-marks k).pair) (whole r)

  module _ (k : ℕ) (was now : List NumberSet) (t : Through es k was) (l : (i j : ℕ) → link now i j ≡ (link was i j || (link was i k && link was k j))) where
    parts : (i j : ℕ) → link now i j ≡ true → (link was i j ≡ true) ⊎ ((link was i k ≡ true) × (link was k j ≡ true))
    parts i j q = grind (arith, l i j)

    old : (i j : ℕ) → link was i j ≡ true → link now i j ≡ true
    old i j q = grind (arith, l i j)

    closes : (m i j : ℕ) → m < k + 1 → link now i m ≡ true → link now m j ≡ true → link now i j ≡ true
    closes m i j h p q = grind (arith, l i m, l m j, l i j, l i k, l k j, t.closed m i j, t.closed m i k, t.closed m k j)

    pub through-next : Through es (k + 1) now
    through-next = record {
      sound = λ a b q. elim (parts a b q) [ inl h ↦ t.sound a b h | inr h ↦ trans (t.sound a k h.0) (t.sound k b h.1) ];
      direct = λ a b q. old a b (t.direct a b q);
      closed = closes;
    }

  pub through-more : (k : ℕ) (was now : List NumberSet) → Joined was k now → Through es k was → Through es (k + 1) now
  through-more k was now g t = through-next k was now t g

pub reaches_known : {es : List Edge} {a b : ℕ} → Reaches es a b → Known es a × Known es b
reaches_known (itself k) = (k, k)
reaches_known (along k r) = (source k, (reaches_known r).1)
