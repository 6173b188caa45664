-- A basic, case by case.
use Rattle.std.proofs.Common.{◌≡◌, ℕ, zero, suc, ◌+◌, ◌-◌, Bool, true, false, cond, List, [], length, Some, None, Option, Result, Ok, Err, sym, refl, ap, ◌∙◌, subst, arith, add-one}
use Rattle.errors.specs.declared.reports.ReportKind.{ReportKind}
use Rattle.errors.specs.declared.reports.ReportKind.TheVariants.{ExpectedExpr}
use Rattle.errors.specs.declared.faults.ReadingFault.{ReadingFault}
use Rattle.errors.specs.declared.faults.ReadingFault.TheVariants.{Deep, Crowded}
use Rattle.std.specs.Prelude.{nat_lt}
use Rattle.parsing.specs.declared.words.Lead.{Lead}
use Rattle.parsing.specs.declared.words.Lead.TheVariants as lead
use Rattle.parsing.specs.declared.words.SetName.{SetName}
use Rattle.parsing.specs.declared.words.Opening.{Opening}
use Rattle.parsing.specs.Tree.{Tree}
use Rattle.parsing.specs.Text.{skip}
use Rattle.parsing.specs.Words.{opening_at}
use Rattle.parsing.specs.Reading.{At, Out, Called, ◌⨾◌, moved, note, told, report_of, part, halt, done, opened, left, deeper, set_at, follow, within, under_at, operand_for, operand_by, operand_at, basic_at}
use Rattle.parsing.specs.View.{St}
use Rattle.parsing.proofs.Runs.{Got, got-then, got-moved, got-by, move_to}

pub under_more : (t : List ℕ) (n m : ℕ) → n ≡ m + 1 → under_at t n ≡ within t (basic_at t m)
under_more t n m e = ap (under_at t) (e ∙ add-one m)

pub left-more : (p n m : ℕ) (a : At) → n ≡ m + 1 → left p n a ≡ done m a
left-more p n m a e = ap (λ (k : ℕ). left p k a) (e ∙ add-one m)

pub left-none : (p n : ℕ) (a : At) → n ≡ 0 → left p n a ≡ halt (Deep p a.count) a
left-none p n a e = ap (λ (k : ℕ). left p k a) e

same-err : {X Y : Type 0} {d x : ReadingFault} → ◌≡◌ {A = Result X ReadingFault} (Err d) (Err x) → ◌≡◌ {A = Result Y ReadingFault} (Err d) (Err x)
same-err {X} {Y} {d} {x} e = let q : d ≡ x = cc in ap (λ (f : ReadingFault). Err f) q

no-err : {X : Type 0} {y : X} {x : ReadingFault} → ◌≡◌ {A = Result X ReadingFault} (Ok y) (Err x) → ⊥
no-err e = let z : ◌≡◌ {A = ℕ} 0 1 = cc in omega arith

no-ok : {X : Type 0} {y : X} {x : ReadingFault} → ◌≡◌ {A = Result X ReadingFault} (Err x) (Ok y) → ⊥
no-ok e = let z : ◌≡◌ {A = ℕ} 0 1 = cc in omega arith

-- the part, counted or one too many
abbrev counted : ℕ → At → Bool → Out (Unit {0})
counted p a b = cond b (record { pos = a.pos; parts = a.parts + 1; reports = []; bytes = []; value = Ok tt }) (halt (Crowded p a.count) a)

-- a nest was opened, or the reading stops, as with any reader that stops where no nest is left
module _ (p : ℕ) {s e : St} where
  ok-at : (b : Bool) (n m : ℕ) → Got s (follow s.at (counted p s.at b) (λ _. left p n) (counted p s.at b).value) e (Ok m) → (n ≡ m + 1) × Got s (counted p s.at b) e (Ok tt)
  ok-at true zero m g = absurd (no-ok g.value)
  ok-at true (suc n) m g = (let q : n ≡ m = cc in omega (arith, q), record { state = g.state; value = refl })
  ok-at false n m g = absurd (no-ok g.value)

  pub nest-ok : (n m : ℕ) → Got s (opened p n s.at) e (Ok m) → (n ≡ m + 1) × Got s (part p s.at) e (Ok tt)
  unfolding ◌⨾◌
  nest-ok n m g = ok-at (nat_lt s.at.parts 128) n m g

  err-at : {x : ReadingFault} (b : Bool) (n : ℕ) (k : At → Out (Tree Called)) → (n ≡ 0 → k ≡ deeper p) → Got s (follow s.at (counted p s.at b) (λ _. left p n) (counted p s.at b).value) e (Err x) →
      Got s (follow s.at (counted p s.at b) (λ _. k) (counted p s.at b).value) e (Err x)
  err-at {x} true zero k z g = subst (λ (k : At → Out (Tree Called)). Got s (follow s.at (counted p s.at true) (λ _. k) (Ok tt)) e (Err x)) (sym (z refl)) (record { state = g.state; value = same-err g.value })
  err-at true (suc n) k z g = absurd (no-err g.value)
  err-at false n k z g = record { state = g.state; value = same-err g.value }

  pub nest-err : {x : ReadingFault} (n : ℕ) (k : At → Out (Tree Called)) → (n ≡ 0 → k ≡ deeper p) → Got s (opened p n s.at) e (Err x) → Got s ((part p ⨾ (λ _. k)) s.at) e (Err x)
  unfolding ◌⨾◌
  nest-err n k z g = err-at (nat_lt s.at.parts 128) n k z g

basic-is : (t : List ℕ) (n : ℕ) (a : At) → operand_at t (under_at t n) a ≡ basic_at t n a
unfolding basic_at
basic-is t zero a = refl
basic-is t (suc n) a = refl

module _ (t : List ℕ) (free : ℕ) (s : St) (p : ℕ) (at : p ≡ skip t s.at.pos) where
  pub basic-none : None ≡ opening_at t p → note Tree.bad (report_of ExpectedExpr s.at.pos (length t - s.at.pos)) s.at ≡ basic_at t free s.at
  basic-none h = ap (λ (o : Option Opening). operand_by t (under_at t free) o s.at) (h ∙ ap (opening_at t) at) ∙ basic-is t free s.at

  -- by what it begins with
  abbrev of : ℕ → ℕ → Lead → At → Out (Tree Called)
  of q n l = operand_for t (under_at t free) q (record { lead = l; length = n })

  pub basic-by : (o : Opening) (l : Lead) → Some o ≡ opening_at t p → o.lead ≡ l → of p o.length l s.at ≡ basic_at t free s.at
  basic-by o l h e =
      ap (λ (x : Lead). of p o.length x s.at) (sym e) ∙ ap (λ (q : ℕ). of q o.length o.lead s.at) at
      ∙ ap (λ (x : Option Opening). operand_by t (under_at t free) x s.at) (h ∙ ap (opening_at t) at) ∙ basic-is t free s.at

  module _ (o : Opening) (h : Some o ≡ opening_at t p) where
    pub basic-set : {e : St} {v : Result (Tree Called) ReadingFault} (n : SetName) → o.lead ≡ lead.Set n → Got (move_to s (p + o.length)) ((part p ⨾ (λ _. set_at t p n)) (move_to s (p + o.length)).at) e v → Got s (basic_at t free s.at) e v
    basic-set {e} {v} n is g = got-by (basic-by o (lead.Set n) h is) (got-then (moved (p + o.length)) (λ _. part p ⨾ (λ _. set_at t p n)) (got-moved s (p + o.length)) g)

    pub basic-not : {e : St} {v : Result (Tree Called) ReadingFault} → o.lead ≡ lead.Not → Got (move_to s (p + o.length)) ((part p ⨾ (λ _. (under_at t free p).not)) (move_to s (p + o.length)).at) e v → Got s (basic_at t free s.at) e v
    basic-not {e} {v} is g = got-by (basic-by o lead.Not h is) (got-then (moved (p + o.length)) (λ _. part p ⨾ (λ _. (under_at t free p).not)) (got-moved s (p + o.length)) g)

    pub basic-group : {e : St} {v : Result (Tree Called) ReadingFault} → o.lead ≡ lead.Group → Got (move_to s (p + o.length)) ((part p ⨾ (λ _. (under_at t free p).group)) (move_to s (p + o.length)).at) e v → Got s (basic_at t free s.at) e v
    basic-group {e} {v} is g = got-by (basic-by o lead.Group h is) (got-then (moved (p + o.length)) (λ _. part p ⨾ (λ _. (under_at t free p).group)) (got-moved s (p + o.length)) g)

    pub basic-misplaced : (k : ReportKind) → o.lead ≡ lead.Misplaced k → told Tree.bad (report_of k p o.length) (p + o.length) s.at ≡ basic_at t free s.at
    basic-misplaced k is = basic-by o (lead.Misplaced k) h is
