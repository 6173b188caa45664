-- A logic by its operators, its tie to the truth values, and the logic of the truth values themselves.
use Rattle.std.specs.Prelude.{◌≡◌, Bool, true, false, not, ◌&&◌, ◌||◌}

-- the operators of a logic
pub record Ops (L : Type 0) : Type 0 where
  pub top : L
  pub bottom : L
  pub both : L → L → L
  pub either : L → L → L
  pub negated : L → L

-- top fits true alone, bottom false alone, and the operators carry what their operands fit
pub record Laws {L : Type 0} (o : Ops L) (fits : L → Bool → Type 0) : Type 0 where
  pub top_fits : fits o.top true
  pub top_alone : (p : Bool) → fits o.top p → p ≡ true
  pub bottom_fits : fits o.bottom false
  pub bottom_alone : (p : Bool) → fits o.bottom p → p ≡ false
  pub both_fits : (a b : L) (p q : Bool) → fits a p → fits b q → fits (o.both a b) (p && q)
  pub either_fits : (a b : L) (p q : Bool) → fits a p → fits b q → fits (o.either a b) (p || q)
  pub negated_fits : (a : L) (p : Bool) → fits a p → fits (o.negated a) (not p)

-- the logic of the truth values
abbrev pub truth : Ops Bool
truth = record { top = true; bottom = false; both = ◌&&◌; either = ◌||◌; negated = not }

-- a truth value fits itself alone
abbrev pub Same : Bool → Bool → Type 0
Same a p = a ≡ p
