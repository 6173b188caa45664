-- Which names a glob picks.
use Rattle.std.specs.Prelude.{◌≡◌, ℕ, List, [], ◌∷◌, map, Some, None, vec_items, Decides, count_by, Option}
use Rattle.glob.specs.Glob.{WellFormed, Matches}
use Rattle.picking.specs.declared.Verdict.{Verdict}
use Rattle.picking.specs.declared.Picking.{Picking}

-- each name is picked exactly if the glob matches it
abbrev pub Right : List ℕ → List Verdict → Type 0
Right glob [] = Unit {0}
Right glob (v ∷ vs) = Decides v.picked (Matches glob v.name.now) × Right glob vs

-- every name has its verdict, in order, and the count is the number of those that were picked
pub record Picked (glob : List ℕ) (names : List (List ℕ)) (p : Picking) : Type 0 where
  pub fine : WellFormed glob
  pub all : map (λ v. v.name.now) (vec_items p.verdicts) ≡ names
  pub right : Right glob (vec_items p.verdicts)
  pub count : p.count ≡ count_by (λ v. v.picked) (vec_items p.verdicts)

-- nothing is picked exactly if the glob is ill-formed
abbrev pub PicksFrom : List ℕ → List (List ℕ) → Option Picking → Type 0
PicksFrom glob names None = WellFormed glob → ⊥
PicksFrom glob names (Some p) = Picked glob names p
