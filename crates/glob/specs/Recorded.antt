-- What recorded answers mean.
use Rattle.std.specs.Prelude.{ℕ, Bool, false, cond, ◌&&◌, List, [], ◌∷◌}
use Rattle.glob.specs.Parts.{stands}
use Rattle.glob.specs.declared.matcher.Answer.{Answer}

abbrev pub fits : List ℕ → Answer → List ℕ → List ℕ → Bool
fits text row p n = stands text row.pattern p && stands text row.name n

-- the first row that fits decides, and a pair that no row fits is no
abbrev pub recorded : List ℕ → List Answer → List ℕ → List ℕ → Bool
recorded text [] p n = false
recorded text (row ∷ rows) p n = cond (fits text row p n) row.answer (recorded text rows p n)
