-- Which package depends on which, by a list of direct edges.
use Rattle.std.specs.Prelude.{ℕ, ◌<◌, List, ◌∷◌}
use Rattle.expression.specs.NumberSets.{size}
use Rattle.expression.specs.declared.oracle.Edge.{Edge}

-- an edge of the list both of whose packages lie below 64; the others are skipped
pub data Kept : List Edge → ℕ → ℕ → Type 0 where
  first : {e : Edge} {es : List Edge} → e.from < size → e.to < size → Kept (e ∷ es) e.from e.to
  later : {e : Edge} {es : List Edge} {a b : ℕ} → Kept es a b → Kept (e ∷ es) a b

-- a package is known if it stands in a kept edge
pub data Known (es : List Edge) : ℕ → Type 0 where
  source : {a b : ℕ} → Kept es a b → Known es a
  target : {a b : ℕ} → Kept es a b → Known es b

-- a known package reaches itself, and what the packages reach that a kept edge leads to
pub data Reaches (es : List Edge) : ℕ → ℕ → Type 0 where
  itself : {a : ℕ} → Known es a → Reaches es a a
  along : {a b c : ℕ} → Kept es a b → Reaches es b c → Reaches es a c
