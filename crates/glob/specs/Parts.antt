-- Names as places in one text.
use Rattle.std.specs.Prelude.{ℕ, ◌+◌, Bool, false, cond, List, length, take, drop, Some, None, Option, nat_le}
use Rattle.std.specs.Str.{bytes_eq}
use Rattle.glob.specs.declared.place.Place.{Place}

-- the part of the text at a place, if the place lies in the text
abbrev pub part_of : List ℕ → Place → Option (List ℕ)
part_of text at = cond (nat_le (at.start + at.length) (length text)) (Some (take at.length (drop at.start text))) None

abbrev pub same_as : List ℕ → Option (List ℕ) → Bool
same_as w None = false
same_as w (Some part) = bytes_eq part w

-- the place lies in the text, and the word stands there
abbrev pub stands : List ℕ → Place → List ℕ → Bool
stands text at w = same_as w (part_of text at)
