-- Which texts are read at all: those of at most 1,024 bytes that are well-formed UTF-8.
use Rattle.std.specs.Prelude.{◌≡◌, ℕ, ◌<◌, ◌≤◌, List, length, Ok, Err, IsUtf8, Result}
use Rattle.std.specs.Borrow.{Bor}
use Rattle.std.specs.Str.{IsValidUpTo}
use Rattle.errors.specs.declared.faults.TextFault.{TextFault}
use Rattle.errors.specs.declared.faults.TextFault.TheVariants.{Long, Garbled}

-- What the check of the text t answers: t itself; or long; or, if it is not long, garbled, where the first `place` bytes
-- are the longest start of t that is well formed.
abbrev pub Checked : List ℕ → Result (Bor (List ℕ)) TextFault → Type 0
Checked t (Ok s) = (s.now ≡ t) × (length t ≤ 1024) × IsUtf8 t
Checked t (Err Long) = 1024 < length t
Checked t (Err (Garbled place)) = (length t ≤ 1024) × (IsUtf8 t → ⊥) × IsValidUpTo t place
