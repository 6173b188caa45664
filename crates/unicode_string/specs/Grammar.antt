-- Which part of a text spells which bytes as a name: rules over parts from i up to j, with no cursor.
use Rattle.std.specs.Prelude.{◌≡◌, ℕ, ◌+◌, ◌-◌, ◌*◌, ◌<◌, ◌≤◌, true, ◌⊎◌, List, [], ◌++◌, length, Some, None, IsUtf8, slice_index, slice_index_or, slice_range}
use Rattle.std.proofs.Math.Utf8.{encode, scalar}
use Rattle.std.specs.Str.{IsCharBoundary}
use Rattle.unicode_string.specs.declared.Name.{Name}
use Rattle.unicode_string.specs.Names.{bytes_in}
use Rattle.unicode_string.specs.declared.NameRead.{NameRead}

-- neither `,` nor `)` nor a backslash
pub record Plain (b : ℕ) : Type 0 where
  pub comma : b ≡ 44 → ⊥
  pub close : b ≡ 41 → ⊥
  pub backslash : b ≡ 92 → ⊥

-- a run of plain bytes, as long as it can be
pub record Run (t : List ℕ) (i j : ℕ) : Type 0 where
  pub order : i < j
  pub within : j ≤ length t
  pub each : (k : ℕ) → i ≤ k → k < j → Plain (slice_index t k)
  pub longest : j < length t → Plain (slice_index t j) → ⊥

-- a letter after a backslash, and what it stands for
pub data Letter : ℕ → ℕ → Type 0 where
  newline : Letter 110 10
  return : Letter 114 13
  tab : Letter 116 9
  back : Letter 98 8
  feed : Letter 102 12
  backslash : Letter 92 92
  slash : Letter 47 47
  close : Letter 41 41
  comma : Letter 44 44

-- a hexadecimal digit, and its value
pub data Hex : ℕ → ℕ → Type 0 where
  digit : {b : ℕ} → 48 ≤ b → b ≤ 57 → Hex b (b - 48)
  upper : {b : ℕ} → 65 ≤ b → b ≤ 70 → Hex b (b - 55)
  lower : {b : ℕ} → 97 ≤ b → b ≤ 102 → Hex b (b - 87)

-- hexadecimal digits from i up to j, and their number
pub data Number (t : List ℕ) (i : ℕ) : ℕ → ℕ → Type 0 where
  none : Number t i i 0
  more : {j v d : ℕ} → Number t i j v → j < length t → Hex (slice_index t j) d → Number t i (j + 1) (v * 16 + d)

-- `u{`, one to six digits of a scalar value, `}`, after a backslash at i
pub record Unicode (t : List ℕ) (i j c : ℕ) : Type 0 where
  pub u : slice_index_or t (i + 1) 0 ≡ 117
  pub brace : slice_index_or t (i + 1 + 1) 0 ≡ 123
  pub stop : ℕ
  pub number : Number t (i + 1 + 1 + 1) stop c
  pub some : i + 3 < stop
  pub six : stop ≤ i + 9
  pub close : slice_index_or t stop 0 ≡ 125
  pub end : j ≡ stop + 1
  pub within : j ≤ length t
  pub good : scalar c ≡ true

pub data Escaped (t : List ℕ) (i j c : ℕ) : Type 0 where
  letter : j ≡ i + 2 → j ≤ length t → Letter (slice_index t (i + 1)) c → Escaped t i j c
  unicode : Unicode t i j c → Escaped t i j c

pub data Fragment (t : List ℕ) (i j : ℕ) : List ℕ → Type 0 where
  literal : Run t i j → Fragment t i j (slice_range t i j)
  escaped : {c : ℕ} → i < length t → slice_index t i ≡ 92 → Escaped t i j c → Fragment t i j (encode c)

pub data Fragments (t : List ℕ) : ℕ → ℕ → List ℕ → Type 0 where
  none : {i : ℕ} → Fragments t i i []
  more : {i k j : ℕ} {b c : List ℕ} → Fragment t i k b → Fragments t k j c → Fragments t i j (b ++ c)

-- the end of the text, or `,` or `)`
abbrev pub Ends : List ℕ → ℕ → Type 0
Ends t j = j < length t → (slice_index t j ≡ 44) ⊎ (slice_index t j ≡ 41)

-- one or more fragments, up to the end, spell the bytes
pub record Spells (t : List ℕ) (i j : ℕ) (b : List ℕ) : Type 0 where
  pub middle : ℕ
  pub head : List ℕ
  pub tail : List ℕ
  pub first : Fragment t i middle head
  pub rest : Fragments t middle j tail
  pub bytes : b ≡ head ++ tail
  pub end : Ends t j

-- what a call found at p, with c reports made before it and s in the decoding space after it
pub record Meant (t s : List ℕ) (p c : ℕ) (r : NameRead) : Type 0 where
  -- a name that it found, the rules derive, with the bytes that stand in its place
  pub sound : (n : Name) → r.name ≡ Some n → (b : List ℕ) × (bytes_in t s n ≡ Some b) × Spells t p r.end b
  -- a name that the rules derive, it found, and reported nothing
  pub whole : (j : ℕ) (b : List ℕ) → Spells t p j b → (n : Name) × (r.name ≡ Some n) × (r.end ≡ j) × (bytes_in t s n ≡ Some b) × (r.count ≡ c)
  -- the rules derive at most one name
  pub one : (i j : ℕ) (a b : List ℕ) → Spells t p i a → Spells t p j b → (i ≡ j) × (a ≡ b)
  -- a name in a well-formed text is well formed, and so is what follows it
  pub text : (j : ℕ) (b : List ℕ) → IsUtf8 t → IsCharBoundary t p → Spells t p j b → IsUtf8 b × IsCharBoundary t j
  -- where it found no name, it reported why
  pub told : r.name ≡ None → c < r.count
