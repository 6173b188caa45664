-- What stands at a place of a text: a run, an escape, a digit.
use Rattle.std.specs.Prelude.{ℕ, zero, suc, ◌+◌, ◌-◌, ◌*◌, Bool, cond, not, ◌&&◌, ◌||◌, List, length, drop, Some, None, Option, ◌==◌, nat_le, nat_lt, slice_index}
use Rattle.std.specs.List.{prefix_len}
use Rattle.std.proofs.Math.Utf8.{scalar}
use Rattle.unicode_string.specs.declared.Escape.{Escape}
use Rattle.unicode_string.specs.declared.Digits.{Digits}

-- the byte stands at p
abbrev pub is_at : List ℕ → ℕ → ℕ → Bool
is_at t p b = nat_lt p (length t) && slice_index t p == b

-- an ASCII letter, a digit or `_`
unfoldable pub is_word : ℕ → Bool
is_word b = (nat_le 48 b && nat_le b 57) || (nat_le 65 b && nat_le b 90) || (nat_le 97 b && nat_le b 122) || b == 95

-- the value of a hexadecimal digit; 255 for any other byte
unfoldable pub hex_of : ℕ → ℕ
hex_of b = cond (nat_le 48 b && nat_le b 57) (b - 48) (cond (nat_le 65 b && nat_le b 70) (b - 55) (cond (nat_le 97 b && nat_le b 102) (b - 87) 255))

-- that value, if the byte is a digit
abbrev pub digit_of : ℕ → Option ℕ
digit_of b = cond (hex_of b == 255) None (Some (hex_of b))

abbrev pub letter_of : ℕ → Option ℕ
letter_of c =
    cond (c == 110) (Some 10) (cond (c == 114) (Some 13) (cond (c == 116) (Some 9) (cond (c == 98) (Some 8) (cond (c == 102) (Some 12)
    (cond (c == 92) (Some 92) (cond (c == 47) (Some 47) (cond (c == 41) (Some 41) (cond (c == 44) (Some 44) None))))))))

-- at most n digits, read from p on, with the value v before them
unfoldable pub digits_at : List ℕ → ℕ → ℕ → ℕ → Digits
digits_at t zero p v = record { left = 0; next = p; code = v }
digits_at t (suc n) p v = cond (hex_of (slice_index t p) == 255) (record { left = suc n; next = p; code = v }) (digits_at t n (p + 1) (v * 16 + hex_of (slice_index t p)))

-- one digit at least, a scalar value, and `}`
abbrev pub closed : List ℕ → Digits → Option Escape
closed t r = cond (not (r.left == 6) && (slice_index t r.next == 125 && scalar r.code)) (Some (record { code = r.code; next = r.next + 1 })) None

-- what follows `\u`
unfoldable pub unicode_at : List ℕ → ℕ → Option Escape
unicode_at t p = cond (slice_index t p == 123) (closed t (digits_at t 6 (p + 1) 0)) None

abbrev pub single : Option ℕ → ℕ → Option Escape
single None q = None
single (Some c) q = Some (record { code = c; next = q })

-- what follows a backslash
unfoldable pub escape_at : List ℕ → ℕ → Option Escape
escape_at t p = cond (slice_index t p == 117) (unicode_at t (p + 1)) (single (letter_of (slice_index t p)) (p + 1))

-- what a run holds
abbrev pub is_plain : ℕ → Bool
is_plain b = not (b == 44) && not (b == 41) && not (b == 92)

-- the end of the longest run from p on
unfoldable pub run_end : List ℕ → ℕ → ℕ
run_end t p = p + prefix_len is_plain (drop p t)
