-- What stands at a place of a text: blanks, a word, white space, the next `)`.
use Rattle.std.specs.Prelude.{ℕ, zero, suc, ◌+◌, Bool, true, cond, not, ◌&&◌, ◌||◌, List, [], ◌∷◌, length, drop, ◌==◌, nat_le, nat_lt, slice_index}
use Rattle.unicode_string.specs.Text.{is_word}

-- the byte b stands at p
abbrev pub is_at : List ℕ → ℕ → ℕ → Bool
is_at t p b = nat_lt p (length t) && slice_index t p == b

-- a space or LF, or CR before LF
abbrev pub is_blank : ℕ → ℕ → Bool
is_blank b next = b == 32 || b == 10 || (b == 13 && next == 10)

-- how many bytes of blanks a text begins with
unfoldable pub blanks : List ℕ → ℕ
blanks [] = 0
blanks (b ∷ t) = cond (is_blank b (slice_index t 0)) (suc (blanks t)) 0

-- the place after the blanks at p
unfoldable pub skip : List ℕ → ℕ → ℕ
skip t p = p + blanks (drop p t)

-- the word w stands at p
unfoldable pub begins_at : List ℕ → ℕ → List ℕ → Bool
begins_at t p [] = true
begins_at t p (b ∷ w) = nat_lt p (length t) && slice_index t p == b && begins_at t (p + 1) w

-- the word w stands at p, and no word byte after it
abbrev pub keyword_at : List ℕ → ℕ → List ℕ → Bool
keyword_at t p w = begins_at t p w && not (is_word (slice_index t (p + length w)))

-- how many bytes there are before the first `)`
unfoldable pub unclosed : List ℕ → ℕ
unclosed [] = 0
unclosed (b ∷ t) = cond (b == 41) 0 (suc (unclosed t))

-- the place of the first `)` from p on, or else the end
unfoldable pub closing : List ℕ → ℕ → ℕ
closing t p = p + unclosed (drop p t)

-- characters of white space, by their bytes: of one, of two and of three
abbrev pub is_white1 : ℕ → Bool
is_white1 a = (nat_le 9 a && nat_le a 13) || a == 32

abbrev pub is_white2 : ℕ → ℕ → Bool
is_white2 a b = a == 194 && (b == 133 || b == 160)

abbrev pub is_spread : ℕ → Bool
is_spread b = (nat_le 128 b && nat_le b 138) || b == 168 || b == 169 || b == 175

abbrev pub is_white3 : ℕ → ℕ → ℕ → Bool
is_white3 a b c =
    (a == 225 && (b == 154 && c == 128)) || ((a == 226 && ((b == 128 && is_spread c) || (b == 129 && c == 159))) || (a == 227 && (b == 128 && c == 128)))

-- how many bytes the character of white space has that begins with these, 0 if there is none
abbrev pub white_of : ℕ → ℕ → ℕ → ℕ
white_of a b c = cond (is_white1 a) 1 (cond (is_white2 a b) 2 (cond (is_white3 a b c) 3 0))

abbrev pub white_at : List ℕ → ℕ → ℕ
white_at t p = white_of (slice_index t p) (slice_index t (p + 1)) (slice_index t (p + 2))

-- the place after the white space at p; fuel bounds the characters
unfoldable pub whites_at : List ℕ → ℕ → ℕ → ℕ
whites_at t zero p = p
whites_at t (suc f) p = cond (white_at t p == 0) p (whites_at t f (p + white_at t p))

abbrev pub white_end : List ℕ → ℕ → ℕ
white_end t p = whites_at t (length t) p
