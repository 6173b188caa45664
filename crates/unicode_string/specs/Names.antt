-- What reading a name gives: from a place, the place after, the reports made, the bytes decoded, and the name.
use Rattle.std.specs.Prelude.{◌≡◌, ℕ, zero, suc, ◌+◌, ◌-◌, ◌^◌, min, Bool, true, cond, not, ◌&&◌, List, [], ◌∷◌, ◌++◌, length, take, drop, Some, None, Option, ◌==◌, nat_le, nat_lt, slice_index}
use Rattle.std.proofs.Math.Utf8.{encode, scalar}
pub use Rattle.errors.specs.Reports.{first_start}
use Rattle.errors.specs.declared.reports.ReportKind.TheVariants.{InvalidEscapeCharacter, InvalidString}
use Rattle.errors.specs.declared.reports.Report.{Report}
use Rattle.glob.specs.declared.place.Place.{Place}
use Rattle.glob.specs.Parts.{part_of}
use Rattle.unicode_string.specs.declared.Name.{Name}
use Rattle.unicode_string.specs.declared.NameRead.{NameRead}
use Rattle.unicode_string.specs.declared.Name.TheVariants.{InText, InSpace}
use Rattle.unicode_string.specs.declared.StringFragment.{StringFragment}
use Rattle.unicode_string.specs.declared.StringFragment.TheVariants.{Literal, EscapedChar}
use Rattle.unicode_string.specs.declared.Escape.{Escape}
use Rattle.unicode_string.specs.Text.{is_plain, run_end, escape_at}

-- a name that is a part of the text, or of the decoding space
abbrev pub in_text : ℕ → ℕ → Name
in_text a n = InText (record { start = a; length = n })

abbrev pub in_space : ℕ → ℕ → Name
in_space a n = InSpace (record { start = a; length = n })

-- the place after, the reports made, and the bytes decoded
pub record Out : Type 0 where
  pub at : ℕ
  pub reports : List Report
  pub bytes : List ℕ

abbrev pub done : ℕ → Out
done p = record { at = p; reports = []; bytes = [] }

abbrev pub note : Report → ℕ → Out
note r p = record { at = p; reports = r ∷ []; bytes = [] }

abbrev pub write : List ℕ → ℕ → Out
write b p = record { at = p; reports = []; bytes = b }

-- the same without the bytes
abbrev pub moved : Out → Out
moved o = record { at = o.at; reports = o.reports; bytes = [] }

abbrev pub follow : Out → Out → Out
follow a b = record { at = b.at; reports = a.reports ++ b.reports; bytes = a.bytes ++ b.bytes }

-- one reading, and then another from where it ended
infixl 20 ◌⨾◌
abbrev pub ◌⨾◌ : Out → (ℕ → Out) → Out
a ⨾ k = follow a (k a.at)

-- neither the end nor `,` nor `)`
abbrev pub more : List ℕ → ℕ → Bool
more t p = nat_lt p (length t) && (not (slice_index t p == 44) && not (slice_index t p == 41))

abbrev pub literal : List ℕ → ℕ → Out
literal t p = write (take (run_end t p - p) (drop p t)) (run_end t p)

abbrev pub escaped : List ℕ → ℕ → Option Escape → Out
escaped t p None = note (record { kind = InvalidEscapeCharacter; start = p; length = min (length t - p) 2 }) (p + 1)
escaped t p (Some e) = write (encode e.code) e.next

-- a run, or what a backslash begins
unfoldable pub frag_at : List ℕ → ℕ → Out
frag_at t p = cond (is_plain (slice_index t p)) (literal t p) (escaped t p (escape_at t (p + 1)))

-- fragments in a row; fuel bounds their number
unfoldable pub frags_at : List ℕ → ℕ → ℕ → Out
frags_at t zero p = done p
frags_at t (suc f) p = cond (more t p) (frag_at t p ⨾ frags_at t f) (done p)

pub record Named : Type 0 where
  pub out : Out
  pub name : Option Name

-- a name without an escape: that part of the text
abbrev pub whole : ℕ → ℕ → Named
whole p q = cond (q == p) (record { out = note (record { kind = InvalidString; start = q; length = 0 }) q; name = None }) (record { out = done q; name = Some (in_text p (q - p)) })

-- a name with one: the bytes decoded, from u on, unless one was invalid
abbrev pub decoded : ℕ → Out → Named
decoded u o = record { out = o; name = cond (length o.reports == 0) (Some (in_space u (length o.bytes))) None }

unfoldable pub name_at : List ℕ → ℕ → ℕ → Named
name_at t p u = cond (slice_index t (run_end t p) == 92) (decoded u (frags_at t (length t) p)) (whole p (run_end t p))

-- a fragment's bytes
abbrev pub bytes_of : Option StringFragment → List ℕ
bytes_of None = []
bytes_of (Some (Literal s)) = s.now
bytes_of (Some (EscapedChar c)) = encode c

abbrev pub Scalar : Option StringFragment → Type 0
Scalar None = Unit {0}
Scalar (Some (Literal s)) = Unit {0}
Scalar (Some (EscapedChar c)) = scalar c ≡ true

-- the bytes of a name that was read
abbrev pub spelt : List ℕ → Out → Name → List ℕ
spelt t o (InText at) = take at.length (drop at.start t)
spelt t o (InSpace at) = o.bytes

-- a name's place
abbrev pub place_of : Name → Place
place_of (InText at) = at
place_of (InSpace at) = at

-- the bytes of a name, in the text or in the decoding space, if its place lies there
abbrev pub bytes_in : List ℕ → List ℕ → Name → Option (List ℕ)
bytes_in t s (InText at) = part_of t at
bytes_in t s (InSpace at) = part_of s at

-- there is room for what the bytes from p on can make: in the decoding space from u on, and in the count c
abbrev pub has_room : List ℕ → ℕ → ℕ → ℕ → Bool
has_room t p c u = nat_le p (length t) && (nat_le (u + (length t - p)) 1024 && nat_lt (c + (length t - p) + 1) (2 ^ 64))

-- what reading makes, where there is room; otherwise nothing
abbrev pub out_at : List ℕ → ℕ → ℕ → ℕ → Out
out_at t p c u = cond (has_room t p c u) (name_at t p u).out (done p)

-- what the call that reads a name answers
abbrev pub read_at : List ℕ → ℕ → ℕ → ℕ → Option NameRead
read_at t p c u =
    cond (has_room t p c u)
    (Some (record { name = (name_at t p u).name; end = (name_at t p u).out.at; count = c + length (name_at t p u).out.reports; used = u + length (name_at t p u).out.bytes; first = first_start None (name_at t p u).out.reports }))
    None
