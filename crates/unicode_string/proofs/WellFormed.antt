-- Names of a well-formed text are well formed.
use Rattle.std.proofs.Common.{◌≡◌, ℕ, ◌+◌, ◌-◌, ◌<◌, true, List, length, get_or, take, drop, IsUtf8, sym, subst, inl, inr, arith}
use lib.Utf8.{scalar, low_scalar}
use Rattle.std.specs.Str.{IsCharBoundary}
use Rattle.std.proofs.lemmas.Str.{IsUtf8-between, IsUtf8-encode, IsUtf8-append, IsUtf8-nil, IsCharBoundary-end, IsCharBoundary-before_ascii, IsCharBoundary-after_ascii}
use Rattle.std.proofs.lemmas.Bool.{cases_eq, cases_lt}
use Rattle.unicode_string.specs.Grammar.{Plain, Run, Letter, Escaped, Fragment, Fragments}
use Rattle.unicode_string.proofs.Found.{Text-names}

stop-low : (b : ℕ) → (Plain b → ⊥) → b < 128
stop-low b n = elim (cases_eq b 44) [ inl e ↦ omega arith | inr x ↦ elim (cases_eq b 41) [ inl e ↦ omega arith | inr y ↦ elim (cases_eq b 92) [ inl e ↦ omega arith | inr z ↦ absurd (n (record { comma = x; close = y; backslash = z })) ] ] ]

letter-low : {b c : ℕ} → Letter b c → (b < 128) × (c < 128)
letter-low Letter.newline = (omega arith, omega arith)
letter-low Letter.return = (omega arith, omega arith)
letter-low Letter.tab = (omega arith, omega arith)
letter-low Letter.back = (omega arith, omega arith)
letter-low Letter.feed = (omega arith, omega arith)
letter-low Letter.backslash = (omega arith, omega arith)
letter-low Letter.slash = (omega arith, omega arith)
letter-low Letter.close = (omega arith, omega arith)
letter-low Letter.comma = (omega arith, omega arith)

run-text : (t : List ℕ) (i j : ℕ) → IsUtf8 t → IsCharBoundary t i → Run t i j → IsUtf8 (take (j - i) (drop i t)) × IsCharBoundary t j
run-text t i j u h r =
    let b : IsCharBoundary t j = elim (cases_lt j (length t)) [
      | inl lt ↦ IsCharBoundary-before_ascii t j lt (stop-low (get_or t j 0) (r.longest lt))
      | inr ge ↦ let e : length t ≡ j = omega (arith, ge, r.within) in subst (IsCharBoundary t) e (IsCharBoundary-end t)
    ] in
    (IsUtf8-between t i j u (omega (arith, r.order)) h b, b)

escape-text : (t : List ℕ) (i j c : ℕ) → IsUtf8 t → Escaped t i j c → (scalar c ≡ true) × IsCharBoundary t j
escape-text t i j c u (Escaped.letter e w l) =
    let low = letter-low l in
    let q : i + 1 + 1 ≡ j = omega arith in
    (low_scalar c (omega (arith, low.1)), subst (IsCharBoundary t) q (IsCharBoundary-after_ascii t (i + 1) u (omega arith) low.0))
escape-text t i j c u (Escaped.unicode w) = (w.good, subst (IsCharBoundary t) (sym w.end) (IsCharBoundary-after_ascii t w.stop u (omega (arith, w.end, w.within)) (omega (arith, w.close))))

frag-text : (t : List ℕ) (i j : ℕ) {b : List ℕ} → IsUtf8 t → IsCharBoundary t i → Fragment t i j b → IsUtf8 b × IsCharBoundary t j
frag-text t i j u h (Fragment.literal r) = run-text t i j u h r
frag-text t i j u h (Fragment.escaped {c} lt e x) = let w = escape-text t i j c u x in (IsUtf8-encode c w.0, w.1)

frags-text : (t : List ℕ) {i j : ℕ} {b : List ℕ} → IsUtf8 t → IsCharBoundary t i → Fragments t i j b → IsUtf8 b × IsCharBoundary t j
frags-text t u h Fragments.none = (IsUtf8-nil, h)
frags-text t u h (Fragments.more {i} {k} {j} {b} {c} x r) =
    let f = frag-text t i k u h x in
    let g = frags-text t u f.1 r in
    (IsUtf8-append b c f.0 g.0, g.1)

pub text-names : Text-names
text-names t p j b u h s =
    let f = frags-text t u h (Fragments.more s.first s.rest) in
    (subst IsUtf8 (sym s.bytes) f.0, f.1)
