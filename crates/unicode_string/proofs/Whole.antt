-- What the rules derive, is read so, without a report.
use Rattle.std.proofs.Common.{◌≡◌, ℕ, zero, suc, ◌+◌, ◌-◌, ◌*◌, ◌<◌, ◌≤◌, true, false, List, ◌++◌, length, get_or, take, drop, Some, sym, refl, ap, ◌∙◌, subst, inl, inr, append-nil, add-zero, arith}
use Rattle.std.proofs.lemmas.Bool.{ne_eqb, lt-ltb, cases_eq, cases_lt}
use Rattle.std.proofs.lemmas.Bool.Decides.{nat_tests}
use Rattle.unicode_string.specs.declared.Escape.{Escape}
use Rattle.unicode_string.specs.Text.{is_plain, run_end, hex_of, letter_of, digits_at, closed, unicode_at, escape_at}
use Rattle.unicode_string.specs.Names.{spelt, in_space, in_text, Out, Named, whole, decoded, write, done, name_at, more, escaped, frag_at, frags_at, ◌⨾◌}
use Rattle.unicode_string.specs.Grammar.{Plain, Run, Letter, Hex, Number, Unicode, Escaped, Fragment, Fragments, Ends}
use Rattle.unicode_string.proofs.Found.{Finds, Whole-names, One-name}
use Rattle.unicode_string.proofs.Numbers.{digits-stop, digits-on, read}
use Rattle.unicode_string.proofs.Escapes.{opened, unicoded, lettered, closes}
use Rattle.unicode_string.proofs.Ends.{run_on, run-here, run_end_lem}
use Rattle.unicode_string.proofs.Frags.{frag-plain, frag-escape, frag-moves, more_within}
use Rattle.unicode_string.proofs.Loops.{frags-end, fueled}
use Rattle.unicode_string.proofs.Naming.{name-escape, name-plain, whole-some}
use Rattle.unicode_string.proofs.Sound.{plain-to}

hex-whole : {b d : ℕ} → Hex b d → hex_of b ≡ d
unfolding hex_of
hex-whole (Hex.digit {b} l h) = grind (arith, nat_tests)
hex-whole (Hex.upper {b} l h) = grind (arith, nat_tests)
hex-whole (Hex.lower {b} l h) = grind (arith, nat_tests)

hex-low : {b d : ℕ} → Hex b d → d < 16
hex-low (Hex.digit {b} l h) = omega arith
hex-low (Hex.upper {b} l h) = omega arith
hex-low (Hex.lower {b} l h) = omega arith

number-order : {t : List ℕ} {i j v : ℕ} → Number t i j v → i ≤ j
number-order Number.none = omega arith
number-order (Number.more h lt x) = let o = number-order h in omega arith

number-whole : (t : List ℕ) (i n : ℕ) {j v : ℕ} → Number t i j v → j ≤ i + n → digits_at t n i 0 ≡ digits_at t (n - (j - i)) j v
number-whole t i n Number.none le =
    let e : n - (i - i) ≡ n = omega arith in
    rw e refl
number-whole t i n (Number.more {j} {v} {d} h lt x) le =
    let o = number-order h in
    let ih = number-whole t i n h (omega arith) in
    let e : n - (j - i) - 1 ≡ n - (j + 1 - i) = omega arith in
    let is = hex-whole x in
    let ne : (hex_of (get_or t j 0) ≡ 255 → ⊥) = λ z. omega (arith, z, is, hex-low x) in
    ih ∙ sym (digits-on t (n - (j - i)) j v (omega arith) ne) ∙ ap (λ (l : ℕ). digits_at t l (j + 1) (v * 16 + hex_of (get_or t j 0))) e ∙ ap (λ (m : ℕ). digits_at t (n - (j + 1 - i)) (j + 1) (v * 16 + m)) is

abbrev at : ℕ → ℕ → Escape
at c q = record { code = c; next = q }

unicode-whole : (t : List ℕ) (i j c : ℕ) → Unicode t i j c → unicode_at t (i + 1 + 1) ≡ Some (at c j)
unfolding hex_of
unicode-whole t i j c w =
    let l = 6 - (w.stop - (i + 1 + 1 + 1)) in
    let o = number-order w.number in
    let d = number-whole t (i + 1 + 1 + 1) 6 w.number (omega (arith, w.six)) ∙ sym (digits-stop t l w.stop c (ap hex_of w.close)) in
    sym (opened t (i + 1 + 1) w.brace refl) ∙ ap (closed t) d ∙ sym (closes t (read l w.stop c) (λ z. omega (arith, z, w.some)) w.close w.good) ∙ ap (λ (q : ℕ). Some (at c q)) (sym w.end)

letter-whole : {b c : ℕ} → Letter b c → (letter_of b ≡ Some c) × (b ≡ 117 → ⊥)
letter-whole Letter.newline = (refl, λ z. omega arith)
letter-whole Letter.return = (refl, λ z. omega arith)
letter-whole Letter.tab = (refl, λ z. omega arith)
letter-whole Letter.back = (refl, λ z. omega arith)
letter-whole Letter.feed = (refl, λ z. omega arith)
letter-whole Letter.backslash = (refl, λ z. omega arith)
letter-whole Letter.slash = (refl, λ z. omega arith)
letter-whole Letter.close = (refl, λ z. omega arith)
letter-whole Letter.comma = (refl, λ z. omega arith)

escape-whole : (t : List ℕ) (i j c : ℕ) → Escaped t i j c → escape_at t (i + 1) ≡ Some (at c j)
escape-whole t i j c (Escaped.letter e w l) =
    let r = letter-whole l in
    let q : i + 1 + 1 ≡ j = omega arith in
    sym (lettered t (i + 1) r.1 (sym r.0)) ∙ ap (λ (q : ℕ). Some (at c q)) q
escape-whole t i j c (Escaped.unicode w) = sym (unicoded t (i + 1) w.u) ∙ unicode-whole t i j c w

run-over : (t : List ℕ) (i d : ℕ) → i + d ≤ length t → ((m : ℕ) → i ≤ m → m < i + d → Plain (get_or t m 0)) → run_end t (i + d) ≡ run_end t i
run-over t i zero h all = ap (run_end t) (add-zero i)
run-over t i (suc d) h all =
    let e : i + suc d ≡ i + d + 1 = omega arith in
    ap (run_end t) e ∙ run_on t (i + d) (omega arith) (plain-to _ (all (i + d) (omega arith) (omega arith))) ∙ run-over t i d (omega arith) (λ m a b. all m a (omega arith))

not_plain : (b : ℕ) → (Plain b → ⊥) → is_plain b ≡ false
not_plain b n = elim (cases_eq b 44) [ inl e ↦ rw e refl | inr x ↦ elim (cases_eq b 41) [ inl e ↦ rw e refl | inr y ↦ elim (cases_eq b 92) [ inl e ↦ rw e refl | inr z ↦ absurd (n (record { comma = x; close = y; backslash = z })) ] ] ]

run-whole : (t : List ℕ) (i j : ℕ) → Run t i j → run_end t i ≡ j
run-whole t i j r =
    let e : i + (j - i) ≡ j = omega (arith, r.order) in
    let o = run-over t i (j - i) (omega (arith, r.order, r.within)) (λ m a b. r.each m a (omega (arith, r.order))) in
    let s : run_end t j ≡ run_end t i = ap (run_end t) (sym e) ∙ o in
    sym s ∙ sym (elim (cases_lt j (length t)) [ inl lt ↦ run-here t j lt (not_plain (get_or t j 0) (r.longest lt)) | inr ge ↦ run_end_lem t j ge ])

record Reads (t : List ℕ) (i j : ℕ) (b : List ℕ) : Type 0 where
  here : more t i ≡ true
  is : frag_at t i ≡ write b j

frag-whole : (t : List ℕ) (i j : ℕ) {b : List ℕ} → Fragment t i j b → Reads t i j b
frag-whole t i j (Fragment.literal r) =
    let p = r.each i (omega arith) r.order in
    let lt : i < length t = omega (arith, r.order, r.within) in
    record {
      here = rw (lt-ltb i (length t) lt, ne_eqb (get_or t i 0) 44 p.comma, ne_eqb (get_or t i 0) 41 p.close) refl;
      is = sym (frag-plain t i (plain-to (get_or t i 0) p)) ∙ ap (λ (q : ℕ). write (take (q - i) (drop i t)) q) (run-whole t i j r);
    }
frag-whole t i j (Fragment.escaped {c} lt e x) = record {
  here = rw (lt-ltb i (length t) lt, e) refl;
  is = sym (frag-escape t i (ap is_plain e) refl) ∙ ap (escaped t i) (escape-whole t i j c x);
}

ends-to : (t : List ℕ) (j : ℕ) → Ends t j → more t j ≡ false
ends-to t j e = elim (cases_lt j (length t)) [
  | inl lt ↦ elim (e lt) [ inl y ↦ rw (lt-ltb j (length t) lt, y) refl | inr y ↦ rw (lt-ltb j (length t) lt, y) refl ]
  | inr ge ↦ grind (arith, nat_tests)
]

frags-whole : (t : List ℕ) {i j : ℕ} {b : List ℕ} → Fragments t i j b → Ends t j → (f : ℕ) → length t ≤ i + f → frags_at t f i ≡ write b j
frags-whole t (Fragments.none {i}) e f h = frags-end t f i (ends-to t i e)
frags-whole t (Fragments.more {i} {k} {j} {b} {c} x r) e f h =
    let w = frag-whole t i k x in
    let g = fueled t f i h w.here in
    let on = (frag-moves t i (more_within t i w.here)).on in
    let at = ap (λ (o : Out). o.at) w.is in
    let s = frags-whole t r e g.0 (omega (arith, g.1, on, at)) in
    g.2 ∙ ap (λ (o : Out). o ⨾ frags_at t g.0) w.is ∙ ap (λ (o : Out). write b k ⨾ (λ _. o)) s

plain-finds : (t : List ℕ) (p u j k : ℕ) {h c : List ℕ} → (get_or t (run_end t p) 0 ≡ 92 → ⊥) → Fragment t p k h → Fragments t k j c → Ends t j → Finds t (whole p (run_end t p)) j (h ++ c)
plain-finds t p u j k ne (Fragment.escaped lt e x) r end =
    absurd (ne (ap (λ (q : ℕ). get_or t q 0) (sym (run-here t p lt (ap is_plain e))) ∙ e))
plain-finds t p u j k {h} {c} ne (Fragment.literal w) r end =
    let q = run-whole t p k w in
    let stop : more t k ≡ false = ends-to t k (λ lt. elim (cases_eq (get_or t k 0) 44) [ inl y ↦ inl y | inr a ↦ elim (cases_eq (get_or t k 0) 41) [ inl y ↦ inr y | inr b ↦ absurd (w.longest lt (record { comma = a; close = b; backslash = λ z. ne (ap (λ (m : ℕ). get_or t m 0) q ∙ z) })) ] ]) in
    let same : done k ≡ write c j = sym (frags-end t (length t) k stop) ∙ frags-whole t r end (length t) (omega arith) in
    let at = ap (λ (o : Out). o.at) same in
    let empty = ap (λ (o : Out). o.bytes) same in
    let f : Finds t (whole p k) j (take (k - p) (drop p t) ++ c) =
    subst (λ (n : Named). Finds t n j (take (k - p) (drop p t) ++ c)) (whole-some p k (λ z. omega (arith, z, w.order)))
    (record { name = in_text p (k - p); found = refl; quiet = refl; end = at; bytes = sym (append-nil (take (k - p) (drop p t))) ∙ ap (λ (l : List ℕ). take (k - p) (drop p t) ++ l) empty }) in
    subst (λ (m : ℕ). Finds t (whole p m) j (take (k - p) (drop p t) ++ c)) (sym q) f

pub whole-names : Whole-names
whole-names t p u j b h s =
    let all = frags-whole t (Fragments.more s.first s.rest) s.end (length t) (omega arith) ∙ ap (λ (x : List ℕ). write x j) (sym s.bytes) in
    elim (cases_eq (get_or t (run_end t p) 0) 92) [
      | inl e ↦ subst (λ (n : Named). Finds t n j b) (sym (ap (decoded u) all) ∙ name-escape t p u e) (record { name = in_space u (length b); found = refl; quiet = refl; end = refl; bytes = refl })
      | inr ne ↦ subst (λ (n : Named). Finds t n j b) (name-plain t p u ne) (subst (Finds t (whole p (run_end t p)) j) (sym s.bytes) (plain-finds t p u j s.middle ne s.first s.rest s.end))
    ]

pub one_name : One-name
one_name t p i j a b h x y =
    let f = whole-names t p 0 i a h x in
    let g = whole-names t p 0 j b h y in
    let s : Some f.name ≡ Some g.name = sym f.found ∙ g.found in
    let n : f.name ≡ g.name = cc in
    (sym f.end ∙ g.end, sym f.bytes ∙ ap (spelt t (name_at t p 0).out) n ∙ g.bytes)
