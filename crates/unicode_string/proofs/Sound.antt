-- What reads as a name without a report, the rules derive.
use Rattle.std.proofs.Common.{◌≡◌, ℕ, zero, suc, ◌+◌, ◌-◌, ◌*◌, ◌<◌, ◌≤◌, Bool, true, false, cond, ◌&&◌, eqb, leb, List, [], ◌∷◌, ◌++◌, length, get_or, take, drop, Some, None, Option, sym, refl, ap, ◌∙◌, subst, inl, inr, append-nil, arith, length-drop, get_or-drop}
use Rattle.std.proofs.lemmas.List.{get_or_past, nil_from_length}
use Rattle.std.proofs.lemmas.Bool.{eqb-true, eqb-false, leb-true, eq-eqb, ne_eqb, cases_Bool, cases_eq, cases_lt, and_parts, cond-true, cond-false}
use Rattle.std.proofs.lemmas.Bool.Decides.{nat_tests}
use Rattle.unicode_string.specs.declared.Escape.{Escape}
use Rattle.unicode_string.specs.declared.Digits.{Digits}
use Rattle.errors.specs.declared.reports.Report.{Report}
use Rattle.std.specs.List.{prefix_len}
use Rattle.std.proofs.lemmas.List.Sums.{prefix_len_passes, prefix_len_stops}
use Rattle.unicode_string.specs.Text.{is_plain, run_end, hex_of, letter_of, digits_at, closed, unicode_at, escape_at}
use Rattle.unicode_string.specs.declared.Name.{Name}
use Rattle.unicode_string.specs.Names.{spelt, in_space, in_text, Out, Named, whole, decoded, more, escaped, frag_at, frags_at, done}
use Rattle.unicode_string.specs.Grammar.{Plain, Run, Letter, Hex, Number, Unicode, Escaped, Fragment, Fragments, Ends, Spells}
use Rattle.unicode_string.proofs.Found.{Sound-names}
use Rattle.unicode_string.proofs.Numbers.{digits-stop, digits-on}
use Rattle.unicode_string.proofs.Escapes.{within, opened, unopened, unicoded, lettered}
use Rattle.unicode_string.proofs.Frags.{run-from, frag-plain, frag-escape, digits-far, closed_parts, some-single, plain-moves, escape-sized, more_within, run-within, frag-moves}
use Rattle.unicode_string.proofs.Loops.{frags-end, frags-more, fueled}
use Rattle.unicode_string.proofs.Naming.{name-escape, name-plain, whole-none, whole-some, found_none}
use Rattle.unicode_string.proofs.Ends.{run-here}

pub plain-from : (b : ℕ) → is_plain b ≡ true → Plain b
plain-from b e = record { comma = λ h. grind (arith, nat_tests); close = λ h. grind (arith, nat_tests); backslash = λ h. grind (arith, nat_tests) }

pub plain-to : (b : ℕ) → Plain b → is_plain b ≡ true
plain-to b p = rw (ne_eqb b 44 p.comma, ne_eqb b 41 p.close, ne_eqb b 92 p.backslash) refl

hex-sound : (b : ℕ) → (hex_of b ≡ 255 → ⊥) → Hex b (hex_of b)
unfolding hex_of
hex-sound b ne =
    let lo = cond (leb 97 b && leb b 102) (b - 87) 255 in
    let up = cond (leb 65 b && leb b 70) (b - 55) lo in
    elim (cases_Bool (leb 48 b && leb b 57)) [
      | inl e ↦ let w = and_parts (leb 48 b) (leb b 57) e in subst (Hex b) (sym (cond-true (leb 48 b && leb b 57) (b - 48) up e)) (Hex.digit (leb-true 48 b w.0) (leb-true b 57 w.1))
      | inr n ↦ subst (Hex b) (sym (cond-false (leb 48 b && leb b 57) (b - 48) up n)) (elim (cases_Bool (leb 65 b && leb b 70)) [
        | inl e ↦ let w = and_parts (leb 65 b) (leb b 70) e in subst (Hex b) (sym (cond-true (leb 65 b && leb b 70) (b - 55) lo e)) (Hex.upper (leb-true 65 b w.0) (leb-true b 70 w.1))
        | inr m ↦ subst (Hex b) (sym (cond-false (leb 65 b && leb b 70) (b - 55) lo m)) (elim (cases_Bool (leb 97 b && leb b 102)) [
          | inl e ↦ let w = and_parts (leb 97 b) (leb b 102) e in subst (Hex b) (sym (cond-true (leb 97 b && leb b 102) (b - 87) 255 e)) (Hex.lower (leb-true 97 b w.0) (leb-true b 102 w.1))
          | inr k ↦ absurd (ne (cond-false (leb 48 b && leb b 57) (b - 48) up n ∙ cond-false (leb 65 b && leb b 70) (b - 55) lo m ∙ cond-false (leb 97 b && leb b 102) (b - 87) 255 k))
        ])
      ])
    ]

hex-within : (t : List ℕ) (p : ℕ) → (hex_of (get_or t p 0) ≡ 255 → ⊥) → p < length t
unfolding hex_of
hex-within t p ne = elim (cases_lt p (length t)) [ inl l ↦ l | inr g ↦ absurd (ne (ap hex_of (get_or_past t p 0 g))) ]

record Read (t : List ℕ) (i n p : ℕ) (d : Digits) : Type 0 where
  number : Number t i d.next d.code
  count : d.left + d.next ≡ n + p

digits-sound : (t : List ℕ) (i n p v : ℕ) → Number t i p v → Read t i n p (digits_at t n p v)
unfolding digits_at
digits-sound t i zero p v h = record { number = h; count = refl }
digits-sound t i (suc n) p v h = elim (cases_eq (hex_of (get_or t p 0)) 255) [
  | inl e ↦ subst (Read t i (suc n) p) (digits-stop t (suc n) p v e) (record { number = h; count = refl })
  | inr ne ↦
      let d : suc n - 1 ≡ n = omega arith in
      let q = rw d at (digits-on t (suc n) p v (omega arith) ne) in
      let r = digits-sound t i n (p + 1) (v * 16 + hex_of (get_or t p 0)) (Number.more h (hex-within t p ne) (hex-sound (get_or t p 0) ne)) in
      subst (Read t i (suc n) p) q (record { number = r.number; count = omega (arith, r.count) })
]

letter-sound : (b c : ℕ) → letter_of b ≡ Some c → Letter b c
letter-sound b c h =
    elim (cases_eq b 110) [
      | inl e ↦ is Letter.newline e refl
      | inr n1 ↦
          elim (cases_eq b 114) [
            | inl e ↦ is Letter.return e refl
            | inr n2 ↦
                elim (cases_eq b 116) [
                  | inl e ↦ is Letter.tab e refl
                  | inr n3 ↦
                      elim (cases_eq b 98) [
                        | inl e ↦ is Letter.back e refl
                        | inr n4 ↦
                            elim (cases_eq b 102) [
                              | inl e ↦ is Letter.feed e refl
                              | inr n5 ↦
                                  elim (cases_eq b 92) [
                                    | inl e ↦ is Letter.backslash e refl
                                    | inr n6 ↦
                                        elim (cases_eq b 47) [
                                          | inl e ↦ is Letter.slash e refl
                                          | inr n7 ↦
                                              elim (cases_eq b 41) [
                                                | inl e ↦ is Letter.close e refl
                                                | inr n8 ↦
                                                    elim (cases_eq b 44) [
                                                      | inl e ↦ is Letter.comma e refl
                                                      | inr n9 ↦
                                                          absurd (let q : letter_of b ≡ None = rw (ne_eqb b 110 n1, ne_eqb b 114 n2, ne_eqb b 116 n3, ne_eqb b 98 n4, ne_eqb b 102 n5, ne_eqb b 92 n6, ne_eqb b 47 n7, ne_eqb b 41 n8, ne_eqb b 44 n9) refl in
                                                          let z : ◌≡◌ {A = ℕ} 0 1 = cc in omega arith)
                                                    ]
                                              ]
                                        ]
                                  ]
                            ]
                      ]
                ]
          ]
    ]
  where
    is : {x y : ℕ} → Letter x y → b ≡ x → letter_of x ≡ Some y → Letter b c
    is {x} {y} l e g =
        let q : Some y ≡ Some c = sym g ∙ sym (ap letter_of e) ∙ h in
        let r : y ≡ c = cc in
        subst (λ (n : ℕ). Letter n c) (sym e) (subst (Letter x) r l)

closed-more : (t : List ℕ) (d : Digits) (e : Escape) → closed t d ≡ Some e → (d.left ≡ 6 → ⊥) × (d.code ≡ e.code)
closed-more t d e h = (λ z. grind (arith, nat_tests), grind (arith, nat_tests))

unicode-sound : (t : List ℕ) (p : ℕ) (e : Escape) → get_or t (p + 1) 0 ≡ 117 → unicode_at t (p + 1 + 1) ≡ Some e → Unicode t p e.next e.code
unicode-sound t p e u h = elim (cases_Bool (eqb (get_or t (p + 1 + 1) 0) 123)) [
  | inl y ↦
      let d = digits_at t 6 (p + 1 + 1 + 1) 0 in
      let b = eqb-true (get_or t (p + 1 + 1) 0) 123 y in
      let q = opened t (p + 1 + 1) b refl ∙ h in
      let w = closed_parts t d e q in
      let m = closed-more t d e q in
      let l = within t d.next 125 w.0 (omega arith) in
      let o = digits-far t 6 (p + 1 + 1 + 1) 0 in
      let r = digits-sound t (p + 1 + 1 + 1) 6 (p + 1 + 1 + 1) 0 Number.none in
      let seven = m.0 in
      record { u = u; brace = b; stop = d.next; number = subst (Number t (p + 1 + 1 + 1) d.next) m.1 r.number; some = omega (arith, r.count, o, seven); six = omega (arith, r.count); close = w.0; end = w.2; within = omega (arith, l, w.2); good = w.1 }
  | inr n ↦ absurd (let x = unopened t (p + 1 + 1) (eqb-false _ _ n) in let z : ◌≡◌ {A = ℕ} 0 1 = cc in omega arith)
]

escape-sound : (t : List ℕ) (p : ℕ) (e : Escape) → escape_at t (p + 1) ≡ Some e → Escaped t p e.next e.code
escape-sound t p e h = elim (cases_Bool (eqb (get_or t (p + 1) 0) 117)) [
  | inl y ↦ let u = eqb-true (get_or t (p + 1) 0) 117 y in Escaped.unicode (unicode-sound t p e u (unicoded t (p + 1) u ∙ h))
  | inr n ↦
      let s = some-single (letter_of (get_or t (p + 1) 0)) (p + 1 + 1) e (lettered t (p + 1) (eqb-false _ _ n) refl ∙ h) in
      Escaped.letter (omega (arith, s.1)) (escape-sized t (p + 1) e h).within (letter-sound (get_or t (p + 1) 0) e.code s.0)
]

pub run_sound : (t : List ℕ) (p : ℕ) → p < run_end t p → p ≤ length t → Run t p (run_end t p)
unfolding run_end
run_sound t p o h = record {
  order = o;
  within = run-within t p h;
  each = λ k le lt. plain-from (get_or t k 0) (let same : p + (k - p) ≡ k = omega arith in ap is_plain (sym (ap (λ (m : ℕ). get_or t m 0) same) ∙ sym (get_or-drop p t (k - p) 0)) ∙ prefix_len_passes is_plain (drop p t) (k - p) 0 (omega arith));
  longest = λ lt pl.
      let n = prefix_len is_plain (drop p t) in
      let f : is_plain (get_or t (p + n) 0) ≡ false = ap is_plain (sym (get_or-drop p t n 0)) ∙ prefix_len_stops is_plain (drop p t) 0 (omega (arith, length-drop p t)) in
      let y = plain-to (get_or t (p + n) 0) pl in
      let z : true ≡ false = sym y ∙ f in
      grind (arith, nat_tests);
}

pub frag-sound : (t : List ℕ) (p : ℕ) → more t p ≡ true → (frag_at t p).reports ≡ [] → Fragment t p (frag_at t p).at (frag_at t p).bytes
frag-sound t p m h = elim (cases_Bool (is_plain (get_or t p 0))) [
  | inl y ↦ subst (λ (o : Out). Fragment t p o.at o.bytes) (frag-plain t p y) (Fragment.literal (run_sound t p (plain-moves t p l y).on (omega (arith, l))))
  | inr n ↦
      let q = frag-escape t p n refl in
      subst (λ (o : Out). Fragment t p o.at o.bytes) q (go (escape_at t (p + 1)) refl (grind (arith, nat_tests)) (ap (λ (o : Out). o.reports) q ∙ h))
]
  where
    l : p < length t
    l = more_within t p m

    go : (o : Option Escape) → o ≡ escape_at t (p + 1) → get_or t p 0 ≡ 92 → (escaped t p o).reports ≡ [] → Fragment t p (escaped t p o).at (escaped t p o).bytes
    go None is b q = absurd (let z = ap length q in omega arith)
    go (Some e) is b q = Fragment.escaped l b (escape-sound t p e (sym is))

pub both-empty : (a b : List Report) → a ++ b ≡ [] → (a ≡ []) × (b ≡ [])
both-empty [] b e = (refl, e)
both-empty (x ∷ a) b e = absurd (let z : ◌≡◌ {A = ℕ} 0 1 = cc in omega arith)

ends-from : (t : List ℕ) (p : ℕ) → more t p ≡ false → Ends t p
ends-from t p e lt = elim (cases_eq (get_or t p 0) 44) [ inl y ↦ inl y | inr n ↦ elim (cases_eq (get_or t p 0) 41) [ inl y ↦ inr y | inr k ↦ grind (arith, nat_tests) ] ]

pub frags-sound : (t : List ℕ) (f p : ℕ) → length t ≤ p + f → p ≤ length t → (frags_at t f p).reports ≡ [] → Fragments t p (frags_at t f p).at (frags_at t f p).bytes × Ends t (frags_at t f p).at
unfolding frags_at
frags-sound t zero p h w e = (Fragments.none, λ lt. absurd (omega arith))
frags-sound t (suc f) p h w e = elim (cases_Bool (more t p)) [
  | inl y ↦
      let q = frags-more t f p y in
      let a = frag_at t p in
      let b = both-empty a.reports (frags_at t f a.at).reports (sym (ap (λ (o : Out). o.reports) q) ∙ e) in
      let v = frag-moves t p (more_within t p y) in
      let r = frags-sound t f a.at (omega (arith, v.on)) v.within b.1 in
      subst (λ (o : Out). Fragments t p o.at o.bytes × Ends t o.at) (sym q) (Fragments.more (frag-sound t p y b.0) r.0, r.1)
  | inr n ↦ subst (λ (o : Out). Fragments t p o.at o.bytes × Ends t o.at) (sym (frags-end t (suc f) p n)) (Fragments.none, ends-from t p n)
]

-- where a run ends before a backslash, a name goes on
pub more-escape : (t : List ℕ) (p : ℕ) → get_or t (run_end t p) 0 ≡ 92 → p ≤ length t → more t p ≡ true
more-escape t p e h =
    let l = within t (run_end t p) 92 e (omega arith) in
    let f = run-from t p in
    let lt : p < length t = omega arith in
    elim (cases_Bool (is_plain (get_or t p 0))) [
      | inl y ↦ grind (arith, nat_tests)
      | inr n ↦ let b : get_or t p 0 ≡ 92 = ap (λ (q : ℕ). get_or t q 0) (run-here t p lt n) ∙ e in grind (arith, nat_tests)
    ]

sound-escape : (t : List ℕ) (p u : ℕ) (n : Name) → p ≤ length t → get_or t (run_end t p) 0 ≡ 92 → (decoded u (frags_at t (length t) p)).name ≡ Some n → Spells t p (frags_at t (length t) p).at (spelt t (frags_at t (length t) p) n) × ((frags_at t (length t) p).reports ≡ [])
sound-escape t p u n h e f =
    let o = frags_at t (length t) p in
    let m = more-escape t p e h in
    elim (cases_eq (length o.reports) 0) [
      | inr ne ↦ absurd (let x = found_none u o ne in let z : ◌≡◌ {A = ℕ} 0 1 = cc in omega arith)
      | inl z ↦
          let quiet = nil_from_length o.reports z in
          let g : Some (in_space u (length o.bytes)) ≡ Some n = sym (ap (λ (b : Bool). cond b (Some (in_space u (length o.bytes))) None) (eq-eqb (length o.reports) 0 z)) ∙ f in
          let is : in_space u (length o.bytes) ≡ n = cc in
          let k = fueled t (length t) p (omega arith) m in
          let a = frag_at t p in
          let q = k.2 in
          let b = both-empty a.reports (frags_at t k.0 a.at).reports (sym (ap (λ (x : Out). x.reports) q) ∙ quiet) in
          let v = frag-moves t p (more_within t p m) in
          let r = frags-sound t k.0 a.at (omega (arith, v.on, k.1)) v.within b.1 in
          let first = frag-sound t p m b.0 in
          let all : Spells t p o.at o.bytes = subst (λ (x : Out). Spells t p x.at x.bytes) (sym q) (record { middle = a.at; head = a.bytes; tail = (frags_at t k.0 a.at).bytes; first = first; rest = r.0; bytes = refl; end = r.1 }) in
          (subst (λ (x : Name). Spells t p o.at (spelt t o x)) is all, quiet)
    ]

sound-plain : (t : List ℕ) (p : ℕ) (n : Name) → p ≤ length t → (get_or t (run_end t p) 0 ≡ 92 → ⊥) → (whole p (run_end t p)).name ≡ Some n → Spells t p (whole p (run_end t p)).out.at (spelt t (whole p (run_end t p)).out n) × ((whole p (run_end t p)).out.reports ≡ [])
sound-plain t p n h ne f =
    let q = run_end t p in
    elim (cases_eq q p) [
      | inl e ↦ absurd (let x = whole-none p q e in let y = sym (ap (λ (w : Named). w.name) x) in let g : None ≡ Some n = ap (λ (w : Named). w.name) x ∙ f in let z : ◌≡◌ {A = ℕ} 0 1 = cc in omega arith)
      | inr e ↦
          let x = whole-some p q e in
          let g : Some (in_text p (q - p)) ≡ Some n = ap (λ (w : Named). w.name) x ∙ f in
          let is : in_text p (q - p) ≡ n = cc in
          let r = run_sound t p (omega (arith, run-from t p, e)) h in
          let end : Ends t q = λ lt. elim (cases_eq (get_or t q 0) 44) [ inl y ↦ inl y | inr a ↦ elim (cases_eq (get_or t q 0) 41) [ inl y ↦ inr y | inr b ↦ absurd (r.longest lt (record { comma = a; close = b; backslash = ne })) ] ] in
          let all : Spells t p q (take (q - p) (drop p t)) = record { middle = q; head = take (q - p) (drop p t); tail = []; first = Fragment.literal r; rest = Fragments.none; bytes = sym (append-nil (take (q - p) (drop p t))); end = end } in
          subst (λ (w : Named). Spells t p w.out.at (spelt t w.out n) × (w.out.reports ≡ [])) x (subst (λ (m : Name). Spells t p q (spelt t (done q) m)) is all, refl)
    ]

pub sound-names : Sound-names
sound-names t p u n h f = elim (cases_eq (get_or t (run_end t p) 0) 92) [
  | inl e ↦ let x = name-escape t p u e in
      subst (λ (w : Named). Spells t p w.out.at (spelt t w.out n) × (w.out.reports ≡ [])) x (sound-escape t p u n h e (ap (λ (w : Named). w.name) x ∙ f))
  | inr ne ↦ let x = name-plain t p u ne in
      subst (λ (w : Named). Spells t p w.out.at (spelt t w.out n) × (w.out.reports ≡ [])) x (sound-plain t p n h ne (ap (λ (w : Named). w.name) x ∙ f))
]
