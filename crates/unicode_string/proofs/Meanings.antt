-- A name as a part of the text or of the decoding space.
use Rattle.std.proofs.Common.{◌≡◌, ℕ, zero, suc, ◌+◌, ◌-◌, ◌<◌, ◌≤◌, Bool, true, cond, List, ◌++◌, length, get_or, take, drop, Some, None, sym, refl, ap, ◌∙◌, subst, inl, inr, append_assoc, arith, length-append, length-take-le, take_at, drop_at}
use lib.Seq.{sets, sets-eq, length-sets}
use Rattle.std.proofs.lemmas.Bool.{cases_eq, cases_Bool, eq-eqb, le-leb}
use Rattle.std.proofs.lemmas.Bool.Decides.{nat_tests}
use Rattle.glob.specs.Parts.{part_of}
use Rattle.unicode_string.specs.declared.Name.{Name}
use Rattle.unicode_string.specs.declared.NameRead.{NameRead}
use Rattle.unicode_string.specs.Text.{run_end}
use Rattle.unicode_string.specs.Names.{spelt, in_space, in_text, Out, Named, done, whole, decoded, more, frag_at, frags_at, name_at, bytes_in, has_room}
use Rattle.unicode_string.specs.Grammar.{Spells, Meant}
use Rattle.unicode_string.proofs.Frags.{frag-moves, more_within, run-within, run-from}
use Rattle.unicode_string.proofs.Loops.{frags-end, frags-more}
use Rattle.unicode_string.proofs.Naming.{name-escape, name-plain, whole-none, whole-some, found_none, found_some}
use Rattle.unicode_string.proofs.Sound.{sound-names}
use Rattle.unicode_string.proofs.Whole.{whole-names, one_name}
use Rattle.unicode_string.proofs.WellFormed.{text-names}

-- bytes decoded never pass the bytes read
pub frags-size : (t : List ℕ) (f p : ℕ) → p ≤ length t → (p + length (frags_at t f p).bytes ≤ (frags_at t f p).at) × ((frags_at t f p).at ≤ length t)
unfolding frags_at
frags-size t zero p h = (omega arith, h)
frags-size t (suc f) p h = elim (cases_Bool (more t p)) [
  | inl y ↦
      let v = frag-moves t p (more_within t p y) in
      let a = frag_at t p in
      let r = frags-size t f a.at v.within in
      subst (λ (o : Out). (p + length o.bytes ≤ o.at) × (o.at ≤ length t)) (sym (frags-more t f p y)) (omega (arith, v.size, r.0, length-append a.bytes (frags_at t f a.at).bytes), r.1)
  | inr n ↦ subst (λ (o : Out). (p + length o.bytes ≤ o.at) × (o.at ≤ length t)) (sym (frags-end t (suc f) p n)) (omega arith, h)
]

written : (s b : List ℕ) (u : ℕ) → u + length b ≤ length s → take (length b) (drop u (sets s u b)) ≡ b
written s b u h =
    let l = length-take-le u s (omega arith) in
    ap (λ (x : List ℕ). take (length b) (drop u x)) (sets-eq b s u h ∙ append_assoc (take u s) b (drop (u + length b) s))
    ∙ ap (take (length b)) (drop_at (take u s) (b ++ drop (u + length b) s) u l)
    ∙ take_at b (drop (u + length b) s) (length b) refl

-- a name that was found lies within, and its bytes stand in its place
abbrev pub Lies : List ℕ → List ℕ → ℕ → Named → Name → Type 0
Lies t s u w n = bytes_in t (sets s u w.out.bytes) n ≡ Some (spelt t w.out n)

-- a place that lies within
part : (l : List ℕ) (a n : ℕ) → a + n ≤ length l → part_of l (record { start = a; length = n }) ≡ Some (take n (drop a l))
part l a n h = ap (λ (b : Bool). cond b (Some (take n (drop a l))) None) (le-leb (a + n) (length l) h)

module _ (t s : List ℕ) (p u : ℕ) (n : Name) (h : p ≤ length t) (size : length s ≡ 1024) (room : u + (length t - p) ≤ 1024) where
  lies-escape : (decoded u (frags_at t (length t) p)).name ≡ Some n → Lies t s u (decoded u (frags_at t (length t) p)) n
  lies-escape f =
      let o = frags_at t (length t) p in
      let z = frags-size t (length t) p h in
      elim (cases_eq (length o.reports) 0) [
        | inr ne ↦ absurd (let x = found_none u o ne in let z : ◌≡◌ {A = ℕ} 0 1 = cc in omega arith)
        | inl e ↦
            let g : Some (in_space u (length o.bytes)) ≡ Some n = sym (ap (λ (b : Bool). cond b (Some (in_space u (length o.bytes))) None) (eq-eqb (length o.reports) 0 e)) ∙ f in
            let is : in_space u (length o.bytes) ≡ n = cc in
            subst (Lies t s u (decoded u o)) is (let w : u + length o.bytes ≤ length s = omega (arith, z.0, z.1, room, size) in part (sets s u o.bytes) u (length o.bytes) (rw (length-sets s u o.bytes) w) ∙ ap (λ (b : List ℕ). Some b) (written s o.bytes u w))
      ]

  lies-plain : (whole p (run_end t p)).name ≡ Some n → Lies t s u (whole p (run_end t p)) n
  lies-plain f =
      let q = run_end t p in
      elim (cases_eq q p) [
        | inl e ↦ absurd (let g : None ≡ Some n = ap (λ (w : Named). w.name) (whole-none p q e) ∙ f in let z : ◌≡◌ {A = ℕ} 0 1 = cc in omega arith)
        | inr e ↦
            let x = whole-some p q e in
            let g : Some (in_text p (q - p)) ≡ Some n = ap (λ (w : Named). w.name) x ∙ f in
            let is : in_text p (q - p) ≡ n = cc in
            subst (λ (w : Named). Lies t s u w n) x (subst (Lies t s u (record { out = done q; name = Some (in_text p (q - p)) })) is (part t p (q - p) (omega (arith, run-within t p h, run-from t p))))
      ]

  pub lies : (name_at t p u).name ≡ Some n → Lies t s u (name_at t p u) n
  lies f = elim (cases_eq (get_or t (run_end t p) 0) 92) [
    | inl e ↦ let x = name-escape t p u e in subst (λ (w : Named). Lies t s u w n) x (lies-escape (ap (λ (w : Named). w.name) x ∙ f))
    | inr ne ↦ let x = name-plain t p u ne in subst (λ (w : Named). Lies t s u w n) x (lies-plain (ap (λ (w : Named). w.name) x ∙ f))
  ]

-- no name, then a report
pub told : (t : List ℕ) (p u : ℕ) → (name_at t p u).name ≡ None → 0 < length (name_at t p u).out.reports
told t p u f = elim (cases_eq (get_or t (run_end t p) 0) 92) [
  | inl e ↦
      let o = frags_at t (length t) p in
      let x = name-escape t p u e in
      subst (λ (w : Named). 0 < length w.out.reports) x (elim (cases_eq (length o.reports) 0) [
        | inl z ↦ absurd (let g : Some (in_space u (length o.bytes)) ≡ None = found_some u o z refl ∙ ap (λ (w : Named). w.name) x ∙ f in let i : ◌≡◌ {A = ℕ} 0 1 = cc in omega arith)
        | inr ne ↦ omega arith
      ])
  | inr ne ↦
      let q = run_end t p in
      let x = name-plain t p u ne in
      subst (λ (w : Named). 0 < length w.out.reports) x (elim (cases_eq q p) [
        | inl e ↦ subst (λ (w : Named). 0 < length w.out.reports) (whole-none p q e) (omega arith)
        | inr e ↦ absurd (let g : Some (in_text p (q - p)) ≡ None = ap (λ (w : Named). w.name) (whole-some p q e ∙ x) ∙ f in let i : ◌≡◌ {A = ℕ} 0 1 = cc in omega arith)
      ])
]

pub meant : (t s e : List ℕ) (p c u : ℕ) (r : NameRead) → has_room t p c u ≡ true → length s ≡ 1024 →
    r.name ≡ (name_at t p u).name → r.end ≡ (name_at t p u).out.at → r.count ≡ c + length (name_at t p u).out.reports → e ≡ sets s u (name_at t p u).out.bytes → Meant t e p c r
meant t s e p c u r ok size name end count space =
    let h : p ≤ length t = grind (arith, nat_tests) in
    let room : u + (length t - p) ≤ 1024 = grind (arith, nat_tests) in
    record {
      sound = λ n f.
          let g = sym name ∙ f in
          let l = lies t s p u n h size room g in
          (spelt t (name_at t p u).out n, ap (λ (x : List ℕ). bytes_in t x n) space ∙ l, subst (λ (j : ℕ). Spells t p j (spelt t (name_at t p u).out n)) (sym end) (sound-names t p u n h g).0);
      whole = λ j b x.
          let f = whole-names t p u j b h x in
          let l = lies t s p u f.name h size room f.found in
          (f.name, name ∙ f.found, end ∙ f.end, ap (λ (y : List ℕ). bytes_in t y f.name) space ∙ l ∙ ap (λ (y : List ℕ). Some y) f.bytes, omega (arith, count, ap length f.quiet));
      one = λ i j a b x y. one_name t p i j a b h x y;
      text = λ j b w g x. text-names t p j b w g x;
      told = λ f. omega (arith, told t p u (sym name ∙ f), count);
    }
