-- What the reading of a name comes to.
use Rattle.std.proofs.Common.{◌≡◌, ℕ, zero, suc, ◌+◌, ◌-◌, ◌^◌, ◌≤◌, Bool, true, cond, ltb, leb, List, [], ◌∷◌, length, get_or, Some, None, Ok, Option, vec_len, vec_capacity, Vec, sym, refl, ap, ◌∙◌, subst, inl, inr, arith, length-append}
use lib.Seq.{sets}
use Rattle.std.proofs.lemmas.Bool.{cases_eq, cases_Bool, le-leb, lt-ltb, eq-eqb, ne_eqb}
use Rattle.std.specs.Option.{option_or}
use Rattle.errors.specs.declared.reports.Report.{Report}
use Rattle.unicode_string.specs.declared.Name.{Name}
use Rattle.unicode_string.specs.declared.NameRead.{NameRead}
use Rattle.unicode_string.specs.Text.{run_end}
use Rattle.unicode_string.specs.Grammar.{Meant}
use Rattle.unicode_string.specs.Names.{Named, done, whole, decoded, more, frag_at, frags_at, name_at, bytes_in, in_text, spelt, first_start, has_room, out_at, read_at}
use Rattle.unicode_string.specs.Names as names
use Rattle.unicode_string.proofs.Frags.{frag-moves, more_within, run-within, run-from}
use Rattle.unicode_string.proofs.Loops.{frags-end, frags-more}
use Rattle.unicode_string.proofs.Naming.{name-escape, name-plain, whole-none, whole-some}
use Rattle.unicode_string.proofs.Sound.{sound-names}
use Rattle.std.specs.declared.alloc.Global.{Global}
use Rattle.parsing.specs.declared.nodes.ParsedNode.{ParsedNode}
use Rattle.parsing.specs.declared.cursor.Cursor.{Cursor}
use Rattle.parsing.specs.Reading.{called_as, called, text_at}
use Rattle.parsing.specs.View.{St, grow, Sound, Moved, Spelt, name_only}

-- how far a name goes, against its bytes and reports
pub record Far (t : List ℕ) (p : ℕ) (o : names.Out) : Type 0 where
  pub on : p ≤ o.at
  pub within : o.at ≤ length t
  pub bytes : p + length o.bytes ≤ o.at
  pub reports : p + length o.reports ≤ o.at + 1

frags-far : (t : List ℕ) (f p : ℕ) → p ≤ length t → (p + (length (frags_at t f p).bytes + length (frags_at t f p).reports) ≤ (frags_at t f p).at) × ((frags_at t f p).at ≤ length t)
unfolding frags_at
frags-far t zero p h = (omega arith, h)
frags-far t (suc f) p h = elim (cases_Bool (more t p)) [
  | inl y ↦
      let v = frag-moves t p (more_within t p y) in
      let a = frag_at t p in
      let r = frags-far t f a.at v.within in
      subst (λ (o : names.Out). (p + (length o.bytes + length o.reports) ≤ o.at) × (o.at ≤ length t)) (sym (frags-more t f p y))
      (omega (arith, v.size, r.0, length-append a.bytes (frags_at t f a.at).bytes, length-append a.reports (frags_at t f a.at).reports), r.1)
  | inr n ↦ subst (λ (o : names.Out). (p + (length o.bytes + length o.reports) ≤ o.at) × (o.at ≤ length t)) (sym (frags-end t (suc f) p n)) (omega arith, h)
]

pub name-far : (t : List ℕ) (p u : ℕ) → p ≤ length t → Far t p (name_at t p u).out
name-far t p u h = elim (cases_eq (get_or t (run_end t p) 0) 92) [
  | inl e ↦
      let z = frags-far t (length t) p h in
      subst (λ (w : Named). Far t p w.out) (name-escape t p u e) (record { on = omega (arith, z.0); within = z.1; bytes = omega (arith, z.0); reports = omega (arith, z.0) })
  | inr ne ↦
      let q = run_end t p in
      let w = run-within t p h in
      let f = run-from t p in
      subst (λ (w : Named). Far t p w.out) (name-plain t p u ne) (elim (cases_eq q p) [
        | inl e ↦ subst (λ (w : Named). Far t p w.out) (whole-none p q e) (record { on = f; within = w; bytes = omega (arith, f); reports = omega (arith, f) })
        | inr e ↦ subst (λ (w : Named). Far t p w.out) (whole-some p q e) (record { on = f; within = w; bytes = omega (arith, f); reports = omega (arith, f) })
      ])
]

pub has_room_lem : {k m : ℕ} (c : Cursor) → Sound k m c → m ≤ 16 → has_room c.text.now c.pos c.count c.used ≡ true
has_room_lem {k} {m} c s h =
    let n = length c.text.now in
    let a : leb c.pos n ≡ true = le-leb c.pos n s.within in
    let b : leb (c.used + (n - c.pos)) 1024 ≡ true = le-leb (c.used + (n - c.pos)) 1024 (omega (arith, s.short, s.within, s.space)) in
    let d : ltb (c.count + (n - c.pos) + 1) (2 ^ 64) ≡ true = lt-ltb (c.count + (n - c.pos) + 1) (2 ^ 64) (omega (arith, s.short, s.within, s.few)) in
    rw (a, b, d) refl

-- the bounds after a name
pub moved-name : {k m : ℕ} {c d : Cursor} {o : names.Out} → Sound k m c → Far c.text.now c.pos o → d.text.now ≡ c.text.now → d.parts ≡ c.parts → d.nodes.now ≡ c.nodes.now →
    d.pos ≡ o.at → d.count ≡ c.count + length o.reports → d.used ≡ c.used + length o.bytes → Moved 0 1 0 c d
moved-name {k} {m} {c} {d} {o} s far text parts nodes pos count used =
    let n : vec_len d.nodes.now ≡ vec_len c.nodes.now = ap (λ (v : Vec ParsedNode Global). vec_len v) nodes in
    record {
      text = text;
      on = omega (arith, pos, far.on);
      within = omega (arith, pos, far.within);
      cap = ap (λ (v : Vec ParsedNode Global). vec_capacity v) nodes;
      made = omega (arith, n, parts);
      crowd = omega (arith, parts, s.crowd);
      few = omega (arith, pos, count, far.reports, far.on);
      space = omega (arith, pos, used, far.bytes);
    }

-- what the call answers where there is room
abbrev pub all_read : List ℕ → ℕ → ℕ → ℕ → NameRead
all_read t p c u = record { name = (name_at t p u).name; end = (name_at t p u).out.at; count = c + length (name_at t p u).out.reports; used = u + length (name_at t p u).out.bytes; first = first_start None (name_at t p u).out.reports }

module _ (t : List ℕ) (p c u : ℕ) (ok : has_room t p c u ≡ true) where
  pub read_all : (r : NameRead) → Some r ≡ read_at t p c u → r ≡ all_read t p c u
  read_all r e =
      let g : Some r ≡ Some (all_read t p c u) = e ∙ ap (λ (b : Bool). cond b (Some (all_read t p c u)) None) ok in
      cc

  pub read_some : None ≡ read_at t p c u → ⊥
  read_some e =
      let g : None ≡ Some (all_read t p c u) = e ∙ ap (λ (b : Bool). cond b (Some (all_read t p c u)) None) ok in
      let z : ◌≡◌ {A = ℕ} 0 1 = cc in omega arith

  pub out-all : out_at t p c u ≡ (name_at t p u).out
  out-all = ap (λ (b : Bool). cond b (name_at t p u).out (done p)) ok

or-first : (f : Option ℕ) (l : List Report) → option_or f (first_start None l) ≡ first_start f l
or-first None [] = refl
or-first None (r ∷ l) = refl
or-first (Some p) [] = refl
or-first (Some p) (r ∷ l) = refl

-- the state after a name
pub text-state : (s : St) (r : NameRead) (f : Option ℕ) (l : List Report) (b : List ℕ) (m : ℕ) → has_room s.text s.at.pos s.at.count s.at.used ≡ true →
    r ≡ all_read s.text s.at.pos s.at.count s.at.used → f ≡ option_or s.first r.first →
    l ≡ sets s.table s.at.count (out_at s.text s.at.pos s.at.count s.at.used).reports →
    b ≡ sets s.space s.at.used (out_at s.text s.at.pos s.at.count s.at.used).bytes → m ≡ s.lent →
    record { text = s.text; at = record { pos = r.end; parts = s.at.parts; count = r.count; used = r.used }; first = f; table = l; space = b; lent = m; held = s.held; kept = s.kept } ≡ grow s (text_at s.text s.at)
unfolding text_at
text-state s r f l b m ok is fe le be me =
    let t = s.text in
    let p = s.at.pos in
    let k = s.at.count in
    let u = s.at.used in
    let n = (name_at t p u).out in
    let mk : NameRead → Option ℕ → List Report → List ℕ → ℕ → St = λ r f l b m. record { text = t; at = record { pos = r.end; parts = s.at.parts; count = r.count; used = r.used }; first = f; table = l; space = b; lent = m; held = s.held; kept = s.kept } in
    let f' : f ≡ first_start s.first n.reports = fe ∙ ap (λ (x : NameRead). option_or s.first x.first) is ∙ or-first s.first n.reports in
    let l' : l ≡ sets s.table k n.reports = le ∙ ap (λ (o : names.Out). sets s.table k o.reports) (out-all t p k u ok) in
    let b' : b ≡ sets s.space u n.bytes = be ∙ ap (λ (o : names.Out). sets s.space u o.bytes) (out-all t p k u ok) in
    let R = all_read t p k u in
    ap (λ (x : NameRead). mk x f l b m) is ∙ ap (λ (x : Option ℕ). mk R x l b m) f' ∙ ap (λ (x : List Report). mk R (first_start s.first n.reports) x b m) l'
    ∙ ap (λ (x : List ℕ). mk R (first_start s.first n.reports) (sets s.table k n.reports) x m) b'
    ∙ ap (mk R (first_start s.first n.reports) (sets s.table k n.reports) (sets s.space u n.bytes)) me

-- the name itself
module _ (t : List ℕ) (p u : ℕ) where
  pub name-empty : (name_at t p u).out.at ≡ p → Some (record { name = in_text p 0; bytes = [] }) ≡ called t p (name_at t p u)
  name-empty e = sym (ap (λ (b : Bool). cond b (Some (record { name = in_text p 0; bytes = [] })) (called_as t (name_at t p u).out (name_at t p u).name)) (eq-eqb (name_at t p u).out.at p e))

  pub name-full : ((name_at t p u).out.at ≡ p → ⊥) → called_as t (name_at t p u).out (name_at t p u).name ≡ called t p (name_at t p u)
  name-full e = sym (ap (λ (b : Bool). cond b (Some (record { name = in_text p 0; bytes = [] })) (called_as t (name_at t p u).out (name_at t p u).name)) (ne_eqb (name_at t p u).out.at p e))

pub only-name : (t : List ℕ) (o : names.Out) (n : Option Name) → n ≡ name_only (called_as t o n)
only-name t o None = refl
only-name t o (Some n) = refl

-- its bytes stand in their place
pub empty-spelt : (t s : List ℕ) (p : ℕ) → p ≤ length t → bytes_in t s (in_text p 0) ≡ Some []
empty-spelt t s p h = ap (λ (b : Bool). cond b (Some []) None) (le-leb (p + 0) (length t) (omega arith))

pub full-spelt : (t s : List ℕ) (p c u : ℕ) (r : NameRead) → p ≤ length t → r ≡ all_read t p c u → Meant t s p c r → Spelt t s (Ok (called_as t (name_at t p u).out (name_at t p u).name))
full-spelt t s p c u r h is m = go (name_at t p u).name refl
  where
    go : (n : Option Name) → (name_at t p u).name ≡ n → Spelt t s (Ok (called_as t (name_at t p u).out n))
    go None e = tt
    go (Some n) e =
        let w = m.sound n (ap (λ (x : NameRead). x.name) is ∙ e) in
        let v = (sound-names t p u n h e).0 in
        let q = m.one r.end (name_at t p u).out.at w.0 (spelt t (name_at t p u).out n) w.2 v in
        w.1 ∙ ap (λ (b : List ℕ). Some b) q.1
