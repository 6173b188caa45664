-- Names and how they are matched.
use Rattle.std.proofs.Common.{◌≡◌, ℕ, ◌-◌, Bool, true, false, cond, ◌⊎◌, List, [], is_some, Some, None, Ok, Option, Result, unwrap_or, sym, refl, ap, ◌∙◌, subst, inl, inr, arith}
use Rattle.errors.specs.declared.reports.ReportKind.TheVariants.{InvalidGlob}
use Rattle.errors.specs.declared.faults.ReadingFault.{ReadingFault}
use Rattle.glob.specs.Reading.{items_of}
use Rattle.unicode_string.specs.declared.Name.{Name}
use Rattle.unicode_string.specs.Names.{bytes_in}
use Rattle.expression.specs.declared.name_matcher.MatchKind.{MatchKind}
use Rattle.expression.specs.declared.name_matcher.MatchKind.TheVariants.{Equal, Contains, Glob}
use Rattle.parsing.specs.Reading.{Out, Called, done, note, report_of, checked, text_at, matcher_at}
use Rattle.parsing.specs.View.{St, Ran, Spelt, bytes_at, name_only, matcher_only}
use Rattle.parsing.proofs.Runs.{Got, got-ok, got-then, got-done, got-by, ran-by}

none-name : (x : Option Called) → None ≡ name_only x → x ≡ None
none-name None e = refl
none-name (Some y) e = absurd (let z : ◌≡◌ {A = ℕ} 0 1 = cc in omega arith)

some-name : {n : Name} (x : Option Called) → Some n ≡ name_only x → (y : Called) × (x ≡ Some y) × (n ≡ y.name)
some-name None e = absurd (let z : ◌≡◌ {A = ℕ} 0 1 = cc in omega arith)
some-name (Some y) e = (y, refl, cc)

pub none_read : {s e : St} {o : Out (Option Called)} → Ran name_only s o e (Ok None) → Got s o e (Ok None)
none_read {s} {e} {o} h =
    let w = got-ok name_only h in
    record { state = h.state; value = w.1.value ∙ ap (λ (x : Option Called). Ok x) (none-name w.0 w.2) }

pub some_read : {s e : St} {o : Out (Option Called)} {n : Name} → Ran name_only s o e (Ok (Some n)) → (y : Called) × Got s o e (Ok (Some y)) × (n ≡ y.name)
some_read {s} {e} {o} {n} h =
    let w = got-ok name_only h in
    let v = some-name w.0 w.2 in
    (v.0, record { state = h.state; value = w.1.value ∙ ap (λ (x : Option Called). Ok x) v.1 }, v.2)

-- the bytes of the name are those that were read
pub same_bytes : (t s : List ℕ) (n : Name) (v : Result (Option Called) ReadingFault) (y : Called) → Spelt t s v → v ≡ Ok (Some y) → n ≡ y.name → bytes_at t s n ≡ y.bytes
same_bytes t s n v y h e is =
    let g : bytes_in t s y.name ≡ Some y.bytes = subst (Spelt t s) e h in
    ap (bytes_at t s) is ∙ ap (λ (o : Option (List ℕ)). unwrap_or o []) g

module _ (t : List ℕ) (k : MatchKind) {s m : St} where
  pub matched-none : Got s (text_at t s.at) m (Ok None) → Ran matcher_only s (matcher_at t k s.at) m (Ok None)
  unfolding matcher_at
  matched-none h =
      ran-by matcher_only (got-then (text_at t) _ h (got-then (checked s.at.pos k None) _ (got-done m None) (got-by refl (got-done m None)))) refl

  pub matched-plain : (y : Called) {n : Name} → Got s (text_at t s.at) m (Ok (Some y)) → (k ≡ Equal) ⊎ (k ≡ Contains) → n ≡ y.name → Ran matcher_only s (matcher_at t k s.at) m (Ok (Some (record { kind = k; name = n })))
  unfolding matcher_at
  matched-plain y {n} h is q =
      let e : done (Some y) m.at ≡ checked s.at.pos k (Some y) m.at = elim is [
        | inl z ↦ ap (λ (x : MatchKind). checked s.at.pos x (Some y) m.at) (sym z)
        | inr z ↦ ap (λ (x : MatchKind). checked s.at.pos x (Some y) m.at) (sym z)
      ] in
      ran-by matcher_only (got-then (text_at t) _ h (got-then (checked s.at.pos k (Some y)) _ (got-by e (got-done m (Some y))) (got-done m (Some (record { kind = k; called = y })))))
      (ap (λ (x : Name). Ok (Some (record { kind = k; name = x }))) q)

  pub matched-glob : (y : Called) {n : Name} → Got s (text_at t s.at) m (Ok (Some y)) → k ≡ Glob → true ≡ is_some (items_of y.bytes) → n ≡ y.name → Ran matcher_only s (matcher_at t k s.at) m (Ok (Some (record { kind = k; name = n })))
  unfolding matcher_at
  matched-glob y {n} h is fine q =
      let bad : Out (Option Called) = note None (report_of InvalidGlob s.at.pos (m.at.pos - s.at.pos)) m.at in
      let e : done (Some y) m.at ≡ checked s.at.pos k (Some y) m.at =
      ap (λ (b : Bool). cond b (done (Some y) m.at) bad) fine ∙ ap (λ (x : MatchKind). checked s.at.pos x (Some y) m.at) (sym is) in
      ran-by matcher_only (got-then (text_at t) _ h (got-then (checked s.at.pos k (Some y)) _ (got-by e (got-done m (Some y))) (got-done m (Some (record { kind = k; called = y })))))
      (ap (λ (x : Name). Ok (Some (record { kind = k; name = x }))) q)

  pub matched-bad : {e : St} (y : Called) → Got s (text_at t s.at) m (Ok (Some y)) → k ≡ Glob → false ≡ is_some (items_of y.bytes) →
      Ran (λ x. x) m (note {X = Unit {0}} tt (report_of InvalidGlob s.at.pos (m.at.pos - s.at.pos)) m.at) e (Ok tt) → Ran matcher_only s (matcher_at t k s.at) e (Ok None)
  unfolding matcher_at
  matched-bad {e} y h is fine r =
      let bad : Out (Option Called) = note None (report_of InvalidGlob s.at.pos (m.at.pos - s.at.pos)) m.at in
      let q : bad ≡ checked s.at.pos k (Some y) m.at =
      ap (λ (b : Bool). cond b (done (Some y) m.at) bad) fine ∙ ap (λ (x : MatchKind). checked s.at.pos x (Some y) m.at) (sym is) in
      let g : Got m bad e (Ok None) = record { state = r.state; value = refl } in
      ran-by matcher_only (got-then (text_at t) _ h (got-then (checked s.at.pos k (Some y)) _ (got-by q g) (got-done e None))) refl
