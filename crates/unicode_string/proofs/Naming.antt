-- A name, case by case.
use Rattle.std.proofs.Common.{◌≡◌, ℕ, ◌-◌, Bool, cond, List, length, get_or, Some, None, sym, ap, ◌∙◌}
use Rattle.std.proofs.lemmas.Bool.{eq-eqb, ne_eqb}
use Rattle.errors.specs.declared.reports.ReportKind.TheVariants.{InvalidString}
use Rattle.unicode_string.specs.Text.{run_end}
use Rattle.unicode_string.specs.Names.{in_space, in_text, Out, Named, done, note, whole, decoded, frags_at, name_at}

module _ (t : List ℕ) (p u : ℕ) where
  pub name-escape : get_or t (run_end t p) 0 ≡ 92 → decoded u (frags_at t (length t) p) ≡ name_at t p u
  unfolding name_at
  name-escape e = sym (ap (λ (b : Bool). cond b (decoded u (frags_at t (length t) p)) (whole p (run_end t p))) (eq-eqb (get_or t (run_end t p) 0) 92 e))

  pub name-plain : (get_or t (run_end t p) 0 ≡ 92 → ⊥) → whole p (run_end t p) ≡ name_at t p u
  unfolding name_at
  name-plain e = sym (ap (λ (b : Bool). cond b (decoded u (frags_at t (length t) p)) (whole p (run_end t p))) (ne_eqb (get_or t (run_end t p) 0) 92 e))

module _ (p q : ℕ) where
  abbrev pub no_name : Named
  no_name = record { out = note (record { kind = InvalidString; start = q; length = 0 }) q; name = None }

  abbrev pub text_name : Named
  text_name = record { out = done q; name = Some (in_text p (q - p)) }

  pub whole-none : q ≡ p → no_name ≡ whole p q
  whole-none e = sym (ap (λ (b : Bool). cond b no_name text_name) (eq-eqb q p e))

  pub whole-some : (q ≡ p → ⊥) → text_name ≡ whole p q
  whole-some e = sym (ap (λ (b : Bool). cond b no_name text_name) (ne_eqb q p e))

module _ (u : ℕ) (o : Out) where
  pub found_none : (length o.reports ≡ 0 → ⊥) → None ≡ (decoded u o).name
  found_none e = sym (ap (λ (b : Bool). cond b (Some (in_space u (length o.bytes))) None) (ne_eqb (length o.reports) 0 e))

  pub found_some : {n : ℕ} → length o.reports ≡ 0 → n ≡ length o.bytes → Some (in_space u n) ≡ (decoded u o).name
  found_some e is = ap (λ (n : ℕ). Some (in_space u n)) is ∙ sym (ap (λ (b : Bool). cond b (Some (in_space u (length o.bytes))) None) (eq-eqb (length o.reports) 0 e))
