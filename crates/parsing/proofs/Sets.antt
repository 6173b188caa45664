-- Sets, step by step.
use Rattle.std.proofs.Common.{◌≡◌, ℕ, ◌+◌, Bool, true, false, cond, List, [], ◌++◌, Some, None, Ok, Err, vec_items, Option, Result, Vec, refl, ap, ◌∙◌, arith, Bor, MutBor}
use lib.Seq.{sets}
use Rattle.std.specs.declared.alloc.Global.{Global}
use Rattle.errors.specs.declared.faults.ReadingFault.{ReadingFault}
use Rattle.parsing.specs.declared.cursor.Cursor.{Cursor}
use Rattle.parsing.specs.declared.nodes.Predicate.{Predicate}
use Rattle.parsing.specs.declared.nodes.NameMatcher.{NameMatcher}
use Rattle.parsing.specs.declared.nodes.ParsedNode.{ParsedNode}
use Rattle.parsing.specs.declared.words.Nullary.{Nullary}
use Rattle.parsing.specs.Tree.{Tree}
use Rattle.errors.specs.declared.reports.ReportKind.TheVariants.{ExpectedCloseParenthesis, UnexpectedComma}
use Rattle.parsing.specs.Text.{skip, is_at, closing}
use Rattle.parsing.specs.Words.{usual}
use Rattle.parsing.specs.Grammar.{between}
use Rattle.parsing.specs.Reading.{At, Out, Called, Matched, ◌⨾◌, follow, after, moved, note, told, done, report_of, open_at, close_at, comma_at, closed_at, argument_at, matched_leaf, unary_at, text_at, platform_leaf, platform_at, nothing_at, nullary_leaf, nullary_at}
use Rattle.parsing.specs.View.{St, Ran, Kept, held, matcher_only}
use Rattle.parsing.proofs.Runs.{Got, got-then, got-stop, got-done, got-ok}

pub same_text : {c d : Cursor} → Kept c d → d.text.now ≡ c.text.now
same_text k = ap (λ (r : Bor (List ℕ)). r.now) k.text

pub same_nodes : {c d : Cursor} → Kept c d → held d ≡ held c
same_nodes k = ap (λ (r : MutBor (Vec ParsedNode Global)). vec_items r.now) k.nodes

cond-none : (b : Bool) (x y : Out (Unit {0})) → x.bytes ≡ [] → y.bytes ≡ [] → (cond b x y).bytes ≡ []
cond-none true x y p q = p
cond-none false x y p q = q

close-none : (t : List ℕ) (a : At) → (close_at t a).bytes ≡ []
close-none t a = cond-none (is_at t (skip t a.pos) 41) (moved (skip t a.pos + 1) a) (note tt (report_of ExpectedCloseParenthesis a.pos 0) a) refl refl

comma-none : (t : List ℕ) (a : At) → (comma_at t a).bytes ≡ []
unfolding comma_at
comma-none t a = cond-none (is_at t a.pos 44) (told tt (report_of UnexpectedComma a.pos 0) (closing t a.pos) a) (done tt a) refl refl

both-none : (f g : At → Out (Unit {0})) → ((a : At) → (f a).bytes ≡ []) → ((a : At) → (g a).bytes ≡ []) → (a : At) → ((f ⨾ (λ _. g)) a).bytes ≡ []
unfolding ◌⨾◌
both-none f g p q a = go (f a).value
  where
    go : (v : Result (Unit {0}) ReadingFault) → (follow a (f a) (λ _. g) v).bytes ≡ []
    go (Ok x) = ap (λ (l : List ℕ). l ++ (g (after a (f a))).bytes) (p a) ∙ q (after a (f a))
    go (Err e) = p a

module _ (t : List ℕ) where
  pub closed-got : {s m e : St} → Got s (comma_at t s.at) m (Ok tt) → Got m (close_at t m.at) e (Ok tt) → Got s (closed_at t s.at) e (Ok tt)
  closed-got a b = got-then (comma_at t) (λ _. close_at t) a b

  -- which writes nothing to the decoding space
  pub closed-space : (a : At) (l : List ℕ) → sets l a.used (closed_at t a).bytes ≡ l
  closed-space a l = ap (sets l a.used) (both-none (comma_at t) (close_at t) (comma-none t) (close-none t) a)

  module _ (p : Predicate) where
    pub unary-got : {s a b e : St} {m : Option Matched} → Got s (open_at t s.at) a (Ok tt) → Got a (argument_at t (usual p) a.at) b (Ok m) → Got b (closed_at t b.at) e (Ok tt) →
        Got s (unary_at t p s.at) e (Ok (matched_leaf p (between a.at.pos b.at.pos) m))
    unfolding unary_at
    unary-got {s} {a} {b} {e} {m} o g h = got-then (open_at t) _ o (got-then (argument_at t (usual p)) _ g (got-then (closed_at t) _ h (got-done e (matched_leaf p (between a.at.pos b.at.pos) m))))

    pub unary-stop : {s a b : St} {x : ReadingFault} → Got s (open_at t s.at) a (Ok tt) → Got a (argument_at t (usual p) a.at) b (Err x) → Got s (unary_at t p s.at) b (Err x)
    unfolding unary_at
    unary-stop o g = got-then (open_at t) _ o (got-stop (argument_at t (usual p)) _ g)

  pub platform-got : {s a b d e f : St} {n : Option Called} {v : Result (Tree Called) ReadingFault} → Got s (open_at t s.at) a (Ok tt) → Got a (moved (skip t a.at.pos) a.at) b (Ok tt) →
      Got b (text_at t b.at) d (Ok n) → Got d (closed_at t d.at) e (Ok tt) → Got e (platform_leaf (between a.at.pos d.at.pos) n e.at) f v → Got s (platform_at t s.at) f v
  unfolding platform_at
  platform-got {s} {a} {b} {d} {e} {f} {n} {v} o m g h w =
      got-then (open_at t) _ o (got-then (moved (skip t a.at.pos)) _ m (got-then (text_at t) _ g (got-then (closed_at t) (λ _. platform_leaf (between a.at.pos d.at.pos) n) h w)))

  pub nullary-got : {s a b e : St} (n : Nullary) (p : ℕ) → Got s (open_at t s.at) a (Ok tt) → Got a (nothing_at t a.at) b (Ok tt) → Got b (close_at t b.at) e (Ok tt) →
      Got s (nullary_at t n p s.at) e (Ok (nullary_leaf n (between p e.at.pos)))
  unfolding nullary_at
  nullary-got {s} {a} {b} {e} n p o g h = got-then (open_at t) _ o (got-then (nothing_at t) _ g (got-then (close_at t) _ h (got-done e (nullary_leaf n (between p e.at.pos)))))

-- what was matched
none-matched : (x : Option Matched) → None ≡ matcher_only x → x ≡ None
none-matched None e = refl
none-matched (Some y) e = absurd (let z : ◌≡◌ {A = ℕ} 0 1 = cc in omega arith)

some-matched : {n : NameMatcher} (x : Option Matched) → Some n ≡ matcher_only x → (y : Matched) × (x ≡ Some y) × (n ≡ record { kind = y.kind; name = y.called.name })
some-matched None e = absurd (let z : ◌≡◌ {A = ℕ} 0 1 = cc in omega arith)
some-matched (Some y) e = (y, refl, cc)

pub matched-none : {s e : St} {o : Out (Option Matched)} → Ran matcher_only s o e (Ok None) → Got s o e (Ok None)
matched-none {s} {e} {o} h =
    let w = got-ok matcher_only h in
    record { state = h.state; value = w.1.value ∙ ap (λ (x : Option Matched). Ok x) (none-matched w.0 w.2) }

pub matched-some : {s e : St} {o : Out (Option Matched)} {n : NameMatcher} → Ran matcher_only s o e (Ok (Some n)) → (y : Matched) × Got s o e (Ok (Some y)) × (n ≡ record { kind = y.kind; name = y.called.name })
matched-some {s} {e} {o} {n} h =
    let w = got-ok matcher_only h in
    let v = some-matched w.0 w.2 in
    (v.0, record { state = h.state; value = w.1.value ∙ ap (λ (x : Option Matched). Ok x) v.1 }, v.2)
