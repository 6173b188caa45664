-- The grammar is unambiguous: a text has at most one tree, within the limits or not.
use Rattle.std.proofs.Common.{◌≡◌, ℕ, zero, suc, ◌+◌, ◌-◌, ◌≤◌, List, [], ◌∷◌, ◌++◌, length, get_or, take, drop, Some, None, codes, sym, refl, ap, ◌∙◌, subst, arith}
use Rattle.unicode_string.specs.Grammar.{Spells}
use Rattle.unicode_string.specs.Text.{is_word}
use Rattle.unicode_string.proofs.Whole.{one_name}
use Rattle.parsing.specs.declared.nodes.Predicate.{Predicate}
use Rattle.expression.specs.declared.name_matcher.MatchKind.{MatchKind}
use Rattle.expression.specs.declared.name_matcher.MatchKind.TheVariants.{Equal, Contains, Glob}
use Rattle.expression.specs.declared.queries.BuildPlatform.{BuildPlatform}
use Rattle.parsing.specs.declared.nodes.Operator.{Operator}
use Rattle.parsing.specs.declared.nodes.Operator.TheVariants.{Union}
use Rattle.parsing.specs.declared.words.SetName.{SetName}
use Rattle.parsing.specs.declared.words.SetName.TheVariants as sets
use Rattle.parsing.specs.declared.words.Nullary.{Nullary}
use Rattle.parsing.specs.declared.words.Nullary.TheVariants as nullary
use Rattle.parsing.specs.declared.words.Lead.{Lead}
use Rattle.parsing.specs.declared.words.Lead.TheVariants as lead
use Rattle.parsing.specs.declared.words.Opening.{Opening}
use Rattle.parsing.specs.declared.words.Sign.{Sign}
use Rattle.parsing.specs.declared.words.Mark.{Mark}
use Rattle.parsing.specs.declared.words.Mark.TheVariants as mark
use Rattle.parsing.specs.Grammar.{Blanks, NoBlank, Stands, NotSign, AndSign, OrSign, Open, White, Nothing, Argument, Set, Basic, AndExpr, OrExpr, Filter, PlatformName, between}
use Rattle.parsing.specs.Reading.{platform_of}
use Rattle.parsing.specs.Text.{skip, closing}
use Rattle.parsing.specs.Tree.{Leaf, Tree}
use Rattle.parsing.specs.Words.{opening_at, or_sign_at, and_sign_at, mark_at, name_of, nullary_name, usual}
use Rattle.parsing.proofs.LawArguments.{stands-byte, mark-of, mark_of, unmarked-of}
use Rattle.parsing.proofs.LawBlanks.{inside, blanks-end, blanks-on}
use Rattle.parsing.proofs.LawNames.{spells-on}
use Rattle.parsing.proofs.LawOpenings.{opening_on, opening_on_lem, opens, set-opening, platform-opening, nullary-opening, not-opening, bang-opening, group-opening, or_sign_on, and_sign_on, or-sign-on, and-sign-on, or_word, or-bar, or-plus, and_word, and-mark, and-minus}
use Rattle.parsing.proofs.LawPlaces.{not-to, and-sign-to, or-sign-to, basic-to, and-to, or-to, open-to, free, Apart, basic-apart, and-apart, open-byte}
use Rattle.parsing.proofs.LawSets.{closing-is}
use Rattle.parsing.proofs.LawWhite.{platform-whole}
use Rattle.parsing.proofs.LawWhole.{next, name_free, nullary-free, end_none, close-none, or-not-and}
use Rattle.parsing.proofs.LawWords.{stands-rest}

same-opening : (o p : Opening) → Some o ≡ Some p → (o.lead ≡ p.lead) × (o.length ≡ p.length)
same-opening o p e = let r : o ≡ p = cc in (ap (λ (x : Opening). x.lead) r, ap (λ (x : Opening). x.length) r)

same_sign : (s u : Sign) → Some s ≡ Some u → (s.operator ≡ u.operator) × (s.length ≡ u.length)
same_sign s u e = let r : s ≡ u = cc in (ap (λ (x : Sign). x.operator) r, ap (λ (x : Sign). x.length) r)

module _ (t : List ℕ) where
  -- two ways to the same place
  same-skip : {i k l : ℕ} → Blanks t i k → NoBlank t k → Blanks t i l → NoBlank t l → k ≡ l
  same-skip b f c g = sym (blanks-end t b f) ∙ blanks-end t c g

  open-start : (i j : ℕ) (o : Open t i j) → skip t i ≡ o.start
  open-start i j o = blanks-end t o.blanks (free t 40 [] o.start j (omega arith) o.bracket)

  open-one : (i j k : ℕ) → Open t i j → Open t i k → j ≡ k
  open-one i j k o p = omega (arith, open-start i j o, open-start i k p, o.bracket.end, p.bracket.end)

  close-one : (i j k : ℕ) → Stands t (codes ")") i j → Stands t (codes ")") i k → j ≡ k
  close-one i j k s u = s.end ∙ sym u.end

  -- an argument by its mark
  abbrev kind_by : Mark → Predicate → MatchKind
  kind_by mark.Regex p = usual p
  kind_by (mark.Marked m) p = m
  kind_by mark.Unmarked p = usual p

  abbrev start_by : Mark → ℕ → ℕ
  start_by mark.Regex k = k
  start_by (mark.Marked m) k = k + 1
  start_by mark.Unmarked k = k

  record ArgumentBy (p : Predicate) (i j : ℕ) (b : List ℕ) (m : MatchKind) (w : Mark) : Type 0 where
    spells : Spells t (start_by w (skip t i)) j b
    kind : m ≡ kind_by w p

  marked_by : (p : Predicate) (c : ℕ) (x : MatchKind) (i j k l : ℕ) (b : List ℕ) → 33 ≤ c → mark_of c ≡ mark.Marked x → Blanks t i k → Stands t (c ∷ []) k l → Spells t l j b → ArgumentBy p i j b x (mark_at t (skip t i))
  marked_by p c x i j k l b h e bl st s =
      let q = blanks-end t bl (free t c [] k l h st) in
      let w = stands-byte t c k l (omega arith) st in
      let v : mark_at t (skip t i) ≡ mark.Marked x = ap (mark_at t) q ∙ mark-of t k c (inside t k c w.byte (omega arith)) w.byte ∙ e in
      subst (ArgumentBy p i j b x) (sym v) (record { spells = subst (λ n. Spells t n j b) (w.end ∙ ap (λ n. n + 1) (sym q)) s; kind = refl })

  argument-by : (p : Predicate) (i j : ℕ) (b : List ℕ) (m : MatchKind) → Argument t p i j b m → ArgumentBy p i j b m (mark_at t (skip t i))
  argument-by p i j b m (Argument.equal {k} {l} bl st s) = marked_by p 61 Equal i j k l b (omega arith) refl bl st s
  argument-by p i j b m (Argument.contains {k} {l} bl st s) = marked_by p 126 Contains i j k l b (omega arith) refl bl st s
  argument-by p i j b m (Argument.glob {k} {l} bl st s) = marked_by p 35 Glob i j k l b (omega arith) refl bl st s
  argument-by p i j b m (Argument.unmarked {k} bl u s) =
      let q = blanks-end t bl u.blank in
      let on = spells-on t k j b s in
      let v : mark_at t (skip t i) ≡ mark.Unmarked = ap (mark_at t) q ∙ mark-of t k (get_or t k 0) (omega (arith, on.0, on.1)) refl ∙ unmarked-of (get_or t k 0) u.equal u.contains u.glob u.slash in
      subst (ArgumentBy p i j b m) (sym v) (record { spells = subst (λ n. Spells t n j b) (sym q) s; kind = refl })

  record Same (j k : ℕ) (a b : List ℕ) (m n : MatchKind) : Type 0 where
    end : j ≡ k
    bytes : a ≡ b
    kind : m ≡ n

  argument-one : (p : Predicate) (i j k : ℕ) (a b : List ℕ) (m n : MatchKind) → Argument t p i j a m → Argument t p i k b n → Same j k a b m n
  argument-one p i j k a b m n x y =
      let u = argument-by p i j a m x in let v = argument-by p i k b n y in
      let on = spells-on t (start_by (mark_at t (skip t i)) (skip t i)) j a u.spells in
      let o = one_name t (start_by (mark_at t (skip t i)) (skip t i)) j k a b (omega (arith, on.0, on.1)) u.spells v.spells in
      record { end = o.0; bytes = o.1; kind = u.kind ∙ sym v.kind }

  -- a set by its name, which begins at i and ends at e
  record MatchedBody (p : Predicate) (e j : ℕ) (x : Leaf (List ℕ)) : Type 0 where
    from : ℕ
    to : ℕ
    bytes : List ℕ
    kind : MatchKind
    opened : Open t e from
    argument : Argument t p from to bytes kind
    close : Stands t (codes ")") to j
    is : x ≡ Leaf.matched p kind bytes (between from to)

  record PlatformBody (e j : ℕ) (x : Leaf (List ℕ)) : Type 0 where
    from : ℕ
    start : ℕ
    to : ℕ
    bytes : List ℕ
    which : BuildPlatform
    opened : Open t e from
    blanks : Blanks t from start
    apart : NoBlank t start
    spells : Spells t start to bytes
    name : PlatformName which bytes
    close : Stands t (codes ")") to j
    is : x ≡ Leaf.platform which (between from to)

  abbrev leaf_of : Nullary → ℕ → ℕ → Leaf (List ℕ)
  leaf_of nullary.Default i j = Leaf.default (between i j)
  leaf_of nullary.All i j = Leaf.all
  leaf_of nullary.None i j = Leaf.none

  record NullaryBody (n : Nullary) (i e j : ℕ) (x : Leaf (List ℕ)) : Type 0 where
    from : ℕ
    to : ℕ
    opened : Open t e from
    order : from ≤ to
    white : White (take (to - from) (drop from t))
    close : Stands t (codes ")") to j
    is : x ≡ leaf_of n i j

  abbrev Body : SetName → ℕ → ℕ → ℕ → Leaf (List ℕ) → Type 0
  Body (sets.Matched p) i e j x = MatchedBody p e j x
  Body sets.Platform i e j x = PlatformBody e j x
  Body (sets.Nullary n) i e j x = NullaryBody n i e j x

  record SetBy (i j : ℕ) (x : Leaf (List ℕ)) : Type 0 where
    name : SetName
    length : ℕ
    opening : opening_at t i ≡ Some (record { lead = lead.Set name; length = length })
    apart : NoBlank t i
    body : Body name i (i + length) j x

  opening-at : (i e : ℕ) (w : List ℕ) (l : Lead) → Stands t w i e → opening_on (w ++ drop e t) ≡ opens l w → opening_at t i ≡ opens l w
  opening-at i e w l st h = opening_on_lem t i ∙ ap opening_on (stands-rest t w i e st) ∙ h

  nullary-by : (n : Nullary) (i j : ℕ) → Nothing t (nullary_name n) i j → SetBy i j (leaf_of n i j)
  nullary-by n i j r = record {
    name = sets.Nullary n;
    length = length (nullary_name n);
    opening = opening-at i r.named (nullary_name n) (lead.Set (sets.Nullary n)) r.name (nullary-opening n (drop r.named t));
    apart = nullary-free t n i r.named r.name;
    body = record { from = r.from; to = r.to; opened = subst (λ e. Open t e r.from) r.name.end r.opened; order = r.order; white = r.white; close = r.close; is = refl };
  }

  set-by : (i j : ℕ) (x : Leaf (List ℕ)) → Set t i j x → SetBy i j x
  set-by i j x (Set.matched {p} {m} {b} {k} {l} {n} st o arg cl) = record {
    name = sets.Matched p;
    length = length (name_of p);
    opening = opening-at i k (name_of p) (lead.Set (sets.Matched p)) st (set-opening p (drop k t) (open-byte t k l o));
    apart = name_free t p i k st;
    body = record { from = l; to = n; bytes = b; kind = m; opened = subst (λ e. Open t e l) st.end o; argument = arg; close = cl; is = refl };
  }
  set-by i j x (Set.platform {h} {b} {k} {l} {m} {n} st o bl fr s name cl) = record {
    name = sets.Platform;
    length = length (codes "platform");
    opening = opening-at i k (codes "platform") (lead.Set sets.Platform) st (platform-opening (drop k t));
    apart = free t 112 _ i k (omega arith) st;
    body = record { from = l; start = m; to = n; bytes = b; which = h; opened = subst (λ e. Open t e l) st.end o; blanks = bl; apart = fr; spells = s; name = name; close = cl; is = refl };
  }
  set-by i j x (Set.default r) = nullary-by nullary.Default i j r
  set-by i j x (Set.all r) = nullary-by nullary.All i j r
  set-by i j x (Set.none r) = nullary-by nullary.None i j r

  body-one : (s : SetName) (i e j k : ℕ) (x y : Leaf (List ℕ)) → Body s i e j x → Body s i e k y → (j ≡ k) × (x ≡ y)
  body-one (sets.Matched p) i e j k x y u v =
      let o = open-one e u.from v.from u.opened v.opened in
      let a = argument-one p v.from u.to v.to u.bytes v.bytes u.kind v.kind (subst (λ n. Argument t p n u.to u.bytes u.kind) o u.argument) v.argument in
      let c = close-one v.to j k (subst (λ n. Stands t (codes ")") n j) a.end u.close) v.close in
      let leaves : Leaf.matched p u.kind u.bytes (between u.from u.to) ≡ Leaf.matched p v.kind v.bytes (between v.from v.to) =
      ap (λ m. Leaf.matched p m u.bytes (between u.from u.to)) a.kind ∙ ap (λ b. Leaf.matched p v.kind b (between u.from u.to)) a.bytes
      ∙ ap (λ n. Leaf.matched p v.kind v.bytes (between n u.to)) o ∙ ap (λ n. Leaf.matched p v.kind v.bytes (between v.from n)) a.end in
      (c, u.is ∙ leaves ∙ sym v.is)
  body-one sets.Platform i e j k x y u v =
      let o = open-one e u.from v.from u.opened v.opened in
      let st = same-skip (subst (λ n. Blanks t n u.start) o u.blanks) u.apart v.blanks v.apart in
      let on = spells-on t v.start v.to v.bytes v.spells in
      let a = one_name t v.start u.to v.to u.bytes v.bytes (omega (arith, on.0, on.1)) (subst (λ n. Spells t n u.to u.bytes) st u.spells) v.spells in
      let h : Some u.which ≡ Some v.which = sym (platform-whole u.bytes u.which u.name) ∙ ap platform_of a.1 ∙ platform-whole v.bytes v.which v.name in
      let w : u.which ≡ v.which = cc in
      let c = close-one v.to j k (subst (λ n. Stands t (codes ")") n j) a.0 u.close) v.close in
      let leaves : ◌≡◌ {A = Leaf (List ℕ)} (Leaf.platform u.which (between u.from u.to)) (Leaf.platform v.which (between v.from v.to)) =
      ap (λ z. Leaf.platform z (between u.from u.to)) w ∙ ap (λ n. Leaf.platform v.which (between n u.to)) o ∙ ap (λ n. Leaf.platform v.which (between v.from n)) a.0 in
      (c, u.is ∙ leaves ∙ sym v.is)
  body-one (sets.Nullary n) i e j k x y u v =
      let o = open-one e u.from v.from u.opened v.opened in
      let p = closing-is t u.from u.to u.order u.white (stands-byte t 41 u.to j (omega arith) u.close).byte in
      let q = closing-is t v.from v.to v.order v.white (stands-byte t 41 v.to k (omega arith) v.close).byte in
      let to : u.to ≡ v.to = sym p ∙ ap (closing t) o ∙ q in
      let c = close-one v.to j k (subst (λ n. Stands t (codes ")") n j) to u.close) v.close in
      (c, u.is ∙ ap (leaf_of n i) c ∙ sym v.is)

  set-one : (i j k : ℕ) (x y : Leaf (List ℕ)) → Set t i j x → Set t i k y → (j ≡ k) × (x ≡ y)
  set-one i j k x y a b =
      let u = set-by i j x a in let v = set-by i k y b in
      let e = same-opening _ _ (sym u.opening ∙ v.opening) in
      let l = e.1 in
      let n : u.name ≡ v.name = let q = e.0 in cc in
      body-one v.name i (i + v.length) j k x y (subst (λ s. Body s i (i + v.length) j x) n (subst (λ m. Body u.name i (i + m) j x) l u.body)) v.body

  -- not signs by their words
  record NotBy (i j : ℕ) : Type 0 where
    length : ℕ
    opening : opening_at t i ≡ Some (record { lead = lead.Not; length = length })
    end : j ≡ i + length
    apart : NoBlank t i

  not-by : (i j : ℕ) → NotSign t i j → NotBy i j
  not-by i j (NotSign.word k) = record {
    length = length (codes "not");
    opening = opening-at i j (codes "not") lead.Not k.stands (not-opening (drop j t) (ap is_word (next t j) ∙ k.apart));
    end = k.stands.end;
    apart = free t 110 _ i j (omega arith) k.stands;
  }
  not-by i j (NotSign.mark k) = record {
    length = length (codes "!");
    opening = opening-at i j (codes "!") lead.Not k (bang-opening (drop j t));
    end = k.end;
    apart = free t 33 [] i j (omega arith) k;
  }

  group_at : (i j : ℕ) → Stands t (codes "(") i j → opening_at t i ≡ opens lead.Group (codes "(")
  group_at i j st = opening-at i j (codes "(") lead.Group st (group-opening (drop j t))

  clash : {X : Type 0} (i : ℕ) (l m : Lead) (a b : ℕ) → opening_at t i ≡ Some (record { lead = l; length = a }) → opening_at t i ≡ Some (record { lead = m; length = b }) → (l ≡ m → ⊥) → X
  clash i l m a b e f ne = absurd (ne (same-opening _ _ (sym e ∙ f)).0)

  set-not : (s : SetName) → lead.Set s ≡ lead.Not → ⊥
  set-not s e = let z : ◌≡◌ {A = ℕ} 0 1 = cc in omega arith

  set-group : (s : SetName) → lead.Set s ≡ lead.Group → ⊥
  set-group s e = let z : ◌≡◌ {A = ℕ} 0 1 = cc in omega arith

  not-group : lead.Not ≡ lead.Group → ⊥
  not-group e = let z : ◌≡◌ {A = ℕ} 0 1 = cc in omega arith

  -- signs by their words
  record AndBy (l m : ℕ) (o : Operator) : Type 0 where
    length : ℕ
    sign : and_sign_at t l ≡ Some (record { operator = o; fault = None; length = length })
    end : m ≡ l + length
    apart : NoBlank t l

  and-by : (l m : ℕ) (o : Operator) → AndSign t l m o → Apart t m → AndBy l m o
  and-by l m o (AndSign.word k) q = record { length = 3; sign = and-sign-on t l ∙ ap and_sign_on (stands-rest t (codes "and") l m k.stands) ∙ and_word (drop m t) (ap is_word (next t m) ∙ k.apart); end = k.stands.end; apart = free t 97 _ l m (omega arith) k.stands }
  and-by l m o (AndSign.mark k) q = record { length = 1; sign = and-sign-on t l ∙ ap and_sign_on (stands-rest t (codes "&") l m k) ∙ and-mark (drop m t) (λ e. q.both (sym (next t m) ∙ e)); end = k.end; apart = free t 38 [] l m (omega arith) k }
  and-by l m o (AndSign.minus k) q = record { length = 1; sign = and-sign-on t l ∙ ap and_sign_on (stands-rest t (codes "-") l m k) ∙ and-minus (drop m t); end = k.end; apart = free t 45 [] l m (omega arith) k }

  record OrBy (l m : ℕ) : Type 0 where
    length : ℕ
    sign : or_sign_at t l ≡ Some (record { operator = Union; fault = None; length = length })
    end : m ≡ l + length
    apart : NoBlank t l

  or-by : (l m : ℕ) → OrSign t l m → Apart t m → OrBy l m
  or-by l m (OrSign.word k) q = record { length = 2; sign = or-sign-on t l ∙ ap or_sign_on (stands-rest t (codes "or") l m k.stands) ∙ or_word (drop m t) (ap is_word (next t m) ∙ k.apart); end = k.stands.end; apart = free t 111 _ l m (omega arith) k.stands }
  or-by l m (OrSign.bar k) q = record { length = 1; sign = or-sign-on t l ∙ ap or_sign_on (stands-rest t (codes "|") l m k) ∙ or-bar (drop m t) (λ e. q.bar (sym (next t m) ∙ e)); end = k.end; apart = free t 124 [] l m (omega arith) k }
  or-by l m (OrSign.plus k) q = record { length = 1; sign = or-sign-on t l ∙ ap or_sign_on (stands-rest t (codes "+") l m k) ∙ or-plus (drop m t); end = k.end; apart = free t 43 [] l m (omega arith) k }

  -- the operands of a chain after the first, each with its sign, in the order of the text
  module _ (S : ℕ → ℕ → Operator → Type 0) (One : ℕ → ℕ → Tree (List ℕ) → Type 0) where
    data Tail : ℕ → Tree (List ℕ) → ℕ → Tree (List ℕ) → Type 0 where
      nil : {k : ℕ} {x : Tree (List ℕ)} → Tail k x k x
      cons : {k l m p j : ℕ} {o : Operator} {x y z : Tree (List ℕ)} → Blanks t k l → S l m o → One m p y → Tail p (Tree.joined o x y) j z → Tail k x j z

    -- one more at the end
    snoc : {k l m j p : ℕ} {o : Operator} {x y z : Tree (List ℕ)} → Tail k x j z → Blanks t j l → S l m o → One m p y → Tail k x p (Tree.joined o z y)
    snoc Tail.nil b s r = Tail.cons b s r Tail.nil
    snoc (Tail.cons b s r w) c u v = Tail.cons b s r (snoc w c u v)

    -- two chains from the same first operand are the same, if each goes as far as it can
    module _ (End : ℕ → Type 0) (ends : (k l m : ℕ) (o : Operator) → End k → Blanks t k l → S l m o → ⊥)
        (signs : (k l m n q : ℕ) (o p : Operator) → Blanks t k l → S l m o → Blanks t k n → S n q p → (m ≡ q) × (o ≡ p)) where
      tail-one : {k j i : ℕ} {x z y : Tree (List ℕ)} → ((m p q : ℕ) (v w : Tree (List ℕ)) → One m p v → One m q w → (p ≡ q) × (v ≡ w)) → Tail k x j z → Tail k x i y → End j → End i → (j ≡ i) × (z ≡ y)
      tail-one one Tail.nil Tail.nil e f = (refl, refl)
      tail-one one (Tail.nil {k}) (Tail.cons {l = l} {m} {o = o} b s r w) e f = absurd (ends k l m o e b s)
      tail-one one (Tail.cons {k} {l} {m} {o = o} b s r w) Tail.nil e f = absurd (ends k l m o f b s)
      tail-one one (Tail.cons {k} {l} {m} {p} {j} {o} {x} {y} {z} b s r w) (Tail.cons {l = l'} {m = m'} {p = p'} {j = j'} {o = o'} {y = y'} {z = z'} c u v n) e f =
          let h = signs k l m l' m' o o' b s c u in
          let g = one m p p' y y' r (subst (λ (i : ℕ). One i p' y') (sym h.0) v) in
          let n1 : Tail p (Tree.joined o x y) j' z' =
          subst (λ (q : ℕ). Tail q (Tree.joined o x y) j' z') (sym g.0) (subst (λ (a : Tree (List ℕ)). Tail p' (Tree.joined o x a) j' z') (sym g.1) (subst (λ (a : Operator). Tail p' (Tree.joined a x y') j' z') (sym h.1) n)) in
          tail-one one w n1 e f

  abbrev AndEnd : ℕ → Type 0
  AndEnd j = and_sign_at t (skip t j) ≡ None

  abbrev OrEnd : ℕ → Type 0
  OrEnd j = or_sign_at t (skip t j) ≡ None

  -- signs with what follows them
  abbrev AndS : ℕ → ℕ → Operator → Type 0
  AndS l m o = AndSign t l m o × Apart t m

  abbrev OrS : ℕ → ℕ → Operator → Type 0
  OrS l m o = (o ≡ Union) × OrSign t l m × Apart t m

  and-ends : (k l m : ℕ) (o : Operator) → AndEnd k → Blanks t k l → AndS l m o → ⊥
  and-ends k l m o e b s =
      let a = and-by l m o s.0 s.1 in
      let q = ap (and_sign_at t) (blanks-end t b a.apart) ∙ a.sign in
      let z : ◌≡◌ {A = ℕ} 0 1 = cc in omega arith

  or-ends : (k l m : ℕ) (o : Operator) → OrEnd k → Blanks t k l → OrS l m o → ⊥
  or-ends k l m o e b s =
      let a = or-by l m s.1 s.2 in
      let q = ap (or_sign_at t) (blanks-end t b a.apart) ∙ a.sign in
      let z : ◌≡◌ {A = ℕ} 0 1 = cc in omega arith

  and-signs : (k l m n q : ℕ) (o p : Operator) → Blanks t k l → AndS l m o → Blanks t k n → AndS n q p → (m ≡ q) × (o ≡ p)
  and-signs k l m n q o p b s c u =
      let x = and-by l m o s.0 s.1 in let y = and-by n q p u.0 u.1 in
      let e = same-skip b x.apart c y.apart in
      let h = same_sign _ _ (sym x.sign ∙ ap (and_sign_at t) e ∙ y.sign) in
      (omega (arith, x.end, y.end, e, h.1), h.0)

  or-signs : (k l m n q : ℕ) (o p : Operator) → Blanks t k l → OrS l m o → Blanks t k n → OrS n q p → (m ≡ q) × (o ≡ p)
  or-signs k l m n q o p b s c u =
      let x = or-by l m s.1 s.2 in let y = or-by n q u.1 u.2 in
      let e = same-skip b x.apart c y.apart in
      let h = same_sign _ _ (sym x.sign ∙ ap (or_sign_at t) e ∙ y.sign) in
      (omega (arith, x.end, y.end, e, h.1), s.0 ∙ sym u.0)

  -- operands that begin late enough for the fuel
  abbrev Late : ℕ → ℕ → Type 0
  Late f m = (length t ≤ m + f) × (m ≤ length t)

  abbrev BasicOne : ℕ → Type 0
  BasicOne f = (i j k : ℕ) (x y : Tree (List ℕ)) → Late f i → Basic t i j x → Basic t i k y → (j ≡ k) × (x ≡ y)

  abbrev LateBasic : ℕ → ℕ → ℕ → Tree (List ℕ) → Type 0
  LateBasic f m p y = Late f m × Basic t m p y

  record AndTail (f i j : ℕ) (x : Tree (List ℕ)) : Type 0 where
    at : ℕ
    head : Tree (List ℕ)
    first : Basic t i at head
    rest : Tail AndS (LateBasic f) at head j x

  and-tail : (f : ℕ) {i j : ℕ} {x : Tree (List ℕ)} → Late f i → AndExpr t i j x → AndTail f i j x
  and-tail f h (AndExpr.basic {i} {j} {x} b) = record { at = j; head = x; first = b; rest = Tail.nil }
  and-tail f h (AndExpr.and {i} {k} {l} {m} {j} {o} {x} {y} r bl s b) =
      let w = and-tail f h r in
      let a = and-to t r h.1 in let c = blanks-on t bl a.within in let d = and-sign-to t l m o s in
      record { at = w.at; head = w.head; first = w.first; rest = snoc AndS (LateBasic f) w.rest bl (s, basic-apart t b) ((omega (arith, h.0, a.less, c.0, d.less), d.within), b) }

  and_one : (f : ℕ) → BasicOne f → (i j k : ℕ) (x y : Tree (List ℕ)) → Late f i → AndExpr t i j x → AndExpr t i k y → AndEnd j → AndEnd k → (j ≡ k) × (x ≡ y)
  and_one f one i j k x y h a b e g =
      let u = and-tail f h a in let v = and-tail f h b in
      let s = one i u.at v.at u.head v.head h u.first v.first in
      let r : Tail AndS (LateBasic f) v.at v.head j x = subst (λ (p : ℕ). Tail AndS (LateBasic f) p v.head j x) s.0 (subst (λ (z : Tree (List ℕ)). Tail AndS (LateBasic f) u.at z j x) s.1 u.rest) in
      tail-one AndS (LateBasic f) AndEnd and-ends and-signs (λ m p q v w c d. one m p q v w c.0 c.1 d.1) r v.rest e g

  abbrev LateAnd : ℕ → ℕ → ℕ → Tree (List ℕ) → Type 0
  LateAnd f m p y = Late f m × AndExpr t m p y × AndEnd p

  record OrTail (f i j : ℕ) (x : Tree (List ℕ)) : Type 0 where
    at : ℕ
    head : Tree (List ℕ)
    first : AndExpr t i at head
    end : AndEnd at
    rest : Tail OrS (LateAnd f) at head j x

  or-tail : (f : ℕ) {i j : ℕ} {x : Tree (List ℕ)} → Late f i → OrExpr t i j x → AndEnd j → OrTail f i j x
  or-tail f h (OrExpr.and_expr {i} {j} {x} a) e = record { at = j; head = x; first = a; end = e; rest = Tail.nil }
  or-tail f h (OrExpr.or {i} {k} {l} {m} {j} {x} {y} r bl s b) e =
      let w = or-tail f h r (or-not-and t k l m bl s) in
      let a = or-to t r h.1 in let c = blanks-on t bl a.within in let d = or-sign-to t l m s in
      record { at = w.at; head = w.head; first = w.first; end = w.end; rest = snoc OrS (LateAnd f) w.rest bl (refl, s, and-apart t b) ((omega (arith, h.0, a.less, c.0, d.less), d.within), b, e) }

  or-one : (f : ℕ) → BasicOne f → (i j k : ℕ) (x y : Tree (List ℕ)) → Late f i → OrExpr t i j x → OrExpr t i k y → AndEnd j → AndEnd k → OrEnd j → OrEnd k → (j ≡ k) × (x ≡ y)
  or-one f one i j k x y h a b e g c d =
      let u = or-tail f h a e in let v = or-tail f h b g in
      let s = and_one f one i u.at v.at u.head v.head h u.first v.first u.end v.end in
      let r : Tail OrS (LateAnd f) v.at v.head j x = subst (λ (p : ℕ). Tail OrS (LateAnd f) p v.head j x) s.0 (subst (λ (z : Tree (List ℕ)). Tail OrS (LateAnd f) u.at z j x) s.1 u.rest) in
      tail-one OrS (LateAnd f) OrEnd or-ends or-signs (λ m p q v w l n. and_one f one m p q v w l.0 l.1 n.1 l.2 n.2) r v.rest c d

  -- operands of the same kind
  two-sets : (i j k a b : ℕ) (x y : Leaf (List ℕ)) → Blanks t i a → Set t a j x → Blanks t i b → Set t b k y → (j ≡ k) × (x ≡ y)
  two-sets i j k a b x y c s d u =
      let e = same-skip c (set-by a j x s).apart d (set-by b k y u).apart in
      set-one b j k x y (subst (λ p. Set t p j x) e s) u

  two-nots : (f i j k a b l m : ℕ) (x y : Tree (List ℕ)) → BasicOne f → Late (suc f) i → Blanks t i a → NotSign t a l → Basic t l j x → Blanks t i b → NotSign t b m → Basic t m k y → (j ≡ k) × (x ≡ y)
  two-nots f i j k a b l m x y one h c s p d u q =
      let v = not-by a l s in let w = not-by b m u in
      let e = same-skip c v.apart d w.apart in
      let n = (same-opening _ _ (sym v.opening ∙ ap (opening_at t) e ∙ w.opening)).1 in
      let g : l ≡ m = omega (arith, v.end, w.end, e, n) in
      let z = blanks-on t d h.1 in let on = not-to t b m u in
      one m j k x y (omega (arith, h.0, z.0, on.less), on.within) (subst (λ r. Basic t r j x) g p) q

  two-groups : (f i j k a b l m c d : ℕ) (x y : Tree (List ℕ)) → BasicOne f → Late (suc f) i → Open t i a → OrExpr t a l x → Blanks t l c → Stands t (codes ")") c j → Open t i b → OrExpr t b m y → Blanks t m d → Stands t (codes ")") d k → (j ≡ k) × (x ≡ y)
  two-groups f i j k a b l m c d x y one h o r bl cl p s bm cm =
      let e = open-one i a b o p in
      let on = open-to t i b p h.1 in
      let u = close-none t l c j bl cl in let v = close-none t m d k bm cm in
      let w = or-one f one b l m x y (omega (arith, h.0, on.less), on.within) (subst (λ n. OrExpr t n l x) e r) s u.and v.and u.or v.or in
      let q = same-skip (subst (λ n. Blanks t n c) w.0 bl) (free t 41 [] c j (omega arith) cl) bm (free t 41 [] d k (omega arith) cm) in
      (close-one d j k (subst (λ n. Stands t (codes ")") n j) q cl) cm, w.1)

  -- and of different kinds: there are none at one place
  no-set-not : {X : Type 0} (i j a b l : ℕ) (x : Leaf (List ℕ)) → Blanks t i a → Set t a j x → Blanks t i b → NotSign t b l → X
  no-set-not i j a b l x c s d u =
      let v = set-by a j x s in let w = not-by b l u in
      let e = same-skip c v.apart d w.apart in
      clash b (lead.Set v.name) lead.Not v.length w.length (sym (ap (opening_at t) e) ∙ v.opening) w.opening (set-not v.name)

  no-set-group : {X : Type 0} (i j a k : ℕ) (x : Leaf (List ℕ)) → Blanks t i a → Set t a j x → Open t i k → X
  no-set-group i j a k x c s o =
      let v = set-by a j x s in
      let e = same-skip c v.apart o.blanks (free t 40 [] o.start k (omega arith) o.bracket) in
      clash o.start (lead.Set v.name) lead.Group v.length 1 (sym (ap (opening_at t) e) ∙ v.opening) (group_at o.start k o.bracket) (set-group v.name)

  no-not-group : {X : Type 0} (i a l k : ℕ) → Blanks t i a → NotSign t a l → Open t i k → X
  no-not-group i a l k c s o =
      let v = not-by a l s in
      let e = same-skip c v.apart o.blanks (free t 40 [] o.start k (omega arith) o.bracket) in
      clash o.start lead.Not lead.Group v.length 1 (sym (ap (opening_at t) e) ∙ v.opening) (group_at o.start k o.bracket) not-group

  basic-one : (f : ℕ) → BasicOne f
  basic-one zero i j k x y h a b = let on = basic-to t a h.1 in absurd (omega (arith, on.less, on.within, h.0))
  basic-one (suc f) i j k x y h (Basic.set {k = p} {l = l} c s) (Basic.set {k = q} {l = m} d u) = let r = two-sets i j k p q l m c s d u in (r.0, ap Tree.set r.1)
  basic-one (suc f) i j k x y h (Basic.set {k = p} {l = l} c s) (Basic.not {k = q} {l = m} d u v) = no-set-not i j p q m l c s d u
  basic-one (suc f) i j k x y h (Basic.set {k = p} {l = l} c s) (Basic.group {k = q} o r bl cl) = no-set-group i j p q l c s o
  basic-one (suc f) i j k x y h (Basic.not {k = p} {l = l} c s b) (Basic.set {k = q} {l = m} d u) = no-set-not i k q p l m d u c s
  basic-one (suc f) i j k x y h (Basic.not {k = p} {l = l} {x = v} c s b) (Basic.not {k = q} {l = m} {x = w} d u g) = let r = two-nots f i j k p q l m v w (basic-one f) h c s b d u g in (r.0, ap Tree.negated r.1)
  basic-one (suc f) i j k x y h (Basic.not {k = p} {l = l} c s b) (Basic.group {k = q} o r bl cl) = no-not-group i p l q c s o
  basic-one (suc f) i j k x y h (Basic.group {k = p} o r bl cl) (Basic.set {k = q} {l = m} d u) = no-set-group i k q p m d u o
  basic-one (suc f) i j k x y h (Basic.group {k = p} o r bl cl) (Basic.not {k = q} {l = m} d u g) = no-not-group i q m p d u o
  basic-one (suc f) i j k x y h (Basic.group {k = p} {l = l} {m = c} {x = v} o r bl cl) (Basic.group {k = q} {l = m} {m = d} {x = w} n s bm cm) =
      let z = two-groups f i j k p q l m c d v w (basic-one f) h o r bl cl n s bm cm in (z.0, ap Tree.group z.1)

pub one-tree : (t : List ℕ) (x y : Tree (List ℕ)) → Filter t x → Filter t y → x ≡ y
one-tree t x y a b =
    let u = end_none t a.end a.rest in let v = end_none t b.end b.rest in
    (or-one t (length t) (basic-one t (length t)) 0 a.end b.end x y (omega arith, omega arith) a.expr b.expr u.and v.and u.or v.or).1
