-- What a change of one set does to the links.
use Rattle.std.proofs.Common.{◌≡◌, ℕ, ◌+◌, ◌%◌, ◌<◌, ◌≤◌, Bool, true, false, ◌&&◌, ◌||◌, eqb, ltb, List, length, get_or, drop, set, replicate, refl, arith}
use Rattle.std.proofs.lemmas.List.{get_or-replicate, length-replicate, length-set, at_drop_more}
use Rattle.std.proofs.lemmas.Grind.{common_steps}
use Rattle.expression.specs.NumberSets.{size, member}
use Rattle.expression.specs.declared.number_set.NumberSet.{NumberSet}
use Rattle.expression.specs.declared.oracle.Edge.{Edge}
use Rattle.expression.specs.Oracles.{no_packages, link}
use Rattle.expression.specs.Closing.{are, directly, WithEdge, Joined}
use Rattle.expression.proofs.Bits.{bit-zero}

pub or_no : (x : Bool) → (x || false) ≡ x
or_no true = refl
or_no false = refl

-- one set replaced by one that has more
more-in : (rows : List NumberSet) (x : ℕ) (s : NumberSet) (q : ℕ → Bool) → x < length rows → ((b : ℕ) → member s.words b ≡ (link rows x b || q b)) → (a b : ℕ) → link (set rows x s) a b ≡ (link rows a b || (eqb x a && q b))
more-in rows x s q l h a b = grind (arith, common_steps, h b)

linked : (rows : List NumberSet) (x y : ℕ) (s : NumberSet) → x < length rows → y < size → ((b : ℕ) → member s.words b ≡ (ltb y size && eqb y b || link rows x b)) → (a b : ℕ) → link (set rows x s) a b ≡ (link rows a b || are x y a b)
linked rows x y s l k h a b = more-in rows x s (eqb y) l (λ n. grind (arith, h n)) a b

pub link-past : (rows : List NumberSet) (a b : ℕ) → length rows ≤ a → link rows a b ≡ false
link-past rows a b h = grind (arith, common_steps, bit-zero (b % 64))

-- the sets below i merged with that of k
abbrev pub UpTo : List NumberSet → ℕ → ℕ → NumberSet → List NumberSet → Type 0
UpTo was i k t rows = (a b : ℕ) → link rows a b ≡ (link was a b || (ltb a i && (link was a k && member t.words b)))

pub join_more : (was rows : List NumberSet) (i k : ℕ) (t s : NumberSet) → i < length rows → UpTo was i k t rows → ((n : ℕ) → member s.words n ≡ (link rows i n || (link rows i k && member t.words n))) → UpTo was (i + 1) k t (set rows i s)
join_more was rows i k t s l h m a b = grind (arith, common_steps, m b, h a b, h i b, h i k)

pub join-all : (was rows : List NumberSet) (i k : ℕ) → length was ≤ i → UpTo was i k (get_or was k no_packages) rows → Joined was k rows
join-all was rows i k l h a b = grind (arith, common_steps, h a b, link-past was a k)

-- as many sets of no package as there are packages
pub link-none : (n : ℕ) (s : NumberSet) → ((b : ℕ) → member s.words b ≡ false) → (a b : ℕ) → link (replicate n s) a b ≡ false
link-none n s h a b = grind (arith, common_steps, h b, get_or-replicate n a s no_packages, link-past (replicate n s) a b, length-replicate n s)

-- an edge that is kept, and one that is skipped
pub edge_kept : (e : Edge) (was : List NumberSet) (s t u : NumberSet) → length was ≡ size → e.from < size → e.to < size →
    ((b : ℕ) → member s.words b ≡ (ltb e.from size && eqb e.from b || link was e.from b)) →
    ((b : ℕ) → member t.words b ≡ (ltb e.to size && eqb e.to b || link (set was e.from s) e.from b)) →
    ((b : ℕ) → member u.words b ≡ (ltb e.to size && eqb e.to b || link (set (set was e.from s) e.from t) e.to b)) →
    WithEdge was e (set (set (set was e.from s) e.from t) e.to u)
edge_kept e was s t u l h k p q r a b =
    let first = linked was e.from e.from s (omega arith) h p a b in
    let second = linked (set was e.from s) e.from e.to t (omega (arith, length-set {A = NumberSet})) k q a b in
    let third = linked (set (set was e.from s) e.from t) e.to e.to u (omega (arith, length-set {A = NumberSet})) k r a b in
    grind arith

pub edge-next : (es : List Edge) (i : ℕ) (d : Edge) (was now : List NumberSet) → i < length es →
    ((a b : ℕ) → (link was a b || directly (drop i es) a b) ≡ directly es a b) → WithEdge was (get_or es i d) now →
    (a b : ℕ) → (link now a b || directly (drop (i + 1) es) a b) ≡ directly es a b
edge-next es i d was now h inv step a b =
    let next = at_drop_more (λ z. directly z a b) es i d h in
    grind (arith, step a b, inv a b)
