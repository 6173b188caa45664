-- What reading one thing at the start of some bytes says of all that is read there.
use Rattle.std.proofs.Common.{◌≡◌, ℕ, ◌+◌, ◌<◌, Bool, true, false, cond, ◌&&◌, ◌==◌, ltb, List, [], ◌∷◌, length, drop, is_some, Some, None, Option, sym, refl, ap, ◌∙◌, arith}
use Rattle.std.proofs.lemmas.List.{drop-drop, length-drop}
use Rattle.std.proofs.lemmas.Bool.{and_from, and_left, and_right, lt-ltb, ne_eqb}
use Rattle.glob.specs.Glob.{Range, Item, takes}
use Rattle.glob.specs.Glob.Item.{any_run, one, byte, listed}
use Rattle.glob.specs.Reading.{Read, read, head_is, members_of, any_tail, takes_one, member_of, item_of, span_of, ranges_of, items_of, ended, joined, eats, globs, match_of, matches}
use Rattle.glob.specs.Tokens.{split}
use Rattle.glob.proofs.Walks.{walk-on, walk-stop}
use Rattle.glob.proofs.Spelling.{Full, member-sound, item-sound}

module _ {X : Type 0} (rd : List ℕ → Option (Read X)) (s : List ℕ) where
  split-none : None ≡ split s (rd s) → rd s ≡ None
  split-none e = by (rd s) refl e
    where
      by : (o : Option (Read X)) → rd s ≡ o → None ≡ split s o → rd s ≡ None
      by None q e = q
      by (Some r) q e = cc

  split-some : ((r : Read X) → rd s ≡ Some r → 0 < r.size) → (x : X) (t : List ℕ) → Some (x, t) ≡ split s (rd s) → Full rd s x t
  split-some pos x t e = by (rd s) refl e
    where
      by : (o : Option (Read X)) → rd s ≡ o → Some (x, t) ≡ split s o → Full rd s x t
      by None q e = cc
      by (Some r) q e =
          let both : (r.what, drop r.size s) ≡ (x, t) = cc in
          record { size = r.size; is = q ∙ ap (λ (w : X × List ℕ). Some (record { what = w.0; size = r.size })) both; left = ap (λ (w : X × List ℕ). w.1) both; some = pos r q }

  full-shorter : rd [] ≡ None → (x : X) (t : List ℕ) → Full rd s x t → length t < length s
  full-shorter n x t f = by s f
    where
      by : (s : List ℕ) → Full rd s x t → length t < length s
      by [] f = let i = f.is in absurd (let z : ◌≡◌ {A = ℕ} 0 1 = cc in omega arith)
      by (b ∷ s) f = omega (arith, f.some, length-drop f.size (b ∷ s), ap length f.left)

module _ (s : List ℕ) where
  pub member-none : None ≡ split s (member_of s) → ranges_of s ≡ []
  member-none e = walk-stop member_of _ _ s (split-none member_of s e)

  pub span-none : None ≡ split s (member_of s) → span_of s ≡ 0
  span-none e = walk-stop member_of _ _ s (split-none member_of s e)

  module _ (x : Range) (t : List ℕ) (e : Some (x, t) ≡ split s (member_of s)) where
    full-member : Full member_of s x t
    full-member = split-some member_of s (λ r q. (member-sound s r q).some) x t e

    pub member-shorter : length t < length s
    member-shorter = full-shorter member_of s refl x t full-member

    pub member-some : ranges_of s ≡ x ∷ ranges_of t
    member-some = let f = full-member in walk-on member_of _ _ refl s _ f.is f.some ∙ ap (λ (u : List ℕ). x ∷ ranges_of u) f.left

    span-on : span_of s ≡ full-member.size + span_of t
    span-on = let f = full-member in walk-on member_of _ _ refl s _ f.is f.some ∙ ap (λ (u : List ℕ). f.size + span_of u) f.left

    pub span-some : 0 < span_of s
    span-some = let f = full-member in omega (arith, span-on, f.some)

    pub span-left : drop (span_of s) s ≡ drop (span_of t) t
    span-left = let f = full-member in ap (λ (k : ℕ). drop k s) span-on ∙ sym (drop-drop (span_of t) f.size s) ∙ ap (drop (span_of t)) f.left

any_none : (m : List ℕ) → any_tail (λ _. false) m ≡ false
unfolding any_tail
any_none [] = refl
any_none (b ∷ m) = any_none m

and-false : (x : Bool) → (x && false) ≡ false
and-false true = refl
and-false false = refl

one_none : (i : Item) (m : List ℕ) → takes_one i (λ _. false) m ≡ false
one_none i [] = refl
one_none i (b ∷ m) = and-false (takes i b)

eats-none : (i : Item) (m : List ℕ) → eats i (λ _. false) m ≡ false
eats-none any_run m = any_none m
eats-none one m = one_none one m
eats-none (byte b) m = one_none (byte b) m
eats-none (listed g rs) m = one_none (listed g rs) m

module _ (s : List ℕ) where
  pub items-none : None ≡ split s (item_of s) → items_of s ≡ ended s
  items-none e = walk-stop item_of _ _ s (split-none item_of s e)

  pub well-formed-none : None ≡ split s (item_of s) → is_some (items_of s) ≡ (length s == 0)
  well-formed-none e = ap (λ (o : Option (List Item)). is_some o) (items-none e) ∙ by s
    where
      by : (s : List ℕ) → is_some (ended s) ≡ (length s == 0)
      by [] = refl
      by (b ∷ s) = sym (ne_eqb (length (b ∷ s)) 0 (λ h. absurd (omega arith)))

  module _ (x : Item) (t : List ℕ) (e : Some (x, t) ≡ split s (item_of s)) where
    full-item : Full item_of s x t
    full-item = split-some item_of s (λ r q. (item-sound s r q).some) x t e

    pub item-shorter : length t < length s
    item-shorter = full-shorter item_of s refl x t full-item

    items-some : items_of s ≡ joined (record { what = x; size = full-item.size }) (items_of t)
    items-some = let f = full-item in walk-on item_of _ _ refl s _ f.is f.some ∙ ap (λ (u : List ℕ). joined (record { what = x; size = f.size }) (items_of u)) f.left

    pub well-formed-some : is_some (items_of s) ≡ is_some (items_of t)
    well-formed-some = ap (λ (o : Option (List Item)). is_some o) items-some ∙ kept (items_of t)
      where
        kept : (o : Option (List Item)) → is_some (joined (record { what = x; size = full-item.size }) o) ≡ is_some o
        kept None = refl
        kept (Some is) = refl

    pub matches-some : (n : List ℕ) → matches s n ≡ eats x (matches t) n
    unfolding globs
    matches-some n = ap (λ (o : Option (List Item)). match_of o n) items-some ∙ by (items_of t)
      where
        by : (o : Option (List Item)) → match_of (joined (record { what = x; size = full-item.size }) o) n ≡ eats x (match_of o) n
        by None = sym (eats-none x n)
        by (Some is) = refl

-- the list that begins with s, where rest is what follows its members
module _ (negated : Bool) (s : List ℕ) where
  abbrev answer : Bool → Option (Item × List ℕ)
  answer b = split s (cond b (read (listed negated (ranges_of s)) (0 + span_of s + 1)) None)

  pub list-empty : span_of s ≡ 0 → None ≡ split s (members_of negated 0 s)
  list-empty h = sym (ap answer (and_left (ltb 0 (span_of s)) (head_is 93 (drop (span_of s) s)) (ap (ltb 0) h)))

  module _ (rest : List ℕ) (e : rest ≡ drop (span_of s) s) where
    pub list-open : head_is 93 rest ≡ false → None ≡ split s (members_of negated 0 s)
    list-open h = sym (ap answer (and_right (ltb 0 (span_of s)) (head_is 93 (drop (span_of s) s)) (sym (ap (head_is 93) e) ∙ h)))

    pub list-closed : 0 < span_of s → head_is 93 rest ≡ true → Some (listed negated (ranges_of s), drop 1 rest) ≡ split s (members_of negated 0 s)
    list-closed h c =
        let k : span_of s + 1 ≡ 0 + span_of s + 1 = omega arith in
        let d : drop 1 rest ≡ drop (0 + span_of s + 1) s = ap (drop 1) e ∙ drop-drop 1 (span_of s) s ∙ ap (λ (j : ℕ). drop j s) k in
        ap (λ (v : List ℕ). Some (listed negated (ranges_of s), v)) d
        ∙ sym (ap answer (and_from (ltb 0 (span_of s)) (head_is 93 (drop (span_of s) s)) (lt-ltb 0 (span_of s) h) (sym (ap (head_is 93) e) ∙ c)))
