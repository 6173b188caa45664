-- What a set has, however many words it has.
use Rattle.std.proofs.Common.{◌≡◌, ℕ, zero, suc, ◌+◌, ◌*◌, ◌/◌, ◌%◌, ◌^◌, ◌<◌, ◌≤◌, Bool, true, false, cond, not, ◌&&◌, ◌||◌, eqb, ltb, ◌⊎◌, List, [], ◌∷◌, ◌++◌, length, get_or, take, drop, set, replicate, sym, refl, ap, ◌∙◌, inl, inr, add-one, arith}
use lib.Bits.{bit_or}
use Rattle.std.proofs.lemmas.Nat.{div_below}
use Rattle.std.proofs.lemmas.List.{length-replicate, get_or-replicate, get_or_past, set_past, length-take-le, drop_more, get_or_at, set_at, append_assoc, take_more, take_all, drop_all}
use Rattle.std.proofs.lemmas.Grind.{common_steps}
use Rattle.std.proofs.lemmas.Bool.{cases_lt, le-ltb}
use Rattle.expression.specs.NumberSets.{bit, member, inserted, united, void, gathered, set_of, some_below, SetLaws}
use Rattle.expression.proofs.Bits.{bit-or, bit-zero, bit-one, none-zero}

same_rest : (n m : ℕ) → n / 64 ≡ m / 64 → eqb (n % 64) (m % 64) ≡ eqb n m
same_rest n m e = grind arith

pub member-inserted : (ws : List ℕ) (n m : ℕ) → n / 64 < length ws → member (inserted ws n) m ≡ (eqb n m || member ws m)
member-inserted ws n m l =
    let new = bit-or (get_or ws (n / 64) 0) (2 ^ (n % 64)) (m % 64) in
    grind (arith, common_steps, bit-one (n % 64) (m % 64), same_rest n m)

pub length-gathered : (ws : List ℕ) (p : ℕ → Bool) (n : ℕ) → length (gathered ws p n) ≡ length ws
unfolding gathered
length-gathered ws p zero = refl
length-gathered ws p (suc n) = grind (arith, common_steps, length-gathered ws p n)

or_no : (a : Bool) → (a || false) ≡ a
or_no true = refl
or_no false = refl

or_yes : (a : Bool) → (a || true) ≡ true
or_yes true = refl
or_yes false = refl

-- the numbers below n that pass, one more
one_more : (p : ℕ → Bool) (n k : ℕ) (b : Bool) → p n ≡ b → (a : Bool) → (cond b (eqb n k) false || (a || (ltb k n && p k))) ≡ (a || (ltb k (suc n) && p k))
one_more p n k b e a = grind arith

fits_word : (ws : List ℕ) (p : ℕ → Bool) (n : ℕ) → n < 64 * length ws → n / 64 < length (gathered ws p n)
fits_word ws p n l = omega (arith, length-gathered ws p n, div_below n 64 (length ws) (omega arith) (omega arith))

-- what was there, and of the numbers below n those that pass
pub member-gathered : (ws : List ℕ) (p : ℕ → Bool) (n k : ℕ) → n ≤ 64 * length ws → member (gathered ws p n) k ≡ (member ws k || (ltb k n && p k))
unfolding gathered
member-gathered ws p zero k l = sym (ap (λ (x : Bool). member ws k || (x && p k)) (le-ltb k 0 (omega arith)) ∙ or_no (member ws k))
member-gathered ws p (suc n) k l =
    grind (arith, member-gathered ws p n k (omega arith), member-inserted (gathered ws p n) n k (fits_word ws p n (omega arith)))

get_or-none : (w i : ℕ) → get_or {A = ℕ} (replicate w 0) i 0 ≡ 0
get_or-none w i = by (cases_lt i w)
  where
    by : (i < w) ⊎ (w ≤ i) → get_or {A = ℕ} (replicate w 0) i 0 ≡ 0
    by (inl l) = get_or-replicate w i 0 0 l
    by (inr g) = get_or_past (replicate w 0) i 0 (omega (arith, length-replicate {A = ℕ} w 0))

pub member-none : (w k : ℕ) → member (replicate w 0) k ≡ false
member-none w k = ap (λ (x : ℕ). bit x (k % 64)) (get_or-none w (k / 64)) ∙ bit-zero (k % 64)

-- a set has exactly the numbers below n that pass
pub member-set_of : (w : ℕ) (p : ℕ → Bool) (n k : ℕ) → n ≤ 64 * w → member (set_of w p n) k ≡ (ltb k n && p k)
member-set_of w p n k l =
    member-gathered (replicate w 0) p n k (omega (arith, length-replicate {A = ℕ} w 0))
    ∙ ap (λ (x : Bool). x || (ltb k n && p k)) (member-none w k)

void-get_or : (ws : List ℕ) (i : ℕ) → void ws ≡ true → get_or ws i 0 ≡ 0
void-get_or [] i h = refl
void-get_or (w ∷ ws) zero h = grind arith
void-get_or (w ∷ ws) (suc i) h = grind (arith, void-get_or ws i)

-- a set of zeros has nothing
pub void-member : (ws : List ℕ) (k : ℕ) → void ws ≡ true → member ws k ≡ false
void-member ws k h = ap (λ (x : ℕ). bit x (k % 64)) (void-get_or ws (k / 64) h) ∙ bit-zero (k % 64)

void-none : (w : ℕ) → void (replicate w 0) ≡ true
void-none zero = refl
void-none (suc w) = void-none w

member-void : (ws : List ℕ) (k : ℕ) → member ws k ≡ true → void ws ≡ false
member-void ws k h = grind (arith, void-member ws k)

-- a set of the numbers below n that pass is empty exactly if none passes
pub void-set_of : (w : ℕ) (p : ℕ → Bool) (n : ℕ) → n ≤ 64 * w → void (set_of w p n) ≡ not (some_below p n)
unfolding gathered
void-set_of w p zero l = void-none w
void-set_of w p (suc n) l =
    let new = member-inserted (set_of w p n) n n (fits_word (replicate w 0) p n (omega (arith, length-replicate {A = ℕ} w 0))) in
    grind (arith, void-set_of w p n (omega arith), member-void (inserted (set_of w p n) n) n)

-- the steps of a loop that gathers
pub set_of-none : (w : ℕ) (p : ℕ → Bool) → replicate w 0 ≡ set_of w p 0
unfolding gathered
set_of-none w p = refl

pub set_of-in : (w : ℕ) (p : ℕ → Bool) (n : ℕ) (s : List ℕ) → p n ≡ true → s ≡ set_of w p n → inserted s n ≡ set_of w p (n + 1)
unfolding gathered
set_of-in w p n s h e = rw add-one (grind (arith, h, e))

pub set_of-out : (w : ℕ) (p : ℕ → Bool) (n : ℕ) (s : List ℕ) → p n ≡ false → s ≡ set_of w p n → s ≡ set_of w p (n + 1)
unfolding gathered
set_of-out w p n s h e = rw add-one (grind (arith, h, e))

-- the steps of a loop that looks for one that passes
pub some_more : (p : ℕ → Bool) (n : ℕ) → some_below p (n + 1) ≡ (some_below p n || p n)
some_more p n = ap (some_below p) (add-one n)

pub some_at : (p : ℕ → Bool) (n k : ℕ) → k < n → p k ≡ true → some_below p n ≡ true
some_at p zero k l h = absurd (omega arith)
some_at p (suc n) k l h = grind (arith, some_at p n k)

pub some_same : (p q : ℕ → Bool) (n : ℕ) → ((k : ℕ) → k < n → p k ≡ q k) → some_below p n ≡ some_below q n
some_same p q zero h = refl
some_same p q (suc n) h = grind (arith, h n, some_same p q n (λ k l. h k (omega arith)))

-- a number that no word is for
pub member-past : (ws : List ℕ) (n : ℕ) → 64 * length ws ≤ n → member ws n ≡ false
member-past ws n l =
    ap (λ (w : ℕ). bit w (n % 64)) (get_or_past ws (n / 64) 0 (omega arith)) ∙ bit-zero (n % 64)

pub inserted-past : (ws : List ℕ) (n : ℕ) → 64 * length ws ≤ n → inserted ws n ≡ ws
inserted-past ws n l = set_past ws (n / 64) _ (omega arith)

word-for : (ws : List ℕ) (n : ℕ) → n < 64 * length ws → n / 64 < length ws
word-for ws n l = div_below n 64 (length ws) (omega arith) (omega arith)

-- what one insertion does, whatever the number
pub member_insert : (ws : List ℕ) (n m : ℕ) → member (inserted ws n) m ≡ ((ltb n (64 * length ws) && eqb n m) || member ws m)
member_insert ws n m = grind (arith, member-inserted ws n m, inserted-past ws n, word-for ws n)

-- a set with a word that is not 0 has a number
pub word-member : (ws : List ℕ) (i : ℕ) → get_or ws i 0 < 2 ^ 64 → ((n : ℕ) → member ws n ≡ false) → get_or ws i 0 ≡ 0
word-member ws i l h =
    none-zero 64 (get_or ws i 0) l (λ j b.
    let q : (64 * i + j) / 64 ≡ i = omega arith in let r : (64 * i + j) % 64 ≡ j = omega arith in
    sym (ap (λ (x : ℕ). bit (get_or ws x 0) ((64 * i + j) % 64)) q ∙ ap (bit (get_or ws i 0)) r) ∙ h (64 * i + j))

-- two sets together, word by word
get_or-united : (ws vs : List ℕ) (i : ℕ) → length ws ≡ length vs → bit_or (get_or ws i 0) (get_or vs i 0) ≡ get_or (united ws vs) i 0
get_or-united [] [] i e = refl
get_or-united [] (v ∷ vs) i e = absurd (omega arith)
get_or-united (w ∷ ws) [] i e = absurd (omega arith)
get_or-united (w ∷ ws) (v ∷ vs) zero e = refl
get_or-united (w ∷ ws) (v ∷ vs) (suc i) e = get_or-united ws vs i (omega arith)

pub member-united : (ws vs : List ℕ) (n : ℕ) → length ws ≡ length vs → member (united ws vs) n ≡ (member ws n || member vs n)
member-united ws vs n e =
    ap (λ (w : ℕ). bit w (n % 64)) (sym (get_or-united ws vs (n / 64) e)) ∙ bit-or (get_or ws (n / 64) 0) (get_or vs (n / 64) 0) (n % 64)

length-united : (ws vs : List ℕ) → length (united ws vs) ≡ length ws
length-united [] vs = refl
length-united (w ∷ ws) [] = refl
length-united (w ∷ ws) (v ∷ vs) = ap suc (length-united ws vs)

-- one more word, and all words
pub united-more : (ws vs : List ℕ) (i : ℕ) (now : List ℕ) → i < length ws → length ws ≡ length vs → now ≡ take i (united ws vs) ++ drop i ws → set now i (bit_or (get_or now i 0) (get_or vs i 0)) ≡ take (i + 1) (united ws vs) ++ drop (i + 1) ws
united-more ws vs i now l e h =
    let n = length-united ws vs in
    let front : length (take i (united ws vs)) ≡ i = length-take-le i (united ws vs) (omega arith) in
    let is : now ≡ take i (united ws vs) ++ (get_or ws i 0 ∷ drop (i + 1) ws) = h ∙ ap (λ (z : List ℕ). take i (united ws vs) ++ z) (drop_more ws i 0 l) in
    let old : get_or now i 0 ≡ get_or ws i 0 = ap (λ (z : List ℕ). get_or z i 0) is ∙ get_or_at (take i (united ws vs)) (get_or ws i 0) (drop (i + 1) ws) 0 i front in
    ap (λ (z : List ℕ). set z i (bit_or (get_or now i 0) (get_or vs i 0))) is
    ∙ set_at (take i (united ws vs)) (get_or ws i 0) (drop (i + 1) ws) (bit_or (get_or now i 0) (get_or vs i 0)) i front
    ∙ ap (λ (w : ℕ). take i (united ws vs) ++ (w ∷ drop (i + 1) ws)) (ap (λ (w : ℕ). bit_or w (get_or vs i 0)) old ∙ get_or-united ws vs i e)
    ∙ sym (append_assoc (take i (united ws vs)) (get_or (united ws vs) i 0 ∷ []) (drop (i + 1) ws))
    ∙ ap (λ (z : List ℕ). z ++ drop (i + 1) ws) (sym (take_more (united ws vs) i 0 (omega arith)))

pub united-all : (ws vs : List ℕ) (i : ℕ) (now : List ℕ) → length ws ≤ i → now ≡ take i (united ws vs) ++ drop i ws → now ≡ united ws vs
united-all ws vs i now l h =
    let n = length-united ws vs in
    grind (arith, common_steps, take_all i (united ws vs), drop_all i ws l)

pub set-laws : SetLaws
set-laws = record {
  none_in = member-none;
  outside = member-past;
  one_more = λ ws n m l. member-inserted ws n m (word-for ws n l);
  no_more = inserted-past;
  together = member-united;
  passing = member-set_of;
  empty = void-set_of;
}
