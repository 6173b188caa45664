-- Sets of numbers as words of 64 bits, however many words: number n is bit n % 64 of word n / 64.
use Rattle.std.specs.Prelude.{◌≡◌, ℕ, zero, suc, ◌*◌, ◌/◌, ◌%◌, ◌^◌, ◌<◌, ◌≤◌, Bool, false, cond, not, ◌&&◌, ◌||◌, List, [], ◌∷◌, length, replicate, ◌==◌, bit_or, nat_lt, slice_index, slice_set}
use Rattle.std.specs.List.{list_all}

-- how many words a set of the program has; no law below depends on it
abbrev pub width : ℕ
width = 1

-- how many numbers a set of the program can hold: those below this one
abbrev pub size : ℕ
size = 64 * width

-- bit k of a word
unfoldable pub bit : ℕ → ℕ → Bool
bit w k = w / 2 ^ k % 2 == 1

-- whether the set has n
abbrev pub member : List ℕ → ℕ → Bool
member ws n = bit (slice_index ws (n / 64)) (n % 64)

-- the set with n, or the set itself where it has no word for n
abbrev pub inserted : List ℕ → ℕ → List ℕ
inserted ws n = slice_set ws (n / 64) (bit_or (slice_index ws (n / 64)) (2 ^ (n % 64)))

-- the numbers of two sets, in as many words as the first has
abbrev pub united : List ℕ → List ℕ → List ℕ
united [] vs = []
united (w ∷ ws) [] = w ∷ ws
united (w ∷ ws) (v ∷ vs) = bit_or w v ∷ united ws vs

-- the set of no number
abbrev pub no_numbers : ℕ → List ℕ
no_numbers w = replicate w 0

-- whether each word is 0
abbrev pub void : List ℕ → Bool
void = list_all (λ w. w == 0)

-- ws, and of the numbers below n those that pass p
unfoldable pub gathered : List ℕ → (ℕ → Bool) → ℕ → List ℕ
gathered ws p zero = ws
gathered ws p (suc n) = cond (p n) (inserted (gathered ws p n) n) (gathered ws p n)

-- the numbers below n that pass p, in a set of w words
abbrev pub set_of : ℕ → (ℕ → Bool) → ℕ → List ℕ
set_of w p n = gathered (no_numbers w) p n

-- some number below n passes p
abbrev pub some_below : (ℕ → Bool) → ℕ → Bool
some_below p zero = false
some_below p (suc n) = some_below p n || p n

-- which numbers are in a set, whatever the number of words
pub record SetLaws : Type 0 where
  -- none is in the empty set
  pub none_in : (w n : ℕ) → member (no_numbers w) n ≡ false
  -- a number that no word is for is in no set
  pub outside : (ws : List ℕ) (n : ℕ) → 64 * length ws ≤ n → member ws n ≡ false
  -- m is in the set with n exactly when it is n or was there
  pub one_more : (ws : List ℕ) (n m : ℕ) → n < 64 * length ws → member (inserted ws n) m ≡ (n == m || member ws m)
  -- a number that no word is for changes nothing
  pub no_more : (ws : List ℕ) (n : ℕ) → 64 * length ws ≤ n → inserted ws n ≡ ws
  -- n is in two sets of equally many words together exactly when it is in one of them
  pub together : (ws vs : List ℕ) (n : ℕ) → length ws ≡ length vs → member (united ws vs) n ≡ (member ws n || member vs n)
  -- k is in the set of those below n that pass exactly when it is below n and passes
  pub passing : (w : ℕ) (p : ℕ → Bool) (n k : ℕ) → n ≤ 64 * w → member (set_of w p n) k ≡ (nat_lt k n && p k)
  -- that set is empty exactly when none below n passes
  pub empty : (w : ℕ) (p : ℕ → Bool) (n : ℕ) → n ≤ 64 * w → void (set_of w p n) ≡ not (some_below p n)
