-- One bit of a sum of bits, of a power of two, and of nothing.
use Rattle.std.proofs.Common.{◌≡◌, ℕ, zero, suc, ◌+◌, ◌-◌, ◌/◌, ◌%◌, ◌^◌, ◌<◌, max, false, ◌||◌, eqb, sym, refl, ap, ◌∙◌, one-mul, add-one, arith}
use lib.Bits.{bit_or, or_step, shifted_even}
use Rattle.std.proofs.lemmas.Nat.{or_shr, mod-mul-add, mod_below, pow_pos, pow-add, shl-shr, div_below, pow_below, shr-shr, shr_below}
use Rattle.expression.specs.NumberSets.{bit}

max-bit : (p q : ℕ) → p < 2 → q < 2 → eqb (max p q) 1 ≡ (eqb p 1 || eqb q 1)
max-bit p q h k = grind arith

max-lt : (p q : ℕ) → p < 2 → q < 2 → max p q < 2
max-lt p q h k = omega arith

odd-or : (x y : ℕ) → eqb (bit_or x y % 2) 1 ≡ (eqb (x % 2) 1 || eqb (y % 2) 1)
odd-or x y =
    let p = mod_below x 2 (omega arith) in let q = mod_below y 2 (omega arith) in
    ap (λ (n : ℕ). eqb (n % 2) 1) (or_step x y)
    ∙ ap (λ (n : ℕ). eqb n 1) (mod-mul-add (bit_or (x / 2) (y / 2)) 2 (max (x % 2) (y % 2)) (max-lt (x % 2) (y % 2) p q))
    ∙ max-bit (x % 2) (y % 2) p q

pub bit-or : (x y k : ℕ) → bit (bit_or x y) k ≡ (bit x k || bit y k)
unfolding bit
bit-or x y k = ap (λ (n : ℕ). eqb (n % 2) 1) (or_shr x y k) ∙ odd-or (x / 2 ^ k) (y / 2 ^ k)

small-shr : (n k : ℕ) → n < 2 ^ k → n / 2 ^ k ≡ 0
small-shr n k h = omega (arith, div_below n (2 ^ k) 1 (pow_pos k) (let e = one-mul (2 ^ k) in omega arith))

pub bit-small : (n k : ℕ) → n < 2 ^ k → bit n k ≡ false
unfolding bit
bit-small n k h = ap (λ (m : ℕ). eqb (m % 2) 1) (small-shr n k h)

pub bit-zero : (k : ℕ) → bit 0 k ≡ false
bit-zero k = bit-small 0 k (pow_pos k)

high-even : (k n : ℕ) → n < k → 2 ^ k / 2 ^ n % 2 ≡ 0
high-even k n h = by (k - n) refl
  where
    by : (d : ℕ) → k - n ≡ d → 2 ^ k / 2 ^ n % 2 ≡ 0
    by zero e = absurd (omega arith)
    by (suc d) e =
        let s : k ≡ suc d + n = omega arith in
        ap (λ (j : ℕ). 2 ^ j / 2 ^ n % 2) s ∙ ap (λ (m : ℕ). m / 2 ^ n % 2) (pow-add 2 (suc d) n) ∙ ap (λ (m : ℕ). m % 2) (shl-shr (2 ^ suc d) n)
        ∙ ap (λ (m : ℕ). m % 2) (sym (one-mul (2 ^ suc d))) ∙ shifted_even 1 d

pub bit-one : (k n : ℕ) → bit (2 ^ k) n ≡ eqb k n
unfolding bit
bit-one k n =
    let one = shl-shr 1 k in
    grind (arith, high-even k n, pow_below k n, small-shr (2 ^ k) n)

-- the bits of a half, and a word below 2 ^ k none of whose first k bits is set
half-bit : (w j : ℕ) → bit (w / 2) j ≡ bit w (1 + j)
unfolding bit
half-bit w j = ap (λ (x : ℕ). eqb (x % 2) 1) (shr-shr w 1 j)

pub none-zero : (k w : ℕ) → w < 2 ^ k → ((j : ℕ) → j < k → bit w j ≡ false) → w ≡ 0
unfolding bit
none-zero zero w l f = omega arith
none-zero (suc k) w l f =
    let rest : w / 2 ≡ 0 = none-zero k (w / 2) (shr_below w k 1 (rw (add-one) l)) (λ j h. half-bit w j ∙ f (1 + j) (omega arith)) in
    let last = f 0 (omega arith) in
    grind arith
