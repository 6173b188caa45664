-- White space: what is passed over, byte by byte, are the characters of Unicode's White_Space.
use Rattle.std.proofs.Common.{◌≡◌, ℕ, zero, suc, ◌+◌, ◌<◌, ◌≤◌, Bool, true, false, cond, not, ◌&&◌, ◌||◌, eqb, ltb, leb, ◌⊎◌, List, [], ◌∷◌, ◌++◌, length, get_or, drop, Some, None, codes, sym, refl, ap, ◌∙◌, subst, inl, inr, ⊎_elim, append_assoc, append-nil, add-zero, zero-add, arith}
use lib.Utf8.{encode, encodes}
use Rattle.std.proofs.lemmas.List.{drop-drop, drop_all, length-append, get_or-drop, drop_at}
use Rattle.std.proofs.lemmas.Bool.{cases_eq, eqb-true, eq-eqb, leb-true, ltb-true, or_cases, and_parts, and_from, ne_eqb, and_left, not-false}
use Rattle.std.proofs.lemmas.Str.{length-encode, len_utf8_bounds, length-le-encodes, NoCharPasses-nil}
use Rattle.std.specs.Str.{NonePass}
use Rattle.std.specs.Char.{is_whitespace as white, is_not_whitespace}
use Rattle.expression.specs.declared.queries.BuildPlatform.{BuildPlatform}
use Rattle.expression.specs.declared.queries.BuildPlatform.TheVariants.{Host, Target}
use Rattle.parsing.specs.Grammar.{White, PlatformName}
use Rattle.parsing.specs.Reading.{says_word, platform_of}
use Rattle.parsing.specs.Text.{is_white1, is_white2, is_spread, is_white3, white_of, white_at, whites_at, white_end, begins_at}
use Rattle.parsing.proofs.LawWords.{prefix_of, begins-prefix, prefix-stands, stands-rest}

-- what holds of each of k numbers from a on, holds of any between them
abbrev EachFrom : (ℕ → Type 0) → ℕ → ℕ → Type 0
EachFrom P a zero = Unit {0}
EachFrom P a (suc k) = P a × EachFrom P (suc a) k

among : (P : ℕ → Type 0) (a k c : ℕ) → a ≤ c → c < a + k → EachFrom P a k → P c
among P a zero c lo hi all = absurd (omega arith)
among P a (suc k) c lo hi all = ⊎_elim (λ e. subst P (sym e) all.0) (λ ne. among P (suc a) k c (omega arith) (omega arith) all.1) (cases_eq c a)

-- what holds of each character of white space
record Whites (P : ℕ → Type 0) : Type 0 where
  controls : EachFrom P 9 5
  space : P 32
  next_line : P 133
  no_break : P 160
  ogham : P 5760
  wide : EachFrom P 8192 11
  line : P 8232
  paragraph : P 8233
  narrow : P 8239
  medium : P 8287
  ideographic : P 12288

one_more : (P : ℕ → Type 0) (c d : ℕ) (x : Bool) → P d → (x ≡ true → P c) → (x || eqb c d) ≡ true → P c
one_more P c d x p k h = ⊎_elim k (λ q. subst P (sym (eqb-true c d q)) p) (or_cases x (eqb c d) h)

in-range : (P : ℕ → Type 0) (c a b n : ℕ) → b + 1 ≡ a → EachFrom P a n → (ltb b c && ltb c (a + n)) ≡ true → P c
in-range P c a b n e p h = let w = and_parts (ltb b c) (ltb c (a + n)) h in among P a n c (omega (arith, ltb-true b c w.0)) (ltb-true c (a + n) w.1) p

white-each : (P : ℕ → Type 0) → Whites P → (c : ℕ) → white c ≡ true → P c
white-each P w c =
    one_more P c 12288 _ w.ideographic (one_more P c 8287 _ w.medium (one_more P c 8239 _ w.narrow (one_more P c 8233 _ w.paragraph (one_more P c 8232 _ w.line
    (λ h. ⊎_elim (one_more P c 5760 _ w.ogham (one_more P c 160 _ w.no_break (one_more P c 133 _ w.next_line (one_more P c 32 _ w.space (in-range P c 9 8 5 refl w.controls)))))
    (in-range P c 8192 8191 11 refl w.wide) (or_cases _ _ h))))))

-- the bytes of a character of white space are known as such
abbrev Seen : ℕ → Type 0
Seen c = (rest : List ℕ) → white_of (get_or (encode c ++ rest) 0 0) (get_or (encode c ++ rest) 1 0) (get_or (encode c ++ rest) 2 0) ≡ length (encode c)

seen : (c : ℕ) → white c ≡ true → Seen c
unfolding encode
seen = white-each Seen (record {
  controls = (λ r. refl, (λ r. refl, (λ r. refl, (λ r. refl, (λ r. refl, tt)))));
  space = λ r. refl;
  next_line = λ r. refl;
  no_break = λ r. refl;
  ogham = λ r. refl;
  wide = (λ r. refl, (λ r. refl, (λ r. refl, (λ r. refl, (λ r. refl, (λ r. refl, (λ r. refl, (λ r. refl, (λ r. refl, (λ r. refl, (λ r. refl, tt)))))))))));
  line = λ r. refl;
  paragraph = λ r. refl;
  narrow = λ r. refl;
  medium = λ r. refl;
  ideographic = λ r. refl;
})

-- a character of white space that some bytes begin with
record Char (s : List ℕ) (n : ℕ) : Type 0 where
  code : ℕ
  is : white code ≡ true
  size : n ≡ length (encode code)
  bytes : s ≡ encode code ++ drop n s

one_byte : (s : List ℕ) (a : ℕ) → get_or s 0 0 ≡ a → 0 < a → s ≡ a ∷ drop 1 s
one_byte [] a e h = absurd (omega arith)
one_byte (x ∷ s) a e h = ap (λ y. y ∷ s) e

two_bytes : (s : List ℕ) (a b : ℕ) → get_or s 0 0 ≡ a → 0 < a → get_or s 1 0 ≡ b → 0 < b → s ≡ a ∷ b ∷ drop 2 s
two_bytes [] a b e h f k = absurd (omega arith)
two_bytes (x ∷ s) a b e h f k = ap (λ y. y ∷ s) e ∙ ap (λ r. a ∷ r) (one_byte s b f k)

three-bytes : (s : List ℕ) (a b c : ℕ) → get_or s 0 0 ≡ a → 0 < a → get_or s 1 0 ≡ b → 0 < b → get_or s 2 0 ≡ c → 0 < c → s ≡ a ∷ b ∷ c ∷ drop 3 s
three-bytes [] a b c e h f k g l = absurd (omega arith)
three-bytes (x ∷ s) a b c e h f k g l = ap (λ y. y ∷ s) e ∙ ap (λ r. a ∷ r) (two_bytes s b c f k g l)

char-1 : (s : List ℕ) → is_white1 (get_or s 0 0) ≡ true → Char s 1
unfolding encode
char-1 s h = go (get_or s 0 0) refl h
  where
    Good : ℕ → Type 0
    Good a = (encode a ≡ a ∷ []) × (white a ≡ true) × (0 < a)

    good : (a : ℕ) → is_white1 a ≡ true → Good a
    good a w = ⊎_elim
        (λ q. let u = and_parts (leb 9 a) (leb a 13) q in among Good 9 5 a (leb-true 9 a u.0) (omega (arith, leb-true a 13 u.1)) ((refl, refl, omega arith), ((refl, refl, omega arith), ((refl, refl, omega arith), ((refl, refl, omega arith), ((refl, refl, omega arith), tt))))))
        (λ q. subst Good (sym (eqb-true a 32 q)) (refl, refl, omega arith)) (or_cases (leb 9 a && leb a 13) (eqb a 32) w)

    go : (a : ℕ) → get_or s 0 0 ≡ a → is_white1 a ≡ true → Char s 1
    go a e w = let g = good a w in record { code = a; is = g.1; size = ap length (sym g.0); bytes = one_byte s a e g.2 ∙ ap (λ x. x ++ drop 1 s) (sym g.0) }

char-2 : (s : List ℕ) → is_white2 (get_or s 0 0) (get_or s 1 0) ≡ true → Char s 2
unfolding encode
char-2 s h =
    let w = and_parts (eqb (get_or s 0 0) 194) (eqb (get_or s 1 0) 133 || eqb (get_or s 1 0) 160) h in
    let a = eqb-true (get_or s 0 0) 194 w.0 in
    ⊎_elim
    (λ q. record { code = 133; is = refl; size = refl; bytes = two_bytes s 194 133 a (omega arith) (eqb-true (get_or s 1 0) 133 q) (omega arith) })
    (λ q. record { code = 160; is = refl; size = refl; bytes = two_bytes s 194 160 a (omega arith) (eqb-true (get_or s 1 0) 160 q) (omega arith) })
    (or_cases (eqb (get_or s 1 0) 133) (eqb (get_or s 1 0) 160) w.1)

spread-code : (c : ℕ) → is_spread c ≡ true → (encode (8064 + c) ≡ 226 ∷ 128 ∷ c ∷ []) × (white (8064 + c) ≡ true) × (0 < c)
unfolding encode
spread-code c h = many h
  where
    P : ℕ → Type 0
    P c = (encode (8064 + c) ≡ 226 ∷ 128 ∷ c ∷ []) × (white (8064 + c) ≡ true) × (0 < c)

    low : (leb 128 c && leb c 138) ≡ true → P c
    low q = let w = and_parts (leb 128 c) (leb c 138) q in among P 128 11 c (leb-true 128 c w.0) (omega (arith, leb-true c 138 w.1))
        ((refl, refl, omega arith), ((refl, refl, omega arith), ((refl, refl, omega arith), ((refl, refl, omega arith), ((refl, refl, omega arith), ((refl, refl, omega arith), ((refl, refl, omega arith), ((refl, refl, omega arith), ((refl, refl, omega arith), ((refl, refl, omega arith), ((refl, refl, omega arith), tt)))))))))))

    many : is_spread c ≡ true → P c
    many = one_more P c 175 _ (refl, refl, omega arith) (one_more P c 169 _ (refl, refl, omega arith) (one_more P c 168 _ (refl, refl, omega arith) low))

char-3 : (s : List ℕ) → is_white3 (get_or s 0 0) (get_or s 1 0) (get_or s 2 0) ≡ true → Char s 3
unfolding encode
char-3 s h = top h
  where
    a : ℕ
    a = get_or s 0 0

    b : ℕ
    b = get_or s 1 0

    c : ℕ
    c = get_or s 2 0

    at : (x y z : ℕ) → a ≡ x → 0 < x → b ≡ y → 0 < y → c ≡ z → 0 < z → (code : ℕ) → white code ≡ true → encode code ≡ x ∷ y ∷ z ∷ [] → Char s 3
    at x y z e h f k g l code w q = record { code = code; is = w; size = ap length (sym q); bytes = three-bytes s x y z e h f k g l ∙ ap (λ r. r ++ drop 3 s) (sym q) }

    spread : eqb a 226 ≡ true → (eqb b 128 && is_spread c) ≡ true → Char s 3
    spread e q =
        let w = and_parts (eqb b 128) (is_spread c) q in
        let r = spread-code c w.1 in
        at 226 128 c (eqb-true a 226 e) (omega arith) (eqb-true b 128 w.0) (omega arith) refl r.2 (8064 + c) r.1 r.0

    medium : eqb a 226 ≡ true → (eqb b 129 && eqb c 159) ≡ true → Char s 3
    medium e q =
        let w = and_parts (eqb b 129) (eqb c 159) q in
        at 226 129 159 (eqb-true a 226 e) (omega arith) (eqb-true b 129 w.0) (omega arith) (eqb-true c 159 w.1) (omega arith) 8287 refl refl

    second : (eqb a 226 && ((eqb b 128 && is_spread c) || (eqb b 129 && eqb c 159))) ≡ true → Char s 3
    second q =
        let w = and_parts (eqb a 226) ((eqb b 128 && is_spread c) || (eqb b 129 && eqb c 159)) q in
        ⊎_elim (spread w.0) (medium w.0) (or_cases (eqb b 128 && is_spread c) (eqb b 129 && eqb c 159) w.1)

    triple : (x y z : ℕ) → 0 < x → 0 < y → 0 < z → (code : ℕ) → white code ≡ true → encode code ≡ x ∷ y ∷ z ∷ [] → (eqb a x && (eqb b y && eqb c z)) ≡ true → Char s 3
    triple x y z h k l code w q m =
        let u = and_parts (eqb a x) (eqb b y && eqb c z) m in
        let v = and_parts (eqb b y) (eqb c z) u.1 in
        at x y z (eqb-true a x u.0) h (eqb-true b y v.0) k (eqb-true c z v.1) l code w q

    rest : ((eqb a 226 && ((eqb b 128 && is_spread c) || (eqb b 129 && eqb c 159))) || (eqb a 227 && (eqb b 128 && eqb c 128))) ≡ true → Char s 3
    rest q = ⊎_elim second (triple 227 128 128 (omega arith) (omega arith) (omega arith) 12288 refl refl)
        (or_cases (eqb a 226 && ((eqb b 128 && is_spread c) || (eqb b 129 && eqb c 159))) (eqb a 227 && (eqb b 128 && eqb c 128)) q)

    top : is_white3 a b c ≡ true → Char s 3
    top q = ⊎_elim (triple 225 154 128 (omega arith) (omega arith) (omega arith) 5760 refl refl) rest
        (or_cases (eqb a 225 && (eqb b 154 && eqb c 128)) ((eqb a 226 && ((eqb b 128 && is_spread c) || (eqb b 129 && eqb c 159))) || (eqb a 227 && (eqb b 128 && eqb c 128))) q)

-- how many bytes of white space begin some bytes, by its kind
whites-of : (s : List ℕ) → (white_of (get_or s 0 0) (get_or s 1 0) (get_or s 2 0) ≡ 0) ⊎ Char s (white_of (get_or s 0 0) (get_or s 1 0) (get_or s 2 0))
whites-of s = one (is_white1 (get_or s 0 0)) refl
  where
    a : ℕ
    a = get_or s 0 0

    b : ℕ
    b = get_or s 1 0

    c : ℕ
    c = get_or s 2 0

    Known : ℕ → Type 0
    Known n = (n ≡ 0) ⊎ Char s n

    three : (x : Bool) → is_white3 a b c ≡ x → Known (cond x 3 0)
    three true e = inr (char-3 s e)
    three false e = inl refl

    two : (x : Bool) → is_white2 a b ≡ x → Known (cond x 2 (cond (is_white3 a b c) 3 0))
    two true e = inr (char-2 s e)
    two false e = three (is_white3 a b c) refl

    one : (x : Bool) → is_white1 a ≡ x → Known (cond x 1 (cond (is_white2 a b) 2 (cond (is_white3 a b c) 3 0)))
    one true e = inr (char-1 s e)
    one false e = two (is_white2 a b) refl

white-on : (t : List ℕ) (p : ℕ) → white_at t p ≡ white_of (get_or (drop p t) 0 0) (get_or (drop p t) 1 0) (get_or (drop p t) 2 0)
white-on t p = rw (get_or-drop p t 0 0, get_or-drop p t 1 0, get_or-drop p t 2 0, add-zero p)

-- white space from p up to q
pub record WhiteRun (t : List ℕ) (p q : ℕ) : Type 0 where
  pub bytes : List ℕ
  pub white : White bytes
  pub split : drop p t ≡ bytes ++ drop q t
  pub size : q ≡ p + length bytes

none-run : (t : List ℕ) (p : ℕ) → WhiteRun t p p
none-run t p = record { bytes = []; white = NoCharPasses-nil is_not_whitespace; split = refl; size = sym (add-zero p) }

white-more : (c : ℕ) (s : List ℕ) → white c ≡ true → White s → White (encode c ++ s)
white-more c s e w = (c ∷ w.0, ap (λ r. encode c ++ r) w.1, (ap not e, w.2))

char-run : (t : List ℕ) (p n q : ℕ) → Char (drop p t) n → WhiteRun t (p + n) q → WhiteRun t p q
char-run t p n q c r = record {
  bytes = encode c.code ++ r.bytes;
  white = white-more c.code r.bytes c.is r.white;
  split = c.bytes ∙ ap (λ x. encode c.code ++ x) (drop-drop n p t ∙ r.split) ∙ sym (append_assoc (encode c.code) r.bytes (drop q t));
  size = omega (arith, r.size, c.size, length-append (encode c.code) r.bytes);
}

pub whites-run : (t : List ℕ) (f p : ℕ) → WhiteRun t p (whites_at t f p)
unfolding whites_at
whites-run t zero p = none-run t p
whites-run t (suc f) p = go (white_at t p) refl (whites-run t f (p + white_at t p))
  where
    go : (n : ℕ) → white_at t p ≡ n → WhiteRun t (p + n) (whites_at t f (p + n)) → WhiteRun t p (cond (eqb n 0) p (whites_at t f (p + n)))
    go zero e r = none-run t p
    go (suc n) e r =
        ⊎_elim (λ z. absurd (let y = white-on t p in omega arith))
        (λ (c : Char (drop p t) (white_of (get_or (drop p t) 0 0) (get_or (drop p t) 1 0) (get_or (drop p t) 2 0))).
        rw (ne_eqb (suc n) 0 (λ z. omega arith)) (char-run t p (suc n) (whites_at t f (p + suc n)) (subst (Char (drop p t)) (sym (white-on t p) ∙ e) c) r))
        (whites-of (drop p t))

-- all of it is passed over
pub whites-end : (cs : List ℕ) (t : List ℕ) (f p : ℕ) (rest : List ℕ) → NonePass is_not_whitespace cs → drop p t ≡ encodes cs ++ rest →
    white_of (get_or rest 0 0) (get_or rest 1 0) (get_or rest 2 0) ≡ 0 → length cs ≤ f → whites_at t f p ≡ p + length (encodes cs)
unfolding whites_at
whites-end [] t zero p rest h e n few = sym (add-zero p)
whites-end [] t (suc f) p rest h e n few =
    let z : white_at t p ≡ 0 = white-on t p ∙ ap (λ s. white_of (get_or s 0 0) (get_or s 1 0) (get_or s 2 0)) e ∙ n in
    ap (λ k. cond (eqb k 0) p (whites_at t f (p + k))) z ∙ sym (add-zero p)
whites-end (c ∷ cs) t zero p rest h e n few = absurd (omega arith)
whites-end (c ∷ cs) t (suc f) p rest h e n few =
    let is : white c ≡ true = not-false (white c) h.0 in
    let d : drop p t ≡ encode c ++ (encodes cs ++ rest) = e ∙ append_assoc (encode c) (encodes cs) rest in
    let z : white_at t p ≡ length (encode c) = white-on t p ∙ ap (λ s. white_of (get_or s 0 0) (get_or s 1 0) (get_or s 2 0)) d ∙ seen c is (encodes cs ++ rest) in
    let l = length-encode c in let w = len_utf8_bounds c in
    let on : drop (p + length (encode c)) t ≡ encodes cs ++ rest = sym (drop-drop (length (encode c)) p t) ∙ ap (drop (length (encode c))) d ∙ drop_at (encode c) (encodes cs ++ rest) (length (encode c)) refl in
    let ih = whites-end cs t f (p + length (encode c)) rest h.1 on n (omega arith) in
    let sum : p + length (encode c) + length (encodes cs) ≡ p + length (encode c ++ encodes cs) = omega (arith, length-append (encode c) (encodes cs)) in
    ap (λ k. cond (eqb k 0) p (whites_at t f (p + k))) z
    ∙ ap (λ v. cond v p (whites_at t f (p + length (encode c)))) (ne_eqb (length (encode c)) 0 (λ q. omega (arith, l, w.0))) ∙ ih ∙ sum

pub white-sound : (s : List ℕ) → white_end s 0 ≡ length s → White s
white-sound s e =
    let r = whites-run s (length s) 0 in
    let all : s ≡ r.bytes = r.split ∙ ap (λ k. r.bytes ++ drop k s) e ∙ ap (λ x. r.bytes ++ x) (drop_all (length s) s (omega arith)) ∙ append-nil r.bytes in
    subst White (sym all) r.white

pub white-whole : (s : List ℕ) → White s → white_end s 0 ≡ length s
white-whole s w =
    let few = length-le-encodes w.0 in
    whites-end w.0 s (length s) 0 [] w.2 (sym w.1 ∙ sym (append-nil (encodes w.0))) refl (omega (arith, ap length w.1)) ∙ zero-add (length (encodes w.0)) ∙ ap length w.1

-- the name of a platform between white space
says-sound : (b w : List ℕ) (p : ℕ) → WhiteRun b 0 p → says_word b w p ≡ true → (v : List ℕ) × (u : List ℕ) × White v × White u × (b ≡ v ++ (w ++ u))
says-sound b w p r h =
    let c = and_parts (begins_at b p w) (eqb (white_end b (p + length w)) (length b)) h in
    let st = prefix-stands b w p (sym (begins-prefix b p w) ∙ c.0) in
    let q = whites-run b (length b) (p + length w) in
    let e = eqb-true (white_end b (p + length w)) (length b) c.1 in
    let end : drop (p + length w) b ≡ q.bytes = q.split ∙ ap (λ k. q.bytes ++ drop k b) e ∙ ap (λ x. q.bytes ++ x) (drop_all (length b) b (omega arith)) ∙ append-nil q.bytes in
    (r.bytes, q.bytes, r.white, q.white, r.split ∙ ap (λ x. r.bytes ++ x) (stands-rest b w p (p + length w) st ∙ ap (λ x. w ++ x) end))

pub platform-sound : (b : List ℕ) (h : BuildPlatform) → platform_of b ≡ Some h → PlatformName h b
unfolding platform_of
platform-sound b h e = first (says_word b (codes "host") (white_end b 0)) refl e
  where
    run : WhiteRun b 0 (white_end b 0)
    run = whites-run b (length b) 0

    second : (x : Bool) → says_word b (codes "target") (white_end b 0) ≡ x → cond x (Some Target) None ≡ Some h → PlatformName h b
    second true s q =
        let w = says-sound b (codes "target") (white_end b 0) run s in
        let same : Target ≡ h = cc in
        subst (λ k. PlatformName k b) same (subst (PlatformName Target) (sym w.4) (PlatformName.target w.2 w.3))
    second false s q = absurd (let z : ◌≡◌ {A = ℕ} 0 1 = cc in omega arith)

    first : (x : Bool) → says_word b (codes "host") (white_end b 0) ≡ x → cond x (Some Host) (cond (says_word b (codes "target") (white_end b 0)) (Some Target) None) ≡ Some h → PlatformName h b
    first true s q =
        let w = says-sound b (codes "host") (white_end b 0) run s in
        let same : Host ≡ h = cc in
        subst (λ k. PlatformName k b) same (subst (PlatformName Host) (sym w.4) (PlatformName.host w.2 w.3))
    first false s q = second (says_word b (codes "target") (white_end b 0)) refl q

-- where white space ends before a word, and after it
record Around (v w u : List ℕ) : Type 0 where
  front : white_end (v ++ (w ++ u)) 0 ≡ length v
  rest : drop (length v) (v ++ (w ++ u)) ≡ w ++ u
  back : white_end (v ++ (w ++ u)) (length v + length w) ≡ length (v ++ (w ++ u))

around : (v w u : List ℕ) → White v → White u → white_of (get_or (w ++ u) 0 0) (get_or (w ++ u) 1 0) (get_or (w ++ u) 2 0) ≡ 0 → Around v w u
around v w u x y n =
    let b = v ++ (w ++ u) in
    let rest = drop_at v (w ++ u) (length v) refl in
    let after : drop (length v + length w) b ≡ u = sym (drop-drop (length w) (length v) b) ∙ ap (drop (length w)) rest ∙ drop_at w u (length w) refl in
    let size = length-append v (w ++ u) in let size2 = length-append w u in
    let fx = length-le-encodes x.0 in let fy = length-le-encodes y.0 in
    record {
      front = whites-end x.0 b (length b) 0 (w ++ u) x.2 (ap (λ r. r ++ (w ++ u)) (sym x.1)) n (omega (arith, ap length x.1)) ∙ zero-add (length (encodes x.0)) ∙ ap length x.1;
      rest = rest;
      back = whites-end y.0 b (length b) (length v + length w) [] y.2 (after ∙ sym y.1 ∙ sym (append-nil (encodes y.0))) refl (omega (arith, ap length y.1)) ∙ omega (arith, ap length y.1);
    }

begins-at : (v w u x : List ℕ) (p : ℕ) → drop p (v ++ (w ++ u)) ≡ w ++ u → (r : Bool) → prefix_of x (w ++ u) ≡ r → begins_at (v ++ (w ++ u)) p x ≡ r
begins-at v w u x p e r h = begins-prefix (v ++ (w ++ u)) p x ∙ ap (prefix_of x) e ∙ h

pub platform-whole : (b : List ℕ) (h : BuildPlatform) → PlatformName h b → platform_of b ≡ Some h
unfolding platform_of
platform-whole b h (PlatformName.host {v} {w} x y) =
    let a = around v (codes "host") w x y refl in
    let s : says_word (v ++ (codes "host" ++ w)) (codes "host") (length v) ≡ true =
    and_from (begins_at (v ++ (codes "host" ++ w)) (length v) (codes "host")) (eqb (white_end (v ++ (codes "host" ++ w)) (length v + 4)) (length (v ++ (codes "host" ++ w))))
    (begins-at v (codes "host") w (codes "host") (length v) a.rest true refl) (eq-eqb _ _ a.back) in
    rw (a.front, s)
platform-whole b h (PlatformName.target {v} {w} x y) =
    let a = around v (codes "target") w x y refl in
    let s : says_word (v ++ (codes "target" ++ w)) (codes "target") (length v) ≡ true =
    and_from (begins_at (v ++ (codes "target" ++ w)) (length v) (codes "target")) (eqb (white_end (v ++ (codes "target" ++ w)) (length v + 6)) (length (v ++ (codes "target" ++ w))))
    (begins-at v (codes "target") w (codes "target") (length v) a.rest true refl) (eq-eqb _ _ a.back) in
    let n : says_word (v ++ (codes "target" ++ w)) (codes "host") (length v) ≡ false =
    and_left (begins_at (v ++ (codes "target" ++ w)) (length v) (codes "host")) (eqb (white_end (v ++ (codes "target" ++ w)) (length v + 4)) (length (v ++ (codes "target" ++ w))))
    (begins-at v (codes "target") w (codes "host") (length v) a.rest false refl) in
    rw (a.front, n, s)
