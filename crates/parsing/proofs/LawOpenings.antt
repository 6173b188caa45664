-- What an operand begins with, and what joins operands: the words of the rules are found, and what is found is a word of the rules.
use Rattle.std.proofs.Common.{◌≡◌, ℕ, ◌+◌, true, false, ◌&&◌, List, [], ◌∷◌, ◌++◌, length, get_or, drop, Some, None, codes, Option, sym, refl, ap, ◌∙◌, subst, arith}
use Rattle.std.proofs.lemmas.List.{get_or-drop}
use Rattle.std.proofs.lemmas.Bool.{ne_eqb}
use Rattle.errors.specs.declared.reports.ReportKind.{ReportKind}
use Rattle.unicode_string.specs.Text.{is_word}
use Rattle.parsing.specs.declared.nodes.Predicate.{Predicate}
use Rattle.parsing.specs.declared.nodes.Predicate.TheVariants.{Package, Deps, Rdeps, Kind, BinaryId, Binary, Test, Group}
use Rattle.parsing.specs.declared.nodes.Operator.{Operator}
use Rattle.parsing.specs.declared.nodes.Operator.TheVariants.{Union, Intersection, Difference}
use Rattle.parsing.specs.declared.words.Nullary.{Nullary}
use Rattle.parsing.specs.declared.words.Nullary.TheVariants as nullary
use Rattle.parsing.specs.declared.words.SetName.TheVariants as sets
use Rattle.parsing.specs.declared.words.Lead.{Lead}
use Rattle.parsing.specs.declared.words.Lead.TheVariants as lead
use Rattle.parsing.specs.declared.words.Opening.{Opening}
use Rattle.parsing.specs.declared.words.Sign.{Sign}
use Rattle.parsing.specs.Words.{Entry, name_of, nullary_name, set_entries, sign_entries, or_entries, and_entries, Joins, opening, or_else, opening_at, sign, or_sign_at, and_sign_at}
use Rattle.parsing.specs.Grammar.{Stands, Keyword, NotSign, AndSign, OrSign}
use Rattle.parsing.proofs.LawWords.{prefix_of, first_on, first_on_lem, prefix-stands, Found, Each, first-sound}

abbrev pub opening_on : List ℕ → Option Opening
opening_on s = or_else (opening (first_on set_entries s)) (opening (first_on sign_entries s))

pub opening_on_lem : (t : List ℕ) (p : ℕ) → opening_at t p ≡ opening_on (drop p t)
unfolding opening_at
opening_on_lem t p = rw (first_on_lem set_entries t p, first_on_lem sign_entries t p)

abbrev pub or_sign_on : List ℕ → Option Sign
or_sign_on s = sign (first_on or_entries s)

abbrev pub and_sign_on : List ℕ → Option Sign
and_sign_on s = sign (first_on and_entries s)

pub or-sign-on : (t : List ℕ) (p : ℕ) → or_sign_at t p ≡ or_sign_on (drop p t)
unfolding or_sign_at
or-sign-on t p = rw (first_on_lem or_entries t p)

pub and-sign-on : (t : List ℕ) (p : ℕ) → and_sign_at t p ≡ and_sign_on (drop p t)
unfolding and_sign_at
and-sign-on t p = rw (first_on_lem and_entries t p)

abbrev pub opens : Lead → List ℕ → Option Opening
opens l w = Some (record { lead = l; length = length w })

not-longer : (s : List ℕ) → (get_or s 0 0 ≡ 95 → ⊥) → prefix_of (codes "_id") s ≡ false
not-longer [] ne = refl
not-longer (c ∷ s) ne = ap (λ v. v && prefix_of (codes "id") s) (ne_eqb c 95 ne)

pub set-opening : (q : Predicate) (s : List ℕ) → (get_or s 0 0 ≡ 95 → ⊥) → opening_on (name_of q ++ s) ≡ opens (lead.Set (sets.Matched q)) (name_of q)
set-opening Package s ne = refl
set-opening Deps s ne = refl
set-opening Rdeps s ne = refl
set-opening Kind s ne = refl
set-opening BinaryId s ne = refl
set-opening Binary s ne = rw (not-longer s ne)
set-opening Test s ne = refl
set-opening Group s ne = refl

pub platform-opening : (s : List ℕ) → opening_on (codes "platform" ++ s) ≡ opens (lead.Set sets.Platform) (codes "platform")
platform-opening s = refl

pub nullary-opening : (n : Nullary) (s : List ℕ) → opening_on (nullary_name n ++ s) ≡ opens (lead.Set (sets.Nullary n)) (nullary_name n)
nullary-opening nullary.Default s = refl
nullary-opening nullary.All s = refl
nullary-opening nullary.None s = refl

pub not-opening : (s : List ℕ) → is_word (get_or s 0 0) ≡ false → opening_on (codes "not" ++ s) ≡ opens lead.Not (codes "not")
not-opening s e = rw e

pub bang-opening : (s : List ℕ) → opening_on (codes "!" ++ s) ≡ opens lead.Not (codes "!")
bang-opening s = refl

pub group-opening : (s : List ℕ) → opening_on (codes "(" ++ s) ≡ opens lead.Group (codes "(")
group-opening s = refl

abbrev pub signs : Operator → List ℕ → Option Sign
signs o w = Some (record { operator = o; fault = None; length = length w })

other : (b : ℕ) (s : List ℕ) → (get_or s 0 0 ≡ b → ⊥) → prefix_of (b ∷ []) s ≡ false
other b [] ne = refl
other b (c ∷ s) ne = ap (λ v. v && true) (ne_eqb c b ne)

pub or_word : (s : List ℕ) → is_word (get_or s 0 0) ≡ false → or_sign_on (codes "or" ++ s) ≡ signs Union (codes "or")
or_word s e = rw e

pub or-bar : (s : List ℕ) → (get_or s 0 0 ≡ 124 → ⊥) → or_sign_on (codes "|" ++ s) ≡ signs Union (codes "|")
or-bar s ne = rw (other 124 s ne)

pub or-plus : (s : List ℕ) → or_sign_on (codes "+" ++ s) ≡ signs Union (codes "+")
or-plus s = refl

pub and_word : (s : List ℕ) → is_word (get_or s 0 0) ≡ false → and_sign_on (codes "and" ++ s) ≡ signs Intersection (codes "and")
and_word s e = rw e

pub and-mark : (s : List ℕ) → (get_or s 0 0 ≡ 38 → ⊥) → and_sign_on (codes "&" ++ s) ≡ signs Intersection (codes "&")
and-mark s ne = rw (other 38 s ne)

pub and-minus : (s : List ℕ) → and_sign_on (codes "-" ++ s) ≡ signs Difference (codes "-")
and-minus s = refl

-- what joins or-expressions, closes a group or ends the text joins no and-expressions; the latter two no or-expressions
pub or-no-and : (s : List ℕ) → (and_sign_on (codes "or" ++ s) ≡ None) × (and_sign_on (codes "|" ++ s) ≡ None) × (and_sign_on (codes "+" ++ s) ≡ None)
or-no-and s = (refl, refl, refl)

pub close-no-sign : (s : List ℕ) → (and_sign_on (codes ")" ++ s) ≡ None) × (or_sign_on (codes ")" ++ s) ≡ None)
close-no-sign s = (refl, refl)

pub end-no-sign : (and_sign_on [] ≡ None) × (or_sign_on [] ≡ None)
end-no-sign = (refl, refl)

-- what was found as an operand's beginning at p, up to q, stands there
abbrev pub Opens : List ℕ → ℕ → ℕ → Lead → Type 0
Opens t p q (lead.Set (sets.Matched r)) = Stands t (name_of r) p q
Opens t p q (lead.Set sets.Platform) = Stands t (codes "platform") p q
Opens t p q (lead.Set (sets.Nullary n)) = Stands t (nullary_name n) p q
Opens t p q lead.Not = NotSign t p q
Opens t p q lead.Group = Stands t (codes "(") p q
Opens t p q (lead.Misplaced k) = Unit {0}

abbrev OpensBy : List ℕ → ℕ → Entry Lead → Type 0
OpensBy t p e = Opens t p (p + length e.word) e.says

keyword-at : (t w : List ℕ) (p : ℕ) → prefix_of w (drop p t) ≡ true → is_word (get_or (drop p t) (length w) 0) ≡ false → Keyword t w p (p + length w)
keyword-at t w p h a = record { stands = prefix-stands t w p h; apart = sym (ap is_word (get_or-drop p t (length w) 0)) ∙ a }

abbrev stands : (t : List ℕ) (p : ℕ) (e : Entry Lead) → Found (drop p t) e → Stands t e.word p (p + length e.word)
stands t p e f = prefix-stands t e.word p f.stands

set_found : (t : List ℕ) (p : ℕ) → Each (λ e. Found (drop p t) e → OpensBy t p e) set_entries
set_found t p =
    (stands t p _, (stands t p _, (stands t p _, (stands t p _, (stands t p _, (stands t p _, (stands t p _, (stands t p _, (stands t p _, (stands t p _, (stands t p _, (stands t p _, tt))))))))))))

sign-found : (t : List ℕ) (p : ℕ) → Each (λ e. Found (drop p t) e → OpensBy t p e) sign_entries
sign-found t p =
    (λ f. NotSign.word (keyword-at t (codes "not") p f.stands (f.apart refl)), (λ f. NotSign.mark (stands t p _ f), (stands t p _, (λ _. tt, (λ _. tt, (λ _. tt, (λ _. tt, (λ _. tt, (λ _. tt, (λ _. tt, tt))))))))))

pub opening-sound : (t : List ℕ) (p : ℕ) (o : Opening) → opening_at t p ≡ Some o → Opens t p (p + o.length) o.lead
opening-sound t p o h = go (first_on set_entries (drop p t)) refl (sym (opening_on_lem t p) ∙ h)
  where
    late : (f : Option (Entry Lead)) → first_on sign_entries (drop p t) ≡ f → opening f ≡ Some o → Opens t p (p + o.length) o.lead
    late None e q = absurd (let z : ◌≡◌ {A = ℕ} 0 1 = cc in omega arith)
    late (Some x) e q =
        let same : record { lead = x.says; length = length x.word } ≡ o = cc in
        subst (λ (y : Opening). Opens t p (p + y.length) y.lead) same (first-sound (OpensBy t p) sign_entries (drop p t) x (sign-found t p) e)

    go : (f : Option (Entry Lead)) → first_on set_entries (drop p t) ≡ f → or_else (opening f) (opening (first_on sign_entries (drop p t))) ≡ Some o → Opens t p (p + o.length) o.lead
    go None e q = late (first_on sign_entries (drop p t)) refl q
    go (Some x) e q =
        let same : record { lead = x.says; length = length x.word } ≡ o = cc in
        subst (λ (y : Opening). Opens t p (p + y.length) y.lead) same (first-sound (OpensBy t p) set_entries (drop p t) x (set_found t p) e)

-- a sign of the language stands there; one of another language is faulty
abbrev pub Faulty : Option ReportKind → Type 0
Faulty None = ⊥
Faulty (Some k) = Unit {0}

abbrev pub OrFound : List ℕ → ℕ → ℕ → Operator → Option ReportKind → Type 0
OrFound t p q o None = (o ≡ Union) × OrSign t p q
OrFound t p q o (Some k) = Unit {0}

abbrev pub AndFound : List ℕ → ℕ → ℕ → Operator → Option ReportKind → Type 0
AndFound t p q o None = AndSign t p q o
AndFound t p q o (Some k) = Unit {0}

or-found : (t : List ℕ) (p : ℕ) → Each (λ e. Found (drop p t) e → OrFound t p (p + length e.word) e.says.operator e.says.fault) or_entries
or-found t p =
    (λ _. tt, (λ _. tt, (λ f. (refl, OrSign.word (keyword-at t (codes "or") p f.stands (f.apart refl))), (λ f. (refl, OrSign.bar (prefix-stands t (codes "|") p f.stands)), (λ f. (refl, OrSign.plus (prefix-stands t (codes "+") p f.stands)), tt)))))

and-found : (t : List ℕ) (p : ℕ) → Each (λ e. Found (drop p t) e → AndFound t p (p + length e.word) e.says.operator e.says.fault) and_entries
and-found t p =
    (λ _. tt, (λ _. tt, (λ f. AndSign.word (keyword-at t (codes "and") p f.stands (f.apart refl)), (λ f. AndSign.mark (prefix-stands t (codes "&") p f.stands), (λ f. AndSign.minus (prefix-stands t (codes "-") p f.stands), tt)))))

sign-sound : (t : List ℕ) (p : ℕ) (es : List (Entry Joins)) (F : ℕ → ℕ → Operator → Option ReportKind → Type 0) →
    Each (λ e. Found (drop p t) e → F p (p + length e.word) e.says.operator e.says.fault) es →
    (s : Sign) → sign (first_on es (drop p t)) ≡ Some s → F p (p + s.length) s.operator s.fault
sign-sound t p es F all s h = go (first_on es (drop p t)) refl h
  where
    go : (f : Option (Entry Joins)) → first_on es (drop p t) ≡ f → sign f ≡ Some s → F p (p + s.length) s.operator s.fault
    go None e q = absurd (let z : ◌≡◌ {A = ℕ} 0 1 = cc in omega arith)
    go (Some x) e q =
        let same : record { operator = x.says.operator; fault = x.says.fault; length = length x.word } ≡ s = cc in
        subst (λ (y : Sign). F p (p + y.length) y.operator y.fault) same
        (first-sound (λ e. F p (p + length e.word) e.says.operator e.says.fault) es (drop p t) x all e)

pub or_sound : (t : List ℕ) (p : ℕ) (s : Sign) → or_sign_at t p ≡ Some s → OrFound t p (p + s.length) s.operator s.fault
or_sound t p s h = sign-sound t p or_entries (OrFound t) (or-found t p) s (sym (or-sign-on t p) ∙ h)

pub and_sound : (t : List ℕ) (p : ℕ) (s : Sign) → and_sign_at t p ≡ Some s → AndFound t p (p + s.length) s.operator s.fault
and_sound t p s h = sign-sound t p and_entries (AndFound t) (and-found t p) s (sym (and-sign-on t p) ∙ h)
