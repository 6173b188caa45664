-- Reports after reports, and what a first report says of them.
use Rattle.std.proofs.Common.{◌≡◌, ℕ, suc, ◌+◌, ◌^◌, ◌<◌, ◌≤◌, Bool, true, false, List, [], ◌∷◌, ◌++◌, length, get_or, take, set, min, Some, None, Option, sym, refl, ap, ◌∙◌, subst, arith, length-append}
use lib.Seq.{sets}
use Rattle.std.specs.Option.{option_or}
use Rattle.std.specs.List.{flat_map}
use Rattle.std.proofs.lemmas.List.{take_more, flat_map_more}
use Rattle.errors.specs.declared.faults.LoweringFault.{LoweringFault}
use Rattle.errors.specs.declared.reports.Report.{Report}
use Rattle.errors.specs.declared.reports.ReportKind.{ReportKind}
use Rattle.glob.specs.declared.place.Place.{Place}
use Rattle.errors.specs.Reports.{Log, made, most, first_start}
use Rattle.unicode_string.proofs.Runs.{first-append}
use Rattle.compile.specs.Reports.{note_if, logged}
use Rattle.compile.specs.Compiled.{fault_by}

pub logged-append : (l : Log) (xs ys : List Report) → logged l (xs ++ ys) ≡ logged (logged l xs) ys
logged-append l [] ys = refl
logged-append l (x ∷ xs) ys = logged-append (made l (x ∷ [])) xs ys

abbrev pub log_of : List Report → ℕ → Option ℕ → ℕ → Log
log_of t n f lent = record { table = t; count = n; first = f; lent = lent }

-- reports that are not too many to be counted
pub logged-is : (l : Log) (rs : List Report) → l.count + length rs < 2 ^ 64 → logged l rs ≡ log_of (sets l.table l.count rs) (l.count + length rs) (first_start l.first rs) l.lent
logged-is l [] h = ap (λ (n : ℕ). log_of l.table n l.first l.lent) (let e : l.count ≡ l.count + 0 = omega arith in e)
logged-is l (r ∷ rs) h =
    let next : Log = log_of (set l.table l.count r) (suc l.count) (option_or l.first (Some r.start)) l.lent in
    let count : min (l.count + length (r ∷ [])) most ≡ suc l.count = omega arith in
    let one : made l (r ∷ []) ≡ next = ap (λ (n : ℕ). log_of (set l.table l.count r) n (option_or l.first (Some r.start)) l.lent) count in
    let long : suc l.count + length rs ≡ l.count + length (r ∷ rs) = omega arith in
    ap (λ (z : Log). logged z rs) one ∙ logged-is next rs (omega arith)
    ∙ ap (λ (n : ℕ). log_of (sets (set l.table l.count r) (suc l.count) rs) n (first_start (option_or l.first (Some r.start)) rs) l.lent) long
    ∙ ap (λ (f : Option ℕ). log_of (sets (set l.table l.count r) (suc l.count) rs) (l.count + length (r ∷ rs)) f l.lent) (sym (first-append l.first (r ∷ []) rs))

-- one item on
pub logged-more : {X : Type 0} (f : X → List Report) (xs : List X) (i : ℕ) (d : X) (l m e : Log) → i < length xs → m ≡ logged l (flat_map f (take i xs)) → e ≡ logged m (f (get_or xs i d)) → e ≡ logged l (flat_map f (take (i + 1) xs))
logged-more f xs i d l m e h a b =
    let joined = ap (flat_map f) (take_more xs i d h) ∙ sym (flat_map_more f [] (take i xs) (get_or xs i d)) in
    b ∙ ap (λ (z : Log). logged z (f (get_or xs i d))) a ∙ sym (logged-append l (flat_map f (take i xs)) (f (get_or xs i d))) ∙ ap (logged l) (sym joined)

pub few-joined : {X : Type 0} (f : X → List Report) (xs : List X) → ((x : X) → length (f x) ≤ 1) → length (flat_map f xs) ≤ length xs
few-joined f [] h = omega arith
few-joined f (x ∷ xs) h = omega (arith, h x, few-joined f xs h, length-append (f x) (flat_map f xs))

-- the first report gives the fault its place, if there is one
pub fault-some : (f : ℕ → ℕ → LoweringFault) (rs : List Report) (s n : ℕ) → Some s ≡ first_start None rs → n ≡ length rs → Some (f s n) ≡ fault_by f rs
fault-some f [] s n a b = absurd (let P : Option ℕ → Type 0 = λ o. elim o [ Some z ↦ Unit {0} | None ↦ ⊥ ] in subst P a tt)
fault-some f (r ∷ rs) s n a b = ap (λ (z : Option ℕ). elim z [ Some p ↦ Some (f p n) | None ↦ None ]) a ∙ ap (λ (z : ℕ). Some (f r.start z)) b

pub fault-none : (f : ℕ → ℕ → LoweringFault) (rs : List Report) → None ≡ first_start None rs → None ≡ fault_by f rs
fault-none f [] a = refl
fault-none f (r ∷ rs) a = absurd (let P : Option ℕ → Type 0 = λ o. elim o [ Some z ↦ ⊥ | None ↦ Unit {0} ] in subst P a tt)

pub note-few : (b : Bool) (k : ReportKind) (p : Place) → length (note_if b k p) ≤ 1
note-few true k p = omega arith
note-few false k p = omega arith
