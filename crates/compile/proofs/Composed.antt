-- Bans, groups and lowering, one after the other: what each says of a reading that the nodes write down.
use Rattle.std.proofs.Common.{◌≡◌, ℕ, List, [], ◌∷◌, Some, None, Ok, Err, Option, Result, sym, refl, ap, ◌∙◌, subst}
use lib.Seq.{sets}
use Rattle.std.specs.Option.{option_or}
use Rattle.errors.specs.declared.faults.LoweringFault.{LoweringFault}
use Rattle.errors.specs.declared.faults.LoweringFault.TheVariants.{Banned, NothingFound}
use Rattle.errors.specs.declared.reports.Report.{Report}
use Rattle.parsing.specs.Tree.{Tree}
use Rattle.compile.specs.declared.filter.Filter.{Filter}
use Rattle.compile.specs.declared.kinds.FiltersetKind.{FiltersetKind}
use Rattle.compile.specs.Bans.{banned, leftmost_group}
use Rattle.compile.specs.Compiled.{fault_by, no_groups, fault_of, answer, reports_by, Compiled}
use Rattle.compile.specs.Filters.{reported, Stores}
use Rattle.compile.specs.World.{World}

abbrev Answer : Type 0
Answer = Result (Unit {0}) LoweringFault

abbrev Refused : Answer → Type 0
Refused (Ok x) = ⊥
Refused (Err e) = Unit {0}

abbrev Given : Option LoweringFault → Type 0
Given None = ⊥
Given (Some e) = Unit {0}

-- a fault found first is the answer
first-is : (z x : Option LoweringFault) (e : LoweringFault) → Err e ≡ answer z → Err e ≡ answer (option_or z x)
first-is None x e h = absurd (subst Refused h tt)
first-is (Some f) x e h = h

-- where none was found first, the next is
none_from : (z : Option LoweringFault) → Ok tt ≡ answer z → z ≡ None
none_from None h = refl
none_from (Some f) h = absurd (subst Refused (sym h) tt)

nil-from : (f : ℕ → ℕ → LoweringFault) (bs : List Report) → fault_by f bs ≡ None → bs ≡ []
nil-from f [] h = refl
nil-from f (b ∷ bs) h = absurd (subst Given h tt)

some-reports : (f : ℕ → ℕ → LoweringFault) (bs rs : List Report) (g : Option LoweringFault) (e : LoweringFault) → Err e ≡ answer (fault_by f bs) → bs ≡ reports_by bs g rs
some-reports f [] rs g e h = absurd (subst Refused h tt)
some-reports f (b ∷ bs) rs g e h = refl

no-reports : (g : Option LoweringFault) (rs : List Report) (e : LoweringFault) → Err e ≡ answer g → [] ≡ reports_by [] g rs
no-reports None rs e h = absurd (subst Refused h tt)
no-reports (Some f) rs e h = refl

refused-not : (k : FiltersetKind) (w : World) (t : Tree (List ℕ)) (f : Filter) (e : LoweringFault) → Err e ≡ answer (fault_of k w t) → fault_of k w t ≡ None → Stores w t f
refused-not k w t f e h n = absurd (subst Refused (h ∙ ap answer n) tt)

-- something is banned
pub compiled-banned : (k : FiltersetKind) (w : World) (t : Tree (List ℕ)) (was now : List Report) (f : Filter) (r : Answer) (e : LoweringFault) (bs : List Report) → bs ≡ banned k t → now ≡ sets was 0 bs → Err e ≡ answer (fault_by Banned bs) → r ≡ Err e → Compiled k w t was now f r
compiled-banned k w t was now f r e bs b table a is =
    let a' : Err e ≡ answer (fault_by Banned (banned k t)) = a ∙ ap (λ (z : List Report). answer (fault_by Banned z)) b in
    let whole : Err e ≡ answer (fault_of k w t) = first-is (fault_by Banned (banned k t)) _ e a' in
    record {
      answered = is ∙ whole;
      table = table ∙ ap (sets was 0) (b ∙ some-reports Banned (banned k t) (reported w t) (no_groups w.tables.groups (leftmost_group t)) e a');
      stores = refused-not k w t f e whole;
    }

-- nothing is banned
pub unbanned : (k : FiltersetKind) (w : World) (t : Tree (List ℕ)) (bs : List Report) → bs ≡ banned k t → Ok tt ≡ answer (fault_by Banned bs) → banned k t ≡ []
unbanned k w t bs b a = sym b ∙ nil-from Banned bs (none_from (fault_by Banned bs) a)

-- a group lacks
pub compiled-no-groups : (k : FiltersetKind) (w : World) (t : Tree (List ℕ)) (was now : List Report) (f : Filter) (r : Answer) (e : LoweringFault) (bs : List Report) (p : Option ℕ) → bs ≡ banned k t → now ≡ sets was 0 bs → Ok tt ≡ answer (fault_by Banned bs) → p ≡ leftmost_group t → Err e ≡ answer (no_groups w.tables.groups p) → r ≡ Err e → Compiled k w t was now f r
compiled-no-groups k w t was now f r e bs p b table u q a is =
    let none = unbanned k w t bs b u in
    let a' : Err e ≡ answer (no_groups w.tables.groups (leftmost_group t)) = a ∙ ap (λ (z : Option ℕ). answer (no_groups w.tables.groups z)) q in
    let rest = first-is (no_groups w.tables.groups (leftmost_group t)) (fault_by NothingFound (reported w t)) e a' in
    let whole : Err e ≡ answer (fault_of k w t) =
    rest ∙ ap (λ (z : List Report). answer (option_or (fault_by Banned z) (option_or (no_groups w.tables.groups (leftmost_group t)) (fault_by NothingFound (reported w t))))) (sym none) in
    record {
      answered = is ∙ whole;
      table = table ∙ ap (sets was 0) (b ∙ none ∙ no-reports (no_groups w.tables.groups (leftmost_group t)) (reported w t) e a') ∙ ap (λ (z : List Report). sets was 0 (reports_by z (no_groups w.tables.groups (leftmost_group t)) (reported w t))) (sym none);
      stores = refused-not k w t f e whole;
    }

-- nothing is banned and no group lacks: the rest decides
pub compiled-rest : (k : FiltersetKind) (w : World) (t : Tree (List ℕ)) (was mid now : List Report) (f : Filter) (r : Answer) (bs : List Report) (p : Option ℕ) (rs : List Report) → bs ≡ banned k t → mid ≡ sets was 0 bs → Ok tt ≡ answer (fault_by Banned bs) → p ≡ leftmost_group t → Ok tt ≡ answer (no_groups w.tables.groups p) → rs ≡ reported w t → now ≡ sets mid 0 rs → r ≡ answer (fault_by NothingFound rs) → (fault_of k w t ≡ None → Stores w t f) → Compiled k w t was now f r
compiled-rest k w t was mid now f r bs p rs b m u q a n table is stores =
    let none = unbanned k w t bs b u in
    let groups : no_groups w.tables.groups (leftmost_group t) ≡ None = none_from _ (a ∙ ap (λ (z : Option ℕ). answer (no_groups w.tables.groups z)) q) in
    record {
      answered = is ∙ ap (λ (z : List Report). answer (fault_by NothingFound z)) n
          ∙ ap (λ (z : Option LoweringFault). answer (option_or z (fault_by NothingFound (reported w t)))) (sym groups)
          ∙ ap (λ (z : List Report). answer (option_or (fault_by Banned z) (option_or (no_groups w.tables.groups (leftmost_group t)) (fault_by NothingFound (reported w t))))) (sym none);
      table = table ∙ ap (λ (z : List Report). sets z 0 rs) (m ∙ ap (sets was 0) (b ∙ none)) ∙ ap (sets was 0) n
          ∙ ap (λ (z : Option LoweringFault). sets was 0 (reports_by [] z (reported w t))) (sym groups)
          ∙ ap (λ (z : List Report). sets was 0 (reports_by z (no_groups w.tables.groups (leftmost_group t)) (reported w t))) (sym none);
      stores = stores;
    }

pub refused-rest : (k : FiltersetKind) (w : World) (t : Tree (List ℕ)) (f : Filter) (e : LoweringFault) (bs : List Report) (p : Option ℕ) (rs : List Report) → bs ≡ banned k t → Ok tt ≡ answer (fault_by Banned bs) → p ≡ leftmost_group t → Ok tt ≡ answer (no_groups w.tables.groups p) → rs ≡ reported w t → Err e ≡ answer (fault_by NothingFound rs) → fault_of k w t ≡ None → Stores w t f
refused-rest k w t f e bs p rs b u q a n is h =
    let none = unbanned k w t bs b u in
    let groups : no_groups w.tables.groups (leftmost_group t) ≡ None = none_from _ (a ∙ ap (λ (z : Option ℕ). answer (no_groups w.tables.groups z)) q) in
    let whole : Err e ≡ answer (fault_of k w t) = is ∙ ap (λ (z : List Report). answer (fault_by NothingFound z)) n
    ∙ ap (λ (z : Option LoweringFault). answer (option_or z (fault_by NothingFound (reported w t)))) (sym groups)
    ∙ ap (λ (z : List Report). answer (option_or (fault_by Banned z) (option_or (no_groups w.tables.groups (leftmost_group t)) (fault_by NothingFound (reported w t))))) (sym none) in
    refused-not k w t f e whole h
