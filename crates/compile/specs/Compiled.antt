-- What lowering a reading answers, what it reports, and what it stores.
use Rattle.std.specs.Prelude.{◌≡◌, ℕ, List, [], ◌∷◌, length, Some, None, Ok, Err, Option, Result}
use Rattle.std.proofs.lemmas.List.Edits.{sets}
use Rattle.std.specs.Option.{option_or}
use Rattle.errors.specs.declared.faults.LoweringFault.{LoweringFault}
use Rattle.errors.specs.declared.faults.LoweringFault.TheVariants.{Banned, NoGroups, NothingFound}
use Rattle.errors.specs.declared.reports.Report.{Report}
use Rattle.parsing.specs.Tree.{Tree}
use Rattle.compile.specs.declared.filter.Filter.{Filter}
use Rattle.compile.specs.declared.kinds.FiltersetKind.{FiltersetKind}
use Rattle.compile.specs.Bans.{banned, leftmost_group}
use Rattle.compile.specs.Filters.{reported, Stores}
use Rattle.compile.specs.World.{World}

-- reports as a fault, with the start of the first and how many there are
abbrev pub fault_by : (ℕ → ℕ → LoweringFault) → List Report → Option LoweringFault
fault_by f [] = None
fault_by f (r ∷ rs) = Some (f r.start (length (r ∷ rs)))

-- a group, at that place, while groups are unavailable
abbrev pub no_groups : Option (List (List ℕ)) → Option ℕ → Option LoweringFault
no_groups None None = None
no_groups None (Some place) = Some (NoGroups place)
no_groups (Some names) place = None

-- the fault that refuses a reading: bans, then a group while groups are unavailable, then sets that find nothing
abbrev pub fault_of : FiltersetKind → World → Tree (List ℕ) → Option LoweringFault
fault_of k w t =
    option_or (fault_by Banned (banned k t)) (option_or (no_groups w.tables.groups (leftmost_group t)) (fault_by NothingFound (reported w t)))

-- the answer: refused where there is a fault
abbrev pub answer : Option LoweringFault → Result (Unit {0}) LoweringFault
answer None = Ok tt
answer (Some fault) = Err fault

-- the reports made: bans or, where there are none and no group lacks, those on sets that find nothing
abbrev pub reports_by : List Report → Option LoweringFault → List Report → List Report
reports_by [] None found = found
reports_by [] (Some fault) found = []
reports_by (r ∷ rs) fault found = r ∷ rs

abbrev pub reports_of : FiltersetKind → World → Tree (List ℕ) → List Report
reports_of k w t = reports_by (banned k t) (no_groups w.tables.groups (leftmost_group t)) (reported w t)

-- lowering a reading: its answer, the report table before and after, and the filter where it is accepted
pub record Compiled (k : FiltersetKind) (w : World) (t : Tree (List ℕ)) (was now : List Report) (f : Filter) (r : Result (Unit {0}) LoweringFault) : Type 0 where
  pub answered : r ≡ answer (fault_of k w t)
  pub table : now ≡ sets was 0 (reports_of k w t)
  pub stores : fault_of k w t ≡ None → Stores w t f
