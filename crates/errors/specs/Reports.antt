-- Reports as they were made, one after the other.
use Rattle.std.specs.Prelude.{ℕ, ◌+◌, min, List, [], ◌∷◌, length, Some, Option}
use Rattle.std.proofs.lemmas.List.Edits.{sets}
use Rattle.std.specs.Option.{option_or}
use Rattle.errors.specs.declared.reports.Report.{Report}
use Rattle.errors.specs.declared.reports.Reports.{Reports}

-- what the table holds, how many reports were made, where the first of them starts, and whose table it is
pub record Log : Type 0 where
  pub table : List Report
  pub count : ℕ
  pub first : Option ℕ
  pub lent : ℕ

abbrev pub log : Reports → Log
log r = record { table = r.table.now; count = r.count; first = r.first; lent = r.table.ghost_name }

-- the start of the first report, where f is that of an earlier one
abbrev pub first_start : Option ℕ → List Report → Option ℕ
first_start f [] = f
first_start f (r ∷ rs) = option_or f (Some r.start)

-- the most that are counted
abbrev pub most : ℕ
most = 18446744073709551615

-- after further reports: those that fit stand in the table, behind those before
abbrev pub made : Log → List Report → Log
made l rs = record { table = sets l.table l.count rs; count = min (l.count + length rs) most; first = first_start l.first rs; lent = l.lent }
