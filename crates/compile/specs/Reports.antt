-- Reports that lowering makes, one after the other.
use Rattle.std.specs.Prelude.{Bool, cond, List, [], ◌∷◌, Some, None, Option}
use Rattle.errors.specs.declared.reports.Report.{Report}
use Rattle.errors.specs.declared.reports.ReportKind.{ReportKind}
use Rattle.errors.specs.Reports.{Log, made}
use Rattle.glob.specs.declared.place.Place.{Place}

-- a report on a part of the text, where something is wrong there
abbrev pub note_if : Bool → ReportKind → Place → List Report
note_if wrong kind span = cond wrong (record { kind = kind; start = span.start; length = span.length } ∷ []) []

-- a report on the part that is at fault, if one is
abbrev pub note_at : ReportKind → Option Place → List Report
note_at kind None = []
note_at kind (Some span) = record { kind = kind; start = span.start; length = span.length } ∷ []

-- after further reports, each made behind those before
abbrev pub logged : Log → List Report → Log
logged l [] = l
logged l (r ∷ rs) = logged (made l (r ∷ [])) rs
