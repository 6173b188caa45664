-- The fourteen refusals: what a refused call answers, for each fault of each layer.
use Rattle.std.specs.Prelude.{ℕ}
use Rattle.errors.specs.declared.faults.Layer.{Layer}
use Rattle.errors.specs.declared.faults.Layer.TheVariants as layer
use Rattle.errors.specs.declared.faults.Refusal.{Refusal}
use Rattle.errors.specs.declared.faults.TextFault.{TextFault}
use Rattle.errors.specs.declared.faults.TextFault.TheVariants.{Long, Garbled}
use Rattle.errors.specs.declared.faults.TablesFault.{TablesFault}
use Rattle.errors.specs.declared.faults.ReadingFault.{ReadingFault}
use Rattle.errors.specs.declared.faults.ReadingFault.TheVariants.{Text, Regex, Deep, Crowded, Faulty}
use Rattle.errors.specs.declared.faults.LoweringFault.{LoweringFault}
use Rattle.errors.specs.declared.faults.LoweringFault.TheVariants.{Reading, Tables, Banned, NoGroups, NothingFound}
use Rattle.errors.specs.declared.faults.SelectorFault.{SelectorFault}
use Rattle.errors.specs.declared.faults.SelectorFault.TheVariants.{Lowering, Late, Full, NoSuchFilter, NoRoster}

-- a lower fault, kept whole in the fault of an upper layer
abbrev pub text_in_reading : TextFault → ReadingFault
text_in_reading f = Text f

abbrev pub reading_in_lowering : ReadingFault → LoweringFault
reading_in_lowering f = Reading f

abbrev pub tables_in_lowering : TablesFault → LoweringFault
tables_in_lowering f = Tables f

abbrev pub lowering_in_selector : LoweringFault → SelectorFault
lowering_in_selector f = Lowering f

-- number, place and count of a refusal that a layer finds
abbrev pub refused_by : Layer → ℕ → ℕ → ℕ → Refusal
refused_by l number place count = record { number = number; place = place; count = count; layer = l }

abbrev pub of_text : TextFault → Refusal
of_text Long = refused_by layer.Text 3 0 0
of_text (Garbled place) = refused_by layer.Text 4 place 0

abbrev pub of_tables : TablesFault → Refusal
of_tables _ = refused_by layer.Tables 5 0 0

abbrev pub of_reading : ReadingFault → Refusal
of_reading (Text f) = of_text f
of_reading (Regex place count) = refused_by layer.Reading 6 place count
of_reading (Deep place count) = refused_by layer.Reading 7 place count
of_reading (Crowded place count) = refused_by layer.Reading 8 place count
of_reading (Faulty place count) = refused_by layer.Reading 9 place count

abbrev pub of_lowering : LoweringFault → Refusal
of_lowering (Reading f) = of_reading f
of_lowering (Tables f) = of_tables f
of_lowering (Banned place count) = refused_by layer.Lowering 10 place count
of_lowering (NoGroups place) = refused_by layer.Lowering 11 place 0
of_lowering (NothingFound place count) = refused_by layer.Lowering 12 place count

abbrev pub refusal_of : SelectorFault → Refusal
refusal_of Late = refused_by layer.Selector 1 0 0
refusal_of Full = refused_by layer.Selector 2 0 0
refusal_of (Lowering f) = of_lowering f
refusal_of NoSuchFilter = refused_by layer.Selector 13 0 0
refusal_of (NoRoster place) = refused_by layer.Selector 14 place 0
