-- What the reading call answers for a text, and what it leaves in what was lent to it.
use Rattle.std.specs.Prelude.{ℕ, Bool, cond, List, [], ◌∷◌, length, replicate, is_ok, Some, None, Ok, Err, Option, Result, nat_lt}
use Rattle.std.proofs.lemmas.List.Edits.{sets}
use Rattle.errors.specs.declared.reports.Report.{Report}
use Rattle.errors.specs.declared.faults.TextFault.TheVariants.{Long}
use Rattle.errors.specs.declared.faults.ReadingFault.{ReadingFault}
use Rattle.errors.specs.declared.faults.ReadingFault.TheVariants.{Text, Faulty}
use Rattle.parsing.specs.declared.nodes.ParsedNode.{ParsedNode}
use Rattle.parsing.specs.Tree.{Tree}
use Rattle.parsing.specs.Nodes.{nodes_of}
use Rattle.parsing.specs.Reading.{Out, Called, reading_of}

-- a text with reports is faulty, from the start of the first
abbrev pub unless_told : List Report → Result (Unit {0}) ReadingFault
unless_told [] = Ok tt
unless_told (r ∷ rs) = Err (Faulty r.start (length (r ∷ rs)))

-- a reading that stopped is refused by that, one with reports as faulty
abbrev pub answer_by : List Report → Result (Tree Called) ReadingFault → Result (Unit {0}) ReadingFault
answer_by l (Ok x) = unless_told l
answer_by l (Err e) = Err e

abbrev pub answer_for : Out (Tree Called) → Result (Unit {0}) ReadingFault
answer_for o = answer_by o.reports o.value

-- the same by whether and where a report was made
abbrev pub faulty_by : Option ℕ → ℕ → Result (Unit {0}) ReadingFault
faulty_by None n = Ok tt
faulty_by (Some p) n = Err (Faulty p n)

abbrev pub verdict_of : Result (Unit {0}) ReadingFault → Option ℕ → ℕ → Result (Unit {0}) ReadingFault
verdict_of (Ok x) f n = faulty_by f n
verdict_of (Err e) f n = Err e

-- a text of more than 1,024 bytes is not read
abbrev pub is_long : List ℕ → Bool
is_long t = nat_lt 1024 (length t)

abbrev pub answer_of : List ℕ → Result (Unit {0}) ReadingFault
answer_of t = cond (is_long t) (Err (Text Long)) (answer_for (reading_of t))

-- the report table l afterwards: the first entries are the reports, as many as fit
abbrev pub table_of : List ℕ → List Report → List Report
table_of t l = cond (is_long t) l (sets l 0 (reading_of t).reports)

abbrev pub zeros : List ℕ
zeros = replicate 1024 0

-- the decoding space s afterwards: the decoded names of an accepted text, end to end, and then zeros; else all zeros
abbrev pub space_of : List ℕ → List ℕ → List ℕ
space_of t s = cond (is_long t) s (cond (is_ok (answer_for (reading_of t))) (sets zeros 0 (reading_of t).bytes) zeros)

-- the tree that was read
abbrev pub tree_of : Result (Tree Called) ReadingFault → Tree Called
tree_of (Ok x) = x
tree_of (Err e) = Tree.bad

-- the nodes afterwards: those of an accepted text
abbrev pub nodes_left : List ℕ → List ParsedNode
nodes_left t = cond (is_ok (answer_of t)) (nodes_of (tree_of (reading_of t).value)) []
