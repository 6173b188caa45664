-- A source as a plain state, and what a reading makes of it.
use Rattle.std.specs.Prelude.{◌≡◌, ℕ, ◌+◌, List, length, Option}
use Rattle.std.proofs.lemmas.List.Edits.{sets}
use Rattle.unicode_string.specs.declared.source.Source.{Source}
use Rattle.unicode_string.specs.declared.decoded.Decoded.{Decoded}
use Rattle.errors.specs.declared.reports.Report.{Report}
use Rattle.unicode_string.specs.Names.{Out}
use Rattle.errors.specs.Reports.{first_start}

pub record St : Type 0 where
  pub text : List ℕ
  pub pos : ℕ
  pub count : ℕ
  pub first : Option ℕ
  pub table : List Report
  pub used : ℕ
  pub space : List ℕ
  pub lent : ℕ
  pub held : ℕ

abbrev pub view : Source → St
view c = record { text = c.text.now; pos = c.pos; count = c.count; first = c.first; table = c.table.now; used = c.decoded.used; space = c.decoded.space.now; lent = c.table.ghost_name; held = c.decoded.space.ghost_name }

abbrev pub grow : St → Out → St
grow s o = record { text = s.text; pos = o.at; count = s.count + length o.reports; first = first_start s.first o.reports; table = sets s.table s.count o.reports; used = s.used + length o.bytes; space = sets s.space s.used o.bytes; lent = s.lent; held = s.held }

-- the reading o leads from s to e
pub record Ran (s : St) (o : Out) (e : St) : Type 0 where
  pub state : e ≡ grow s o

-- the decoding space alone: its bytes, how many are used, and whose it is
pub record Filling : Type 0 where
  pub space : List ℕ
  pub used : ℕ
  pub held : ℕ

abbrev pub filling : Decoded → Filling
filling d = record { space = d.space.now; used = d.used; held = d.space.ghost_name }

-- after further bytes, behind those before
abbrev pub filled : Filling → List ℕ → Filling
filled f b = record { space = sets f.space f.used b; used = f.used + length b; held = f.held }
