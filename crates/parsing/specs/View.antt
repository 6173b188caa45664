-- A cursor as a plain state, and what a reading makes of it.
use Rattle.std.specs.Prelude.{◌≡◌, ℕ, ◌+◌, ◌*◌, ◌≤◌, List, [], ◌++◌, length, Some, None, Ok, Err, vec_items, vec_len, vec_capacity, Option, Result}
use Rattle.std.proofs.lemmas.List.Edits.{sets}
use Rattle.std.specs.Option.{option_map, unwrap_or}
use Rattle.errors.specs.declared.reports.Report.{Report}
use Rattle.errors.specs.declared.faults.ReadingFault.{ReadingFault}
use Rattle.unicode_string.specs.declared.Name.{Name}
use Rattle.unicode_string.specs.Names.{first_start, bytes_in}
use Rattle.parsing.specs.declared.cursor.Cursor.{Cursor}
use Rattle.parsing.specs.declared.nodes.NameMatcher.{NameMatcher}
use Rattle.parsing.specs.declared.nodes.Operator.{Operator}
use Rattle.parsing.specs.declared.nodes.ParsedNode.{ParsedNode}
use Rattle.parsing.specs.Tree.{Tree}
use Rattle.parsing.specs.Nodes.{nodes_of}
use Rattle.parsing.specs.Reading.{At, Out, after, Called, Matched}

pub record St : Type 0 where
  pub text : List ℕ
  pub at : At
  pub first : Option ℕ
  pub table : List Report
  pub space : List ℕ
  pub lent : ℕ
  pub held : ℕ
  pub kept : ℕ

abbrev pub view : Cursor → St
view c = record {
  text = c.text.now;
  at = record { pos = c.pos; parts = c.parts; count = c.count; used = c.used };
  first = c.first;
  table = c.table.now;
  space = c.space.now;
  lent = c.table.ghost_name;
  held = c.space.ghost_name;
  kept = c.nodes.ghost_name;
}

abbrev pub grow : {X : Type 0} → St → Out X → St
grow s o = record {
  text = s.text;
  at = after s.at o;
  first = first_start s.first o.reports;
  table = sets s.table s.at.count o.reports;
  space = sets s.space s.at.used o.bytes;
  lent = s.lent;
  held = s.held;
  kept = s.kept;
}

abbrev pub map_ok : {X Y : Type 0} → (X → Y) → Result X ReadingFault → Result Y ReadingFault
map_ok f (Ok x) = Ok (f x)
map_ok f (Err e) = Err e

-- the reading o leads from s to e, and the code answers r for what was read
pub record Ran {X Y : Type 0} (f : X → Y) (s : St) (o : Out X) (e : St) (r : Result Y ReadingFault) : Type 0 where
  pub state : e ≡ grow s o
  pub result : r ≡ map_ok f o.value

-- the reader rd, started at c, comes to d
abbrev pub Reads : {X Y : Type 0} → (X → Y) → (List ℕ → At → Out X) → Cursor → Cursor → Result Y ReadingFault → Type 0
Reads f rd c d r = Ran f (view c) (rd c.text.now (view c).at) (view d) r

abbrev pub same : {X : Type 0} → X → X
same x = x

abbrev pub nothing : {X : Type 0} → X → Unit {0}
nothing x = tt

abbrev pub name_only : Option Called → Option Name
name_only = option_map (λ c. c.name)

abbrev pub matcher_only : Option Matched → Option NameMatcher
matcher_only = option_map (λ m. record { kind = m.kind; name = m.called.name })

-- the nodes of the tree that was read were put behind those before
abbrev pub Pushed : Result (Tree Called) ReadingFault → List ParsedNode → List ParsedNode → Type 0
Pushed (Ok x) before now = now ≡ before ++ nodes_of x
Pushed (Err e) before now = Unit {0}

abbrev pub held : Cursor → List ParsedNode
held c = vec_items c.nodes.now

-- a reader of trees, started at c, comes to d
pub record ReadsTree (rd : List ℕ → At → Out (Tree Called)) (c d : Cursor) (r : Result (Unit {0}) ReadingFault) : Type 0 where
  pub ran : Reads nothing rd c d r
  pub nodes : Pushed (rd c.text.now (view c).at).value (held c) (held d)

-- neither the text nor the nodes change
pub record Kept (c d : Cursor) : Type 0 where
  pub text : d.text ≡ c.text
  pub nodes : d.nodes ≡ c.nodes

-- what every reader may count on: room for `spare` nodes besides those of the parts to come, at most eight reports a byte and `more`
pub record Sound (spare more : ℕ) (c : Cursor) : Type 0 where
  pub short : length c.text.now ≤ 1024
  pub within : c.pos ≤ length c.text.now
  pub room : 128 ≤ vec_capacity c.nodes.now
  pub spared : vec_len c.nodes.now + spare ≤ c.parts
  pub crowd : c.parts ≤ 128
  pub few : c.count ≤ 8 * c.pos + more
  pub space : c.used ≤ c.pos

-- from c to d over `bytes` bytes and more, with at most `more` reports beyond eight for each other byte, and `nodes` nodes beyond the parts
pub record Moved (bytes more nodes : ℕ) (c d : Cursor) : Type 0 where
  pub text : d.text.now ≡ c.text.now
  pub on : c.pos + bytes ≤ d.pos
  pub within : d.pos ≤ length c.text.now
  pub cap : vec_capacity d.nodes.now ≡ vec_capacity c.nodes.now
  pub made : vec_len d.nodes.now + c.parts ≤ vec_len c.nodes.now + d.parts + nodes
  pub crowd : d.parts ≤ 128
  pub few : d.count + 8 * c.pos + 8 * bytes ≤ c.count + 8 * d.pos + more
  pub space : d.used + c.pos ≤ c.used + d.pos

-- after a sign was sought: where one was taken, a byte at least and a part
abbrev pub Taken : Result (Option Operator) ReadingFault → Cursor → Cursor → Type 0
Taken (Ok None) c d = Moved 0 0 0 c d
Taken (Ok (Some o)) c d = Moved 1 1 0 c d × (d.parts ≡ c.parts + 1)
Taken (Err e) c d = Moved 1 1 0 c d

-- the bytes of a name in the text or the decoding space, none if they lie outside
abbrev pub bytes_at : List ℕ → List ℕ → Name → List ℕ
bytes_at t s n = unwrap_or (bytes_in t s n) []

-- where a name was read, its bytes stand there
abbrev pub Spelt : List ℕ → List ℕ → Result (Option Called) ReadingFault → Type 0
Spelt t s (Ok None) = Unit {0}
Spelt t s (Ok (Some x)) = bytes_in t s x.name ≡ Some x.bytes
Spelt t s (Err e) = Unit {0}
