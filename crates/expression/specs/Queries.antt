-- Queries by value: what a borrowed query shows.
use Rattle.std.specs.Prelude.{ℕ, List}
use Rattle.expression.specs.declared.queries.BuildPlatform.{BuildPlatform}
use Rattle.expression.specs.declared.queries.BinaryQuery.{BinaryQuery}
use Rattle.expression.specs.declared.queries.TestQuery.{TestQuery}

-- a binary, with its names as bytes
pub record Binary : Type 0 where
  pub in_package : ℕ
  pub id : List ℕ
  pub name : List ℕ
  pub kind : List ℕ
  pub platform : BuildPlatform

-- a test in a binary
pub record Test : Type 0 where
  pub binary : Binary
  pub name : List ℕ

-- the binary that a query asks about
abbrev pub binary_of : BinaryQuery → Binary
binary_of q = record {
  in_package = q.«package»;
  id = q.binary_id.now;
  name = q.binary_name.now;
  kind = q.kind.now;
  platform = q.platform;
}

-- the test that a query asks about
abbrev pub test_of : TestQuery → Test
test_of q = record { binary = binary_of q.binary; name = q.test_name.now }
