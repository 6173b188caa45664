use Rattle.std.proofs.Common.{ℕ, List, [], is_some, Option, unwrap_or, ap}
use Rattle.glob.specs.Reading.{items_of, walk}
use Rattle.parsing.proofs.cursor.Cursor.is_glob.Goals as goal

pub returns-in-None : goal.returns-in-None
unfolding walk
returns-in-None c = ap (λ (o : Option (List ℕ)). is_some (items_of (unwrap_or o []))) (rw (c.texts.ensures.0, c.texts.ensures.1) at c.in-None.ensures.bytes)
