use Rattle.std.proofs.Common.{◌≡◌, take}
use Rattle.unicode_string.specs.View.{filling, filled}
use Rattle.unicode_string.proofs.decoded.Decoded.put_all.Given as goal

abbrev pub invariant-loop-b : goal.invariant-loop-b
invariant-loop-b l = filling l.self ≡ filled (filling l.initial.self) (take l.b-index l.bytes)
