use Rattle.std.proofs.Common.{◌≡◌, ◌+◌, ◌*◌, ◌^◌, ◌≤◌}
use Rattle.unicode_string.specs.Text.{digits_at}
use Rattle.unicode_string.proofs.parse_hex.Given as goal

abbrev pub invariant-loop-read : goal.invariant-loop-read
invariant-loop-read l = record {
  left : l.digits.left + l.read ≡ 6;
  room : (l.digits.code + 1) * 16 ^ l.digits.left ≤ 16777216;
  rest : digits_at l.text l.digits.left l.digits.next l.digits.code ≡ digits_at l.text 6 l.from 0;
}
