use Rattle.std.proofs.Common.{rules, ap, length}
use Rattle.glob.proofs.Splits.{member-none, member-some}
use Rattle.glob.proofs.MembersIterator.next.Goals as goal

pub returns-in_err-m-clause-steps : goal.returns-in_err-m-clause-steps
returns-in_err-m-clause-steps c = let n = member-none c.args.self.now.0.now c.in_err-m.ensures in rw c.from_residual.ensures (n, n)

pub returns-clause-steps : goal.returns-clause-steps
returns-clause-steps c = member-some _ _ _ c.in_ok-m.ensures

pub returns-clause-goes : goal.returns-clause-goes
returns-clause-goes c = let n = ap length (member-some _ _ _ c.in_ok-m.ensures) in search rules
