use Rattle.std.proofs.Common.{arith}
use Rattle.expression.proofs.Links.{edge_kept}
use Rattle.expression.proofs.oracle.Reachability.add.Goals as goal

pub returns-then-to-lt-SIZE : goal.returns-then-to-lt-SIZE
returns-then-to-lt-SIZE c =
    let s = c.insert in let t = c.insert-then-to-lt-SIZE in let u = c.insert-then-to-lt-SIZE-2 in
    edge_kept c.args.edge c.args.self.now.rows s.new.self t.new.self u.new.self (omega arith) c.if-from-lt-SIZE.true c.if-to-lt-SIZE.true s.ensures.members t.ensures.members u.ensures.members
