use Rattle.std.proofs.Common.{get_or, arith, ◌∙◌, length-set}
use Rattle.expression.specs.Oracles.{no_packages}
use Rattle.expression.proofs.Links.{join_more, join-all}
use Rattle.expression.proofs.oracle.Reachability.join_through.Goals as goal

pub loop-row-preserved : goal.loop-row-preserved
loop-row-preserved c =
    let was = c.args.self.now.rows in let rows = c.loop-row.row-items in let i = c.loop-row.row-index in
    record {
      long = length-set rows i _ ∙ c.loop-row.invariant.long;
      joined = join_more was rows i c.args.k (get_or was c.args.k no_packages) c.join.new.set (omega arith) c.loop-row.invariant.joined c.join.ensures;
    }

pub returns : goal.returns
returns c = join-all c.args.self.now.rows c.loop-row.row-items c.loop-row.row-index c.args.k (omega arith) c.loop-row.invariant.joined
