use Rattle.std.proofs.Common.{◌≡◌, map, rules, refl}
use Rattle.std.proofs.lemmas.Iterator.{YieldsList-from_slice, YieldsList-from_map_by}
use Rattle.std.proofs.lemmas.Iterator.Consumers.{map_from_collect}
use borrow.Author.Tests.{tests}
use Rattle.glob.specs.Reading.{matches}
use Rattle.glob.proofs.Spelling.{matching-is}
use Rattle.picking.proofs.Verdicts.{said, answered, all-named, all-right}
use Rattle.picking.proofs.pick.Goals as goal

pub returns : goal.returns
returns c =
    let glob = c.args.glob.now in
    let ns = c.args.names.now in
    let r = map_from_collect c.collect.result c.collect.ensures.ran
    (YieldsList-from_map_by _ said (answered (matches glob)) (YieldsList-from_slice ns (search rules)) c.map.ensures.closure (λ x r q k. search (rules, tests))) in
    let e : map said c.in_ok-verdicts.verdicts.items ≡ map (answered (matches glob)) ns = rw c.in_ok-verdicts.was at r in
    record {
      fine = c.if-not-well_formed.ensures.meaning.0 refl;
      all = all-named (matches glob) _ ns e;
      right = all-right (matches glob) glob (matching-is glob) _ ns e;
      count = search rules;
    }
