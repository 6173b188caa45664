use Rattle.std.proofs.Common.{◌≡◌, ◌^◌, ◌<◌, map, length, Option, sym, ap, ◌∙◌, arith, rules}
use Rattle.std.proofs.lemmas.List.{length-map}
use Rattle.errors.specs.Reports.{Log}
use Rattle.errors.specs.declared.faults.LoweringFault.{LoweringFault}
use Rattle.errors.specs.declared.faults.LoweringFault.TheVariants.{NothingFound}
use Rattle.compile.specs.Compiled.{answer}
use Rattle.compile.specs.Words.{word_of}
use Rattle.compile.specs.World.{world}
use Rattle.compile.specs.Lowered.{noted}
use Rattle.compile.proofs.LoweredRows.{few-noted}
use Rattle.compile.proofs.Logs.{logged-is, fault-some, fault-none}
use Rattle.compile.proofs.ground.Ground.lower.Goals as goal

pub returns-in-Some : goal.returns-in-Some
returns-in-Some g c =
    let w = world g.M.Matcher.matches g.O.DependencyOracle.depends c.args.self.now in
    let words = map (word_of c.args.self.now) c.args.parsed.now in
    let rs = noted w words in
    let few : length rs < 2 ^ 32 = omega (arith, c.requires.few, few-noted w words, length-map c.args.parsed.now (word_of c.args.self.now)) in
    let is = c.lower_nodes.ensures.lowers.log ∙ logged-is _ rs (omega arith) in
    let table = ap (λ (z : Log). z.table) is in
    let lent = ap (λ (z : Log). z.lent) is in
    let count : c.lower_nodes.new.reports.count ≡ length rs = omega (arith, ap (λ (z : Log). z.count) is) in
    record {
      table = search (rules, table, lent);
      answer = ap (λ (z : Option LoweringFault). answer z) (fault-some NothingFound rs c.in-Some.place _ (sym c.in-Some.is ∙ ap (λ (z : Log). z.first) is) count);
      nodes = search rules;
      names = search rules;
    }

pub returns-in-None : goal.returns-in-None
returns-in-None g c =
    let w = world g.M.Matcher.matches g.O.DependencyOracle.depends c.args.self.now in
    let words = map (word_of c.args.self.now) c.args.parsed.now in
    let rs = noted w words in
    let few : length rs < 2 ^ 32 = omega (arith, c.requires.few, few-noted w words, length-map c.args.parsed.now (word_of c.args.self.now)) in
    let is = c.lower_nodes.ensures.lowers.log ∙ logged-is _ rs (omega arith) in
    let table = ap (λ (z : Log). z.table) is in
    let lent = ap (λ (z : Log). z.lent) is in
    record {
      table = search (rules, table, lent);
      answer = ap (λ (z : Option LoweringFault). answer z) (fault-none NothingFound rs (sym c.in-None.is ∙ ap (λ (z : Log). z.first) is));
      nodes = search rules;
      names = search rules;
    }
