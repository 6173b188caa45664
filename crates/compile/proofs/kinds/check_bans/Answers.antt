use Rattle.std.proofs.Common.{◌≡◌, ◌^◌, ◌<◌, length, Option, sym, ap, ◌∙◌, arith, rules}
use Rattle.std.specs.List.{flat_map}
use Rattle.errors.specs.Reports.{Log}
use Rattle.errors.specs.declared.faults.LoweringFault.{LoweringFault}
use Rattle.errors.specs.declared.faults.LoweringFault.TheVariants.{Banned}
use Rattle.compile.specs.Bans.{ban_node}
use Rattle.compile.specs.Compiled.{answer}
use Rattle.compile.specs.Words.{word_as}
use Rattle.compile.proofs.BanLists.{few-bans}
use Rattle.compile.proofs.Logs.{logged-is, few-joined, fault-some, fault-none}
use Rattle.compile.proofs.kinds.check_bans.Goals as goal

pub returns-in-Some : goal.returns-in-Some
returns-in-Some c =
    let rs = flat_map (ban_node c.args.kind) c.args.nodes.now in
    let few : length rs < 2 ^ 32 = omega (arith, c.requires, few-joined (ban_node c.args.kind) c.args.nodes.now (λ x. few-bans c.args.kind (word_as x))) in
    let is = c.report_bans.ensures ∙ logged-is _ rs (omega arith) in
    let table = ap (λ (z : Log). z.table) is in
    let lent = ap (λ (z : Log). z.lent) is in
    let count : c.report_bans.new.reports.count ≡ length rs = omega (arith, ap (λ (z : Log). z.count) is) in
    record {
      table = search (rules, table, lent);
      answer = ap (λ (z : Option LoweringFault). answer z) (fault-some Banned rs c.in-Some.place _ (sym c.in-Some.is ∙ ap (λ (z : Log). z.first) is) count);
    }

pub returns-in-None : goal.returns-in-None
returns-in-None c =
    let rs = flat_map (ban_node c.args.kind) c.args.nodes.now in
    let few : length rs < 2 ^ 32 = omega (arith, c.requires, few-joined (ban_node c.args.kind) c.args.nodes.now (λ x. few-bans c.args.kind (word_as x))) in
    let is = c.report_bans.ensures ∙ logged-is _ rs (omega arith) in
    let table = ap (λ (z : Log). z.table) is in
    let lent = ap (λ (z : Log). z.lent) is in
    record {
      table = search (rules, table, lent);
      answer = ap (λ (z : Option LoweringFault). answer z) (fault-none Banned rs (sym c.in-None.is ∙ ap (λ (z : Log). z.first) is));
    }
