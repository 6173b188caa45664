use Rattle.std.proofs.Common.{◌≡◌, ap, ◌∙◌, rules, tests, sym}
use Rattle.std.specs.List.{find}
use Rattle.std.specs.Option.{option_map}
use Rattle.std.proofs.lemmas.Iterator.{YieldsList-from_slice}
use Rattle.std.proofs.lemmas.Iterator.Search.{find_from_yields_List}
use Rattle.expression.specs.Queries.{test_of}
use Rattle.expression.proofs.FirstFits.{first_fit-find, or_zero, first-decides}
use Rattle.expression.proofs.roster.RowsRoster.group.Goals as goal

pub returns : goal.returns
returns g c =
    let s = c.args.self.now in let fits = g.R.Row.suits s.text.now (test_of c.args.query.now) in
    let found : option_map (λ row. row.now) c.find.result ≡ find fits s.rows.now = find_from_yields_List fits _ _ c.find.result c.find.ensures.ran (YieldsList-from_slice s.rows.now cc) (λ x b q k. search (rules, tests)) in
    let e : c.map_or.result ≡ or_zero g.R.Row.number (option_map (λ row. row.now) c.find.result) = search rules in
    let value = e ∙ ap (or_zero g.R.Row.number) found ∙ sym (first_fit-find fits g.R.Row.number s.rows.now) in
    record { value = value; first = first-decides fits g.R.Row.number (g.R.Row.Suits s.text.now (test_of c.args.query.now)) (g.met.R.Row.decided s.text.now (test_of c.args.query.now)) s.rows.now _ value }
