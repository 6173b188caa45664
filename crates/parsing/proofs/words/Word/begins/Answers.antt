use Rattle.std.proofs.Common.{sym, ap, ◌∙◌}
use Rattle.parsing.specs.Words.{begun_by}
use Rattle.parsing.proofs.Tables.{begun-fits}
use Rattle.parsing.proofs.words.Word.begins.Goals as goal

pub returns-in-Letters : goal.returns-in-Letters
returns-in-Letters c =
    let v = c.begins.ensures.value ∙ ap (begun_by c.args.rest.now) (sym c.in-Letters.is) in
    record { value = v; fits = λ e. begun-fits c.args.rest.now c.args.self (sym v ∙ e) }

pub returns-in-Keyword : goal.returns-in-Keyword
returns-in-Keyword c =
    let v = c.keyword.ensures.value ∙ ap (begun_by c.args.rest.now) (sym c.in-Keyword.is) in
    record { value = v; fits = λ e. begun-fits c.args.rest.now c.args.self (sym v ∙ e) }
