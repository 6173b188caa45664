use Rattle.std.proofs.Common.{rules}
use Rattle.parsing.proofs.LawCall.{law-of}
use Rattle.parsing.proofs.parse.Goals as goal

pub returns-then-text-gt-LONGEST : goal.returns-then-text-gt-LONGEST
returns-then-text-gt-LONGEST c = record {
  answer = search rules;
  reports = search rules;
  space = search rules;
  nodes = search rules;
  law = law-of c.args.text.now c.args.space.now _ _ _ (search rules) (search rules) (search rules);
}

pub returns-then-is_err : goal.returns-then-is_err
returns-then-is_err c = record {
  answer = search rules;
  reports = search rules;
  space = search rules;
  nodes = search rules;
  law = law-of c.args.text.now c.args.space.now _ _ _ (search rules) (search rules) (search rules);
}

pub returns-else-is_err : goal.returns-else-is_err
returns-else-is_err c = record {
  answer = search rules;
  reports = search rules;
  space = search rules;
  nodes = search rules;
  law = law-of c.args.text.now c.args.space.now _ _ _ (search rules) (search rules) (search rules);
}
