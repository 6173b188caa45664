use Rattle.std.proofs.Common.{ℕ, Option, ap, ◌∙◌}
use Rattle.parsing.specs.declared.words.Sign.{Sign}
use Rattle.parsing.specs.Words.{or_sign_at}
use Rattle.parsing.specs.Reading.{sign_for, or_sign}
use Rattle.parsing.specs.View.{view}
use Rattle.parsing.proofs.Runs.{got_same, got-by, ran-same}
use Rattle.parsing.proofs.Tables.{or_sign-rest}
use Rattle.parsing.proofs.cursor.Cursor.parse_or_operator.Goals as goal

pub returns : goal.returns
unfolding or_sign
returns c =
    let s = view c.args.self.now in
    let q = c.blanks_end-start.result in
    let e = ap (λ (x : Option Sign). sign_for q x s.at) (c.or_sign_at.ensures.value ∙ or_sign-rest s.text q) ∙ ap (λ (p : ℕ). sign_for p (or_sign_at s.text p) s.at) c.blanks_end-start.ensures.value in
    record { ran = ran-same (got-by e (got_same c.take_sign.ensures.ran)); kept = c.take_sign.ensures.kept; moved = c.take_sign.ensures.moved; stays = c.take_sign.ensures.stays }
