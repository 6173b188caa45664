use Rattle.std.proofs.Common.{◌∷◌, [], get_or, ap, ◌∙◌}
use Rattle.std.proofs.lemmas.List.{take_more}
use Rattle.unicode_string.specs.View.{filling, filled, Filling}
use Rattle.unicode_string.proofs.Runs.{filled-more}
use Rattle.unicode_string.proofs.decoded.Decoded.put_all.Goals as goal

pub loop-b-preserved : goal.loop-b-preserved
loop-b-preserved c =
    let b = get_or c.args.bytes.now c.loop-b.b-index 0 ∷ [] in
    ap (λ (f : Filling). filled f b) c.loop-b.invariant ∙ filled-more (filling c.args.self.now) _ b _ (take_more c.args.bytes.now c.loop-b.b-index 0 c.loop-b-test.true)
