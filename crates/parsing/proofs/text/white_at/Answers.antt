use Rattle.std.proofs.Common.{◌≡◌, ℕ, ◌+◌, get_or, ap, ◌∙◌}
use Rattle.parsing.specs.Text.{white_of, white_at}
use Rattle.parsing.proofs.Scans.{white-fits}
use Rattle.parsing.proofs.text.white_at.Goals as goal

pub returns : goal.returns
returns c =
    let a = c.byte_at.result in
    let b = c.byte_at-2.result in
    let t = c.args.text.now in
    let v : c.white_of.result ≡ white_at t c.args.at =
    c.white_of.ensures ∙ ap (λ (x : ℕ). white_of x b c.byte_at-3.result) c.byte_at.ensures ∙ ap (λ (x : ℕ). white_of (get_or t c.args.at 0) x c.byte_at-3.result) c.byte_at-2.ensures
    ∙ ap (white_of (get_or t c.args.at 0) (get_or t (c.args.at + 1) 0)) c.byte_at-3.ensures in
    record { value = v; fits = rw v (white-fits t c.args.at c.requires) }
