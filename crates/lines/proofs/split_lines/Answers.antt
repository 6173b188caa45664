use Rattle.std.proofs.Common.{◌≡◌, ℕ, List, Bor, Some, None, Option, false, true, eqb, take, drop, length, [], ◌∷◌, rules, sym, ap, refl, ◌∙◌, ◌-◌, ◌<◌, ◌+◌}
use Rattle.std.proofs.lemmas.Iterator.Consumers.{map_from_collect}
use Rattle.std.proofs.lemmas.Iterator.Splits.{YieldsList-from_slice_split}
use Rattle.std.specs.Option.{MatchOption, unwrap_or}
use Rattle.std.specs.Cmp.Lexicographic.{pointwise}
use Rattle.std.specs.List.{slice_split}
use borrow.Author.Tests.{tests}
use Rattle.lines.specs.Lines.{lines_of}
use Rattle.lines.proofs.Cuts.{is_feed, some-length, lines-none, lines-cut}
use Rattle.lines.proofs.split_lines.Goals as goal

pub returns-then-is_empty : goal.returns-then-is_empty
returns-then-is_empty c = rw (c.new.ensures.items, lines-none c.args.input.now c.if-is_empty.ensures) refl

-- with what is left after a line feed at the end
stripped : (s : Bor (List ℕ)) (o : Option (Bor (List ℕ))) → 0 < length s.now →
    MatchOption o (pointwise eqb (drop (length s.now - 1) s.now) (10 ∷ []) ≡ false) (λ x. (pointwise eqb (drop (length s.now - 1) s.now) (10 ∷ []) ≡ true) × (x.now ≡ take (length s.now - 1) s.now) × (length x.now + 1 ≡ length s.now)) →
    slice_split is_feed (unwrap_or o s).now ≡ lines_of s.now
stripped s None h e = sym (lines-cut s.now false h e)
stripped s (Some x) h e = ap (slice_split is_feed) e.1 ∙ sym (lines-cut s.now true h e.0)

pub returns : goal.returns
returns c =
    let s = c.args.input in
    let e = stripped s c.strip_suffix.result (some-length s.now c.if-is_empty.ensures) c.strip_suffix.ensures.cases in
    let q : slice_split is_feed c.unwrap_or-text.result.now ≡ lines_of s.now = ap (λ (x : Bor (List ℕ)). slice_split is_feed x.now) c.unwrap_or-text.ensures ∙ e in
    let r = map_from_collect c.collect.result c.collect.ensures.ran
    (YieldsList-from_slice_split _ is_feed c.unwrap_or-text.result.now c.split.ensures.rest c.split.ensures.done c.split.ensures.closure (λ x b q k. search (rules, tests))) in
    rw q at r
