use Rattle.std.proofs.Common.{◌≡◌, ℕ, Bool, true, false, cond, List, [], ◌∷◌, Some, None, Option, Bor, rules, refl, ap, ◌∙◌}
use Rattle.std.proofs.lemmas.Iterator.{YieldsList-from_slice}
use Rattle.std.proofs.lemmas.Iterator.Search.{find_from_yields_List}
use Rattle.std.specs.List.{find}
use Rattle.std.specs.Option.{option_map, MatchOption}
use borrow.Author.Tests.{tests}
use Rattle.glob.specs.Recorded.{fits, recorded}
use Rattle.glob.specs.declared.matcher.Answer.{Answer}
use Rattle.glob.proofs.matcher.RecordedAnswersMatcher.is_match.Goals as goal

abbrev answer_of : Option Answer → Bool
answer_of None = false
answer_of (Some row) = row.answer

answer_of-cond : (b : Bool) (row : Answer) (o : Option Answer) → answer_of (cond b (Some row) o) ≡ cond b row.answer (answer_of o)
answer_of-cond true row o = refl
answer_of-cond false row o = refl

recorded-find : (text p n : List ℕ) (rows : List Answer) → answer_of (find (λ row. fits text row p n) rows) ≡ recorded text rows p n
recorded-find text p n [] = refl
recorded-find text p n (row ∷ rows) = answer_of-cond (fits text row p n) row _ ∙ ap (λ (x : Bool). cond (fits text row p n) row.answer x) (recorded-find text p n rows)

read : (o : Option (Bor Answer)) (r : Bool) → MatchOption o (r ≡ false) (λ x. r ≡ x.now.answer) → r ≡ answer_of (option_map (λ x. x.now) o)
read None r h = h
read (Some x) r h = h

pub returns : goal.returns
returns c =
    let s = c.args.self.now in let p = c.args.pattern.now in let n = c.args.name.now in
    let test = λ (row : Answer). fits s.text.now row p n in
    let e : option_map (λ x. x.now) c.find.result ≡ find test s.rows.now =
    find_from_yields_List test c.find.new.self _ c.find.result c.find.ensures.ran (YieldsList-from_slice s.rows.now (search rules)) (λ x b q k. search (rules, tests)) in
    read c.find.result c.is_some_and.result (search rules) ∙ ap answer_of e ∙ recorded-find s.text.now p n s.rows.now
