use Rattle.std.proofs.Common.{sym, refl, ◌∙◌, arith}
use Rattle.std.proofs.lemmas.Bool.{and_left, and_right, and_from}
use Rattle.std.proofs.lemmas.List.{take_rest, length-drop}
use borrow.Author.Tests.{ltb-true}
use Rattle.glob.proofs.Splits.{item-shorter, matches-some, items-none}
use Rattle.glob.proofs.Matching.{matches-none, no-star, stuck-end, stuck-at, taken-one, taken-covers}
use Rattle.glob.specs.Tokens.{item_for}
use Rattle.glob.proofs.Rest.next.Goals as goal
use Rattle.glob.proofs.Rest.next.Goals.{else-is_empty-via-then-is_empty+else-is_empty-2, else-is_empty-via-else-is_empty, in_default-name-via-then-name-lt1, in_default-name-via-in-len1-up+else-takes}

pub returns-then-is_empty-2 : goal.returns-then-is_empty-2
returns-then-is_empty-2 c = matches-none _ _ (items-none _ c.in_default.ensures) ∙ and_from _ _ (sym c.if-is_empty.ensures) (sym c.if-is_empty-2.ensures)

pub returns-else-is_empty : goal.returns-else-is_empty
returns-else-is_empty c = matches-none _ _ (items-none _ c.in_default.ensures) ∙ (elim c.else-is_empty.branch [
  | else-is_empty-via-then-is_empty+else-is_empty-2 w ↦ and_right _ _ (sym w.if-is_empty-2.ensures)
  | else-is_empty-via-else-is_empty w ↦ and_left _ _ (sym w.if-is_empty.ensures)
])

pub returns-in-AnyRun : goal.returns-in-AnyRun
returns-in-AnyRun c =
    let e = rw c.in-AnyRun.is at c.in-Some.ensures in
    (item-shorter _ _ _ e, refl, matches-some _ _ _ e)

pub returns-in-len1-up : goal.returns-in-len1-up
returns-in-len1-up c =
    let e = c.in-Some.ensures in
    let n = c.args.self.name.now in
    let i = item_for c.in-Some.token in
    let m = matches-some c.args.self.pattern.now i c.in-Some.rest.now e in
    let other = no-star c.in-Some.token c.in_default-token.not-AnyRun in
    rw (take_rest n 1) (
      item-shorter _ _ _ e,
      omega (arith, length-drop 1 n, c.in-len1-up.len_at_least),
      taken-one _ _ i other m n c.in-len1-up.len_at_least (sym c.if-takes.ensures),
      taken-covers _ _ i other m n,
    )

pub returns-in_default-name : goal.returns-in_default-name
returns-in_default-name c =
    let n = c.args.self.name.now in
    let i = item_for c.in-Some.token in
    let m = matches-some c.args.self.pattern.now i c.in-Some.rest.now c.in-Some.ensures in
    let other = no-star c.in-Some.token c.in_default-token.not-AnyRun in
    elim c.in_default-name.branch [
      | in_default-name-via-then-name-lt1 w ↦ stuck-end _ _ i other m n (omega (arith, ltb-true))
      | in_default-name-via-in-len1-up+else-takes w ↦ stuck-at _ _ i other m n w.in-len1-up.len_at_least (sym w.if-takes.ensures)
    ]
