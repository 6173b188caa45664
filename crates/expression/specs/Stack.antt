-- What nodes do to a stack of values, its top first, that has room for a number of them.
use Rattle.std.specs.Prelude.{ℕ, cond, List, [], ◌∷◌, reverse, length, take, Some, None, Option, nat_lt}
use Rattle.expression.specs.Logic.{Ops}
use Rattle.expression.specs.declared.evaluate.Stack.{Stack}
use Rattle.expression.specs.declared.nodes.Node.{Node}
use Rattle.expression.specs.declared.nodes.Node.TheVariants.{Leaf, Not, And, Or}

-- a value on top, if there is a place left
abbrev pub pushed : {L : Type 0} → ℕ → L → List L → Option (List L)
pushed room x s = cond (nat_lt (length s) room) (Some (x ∷ s)) None

-- the top value replaced, if there is one
abbrev pub on_top : {L : Type 0} → (L → L) → List L → Option (List L)
on_top f [] = None
on_top f (x ∷ s) = Some (f x ∷ s)

-- the top two values replaced by one, if there are two; the upper one is the right operand
abbrev pub on_two : {L : Type 0} → (L → L → L) → List L → Option (List L)
on_two f [] = None
on_two f (y ∷ []) = None
on_two f (y ∷ (x ∷ s)) = Some (f x y ∷ s)

-- one node
abbrev pub acts : {T L : Type 0} → Ops L → (T → L) → ℕ → Node T → List L → Option (List L)
acts o f room (Leaf x) s = pushed room (f x) s
acts o f room Not s = on_top o.negated s
acts o f room And s = on_two o.both s
acts o f room Or s = on_two o.either s

-- go on with the stack, if there is one
abbrev pub go_on : {L : Type 0} → (List L → Option L) → Option (List L) → Option L
go_on k None = None
go_on k (Some s) = k s

-- the one value of a stack that has just one
abbrev pub alone : {L : Type 0} → List L → Option L
alone [] = None
alone (x ∷ []) = Some x
alone (x ∷ (y ∷ s)) = None

-- node after node, until one value is left
abbrev pub runs : {T L : Type 0} → Ops L → (T → L) → ℕ → List (Node T) → List L → Option L
runs o f room [] s = alone s
runs o f room (x ∷ xs) s = go_on (runs o f room xs) (acts o f room x s)

-- the n lowest places of a slice as a stack
abbrev pub tops : {L : Type 0} → List L → ℕ → List L
tops s n = reverse (take n s)

-- how many places a stack has, and its values, the top one first
abbrev pub room : {L : Type 0} → Stack L → ℕ
room s = length s.places.now

abbrev pub held : {L : Type 0} → Stack L → List L
held s = tops s.places.now s.used
