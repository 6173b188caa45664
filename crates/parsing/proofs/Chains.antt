-- Operands joined from the left: what ends from m ends from s.
use Rattle.std.proofs.Common.{◌≡◌, ℕ, zero, suc, ◌+◌, ◌<◌, ◌≤◌, List, [], ◌∷◌, ◌++◌, map, length, Some, None, Ok, Err, Option, Result, sym, refl, ap, ◌∙◌, subst, append_assoc, append-nil, arith}
use Rattle.errors.specs.declared.faults.ReadingFault.{ReadingFault}
use Rattle.parsing.specs.declared.cursor.Cursor.{Cursor}
use Rattle.parsing.specs.declared.nodes.Operator.{Operator}
use Rattle.parsing.specs.declared.nodes.ParsedNode.{ParsedNode}
use Rattle.parsing.specs.declared.nodes.ParsedNode.TheVariants as node
use Rattle.parsing.specs.Tree.{Tree, Word, postfix}
use Rattle.parsing.specs.Nodes.{node_of, nodes_of}
use Rattle.parsing.specs.Reading.{At, Out, Called, done, joined_at, chain_at}
use Rattle.parsing.specs.View.{St, view, held}
use Rattle.parsing.proofs.Runs.{Got, got-then, got-stop, got-done}
use Rattle.parsing.proofs.Trees.{Grown}

map-append : (a b : List (Word Called)) → map node_of (a ++ b) ≡ map node_of a ++ map node_of b
map-append [] b = refl
map-append (x ∷ a) b = ap (λ (l : List ParsedNode). node_of x ∷ l) (map-append a b)

pub nodes-negated : (x : Tree Called) → nodes_of (Tree.negated x) ≡ nodes_of x ++ (node.Not ∷ [])
nodes-negated x = map-append (postfix x) (Word.negation ∷ [])

pub nodes-group : (x : Tree Called) → nodes_of (Tree.group x) ≡ nodes_of x ++ (node.Parens ∷ [])
nodes-group x = map-append (postfix x) (Word.brackets ∷ [])

pub nodes-joined : (o : Operator) (x y : Tree Called) → nodes_of (Tree.joined o x y) ≡ nodes_of x ++ (nodes_of y ++ (node.Joined o ∷ []))
nodes-joined o x y = map-append (postfix x) (postfix y ++ (Word.operator o ∷ [])) ∙ ap (λ (l : List ParsedNode). nodes_of x ++ l) (map-append (postfix y) (Word.operator o ∷ []))

module _ (t : List ℕ) (sign : At → Out (Option Operator)) (one : At → Out (Tree Called)) where
  -- the operands after x so far
  pub record Joining (fuel : ℕ) (more : List ParsedNode) (s m : Cursor) (x : Tree Called) : Type 0 where
    pub tree : Tree Called
    pub nodes : nodes_of tree ≡ nodes_of x ++ more
    pub rest : (e : St) (v : Result (Tree Called) ReadingFault) → Got (view m) (joined_at sign one fuel tree (view m).at) e v → Got (view s) (joined_at sign one (length t) x (view s).at) e v

  pub record ToGo (s m : Cursor) : Type 0 where
    pub fuel : ℕ
    pub enough : length t ≤ m.pos + fuel
    pub more : List ParsedNode
    pub pushed : held m ≡ held s ++ more
    pub all : (x : Tree Called) → Joining fuel more s m x

  pub togo-start : (s : Cursor) → ToGo s s
  togo-start s = record { fuel = length t; enough = omega arith; more = []; pushed = sym (append-nil (held s)); all = λ x. record { tree = x; nodes = sym (append-nil (nodes_of x)); rest = λ e v h. h } }

  -- no sign: the end
  ends : (m a : Cursor) → Got (view m) (sign (view m).at) (view a) (Ok None) → view a ≡ view m → (f : ℕ) (y : Tree Called) → Got (view m) (joined_at sign one f y (view m).at) (view a) (Ok y)
  unfolding joined_at
  ends m a g still zero y = subst (λ (e : St). Got (view m) (done y (view m).at) e (Ok y)) (sym still) (got-done (view m) y)
  ends m a g still (suc f) y = got-then sign _ g (got-done (view a) y)

  pub record Ended (s a : Cursor) (x : Tree Called) : Type 0 where
    pub tree : Tree Called
    pub got : Got (view s) (joined_at sign one (length t) x (view s).at) (view a) (Ok tree)
    pub more : List ParsedNode
    pub pushed : held a ≡ held s ++ more
    pub nodes : nodes_of tree ≡ nodes_of x ++ more

  pub togo-end : {s m : Cursor} (a : Cursor) → ToGo s m → Got (view m) (sign (view m).at) (view a) (Ok None) → view a ≡ view m → held a ≡ held m → (x : Tree Called) → Ended s a x
  togo-end {s} {m} a w g still same x =
      let j = w.all x in
      record { tree = j.tree; got = j.rest (view a) (Ok j.tree) (ends m a g still w.fuel j.tree); more = w.more; pushed = same ∙ w.pushed; nodes = j.nodes }

  -- the sign stops
  sign-stops : {x : ReadingFault} (m a : Cursor) → Got (view m) (sign (view m).at) (view a) (Err x) → (f : ℕ) → length t ≤ m.pos + f → m.pos < length t → (y : Tree Called) → Got (view m) (joined_at sign one f y (view m).at) (view a) (Err x)
  unfolding joined_at
  sign-stops m a g zero h l y = absurd (omega arith)
  sign-stops m a g (suc f) h l y = got-stop sign _ g

  pub togo-stop : {s m : Cursor} {x : ReadingFault} (a : Cursor) → ToGo s m → Got (view m) (sign (view m).at) (view a) (Err x) → m.pos < length t → (y : Tree Called) → Got (view s) (joined_at sign one (length t) y (view s).at) (view a) (Err x)
  togo-stop {s} {m} {x} a w g l y = let j = w.all y in j.rest (view a) (Err x) (sign-stops m a g w.fuel w.enough l j.tree)

  -- the operand stops
  operand-stops : {o : Operator} {x : ReadingFault} (m a b : Cursor) → Got (view m) (sign (view m).at) (view a) (Ok (Some o)) → Got (view a) (one (view a).at) (view b) (Err x) → (f : ℕ) → length t ≤ m.pos + f → m.pos < length t → (y : Tree Called) →
      Got (view m) (joined_at sign one f y (view m).at) (view b) (Err x)
  unfolding joined_at
  operand-stops m a b g k zero h l y = absurd (omega arith)
  operand-stops m a b g k (suc f) h l y = got-then sign _ g (got-stop one _ k)

  pub togo-break : {s m : Cursor} {o : Operator} {x : ReadingFault} (a b : Cursor) → ToGo s m → Got (view m) (sign (view m).at) (view a) (Ok (Some o)) → Got (view a) (one (view a).at) (view b) (Err x) → m.pos < length t → (y : Tree Called) →
      Got (view s) (joined_at sign one (length t) y (view s).at) (view b) (Err x)
  togo-break {s} {m} {o} {x} a b w g k l y = let j = w.all y in j.rest (view b) (Err x) (operand-stops m a b g k w.fuel w.enough l j.tree)

  -- one operand more
  goes_on : {o : Operator} {z : Tree Called} (m a b : Cursor) → Got (view m) (sign (view m).at) (view a) (Ok (Some o)) → Got (view a) (one (view a).at) (view b) (Ok z) → (f : ℕ) (y : Tree Called) (e : St) (v : Result (Tree Called) ReadingFault) →
      Got (view b) (joined_at sign one f (Tree.joined o y z) (view b).at) e v → Got (view m) (joined_at sign one (suc f) y (view m).at) e v
  unfolding joined_at
  goes_on m a b g k f y e v h = got-then sign _ g (got-then one _ k h)

  pub togo-more : {s m a b d : Cursor} {o : Operator} → ToGo s m → Got (view m) (sign (view m).at) (view a) (Ok (Some o)) → Grown a b (one (view a).at) → view d ≡ view b → held d ≡ held b ++ (node.Joined o ∷ []) → held a ≡ held m → m.pos < length t → m.pos < d.pos → ToGo s d
  togo-more {s} {m} {a} {b} {d} {o} w g k same push kept l on = go w.fuel w.enough w.all
    where
      tail : List ParsedNode
      tail = nodes_of k.tree ++ (node.Joined o ∷ [])

      here : held d ≡ held s ++ (w.more ++ tail)
      here =
          push ∙ ap (λ (l : List ParsedNode). l ++ (node.Joined o ∷ [])) (k.nodes ∙ ap (λ (l : List ParsedNode). l ++ nodes_of k.tree) (kept ∙ w.pushed))
          ∙ append_assoc (held s ++ w.more) (nodes_of k.tree) (node.Joined o ∷ []) ∙ append_assoc (held s) w.more tail

      go : (f : ℕ) → length t ≤ m.pos + f → ((x : Tree Called) → Joining f w.more s m x) → ToGo s d
      go zero h all = absurd (omega arith)
      go (suc f) h all = record {
        fuel = f;
        enough = omega arith;
        more = w.more ++ tail;
        pushed = here;
        all = λ x.
            let j = all x in
            record {
              tree = Tree.joined o j.tree k.tree;
              nodes = nodes-joined o j.tree k.tree ∙ ap (λ (l : List ParsedNode). l ++ tail) j.nodes ∙ append_assoc (nodes_of x) w.more tail;
              rest = λ e v n. j.rest e v (goes_on m a b g k.got f j.tree e v (subst (λ (z : St). Got z (joined_at sign one f (Tree.joined o j.tree k.tree) z.at) e v) same n));
            };
      }

-- a chain begins with one operand
module _ (t : List ℕ) (sign : At → Out (Option Operator)) (one : At → Out (Tree Called)) where
  pub chain-stop : {s e : St} {x : ReadingFault} → Got s (one s.at) e (Err x) → Got s (chain_at t sign one s.at) e (Err x)
  unfolding chain_at
  chain-stop h = got-stop one _ h

  pub chain-then : {s m e : St} {x : Tree Called} {v : Result (Tree Called) ReadingFault} → Got s (one s.at) m (Ok x) → Got m (joined_at sign one (length t) x m.at) e v → Got s (chain_at t sign one s.at) e v
  unfolding chain_at
  chain-then h g = got-then one (joined_at sign one (length t)) h g
