-- Readers of trees, at cursors.
use Rattle.std.proofs.Common.{◌≡◌, ℕ, List, ◌++◌, Ok, Err, Result, sym, refl, subst}
use Rattle.errors.specs.declared.faults.ReadingFault.{ReadingFault}
use Rattle.parsing.specs.declared.cursor.Cursor.{Cursor}
use Rattle.parsing.specs.Tree.{Tree}
use Rattle.parsing.specs.Nodes.{nodes_of}
use Rattle.parsing.specs.Reading.{At, Out, Called}
use Rattle.parsing.specs.View.{view, Ran, Reads, ReadsTree, Pushed, held, nothing}
use Rattle.parsing.proofs.Runs.{Got, got-ok, got-err, ran-by}

-- a reader of the text t
pub over : {X Y : Type 0} {g : X → Y} {r : Result Y ReadingFault} {t : List ℕ} (c d : Cursor) (rd : List ℕ → At → Out X) → c.text.now ≡ t → Reads g rd c d r → Ran g (view c) (rd t (view c).at) (view d) r
over {X} {Y} {g} {r} c d rd e h = subst (λ (t : List ℕ). Ran g (view c) (rd t (view c).at) (view d) r) e h

pub tree-ok : {c d : Cursor} {x : Tree Called} (rd : List ℕ → At → Out (Tree Called)) → Got (view c) (rd c.text.now (view c).at) (view d) (Ok x) → held d ≡ held c ++ nodes_of x → ReadsTree rd c d (Ok tt)
tree-ok {c} {d} {x} rd h n = record { ran = ran-by nothing h refl; nodes = subst (λ (v : Result (Tree Called) ReadingFault). Pushed v (held c) (held d)) (sym h.value) n }

pub tree-err : {c d : Cursor} {x : ReadingFault} (rd : List ℕ → At → Out (Tree Called)) → Got (view c) (rd c.text.now (view c).at) (view d) (Err x) → ReadsTree rd c d (Err x)
tree-err {c} {d} {x} rd h = record { ran = ran-by nothing h refl; nodes = subst (λ (v : Result (Tree Called) ReadingFault). Pushed v (held c) (held d)) (sym h.value) tt }

-- what a reader of trees read, over the text t
pub record Grown (c d : Cursor) (o : Out (Tree Called)) : Type 0 where
  pub tree : Tree Called
  pub got : Got (view c) o (view d) (Ok tree)
  pub nodes : held d ≡ held c ++ nodes_of tree

pub grown : {c d : Cursor} {t : List ℕ} (rd : List ℕ → At → Out (Tree Called)) → c.text.now ≡ t → ReadsTree rd c d (Ok tt) → Grown c d (rd t (view c).at)
grown {c} {d} rd e h =
    let w = got-ok nothing h.ran in
    subst (λ (t : List ℕ). Grown c d (rd t (view c).at)) e
    (record { tree = w.0; got = w.1; nodes = subst (λ (v : Result (Tree Called) ReadingFault). Pushed v (held c) (held d)) w.1.value h.nodes })

pub halted : {x : ReadingFault} {t : List ℕ} (c d : Cursor) (rd : List ℕ → At → Out (Tree Called)) → c.text.now ≡ t → ReadsTree rd c d (Err x) → Got (view c) (rd t (view c).at) (view d) (Err x)
halted {x} c d rd e h = subst (λ (t : List ℕ). Got (view c) (rd t (view c).at) (view d) (Err x)) e (got-err nothing h.ran)
