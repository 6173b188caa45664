use Rattle.std.proofs.Common.{ℕ, List, [], ◌∷◌, map, length, get_or, take, vec_items, sym, ap, subst, arith, length-append}
use Rattle.std.proofs.lemmas.List.{map_more, take_all}
use Rattle.parsing.specs.Tree.{Word}
use Rattle.errors.specs.Reports.{log}
use Rattle.compile.specs.World.{world}
use Rattle.compile.specs.Words.{word_of}
use Rattle.compile.specs.Lowered.{Lowers, State, state, copies}
use Rattle.compile.proofs.Rows.{no_node}
use Rattle.compile.proofs.LoweredRows.{lowers_then, lowers-one, room-sizes, room-copied}
use Rattle.compile.proofs.ground.Ground.lower_nodes.Goals as goal

pub lower_node-requires : goal.lower_node-requires
lower_node-requires g c =
    let xs = c.args.parsed.now in let i = c.loop-node.node-index in
    let f = word_of c.args.self.now in
    record {
      nodes = omega (arith, c.loop-node.invariant.1, room-sizes f xs i no_node c.loop-node-test.true);
      names = omega (arith, c.loop-node.invariant.2, room-copied f xs i no_node c.loop-node-test.true);
    }

pub loop-node-preserved : goal.loop-node-preserved
loop-node-preserved g c =
    let xs = c.args.parsed.now in let i = c.loop-node.node-index in
    let f = word_of c.args.self.now in
    let w = world g.M.Matcher.matches g.O.DependencyOracle.depends c.args.self.now in
    let x = f (get_or xs i no_node) in
    let e = c.lower_node.ensures in
    let s0 : State = state (vec_items c.args.nodes.now) (vec_items c.args.names.now) (log c.args.reports.now) in
    let s : State = state (vec_items c.loop-node.nodes) (vec_items c.loop-node.names) (log c.loop-node.reports) in
    let t : State = state (vec_items c.lower_node.new.nodes) (vec_items c.lower_node.new.names) (log c.lower_node.new.reports) in (
      subst (λ (z : List (Word (List ℕ))). Lowers w z s0 t) (sym (map_more f xs i no_node c.loop-node-test.true)) (lowers_then w (map f (take i xs)) (x ∷ []) s0 s t c.loop-node.invariant.0 (lowers-one w x s t e.nodes e.names e.log)),
      omega (arith, c.loop-node.invariant.1, room-sizes f xs i no_node c.loop-node-test.true, e.node_len, e.node_cap),
      omega (arith, c.loop-node.invariant.2, room-copied f xs i no_node c.loop-node-test.true, ap length e.names, length-append (vec_items c.loop-node.names) (copies x), e.name_cap),
      omega (arith, c.loop-node.invariant.3, e.node_cap),
      omega (arith, c.loop-node.invariant.4, e.name_cap),
    )

pub returns : goal.returns
returns g c =
    let xs = c.args.parsed.now in let i = c.loop-node.node-index in
    let f = word_of c.args.self.now in
    let w = world g.M.Matcher.matches g.O.DependencyOracle.depends c.args.self.now in
    let s0 : State = state (vec_items c.args.nodes.now) (vec_items c.args.names.now) (log c.args.reports.now) in
    let s : State = state (vec_items c.loop-node.nodes) (vec_items c.loop-node.names) (log c.loop-node.reports) in
    record {
      lowers = subst (λ (z : List (Word (List ℕ))). Lowers w z s0 s) (ap (map f) (take_all i xs c.loop-node-test.false)) c.loop-node.invariant.0;
      capacity = (c.loop-node.invariant.3, c.loop-node.invariant.4);
    }
