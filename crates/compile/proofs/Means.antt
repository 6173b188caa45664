-- A filter's value is that of the reading that it stores.
use Rattle.std.proofs.Common.{◌≡◌, ℕ, ◌+◌, ◌≤◌, Bool, cond, ◌&&◌, ltb, List, [], ◌++◌, length, take, drop, Some, None, vec_items, Option, sym, refl, ap, ◌∙◌, append_assoc, append-nil, arith, length-append}
use Rattle.std.proofs.lemmas.List.{drop_at, take_at}
use Rattle.std.proofs.lemmas.Bool.{lt-ltb, le-ltb, le-leb}
use Rattle.expression.specs.declared.name_matcher.MatchKind.{MatchKind}
use Rattle.expression.specs.Kleene.{kleene}
use Rattle.expression.specs.Logic.{Ops, truth}
use Rattle.expression.specs.Names.{is_taken}
use Rattle.expression.specs.NumberSets.{width, size, member}
use Rattle.expression.specs.Queries.{Binary as BinaryAsked, Test as TestAsked}
use Rattle.expression.specs.Tree.{Tree as Nodes, value}
use Rattle.expression.proofs.SetLaws.{member-set_of, some_same}
use Rattle.parsing.specs.declared.nodes.Operator.{Operator}
use Rattle.parsing.specs.declared.nodes.Operator.TheVariants.{Union, Intersection, Difference}
use Rattle.parsing.specs.declared.nodes.Predicate.{Predicate}
use Rattle.parsing.specs.declared.nodes.Predicate.TheVariants.{Package, Deps, Rdeps, Kind, BinaryId, Binary, Test, Group}
use Rattle.parsing.specs.Tree.{Leaf, Tree}
use Rattle.compile.specs.declared.filter.FilterLeaf.{FilterLeaf}
use Rattle.compile.specs.declared.matching.Direction.{Direction}
use Rattle.compile.specs.declared.matching.Direction.TheVariants.{Dependencies, Dependents}
use Rattle.compile.specs.Filters.{Whole, kept, lowered_from, joined_by}
use Rattle.compile.specs.Lowered.{leaf_for, name_for, own, matched_leaf, matched_name, packages_of, near_of}
use Rattle.compile.specs.Meaning.{joined_in, meaning, has_name, is_near, in_group, in_set, judged, known_set, screened, takes, holds_group, judged_leaf, screened_leaf, GroupsWithin, Within, Faithful}
use Rattle.compile.specs.Numbers.{passes, numbers_of, group_names, groups_of, along, leads_from, is_led}
use Rattle.compile.specs.Tables.{name_at, or_empty}
use Rattle.compile.specs.World.{World, fits}

-- each leaf has the value of its set, wherever its name is kept
abbrev Kept : {L : Type 0} → World → (List ℕ → FilterLeaf → L) → (Leaf (List ℕ) → L) → Type 0
Kept w f h = (l : Leaf (List ℕ)) (before after : List ℕ) → f (before ++ (name_for l ++ after)) (leaf_for w (length before) l) ≡ h l

two : {L : Type 0} (op : L → L → L) {a b c d : L} → a ≡ b → c ≡ d → op a c ≡ op b d
two {L} op {a} {b} {c} {d} p q = ap (λ (x : L). op x c) p ∙ ap (op b) q

value-joined : {L : Type 0} (o : Ops L) (f : FilterLeaf → L) (s : Operator) (a b : Nodes FilterLeaf) (x y : L) → value o f a ≡ x → value o f b ≡ y → value o f (joined_by s a b) ≡ joined_in o s x y
value-joined o f Union a b x y p q = two o.either p q
value-joined o f Intersection a b x y p q = two o.both p q
value-joined o f Difference a b x y p q = two o.both p (ap o.negated q)

left : {L : Type 0} (o : Ops L) (f : List ℕ → FilterLeaf → L) (t : Nodes FilterLeaf) (before ka kb after : List ℕ) → value o (f (before ++ ((ka ++ kb) ++ after))) t ≡ value o (f (before ++ (ka ++ (kb ++ after)))) t
left o f t before ka kb after = ap (λ (z : List ℕ). value o (f (before ++ z)) t) (append_assoc ka kb after)

right : {L : Type 0} (o : Ops L) (w : World) (f : List ℕ → FilterLeaf → L) (b : Tree (List ℕ)) (before ka kb after : List ℕ) → value o (f (before ++ ((ka ++ kb) ++ after))) (lowered_from w (length before + length ka) b) ≡ value o (f ((before ++ ka) ++ (kb ++ after))) (lowered_from w (length (before ++ ka)) b)
right o w f b before ka kb after =
    ap (λ (z : List ℕ). value o (f z) (lowered_from w (length before + length ka) b)) (ap (λ (z : List ℕ). before ++ z) (append_assoc ka kb after) ∙ sym (append_assoc before ka (kb ++ after)))
    ∙ ap (λ (n : ℕ). value o (f ((before ++ ka) ++ (kb ++ after))) (lowered_from w n b)) (sym (length-append before ka))

value-lowered : {L : Type 0} (o : Ops L) (w : World) (f : List ℕ → FilterLeaf → L) (g : Leaf (List ℕ) → L) → Kept w f g → (t : Tree (List ℕ)) → Whole t → (before after : List ℕ) → value o (f (before ++ (kept t ++ after))) (lowered_from w (length before) t) ≡ meaning o g t
value-lowered o w f g h Tree.bad z before after = absurd z
value-lowered o w f g h (Tree.set l) z before after = h l before after
value-lowered o w f g h (Tree.negated x) z before after = ap o.negated (value-lowered o w f g h x z before after)
value-lowered o w f g h (Tree.group x) z before after = value-lowered o w f g h x z before after
value-lowered o w f g h (Tree.joined s x y) z before after =
    value-joined o (f (before ++ ((kept x ++ kept y) ++ after))) s (lowered_from w (length before) x) (lowered_from w (length before + length (kept x)) y) (meaning o g x) (meaning o g y)
    (left o f (lowered_from w (length before) x) before (kept x) (kept y) after ∙ value-lowered o w f g h x z.0 before (kept y ++ after))
    (right o w f y before (kept x) (kept y) after ∙ value-lowered o w f g h y z.1 (before ++ kept x) after)

whole-value : {L : Type 0} (o : Ops L) (w : World) (f : List ℕ → FilterLeaf → L) (g : Leaf (List ℕ) → L) → Kept w f g → (t : Tree (List ℕ)) → Whole t → (bs : List ℕ) → bs ≡ kept t → value o (f bs) (lowered_from w 0 t) ≡ meaning o g t
whole-value o w f g h t z bs e = ap (λ (x : List ℕ). value o (f x) (lowered_from w 0 t)) (e ∙ sym (append-nil (kept t))) ∙ value-lowered o w f g h t z [] []

-- a name is where it was kept
own_name : (k : MatchKind) (before v after : List ℕ) → name_at (before ++ (v ++ after)) (own (length before) k v).place ≡ v
own_name k before v after =
    let all = before ++ (v ++ after) in
    let room : length before + length v ≤ length all = omega (arith, length-append before (v ++ after), length-append v after) in
    let part : take (length v) (drop (length before) all) ≡ v = ap (take (length v)) (drop_at before (v ++ after) (length before) refl) ∙ take_at v after (length v) refl in
    ap (λ (b : Bool). or_empty (cond b (Some (take (length v) (drop (length before) all))) None)) (le-leb (length before + length v) (length all) room) ∙ part

in-names : (f : List ℕ → Bool) (names : List (List ℕ)) (k : ℕ) → length names ≤ size → member (numbers_of f names) k ≡ has_name f names k
in-names f names k h = member-set_of width (passes f names) (length names) k h

in_near : (w : World) (way : Direction) (m : MatchKind) (v : List ℕ) (k : ℕ) → length w.tables.packages ≤ size → member (near_of w way m v) k ≡ is_near w way (fits w m v) k
in_near w way m v k h =
    let n = length w.tables.packages in let f = fits w m v in
    member-set_of width (is_led way w.depends (packages_of w m v) n) n k h
    ∙ ap (λ (x : Bool). ltb k n && x) (some_same (leads_from way w.depends (packages_of w m v) k) (λ a. passes f w.tables.packages a && along way w.depends a k) n (λ a l. ap (λ (x : Bool). x && along way w.depends a k) (in-names f w.tables.packages a h ∙ ap (λ (x : Bool). x && passes f w.tables.packages a) (lt-ltb a n l))))

in_group_lem : (f : List ℕ → Bool) (names : Option (List (List ℕ))) (g : Option ℕ) → GroupsWithin names → holds_group (record { words = groups_of f names }) g ≡ in_group f names g
in_group_lem f None None h = refl
in_group_lem f None (Some g) h = in-names f [] g (omega arith) ∙ ap (λ (b : Bool). b && f []) (le-ltb g 0 (omega arith))
in_group_lem f (Some names) None h = refl
in_group_lem f (Some names) (Some g) h = in-names f (group_names names) g h

taken : (w : World) (k : MatchKind) (name before v after : List ℕ) → takes w.matches (before ++ (v ++ after)) (own (length before) k v) name ≡ fits w k v name
taken w k name before v after = ap (λ (z : List ℕ). is_taken w.matches k z name) (own_name k before v after)

judges-set : (w : World) (q : TestAsked) (g : Option ℕ) (d : Bool) → Within w.tables → (p : Predicate) (k : MatchKind) (v before after : List ℕ) → judged_leaf w.matches q g d (before ++ (matched_name p v ++ after)) (matched_leaf w (length before) p k v) ≡ in_set w q g p k v
judges-set w q g d h Package k v before after = in-names (fits w k v) w.tables.packages q.binary.in_package h.packages
judges-set w q g d h Deps k v before after = in_near w Dependencies k v q.binary.in_package h.packages
judges-set w q g d h Rdeps k v before after = in_near w Dependents k v q.binary.in_package h.packages
judges-set w q g d h Kind k v before after = taken w k q.binary.kind before v after
judges-set w q g d h BinaryId k v before after = taken w k q.binary.id before v after
judges-set w q g d h Binary k v before after = taken w k q.binary.name before v after
judges-set w q g d h Test k v before after = taken w k q.name before v after
judges-set w q g d h Group k v before after = in_group_lem (fits w k v) w.tables.groups g h.groups

judges-leaf : (w : World) (q : TestAsked) (g : Option ℕ) (d : Bool) → Within w.tables → Kept w (judged_leaf w.matches q g d) (judged w q g d)
judges-leaf w q g d h (Leaf.matched p k v at) before after = judges-set w q g d h p k v before after
judges-leaf w q g d h (Leaf.platform b at) before after = refl
judges-leaf w q g d h (Leaf.default at) before after = refl
judges-leaf w q g d h Leaf.all before after = refl
judges-leaf w q g d h Leaf.none before after = refl

screens-set : (w : World) (b : BinaryAsked) (d : Option Bool) → Within w.tables → (p : Predicate) (k : MatchKind) (v before after : List ℕ) → screened_leaf w.matches b d (before ++ (matched_name p v ++ after)) (matched_leaf w (length before) p k v) ≡ known_set w b p k v
screens-set w b d h Package k v before after = ap Some (in-names (fits w k v) w.tables.packages b.in_package h.packages)
screens-set w b d h Deps k v before after = ap Some (in_near w Dependencies k v b.in_package h.packages)
screens-set w b d h Rdeps k v before after = ap Some (in_near w Dependents k v b.in_package h.packages)
screens-set w b d h Kind k v before after = ap Some (taken w k b.kind before v after)
screens-set w b d h BinaryId k v before after = ap Some (taken w k b.id before v after)
screens-set w b d h Binary k v before after = ap Some (taken w k b.name before v after)
screens-set w b d h Test k v before after = refl
screens-set w b d h Group k v before after = refl

screens-leaf : (w : World) (b : BinaryAsked) (d : Option Bool) → Within w.tables → Kept w (screened_leaf w.matches b d) (screened w b d)
screens-leaf w b d h (Leaf.matched p k v at) before after = screens-set w b d h p k v before after
screens-leaf w b d h (Leaf.platform x at) before after = refl
screens-leaf w b d h (Leaf.default at) before after = refl
screens-leaf w b d h Leaf.all before after = refl
screens-leaf w b d h Leaf.none before after = refl

pub faithful : Faithful
faithful = record {
  judges = λ w t f q g d h z s. whole-value truth w (judged_leaf w.matches q g d) (judged w q g d) (judges-leaf w q g d h) t z (vec_items f.names.items) s.names;
  screens = λ w t f b d h z s. whole-value kleene w (screened_leaf w.matches b d) (screened w b d) (screens-leaf w b d h) t z (vec_items f.names.items) s.names;
}
