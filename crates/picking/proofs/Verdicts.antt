-- Verdicts that are read off the names one by one.
use Rattle.std.proofs.Common.{◌≡◌, ℕ, Bool, List, [], ◌∷◌, map, Decides, Bor, refl, ap}
use Rattle.glob.specs.Glob.{Matches}
use Rattle.picking.specs.declared.Verdict.{Verdict}
use Rattle.picking.specs.Picks.{Right}

-- what a verdict says
abbrev pub said : Verdict → List ℕ × Bool
said v = (v.name.now, v.picked)

module _ (answer : List ℕ → Bool) where
  abbrev pub answered : Bor (List ℕ) → List ℕ × Bool
  answered n = (n.now, answer n.now)

  first : (v : Verdict) (vs : List Verdict) (n : Bor (List ℕ)) (ns : List (Bor (List ℕ))) → map said (v ∷ vs) ≡ map answered (n ∷ ns) → (said v ≡ answered n) × (map said vs ≡ map answered ns)
  first v vs n ns e = let s : said v ≡ answered n = cc in let t : map said vs ≡ map answered ns = cc in (s, t)

  pub all-named : (vs : List Verdict) (ns : List (Bor (List ℕ))) → map said vs ≡ map answered ns → map (λ v. v.name.now) vs ≡ map (λ n. n.now) ns
  all-named [] [] e = refl
  all-named [] (n ∷ ns) e = cc
  all-named (v ∷ vs) [] e = cc
  all-named (v ∷ vs) (n ∷ ns) e = let f = first v vs n ns e in rw (ap (λ (x : List ℕ × Bool). x.0) f.0, all-named vs ns f.1) refl

  pub all-right : (glob : List ℕ) → ((n : List ℕ) → Decides (answer n) (Matches glob n)) → (vs : List Verdict) (ns : List (Bor (List ℕ))) → map said vs ≡ map answered ns → Right glob vs
  all-right glob decides [] ns e = tt
  all-right glob decides (v ∷ vs) [] e = cc
  all-right glob decides (v ∷ vs) (n ∷ ns) e =
      let f = first v vs n ns e in
      let name : v.name.now ≡ n.now = ap (λ (x : List ℕ × Bool). x.0) f.0 in
      let picked : v.picked ≡ answer n.now = ap (λ (x : List ℕ × Bool). x.1) f.0 in
      (rw (name, picked) (decides n.now), all-right glob decides vs ns f.1)
