-- Good tables have no more packages and groups than sets have numbers.
use Rattle.std.proofs.Common.{◌≡◌, ℕ, ◌≤◌, Bool, true, ◌&&◌, leb, List, map, length, Some, None, Option, arith}
use Rattle.std.specs.List.{list_all}
use Rattle.std.specs.Option.{option_map}
use Rattle.std.proofs.lemmas.List.{length-map}
use Rattle.std.proofs.lemmas.Bool.{leb-true, and_parts}
use Rattle.glob.specs.declared.place.Place.{Place}
use Rattle.compile.specs.Meaning.{GroupsWithin, Within}
use Rattle.compile.specs.Tables.{TableRows, name_at, lies_in, binary_lies_in, groups_good, good, names_in}

groups-within : (names : List ℕ) (rows : Option (List Place)) → groups_good names rows ≡ true → GroupsWithin (option_map (map (name_at names)) rows)
groups-within names None h = tt
groups-within names (Some r) h =
    let few : length r ≤ 63 = leb-true (length r) 63 (and_parts (leb (length r) 63) (list_all (lies_in names) r) h).0 in
    omega (arith, few, length-map r (name_at names))

pub within-good : (t : TableRows) → good t ≡ true → Within (names_in t)
within-good t h =
    let groups : Bool = groups_good t.names t.groups in
    let binaries : Bool = list_all (binary_lies_in t.names) t.binaries in
    let packages : Bool = list_all (lies_in t.names) t.packages in
    let many : Bool = leb (length t.binaries) 256 in
    let a = and_parts (leb (length t.packages) 64) (many && (packages && (binaries && groups))) h in
    let b = and_parts many (packages && (binaries && groups)) a.1 in
    let c = and_parts packages (binaries && groups) b.1 in
    let d = and_parts binaries groups c.1 in
    let few : length t.packages ≤ 64 = leb-true (length t.packages) 64 a.0 in
    record {
      packages = omega (arith, few, length-map t.packages (name_at t.names));
      groups = groups-within t.names t.groups d.1;
    }
