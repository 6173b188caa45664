-- Bounds that the readers keep.
use Rattle.std.proofs.Common.{◌≡◌, ℕ, ◌+◌, ◌*◌, ◌≤◌, length, vec_len, vec_capacity, Vec, ap, ◌∙◌, arith, MutBor}
use Rattle.std.specs.declared.alloc.Global.{Global}
use Rattle.parsing.specs.declared.nodes.ParsedNode.{ParsedNode}
use Rattle.parsing.specs.declared.cursor.Cursor.{Cursor}
use Rattle.parsing.specs.View.{Sound, Moved, Kept}

pub sound-on : {k a b m j l n : ℕ} {c d : Cursor} → Sound k a c → Moved b m j c d → a + m ≤ n + 8 * b → l + j ≤ k → Sound l n d
sound-on {k} {a} {b} {m} {j} {l} {n} {c} {d} s v h g =
    let t : length d.text.now ≡ length c.text.now = ap length v.text in
    record {
      short = omega (arith, s.short, t);
      within = omega (arith, v.within, t);
      room = omega (arith, s.room, v.cap);
      spared = omega (arith, s.spared, v.made);
      crowd = v.crowd;
      few = omega (arith, s.few, v.few);
      space = omega (arith, s.space, v.space);
    }

pub moved_then : {b m j b' m' j' : ℕ} {c d e : Cursor} → Moved b m j c d → Moved b' m' j' d e → Moved (b + b') (m + m') (j + j') c e
moved_then {b} {m} {j} {b'} {m'} {j'} {c} {d} {e} v w =
    let t : length d.text.now ≡ length c.text.now = ap length v.text in
    record {
      text = w.text ∙ v.text;
      on = omega (arith, v.on, w.on);
      within = omega (arith, w.within, t);
      cap = w.cap ∙ v.cap;
      made = omega (arith, v.made, w.made);
      crowd = w.crowd;
      few = omega (arith, v.few, w.few);
      space = omega (arith, v.space, w.space);
    }

pub moved-less : {b m j b' m' j' : ℕ} {c d : Cursor} → Moved b m j c d → b' ≤ b → m + 8 * b' ≤ m' + 8 * b → j ≤ j' → Moved b' m' j' c d
moved-less {b} {m} {j} {b'} {m'} {j'} {c} {d} v p q r = record {
  text = v.text;
  on = omega (arith, v.on);
  within = v.within;
  cap = v.cap;
  made = omega (arith, v.made);
  crowd = v.crowd;
  few = omega (arith, v.few);
  space = v.space;
}

pub kept_then : {c d e : Cursor} → Kept c d → Kept d e → Kept c e
kept_then v w = record { text = w.text ∙ v.text; nodes = w.nodes ∙ v.nodes }

-- only the place goes on
pub moved_to : {k a : ℕ} {c d : Cursor} (b : ℕ) → Sound k a c → d ≡ record { text = c.text; pos = d.pos; parts = c.parts; count = c.count; first = c.first; table = c.table; used = c.used; space = c.space; nodes = c.nodes } → c.pos + b ≤ d.pos → d.pos ≤ length c.text.now → Moved b 0 0 c d
moved_to {k} {a} {c} {d} b s e h w =
    let u : d.used ≡ c.used = ap (λ (x : Cursor). x.used) e in
    let p : d.parts ≡ c.parts = ap (λ (x : Cursor). x.parts) e in
    let n : d.count ≡ c.count = ap (λ (x : Cursor). x.count) e in
    let v : vec_len d.nodes.now ≡ vec_len c.nodes.now = ap (λ (x : Cursor). vec_len x.nodes.now) e in
    record {
      text = ap (λ (x : Cursor). x.text.now) e;
      on = h;
      within = w;
      cap = ap (λ (x : Cursor). vec_capacity x.nodes.now) e;
      made = omega (arith, v, p);
      crowd = omega (arith, p, s.crowd);
      few = omega (arith, n, h);
      space = omega (arith, u, h);
    }

-- one turn of a chain: a sign, an operand, and the node that joins it
pub moved-turn : {s m a b d : Cursor} → Moved 0 0 0 s m → Moved 1 1 0 m a → Kept m a → a.parts ≡ m.parts + 1 → Moved 0 1 0 a b → d.text.now ≡ b.text.now → d.pos ≡ b.pos → d.parts ≡ b.parts → d.count ≡ b.count →
    d.used ≡ b.used → vec_len d.nodes.now ≡ vec_len b.nodes.now + 1 → vec_capacity d.nodes.now ≡ vec_capacity b.nodes.now → Moved 0 0 0 s d
moved-turn {s} {m} {a} {b} {d} u v k p w text pos parts count used len cap =
    let n : vec_len a.nodes.now ≡ vec_len m.nodes.now = ap (λ (r : MutBor (Vec ParsedNode Global)). vec_len r.now) k.nodes in
    let tm : length m.text.now ≡ length s.text.now = ap length u.text in
    let ta : length a.text.now ≡ length m.text.now = ap length v.text in
    record {
      text = text ∙ w.text ∙ v.text ∙ u.text;
      on = omega (arith, u.on, v.on, w.on, pos);
      within = omega (arith, w.within, pos, tm, ta);
      cap = cap ∙ w.cap ∙ v.cap ∙ u.cap;
      made = omega (arith, u.made, w.made, n, len, parts, p);
      crowd = omega (arith, w.crowd, parts);
      few = omega (arith, u.few, v.few, w.few, pos, count);
      space = omega (arith, u.space, v.space, w.space, pos, used);
    }
