use Rattle.std.proofs.Common.{Ok, Option, sym, refl, ap, ◌∙◌, subst, arith, rules}
use Rattle.unicode_string.specs.declared.NameRead.{NameRead}
use Rattle.unicode_string.specs.Names.{name_at}
use Rattle.parsing.specs.Reading.{Called, text_at}
use Rattle.parsing.specs.View.{view, Spelt, name_only}
use Rattle.parsing.proofs.Naming.{name-far, moved-name, has_room_lem, read_all, read_some, text-state, name-empty, name-full, only-name, empty-spelt, full-spelt}
use Rattle.parsing.proofs.cursor.Cursor.parse_matcher_text.Goals as goal

pub unreachable-requires : goal.unreachable-requires
unreachable-requires c =
    let s = view c.args.self.now in
    read_some s.text s.at.pos s.at.count s.at.used (has_room_lem c.args.self.now c.requires (omega arith)) c.in_default.ensures.read

pub returns-then-read-start : goal.returns-then-read-start
unfolding text_at
returns-then-read-start c =
    let s = view c.args.self.now in
    let t = s.text in
    let p = s.at.pos in
    let sp = c.parse_string-read.new.space in
    let ok = has_room_lem c.args.self.now c.requires (omega arith) in
    let h = c.in-Some.ensures in
    let is = read_all t p s.at.count s.at.used ok c.in-Some.read h.read in
    let far = name-far t p s.at.used c.requires.within in
    let end = ap (λ (r : NameRead). r.end) is in
    let count = ap (λ (r : NameRead). r.count) is in
    let used = ap (λ (r : NameRead). r.used) is in
    let em = name-empty t p s.at.used (sym end ∙ c.if-read-start.true) in
    record {
      bytes = subst (λ (x : Option Called). Spelt t sp (Ok x)) em (empty-spelt t sp p c.requires.within);
      ran = record { state = text-state s c.in-Some.read c.or-self.result c.parse_string-read.new.reports sp _ ok is c.or-self.ensures h.reports h.space refl; result = ap (λ (x : Option Called). Ok (name_only x)) em };
      kept = search rules;
      moved = moved-name c.requires far refl refl refl end count used;
    }

pub returns : goal.returns
unfolding text_at
returns c =
    let s = view c.args.self.now in
    let t = s.text in
    let p = s.at.pos in
    let sp = c.parse_string-read.new.space in
    let ok = has_room_lem c.args.self.now c.requires (omega arith) in
    let h = c.in-Some.ensures in
    let is = read_all t p s.at.count s.at.used ok c.in-Some.read h.read in
    let far = name-far t p s.at.used c.requires.within in
    let end = ap (λ (r : NameRead). r.end) is in
    let count = ap (λ (r : NameRead). r.count) is in
    let used = ap (λ (r : NameRead). r.used) is in
    let em = name-full t p s.at.used (λ e. c.if-read-start.false (end ∙ e)) in
    record {
      bytes = subst (λ (x : Option Called). Spelt t sp (Ok x)) em (full-spelt t sp p s.at.count s.at.used c.in-Some.read c.requires.within is h.meant);
      ran = record { state = text-state s c.in-Some.read c.or-self.result c.parse_string-read.new.reports sp _ ok is c.or-self.ensures h.reports h.space refl; result = ap Ok (ap (λ (r : NameRead). r.name) is ∙ only-name t (name_at t p s.at.used).out (name_at t p s.at.used).name) ∙ ap (λ (x : Option Called). Ok (name_only x)) em };
      kept = search rules;
      moved = moved-name c.requires far refl refl refl end count used;
    }
