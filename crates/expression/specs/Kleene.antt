-- Kleene's strong three-valued logic: Some b is decided, None is not.
use Rattle.std.specs.Prelude.{◌≡◌, Bool, true, false, Some, None, Option}
use Rattle.expression.specs.Logic.{Ops}

-- the table of and
abbrev pub kleene_and : Option Bool → Option Bool → Option Bool
kleene_and (Some true) (Some true) = Some true
kleene_and (Some true) (Some false) = Some false
kleene_and (Some true) None = None
kleene_and (Some false) (Some true) = Some false
kleene_and (Some false) (Some false) = Some false
kleene_and (Some false) None = Some false
kleene_and None (Some true) = None
kleene_and None (Some false) = Some false
kleene_and None None = None

-- the table of or
abbrev pub kleene_or : Option Bool → Option Bool → Option Bool
kleene_or (Some true) (Some true) = Some true
kleene_or (Some true) (Some false) = Some true
kleene_or (Some true) None = Some true
kleene_or (Some false) (Some true) = Some true
kleene_or (Some false) (Some false) = Some false
kleene_or (Some false) None = None
kleene_or None (Some true) = Some true
kleene_or None (Some false) = None
kleene_or None None = None

-- the table of not
abbrev pub kleene_not : Option Bool → Option Bool
kleene_not (Some true) = Some false
kleene_not (Some false) = Some true
kleene_not None = None

-- the three-valued logic
abbrev pub kleene : Ops (Option Bool)
kleene = record { top = Some true; bottom = Some false; both = kleene_and; either = kleene_or; negated = kleene_not }

-- a decided value fits its truth value alone, an undecided one both
abbrev pub Allows : Option Bool → Bool → Type 0
Allows (Some b) p = b ≡ p
Allows None p = Unit {0}
