-- What the legs stand for that only contracts see.
use Rattle.std.specs.Prelude.{List, [], ◌∷◌, ◌++◌}
use Rattle.mr_proxy.specs.declared.sheet.LegSheet.{LegSheet}
use Rattle.mr_desks.specs.declared.ghost_legs.SentLegs.{SentLegs, Nothing, More'}

-- the legs, in the order in which they were sent
abbrev pub legs_of : SentLegs → List LegSheet
legs_of Nothing = []
legs_of (More' marker before leg) = legs_of before ++ leg.value ∷ []
