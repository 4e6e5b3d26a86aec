-- What was found of a premise so far.
use Rattle.std.specs.Prelude.{Bool, if◌then◌else◌}
use Rattle.mr_watch.specs.declared.finding.Finding.{Finding}
use Rattle.mr_watch.specs.declared.finding.Finding.TheVariants.{Unseen, Holds, Broken}

-- after a look that saw the premise broken, or saw it hold, or neither: what was broken once stays broken
abbrev pub finding_after : Finding → Bool → Bool → Finding
finding_after Broken broken holds = Broken
finding_after Unseen broken holds = if broken then Broken else if holds then Holds else Unseen
finding_after Holds broken holds = if broken then Broken else Holds
