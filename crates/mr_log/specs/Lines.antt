-- The texts of lines.
use Rattle.std.specs.Borrow.{Bor}
use Rattle.std.specs.Prelude.{◌≡◌, ℕ, ◌==◌, if◌then◌else◌, List, [], ◌++◌, Option, None, Some, slice_get, codes, decimal}
use Rattle.mr_phases.specs.PhaseText.{phase_text}
use Rattle.mr_phases.specs.declared.phase_name.PhaseName.{PhaseName}
use Rattle.mr_log.specs.Nodes.{nodes_of}
use Rattle.mr_log.specs.Time.{IsDated}
use Rattle.mr_log.specs.declared.happening.Happening.{Happening}
use Rattle.mr_log.specs.declared.happening.Happening.TheVariants.{Listens, PhaseEntered, LinkDown, LinkUp, ClientsHeldBack, ClientsWait, NoMemory, NoDescriptors, NoClock, ClockWentBack}
use Rattle.mr_log.specs.declared.happening.Trouble.{Trouble}
use Rattle.mr_log.specs.declared.happening.Trouble.TheVariants.{Ended, Broken, Silent, BadReply, NotReached}
use Rattle.mr_log.specs.declared.line.Service.{Service}
use Rattle.mr_log.specs.declared.log.Said.{Said}

-- why a link went down
abbrev pub trouble_text : Trouble → List ℕ
trouble_text Ended = codes "it ended the connection"
trouble_text Broken = codes "the connection broke"
trouble_text Silent = codes "it was silent for too long"
trouble_text BadReply = codes "it sent what is no reply"
trouble_text NotReached = codes "it can't be reached"

-- the link to the node that has this number; where none has it, the number
abbrev pub named_link : ℕ → Option (ℕ × List ℕ) → List ℕ
named_link number None = codes "link to node " ++ decimal number
named_link number (Some (pool, name)) = codes "link to " ++ (name ++ (codes " of pool " ++ decimal pool))

-- the link to the node of a number, where the nodes are counted pool by pool
abbrev pub link_text : List (List (List ℕ)) → ℕ → List ℕ
link_text pools number = named_link number (slice_get (nodes_of pools) number)

-- the configuration of a service, if it has one
abbrev pub config_text : Option (Bor (List ℕ)) → List ℕ
config_text None = []
config_text (Some config) = codes ", configuration " ++ config.now

-- a service that listens: where, by how many loops, with which configuration if it has one, in which version
abbrev pub listens_text : Service → ℕ → List ℕ
listens_text service loops =
    codes "listens at " ++ (service.address.now
    ++ (codes ", loops " ++ (decimal loops
    ++ (config_text service.config
    ++ (codes ", version " ++ service.version.now)))))

-- the phase of a migration
abbrev pub entered_text : ℕ → PhaseName → List ℕ
entered_text hop phase = codes "the clock is in phase " ++ (phase_text phase ++ (codes " of hop " ++ decimal hop))

-- the readings between which the clock went back, in seconds since the epoch
abbrev pub back_text : ℕ → ℕ → List ℕ
back_text from to = codes "the clock went back from " ++ (decimal from ++ (codes " to " ++ decimal to))

-- how many clients are served where others wait
abbrev pub wait_text : ℕ → List ℕ
wait_text most = codes "new clients wait: " ++ (decimal most ++ codes " are served, as many as may be")

-- what happened
abbrev pub happening_text : Service → Happening → List ℕ
happening_text service (Listens loops) = listens_text service loops
happening_text service (PhaseEntered hop phase) = entered_text hop phase
happening_text service (LinkDown node why) = link_text service.pools.now node ++ (codes " is down: " ++ trouble_text why)
happening_text service (LinkUp node) = link_text service.pools.now node ++ codes " is up"
happening_text service ClientsHeldBack = codes "requests of clients are held back until there is room"
happening_text service (ClientsWait most) = wait_text most
happening_text service NoMemory = codes "memory is short"
happening_text service NoDescriptors = codes "descriptors are short"
happening_text service NoClock = codes "the clock gives no reading"
happening_text service (ClockWentBack from to) = back_text from to

-- how many more of its kind came, if any did
abbrev pub more_text : ℕ → List ℕ
more_text more = if more == 0 then [] else codes " (" ++ (decimal more ++ codes " more)")

-- a line: when it is said, what happened, and how many more of its kind came
pub record IsLine (service : Service) (at : Option ℕ) (said : Said) (line : List ℕ) : Type 0 where
  pub time : List ℕ
  pub dated : IsDated at time
  pub spelled : line ≡ time ++ (codes " " ++ (happening_text service said.happening ++ (more_text said.more ++ codes "\n")))
