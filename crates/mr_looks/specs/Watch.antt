-- What is written of a watch.
use Rattle.std.specs.Prelude.{◌≡◌, ◌≤◌, ◌-◌, ◌^◌, ⊤, ℕ, ◌⊎◌, Bool, true, false, List, [], ◌∷◌, ◌++◌, length, Result, Ok, Err}
use Rattle.mr_configs.specs.Config.{ConfigView}
use Rattle.mr_phases.specs.Schedule.{Hop}
use Rattle.mr_words.specs.declared.printing.PrintFault.{PrintFault}
use Rattle.mr_words.specs.declared.printing.PrintFault.TheVariants.{Memory, Write}
use Rattle.mr_text.specs.Sink.{SinkView, HasWritten, IsOneWrite}
use Rattle.mr_text.specs.declared.error.WriteFault.{WriteFault}
use Rattle.mr_watch.specs.Findings.{all_unseen}
use Rattle.mr_watch.specs.Judging.{are_last, findings_after}
use Rattle.mr_watch.specs.declared.finding.Findings.{Findings}
use Rattle.mr_watch.specs.declared.view.View.{View}
use Rattle.mr_looks.specs.Looking.{HasLookedAt, NodeNamed, all_named, nodes_of_pools}
use Rattle.mr_looks.specs.Posts.{AreUnasked, addresses_of, addresses_of_unreached, all_shown, earlier_proxies, proxies_now, unreached_addresses}
use Rattle.mr_looks.specs.WatchText.{is_sound, last_lines, shown}
use Rattle.mr_looks.specs.declared.last_lines.Unreached.{Unreached}
use Rattle.mr_looks.specs.declared.looking.Seen.{Seen}
use Rattle.mr_looks.specs.declared.manner.Manner.{Manner}
use Rattle.mr_looks.specs.declared.posts.Post.{Post}
use Rattle.mr_looks.specs.declared.watching.Found.{Found}

-- the one call that hands over a text failed
abbrev pub FailsToWrite : List ℕ → SinkView → SinkView → Type 0
FailsToWrite text old new = (fault : WriteFault) × IsOneWrite text old (Err fault) new

-- the text went out, or the one call that hands it over failed
abbrev pub WritesAll : List ℕ → SinkView → Result (Unit {0}) PrintFault → SinkView → Type 0
WritesAll text old (Ok _) new = HasWritten text old new
WritesAll text old (Err Write) new = FailsToWrite text old new
WritesAll text old (Err Memory) new = new ≡ old

-- the looks of a watch, the last one first
abbrev pub Looks : Type 0
Looks = List View

-- what was found of the premises by these looks
abbrev pub found_by : Looks → Findings
found_by [] = all_unseen
found_by (view ∷ earlier) = view.findings

-- there was no look yet
abbrev pub is_first : Looks → Bool
is_first [] = true
is_first (view ∷ earlier) = false

-- The fleet that is watched: the schedule and the nodes of its configuration, the digest of that, and where services are to tell
-- their metrics.
pub record Fleet : Type 0 where
  pub hops : List Hop
  pub nodes : List NodeNamed
  pub digest : List ℕ
  pub addresses : List (List ℕ)

-- the fleet of a configuration
abbrev pub fleet_of : ConfigView → List ℕ → List (List ℕ) → Fleet
fleet_of config digest addresses =
    record { hops = config.schedule; nodes = nodes_of_pools config.routing.pools; digest = digest; addresses = addresses }

-- what a look saw of the nodes, and when, and the services as it left them
pub record Sight : Type 0 where
  pub seen : Seen
  pub posts : List Post

-- a sight of these two
abbrev pub sight : Seen → List Post → Sight
sight seen posts = record { seen = seen; posts = posts }

-- the fleet that it looked at, by this schedule and this digest
abbrev pub fleet_seen : List Hop → List ℕ → Sight → Fleet
fleet_seen hops digest sight =
    record { hops = hops; nodes = all_named sight.seen.nodes.items; digest = digest; addresses = addresses_of sight.posts }

-- A look, the first one or not, and the services as it left them. It shows the schedule of the configuration and all of its nodes,
-- and as proxies all services but those that told last that they are nodes, at the first look beside none of a look before. It
-- finds of the premises what it says of them: after what was found before, beside those of the look before, and by the digest of the
-- configuration.
pub record IsLook (fleet : Fleet) (first : Bool) (before : Findings) (posts : List Post) (view : View) : Type 0 where
  pub schedule : view.schedule ≡ fleet.hops
  pub expected : view.expected.now ≡ fleet.digest
  pub nodes : all_named view.look.nodes.now ≡ fleet.nodes
  pub named : addresses_of posts ≡ fleet.addresses
  pub proxies : all_shown view.look.proxies.now ≡ proxies_now posts
  pub earlier : all_shown view.earlier.now ≡ earlier_proxies first posts
  pub findings : view.findings ≡ findings_after before view.earlier.now view.look fleet.digest fleet.hops

-- Looks, the last one first, and the services as it left them. None of these was asked before the first one, and each look asks them
-- as the one before left them.
abbrev pub AreLooks : Fleet → Looks → List Post → Type 0
AreLooks fleet [] posts = AreUnasked posts
AreLooks fleet (view ∷ earlier) posts = (before : List Post) × AreLooks fleet earlier before × HasLookedAt before view.look.nodes.now posts
    × IsLook fleet (is_first earlier) (found_by earlier) posts view

-- the last one found that all proxies are in the last phase
abbrev pub has_migrated : List Hop → Looks → Bool
has_migrated hops [] = false
has_migrated hops (view ∷ earlier) = are_last hops view.look.proxies.now

-- none of them found that
abbrev pub NeverMigrated : List Hop → Looks → Type 0
NeverMigrated hops [] = ⊤
NeverMigrated hops (view ∷ earlier) = (are_last hops view.look.proxies.now ≡ false) × NeverMigrated hops earlier

-- all but the last one
abbrev pub before_last : Looks → Looks
before_last [] = []
before_last (view ∷ earlier) = earlier

-- the most looks of a watch
abbrev pub most_looks : ℕ
most_looks = 2 ^ 64 - 1

-- what is shown of them, one behind the other
abbrev pub all_texts : Manner → Looks → List ℕ
all_texts manner [] = []
all_texts manner (view ∷ earlier) = all_texts manner earlier ++ shown manner (is_first earlier) (found_by earlier) view

-- a look shows the nodes as they were seen, and when
pub record ShowsSeen (seen : Seen) (view : View) : Type 0 where
  pub nodes : view.look.nodes.now ≡ seen.nodes.items
  pub began : view.look.began ≡ seen.began
  pub ended : view.look.ended ≡ seen.ended
  pub second : view.at ≡ seen.second
  pub moment : view.moment ≡ seen.moment

-- what one more look writes that saw this, after these findings
pub record WritesView (manner : Manner) (fleet : Fleet) (first : Bool) (before : Findings) (sight : Sight) (old : SinkView) (found : Found) (new : SinkView)
    : Type 0 where
  pub view : View
  pub is_look : IsLook fleet first before sight.posts view
  pub shows : ShowsSeen sight.seen view
  pub findings : found.findings ≡ view.findings
  pub migrated : found.migrated ≡ are_last fleet.hops view.look.proxies.now
  pub writes : HasWritten (shown manner first before view) old new

-- what comes of one more look: it is written, or memory was refused before, or its one write failed
abbrev pub WritesLook : Manner → Fleet → Bool → Findings → Sight → SinkView → Result Found PrintFault → SinkView → Type 0
WritesLook manner fleet first before sight old (Ok found) new = WritesView manner fleet first before sight old found new
WritesLook manner fleet first before sight old (Err Write) new = (text : List ℕ) × FailsToWrite text old new
WritesLook manner fleet first before sight old (Err Memory) new = new ≡ old

-- Looks were written, in this manner, and left the services so. There is no second one where there is to be one alone, and none behind
-- one that found all proxies in the last phase.
pub record HasShown (manner : Manner) (once : Bool) (fleet : Fleet) (looks : Looks) (posts : List Post) (old new : SinkView) : Type 0 where
  pub are_looks : AreLooks fleet looks posts
  pub alone : once ≡ true → length looks ≤ 1
  pub waits : NeverMigrated fleet.hops (before_last looks)
  pub writes : HasWritten (all_texts manner looks) old new

-- No more looks follow: there was one, and either there was to be one alone, or the last one found all proxies in the last phase, or
-- there were as many as there may be.
pub record AreOver (once : Bool) (fleet : Fleet) (looks : Looks) : Type 0 where
  pub looked : 1 ≤ length looks
  pub over : once ≡ false → (has_migrated fleet.hops looks ≡ true) ⊎ (length looks ≡ most_looks)

-- all looks were written, and left the services so, and these are the findings
pub record HasLooked (manner : Manner) (once : Bool) (fleet : Fleet) (posts : List Post) (old : SinkView) (findings : Findings) (new : SinkView) : Type 0 where
  pub looks : Looks
  pub shown : HasShown manner once fleet looks posts old new
  pub over : AreOver once fleet looks
  pub are_found : findings ≡ found_by looks

-- looks were written, and stay, and then one call that was to write a text failed
pub record StopsBehind (manner : Manner) (once : Bool) (fleet : Fleet) (old new : SinkView) : Type 0 where
  pub looks : Looks
  pub posts : List Post
  pub between : SinkView
  pub shown : HasShown manner once fleet looks posts old between
  pub text : List ℕ
  pub fails : FailsToWrite text between new

-- looks were written, and then memory was refused
pub record LacksMemoryBehind (manner : Manner) (once : Bool) (fleet : Fleet) (old new : SinkView) : Type 0 where
  pub looks : Looks
  pub posts : List Post
  pub shown : HasShown manner once fleet looks posts old new

-- what comes of all looks, which leave the services so
abbrev pub WritesLooks : Manner → Bool → Fleet → List Post → SinkView → Result Findings PrintFault → SinkView → Type 0
WritesLooks manner once fleet posts old (Ok findings) new = HasLooked manner once fleet posts old findings new
WritesLooks manner once fleet posts old (Err Write) new = StopsBehind manner once fleet old new
WritesLooks manner once fleet posts old (Err Memory) new = LacksMemoryBehind manner once fleet old new

-- the last lines went out, of these findings and of those services that were never reached, and it is said whether there are none
pub record HasEnded (manner : Manner) (posts : List Post) (findings : Findings) (old : SinkView) (sound : Bool) (new : SinkView) : Type 0 where
  pub unreached : List Unreached
  pub are_unreached : addresses_of_unreached unreached ≡ unreached_addresses posts
  pub writes : HasWritten (last_lines manner findings unreached) old new
  pub sound_is : sound ≡ is_sound findings unreached

-- what comes of the last lines
abbrev pub EndsWatch : Manner → List Post → Findings → SinkView → Result Bool PrintFault → SinkView → Type 0
EndsWatch manner posts findings old (Ok sound) new = HasEnded manner posts findings old sound new
EndsWatch manner posts findings old (Err Write) new = (text : List ℕ) × FailsToWrite text old new
EndsWatch manner posts findings old (Err Memory) new = new ≡ old

-- Looks were written until no more follow, and then the last lines, in this manner, and it is said whether nothing wrong was seen: no
-- premise broken, and each service reached. A service was never reached that told nothing at any look.
pub record HasWatched (manner : Manner) (once : Bool) (fleet : Fleet) (old : SinkView) (sound : Bool) (new : SinkView) : Type 0 where
  pub looks : Looks
  pub posts : List Post
  pub are_looks : AreLooks fleet looks posts
  pub alone : once ≡ true → length looks ≤ 1
  pub waits : NeverMigrated fleet.hops (before_last looks)
  pub over : AreOver once fleet looks
  pub unreached : List Unreached
  pub are_unreached : addresses_of_unreached unreached ≡ unreached_addresses posts
  pub writes : HasWritten (all_texts manner looks ++ last_lines manner (found_by looks) unreached) old new
  pub sound_is : sound ≡ is_sound (found_by looks) unreached

-- what comes of a watch of this fleet, in this manner
abbrev pub WatchesConfig : Manner → Bool → Fleet → SinkView → Result Bool PrintFault → SinkView → Type 0
WatchesConfig manner once fleet old (Ok sound) new = HasWatched manner once fleet old sound new
WatchesConfig manner once fleet old (Err Write) new = StopsBehind manner once fleet old new
WatchesConfig manner once fleet old (Err Memory) new = LacksMemoryBehind manner once fleet old new
