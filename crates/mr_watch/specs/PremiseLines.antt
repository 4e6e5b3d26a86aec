-- The lines of premises.
use Rattle.std.specs.Prelude.{ℕ, zero, suc, ◌+◌, ◌-◌, ◌/◌, ◌%◌, ◌^◌, ◌==◌, min, nat_lt, Bool, List, [], ◌∷◌, ◌++◌, length, filter, Option, Some, None, if◌then◌else◌, codes, decimal}
use Rattle.mr_phases.specs.Schedule.{Hop, least_interval, start_at}
use Rattle.mr_watch.specs.Nodes.{counted, pool_of}
use Rattle.mr_watch.specs.Premises.{are_before, tells_other, went_back}
use Rattle.mr_watch.specs.Shown.{cut, short, coloured}
use Rattle.mr_watch.specs.Spread.{all_ahead, spread_in}
use Rattle.mr_watch.specs.declared.finding.Finding.{Finding}
use Rattle.mr_watch.specs.declared.finding.Finding.TheVariants.{Unseen, Holds, Broken}
use Rattle.mr_watch.specs.declared.look.NodeSeen.{NodeSeen}
use Rattle.mr_watch.specs.declared.look.ProxySeen.{ProxySeen}
use Rattle.mr_watch.specs.declared.nodes.PoolSeen.{PoolSeen}
use Rattle.mr_watch.specs.declared.shown.Colour.{Colour}
use Rattle.mr_watch.specs.declared.shown.Colour.TheVariants.{Green, Red, Yellow}
use Rattle.mr_watch.specs.declared.spread.Spread.{Spread}
use Rattle.mr_watch.specs.declared.view.View.{View}

-- the word of each finding
abbrev pub finding_text : Finding → List ℕ
finding_text Unseen = codes "unseen"
finding_text Holds = codes "holds"
finding_text Broken = codes "broken"

-- the colour of each finding
abbrev pub finding_colour : Finding → Colour
finding_colour Unseen = Yellow
finding_colour Holds = Green
finding_colour Broken = Red

-- the name of a premise, and what was found of it
abbrev pub found_text : Bool → List ℕ → Finding → List ℕ
found_text colours name finding = name ++ coloured colours (finding_colour finding) (finding_text finding)

-- how many more there are
abbrev pub more_text : ℕ → List ℕ
more_text zero = []
more_text (suc count) = codes " and " ++ (short (suc count) ++ codes " more")

-- the first of these proxies, what is said of it, and how many more there are
abbrev pub named_text : List ℕ → List ProxySeen → List ℕ
named_text said [] = []
named_text said (proxy ∷ proxies) = codes ", " ++ (cut 24 proxy.address.now ++ (said ++ more_text (length proxies)))

-- milliseconds as seconds with one decimal, the rest left out; from a million seconds on in short
abbrev pub seconds_text : ℕ → List ℕ
seconds_text milliseconds =
    if nat_lt milliseconds (10 ^ 9) then decimal (milliseconds / 1000) ++ (codes "." ++ decimal (milliseconds % 1000 / 100))
    else short (min (milliseconds / 1000) (2 ^ 64 - 1))

-- what is less than a decimal counts as a whole one
abbrev pub rounded_up : ℕ → ℕ
rounded_up milliseconds = min (milliseconds + 99) (2 ^ 128 - 1)

-- how far the clocks are apart, and may be
abbrev pub apart_text : Spread → ℕ → List ℕ
apart_text spread interval =
    codes ", " ++ (seconds_text spread.at_least ++ (codes " to " ++ (seconds_text (rounded_up spread.at_most) ++ (codes " s apart, " ++
    (short interval ++ codes " s allowed")))))

-- how far the clocks are apart, if any told what it says
abbrev pub spread_text : Option Spread → ℕ → List ℕ
spread_text None interval = []
spread_text (Some spread) interval = apart_text spread interval

-- the pool found before, or else this one where it is the one
abbrev pub or_pool : Option ℕ → Bool → ℕ → Option ℕ
or_pool None here pool = if here then Some pool else None
or_pool (Some first) here pool = Some first

-- the new pool of the first of so many hops that hasn't begun, by each proxy that answered
abbrev pub upcoming : List Hop → List ProxySeen → ℕ → Option ℕ
upcoming hops proxies zero = None
upcoming hops proxies (suc hop) = or_pool (upcoming hops proxies hop) (are_before (start_at hops hop) proxies) (hop + 1)

-- the new pool of the first hop that hasn't begun, by each proxy that answered
abbrev pub upcoming_pool : List Hop → List ProxySeen → Option ℕ
upcoming_pool hops proxies = upcoming hops proxies (length hops)

-- how many of its nodes told what they hold
abbrev pub seen_text : PoolSeen → List ℕ
seen_text sums = codes ": " ++ (short sums.seen ++ (codes " of " ++ (counted sums.nodes (codes " node") ++ codes " seen, ")))

-- what a pool holds: all of its nodes told that, or only these did
abbrev pub holds_text : PoolSeen → List ℕ
holds_text sums = (if sums.seen == sums.nodes then codes " holds " else seen_text sums) ++ counted sums.items (codes " item")

-- what that pool holds
abbrev pub pool_text : Option ℕ → List NodeSeen → List ℕ
pool_text None nodes = []
pool_text (Some pool) nodes = codes ", pool " ++ (decimal pool ++ holds_text (pool_of pool nodes))

-- a premise of which some proxies tell something
abbrev pub named_line : Bool → List ℕ → Finding → List ℕ → List ProxySeen → List ℕ
named_line colours name finding said proxies = found_text colours name finding ++ (named_text said proxies ++ codes "\n")

-- the line of one configuration: the proxies that tell another digest
abbrev pub same_line : Bool → View → List ℕ
same_line colours view =
    named_line colours (codes "same configuration  ") view.findings.same (codes " differs")
    (filter (tells_other view.expected.now) view.look.proxies.now)

-- a premise, and what a pool holds
abbrev pub pool_line : Bool → List ℕ → Finding → Option ℕ → List NodeSeen → List ℕ
pool_line colours name finding pool nodes = found_text colours name finding ++ (pool_text pool nodes ++ codes "\n")

-- the line of an empty new pool: what the next one to be moved to holds
abbrev pub empty_line : Bool → View → List ℕ
empty_line colours view =
    pool_line colours (codes "new pool empty      ") view.findings.empty (upcoming_pool view.schedule view.look.proxies.now) view.look.nodes.now

-- a premise, and how far clocks are apart
abbrev pub spread_line : Bool → List ℕ → Finding → Option Spread → ℕ → List ℕ
spread_line colours name finding spread interval = found_text colours name finding ++ (spread_text spread interval ++ codes "\n")

-- the line of clocks that are near: how far they are apart
abbrev pub near_line : Bool → View → List ℕ
near_line colours view =
    spread_line colours (codes "clocks near         ") view.findings.near (spread_in (all_ahead view.look.proxies.now)) (least_interval view.schedule)

-- the line of clocks that don't go back: the proxies whose clock went back
abbrev pub forward_line : Bool → View → List ℕ
forward_line colours view =
    named_line colours (codes "no clock went back  ") view.findings.forward (codes " went back")
    (filter (went_back view.earlier.now) view.look.proxies.now)

-- all four
unfoldable pub premises_text : Bool → View → List ℕ
premises_text colours view = same_line colours view ++ (empty_line colours view ++ (near_line colours view ++ forward_line colours view))
