-- A look as JSON.
use Rattle.std.specs.Prelude.{ℕ, ◌-◌, ◌^◌, min, true, false, List, map, Option, Some, None, codes}
use Rattle.serde_json.specs.Data.{Data, null, boolean, number, unsigned, string, array, object, Members, no_members, put}
use Rattle.serde_json.specs.View.{items_of}
use Rattle.std.specs.Borrow.{Bor}
use Rattle.std.specs.Prelude.{[], ◌∷◌}
use Rattle.mr_phases.specs.PhaseText.{phase_text}
use Rattle.mr_watch.specs.Next.{next_of}
use Rattle.mr_watch.specs.PremiseLines.{finding_text}
use Rattle.mr_watch.specs.Rate.{rate_of}
use Rattle.mr_watch.specs.Shown.{printable}
use Rattle.mr_watch.specs.Spread.{all_ahead, spread_in}
use Rattle.mr_watch.specs.declared.finding.Findings.{Findings}
use Rattle.mr_watch.specs.declared.json.Part.{Part}
use Rattle.mr_watch.specs.declared.json.Part.TheVariants as part
use Rattle.mr_watch.specs.declared.look.NodeSeen.{NodeSeen}
use Rattle.mr_watch.specs.declared.look.ProxySeen.{ProxySeen}
use Rattle.mr_watch.specs.declared.next.Next.{Next}
use Rattle.mr_watch.specs.declared.spread.Spread.{Spread}
use Rattle.mr_watch.specs.declared.told.ProxyTold.{ProxyTold}
use Rattle.mr_watch.specs.declared.view.View.{View}

-- a whole number
abbrev pub number_json : ℕ → Data
number_json n = number (unsigned n)

-- null where there is none
abbrev pub perhaps_json : Option ℕ → Data
perhaps_json None = null
perhaps_json (Some n) = number_json n

-- the value of a plain part
abbrev pub part_json : Part → Data
part_json (part.Text text) = string text.now
part_json (part.Bytes bytes) = string (printable bytes.now)
part_json (part.Count count) = number_json count
part_json (part.Perhaps count) = perhaps_json count
part_json (part.Flag flag) = boolean flag

-- these members beside those that are there
abbrev pub members_json : List (Bor (List ℕ) × Part) → Members → Members
members_json [] before = before
members_json (m ∷ ms) before = members_json ms (put m.0.now (part_json m.1) before)

-- a name with its value, beside those before
abbrev pub with_text : List ℕ → List ℕ → Members → Members
with_text name text before = put name (string text) before

-- a name with a number, beside those before
abbrev pub with_count : List ℕ → ℕ → Members → Members
with_count name count before = put name (number_json count) before

-- a name with a number or null, beside those before
abbrev pub with_perhaps : List ℕ → Option ℕ → Members → Members
with_perhaps name count before = put name (perhaps_json count) before

-- what is known of a proxy that wasn't reached
unfoldable pub unreached_json : List ℕ → Data
unreached_json address = object (put (codes "reached") (boolean false) (with_text (codes "address") address no_members))

-- what is known of one that was
unfoldable pub reached_json : List ℕ → Option ℕ → ProxyTold → Data
reached_json address rate told = object
    (with_perhaps (codes "requests_per_second") rate
    (put (codes "reached") (boolean true)
    (with_text (codes "phase") (phase_text told.place.phase)
    (with_count (codes "lost") told.traffic.lost
    (with_count (codes "hop") told.place.hop
    (with_count (codes "hits") told.traffic.hits
    (with_perhaps (codes "held_back") told.traffic.held_back
    (with_text (codes "digest") (printable told.digest.now)
    (with_perhaps (codes "clock") told.clock
    (with_text (codes "address") address no_members))))))))))

-- a proxy by what it told, if it did
abbrev pub told_json : List ℕ → Option ℕ → Option ProxyTold → Data
told_json address rate None = unreached_json address
told_json address rate (Some told) = reached_json address rate told

-- a proxy, beside the look before
abbrev pub proxy_json : List ProxySeen → ProxySeen → Data
proxy_json earlier proxy = told_json proxy.address.now (rate_of earlier proxy) proxy.told

-- a node
unfoldable pub node_json : NodeSeen → Data
node_json node = object
    (with_count (codes "pool") node.pool
    (with_text (codes "name") node.name.now
    (with_perhaps (codes "items") node.items
    (with_perhaps (codes "hits") node.hits no_members))))

-- what is found of each premise
unfoldable pub premises_json : Findings → Data
premises_json findings = object
    (with_text (codes "same") (finding_text findings.same)
    (with_text (codes "near") (finding_text findings.near)
    (with_text (codes "forward") (finding_text findings.forward)
    (with_text (codes "empty") (finding_text findings.empty) no_members))))

-- the phase that is next, and in how many seconds
unfoldable pub next_at_json : Next → Data
next_at_json next = object
    (with_count (codes "seconds") next.seconds
    (with_text (codes "phase") (phase_text next.phase)
    (with_count (codes "hop") next.hop no_members)))

-- the phase that is next; null where none follows
abbrev pub next_json : Option Next → Data
next_json None = null
next_json (Some next) = next_at_json next

-- as far as 64 bits count
abbrev pub capped : ℕ → ℕ
capped milliseconds = min milliseconds (2 ^ 64 - 1)

-- how far the clocks are apart at least and at most
unfoldable pub apart_json : Spread → Data
apart_json spread = object
    (with_count (codes "at_most") (capped spread.at_most)
    (with_count (codes "at_least") (capped spread.at_least) no_members))

-- how far the clocks are apart, in milliseconds; null where no proxy told what its clock said
abbrev pub spread_json : Option Spread → Data
spread_json None = null
spread_json (Some spread) = apart_json spread

-- the proxies, in order
abbrev pub proxies_json : List ProxySeen → List ProxySeen → Data
proxies_json earlier proxies = array (items_of (map (proxy_json earlier) proxies))

-- the nodes, in order
abbrev pub nodes_json : List NodeSeen → Data
nodes_json nodes = array (items_of (map node_json nodes))

-- the look
unfoldable pub look_json : View → Data
look_json view = object
    (put (codes "spread") (spread_json (spread_in (all_ahead view.look.proxies.now)))
    (put (codes "proxies") (proxies_json view.earlier.now view.look.proxies.now)
    (put (codes "premises") (premises_json view.findings)
    (put (codes "nodes") (nodes_json view.look.nodes.now)
    (put (codes "next") (next_json (next_of view.schedule view.at))
    (with_count (codes "at") view.at no_members))))))
