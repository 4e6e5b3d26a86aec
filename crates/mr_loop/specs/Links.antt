-- The links to the nodes, and the legs that go over them.
use Rattle.std.specs.Prelude.{ℕ, ◌+◌, ◌==◌, Bool, true, false, ◌&&◌, List, [], ◌∷◌, ◌++◌, length, take, sum_by, nat_lt, Option, Some, None, slice_get, slice_set, if◌then◌else◌}
use Rattle.mr_text.specs.Stream.{ReaderView}
use Rattle.mr_pools.specs.Routing.{RoutingView, pool_of, place_of}
use Rattle.mr_proxy.specs.Sheets.{pool_at}
use Rattle.mr_proxy.specs.declared.sheet.LegSheet.{LegSheet}
use Rattle.mr_node.specs.declared.command.NodeCommand.{NodeCommand}
use Rattle.mr_node.specs.declared.command.NodeCommand.TheVariants.{Get, Set, Delete}
use Rattle.mr_proxy.specs.NodeRequests.{text_with}
use Rattle.mr_loop.specs.declared.asker.Asker.{Asker}
use Rattle.mr_loop.specs.declared.link.Link.{Link}
use Rattle.mr_loop.specs.declared.link_counts.LinkCounts.{LinkCounts}
use Rattle.mr_loop.specs.declared.sent_legs.SentLeg.{SentLeg}
use Rattle.mr_loop.specs.Counts.{leg_unsent}

-- how many nodes the pools before the pool of a number have
abbrev pub nodes_before : List (List (List ℕ)) → ℕ → ℕ
nodes_before pools number = sum_by length (take number pools)

-- the number of the link to a node: the nodes are counted pool by pool
abbrev pub link_to : RoutingView → ℕ → ℕ → ℕ
link_to routing pool node = nodes_before routing.pools pool + node

-- the number of the link to the node that keeps a key in a pool
abbrev pub link_of_key : RoutingView → ℕ → List ℕ → ℕ
link_of_key routing pool key = link_to routing pool (place_of routing.hash (pool_of routing pool) key)

-- the number of the link that a leg goes over
abbrev pub link_of : RoutingView → LegSheet → ℕ
link_of routing sheet = link_to routing (pool_at sheet) sheet.node

-- a reader to which nothing came
abbrev pub fresh_reader : ReaderView
fresh_reader = record { kept = []; begun = 0; ended = false; closed = false }

-- no connection, and nothing of an earlier one but its counts
abbrev pub down_link : LinkCounts → Link
down_link counts = record { is_up = false; reader = fresh_reader; legs = []; out = []; counts = counts }

-- a new connection
abbrev pub up_link : LinkCounts → Link
up_link counts = record { is_up = true; reader = fresh_reader; legs = []; out = []; counts = counts }

-- a leg of a client's request, which goes at this time, by itself
abbrev pub sent_by : Asker → LegSheet → SentLeg
sent_by asker sheet = record { client = asker.client; sent_at = asker.now; leg = sheet; others = [] }

-- a leg, and those that travel with it
abbrev pub legs_of : SentLeg → List LegSheet
legs_of sent = sent.leg ∷ sent.others

-- the command is a get
abbrev pub is_get : NodeCommand → Bool
is_get (Get key) = true
is_get (Set key flags exptime block) = false
is_get (Delete key) = false

-- both are gets of one node
abbrev pub travels_with : LegSheet → LegSheet → Bool
travels_with sheet leg = is_get sheet.command && is_get leg.command && (pool_at sheet == pool_at leg) && (sheet.node == leg.node)

-- a leg travels behind the first with which it may, or by itself behind all
abbrev pub with_traveller : Asker → LegSheet → List SentLeg → List SentLeg
with_traveller asker sheet [] = sent_by asker sheet ∷ []
with_traveller asker sheet (sent ∷ sents) =
    if travels_with sheet sent.leg then record sent { others = sent.others ++ sheet ∷ [] } ∷ sents
    else sent ∷ with_traveller asker sheet sents

-- so the legs travel that are left, once these do
abbrev pub travelling : Asker → List SentLeg → List LegSheet → List SentLeg
travelling asker sents [] = sents
travelling asker sents (sheet ∷ sheets) = travelling asker (with_traveller asker sheet sents) sheets

-- the request of a leg and of those that travel with it
abbrev pub text_of : SentLeg → List ℕ
text_of sent = text_with sent.leg.command sent.others

-- a leg went with others: they await their reply behind those before, and the request for them is to be written behind theirs
abbrev pub with_leg : SentLeg → Link → Link
with_leg sent link = record link { legs = link.legs ++ sent ∷ []; out = link.out ++ text_of sent }

-- a leg goes with others over their link where that is up; else they are lost
abbrev pub after_sending : SentLeg → Link → Link
after_sending sent link = if link.is_up then with_leg sent link else record link { counts = leg_unsent sent link.counts }

-- the link is there, and up
abbrev pub is_up_in : Option Link → Bool
is_up_in None = false
is_up_in (Some link) = link.is_up

-- there is a connection to the node of this number
abbrev pub is_up_at : List Link → ℕ → Bool
is_up_at links number = is_up_in (slice_get links number)

-- a leg goes over a link that is there, or is lost; with no link nothing changes
abbrev pub sent_over_in : Option Link → ℕ → SentLeg → List Link → List Link
sent_over_in None number sent links = links
sent_over_in (Some link) number sent links = slice_set links number (after_sending sent link)

-- so it is of the link of this number, if there is one
abbrev pub sent_over : ℕ → SentLeg → List Link → List Link
sent_over number sent links = sent_over_in (slice_get links number) number sent links

-- each goes over its link, in order, or is lost
abbrev pub each_sent : RoutingView → List SentLeg → List Link → List Link
each_sent routing [] links = links
each_sent routing (sent ∷ sents) links = each_sent routing sents (sent_over (link_of routing sent.leg) sent links)

-- the legs go over their links, the gets of one node in one request, or are lost
abbrev pub all_sent : Asker → RoutingView → List LegSheet → List Link → List Link
all_sent asker routing sheets links = each_sent routing (travelling asker [] sheets) links

-- each leg has a link that is up
abbrev pub all_up : RoutingView → List LegSheet → List Link → Bool
all_up routing [] links = true
all_up routing (sheet ∷ sheets) links = is_up_at links (link_of routing sheet) && all_up routing sheets links

-- fewer requests than the most await their replies over the link, or there is none
abbrev pub has_place_in : ℕ → Option Link → Bool
has_place_in most None = true
has_place_in most (Some link) = nat_lt (length link.legs) most

-- fewer requests than the bound await a reply over the link of this number
abbrev pub has_place : ℕ → List Link → ℕ → Bool
has_place most links number = has_place_in most (slice_get links number)

-- the first of the links of these legs over which as many requests as the bound await a reply, by its number; none where fewer do over each
abbrev pub first_full : ℕ → RoutingView → List LegSheet → List Link → Option ℕ
first_full most routing [] links = None
first_full most routing (sheet ∷ sheets) links =
    if has_place most links (link_of routing sheet) then first_full most routing sheets links else Some (link_of routing sheet)
